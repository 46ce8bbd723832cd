use Rattle.load_writer.proofs.FormLists.{put_is}
use Rattle.load_writer.proofs.by_form.put_in.Goals as goal

pub returns : goal.returns
returns c =
    put_is (λ l. l.items) c.args.lists.now.items c.from.result c.args.form c.args.at c.index_mut.result.now c.push.new.self c.from.ensures c.requires c.index_mut.ensures.value c.in_ok-push.ensures.items
