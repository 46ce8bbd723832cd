use Rattle.std.proofs.Common.{◌≡◌, ℕ, length, map, sym, ap, subst, ◌∙◌, arith}
use Rattle.std.proofs.lemmas.List.{length-take}
use Rattle.load_writer.specs.WrittenParts.{seen}
use Rattle.load_meaning.specs.WrittenBody.{AreWritten}
use Rattle.load_writer.proofs.DataLaws.{in_front, size_is, no_data, some_data}
use Rattle.load_writer.proofs.written_data.put_data.Goals as goal

pub returns-then-size-eq0-clause-text : goal.returns-then-size-eq0-clause-text
returns-then-size-eq0-clause-text c =
    no_data c.args.own c.data_size-size.result c.args.content.now c.args.out.now.items (map seen c.args.patches.now) c.requires.patches c.data_size-size.ensures c.if-size-eq0.true

pub returns-then-size-eq0-clause-size : goal.returns-then-size-eq0-clause-size
returns-then-size-eq0-clause-size c =
    sym c.if-size-eq0.true ∙ size_is c.args.own c.data_size-size.result c.args.content.now (map seen c.args.patches.now) c.requires.patches c.data_size-size.ensures

pub put_stored-requires-clause-patches : goal.put_stored-requires-clause-patches
put_stored-requires-clause-patches c =
    let content = c.args.content.now in
    let n = c.data_size-size.result in
    let patches = map seen c.args.patches.now in
    let size : n ≡ length c.first_items.result.now = omega (arith, ap length c.first_items.ensures, length-take n content, c.data_size-size.ensures.within) in
    subst (λ (k : ℕ). AreWritten k 0 patches) size (in_front n (length content) 0 patches c.requires.patches c.data_size-size.ensures.reaches)

pub returns-clause-text : goal.returns-clause-text
returns-clause-text c =
    some_data c.args.own c.data_size-size.result c.args.content.now c.first_items.result.now c.args.out.now.items c.put_stored.new.out.items (map seen c.args.patches.now) c.requires.patches c.data_size-size.ensures
    c.if-size-eq0.false c.first_items.ensures c.in_ok-put_stored.ensures.ok

pub returns-clause-size : goal.returns-clause-size
returns-clause-size c = size_is c.args.own c.data_size-size.result c.args.content.now (map seen c.args.patches.now) c.requires.patches c.data_size-size.ensures
