use Rattle.link_content.proofs.ContentLaws.{grow_bytes}
use Rattle.link_content.proofs.content.LoadContent.lend_bytes.Goals as goal

pub returns : goal.returns
returns c = grow_bytes c.append_borrowed.result c.args.self.now c.append_borrowed.new.self c.args.bytes.now c.append_borrowed.ensures.bytes c.append_borrowed.ensures.patches
