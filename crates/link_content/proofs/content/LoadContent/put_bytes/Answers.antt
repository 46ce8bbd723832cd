use Rattle.link_content.proofs.ContentLaws.{grow_bytes}
use Rattle.link_content.proofs.content.LoadContent.put_bytes.Goals as goal

pub returns : goal.returns
returns c = grow_bytes c.append.result c.args.self.now c.append.new.self c.args.bytes.now c.append.ensures.bytes c.append.ensures.patches
