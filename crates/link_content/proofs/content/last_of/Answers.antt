use Rattle.std.proofs.Common.{◌∙◌}
use Rattle.link_content.proofs.ContentBytes.{last_got}
use Rattle.link_content.proofs.content.last_of.Goals as goal

pub returns : goal.returns
returns c = c.copied.ensures ∙ c.last.ensures.value ∙ last_got c.args.bytes.now
