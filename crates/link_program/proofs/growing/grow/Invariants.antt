use Rattle.std.proofs.Common.{List}
use Rattle.link_meaning.specs.Member.{Input, LinkSetting}
use Rattle.link_program.specs.Grown.{MayGrow}
use Rattle.link_program.proofs.GrowLaws.{Growing, unset}
use Rattle.link_program.proofs.growing.grow.Given as goal

abbrev pub invariant-members : goal.invariant-members
invariant-members l = (setting : LinkSetting) (inputs : List Input) → MayGrow setting inputs l.files l.outside l.offers l.fn.linked → Growing setting inputs l.files l.linked l.taken.items l.cursor

abbrev pub decreases-members : goal.decreases-members
decreases-members l = unset l.taken.items
