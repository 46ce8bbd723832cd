use Rattle.link_meaning.specs.laws.LayoutLaws.{offset_is_least, one_offset}
use Rattle.link_meaning.proofs.laws.offsets_are_least.Goals as goal

pub returns : goal.returns
returns c = record { least = offset_is_least; one = one_offset }
