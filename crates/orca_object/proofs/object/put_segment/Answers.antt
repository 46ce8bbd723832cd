use Rattle.std.proofs.Common.{◌∙◌}
use Rattle.asm_meaning.specs.Object.{object_text, segment_text}
use Rattle.orca_object.proofs.Objects.{one_after}
use Rattle.orca_operands.proofs.After.{then_ok}
use Rattle.orca_object.proofs.object.put_segment.Goals as goal

pub returns : goal.returns
returns c =
    then_ok c.join.result (λ joins segments e header shows object. joins (object_text segments) (segment_text e) object (c.in_ok-close.ensures e header shows) ∙ one_after segments e) c.join.ensures
