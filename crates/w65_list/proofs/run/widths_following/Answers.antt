use Rattle.std.proofs.Common.{◌∙◌, sym}
use Rattle.std.proofs.lemmas.Bool.{eqb-true}
use Rattle.std.specs.Prelude.{length}
use Rattle.w65_list.specs.RunView.{widths_view}
use Rattle.w65_list.proofs.RunLaws.{widths_end}
use Rattle.w65_list.proofs.run.widths_following.Goals as goal

pub returns : goal.returns
returns c = sym (widths_end (widths_view c.instructions.widths) c.instructions.left.now (eqb-true (length c.instructions.left.now) 0 (sym c.is_empty.ensures ∙ c.instructions-test.false))) ∙ c.instructions.invariant
