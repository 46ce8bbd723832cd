use Rattle.std.proofs.Common.{◌≡◌, length}
use Rattle.list_meaning.specs.Listing.{widths_rest}
use Rattle.w65_list.specs.RunView.{widths_view}
use Rattle.w65_list.proofs.run.widths_following.Given as goal

-- what is left leaves the widths that the whole leaves
abbrev pub invariant-instructions : goal.invariant-instructions
invariant-instructions l = widths_rest (widths_view l.widths) 0 l.left ≡ widths_rest (widths_view l.fn.widths) 0 l.fn.run

abbrev pub decreases-instructions : goal.decreases-instructions
decreases-instructions l = length l.left
