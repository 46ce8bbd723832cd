use Rattle.std.proofs.Common.{◌≡◌, ◌-◌, ◌≤◌, [], length, map, replicate}
use Rattle.load_writer.proofs.by_form.no_locations.Given as goal

-- the lists so far are without locations, and there are at most 38
abbrev pub invariant-forms : goal.invariant-forms
invariant-forms l = (map (λ of. of.items) l.lists.items ≡ replicate (length l.lists.items) []) × (length l.lists.items ≤ 38)

abbrev pub decreases-forms : goal.decreases-forms
decreases-forms l = 38 - length l.lists.items
