use Rattle.std.proofs.Common.{◌≡◌, ◌≤◌, ◌==◌, not, All, vec_len, vec_capacity}
use Rattle.std.specs.List.{filter}
use Rattle.std.specs.List.Sorted.{IsNonDecreasingBy}
use Rattle.iigs_places.proofs.marks.drop_mark.Given as goal

-- the marks of other slots are there
abbrev pub invariant-loop-place : goal.invariant-loop-place
invariant-loop-place l = (filter (λ m. not (m.slot == l.slot)) l.marks.items ≡ filter (λ m. not (m.slot == l.slot)) l.initial.marks.items)
    × (vec_len l.marks ≤ vec_len l.initial.marks) × (vec_capacity l.initial.marks ≤ vec_capacity l.marks)
    × IsNonDecreasingBy (λ m. m.at) l.marks.items × All (λ m. m.slot ≡ l.slot → m.at ≡ l.at) l.marks.items

abbrev pub decreases-loop-place : goal.decreases-loop-place
decreases-loop-place l = vec_len l.marks
