-- The first segment at fault, where a loop has passed some.
use Rattle.std.proofs.Common.{◌≡◌, ℕ, ◌+◌, ◌≤◌, List, length, drop, Option, Some, None, sym, ap, ◌∙◌}
use Rattle.std.specs.Prelude.{slice_get, option_map, ◌==◌}
use Rattle.std.specs.Option.{option_or}
use Rattle.omf_format.specs.File.{Segment}
use Rattle.link_meaning.specs.declared.fault.LinkCause.{LinkCause}
use Rattle.link_meaning.specs.LinkFaults.{segment_fault, segments_fault}
use Rattle.link_tables.proofs.Lists.{drop_at}

-- the first k have none, so the first is that of the others
pub record SegmentsLeft (list : List Segment) (k : ℕ) : Type 0 where
  pub within : k ≤ length list
  pub whole : segments_fault 1 list ≡ segments_fault (k + 1) (drop k list)

abbrev next_fault : List Segment → ℕ → Option (LinkCause × ℕ) → Option (ℕ × (LinkCause × ℕ))
next_fault list k o = option_or (option_map (λ found. (k + 1, found)) o) (segments_fault (k + 1 + 1) (drop (k + 1) list))

pub left_more : (list : List Segment) (k : ℕ) (s : Segment) → SegmentsLeft list k → slice_get list k ≡ Some s → segment_fault (k + 1 == 1) s ≡ None → k + 1 ≤ length list → SegmentsLeft list (k + 1)
left_more list k s left is none within = record { within = within; whole = left.whole ∙ ap (segments_fault (k + 1)) (drop_at list k s is) ∙ ap (next_fault list k) none }

pub left_here : (list : List Segment) (k : ℕ) (s : Segment) (found : LinkCause × ℕ) → SegmentsLeft list k → slice_get list k ≡ Some s → segment_fault (k + 1 == 1) s ≡ Some found → Some (k + 1, found) ≡ segments_fault 1 list
left_here list k s found left is fault = sym (left.whole ∙ ap (segments_fault (k + 1)) (drop_at list k s is) ∙ ap (next_fault list k) fault)
