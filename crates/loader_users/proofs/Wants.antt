-- The wants of segments, gathered one by one.
use Rattle.std.proofs.Common.{◌≡◌, ℕ, List, ◌++◌, drop, map}
use Rattle.iigs_meaning.specs.declared.wants.Want.{Want}
use Rattle.loader_machine.specs.declared.seen.SegmentHead.{SegmentHead}
use Rattle.loader_machine.specs.Heads.{wants_of}
use Rattle.loader_users.specs.declared.user.UserSegment.{UserSegment}

abbrev pub heads : List UserSegment → List SegmentHead
heads segments = map (λ s. s.head) segments

-- these wants and those of the segments from a place on are all wants
abbrev pub Gathered : List UserSegment → ℕ → List Want → Type 0
Gathered segments place wants = wants ++ wants_of (heads (drop place segments)) ≡ wants_of (heads segments)
