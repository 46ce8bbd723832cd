-- The segments of files that were read.
use Rattle.std.specs.Prelude.{◌≡◌, ℕ, zero, suc, List, Option, Some, None, option_and_then, slice_get}
use Rattle.omf_format.specs.File.{Segment, segment_at}
use Rattle.link_meaning.specs.First.{IsIn}
use Rattle.link_meaning.specs.Member.{Member}

-- the segment of a file, where both count from 1
abbrev pub segment_in : List (List Segment) → ℕ → ℕ → Option Segment
segment_in files zero segment = None
segment_in files (suc k) segment = option_and_then (λ segments. segment_at segments segment) (slice_get files k)

-- the member's segment is the one with its number in its file
abbrev pub IsAmong : List (List Segment) → Member → Type 0
IsAmong files m = segment_in files m.file m.number ≡ Some m.segment

abbrev pub AllAmong : List (List Segment) → List Member → Type 0
AllAmong files list = (m : Member) → IsIn list m → IsAmong files m
