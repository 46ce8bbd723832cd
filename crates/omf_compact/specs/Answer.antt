-- The answer for a file: the canonical file, or why there is none.
use Rattle.std.specs.Prelude.{◌≡◌, ◌≤◌, ◌<◌, ℕ, List, length, Some, None}
use Rattle.omf_io.specs.Files.{max_file}
use Rattle.load_meaning.specs.declared.load.LoadCause.TheVariants as load
use Rattle.omf_format.specs.File.{Segment}
use Rattle.load_meaning.specs.Loadable.{IsLoadable, IsFirstLoadFault}
use Rattle.omf_compact.specs.declared.fault.CompactCause.{CompactCause}
use Rattle.omf_compact.specs.declared.fault.CompactCause.TheVariants.{NotLoadFile, Truncated, BadHeader, Unsupported, BadRecord, Sequence, DataTooLong, PatchOutside, NoSuchTarget, DynamicTarget, BadTable, BrokenPart, TooLong, Memory}
use Rattle.omf_compact.specs.declared.fault.CompactFault.{CompactFault}
use Rattle.omf_compact.specs.Canonical.{plain, broken_in, canon}

-- the file is a load file without a broken part, and what is written for what it holds isn't too long, and is this
pub record IsAnswer (file out : List ℕ) : Type 0 where
  pub segments : List Segment
  pub loadable : IsLoadable file segments
  pub whole : broken_in 1 (plain segments) ≡ None
  pub short : length out ≤ max_file
  pub written : out ≡ canon (plain segments)

-- the file is a load file, and the first broken part of what it holds is there
pub record HasBroken (file : List ℕ) (segment at : ℕ) : Type 0 where
  pub segments : List Segment
  pub loadable : IsLoadable file segments
  pub broken : broken_in 1 (plain segments) ≡ Some (segment, at)

-- the file is a load file without a broken part, and what is written for what it holds is too long
pub record IsTooLong (file : List ℕ) : Type 0 where
  pub segments : List Segment
  pub loadable : IsLoadable file segments
  pub whole : broken_in 1 (plain segments) ≡ None
  pub long : max_file < length (canon (plain segments))

-- why a file is refused for a cause: it isn't a load file, and this is its first fault, or one of three others; the faults of lack of memory and of a file that is too long have no place
abbrev pub IsRefusedBy : CompactCause → CompactFault → List ℕ → Type 0
IsRefusedBy NotLoadFile fault file = IsFirstLoadFault file (record { cause = load.NotLoadFile; segment = fault.segment; at = fault.at })
IsRefusedBy Truncated fault file = IsFirstLoadFault file (record { cause = load.Truncated; segment = fault.segment; at = fault.at })
IsRefusedBy BadHeader fault file = IsFirstLoadFault file (record { cause = load.BadHeader; segment = fault.segment; at = fault.at })
IsRefusedBy Unsupported fault file = IsFirstLoadFault file (record { cause = load.Unsupported; segment = fault.segment; at = fault.at })
IsRefusedBy BadRecord fault file = IsFirstLoadFault file (record { cause = load.BadRecord; segment = fault.segment; at = fault.at })
IsRefusedBy Sequence fault file = IsFirstLoadFault file (record { cause = load.Sequence; segment = fault.segment; at = fault.at })
IsRefusedBy DataTooLong fault file = IsFirstLoadFault file (record { cause = load.DataTooLong; segment = fault.segment; at = fault.at })
IsRefusedBy PatchOutside fault file = IsFirstLoadFault file (record { cause = load.PatchOutside; segment = fault.segment; at = fault.at })
IsRefusedBy NoSuchTarget fault file = IsFirstLoadFault file (record { cause = load.NoSuchTarget; segment = fault.segment; at = fault.at })
IsRefusedBy DynamicTarget fault file = IsFirstLoadFault file (record { cause = load.DynamicTarget; segment = fault.segment; at = fault.at })
IsRefusedBy BadTable fault file = IsFirstLoadFault file (record { cause = load.BadTable; segment = fault.segment; at = fault.at })
IsRefusedBy BrokenPart fault file = HasBroken file fault.segment fault.at
IsRefusedBy TooLong fault file = IsTooLong file × (fault.segment ≡ 0) × (fault.at ≡ 0)
IsRefusedBy Memory fault file = (fault.segment ≡ 0) × (fault.at ≡ 0)

-- the fault is why the file is refused, unless out of memory
abbrev pub IsRefused : CompactFault → List ℕ → Type 0
IsRefused fault file = IsRefusedBy fault.cause fault file
