-- A file's fault is that of the input.
use Rattle.std.proofs.Common.{◌≡◌, inr, ℕ, List, None, Some, refl, sym, ap, subst, ◌∙◌}
use Rattle.omf_format.specs.declared.fault.FileCause.{FileCause}
use Rattle.omf_format.specs.declared.fault.FileCause.TheVariants as causes
use Rattle.omf_format.specs.declared.fault.FileFault.{FileFault}
use Rattle.omf_format.specs.File.{Segment, IsFile}
use Rattle.omf_records.specs.Segments.{UnlessMemory, IsRefused}
use Rattle.omf_format.specs.File.{IsFirstFault}
use Rattle.link_meaning.specs.declared.fault.LinkCause.{LinkCause}
use Rattle.link_meaning.specs.declared.fault.LinkFault.{LinkFault}
use Rattle.link_meaning.specs.LinkFaults.{link_cause, segments_fault, OfFile, OfSegment}
use Rattle.link_resolve.specs.Reading.{IsFileRefused}

abbrev pub fault_at : LinkCause → ℕ → ℕ → ℕ → LinkFault
fault_at cause file segment at = record { cause = cause; name = None; spot = record { file = file; segment = segment; at = at } }

first_of : (c : FileCause) (fault : FileFault) (bytes : List ℕ) → (c ≡ causes.Memory → ⊥) → UnlessMemory c fault (IsFirstFault bytes fault) → IsFirstFault bytes fault
first_of causes.Truncated fault bytes other is = is
first_of causes.BadHeader fault bytes other is = is
first_of causes.Unsupported fault bytes other is = is
first_of causes.BadRecord fault bytes other is = is
first_of causes.Memory fault bytes other is = absurd (other refl)

-- a fault other than out of memory
pub of_file : (fault : FileFault) (c : FileCause) (file : ℕ) (bytes : List ℕ) (result : LinkFault) → fault.cause ≡ c → (c ≡ causes.Memory → ⊥) → result ≡ fault_at (link_cause c) file fault.segment fault.at → IsRefused fault bytes
    → IsFileRefused file bytes result
of_file fault c file bytes result cause other reported refused =
    let first = first_of c fault bytes other (subst (λ (x : FileCause). UnlessMemory x fault (IsFirstFault bytes fault)) cause refused) in
    inr (OfFile fault first (reported ∙ ap (λ (x : FileCause). fault_at (link_cause x) file fault.segment fault.at) (sym cause)))

pub of_segment : (list : List Segment) (file : ℕ) (bytes : List ℕ) (found : ℕ × (LinkCause × ℕ)) (result : LinkFault) → IsFile list bytes → segments_fault 1 list ≡ Some found → result ≡ fault_at found.1.0 file found.0 found.1.1
    → IsFileRefused file bytes result
of_segment list file bytes found result is fault reported = inr (OfSegment list found is fault reported)

pub truncated_other : causes.Truncated ≡ causes.Memory → ⊥
truncated_other e = cc

pub header_other : causes.BadHeader ≡ causes.Memory → ⊥
header_other e = cc

pub unsupported_other : causes.Unsupported ≡ causes.Memory → ⊥
unsupported_other e = cc

pub record_other : causes.BadRecord ≡ causes.Memory → ⊥
record_other e = cc
