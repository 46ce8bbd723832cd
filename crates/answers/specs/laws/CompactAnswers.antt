-- A file has a canonical form, or a first fault as a load file, or a first broken part, or its form is too long.
use Rattle.std.proofs.Common.{◌≡◌, ◌≢◌, ◌⊎◌, inl, inr, ℕ, Bool, true, false, ltb, ltb-true, ltb-false, List, length, Option, Some, None, refl}
use Rattle.omf_io.specs.Files.{max_file}
use Rattle.omf_format.specs.File.{Segment}
use Rattle.load_meaning.specs.declared.load.LoadCause.{LoadCause}
use Rattle.load_meaning.specs.declared.load.LoadCause.TheVariants as load
use Rattle.load_meaning.specs.Loadable.{IsLoadable, IsFirstLoadFault}
use Rattle.omf_compact.specs.declared.fault.CompactCause.TheVariants.{NotLoadFile, Truncated, BadHeader, Unsupported, BadRecord, Sequence, DataTooLong, PatchOutside, NoSuchTarget, DynamicTarget, BadTable, BrokenPart, TooLong, Memory}
use Rattle.omf_compact.specs.declared.fault.CompactFault.{CompactFault}
use Rattle.omf_compact.specs.Canonical.{plain, broken_in, canon}
use Rattle.omf_compact.specs.Answer.{IsAnswer, IsRefused}
use Rattle.answers.specs.Inputs.{LoadFilesAreCompacted}
use Rattle.answers.specs.laws.LoadAnswers.{LoadAnswer, load_files_are_answered}

abbrev CompactAnswer : List ℕ → Type 0
CompactAnswer file = ((out : List ℕ) × IsAnswer file out) ⊎ ((fault : CompactFault) × IsRefused fault file × (fault.cause ≢ Memory))

-- the fault of a file that isn't loaded, by its cause
by_cause : (file : List ℕ) (cause : LoadCause) (segment at : ℕ) → IsFirstLoadFault file (record { cause = cause; segment = segment; at = at }) → cause ≢ load.Memory → CompactAnswer file
by_cause file load.NotLoadFile segment at first other = inr (record { cause = NotLoadFile; segment = segment; at = at }, first, λ e. cc)
by_cause file load.Truncated segment at first other = inr (record { cause = Truncated; segment = segment; at = at }, first, λ e. cc)
by_cause file load.BadHeader segment at first other = inr (record { cause = BadHeader; segment = segment; at = at }, first, λ e. cc)
by_cause file load.Unsupported segment at first other = inr (record { cause = Unsupported; segment = segment; at = at }, first, λ e. cc)
by_cause file load.BadRecord segment at first other = inr (record { cause = BadRecord; segment = segment; at = at }, first, λ e. cc)
by_cause file load.Sequence segment at first other = inr (record { cause = Sequence; segment = segment; at = at }, first, λ e. cc)
by_cause file load.DataTooLong segment at first other = inr (record { cause = DataTooLong; segment = segment; at = at }, first, λ e. cc)
by_cause file load.PatchOutside segment at first other = inr (record { cause = PatchOutside; segment = segment; at = at }, first, λ e. cc)
by_cause file load.NoSuchTarget segment at first other = inr (record { cause = NoSuchTarget; segment = segment; at = at }, first, λ e. cc)
by_cause file load.DynamicTarget segment at first other = inr (record { cause = DynamicTarget; segment = segment; at = at }, first, λ e. cc)
by_cause file load.BadTable segment at first other = inr (record { cause = BadTable; segment = segment; at = at }, first, λ e. cc)
by_cause file load.Memory segment at first other = absurd (other refl)

pub load_files_are_compacted : LoadFilesAreCompacted
load_files_are_compacted file fits = by_loading (load_files_are_answered file fits)
  where
    by_size : (segments : List Segment) → IsLoadable file segments → broken_in 1 (plain segments) ≡ None → (b : Bool) → ltb max_file (length (canon (plain segments))) ≡ b → CompactAnswer file
    by_size segments is whole true long = inr (
      record { cause = TooLong; segment = 0; at = 0 },
      (record { segments = segments; loadable = is; whole = whole; long = ltb-true max_file (length (canon (plain segments))) long }, refl, refl),
      λ e. cc,
    )
    by_size segments is whole false short = inl (
      canon (plain segments),
      record { segments = segments; loadable = is; whole = whole; short = ltb-false max_file (length (canon (plain segments))) short; written = refl },
    )

    by_parts : (segments : List Segment) → IsLoadable file segments → (found : Option (ℕ × ℕ)) → broken_in 1 (plain segments) ≡ found → CompactAnswer file
    by_parts segments is (Some at) e =
        inr (record { cause = BrokenPart; segment = at.0; at = at.1 }, record { segments = segments; loadable = is; broken = e }, λ e. cc)
    by_parts segments is None e = by_size segments is e (ltb max_file (length (canon (plain segments)))) refl

    by_loading : LoadAnswer file → CompactAnswer file
    by_loading (inl read) = by_parts read.0 read.1 (broken_in 1 (plain read.0)) refl
    by_loading (inr fault) = by_cause file fault.0.cause fault.0.segment fault.0.at fault.1 fault.2
