-- A file has a source, or a first fault, or a first place that can't be listed, or is too long.
use Rattle.std.proofs.Common.{◌≡◌, ◌≢◌, ◌⊎◌, inl, inr, ℕ, Bool, true, false, List, Result, Ok, Err, refl}
use Rattle.omf_format.specs.declared.fault.FileCause.{FileCause}
use Rattle.omf_format.specs.declared.fault.FileCause.TheVariants as files
use Rattle.omf_format.specs.File.{Segment, IsFile}
use Rattle.list_meaning.specs.declared.faults.ListCause.TheVariants.{NotListable, TooLong, Memory}
use Rattle.list_meaning.specs.declared.faults.ListFault.{ListFault}
use Rattle.list_meaning.specs.Listed.{ListedStatement, listing_text}
use Rattle.list_meaning.specs.Listing.{listing_from, is_small}
use Rattle.list_meaning.specs.Answer.{IsListing, cause_of, IsListFault, InFile, InSegment, InSize}
use Rattle.answers.specs.Inputs.{SourcesAreListed}
use Rattle.answers.specs.laws.FileAnswers.{FileAnswer, files_are_answered}

not_memory : (cause : FileCause) → cause ≢ files.Memory → cause_of cause ≢ Memory
not_memory files.Truncated other = λ e. cc
not_memory files.BadHeader other = λ e. cc
not_memory files.Unsupported other = λ e. cc
not_memory files.BadRecord other = λ e. cc
not_memory files.Memory other = absurd (other refl)

abbrev ListAnswer : List ℕ → Type 0
ListAnswer file = ((text : List ℕ) × IsListing file text) ⊎ ((fault : ListFault) × IsListFault file fault × (fault.cause ≢ Memory))

pub sources_are_listed : SourcesAreListed
sources_are_listed file fits = by_file (files_are_answered file fits)
  where
    by_size : (segments : List Segment) → IsFile segments file → (all : List ListedStatement) → listing_from 1 segments ≡ Ok all → (b : Bool) → is_small all ≡ b → ListAnswer file
    by_size segments is all lines true small =
        inl (listing_text all, record { segments = segments; is_file = is; all = all; lines = lines; small = small; is = refl })
    by_size segments is all lines false large = inr (
      record { cause = TooLong; segment = 0; at = 0 },
      InSize (record { segments = segments; is_file = is; all = all; lines = lines; large = large }) refl,
      λ e. cc,
    )

    by_lines : (segments : List Segment) → IsFile segments file → (found : Result (List ListedStatement) (ℕ × ℕ)) → listing_from 1 segments ≡ found → ListAnswer file
    by_lines segments is (Ok all) e = by_size segments is all e (is_small all) refl
    by_lines segments is (Err at) e = inr (
      record { cause = NotListable; segment = at.0; at = at.1 },
      InSegment at.0 at.1 (record { segments = segments; is_file = is; refused = e }) refl,
      λ e. cc,
    )

    by_file : FileAnswer file → ListAnswer file
    by_file (inl read) = by_lines read.0 read.1 (listing_from 1 read.0) refl
    by_file (inr fault) = inr (
      record { cause = cause_of fault.0.cause; segment = fault.0.segment; at = fault.0.at },
      InFile fault.0 fault.1 refl,
      not_memory fault.0.cause fault.2,
    )
