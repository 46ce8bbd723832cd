-- A file is a list of segments, or has a first fault.
use Rattle.std.proofs.Common.{◌≡◌, ◌≢◌, ◌⊎◌, inl, inr, ℕ, zero, suc, ◌+◌, ◌<◌, ◌≤◌, Bool, true, false, ltb, ltb-true, ltb-false, List, [], ◌∷◌, ◌++◌, length, drop, Option, Some, None, refl, subst, arith}
use Rattle.omf_format.specs.declared.fault.HeaderFault.{HeaderFault}
use Rattle.omf_format.specs.declared.fault.HeaderFault.TheVariants as header
use Rattle.omf_format.specs.declared.fault.RecordFault.{RecordFault}
use Rattle.omf_format.specs.declared.fault.RecordFault.TheVariants as records
use Rattle.omf_format.specs.declared.fault.FileCause.TheVariants.{Memory}
use Rattle.omf_format.specs.declared.fault.FileFault.{FileFault}
use Rattle.omf_format.specs.Number.{IsBytes}
use Rattle.omf_format.specs.Header.{HeaderFields, fields_of, version_of, header_fault}
use Rattle.omf_format.specs.laws.HeaderLaws.{fault_fits}
use Rattle.omf_format.specs.Record.{Record}
use Rattle.omf_format.specs.File.{Segment, body_reader, IsHeader, IsSegment, AreSegments, IsFile, FaultAt, to_file_header_fault, to_file_record_fault, HasFault, InHeader, InRecord, IsFirstFault}
use Rattle.omf_format.specs.laws.FileLaws.{AreSegments-append, header_lies}
use Rattle.omf_format.specs.laws.BodyLaws.{body_fits}
use Rattle.answers.specs.Files.{FilesAreAnswered}
use Rattle.answers.specs.laws.Walks.{Comes, Ends, Stops, Fails, reader_comes}

-- no fault of a header or a record is Memory
pub header_cause : (at version : ℕ) (bytes : List ℕ) (fault : HeaderFault) → header_fault bytes ≡ Some fault → (to_file_header_fault at version fault).0 ≢ Memory
header_cause at version bytes (header.Truncated n) is = λ e. cc
header_cause at version bytes (header.Unsupported field) is = λ e. cc
header_cause at version bytes (header.BadField field) is = λ e. cc
header_cause at version bytes header.Memory is = absurd (fault_fits bytes header.Memory is)

pub record_cause : (fault : RecordFault) → (to_file_record_fault fault).0 ≢ Memory
record_cause (records.Truncated at) = λ e. cc
record_cause (records.Unsupported code at) = λ e. cc
record_cause (records.BadRecord at) = λ e. cc

abbrev pub FileAnswer : List ℕ → Type 0
FileAnswer file = ((segments : List Segment) × IsFile segments file) ⊎ ((fault : FileFault) × IsFirstFault file fault × (fault.cause ≢ Memory))

-- every record goes on
abbrev none_stops : Record → Option ℕ
none_stops r = None

-- one segment more
pub more_segments : (before : List Segment) (s : Segment) (at : ℕ) (file : List ℕ) → AreSegments before 0 file at → s.start ≡ at → at < length file → IsSegment s file
    → AreSegments (before ++ s ∷ []) 0 file (at + s.fields.byte_count)
more_segments before s at file sound start more is = AreSegments-append before (s ∷ []) 0 file at (at + s.fields.byte_count) sound (start, more, is, refl)

-- a file is answered from each later place
abbrev LaterAnswers : ℕ → List ℕ → Type 0
LaterAnswers n file = (more : List Segment) (next : ℕ) → AreSegments more 0 file next → next ≤ length file → length file < next + n → FileAnswer file

answer_from : (n : ℕ) (file : List ℕ) (before : List Segment) (at : ℕ) → IsBytes file → AreSegments before 0 file at → at ≤ length file → length file < at + n → FileAnswer file
answer_from zero file before at fits sound within small = absurd (omega arith)
answer_from (suc n) file before at fits sound within small =
    by_end (λ (more : List Segment) (next : ℕ) are inside less. answer_from n file more next fits are inside less) (ltb at (length file)) refl
  where
    at_fault : (reported : FaultAt) → at < length file → HasFault at file reported → reported.0 ≢ Memory → FileAnswer file
    at_fault reported more here cause = inr (
      record { cause = reported.0; segment = length before + 1; at = reported.1 },
      record { before = before; at = at; sound = sound; more = more; number = refl; here = here },
      cause,
    )

    by_body : LaterAnswers n file → (f : HeaderFields) → at < length file → IsHeader at f file → Comes none_stops (body_reader at f file) → FileAnswer file
    by_body later f more header (Ends founds last run ended all) =
        let s : Segment = record { start = at; fields = f; records = founds } in
        let is : IsSegment s file = record { header = header; last = last; records = run; ended = ended } in
        let lies = header_lies at f file header in
        later (before ++ s ∷ []) (at + f.byte_count) (more_segments before s at file sound refl more is) lies.within (omega (arith, lies.some))
    by_body later f more header (Stops before reader found why run all next stops) = absurd cc
    by_body later f more header (Fails founds reader fault run all next) =
        at_fault (to_file_record_fault fault) more (InRecord f founds reader fault header run next refl) (record_cause fault)

    by_header : LaterAnswers n file → (found : Option HeaderFault) → at < length file → header_fault (drop at file) ≡ found → FileAnswer file
    by_header later (Some fault) more is =
        at_fault (to_file_header_fault at (version_of (drop at file)) fault) more (InHeader fault is refl) (header_cause at (version_of (drop at file)) (drop at file) fault is)
    by_header later None more is =
        let f = fields_of (drop at file) in
        by_body later f more (record { passes = is; fields = refl }) (reader_comes none_stops (body_reader at f file) (body_fits at f file fits))

    by_end : LaterAnswers n file → (b : Bool) → ltb at (length file) ≡ b → FileAnswer file
    by_end later true is = by_header later (header_fault (drop at file)) (ltb-true at (length file) is) refl
    by_end later false is =
        let past = ltb-false at (length file) is in
        let whole : at ≡ length file = omega (arith, past, within) in
        inl (before, subst (λ (end : ℕ). AreSegments before 0 file end) whole sound)

pub files_are_answered : FilesAreAnswered
files_are_answered file fits = answer_from (suc (length file)) file [] 0 fits refl (omega arith) (omega arith)
