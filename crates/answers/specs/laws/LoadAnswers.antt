-- A file is a load file, or has a first fault as one.
use Rattle.std.proofs.Common.{◌≡◌, ◌≢◌, ◌⊎◌, inl, inr, ℕ, zero, suc, ◌+◌, ◌<◌, ◌≤◌, Bool, true, false, ltb, ltb-true, ltb-false, List, [], ◌∷◌, ◌++◌, length, drop, Option, Some, None, refl, ap, subst, ◌∙◌, arith}
use Rattle.std.specs.Prelude.{option_map}
use Rattle.std.specs.List.{AllByRecursion}
use Rattle.omf_format.specs.declared.fault.HeaderFault.{HeaderFault}
use Rattle.omf_format.specs.Number.{IsBytes}
use Rattle.omf_format.specs.Header.{HeaderFields, fields_of, version_of, header_fault}
use Rattle.omf_format.specs.File.{Segment, body_reader, IsHeader, IsSegment, AreSegments, IsFile, to_file_header_fault, to_file_record_fault}
use Rattle.omf_format.specs.laws.FileLaws.{header_lies}
use Rattle.omf_format.specs.laws.BodyLaws.{body_fits}
use Rattle.load_meaning.specs.declared.load.LoadCause.{LoadCause}
use Rattle.load_meaning.specs.declared.load.LoadCause.TheVariants.{NotLoadFile, Memory}
use Rattle.load_meaning.specs.declared.load.LoadFault.{LoadFault}
use Rattle.load_meaning.specs.Loadable.{Fault, segment_refusal, record_refusal, as_load, front_fault, answer_fault, IsLoadSegment, HasReadFault, OfFront, OfRecord, IsReadFault, later_fault, IsLoadable, IsFirstLoadFault, IsEmpty, OfReading, OfSegments}
use Rattle.load_meaning.specs.Runtime.{runtime_fault, IsRuntime, IsFirstRuntimeFault, OfLoading, OfKind}
use Rattle.answers.specs.Files.{LoadFilesAreAnswered, RuntimeFilesAreAnswered}
use Rattle.answers.specs.laws.Walks.{Comes, Ends, Stops, Fails, reader_comes}
use Rattle.answers.specs.laws.Options.{all_and_one}
use Rattle.answers.specs.laws.FileAnswers.{header_cause, record_cause, more_segments}
use Rattle.answers.specs.laws.LoadCauses.{IsOther, file_cause, segment_cause, refused_cause, later_cause, runtime_cause}

-- what phase 1 finds
abbrev ReadAnswer : List ℕ → Type 0
ReadAnswer file = ((segments : List Segment) × IsFile segments file × AllByRecursion IsLoadSegment segments)
    ⊎ ((fault : LoadFault) × IsReadFault file fault × (fault.cause ≢ Memory))

-- a header's fault is that of the front
front_by_header : (at : ℕ) (file : List ℕ) (fault : HeaderFault) → header_fault (drop at file) ≡ Some fault
    → front_fault at file ≡ Some (as_load (to_file_header_fault at (version_of (drop at file)) fault))
unfolding front_fault
front_by_header at file fault is = rw is refl

-- and so is that of the name and the type, where the header has none
front_by_type : (at : ℕ) (file : List ℕ) (cause : LoadCause) → header_fault (drop at file) ≡ None → segment_refusal (fields_of (drop at file)) ≡ Some cause
    → front_fault at file ≡ Some (cause, at)
unfolding front_fault
front_by_type at file cause none is = rw (none, is) refl

-- a file is answered from each later place
abbrev LaterAnswers : ℕ → List ℕ → Type 0
LaterAnswers n file = (more : List Segment) (next : ℕ) → AreSegments more 0 file next → AllByRecursion IsLoadSegment more → next ≤ length file → length file < next + n → ReadAnswer file

read_from : (n : ℕ) (file : List ℕ) (before : List Segment) (at : ℕ) → IsBytes file → AreSegments before 0 file at → AllByRecursion IsLoadSegment before
    → at ≤ length file → length file < at + n → ReadAnswer file
read_from zero file before at fits sound pass within small = absurd (omega arith)
read_from (suc n) file before at fits sound pass within small =
    by_end (λ (more : List Segment) (next : ℕ) are all inside less. read_from n file more next fits are all inside less) (ltb at (length file)) refl
  where
    at_fault : (fault : Fault) → at < length file → HasReadFault at file fault → IsOther fault.0 → ReadAnswer file
    at_fault fault more here cause = inr (
      record { cause = fault.0; segment = length before + 1; at = fault.1 },
      record { before = before; at = at; sound = sound; pass = pass; more = more; number = refl; here = here },
      cause,
    )

    by_body : LaterAnswers n file → (f : HeaderFields) → at < length file → IsHeader at f file → segment_refusal f ≡ None → Comes record_refusal (body_reader at f file) → ReadAnswer file
    by_body later f more header front (Ends founds last run ended all) =
        let s : Segment = record { start = at; fields = f; records = founds } in
        let is : IsSegment s file = record { header = header; last = last; records = run; ended = ended } in
        let lies = header_lies at f file header in
        later (before ++ s ∷ []) (at + f.byte_count) (more_segments before s at file sound refl more is)
        (all_and_one IsLoadSegment before s pass (record { front = front; records = all })) lies.within (omega (arith, lies.some))
    by_body later f more header front (Stops founds reader found why run all next stops) =
        at_fault (why, found.0) more
        (OfRecord f founds reader header front run all (ap answer_fault next ∙ ap (option_map (λ (cause : LoadCause). (cause, found.0))) stops))
        (refused_cause found.1 why stops)
    by_body later f more header front (Fails founds reader fault run all next) =
        at_fault (as_load (to_file_record_fault fault)) more (OfRecord f founds reader header front run all (ap answer_fault next))
        (file_cause (to_file_record_fault fault).0 (record_cause fault))

    by_type : LaterAnswers n file → (refusal : Option LoadCause) → at < length file → header_fault (drop at file) ≡ None → segment_refusal (fields_of (drop at file)) ≡ refusal → ReadAnswer file
    by_type later (Some cause) more none is = at_fault (cause, at) more (OfFront (front_by_type at file cause none is)) (segment_cause (fields_of (drop at file)) cause is)
    by_type later None more none is =
        let f = fields_of (drop at file) in
        by_body later f more (record { passes = none; fields = refl }) is (reader_comes record_refusal (body_reader at f file) (body_fits at f file fits))

    by_header : LaterAnswers n file → (found : Option HeaderFault) → at < length file → header_fault (drop at file) ≡ found → ReadAnswer file
    by_header later (Some fault) more is =
        at_fault (as_load (to_file_header_fault at (version_of (drop at file)) fault)) more (OfFront (front_by_header at file fault is))
        (file_cause (to_file_header_fault at (version_of (drop at file)) fault).0 (header_cause at (version_of (drop at file)) (drop at file) fault is))
    by_header later None more is = by_type later (segment_refusal (fields_of (drop at file))) more is refl

    by_end : LaterAnswers n file → (b : Bool) → ltb at (length file) ≡ b → ReadAnswer file
    by_end later true is = by_header later (header_fault (drop at file)) (ltb-true at (length file) is) refl
    by_end later false is =
        let past = ltb-false at (length file) is in
        let whole : at ≡ length file = omega (arith, past, within) in
        inl (before, subst (λ (end : ℕ). AreSegments before 0 file end) whole sound, pass)

-- nothing is the file without bytes
no_bytes : (file : List ℕ) → 0 ≡ length file → file ≡ []
no_bytes [] e = refl
no_bytes (byte ∷ file) e = absurd (omega (arith, e))

abbrev pub LoadAnswer : List ℕ → Type 0
LoadAnswer file = ((segments : List Segment) × IsLoadable file segments) ⊎ ((fault : LoadFault) × IsFirstLoadFault file fault × (fault.cause ≢ Memory))

pub load_files_are_answered : LoadFilesAreAnswered
load_files_are_answered file fits = by_reading (read_from (suc (length file)) file [] 0 fits refl tt (omega arith) (omega arith))
  where
    by_phases : (segments : List Segment) → IsFile segments file → (segments ≡ [] → ⊥) → AllByRecursion IsLoadSegment segments → (found : Option LoadFault)
        → later_fault segments ≡ found → LoadAnswer file
    by_phases segments is some pass None e = inl (segments, record { is_file = is; some = some; pass = pass; sound = e })
    by_phases segments is some pass (Some fault) e =
        inr (fault, OfSegments (record { segments = segments; is_file = is; pass = pass; here = e }), later_cause segments fault e)

    by_segments : (segments : List Segment) → IsFile segments file → AllByRecursion IsLoadSegment segments → LoadAnswer file
    by_segments [] is pass = inr (record { cause = NotLoadFile; segment = 0; at = 0 }, IsEmpty (no_bytes file is) refl, λ e. cc)
    by_segments (s ∷ segments) is pass = by_phases (s ∷ segments) is (λ e. cc) pass (later_fault (s ∷ segments)) refl

    by_reading : ReadAnswer file → LoadAnswer file
    by_reading (inl read) = by_segments read.0 read.1 read.2
    by_reading (inr fault) = inr (fault.0, OfReading fault.1, fault.2)

abbrev pub RuntimeAnswer : List ℕ → Type 0
RuntimeAnswer file = ((segments : List Segment) × IsRuntime file segments) ⊎ ((fault : LoadFault) × IsFirstRuntimeFault file fault × (fault.cause ≢ Memory))

pub runtime_files_are_answered : RuntimeFilesAreAnswered
runtime_files_are_answered file fits = by_loading (load_files_are_answered file fits)
  where
    by_kind : (segments : List Segment) → IsLoadable file segments → (found : Option LoadFault) → runtime_fault segments ≡ found → RuntimeAnswer file
    by_kind segments is None e = inl (segments, record { loadable = is; dynamic = e })
    by_kind segments is (Some fault) e = inr (fault, OfKind segments is e, runtime_cause segments fault e)

    by_loading : LoadAnswer file → RuntimeAnswer file
    by_loading (inl read) = by_kind read.0 read.1 (runtime_fault read.0) refl
    by_loading (inr fault) = inr (fault.0, OfLoading fault.1, fault.2)
