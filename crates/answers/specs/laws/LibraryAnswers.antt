-- A file has a listing or a first fault, a library its rows, and files their library, or a first fault.
use Rattle.std.proofs.Common.{◌≡◌, ◌≢◌, ◌⊎◌, inl, inr, ℕ, ◌+◌, Bool, true, false, ltb, ltb-true, ltb-false, List, [], ◌∷◌, ◌++◌, length, map, Result, Ok, Err, refl, ap, subst}
use Rattle.std.specs.List.{AllByRecursion, list_any}
use Rattle.omf_format.specs.declared.fault.FileCause.{FileCause}
use Rattle.omf_format.specs.declared.fault.FileCause.TheVariants as files
use Rattle.omf_format.specs.Number.{IsBytes}
use Rattle.omf_format.specs.File.{Segment, IsFile}
use Rattle.link_meaning.specs.Member.{OfferedRow, is_library}
use Rattle.link_meaning.specs.Dictionary.{rows_of}
use Rattle.object_meaning.specs.Sizes.{most_bytes}
use Rattle.lib_dict.specs.declared.fault.LibCause.TheVariants.{TooLong, Memory}
use Rattle.lib_dict.specs.declared.fault.LibFault.{LibFault}
use Rattle.lib_dict.specs.Library.{LibraryInput, LibraryFile, is_dictionary, IsMember, AreMembers, IsLibraryOf, IsTooLong, row_view, library_bytes}
use Rattle.lib_dict.specs.Made.{lib_cause, HasMemberFault, InFile, OfDictionary, IsFirstMemberFault, IsNowhere, ByCause, IsLibRefused}
use Rattle.dump_lines.specs.Listing.{listing_from}
use Rattle.answers.specs.Inputs.{DumpsAreAnswered, DictionariesAreAnswered, LibrariesAreAnswered, DictionaryAnswer}
use Rattle.answers.specs.laws.FileAnswers.{FileAnswer, files_are_answered}

-- ---- listings

pub dumps_are_answered : DumpsAreAnswered
dumps_are_answered file fits = elim (files_are_answered file fits) [
  | inl read ↦ inl (listing_from 1 read.0, record { segments = read.0; is_file = read.1; is = refl })
  | inr fault ↦ inr fault
]

-- ---- dictionaries

pub dictionaries_are_answered : DictionariesAreAnswered
dictionaries_are_answered file fits = by_file (files_are_answered file fits)
  where
    by_rows : (segments : List Segment) → IsFile segments file → is_library segments ≡ true → (found : Result (List OfferedRow) ℕ) → rows_of segments ≡ found → DictionaryAnswer file
    by_rows segments is library (Ok rows) e =
        inl (map (row_view segments) rows, record { segments = segments; is_file = is; library = library; found = rows; read = e; reported = refl })
    by_rows segments is library (Err at) e = inr (inl (at, record { segments = segments; is_file = is; library = library; false' = e }))

    by_library : (segments : List Segment) → IsFile segments file → (b : Bool) → is_library segments ≡ b → DictionaryAnswer file
    by_library segments is true e = by_rows segments is e (rows_of segments) refl
    by_library segments is false e = inr (inr (inl (record { segments = segments; is_file = is; other = e })))

    by_file : FileAnswer file → DictionaryAnswer file
    by_file (inl read) = by_library read.0 read.1 (is_library read.0) refl
    by_file (inr fault) = inr (inr (inr fault))

-- ---- libraries

-- no segment is a dictionary, or there is a first that is
abbrev FirstDictionary : List Segment → Type 0
FirstDictionary segments = (list_any is_dictionary segments ≡ false)
    ⊎ ((before : List Segment) × (d : Segment) × (following : List Segment) × (segments ≡ before ++ d ∷ following) × (list_any is_dictionary before ≡ false) × (is_dictionary d ≡ true))

first_dictionary : (segments : List Segment) → FirstDictionary segments
first_dictionary [] = inl refl
first_dictionary (s ∷ segments) = by_type (is_dictionary s) refl (first_dictionary segments)
  where
    by_type : (b : Bool) → is_dictionary s ≡ b → FirstDictionary segments → FirstDictionary (s ∷ segments)
    by_type true is rest = inr ([], s, segments, refl, refl, is)
    by_type false is (inl none) = inl (rw is none)
    by_type false is (inr found) = inr (s ∷ found.0, found.1, found.2, ap (λ (l : List Segment). s ∷ l) found.3, rw is found.4, found.5)

-- the first file at fault
record AtFault (given : List LibraryInput) : Type 0 where
  before : List LibraryInput
  file : LibraryInput
  following : List LibraryInput
  parts : given ≡ before ++ file ∷ following
  read : List LibraryFile
  sound : AreMembers before read
  cause : FileCause
  segment : ℕ
  at : ℕ
  here : HasMemberFault file.bytes (lib_cause cause) segment at
  other : cause ≢ files.Memory

-- a file's cause is one of a member
of_member : (cause : FileCause) (P Q R : Type 0) → cause ≢ files.Memory → P → ByCause (lib_cause cause) P Q R
of_member files.Truncated P Q R other p = p
of_member files.BadHeader P Q R other p = p
of_member files.Unsupported P Q R other p = p
of_member files.BadRecord P Q R other p = p
of_member files.Memory P Q R other p = absurd (other refl)

not_memory : (cause : FileCause) → cause ≢ files.Memory → lib_cause cause ≢ Memory
not_memory files.Truncated other = λ e. cc
not_memory files.BadHeader other = λ e. cc
not_memory files.Unsupported other = λ e. cc
not_memory files.BadRecord other = λ e. cc
not_memory files.Memory other = absurd (other refl)

abbrev Members : List LibraryInput → Type 0
Members given = ((files : List LibraryFile) × AreMembers given files) ⊎ AtFault given

one_after : (given : LibraryInput) (all : List LibraryInput) (file : LibraryFile) → IsMember given file → Members all → Members (given ∷ all)
one_after given all file is (inl rest) = inl (file ∷ rest.0, (is, rest.1))
one_after given all file is (inr fault) = inr (record {
  before = given ∷ fault.before;
  file = fault.file;
  following = fault.following;
  parts = ap (λ (l : List LibraryInput). given ∷ l) fault.parts;
  read = file ∷ fault.read;
  sound = (is, fault.sound);
  cause = fault.cause;
  segment = fault.segment;
  at = fault.at;
  here = fault.here;
  other = fault.other;
})

members : (given : List LibraryInput) → AllByRecursion (λ file. IsBytes file.bytes) given → Members given
members [] fits = inl ([], tt)
members (given ∷ all) fits = by_file (files_are_answered given.bytes fits.0) (members all fits.1)
  where
    at_fault : (cause : FileCause) (segment at : ℕ) → HasMemberFault given.bytes (lib_cause cause) segment at → cause ≢ files.Memory → Members (given ∷ all)
    at_fault cause segment at here other = inr (record {
      before = [];
      file = given;
      following = all;
      parts = refl;
      read = [];
      sound = tt;
      cause = cause;
      segment = segment;
      at = at;
      here = here;
      other = other;
    })

    by_dictionary : (segments : List Segment) → IsFile segments given.bytes → FirstDictionary segments → Members all → Members (given ∷ all)
    by_dictionary segments is (inl none) rest =
        one_after given all (record { name = given.name; bytes = given.bytes; segments = segments }) (record { name = refl; bytes = refl; segments = is; others = none }) rest
    by_dictionary segments is (inr found) rest = at_fault files.BadRecord (length found.0 + 1) found.1.start
        (OfDictionary (record {
          before = found.0;
          dictionary = found.1;
          following = found.2;
          is_file = subst (λ (l : List Segment). IsFile l given.bytes) found.3 is;
          none_before = found.4;
          is = found.5;
          number' = refl;
          at' = refl;
        }) refl)
        (λ e. cc)

    by_file : FileAnswer given.bytes → Members all → Members (given ∷ all)
    by_file (inl read) rest = by_dictionary read.0 read.1 (first_dictionary read.0) rest
    by_file (inr fault) rest =
        at_fault fault.0.cause fault.0.segment fault.0.at (InFile fault.0 fault.1 refl refl refl) fault.2

abbrev LibraryAnswer : List LibraryInput → Type 0
LibraryAnswer given = ((bytes : List ℕ) × IsLibraryOf given bytes) ⊎ ((fault : LibFault) × IsLibRefused fault given × (fault.cause ≢ Memory))

pub libraries_are_answered : LibrariesAreAnswered
libraries_are_answered given fits = by_members (members given fits)
  where
    by_size : (files : List LibraryFile) → AreMembers given files → (b : Bool) → ltb most_bytes (length (library_bytes files)) ≡ b → LibraryAnswer given
    by_size files are true is = inr (
      record { cause = TooLong; spot = record { file = 0; segment = 0; at = 0 } },
      (record { files = files; members = are; long = ltb-true most_bytes (length (library_bytes files)) is }, record { file = refl; segment = refl; at = refl }),
      λ e. cc,
    )
    by_size files are false is =
        inl (library_bytes files, record { files = files; members = are; short = ltb-false most_bytes (length (library_bytes files)) is; made = refl })

    by_members : Members given → LibraryAnswer given
    by_members (inl read) = by_size read.0 read.1 (ltb most_bytes (length (library_bytes read.0))) refl
    by_members (inr fault) =
        let reported : LibFault = record { cause = lib_cause fault.cause; spot = record { file = length fault.before + 1; segment = fault.segment; at = fault.at } } in (inr (
          reported,
          of_member fault.cause (IsFirstMemberFault given reported) (IsTooLong given × IsNowhere reported.spot) (IsNowhere reported.spot) fault.other (record {
            before = fault.before;
            file = fault.file;
            following = fault.following;
            parts = fault.parts;
            files = fault.read;
            sound = fault.sound;
            number = refl;
            here = fault.here;
          }),
          not_memory fault.cause fault.other,
        ))
