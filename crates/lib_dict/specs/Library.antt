-- Libraries: the rows of a dictionary that is read, and the library of files (GS/OS Reference, appendix F, "Library
-- Dictionary Segment"; the dictionary's header and the order of its rows are this project's own choice).
use Rattle.std.specs.Prelude.{◌≡◌, ◌<◌, ◌≤◌, ℕ, ◌+◌, ◌*◌, Bool, true, false, List, [], ◌∷◌, ◌++◌, length, map, replicate, Some, None, Ok, Err, ◌==◌, if◌then◌else◌}
use Rattle.std.specs.List.{flat_map, filter_map, list_any}
use Rattle.std.specs.Option.{option_map_or}
use Rattle.byteorder.specs.Endian.{little_bytes}
use Rattle.omf_format.specs.Field.{written_layout}
use Rattle.omf_format.specs.Header.{HeaderFields, form_of, header_bytes}
use Rattle.omf_format.specs.Record.{End, LongConst, spelling}
use Rattle.omf_format.specs.File.{Segment, IsFile, segment_at}
use Rattle.link_meaning.specs.Member.{OfferedRow, is_library}
use Rattle.object_meaning.specs.Defines.{ForSegment, ForUnit, ForAll, defined_in}
use Rattle.link_meaning.specs.Dictionary.{rows_of}
use Rattle.object_meaning.specs.Sizes.{most_bytes}

-- a row of a dictionary: a name, the number of the file that has it, whether it is private, and where the segment starts that
-- defines it
pub record LibraryRow : Type 0 where
  pub name : List ℕ
  pub file : ℕ
  pub private : Bool
  pub at : ℕ

-- ---- a dictionary that is read

-- a row as it is returned, with the start of its segment
abbrev pub row_view : List Segment → OfferedRow → LibraryRow
row_view segments row = record {
  name = row.name;
  file = row.from;
  private = row.private;
  at = option_map_or (λ s. s.start) (segment_at segments row.segment) 0;
}

-- the file is a library, and these are the rows of its dictionary
pub record HasRows (file : List ℕ) (rows : List LibraryRow) : Type 0 where
  pub segments : List Segment
  pub is_file : IsFile segments file
  pub library : is_library segments ≡ true
  pub found : List OfferedRow
  pub read : rows_of segments ≡ Ok found
  pub reported : rows ≡ map (row_view segments) found

-- the file is sound, and doesn't begin with a dictionary
pub record IsNoLibrary (file : List ℕ) : Type 0 where
  pub segments : List Segment
  pub is_file : IsFile segments file
  pub other : is_library segments ≡ false

-- the file is a library whose dictionary is false, there
pub record IsFalseAt (file : List ℕ) (at : ℕ) : Type 0 where
  pub segments : List Segment
  pub is_file : IsFile segments file
  pub library : is_library segments ≡ true
  pub false' : rows_of segments ≡ Err at

-- ---- the rows of a library that is made

-- the rows of a segment of the file with this number, which begins at this displacement: its SEGNAME, where it has one, and then its GLOBAL
-- and GEQU names in record order
abbrev pub segment_rows : ℕ → ℕ → Segment → List LibraryRow
segment_rows file front s = map (λ (n : List ℕ × Bool). record { name = n.0; file = file; private = n.1; at = front + s.start })
    (filter_map (λ d. elim d.scope [ ForSegment ↦ None | ForUnit ↦ Some (d.name, true) | ForAll ↦ Some (d.name, false) ]) (defined_in s))

-- a file of a library: its name, its bytes, and the segments that they are
pub record LibraryFile : Type 0 where
  pub name : List ℕ
  pub bytes : List ℕ
  pub segments : List Segment

-- the rows of these files, one after another, where the first has this number and begins at this displacement
abbrev pub rows_from : ℕ → ℕ → List LibraryFile → List LibraryRow
rows_from number front [] = []
rows_from number front (file ∷ files) = flat_map (segment_rows number front) file.segments ++ rows_from (number + 1) (front + length file.bytes) files

-- ---- the dictionary that is made

-- the first record: the files' numbers, each with the file's name after it, and 0
abbrev pub files_text : ℕ → List LibraryFile → List ℕ
files_text number [] = little_bytes 2 0
files_text number (file ∷ files) = little_bytes 2 number ++ length file.name ∷ file.name ++ files_text (number + 1) files

-- the third record: the rows' names
unfoldable pub names_text : List LibraryRow → List ℕ
names_text rows = flat_map (λ row. length row.name ∷ row.name) rows

-- the second record: the rows, where the first one's name is at this place in the third record; a row is the place of its name, its file's
-- number, 1 where it is private, and where its segment starts
abbrev pub rows_text : ℕ → List LibraryRow → List ℕ
rows_text name [] = []
rows_text name (row ∷ rows) =
    (little_bytes 4 name ++ (little_bytes 2 row.file ++ (little_bytes 2 (if row.private then 1 else 0) ++ little_bytes 4 row.at)))
    ++ rows_text (name + 1 + length row.name) rows

-- the header of a dictionary whose three records have n bytes together
abbrev pub dictionary_fields : ℕ → HeaderFields
dictionary_fields n = record {
  byte_count = 0;
  res_spc = 0;
  length = n;
  lab_len = 0;
  version = 2;
  bank_size = 0;
  kind = 0x0008;
  org = 0;
  align = 0;
  seg_num = 1;
  entry = 0;
  disp_name = 0;
  disp_data = 0;
  load_name = replicate 10 32;
  name = 0x44 ∷ 0x49 ∷ 0x43 ∷ 0x54 ∷ 0x49 ∷ 0x4F ∷ 0x4E ∷ 0x41 ∷ 0x52 ∷ 0x59 ∷ [];
}

-- the dictionary of these three records: its header, and the body with END
unfoldable pub dictionary_text : List ℕ → List ℕ → List ℕ → List ℕ
dictionary_text first second third =
    let body = spelling written_layout (LongConst first) ++ (spelling written_layout (LongConst second)
    ++ (spelling written_layout (LongConst third) ++ spelling written_layout End)) in
    header_bytes (dictionary_fields (length first + length second + length third)) (length body) ++ body

-- how many bytes the dictionary of these files has: its header of $37 bytes and its name of 10, the codes and the lengths of three records,
-- their content, and END
unfoldable pub dictionary_size : List LibraryFile → ℕ
dictionary_size files =
    let rows = rows_from 1 0 files in
    0x37 + 10 + (5 + length (files_text 1 files)) + (5 + 12 * length rows) + (5 + length (names_text rows)) + 1

-- the rows of the library: the first file begins after the dictionary
unfoldable pub library_rows : List LibraryFile → List LibraryRow
library_rows files = rows_from 1 (dictionary_size files) files

-- the library of these files: the dictionary, and then each file's bytes
unfoldable pub library_bytes : List LibraryFile → List ℕ
library_bytes files =
    dictionary_text (files_text 1 files) (rows_text 0 (library_rows files)) (names_text (library_rows files)) ++ flat_map (λ file. file.bytes) files

-- ---- what is made of files

-- a file that is given, by its name and its bytes
pub record LibraryInput : Type 0 where
  pub name : List ℕ
  pub bytes : List ℕ

-- the segment is a dictionary
abbrev pub is_dictionary : Segment → Bool
is_dictionary s = form_of s.fields.kind == 0x08

-- the file is the one that was given, and each segment of it may be in a library: none is a dictionary
pub record IsMember (given : LibraryInput) (file : LibraryFile) : Type 0 where
  pub name : file.name ≡ given.name
  pub bytes : file.bytes ≡ given.bytes
  pub segments : IsFile file.segments file.bytes
  pub others : list_any is_dictionary file.segments ≡ false

abbrev pub AreMembers : List LibraryInput → List LibraryFile → Type 0
AreMembers [] [] = Unit {0}
AreMembers [] (file ∷ files) = ⊥
AreMembers (given ∷ all) [] = ⊥
AreMembers (given ∷ all) (file ∷ files) = IsMember given file × AreMembers all files

-- the bytes are the library of the given files
pub record IsLibraryOf (given : List LibraryInput) (bytes : List ℕ) : Type 0 where
  pub files : List LibraryFile
  pub members : AreMembers given files
  pub short : length bytes ≤ most_bytes
  pub made : bytes ≡ library_bytes files

-- the library of the given files would be longer than a file may be
pub record IsTooLong (given : List LibraryInput) : Type 0 where
  pub files : List LibraryFile
  pub members : AreMembers given files
  pub long : most_bytes < length (library_bytes files)

-- the first segment of a sound file that is a dictionary, with its number
pub record HasDictionary (bytes : List ℕ) (number at : ℕ) : Type 0 where
  pub before : List Segment
  pub dictionary : Segment
  pub following : List Segment
  pub is_file : IsFile (before ++ dictionary ∷ following) bytes
  pub none_before : list_any is_dictionary before ≡ false
  pub is : is_dictionary dictionary ≡ true
  pub number' : number ≡ length before + 1
  pub at' : at ≡ dictionary.start
