-- What is made of files is read as their library.
use Rattle.std.proofs.Common.{◌≡◌, ℕ, suc, ◌+◌, ◌-◌, ◌*◌, ◌<◌, ◌≤◌, true, false, List, [], ◌∷◌, ◌++◌, length, take, drop, map, Result, Ok, Err, refl, sym, ap, subst, ◌∙◌, append_assoc, arith}
use Rattle.std.specs.List.{flat_map, AllByRecursion}
use Rattle.std.proofs.lemmas.List.{append-nil, length-append, length-map, take_at, drop_at}
use Rattle.std.proofs.lemmas.List.Concat.{flat_map-cons}
use Rattle.std.proofs.Math.Seq.{drop-append-add, take-append-add}
use Rattle.omf_format.specs.Field.{Layout, layout_of, length_width_of, written_layout}
use Rattle.omf_format.specs.laws.FieldLaws.{IsBytes-drop, IsBytes-front}
use Rattle.omf_format.specs.Header.{HeaderFields, fields_of, header_fault, header_bytes, written_fields, IsWritable}
use Rattle.omf_format.specs.Number.{IsBytes}
use Rattle.omf_format.specs.WrittenHeader.{FitsWritten}
use Rattle.omf_format.specs.laws.WrittenHeaderLaws.{length-header, fields_of-written, header_fault-written}
use Rattle.omf_format.specs.Record.{Record, End, LongConst, spelling}
use Rattle.omf_format.specs.Reading.{Reader, HandsOut}
use Rattle.omf_format.specs.File.{Segment, body_reader, IsSegment, AreSegments, IsFile}
use Rattle.omf_format.specs.laws.FileLaws.{file_same, no_file}
use Rattle.object_meaning.specs.laws.RunLaws.{reader_at, text, placed, IsBodyRecord, runs}
use Rattle.link_meaning.specs.Member.{OfferedRow, is_library}
use Rattle.link_meaning.specs.Dictionary.{rows_of}
use Rattle.lib_dict.specs.declared.fault.DictFault.{DictFault}
use Rattle.lib_dict.specs.declared.fault.DictFault.TheVariants as dict
use Rattle.lib_dict.specs.Library.{LibraryRow, row_view, HasRows, LibraryInput, LibraryFile, AreMembers, IsLibraryOf, files_text, names_text, rows_text, rows_from, dictionary_fields, dictionary_text, dictionary_size, library_rows, library_bytes}
use Rattle.object_meaning.specs.Sizes.{most_bytes}
use Rattle.lib_dict.specs.Steps.{dictionary_body}
use Rattle.lib_dict.specs.Rows.{HasNoRows}
use Rattle.lib_dict.specs.Sizes.{IsReadFile, total_bytes}
use Rattle.lib_dict.specs.DictionaryLayout.{counted_name, AreFileNumbers, AreRows, IsDictionary}
use Rattle.lib_dict.specs.MadeReads.{IsReadBack}
use Rattle.lib_dict.proofs.LayoutReads.{laid_out_is_read}
use Rattle.lib_dict.proofs.SizeLaws.{length-rows, length-body, length-dictionary, length-library, size_is, library_moved, names_moved, rows_before}
use Rattle.lib_dict.proofs.MovedLaws.{bytes_of, IsWhole, members_of, members_are}
use Rattle.lib_dict.proofs.BorneLaws.{IsBorne, IsOther, numbers_of, borne_files, file_numbers_are, row_name, names_are, linked, reported_is, StartsLow, rows_are}

-- ---- the dictionary's segment

abbrev records_in : List ℕ → List ℕ → List ℕ → List Record
records_in first second third = LongConst first ∷ LongConst second ∷ LongConst third ∷ []

body_is : (first second third : List ℕ) → dictionary_body first second third ≡ text (records_in first second third)
body_is first second third =
    let w = spelling written_layout in
    let a = w (LongConst first) in
    let b = w (LongConst second) in
    let c = w (LongConst third) in
    let e = w End in
    let parts : flat_map w (records_in first second third) ≡ a ++ (b ++ (c ++ [])) =
    flat_map-cons w (LongConst first) (LongConst second ∷ LongConst third ∷ [])
    ∙ ap (λ (l : List ℕ). a ++ l) (flat_map-cons w (LongConst second) (LongConst third ∷ []))
    ∙ ap (λ (l : List ℕ). a ++ (b ++ l)) (flat_map-cons w (LongConst third) []) in
    sym (
    ap (λ (l : List ℕ). l ++ e) parts
    ∙ append_assoc a (b ++ (c ++ [])) e
    ∙ ap (λ (l : List ℕ). a ++ l) (append_assoc b (c ++ []) e)
    ∙ ap (λ (l : List ℕ). a ++ (b ++ (l ++ e))) (append-nil c)
    )

-- the header's fields
abbrev dictionary_header : List ℕ → List ℕ → List ℕ → HeaderFields
dictionary_header first second third = written_fields (dictionary_fields (length first + length second + length third)) (length (dictionary_body first second third))

abbrev dictionary_segment : List ℕ → List ℕ → List ℕ → Segment
dictionary_segment first second third = record {
  start = 0;
  fields = dictionary_header first second third;
  records = placed (0x37 + 10 + length (dictionary_body first second third)) (records_in first second third);
}

fits : (n body : ℕ) → n ≤ most_bytes → body ≤ most_bytes → FitsWritten (dictionary_fields n) body
fits n body small few = record {
  res_spc = omega arith;
  length = omega arith;
  bank_size = omega arith;
  kind = omega arith;
  org = omega arith;
  align = omega arith;
  seg_num = omega arith;
  entry = omega arith;
  load_name = refl;
  name = omega arith;
  total = omega arith;
}

written_two : layout_of 2 0 ≡ written_layout
unfolding length_width_of
written_two = refl

-- the reader of its body is before the three records
body_reader_is : (first second third rest : List ℕ)
    → body_reader 0 (dictionary_header first second third) (dictionary_text first second third ++ rest) ≡ reader_at (0x37 + 10 + length (dictionary_body first second third)) (dictionary_body first second third) false
unfolding body_reader dictionary_text
body_reader_is first second third rest =
    let body = dictionary_body first second third in
    let f = dictionary_fields (length first + length second + length third) in
    let header = header_bytes f (length body) in
    let long : length header ≡ 0x37 + 10 = length-header f (length body) refl in
    let whole : (header ++ body) ++ rest ≡ header ++ (body ++ rest) = append_assoc header body rest in
    let count : 0 + (0x37 + 10 + length body) ≡ length header + length body = omega (arith, long) in
    let start : 0 + (0x37 + 10) ≡ length header + 0 = omega (arith, long) in
    let front : take (0 + (0x37 + 10 + length body)) ((header ++ body) ++ rest) ≡ header ++ body =
    ap (λ (n : ℕ). take n ((header ++ body) ++ rest)) count ∙ ap (take (length header + length body)) whole ∙ take-append-add header (body ++ rest) (length body) ∙ ap (λ (l : List ℕ). header ++ l) (take_at body rest (length body) refl) in
    let left : drop (0 + (0x37 + 10)) (take (0 + (0x37 + 10 + length body)) ((header ++ body) ++ rest)) ≡ body =
    ap (drop (0 + (0x37 + 10))) front ∙ ap (λ (n : ℕ). drop n (header ++ body)) start ∙ drop-append-add header body 0 in
    let plain : 0 + (0x37 + 10 + length body) ≡ 0x37 + 10 + length body = omega arith in
    ap (λ (n : ℕ). at n (drop (0 + (0x37 + 10)) (take (0 + (0x37 + 10 + length body)) ((header ++ body) ++ rest))) (layout_of 2 0)) plain
    ∙ ap (λ (l : List ℕ). at (0x37 + 10 + length body) l (layout_of 2 0)) left
    ∙ ap (at (0x37 + 10 + length body) body) written_two
  where
    at : ℕ → List ℕ → Layout → Reader
    at end left layout = record { end = end; left = left; ended = false; layout = layout }

dictionary_stands : (first second third rest : List ℕ) → length first + length second + length third + 81 ≤ most_bytes
    → IsSegment (dictionary_segment first second third) (dictionary_text first second third ++ rest)
unfolding dictionary_text
dictionary_stands first second third rest small =
    let body = dictionary_body first second third in
    let n = length first + length second + length third in
    let f = dictionary_fields n in
    let size = length-body first second third in
    let fit : FitsWritten f (length body) = fits n (length body) (omega arith) (omega arith) in
    let whole : (header_bytes f (length body) ++ body) ++ rest ≡ header_bytes f (length body) ++ (body ++ rest) = append_assoc (header_bytes f (length body)) body rest in
    let writable : IsWritable f = record { version = refl; banks = omega arith; listed = refl; spaced = omega arith } in
    let three : AllByRecursion IsBodyRecord (records_in first second third) = ((omega arith, refl), ((omega arith, refl), ((omega arith, refl), tt))) in
    let end = 0x37 + 10 + length body in
    let run : HandsOut (reader_at end body false) (placed end (records_in first second third)) (reader_at end [] true) =
    subst (λ (l : List ℕ). HandsOut (reader_at end l false) (placed end (records_in first second third)) (reader_at end [] true)) (sym (body_is first second third)) (runs (records_in first second third) end three) in
    record {
      header = record {
        passes = ap header_fault whole ∙ header_fault-written f (length body) (body ++ rest) fit writable (omega (arith, length-append body rest));
        fields = sym (ap fields_of whole ∙ fields_of-written f (length body) (body ++ rest) fit);
      };
      last = reader_at end [] true;
      records = subst (λ (r : Reader). HandsOut r (placed end (records_in first second third)) (reader_at end [] true)) (sym (body_reader_is first second third rest)) run;
      ended = refl;
    }

-- ---- the files

members_whole : (given : List LibraryInput) (files : List LibraryFile) → AreMembers given files → IsBytes (flat_map bytes_of files) → AllByRecursion IsWhole files
members_whole [] [] are fit = tt
members_whole [] (file ∷ files) are fit = absurd are
members_whole (g ∷ given) [] are fit = absurd are
members_whole (g ∷ given) (file ∷ files) are fit =
    let rest = flat_map bytes_of files in
    let parts : flat_map bytes_of (file ∷ files) ≡ file.bytes ++ rest = flat_map-cons bytes_of file files in
    let following : IsBytes rest = subst IsBytes (ap (drop (length file.bytes)) parts ∙ drop_at file.bytes rest (length file.bytes) refl) (IsBytes-drop (length file.bytes) (flat_map bytes_of (file ∷ files)) fit) in
    (record { segments = are.0.segments; fits = IsBytes-front (flat_map bytes_of (file ∷ files)) file.bytes rest fit parts }, members_whole given files are.1 following)

members_other : (given : List LibraryInput) (files : List LibraryFile) → AreMembers given files → AllByRecursion IsOther files
members_other [] [] are = tt
members_other [] (file ∷ files) are = absurd are
members_other (g ∷ given) [] are = absurd are
members_other (g ∷ given) (file ∷ files) are = (are.0.others, members_other given files are.1)

members_read : (given : List LibraryInput) (files : List LibraryFile) → AreMembers given files → total_bytes files < 4294967296 → AllByRecursion IsReadFile files
members_read [] [] are small = tt
members_read [] (file ∷ files) are small = absurd are
members_read (g ∷ given) [] are small = absurd are
members_read (g ∷ given) (file ∷ files) are small = (record { segments = are.0.segments; short = omega arith }, members_read given files are.1 (omega arith))

members_length : (given : List LibraryInput) (files : List LibraryFile) → AreMembers given files → length files ≡ length given
members_length [] [] are = refl
members_length [] (file ∷ files) are = absurd are
members_length (g ∷ given) [] are = absurd are
members_length (g ∷ given) (file ∷ files) are = ap suc (members_length given files are.1)

given_bytes : (given : List LibraryInput) (files : List LibraryFile) → AreMembers given files → flat_map bytes_of files ≡ flat_map (λ (g : LibraryInput). g.bytes) given
given_bytes [] [] are = refl
given_bytes [] (file ∷ files) are = absurd are
given_bytes (g ∷ given) [] are = absurd are
given_bytes (g ∷ given) (file ∷ files) are =
    flat_map-cons bytes_of file files
    ∙ ap (λ (l : List ℕ). l ++ flat_map bytes_of files) are.0.bytes
    ∙ ap (λ (l : List ℕ). g.bytes ++ l) (given_bytes given files are.1)
    ∙ sym (flat_map-cons (λ (g : LibraryInput). g.bytes) g given)

-- ---- the whole

-- the library of these files, part by part
record Made (files : List LibraryFile) : Type 0 where
  first : List ℕ
  first_is : first ≡ files_text 1 files
  second : List ℕ
  second_is : second ≡ rows_text 0 (library_rows files)
  third : List ℕ
  third_is : third ≡ names_text (library_rows files)
  bytes_are : library_bytes files ≡ dictionary_text first second third ++ flat_map bytes_of files
  size : dictionary_size files ≡ length (dictionary_text first second third)
  small : length first + length second + length third + 81 + total_bytes files ≤ most_bytes

made_of : (files : List LibraryFile) → length (library_bytes files) ≤ most_bytes → Made files
unfolding library_bytes
made_of files short =
    let rows = library_rows files in
    let first = files_text 1 files in
    let second = rows_text 0 rows in
    let third = names_text rows in
    let moved = library_moved files in
    let count : length rows ≡ length (rows_from 1 0 files) = ap length moved ∙ length-map (rows_from 1 0 files) _ in
    let names : length third ≡ length (names_text (rows_from 1 0 files)) = ap (λ (l : List LibraryRow). length (names_text l)) moved ∙ ap length (names_moved (dictionary_size files) (rows_from 1 0 files)) in
    let place : dictionary_size files ≡ 81 + length first + 12 * length (rows_from 1 0 files) + length (names_text (rows_from 1 0 files)) = size_is files in
    let whole : length (dictionary_text first second third) ≡ 81 + (length first + length second + length third) = length-dictionary first second third in
    let twelve : length second ≡ 12 * length rows = length-rows 0 rows in
    let all : length (library_bytes files) ≡ dictionary_size files + total_bytes files = length-library files in
    record {
      first = first;
      first_is = refl;
      second = second;
      second_is = refl;
      third = third;
      third_is = refl;
      bytes_are = refl;
      size = omega arith;
      small = omega arith;
    }

abbrev segments_in : (files : List LibraryFile) → Made files → List Segment
segments_in files m = dictionary_segment m.first m.second m.third ∷ members_of (dictionary_size files) files

made_is_file : (files : List LibraryFile) (m : Made files) → AllByRecursion IsWhole files → IsFile (segments_in files m) (library_bytes files)
made_is_file files m all =
    let d = dictionary_text m.first m.second m.third in
    let rest = flat_map bytes_of files in
    let bytes = library_bytes files in
    let n = length m.first + length m.second + length m.third in
    let long : length d ≡ 81 + n = length-dictionary m.first m.second m.third in
    let body : length (dictionary_body m.first m.second m.third) ≡ 16 + n = length-body m.first m.second m.third in
    let count : length d ≡ 0 + (0x37 + 10 + length (dictionary_body m.first m.second m.third)) = omega arith in
    let others : AreSegments (members_of (length d) files) (length d) bytes (length bytes) = members_are d files bytes all m.bytes_are in
    let some : 0 < length bytes = omega (arith, ap length m.bytes_are, length-append d rest) in
    let standing : IsSegment (dictionary_segment m.first m.second m.third) bytes =
    subst (IsSegment (dictionary_segment m.first m.second m.third)) (sym m.bytes_are) (dictionary_stands m.first m.second m.third rest (omega (arith, m.small))) in (
      refl,
      some,
      standing,
      subst (λ (k : ℕ). AreSegments (members_of k files) (0 + (0x37 + 10 + length (dictionary_body m.first m.second m.third))) bytes (length bytes)) (sym m.size)
          (subst (λ (k : ℕ). AreSegments (members_of (length d) files) k bytes (length bytes)) count others),
    )

abbrev rows_borne : (files : List LibraryFile) → Made files → Type 0
rows_borne files m = AllByRecursion (IsBorne (segments_in files m) (numbers_of 1 files)) (library_rows files)

made_borne : (files : List LibraryFile) (m : Made files) → length files ≤ 65535 → AllByRecursion IsOther files → rows_borne files m
unfolding library_rows
made_borne files m few all =
    borne_files (segments_in files m) (numbers_of 1 files) 1 (dictionary_size files) (dictionary_segment m.first m.second m.third ∷ []) [] files refl refl (omega arith) (omega arith) all

made_low : (files : List LibraryFile) (m : Made files) → AllByRecursion IsReadFile files → AllByRecursion StartsLow (library_rows files)
unfolding library_rows
made_low files m all =
    rows_before 1 (dictionary_size files) files all 4294967296 (omega (arith, m.size, m.small, length-dictionary m.first m.second m.third))

made_is_dictionary : (files : List LibraryFile) (m : Made files) → length files ≤ 65535 → AllByRecursion StartsLow (library_rows files) → (b : rows_borne files m)
    → IsDictionary (segments_in files m) (linked (segments_in files m) (numbers_of 1 files) (library_rows files) b)
made_is_dictionary files m few low b =
    let rows = library_rows files in
    let names = map row_name rows in
    let segments = segments_in files m in
    let third : m.third ≡ flat_map counted_name names = m.third_is ∙ names_are rows in
    let end = 0x37 + 10 + length (dictionary_body m.first m.second m.third) in
    let numbers = numbers_of 1 files in
    record {
      dictionary = dictionary_segment m.first m.second m.third;
      others = members_of (dictionary_size files) files;
      parts = refl;
      a = end - length (text (records_in m.first m.second m.third));
      first = m.first;
      b = end - length (text (LongConst m.second ∷ LongConst m.third ∷ []));
      second = m.second;
      c = end - length (text (LongConst m.third ∷ []));
      third = m.third;
      e = (end - 1, End);
      records = refl;
      numbers = numbers;
      files = subst (AreFileNumbers numbers) (sym m.first_is) (file_numbers_are 1 files (omega arith) (omega arith));
      names = names;
      named = third;
      rows' =
          subst (AreRows segments numbers names (linked segments numbers rows b)) (sym m.second_is)
          (rows_are segments numbers names [] rows 0 b refl refl (omega (arith, ap length third, m.small)) low);
    }

made_rows : (files : List LibraryFile) → length (library_bytes files) ≤ most_bytes → length files ≤ 65535 → AllByRecursion IsWhole files → AllByRecursion IsOther files → AllByRecursion IsReadFile files
    → HasRows (library_bytes files) (library_rows files)
made_rows files short few whole other read =
    let m = made_of files short in
    let segments = segments_in files m in
    let b = made_borne files m few other in
    let is = made_is_file files m whole in
    let found = linked segments (numbers_of 1 files) (library_rows files) b in
    record {
      segments = segments;
      is_file = is;
      library = refl;
      found = found;
      read = laid_out_is_read (library_bytes files) segments found is (made_is_dictionary files m few (made_low files m read) b);
      reported = reported_is segments (numbers_of 1 files) (library_rows files) b;
    }

-- ---- read in one way alone

abbrev read_as : List OfferedRow → Result (List OfferedRow) ℕ
read_as rows = Ok rows

rows_same : (a b : List OfferedRow) → read_as a ≡ read_as b → a ≡ b
rows_same a b e = cc

one_reading : (bytes : List ℕ) (a b : List LibraryRow) → HasRows bytes a → HasRows bytes b → a ≡ b
one_reading bytes a b p q =
    let segments : p.segments ≡ q.segments = file_same p.segments q.segments bytes p.is_file q.is_file in
    let found : p.found ≡ q.found = rows_same p.found q.found (sym p.read ∙ ap rows_of segments ∙ q.read) in
    p.reported ∙ ap (λ (s : List Segment). map (row_view s) p.found) segments ∙ ap (map (row_view q.segments)) found ∙ sym q.reported

never_refused : (bytes : List ℕ) (rows : List LibraryRow) (fault : DictFault) → HasRows bytes rows → HasNoRows fault bytes → fault ≡ dict.Memory
never_refused bytes rows (dict.File fault) h why = absurd (no_file bytes fault h.segments why h.is_file)
never_refused bytes rows dict.NotLibrary h why =
    let same : why.segments ≡ h.segments = file_same why.segments h.segments bytes why.is_file h.is_file in
    absurd (differ (sym why.other ∙ ap is_library same ∙ h.library))
  where
    differ : false ≡ true → ⊥
    differ e = cc
never_refused bytes rows (dict.BadLibrary at) h why =
    let same : h.segments ≡ why.segments = file_same h.segments why.segments bytes h.is_file why.is_file in
    absurd (differ h.found at (sym h.read ∙ ap rows_of same ∙ why.false'))
  where
    failed : ℕ → Result (List OfferedRow) ℕ
    failed at = Err at

    differ : (found : List OfferedRow) (at : ℕ) → read_as found ≡ failed at → ⊥
    differ found at e = cc
never_refused bytes rows dict.Memory h why = refl

pub made_is_read : (given : List LibraryInput) (bytes : List ℕ) → IsBytes bytes → length given ≤ 65535 → (made : IsLibraryOf given bytes) → IsReadBack given made.files bytes
made_is_read given bytes fit few made =
    let files = made.files in
    let rest = flat_map bytes_of files in
    let short : length (library_bytes files) ≤ most_bytes = omega (arith, made.short, ap length made.made) in
    let m = made_of files short in
    let d = dictionary_text m.first m.second m.third in
    let whole : bytes ≡ d ++ rest = made.made ∙ m.bytes_are in
    let dropped : drop (dictionary_size files) bytes ≡ rest = ap (drop (dictionary_size files)) whole ∙ drop_at d rest (dictionary_size files) (sym m.size) in
    let rest_fits : IsBytes rest = subst IsBytes dropped (IsBytes-drop (dictionary_size files) bytes fit) in
    let count = members_length given files made.members in
    let small : total_bytes files < 4294967296 = omega (arith, m.small) in
    let has = made_rows files short (omega (arith, count)) (members_whole given files made.members rest_fits) (members_other given files made.members) (members_read given files made.members small) in
    let rows : HasRows bytes (library_rows files) = subst (λ (l : List ℕ). HasRows l (library_rows files)) (sym made.made) has in
    record {
      rows = rows;
      no_others = λ others h. one_reading bytes others (library_rows files) h rows;
      no_fault = λ fault why. never_refused bytes (library_rows files) fault rows why;
      following = dropped ∙ given_bytes given files made.members;
    }
