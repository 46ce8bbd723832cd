-- Segments that are written from their fields and records, one after another, are read again as these (GS/OS Reference, appendix
-- F, "Segment header" and "Segment body").
use Rattle.std.proofs.Common.{◌≡◌, ℕ, ◌+◌, ◌<◌, false, true, List, [], ◌∷◌, ◌++◌, length, take, drop, refl, sym, ap, subst, ◌∙◌, append_assoc, arith}
use Rattle.std.specs.List.{flat_map, AllByRecursion}
use Rattle.std.proofs.lemmas.List.{append-nil, take_at, drop_at, length-append}
use Rattle.std.proofs.lemmas.List.Concat.{flat_map-cons}
use Rattle.omf_format.specs.Field.{length_width_of}
use Rattle.omf_format.specs.Header.{HeaderFields, fields_of, header_fault, written_fields, header_bytes, IsWritable}
use Rattle.omf_format.specs.laws.HeaderLaws.{drop-more}
use Rattle.omf_format.specs.WrittenHeader.{FitsWritten}
use Rattle.omf_format.specs.laws.WrittenHeaderLaws.{length-header, fields_of-written, header_fault-written}
use Rattle.omf_format.specs.Record.{Record}
use Rattle.omf_format.specs.Reading.{Reader, HandsOut}
use Rattle.omf_format.specs.File.{Segment, body_reader, IsSegment, AreSegments, IsFile}
use Rattle.object_meaning.specs.laws.RunLaws.{IsBodyRecord, reader_at, text, placed, runs}

-- ---- what is written

-- a segment that is to be written: its header's fields, and its records without END
pub record Sheet : Type 0 where
  pub fields : HeaderFields
  pub records : List Record

unfoldable pub sheet_text : Sheet → List ℕ
sheet_text sheet = header_bytes sheet.fields (length (text sheet.records)) ++ text sheet.records

-- which can be written: the fields fit into a header, and each record has a spelling
pub record IsSheet (sheet : Sheet) : Type 0 where
  pub fits : FitsWritten sheet.fields (length (text sheet.records))
  pub writable : IsWritable sheet.fields
  pub records' : AllByRecursion IsBodyRecord sheet.records

-- the segment has the fields and the records that were written
pub record IsSheetOf (sheet : Sheet) (s : Segment) : Type 0 where
  pub fields : s.fields ≡ written_fields sheet.fields (length (text sheet.records))
  pub end : ℕ
  pub records' : s.records ≡ placed end sheet.records

abbrev pub AreSheetsOf : List Sheet → List Segment → Type 0
AreSheetsOf [] [] = Unit {0}
AreSheetsOf [] (s ∷ segments) = ⊥
AreSheetsOf (sheet ∷ sheets) [] = ⊥
AreSheetsOf (sheet ∷ sheets) (s ∷ segments) = IsSheetOf sheet s × AreSheetsOf sheets segments

-- ---- where a segment is read from

body_cut : (front header body rest : List ℕ) (a h n : ℕ) → length front ≡ a → length header ≡ h → length body ≡ n
    → drop (a + h) (take (a + (h + n)) (front ++ ((header ++ body) ++ rest))) ≡ body
body_cut front header body rest a h n fa hh nn =
    let whole : take (a + (h + n)) (front ++ ((header ++ body) ++ rest)) ≡ front ++ (header ++ body) =
    ap (take (a + (h + n))) (sym (append_assoc front (header ++ body) rest))
    ∙ take_at (front ++ (header ++ body)) rest (a + (h + n)) (omega (arith, length-append front (header ++ body), length-append header body, fa, hh, nn)) in
    ap (drop (a + h)) whole ∙ drop-more front (header ++ body) a h fa ∙ drop_at header body h hh

reader-written : (f : HeaderFields) (at n : ℕ) (body file : List ℕ) → drop (at + (0x37 + length f.name)) (take (at + (0x37 + length f.name + n)) file) ≡ body
    → body_reader at (written_fields f n) file ≡ reader_at (at + (0x37 + length f.name + n)) body false
unfolding body_reader length_width_of
reader-written f at n body file cut = ap (λ (l : List ℕ). reader_at (at + (0x37 + length f.name + n)) l false) cut

-- ---- one segment

abbrev pub sheet_size : Sheet → ℕ
sheet_size sheet = 0x37 + length sheet.fields.name + length (text sheet.records)

pub length-sheet : (sheet : Sheet) → IsSheet sheet → length (sheet_text sheet) ≡ sheet_size sheet
unfolding sheet_text
length-sheet sheet is =
    let n = length (text sheet.records) in
    omega (arith, length-append (header_bytes sheet.fields n) (text sheet.records), length-header sheet.fields n is.fits.load_name)

sheet_read : ℕ → Sheet → Segment
sheet_read at sheet = record {
  start = at;
  fields = written_fields sheet.fields (length (text sheet.records));
  records = placed (at + sheet_size sheet) sheet.records;
}

record IsPart (at : ℕ) (sheet : Sheet) (rest file : List ℕ) : Type 0 where
  front : List ℕ
  size : length front ≡ at
  parts : file ≡ front ++ (sheet_text sheet ++ rest)

cut_there : (at : ℕ) (sheet : Sheet) (rest file : List ℕ) → IsSheet sheet → IsPart at sheet rest file
    → drop (at + (0x37 + length sheet.fields.name)) (take (at + sheet_size sheet) file) ≡ text sheet.records
unfolding sheet_text
cut_there at sheet rest file is part =
    let n = length (text sheet.records) in
    let header = header_bytes sheet.fields n in
    ap (λ (l : List ℕ). drop (at + (0x37 + length sheet.fields.name)) (take (at + sheet_size sheet) l)) part.parts
    ∙ body_cut part.front header (text sheet.records) rest at (0x37 + length sheet.fields.name) n part.size (length-header sheet.fields n is.fits.load_name) refl

is_segment : (at : ℕ) (sheet : Sheet) (rest file : List ℕ) → IsSheet sheet → IsPart at sheet rest file → IsSegment (sheet_read at sheet) file
unfolding sheet_read sheet_text
is_segment at sheet rest file is part =
    let f = sheet.fields in
    let body = text sheet.records in
    let n = length body in
    let end = at + sheet_size sheet in
    let there : drop at file ≡ header_bytes f n ++ (body ++ rest) =
    ap (drop at) part.parts ∙ drop_at part.front ((header_bytes f n ++ body) ++ rest) at part.size ∙ append_assoc (header_bytes f n) body rest in
    let reader : body_reader at (written_fields f n) file ≡ reader_at end body false = reader-written f at n body file (cut_there at sheet rest file is part) in
    record {
      header = record {
        passes = ap header_fault there ∙ header_fault-written f n (body ++ rest) is.fits is.writable (omega (arith, length-append body rest));
        fields = sym (ap fields_of there ∙ fields_of-written f n (body ++ rest) is.fits);
      };
      last = reader_at end [] true;
      records = subst (λ (r : Reader). HandsOut r (placed end sheet.records) (reader_at end [] true)) (sym reader) (runs sheet.records end is.records');
      ended = refl;
    }

is_sheet_of : (at : ℕ) (sheet : Sheet) → IsSheetOf sheet (sheet_read at sheet)
unfolding sheet_read
is_sheet_of at sheet = record { fields = refl; end = at + sheet_size sheet; records' = refl }

-- ---- the file

segments_from : ℕ → List Sheet → List Segment
segments_from at [] = []
segments_from at (sheet ∷ sheets) = sheet_read at sheet ∷ segments_from (at + sheet_size sheet) sheets

record IsLeft (at : ℕ) (sheets : List Sheet) (file : List ℕ) : Type 0 where
  front : List ℕ
  size : length front ≡ at
  parts : file ≡ front ++ flat_map sheet_text sheets

first_part : (at : ℕ) (sheet : Sheet) (sheets : List Sheet) (file : List ℕ) → IsLeft at (sheet ∷ sheets) file → IsPart at sheet (flat_map sheet_text sheets) file
first_part at sheet sheets file left = record { front = left.front; size = left.size; parts = left.parts ∙ ap (λ (l : List ℕ). left.front ++ l) (flat_map-cons sheet_text sheet sheets) }

others_left : (at : ℕ) (sheet : Sheet) (sheets : List Sheet) (file : List ℕ) → IsSheet sheet → IsLeft at (sheet ∷ sheets) file → IsLeft (at + sheet_size sheet) sheets file
others_left at sheet sheets file is left = record {
  front = left.front ++ sheet_text sheet;
  size = omega (arith, length-append left.front (sheet_text sheet), left.size, length-sheet sheet is);
  parts = left.parts ∙ ap (λ (l : List ℕ). left.front ++ l) (flat_map-cons sheet_text sheet sheets) ∙ sym (append_assoc left.front (sheet_text sheet) (flat_map sheet_text sheets));
}

inside : (at : ℕ) (sheet : Sheet) (rest file : List ℕ) → IsSheet sheet → IsPart at sheet rest file → at < length file
inside at sheet rest file is part =
    omega (arith, ap length part.parts, length-append part.front (sheet_text sheet ++ rest), length-append (sheet_text sheet) rest, length-sheet sheet is, part.size)

are_segments : (at : ℕ) (sheets : List Sheet) (file : List ℕ) → AllByRecursion IsSheet sheets → IsLeft at sheets file
    → AreSegments (segments_from at sheets) at file (length file) × AreSheetsOf sheets (segments_from at sheets)
unfolding segments_from sheet_read
are_segments at [] file all left = (sym (ap length (left.parts ∙ append-nil left.front) ∙ left.size), tt)
are_segments at (sheet ∷ sheets) file all left =
    let part = first_part at sheet sheets file left in
    let rest = flat_map sheet_text sheets in
    let others = are_segments (at + sheet_size sheet) sheets file all.1 (others_left at sheet sheets file all.0 left) in
    ((refl, inside at sheet rest file all.0 part, is_segment at sheet rest file all.0 part, others.0), (is_sheet_of at sheet, others.1))

-- What is written for segments is a file of exactly these.
pub file_of_sheets : (sheets : List Sheet) → AllByRecursion IsSheet sheets → (segments : List Segment) × IsFile segments (flat_map sheet_text sheets) × AreSheetsOf sheets segments
file_of_sheets sheets all =
    let both = are_segments 0 sheets (flat_map sheet_text sheets) all (record { front = []; size = refl; parts = refl }) in
    (segments_from 0 sheets, both.0, both.1)
