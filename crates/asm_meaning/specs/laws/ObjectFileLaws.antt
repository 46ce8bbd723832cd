-- Why an object is a file: its segments have the headers and the records that the lines leave, LENGTH is the number of cells, and
-- the linker takes the place of a label from where its LOCAL or GLOBAL is.
use Rattle.std.proofs.Common.{◌≡◌, ℕ, ◌+◌, ◌^◌, ◌<◌, ◌≤◌, false, true, List, [], ◌∷◌, ◌++◌, length, take, drop, map, refl, sym, ap, subst, ◌∙◌, append_assoc, append-nil, arith}
use Rattle.std.specs.List.{flat_map, AllByRecursion}
use Rattle.std.proofs.lemmas.List.{take_at, drop_at, length-append}
use Rattle.std.proofs.lemmas.List.Concat.{flat_map-cons, flat_map-append}
use Rattle.omf_format.specs.Field.{written_layout, length_width_of}
use Rattle.omf_format.specs.Header.{HeaderFields, fields_of, header_fault, written_fields, header_bytes, IsWritable}
use Rattle.omf_format.specs.laws.HeaderLaws.{drop-more}
use Rattle.omf_format.specs.WrittenHeader.{FitsWritten}
use Rattle.omf_format.specs.laws.WrittenHeaderLaws.{length-header, fields_of-written, header_fault-written}
use Rattle.omf_format.specs.Record.{Record, End, spelling}
use Rattle.omf_format.specs.Reading.{Reader, HandsOut}
use Rattle.omf_format.specs.File as format
use Rattle.omf_format.specs.File.{body_reader, IsSegment, AreSegments, IsFile}
use Rattle.object_meaning.specs.laws.RunLaws.{IsBodyRecord, reader_at, text, placed, runs}
use Rattle.object_meaning.specs.Sizes.{size_at, body_size}
use Rattle.object_meaning.specs.Sizes as sizes
use Rattle.asm_meaning.specs.Object.{records_text, segment_text, object_text, most_bytes}
use Rattle.asm_meaning.specs.Pieces.{place_after}
use Rattle.asm_meaning.specs.State.{FinishedSegment}
use Rattle.asm_meaning.specs.laws.PieceLaws.{plain_fit, place_after-append}
use Rattle.asm_meaning.specs.laws.Sound.{IsSoundEnded}
use Rattle.asm_meaning.specs.ObjectFile.{IsReadAs, AreReadAs}

-- ---- a segment

-- how many bytes a segment has
abbrev body_of : FinishedSegment → List ℕ
body_of e = records_text e.body

abbrev size_of : FinishedSegment → ℕ
size_of e = 0x37 + length e.header.name + length (body_of e)

-- the widths of the header, and the bytes of the whole
record IsFit (e : FinishedSegment) : Type 0 where
  sound : IsSoundEnded e
  small : size_of e < 2 ^ 32

fits_written : (e : FinishedSegment) → IsFit e → FitsWritten e.header (length (body_of e))
fits_written e fit = record {
  res_spc = omega (arith, fit.sound.header.res_spc);
  length = omega (arith, fit.sound.short);
  bank_size = omega (arith, fit.sound.header.bank_size);
  kind = fit.sound.header.kind;
  org = fit.sound.header.org;
  align = fit.sound.header.align;
  seg_num = fit.sound.header.seg_num;
  entry = omega (arith, fit.sound.header.entry);
  load_name = fit.sound.header.load_name;
  name = fit.sound.header.name.1;
  total = fit.small;
}

writable : (e : FinishedSegment) → IsFit e → IsWritable e.header
writable e fit = record {
  version = fit.sound.header.version;
  banks = fit.sound.header.bank_size;
  listed = fit.sound.header.listed;
  spaced = omega (arith, fit.sound.header.res_spc);
}

length-segment : (e : FinishedSegment) → IsFit e → length (segment_text e) ≡ size_of e
unfolding segment_text
length-segment e fit =
    let n = length (body_of e) in
    omega (arith, length-append (header_bytes e.header n) (body_of e), length-header e.header n fit.sound.header.load_name)

segment_read : ℕ → (e : FinishedSegment) → IsFit e → format.Segment
segment_read at e fit = record { start = at; fields = written_fields e.header (length (body_of e)); records = placed (at + size_of e) fit.sound.inner }

body_is : (e : FinishedSegment) (fit : IsFit e) → body_of e ≡ text fit.sound.inner
unfolding records_text
body_is e fit =
    ap (flat_map (spelling written_layout)) fit.sound.body
    ∙ flat_map-append (spelling written_layout) fit.sound.inner (End ∷ [])
    ∙ ap (λ (l : List ℕ). flat_map (spelling written_layout) fit.sound.inner ++ l) (flat_map-cons (spelling written_layout) End [] ∙ append-nil (spelling written_layout End))

inner_fit : (e : FinishedSegment) (fit : IsFit e) → AllByRecursion IsBodyRecord fit.sound.inner
inner_fit e fit =
    let cells : e.header.length ≡ place_after (place_after 0 fit.sound.inner) (End ∷ []) =
    fit.sound.length' ∙ ap (place_after 0) fit.sound.body ∙ place_after-append 0 fit.sound.inner (End ∷ []) in
    plain_fit 0 fit.sound.inner fit.sound.plain (omega (arith, cells, fit.sound.short, Rattle.asm_meaning.specs.laws.PieceLaws.place_after-le (place_after 0 fit.sound.inner) (End ∷ [])))

-- ---- where it is in the file

body_cut : (front header body rest : List ℕ) (a h n : ℕ) → length front ≡ a → length header ≡ h → length body ≡ n
    → drop (a + h) (take (a + (h + n)) (front ++ ((header ++ body) ++ rest))) ≡ body
body_cut front header body rest a h n fa hh nn =
    let whole : take (a + (h + n)) (front ++ ((header ++ body) ++ rest)) ≡ front ++ (header ++ body) =
    ap (take (a + (h + n))) (sym (append_assoc front (header ++ body) rest))
    ∙ take_at (front ++ (header ++ body)) rest (a + (h + n)) (omega (arith, length-append front (header ++ body), length-append header body, fa, hh, nn)) in
    ap (drop (a + h)) whole ∙ drop-more front (header ++ body) a h fa ∙ drop_at header body h hh

record IsPart (at : ℕ) (e : FinishedSegment) (rest file : List ℕ) : Type 0 where
  front : List ℕ
  size : length front ≡ at
  parts : file ≡ front ++ (segment_text e ++ rest)

cut_there : (at : ℕ) (e : FinishedSegment) (rest file : List ℕ) → IsFit e → IsPart at e rest file
    → drop (at + (0x37 + length e.header.name)) (take (at + size_of e) file) ≡ body_of e
unfolding segment_text
cut_there at e rest file fit part =
    let n = length (body_of e) in
    let header = header_bytes e.header n in
    ap (λ (l : List ℕ). drop (at + (0x37 + length e.header.name)) (take (at + size_of e) l)) part.parts
    ∙ body_cut part.front header (body_of e) rest at (0x37 + length e.header.name) n part.size (length-header e.header n fit.sound.header.load_name) refl

reader-written : (f : HeaderFields) (at n : ℕ) (body file : List ℕ) → drop (at + (0x37 + length f.name)) (take (at + (0x37 + length f.name + n)) file) ≡ body
    → body_reader at (written_fields f n) file ≡ reader_at (at + (0x37 + length f.name + n)) body false
unfolding body_reader length_width_of
reader-written f at n body file cut = ap (λ (l : List ℕ). reader_at (at + (0x37 + length f.name + n)) l false) cut

is_segment : (at : ℕ) (e : FinishedSegment) (rest file : List ℕ) (fit : IsFit e) → IsPart at e rest file → IsSegment (segment_read at e fit) file
unfolding segment_read segment_text
is_segment at e rest file fit part =
    let f = e.header in
    let body = body_of e in
    let n = length body in
    let end = at + size_of e in
    let rs = fit.sound.inner in
    let there : drop at file ≡ header_bytes f n ++ (body ++ rest) =
    ap (drop at) part.parts ∙ drop_at part.front ((header_bytes f n ++ body) ++ rest) at part.size ∙ append_assoc (header_bytes f n) body rest in
    let reader : body_reader at (written_fields f n) file ≡ reader_at end (text rs) false =
    reader-written f at n body file (cut_there at e rest file fit part) ∙ ap (λ (l : List ℕ). reader_at end l false) (body_is e fit) in
    record {
      header = record {
        passes = ap header_fault there ∙ header_fault-written f n (body ++ rest) (fits_written e fit) (writable e fit) (omega (arith, length-append body rest));
        fields = sym (ap fields_of there ∙ fields_of-written f n (body ++ rest) (fits_written e fit));
      };
      last = reader_at end [] true;
      records = subst (λ (r : Reader). HandsOut r (placed end rs) (reader_at end [] true)) (sym reader) (runs rs end (inner_fit e fit));
      ended = refl;
    }

records_placed : (end : ℕ) (rs : List Record) → map (λ (found : ℕ × Record). found.1) (placed end rs) ≡ rs ++ End ∷ []
records_placed end [] = refl
records_placed end (r ∷ rs) = ap (λ (l : List Record). r ∷ l) (records_placed end rs)

-- the linker counts the same cells
pub same_place : (at : ℕ) (founds : List (ℕ × Record)) → sizes.place_after at founds ≡ place_after at (map (λ found. found.1) founds)
unfolding place_after
same_place at [] = refl
same_place at (found ∷ founds) = same_place (at + size_at at found.1) founds

is_read_as : (at : ℕ) (e : FinishedSegment) (fit : IsFit e) → IsReadAs e (segment_read at e fit)
unfolding segment_read body_size
is_read_as at e fit =
    let rs = fit.sound.inner in
    let records : map (λ (found : ℕ × Record). found.1) (placed (at + size_of e) rs) ≡ e.body = records_placed (at + size_of e) rs ∙ sym fit.sound.body in
    record {
      fields = refl;
      records = records;
      cells = fit.sound.length' ∙ ap (place_after 0) (sym records) ∙ sym (same_place 0 (placed (at + size_of e) rs));
    }

-- ---- the file

abbrev AreFit : List FinishedSegment → Type 0
AreFit ended = AllByRecursion IsFit ended

segments_from : (at : ℕ) (ended : List FinishedSegment) → AreFit ended → List format.Segment
segments_from at [] fit = []
segments_from at (e ∷ ended) fit = segment_read at e fit.0 ∷ segments_from (at + size_of e) ended fit.1

record IsLeft (at : ℕ) (ended : List FinishedSegment) (file : List ℕ) : Type 0 where
  front : List ℕ
  size : length front ≡ at
  parts : file ≡ front ++ flat_map segment_text ended

first_part : (at : ℕ) (e : FinishedSegment) (ended : List FinishedSegment) (file : List ℕ) → IsLeft at (e ∷ ended) file → IsPart at e (flat_map segment_text ended) file
first_part at e ended file left = record { front = left.front; size = left.size; parts = left.parts ∙ ap (λ (l : List ℕ). left.front ++ l) (flat_map-cons segment_text e ended) }

others_left : (at : ℕ) (e : FinishedSegment) (ended : List FinishedSegment) (file : List ℕ) → IsFit e → IsLeft at (e ∷ ended) file → IsLeft (at + size_of e) ended file
others_left at e ended file fit left = record {
  front = left.front ++ segment_text e;
  size = omega (arith, length-append left.front (segment_text e), left.size, length-segment e fit);
  parts = left.parts ∙ ap (λ (l : List ℕ). left.front ++ l) (flat_map-cons segment_text e ended) ∙ sym (append_assoc left.front (segment_text e) (flat_map segment_text ended));
}

inside : (at : ℕ) (e : FinishedSegment) (rest file : List ℕ) → IsFit e → IsPart at e rest file → at < length file
inside at e rest file fit part =
    omega (arith, ap length part.parts, length-append part.front (segment_text e ++ rest), length-append (segment_text e) rest, length-segment e fit, part.size)

are_segments : (at : ℕ) (ended : List FinishedSegment) (file : List ℕ) (fit : AreFit ended) → IsLeft at ended file
    → AreSegments (segments_from at ended fit) at file (length file) × AreReadAs ended (segments_from at ended fit)
unfolding segments_from segment_read
are_segments at [] file fit left = (sym (ap length (left.parts ∙ append-nil left.front) ∙ left.size), tt)
are_segments at (e ∷ ended) file fit left =
    let part = first_part at e ended file left in
    let rest = flat_map segment_text ended in
    let others = are_segments (at + size_of e) ended file fit.1 (others_left at e ended file fit.0 left) in
    ((refl, inside at e rest file fit.0 part, is_segment at e rest file fit.0 part, others.0), (is_read_as at e fit.0, others.1))

-- each segment is no longer than the whole
segments_fit : (ended : List FinishedSegment) → AllByRecursion IsSoundEnded ended → length (flat_map segment_text ended) < 2 ^ 31 → AreFit ended
unfolding segment_text
segments_fit [] sound short = tt
segments_fit (e ∷ ended) sound short =
    let n = length (body_of e) in
    let whole = ap length (flat_map-cons segment_text e ended) in
    let first : length (header_bytes e.header n) ≡ 0x37 + length e.header.name = length-header e.header n sound.0.header.load_name in
    let size : size_of e < 2 ^ 32 = omega (arith, whole, length-append (segment_text e) (flat_map segment_text ended), length-append (header_bytes e.header n) (body_of e), first, short) in
    let rest : length (flat_map segment_text ended) < 2 ^ 31 = omega (arith, whole, length-append (segment_text e) (flat_map segment_text ended), short) in
    (record { sound = sound.0; small = size }, segments_fit ended sound.1 rest)

-- sound segments are read again
pub ended_are_file : (ended : List FinishedSegment) → AllByRecursion IsSoundEnded ended → length (object_text ended) ≤ most_bytes → (segments : List format.Segment) × IsFile segments (object_text ended) × AreReadAs ended segments
unfolding object_text
ended_are_file ended sound short =
    let fit = segments_fit ended sound (omega (arith, short)) in
    let both = are_segments 0 ended (flat_map segment_text ended) fit (record { front = []; size = refl; parts = refl }) in
    (segments_from 0 ended fit, both.0, both.1)
