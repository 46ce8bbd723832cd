-- The answer for a load file without a broken part that isn't too long is a load file that holds the same.
use Rattle.std.proofs.Common.{◌≡◌, ℕ, zero, suc, ◌+◌, ◌≤◌, List, [], ◌∷◌, ◌++◌, length, map, Option, Some, None, refl, sym, ap, subst, ◌∙◌, arith}
use Rattle.std.specs.Prelude.{slice_get, option_map}
use Rattle.std.specs.List.{flat_map, AllByRecursion}
use Rattle.std.specs.Option.{option_or}
use Rattle.std.proofs.lemmas.List.{length-append, length-replicate, length-map}
use Rattle.std.proofs.lemmas.List.Concat.{flat_map-cons}
use Rattle.std.proofs.lemmas.Grind.{flat_map-append}
use Rattle.byteorder.specs.Endian.{little_bytes}
use Rattle.byteorder.specs.Numbers.{length-bytes_low_first}
use Rattle.omf_format.specs.Field.{written_layout, layout_of}
use Rattle.omf_format.specs.Header.{header_bytes}
use Rattle.omf_format.specs.Number.{IsBytes}
use Rattle.omf_format.specs.laws.WrittenHeaderLaws.{length-header}
use Rattle.omf_format.specs.Record.{Record, End, LongConst, spelling}
use Rattle.omf_format.specs.File.{Segment}
use Rattle.load_meaning.specs.Cells.{Cell, Byte, Patch, cells, byte_under}
use Rattle.load_meaning.specs.laws.CellLaws.{length-cells, loadable_at, loadable_has}
use Rattle.load_meaning.specs.Loadable.{IsLoadable}
use Rattle.load_meaning.specs.WrittenBody.{data_records, written_data, zeros_after, body_records, lone_record, supers_from}
use Rattle.load_meaning.specs.laws.Steps.{patches_stored_alone}
use Rattle.load_meaning.specs.laws.StoredLaws.{zeros_left}
use Rattle.load_meaning.specs.laws.WrittenBodyLaws.{length-written}
use Rattle.object_meaning.specs.laws.RunLaws.{text}
use Rattle.omf_compact.specs.Stretches.{first_broken, stretches, bytes_in, IsWrittenCell}
use Rattle.omf_compact.specs.laws.Words.{canon_records}
use Rattle.omf_compact.specs.laws.StretchLaws.{stretches_written, given_back}
use Rattle.omf_compact.specs.laws.Fronts.{front, zero_cells, front-zeros}
use Rattle.omf_compact.specs.Canonical.{Plain, plain_of, plain, broken_in, canon_fields, canon_segment, canon_from, canon}
use Rattle.omf_compact.specs.laws.CanonLaws.{IsHeld, AreHeld, IsSmall, AreSmall, records-plain, read_again}
use Rattle.omf_compact.specs.laws.LoadableAgain.{loadable_again}
use Rattle.omf_compact.specs.laws.PathnameLaws.{path-is, lone_of, lone_patches, cells-again}
use Rattle.omf_compact.specs.laws.HeldLaws.{segment-read, cell-written, all-cells, entries-are}

-- ---- what is held

both_none : (number : ℕ) (o : Option ℕ) (rest : Option (ℕ × ℕ)) → option_or (option_map (λ (at : ℕ). (number, at)) o) rest ≡ None → (o ≡ None) × (rest ≡ None)
both_none number None rest e = (refl, e)
both_none number (Some at) rest e = absurd cc

unbroken-at : (number : ℕ) (segments : List Segment) (k : ℕ) (s : Segment) → broken_in number (plain segments) ≡ None → slice_get segments k ≡ Some s → first_broken (cells s) ≡ None
unfolding plain_of
unbroken-at number [] k s un is = absurd cc
unbroken-at number (t ∷ segments) zero s un is =
    subst (λ (u : Segment). first_broken (cells u) ≡ None) (same t s is) (both_none number (first_broken (cells t)) (broken_in (number + 1) (plain segments)) un).0
  where
    some : Segment → Option Segment
    some u = Some u

    same : (a b : Segment) → Some a ≡ Some b → a ≡ b
    same a b e = cc
unbroken-at number (t ∷ segments) (suc k) s un is = unbroken-at (number + 1) segments k s (both_none number (first_broken (cells t)) (broken_in (number + 1) (plain segments)) un).1 is

-- what a segment without a broken part holds can be written
pub segment_held : (file : List ℕ) (segments : List Segment) (k : ℕ) (s : Segment) → IsBytes file → IsLoadable file segments → first_broken (cells s) ≡ None → slice_get segments k ≡ Some s → IsHeld (1 + k) (plain_of s)
unfolding plain_of
segment_held file segments k s fits loadable un is =
    let of = loadable_at file segments loadable (suc k) s is in
    let sound = loadable_has file segments loadable (suc k) s is in
    let read = segment-read s file fits of.segment in
    let entries = entries-are (layout_of s.fields.version s.fields.lab_len) s.records read.fields.lab_len read.records' in
    record {
      number' = omega (arith, read.fields.seg_num, of.shape.number');
      length' = read.fields.length';
      kind = read.fields.kind;
      bank_size = read.fields.bank_size;
      org = read.fields.org;
      align = read.fields.align;
      entry = read.fields.entry;
      load_name = read.fields.load_name;
      name = read.fields.name;
      listed = read.fields.listed;
      sized = sym (length-cells segments (suc k) s sound);
      unbroken = un;
      written = all-cells IsWrittenCell (cells s) (λ j c at. cell-written segments (suc k) s j c sound read at);
      entries' = entries.0;
      spelled = entries.1;
      paths = λ path. cells-again s (lone_patches s (lone_of file segments k s loadable is (sym (path-is s) ∙ path)));
    }

held-from : (number : ℕ) (segments : List Segment) → ((k : ℕ) (s : Segment) → slice_get segments k ≡ Some s → IsHeld (number + k) (plain_of s)) → AreHeld number (plain segments)
held-from number [] each = tt
held-from number (s ∷ segments) each =
    let place : number + 0 ≡ number = omega arith in (
      subst (λ (n : ℕ). IsHeld n (plain_of s)) place (each 0 s refl),
      held-from (number + 1) segments (λ k t is. let next : number + suc k ≡ number + 1 + k = omega arith in subst (λ (n : ℕ). IsHeld n (plain_of t)) next (each (suc k) t is)),
    )

pub are_held : (file : List ℕ) (segments : List Segment) → IsBytes file → IsLoadable file segments → broken_in 1 (plain segments) ≡ None → AreHeld 1 (plain segments)
are_held file segments fits loadable un = held-from 1 segments (λ k s is. segment_held file segments k s fits loadable (unbroken-at 1 segments k s un is) is)

-- ---- how long it is

-- the data that are written are the cells without the zeros at their end
pub data-length : (own : ℕ) (of : List Cell) → first_broken of ≡ None → AllByRecursion IsWrittenCell of → length (written_data own (bytes_in of) (stretches of)) ≡ length (front of)
data-length own of un all =
    let left = zeros_left own (bytes_in of) (stretches of) (stretches_written of all) ∙ ap zeros_after (given_back of un all) in
    omega (arith, left, length-written own (bytes_in of) (stretches of), length-map of byte_under, ap length (front-zeros of), length-append (front of) (zero_cells (zeros_after of)), length-replicate {A = Cell} (zeros_after of) (Byte 0))

data-text : (bytes : List ℕ) → length bytes ≤ length (flat_map (spelling written_layout) (data_records bytes))
unfolding spelling
data-text [] = omega arith
data-text (b ∷ bytes) =
    omega (
      arith,
      ap length (flat_map-cons (spelling written_layout) (LongConst (b ∷ bytes)) []),
      length-append (spelling written_layout (LongConst (b ∷ bytes))) [],
      length-append (little_bytes 4 (length (b ∷ bytes))) (b ∷ bytes),
      length-bytes_low_first 0 4 (length (b ∷ bytes)),
    )

pub text-longer : (own : ℕ) (content : List ℕ) (patches : List Patch) (more : List Record) → length (written_data own content patches) ≤ length (text (body_records own content patches ++ more))
unfolding body_records
text-longer own content patches more =
    let d = written_data own content patches in
    let rest = map (lone_record own) (patches_stored_alone own patches) ++ supers_from own patches 0 38 in
    let f = spelling written_layout in
    omega (
      arith,
      data-text d,
      ap length (flat_map-append f (data_records d ++ rest) more),
      length-append (flat_map f (data_records d ++ rest)) (flat_map f more),
      ap length (flat_map-append f (data_records d) rest),
      length-append (flat_map f (data_records d)) (flat_map f rest),
      length-append (flat_map f ((data_records d ++ rest) ++ more)) (f End),
    )

pub segment-length : (number : ℕ) (p : Plain) → length p.load_name ≡ 10 → length (canon_segment number p) ≡ 0x37 + length p.name + length (text (canon_records number p))
unfolding canon_segment canon_fields
segment-length number p ten =
    let n = length (text (canon_records number p)) in
    omega (arith, length-append (header_bytes (canon_fields number p) n) (text (canon_records number p)), length-header (canon_fields number p) n ten)

is_small : (number : ℕ) (p : Plain) → IsHeld number p → length (canon_segment number p) ≤ 16777216 → IsSmall number p
is_small number p held short =
    let size = segment-length number p held.load_name in
    record {
      data' = λ other. omega (arith, size, short, ap (λ (l : List Record). length (text l)) (records-plain number p other), text-longer number (bytes_in p.cells') (stretches p.cells') p.entries, data-length number p.cells' held.unbroken held.written);
      total = omega (arith, size, short);
    }

small-from : (number : ℕ) (plains : List Plain) → AreHeld number plains → length (canon_from number plains) ≤ 16777216 → AreSmall number plains
small-from number [] held short = tt
small-from number (p ∷ plains) held short =
    let both = length-append (canon_segment number p) (canon_from (number + 1) plains) in
    (is_small number p held.0 (omega (arith, both, short)), small-from (number + 1) plains held.1 (omega (arith, both, short)))

-- ---- the law

pub answer_is_loaded : (file : List ℕ) (segments : List Segment) → IsBytes file → IsLoadable file segments → broken_in 1 (plain segments) ≡ None → length (canon (plain segments)) ≤ 16777216
    → (others : List Segment) × IsLoadable (canon (plain segments)) others × (plain others ≡ plain segments)
unfolding canon
answer_is_loaded file segments fits loadable un short =
    let held = are_held file segments fits loadable un in
    let made = read_again (plain segments) held (small-from 1 (plain segments) held (canon-short (plain segments) short)) in
    (made.0, loadable_again file (canon (plain segments)) segments made.0 loadable made.1 (sym made.2) held made.3, made.2)
  where
    canon-short : (plains : List Plain) → length (canon plains) ≤ 16777216 → length (canon_from 1 plains) ≤ 16777216
    canon-short plains e = e
