-- What a load file holds, in whatever way it is written, and the one file that is written for it (GS/OS Reference, appendix F;
-- the one fixed form is this project's own).
use Rattle.std.specs.Prelude.{ℕ, ◌+◌, ◌==◌, Bool, true, false, List, [], ◌∷◌, ◌++◌, length, map, Option, None, option_map, if◌then◌else◌}
use Rattle.std.specs.List.{filter, flat_map}
use Rattle.std.specs.Option.{option_or}
use Rattle.omf_format.specs.Header.{HeaderFields, form_of, header_bytes}
use Rattle.omf_format.specs.Field.{written_layout}
use Rattle.omf_format.specs.Record.{Record, spelling, End, LongConst, Entry}
use Rattle.omf_format.specs.File.{Segment}
use Rattle.load_meaning.specs.Cells.{Cell, cells}
use Rattle.load_meaning.specs.WrittenBody.{zeros_after, body_records}
use Rattle.omf_compact.specs.Stretches.{first_broken, stretches, bytes_in}

-- ---- what is held

-- an ENTRY record
abbrev pub is_entry : Record → Bool
is_entry (Entry segment offset name) = true
is_entry _ = false

-- a segment's header as far as it says something of the segment in memory, its cells, and its ENTRY records in order
pub record Plain : Type 0 where
  pub load_name : List ℕ
  pub name : List ℕ
  pub length : ℕ
  pub kind : ℕ
  pub bank_size : ℕ
  pub org : ℕ
  pub align : ℕ
  pub entry : ℕ
  pub cells' : List Cell
  pub entries : List Record

unfoldable pub plain_of : Segment → Plain
plain_of s = record {
  load_name = s.fields.load_name;
  name = s.fields.name;
  length = s.fields.length;
  kind = s.fields.kind;
  bank_size = s.fields.bank_size;
  org = s.fields.org;
  align = s.fields.align;
  entry = s.fields.entry;
  cells' = cells s;
  entries = filter is_entry (map (λ found. found.1) s.records);
}

abbrev pub plain : List Segment → List Plain
plain segments = map plain_of segments

-- the first broken part, as its segment's number and its place there; the first segment has this number
abbrev pub broken_in : ℕ → List Plain → Option (ℕ × ℕ)
broken_in number [] = None
broken_in number (p ∷ plains) = option_or (option_map (λ at. (number, at)) (first_broken p.cells')) (broken_in (number + 1) plains)

-- ---- the file that is written

-- a pathname segment has all its bytes in one LCONST
abbrev pub is_pathname : Plain → Bool
is_pathname p = form_of p.kind == 0x04

-- RESSPC counts the zeros that the data leave out
unfoldable pub canon_fields : ℕ → Plain → HeaderFields
canon_fields number p = record {
  byte_count = 0;
  res_spc = if is_pathname p then 0 else zeros_after p.cells';
  length = p.length;
  lab_len = 0;
  version = 2;
  bank_size = p.bank_size;
  kind = p.kind;
  org = p.org;
  align = p.align;
  seg_num = number;
  entry = p.entry;
  disp_name = 0;
  disp_data = 0;
  load_name = p.load_name;
  name = p.name;
}

-- the header, and after it the data and the patches of the cells, the ENTRY records, and END
unfoldable pub canon_segment : ℕ → Plain → List ℕ
canon_segment number p =
    let content = if is_pathname p then LongConst (bytes_in p.cells') ∷ [] else body_records number (bytes_in p.cells') (stretches p.cells') in
    let body = flat_map (spelling written_layout) (content ++ p.entries) ++ spelling written_layout End in
    header_bytes (canon_fields number p) (length body) ++ body

-- the segments one after another, where the first has this number
abbrev pub canon_from : ℕ → List Plain → List ℕ
canon_from number [] = []
canon_from number (p ∷ plains) = canon_segment number p ++ canon_from (number + 1) plains

unfoldable pub canon : List Plain → List ℕ
canon plains = canon_from 1 plains
