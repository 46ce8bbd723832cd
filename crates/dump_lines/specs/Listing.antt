-- The listing of a file: a line for each segment, and a line for each of its records.
use Rattle.std.specs.Prelude.{◌≡◌, ℕ, suc, ◌+◌, ◌*◌, ◌&&◌, not, ℤ, List, [], ◌∷◌, ◌++◌, length, take, map, codes, nat_le, nat_lt, ◌==◌, if◌then◌else◌}
use Rattle.std.specs.List.{flat_map}
use Rattle.omf_base.specs.Digits.{decimal, hexadecimal}
use Rattle.omf_format.specs.declared.codes.TheConstants.{EXPR, ZEXPR, BEXPR, RELEXPR}
use Rattle.omf_format.specs.Header.{HeaderFields}
use Rattle.omf_format.specs.Field.{Layout, length_width_of, shift_byte}
use Rattle.omf_format.specs.Record.{Record, End, Const, LongConst, Align, Org, Space, Reloc, InterSeg, ShortReloc, ShortInterSeg, Super, Using, Strong, Label, Equate, Formula, Entry, IsRecord}
use Rattle.omf_format.specs.File.{Segment, IsFile}
use Rattle.omf_base.specs.Lines.{line}

-- a name in quotes: a byte outside $20 to $7E, and the quote itself, is shown as `?`
unfoldable pub quoted_name : List ℕ → List ℕ
quoted_name name =
    codes "\"" ++ map (λ byte. if nat_le 0x20 byte && nat_le byte 0x7E && not (byte == 0x22) then byte else 0x3F) name ++ codes "\""

-- bytes in hexadecimal, two digits each
unfoldable pub hex_bytes : List ℕ → List ℕ
hex_bytes bytes = flat_map (λ byte. hexadecimal 2 byte) bytes

-- a label and a number in eight digits
abbrev pub labelled_number : List ℕ → ℕ → List ℕ
labelled_number label n = label ++ hexadecimal 8 n

-- a segment: its number from 1, where it starts, and what its header says
unfoldable pub segment_line : ℕ → ℕ → HeaderFields → List ℕ
segment_line number start f = line (codes "segment " ++ decimal number ++ labelled_number (codes " at ") start
    ++ (codes " kind " ++ hexadecimal 4 f.kind ++ labelled_number (codes " length ") f.length ++ labelled_number (codes " resspc ") f.res_spc
    ++ labelled_number (codes " banksize ") f.bank_size ++ labelled_number (codes " align ") f.align ++ labelled_number (codes " org ") f.org
    ++ labelled_number (codes " entry ") f.entry)
    ++ (codes " loadname " ++ quoted_name f.load_name ++ codes " segname " ++ quoted_name f.name))

-- ---- the fields of records, each with one space before it

-- a number in a given number of digits
abbrev pub hex_field : ℕ → ℕ → List ℕ
hex_field digits n = codes " " ++ hexadecimal digits n

-- a name, without quotes: a byte outside $21 to $7E is shown as `?`
unfoldable pub name_text : List ℕ → List ℕ
name_text name = codes " " ++ map (λ byte. if nat_le 0x21 byte && nat_le byte 0x7E then byte else 0x3F) name

-- all bytes of an expression
unfoldable pub expression_text : List ℕ → List ℕ
expression_text expr = codes " " ++ hex_bytes expr

-- how many constant bytes there are, and the first 16 of them, with `..` after them where there are more
unfoldable pub constant_text : List ℕ → List ℕ
constant_text bytes =
    hex_field 8 (length bytes) ++ codes " " ++ (hex_bytes (take 16 bytes) ++ (if nat_lt 16 (length bytes) then codes ".." else []))

-- the count and the shift of a patch
unfoldable pub patch_text : ℕ → ℤ → List ℕ
patch_text count shift = hex_field 2 count ++ hex_field 2 (shift_byte shift)

-- a label's name, its length, which takes `width` bytes in the file, its type and its private byte
unfoldable pub label_text : ℕ → List ℕ → ℕ → ℕ → ℕ → List ℕ
label_text width name size form private = name_text name ++ hex_field (2 * width) size ++ hex_field 2 form ++ hex_field 2 private

-- which formula the code means
abbrev pub formula_name : ℕ → List ℕ
formula_name code =
    if code == EXPR then codes " EXPR"
    else if code == ZEXPR then codes " ZEXPR"
    else if code == BEXPR then codes " BEXPR"
    else if code == RELEXPR then codes " RELEXPR"
    else codes " LEXPR"

-- a record's name and its fields, where the length of a label takes `width` bytes; of a SUPER the length, which counts its type and its
-- subrecords, and the type
unfoldable pub record_text : ℕ → Record → List ℕ
record_text width End = codes " END"
record_text width (Const bytes) = codes " CONST" ++ constant_text bytes
record_text width (LongConst bytes) = codes " LCONST" ++ constant_text bytes
record_text width (Align n) = codes " ALIGN" ++ hex_field 8 n
record_text width (Org n) = codes " ORG" ++ hex_field 8 n
record_text width (Space n) = codes " DS" ++ hex_field 8 n
record_text width (Reloc count shift location offset) = codes " RELOC" ++ patch_text count shift ++ hex_field 8 location ++ hex_field 8 offset
record_text width (InterSeg count shift location file segment offset) =
    codes " INTERSEG" ++ patch_text count shift ++ hex_field 8 location ++ hex_field 4 file ++ hex_field 4 segment ++ hex_field 8 offset
record_text width (ShortReloc count shift location offset) = codes " cRELOC" ++ patch_text count shift ++ hex_field 4 location ++ hex_field 4 offset
record_text width (ShortInterSeg count shift location segment offset) =
    codes " cINTERSEG" ++ patch_text count shift ++ hex_field 4 location ++ hex_field 2 segment ++ hex_field 4 offset
record_text width (Super form bytes) = codes " SUPER" ++ hex_field 8 (length bytes + 1) ++ hex_field 2 form
record_text width (Using name) = codes " USING" ++ name_text name
record_text width (Strong name) = codes " STRONG" ++ name_text name
record_text width (Label global name size form private) = (if global then codes " GLOBAL" else codes " LOCAL") ++ label_text width name size form private
record_text width (Equate global name size form private expr) =
    (if global then codes " GEQU" else codes " EQU") ++ label_text width name size form private ++ expression_text expr
record_text width (Formula code count n expr) =
    formula_name code ++ hex_field 2 count ++ (if code == RELEXPR then hex_field 8 n else []) ++ expression_text expr
record_text width (Entry segment offset name) = codes " ENTRY" ++ hex_field 4 segment ++ hex_field 8 offset ++ name_text name

-- a segment and its records
unfoldable pub segment_text : ℕ → Segment → List ℕ
segment_text number s = segment_line number s.start s.fields
    ++ flat_map (λ found. line (hexadecimal 8 found.0 ++ record_text (length_width_of s.fields.version) found.1)) s.records

-- segments one after another, of which the first has this number
abbrev pub listing_from : ℕ → List Segment → List ℕ
listing_from number [] = []
listing_from number (s ∷ segments) = segment_text number s ++ listing_from (suc number) segments

-- the file is a list of segments, and this is their listing
pub record IsListing (file text : List ℕ) : Type 0 where
  pub segments : List Segment
  pub is_file : IsFile segments file
  pub is : text ≡ listing_from 1 segments

-- the record has a spelling under some layout
abbrev pub HasSpelling : Record → Type 0
HasSpelling r = (layout : Layout) × IsRecord layout r
