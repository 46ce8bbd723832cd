-- Steps of definitions, as words of laws and of contracts between functions.
use Rattle.std.specs.Prelude.{nat_le, not, ℕ, ◌&&◌, ◌==◌, if◌then◌else◌, List, codes, length, ◌+◌, ◌++◌, []}
use Rattle.dump_lines.specs.Listing.{record_text, labelled_number, expression_text, formula_name, hex_field}
use Rattle.omf_format.specs.Header.{HeaderFields}
use Rattle.omf_format.specs.Record.{Record}
use Rattle.omf_base.specs.Digits.{hexadecimal}
use Rattle.omf_base.specs.Lines.{line}
use Rattle.omf_format.specs.declared.codes.TheConstants.{RELEXPR}

-- a byte of a name in quotes: one outside $20 to $7E, and the quote itself, is shown as `?`
abbrev pub quoted_byte : ℕ → ℕ
quoted_byte byte = if nat_le 0x20 byte && nat_le byte 0x7E && not (byte == 0x22) then byte else 0x3F

-- a byte of a name: one outside $21 to $7E is shown as `?`
abbrev pub printable_byte : ℕ → ℕ
printable_byte byte = if nat_le 0x21 byte && nat_le byte 0x7E then byte else 0x3F

-- a record: its displacement in the file, its name and its fields
abbrev pub record_line : ℕ → ℕ × Record → List ℕ
record_line width found = line (hexadecimal 8 found.0 ++ record_text width found.1)

-- the numbers of a header, KIND in four digits
abbrev pub numbers_text : HeaderFields → List ℕ
numbers_text f = codes " kind " ++ hexadecimal 4 f.kind ++ labelled_number (codes " length ") f.length ++ labelled_number (codes " resspc ") f.res_spc
    ++ labelled_number (codes " banksize ") f.bank_size ++ labelled_number (codes " align ") f.align ++ labelled_number (codes " org ") f.org
    ++ labelled_number (codes " entry ") f.entry

-- only RELEXPR has an n
abbrev pub formula_text : ℕ → ℕ → ℕ → List ℕ → List ℕ
formula_text code count n expr = formula_name code ++ hex_field 2 count ++ (if code == RELEXPR then hex_field 8 n else []) ++ expression_text expr
