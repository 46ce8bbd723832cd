-- The lines that the tool prints, each with its line end.
use Rattle.std.specs.Prelude.{ℕ, List, [], ◌++◌, codes, Option, None, Some}
use Rattle.omf_base.specs.Digits.{decimal, hexadecimal}
use Rattle.omf_base.specs.Lines.{line}
use Rattle.dump_lines.specs.Listing.{name_text}

abbrev pub usage_line : List ℕ
usage_line = line (codes "usage: omf asm, link, lib, dump, run, stress, rtl, linkrt, list or compact")

abbrev pub cannot_read_line : List ℕ → List ℕ
cannot_read_line path = line (codes "cannot read " ++ path)

-- a cause, its name, if it has one, and its spot: the file and the segment in decimal, and the displacement in eight hexadecimal
-- digits
abbrev pub refused_line : List ℕ → Option (List ℕ) → ℕ → ℕ → ℕ → List ℕ
refused_line cause name file segment at =
    line (codes "refused " ++ cause ++ (elim name [ None ↦ [] | Some text ↦ name_text text ]) ++ codes " " ++ decimal file ++ codes " " ++ decimal segment ++ codes " " ++ hexadecimal 8 at)

-- a cause against a script, with the line's number in decimal
abbrev pub script_line : List ℕ → ℕ → List ℕ
script_line cause number = line (codes "refused " ++ cause ++ codes " " ++ decimal number)

-- a cause against a source or a macro file, with the file's number and the line's in decimal
abbrev pub line_fault_line : List ℕ → ℕ → ℕ → List ℕ
line_fault_line cause file number = line (codes "refused " ++ cause ++ codes " " ++ decimal file ++ codes " " ++ decimal number)
