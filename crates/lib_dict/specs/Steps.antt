-- Steps of definitions, as words of laws and of contracts between functions.
use Rattle.std.specs.Prelude.{Bool, List, Option, ℕ, ◌+◌, ◌++◌, None, Some, false, true, if◌then◌else◌}
use Rattle.object_meaning.specs.Defines.{Definition, ForAll, ForSegment, ForUnit, Scope, defined_in}
use Rattle.omf_format.specs.Record.{End, LongConst, spelling}
use Rattle.omf_format.specs.Field.{written_layout}
use Rattle.lib_dict.specs.Library.{LibraryRow}
use Rattle.byteorder.specs.Endian.{little_bytes}
use Rattle.omf_format.specs.File.{Segment}
use Rattle.std.specs.List.{filter_map}

-- its body: the three records, and END
abbrev pub dictionary_body : List ℕ → List ℕ → List ℕ → List ℕ
dictionary_body first second third =
    spelling written_layout (LongConst first) ++ (spelling written_layout (LongConst second) ++ (spelling written_layout (LongConst third) ++ spelling written_layout End))

-- a name that the segment has for others than itself, and whether it is private
abbrev pub name_in : Scope → List ℕ → Option (List ℕ × Bool)
name_in scope name = elim scope [ ForSegment ↦ None | ForUnit ↦ Some (name, true) | ForAll ↦ Some (name, false) ]

abbrev pub outer_name : Definition → Option (List ℕ × Bool)
outer_name d = name_in d.scope d.name

-- a row: where its name is in the third record, its file's number, 1 where it is private, and where its segment starts
abbrev pub row_text : ℕ → LibraryRow → List ℕ
row_text name row = little_bytes 4 name ++ (little_bytes 2 row.file ++ (little_bytes 2 (if row.private then 1 else 0) ++ little_bytes 4 row.at))

-- its SEGNAME, where it has one, and then its GLOBAL and GEQU names in record order
abbrev pub outer_names : Segment → List (List ℕ × Bool)
outer_names s =
    filter_map (λ d. elim d.scope [ ForSegment ↦ None | ForUnit ↦ Some (d.name, true) | ForAll ↦ Some (d.name, false) ]) (defined_in s)
