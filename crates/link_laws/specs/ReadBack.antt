-- The names of a linked file as they are read back: what it exports, and the paths of the files with which it was linked.
use Rattle.std.specs.Prelude.{◌≡◌, ℕ, ◌&&◌, nat_lt, List, [], ◌∷◌, map, Ok, Err, Result, if◌then◌else◌}
use Rattle.std.specs.List.{flat_map}
use Rattle.omf_format.specs.declared.value.Value.{Value}
use Rattle.omf_format.specs.declared.value.Value.TheVariants.{Fixed, At}
use Rattle.omf_format.specs.declared.value.ValueFault.{ValueFault}
use Rattle.omf_format.specs.Value.{is_unshifted}
use Rattle.omf_format.specs.Header.{HeaderFields}
use Rattle.omf_format.specs.File.{Segment, IsFile}
use Rattle.object_meaning.specs.Defines.{ForSegment, ForUnit, ForAll}
use Rattle.load_meaning.specs.Exports.{Export, exports_of}
use Rattle.load_meaning.specs.Pathnames.{paths_of}
use Rattle.link_meaning.specs.declared.form.LinkForm.TheVariants.{Program, Runtime as LibraryForm}
use Rattle.link_meaning.specs.Member.{Member}
use Rattle.link_meaning.specs.Search.{FoundDefinition, entries}
use Rattle.link_meaning.specs.Layout.{load_headers}
use Rattle.link_meaning.specs.LinkValues.{EquateAnswer, found_value}
use Rattle.link_meaning.specs.Fitting.{length_of}
use Rattle.link_meaning.specs.LinkFaults.{LinkInput, HasBytes}
use Rattle.link_meaning.specs.EmitFaults.{IsLinkedTo}

-- the export of a name with this value: a place without a shift, below LENGTH of its load segment; the first segment has it
abbrev pub export_as : List HeaderFields → List ℕ → Result Value ValueFault → List Export
export_as headers name (Err fault) = []
export_as headers name (Ok (Fixed n)) = []
export_as headers name (Ok (At file segment offset shift)) =
    if is_unshifted shift && nat_lt offset (length_of headers segment)
    then record { name = name; segment = segment; offset = offset; holder = 1 } ∷ [] else []

-- the export of a definition that all see
abbrev pub public_name : List Member → List EquateAnswer → FoundDefinition → List Export
public_name list table f = elim f.definition.scope [
  | ForSegment ↦ []
  | ForUnit ↦ []
  | ForAll ↦ export_as (load_headers list) f.definition.name (found_value list table f)
]

-- those of the list, in list and record order
abbrev pub public_names : List Member → List EquateAnswer → List Export
public_names list table = flat_map (public_name list table) (entries list)

-- ---- laws

-- A run-time library file exports what all see of its list's definitions, and a program nothing.
abbrev pub ExportsAreReadBack : Type 0
ExportsAreReadBack = (given : LinkInput) (output : List ℕ) → HasBytes given → (is : IsLinkedTo given output)
    → (segments : List Segment) → IsFile segments output
    → exports_of segments ≡ elim given.form [ Program ↦ [] | LibraryForm ↦ public_names is.list is.table ]

-- The rows of the pathname segment are the paths of the given run-time library files, in their order.
abbrev pub PathsAreReadBack : Type 0
PathsAreReadBack = (given : LinkInput) (output : List ℕ) → HasBytes given → IsLinkedTo given output → (segments : List Segment) → IsFile segments output
    → paths_of segments ≡ map (λ file. file.0) given.runtimes
