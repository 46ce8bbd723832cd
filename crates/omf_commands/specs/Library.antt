-- `lib`: the library of the inputs, whose names are their paths.
use Rattle.std.specs.Prelude.{◌≡◌, ◌≢◌, ℕ, List, [], ◌∷◌, None}
use Rattle.lib_dict.specs.declared.fault.LibFault.{LibFault}
use Rattle.lib_dict.specs.declared.fault.LibCause.TheVariants as lib
use Rattle.lib_dict.specs.Library.{LibraryInput, IsLibraryOf}
use Rattle.lib_dict.specs.Made.{IsLibRefused}
use Rattle.omf_commands.specs.LibCauses.{lib_cause_name}
use Rattle.omf_making.specs.Lines.{refused_line}
use Rattle.omf_making.specs.Made.{Made, Bytes, Refusal}

-- the files, each with its path as its name
abbrev pub given_of : List (List ℕ) → List (List ℕ) → List LibraryInput
given_of (path ∷ paths) (file ∷ files) = record { name = path; bytes = file } ∷ given_of paths files
given_of [] files = []
given_of (path ∷ paths) [] = []

-- the library, or the first fault of the files, which isn't lack of memory
abbrev pub LibMakes : List (List ℕ) → List (List ℕ) → Made → Type 0
LibMakes paths files (Bytes bytes) = IsLibraryOf (given_of paths files) bytes
LibMakes paths files (Refusal text) =
    (fault : LibFault) × IsLibRefused fault (given_of paths files) × (fault.cause ≢ lib.Memory)
    × (text ≡ refused_line (lib_cause_name fault.cause) None fault.spot.file fault.spot.segment fault.spot.at)

-- the line of a fault other than out of memory
abbrev pub ReportsFault : LibFault → Made → Type 0
ReportsFault fault (Bytes bytes) = ⊥
ReportsFault fault (Refusal text) = (fault.cause ≢ lib.Memory) × (text ≡ refused_line (lib_cause_name fault.cause) None fault.spot.file fault.spot.segment fault.spot.at)
