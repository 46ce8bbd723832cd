-- `dump`: the listing of the input, or its first fault.
use Rattle.std.specs.Prelude.{◌≡◌, ℕ, List, None}
use Rattle.omf_format.specs.declared.fault.FileFault.{FileFault}
use Rattle.omf_format.specs.File.{IsFirstFault}
use Rattle.dump_lines.specs.Listing.{IsListing}
use Rattle.omf_making.specs.FileCauses.{cause_name}
use Rattle.omf_making.specs.Lines.{refused_line}
use Rattle.omf_making.specs.Made.{Made, Bytes, Refusal, first_of}

-- the fault is in file 1
abbrev pub DumpMakes : List (List ℕ) → Made → Type 0
DumpMakes files (Bytes text) = IsListing (first_of files) text
DumpMakes files (Refusal text) = (fault : FileFault) × IsFirstFault (first_of files) fault × (text ≡ refused_line (cause_name fault.cause) None 1 fault.segment fault.at)
