-- Why an input isn't read.
use Rattle.std.specs.Prelude.{◌≡◌, ◌⊎◌, ℕ, List}
use Rattle.link_meaning.specs.declared.fault.LinkFault.{LinkFault}
use Rattle.link_meaning.specs.LinkFaults.{HasFileFault}
use Rattle.link_program.specs.Memory.{memory_fault}

-- it is the first fault of the input with this number, unless out of memory
abbrev pub IsFileRefused : ℕ → List ℕ → LinkFault → Type 0
IsFileRefused file bytes fault = (fault ≡ memory_fault) ⊎ HasFileFault file bytes fault
