-- What linking returns, lack of memory aside.
use Rattle.std.specs.Prelude.{◌≡◌, ◌⊎◌, List}
use Rattle.link_meaning.specs.declared.fault.LinkFault.{LinkFault}
use Rattle.link_meaning.specs.Member.{Member}
use Rattle.link_meaning.specs.LinkFaults.{LinkInput}
use Rattle.link_meaning.specs.EmitFaults.{IsFirstEmitFault, IsFirstLinkFault}
use Rattle.link_program.specs.Memory.{memory_fault}

-- it is the first fault of the list in the phases after layout, unless out of memory
abbrev pub IsEmitRefused : List Member → LinkFault → Type 0
IsEmitRefused list fault = (fault ≡ memory_fault) ⊎ IsFirstEmitFault list fault

-- it is the first fault of what is given, unless out of memory
abbrev pub IsLinkRefused : LinkInput → LinkFault → Type 0
IsLinkRefused given fault = (fault ≡ memory_fault) ⊎ IsFirstLinkFault given fault
