-- Lack of memory.
use Rattle.std.specs.Prelude.{None}
use Rattle.link_meaning.specs.declared.fault.LinkCause.TheVariants.{Memory}
use Rattle.link_meaning.specs.declared.fault.LinkFault.{LinkFault}
use Rattle.link_meaning.specs.LinkFaults.{no_spot}

-- as a fault it has no place
abbrev pub memory_fault : LinkFault
memory_fault = record { cause = Memory; name = None; spot = no_spot }
