-- Faults that a file has unless out of memory.
use Rattle.std.proofs.Common.{◌≡◌, refl}
use Rattle.load_meaning.specs.declared.load.LoadCause.{LoadCause}
use Rattle.load_meaning.specs.declared.load.LoadCause.TheVariants.{NotLoadFile, Truncated, BadHeader, Unsupported, BadRecord, Sequence, DataTooLong, PatchOutside, NoSuchTarget, DynamicTarget, BadTable, Memory}
use Rattle.load_meaning.specs.declared.load.LoadFault.{LoadFault}
use Rattle.load_content.specs.Views.{UnlessMemory}

-- a fault with a cause other than memory
pub unless : (c : LoadCause) (fault : LoadFault) (P : Type 0) → (c ≡ Memory → ⊥) → P → UnlessMemory c fault P
unless NotLoadFile fault P named h = h
unless Truncated fault P named h = h
unless BadHeader fault P named h = h
unless Unsupported fault P named h = h
unless BadRecord fault P named h = h
unless Sequence fault P named h = h
unless DataTooLong fault P named h = h
unless PatchOutside fault P named h = h
unless NoSuchTarget fault P named h = h
unless DynamicTarget fault P named h = h
unless BadTable fault P named h = h
unless Memory fault P named h = absurd (named refl)

-- a clause that follows from another one
pub unless_then : (c : LoadCause) (fault : LoadFault) (P Q : Type 0) → (P → Q) → UnlessMemory c fault P → UnlessMemory c fault Q
unless_then NotLoadFile fault P Q f h = f h
unless_then Truncated fault P Q f h = f h
unless_then BadHeader fault P Q f h = f h
unless_then Unsupported fault P Q f h = f h
unless_then BadRecord fault P Q f h = f h
unless_then Sequence fault P Q f h = f h
unless_then DataTooLong fault P Q f h = f h
unless_then PatchOutside fault P Q f h = f h
unless_then NoSuchTarget fault P Q f h = f h
unless_then DynamicTarget fault P Q f h = f h
unless_then BadTable fault P Q f h = f h
unless_then Memory fault P Q f h = h
