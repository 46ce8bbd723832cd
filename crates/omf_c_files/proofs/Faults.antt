-- A fault of a load file other than `Memory` is its first fault.
use Rattle.std.proofs.Common.{◌≡◌, ◌≢◌, List, ℕ, refl}
use Rattle.load_meaning.specs.declared.load.LoadCause.{LoadCause}
use Rattle.load_meaning.specs.declared.load.LoadCause.TheVariants as load_causes
use Rattle.load_meaning.specs.declared.load.LoadFault.{LoadFault}
use Rattle.load_meaning.specs.Loadable.{IsFirstLoadFault}
use Rattle.load_content.specs.Views.{UnlessMemory}
use Rattle.omf_cells.specs.Load as cells

first_load : (c : LoadCause) (fault : LoadFault) (P : Type 0) → (c ≡ load_causes.Memory → ⊥) → UnlessMemory c fault P → P
first_load load_causes.NotLoadFile fault P other is = is
first_load load_causes.Truncated fault P other is = is
first_load load_causes.BadHeader fault P other is = is
first_load load_causes.Unsupported fault P other is = is
first_load load_causes.BadRecord fault P other is = is
first_load load_causes.Sequence fault P other is = is
first_load load_causes.DataTooLong fault P other is = is
first_load load_causes.PatchOutside fault P other is = is
first_load load_causes.NoSuchTarget fault P other is = is
first_load load_causes.DynamicTarget fault P other is = is
first_load load_causes.BadTable fault P other is = is
first_load load_causes.Memory fault P other is = absurd (other refl)

pub load_first : (fault : LoadFault) (file : List ℕ) → fault.cause ≢ load_causes.Memory → cells.IsRefused fault file → IsFirstLoadFault file fault
load_first fault file other refused = first_load fault.cause fault (IsFirstLoadFault file fault) other refused
