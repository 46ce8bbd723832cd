-- The workload's object is linked: no phase finds a fault.
use Rattle.std.proofs.Common.{ℕ, ◌≤◌, [], ◌∷◌, length}
use Rattle.omf_format.specs.Number.{IsBytes}
use Rattle.link_meaning.specs.declared.fault.LinkFault.{LinkFault}
use Rattle.link_meaning.specs.LinkFaults.{plain}
use Rattle.link_meaning.specs.EmitFaults.{IsFirstLinkFault}
use Rattle.workload_meaning.specs.Object.{object}

-- The object of a workload is linked without a fault, since each of its names has one segment, and each value fits.
abbrev pub WorkloadIsLinked : Type 0
WorkloadIsLinked = (n seed : ℕ) (fault : LinkFault) → 1 ≤ n → n ≤ 64 → IsBytes (object n seed) → length (object n seed) ≤ 16777216 → IsFirstLinkFault (plain (object n seed ∷ [])) fault → ⊥
