-- Memory may be missing before anything is read.
use Rattle.std.proofs.Common.{◌≡◌, inl, inr, ℕ, List, Option, Some, None, refl, arith}
use Rattle.omf_io.specs.Outside.{Outside}
use Rattle.omf_io.specs.Files.{StoreSeen}
use Rattle.omf_making.specs.declared.status.Status.TheVariants.{Memory, Usage}
use Rattle.omf_making.specs.Form.{CommandForm, Asm, Link, Dump, Run, Lib, Stress, Rtl, LinkRt, Listing, Compact}
use Rattle.omf_making.specs.Making.{IsShort}
use Rattle.omf_map.specs.Mapped.{map_usage_line, HasMappedIn, MapUsageRun}

nothing_read : (inputs : List (List ℕ)) (before now : StoreSeen) → now ≡ before → IsShort inputs before now
nothing_read inputs before now is = record { reads = 0; most = omega arith; store = is }

nothing_said : (o : Outside) → o.new_store ≡ o.store → o.new_sink ≡ o.sink → MapUsageRun Memory o
nothing_said o store sink = (inr (Usage, map_usage_line, (refl, refl, store)), sink)

pub nothing_done : (form : Option CommandForm) (o : Outside) → o.new_store ≡ o.store → o.new_sink ≡ o.sink → HasMappedIn form Memory o
nothing_done None o store sink = nothing_said o store sink
nothing_done (Some (Asm source output macros)) o store sink = nothing_said o store sink
nothing_done (Some (Link output inputs)) o store sink = (inl (nothing_read inputs o.store o.new_store store), sink)
nothing_done (Some (Dump inputs)) o store sink = nothing_said o store sink
nothing_done (Some (Run inputs)) o store sink = nothing_said o store sink
nothing_done (Some (Lib output inputs)) o store sink = nothing_said o store sink
nothing_done (Some (Stress n seed)) o store sink = nothing_said o store sink
nothing_done (Some (Rtl output inputs)) o store sink = (inl (nothing_read inputs o.store o.new_store store), sink)
nothing_done (Some (LinkRt output inputs runtimes)) o store sink = (inl (nothing_read inputs o.store o.new_store store), sink)
nothing_done (Some (Listing output inputs)) o store sink = nothing_said o store sink
nothing_done (Some (Compact output inputs)) o store sink = nothing_said o store sink
