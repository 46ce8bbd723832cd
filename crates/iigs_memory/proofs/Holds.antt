-- A block that is changed in its place.
use Rattle.std.proofs.Common.{◌≡◌, ℕ, List, [], IsSomeAnd}
use Rattle.iigs_meaning.specs.declared.handles.Handle.{Handle}
use Rattle.iigs_meaning.specs.declared.slots.Slot.{Slot}
use Rattle.iigs_meaning.specs.declared.wants.Block.{Block}
use Rattle.iigs_meaning.specs.Slots.{get, with_value}
use Rattle.iigs_meaning.specs.Memory.{KeepsBut}
use Rattle.iigs_memory.specs.Store.{memory_of}
use Rattle.iigs_memory.proofs.Stores.{keeps_stays}
use Rattle.iigs_places.proofs.Holds.{put_all, put_stays}

pub kept_put : (banks buffer : List ℕ) (slots : List (Slot Block)) (h : Handle) (block : Block) → IsSomeAnd (get slots h) (λ old. (block.at ≡ old.at) × (block.want ≡ old.want))
    → KeepsBut (memory_of banks slots buffer) (memory_of banks (with_value slots h block) buffer) []
kept_put banks buffer slots h block same =
    let all = put_all slots h block same in
    keeps_stays banks buffer slots (with_value slots h block) (put_stays slots h block all.0 all.1 all.2 all.3)
