use Rattle.std.proofs.Common.{◌≡◌, ◌≤◌, ℕ, take, drop, map, Contains, vec_len, vec_capacity}
use Rattle.iigs_meaning.specs.Puts.{PutsAll}
use Rattle.iigs_meaning.specs.Memory.{KeepsBut, IsThere}
use Rattle.iigs_meaning.specs.Slide.{AreSettled, PurgesOrSlides}
use Rattle.iigs_compact_memory.specs.Alls.{AreZeros, CanPutAll}
use Rattle.iigs_compact_memory.proofs.alls.place_each.Given as goal

-- the wants so far are placed, and the others can be
abbrev pub invariant-loop-number : goal.invariant-loop-number
invariant-loop-number l = record {
  puts : PutsAll PurgesOrSlides l.fn.banks.banks l.user l.fn.banks.slots (take l.number l.wants) l.handles.items l.banks.slots;
  can : CanPutAll l.fn.banks.banks l.user l.banks.slots (drop l.number l.wants);
  zeros : AreZeros l.banks (take l.number l.wants) l.handles.items;
  kept : KeepsBut l.fn.banks l.banks (map (λ h. h.slot) l.handles.items);
  there : (place : ℕ) → ¬ Contains (map (λ h. h.slot) l.handles.items) place → IsThere l.banks place → IsThere l.fn.banks place;
  settled : AreSettled l.banks.banks l.banks.slots;
  banks : l.trial.banks ≡ l.banks.banks;
  count : vec_len l.handles ≡ l.number;
  room : vec_capacity l.fn.handles ≤ vec_capacity l.handles;
}
