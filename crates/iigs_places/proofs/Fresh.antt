-- Banks without blocks.
use Rattle.std.proofs.Common.{◌≡◌, ℕ, zero, suc, ◌<◌, List, [], replicate, All, length, refl, Some, None, sym, ap, ◌∙◌, arith}
use Rattle.std.proofs.lemmas.List.{length-replicate}
use Rattle.iigs_meaning.specs.declared.wants.Block.{Block}
use Rattle.iigs_meaning.specs.Slots.{slot_at, new_slot}
use Rattle.iigs_meaning.specs.Fits.{HoldsByte}
use Rattle.iigs_meaning.specs.Blocks.{AreApart, new_slots}
use Rattle.iigs_places.specs.Spots.{IsBoundedSlot}
use Rattle.iigs_places.specs.Extent.{extent}
use Rattle.iigs_places.specs.Arranged.{IsArranged}
use Rattle.iigs_places.specs.declared.layout.BlockLayout.{BlockLayout}
use Rattle.iigs_places.specs.Marks.{HaveMarks}
use Rattle.iigs_places.specs.Runs.{HasRoom, IsLayout}
use Rattle.iigs_places.proofs.Extents.{all_slots}
use Rattle.iigs_places.proofs.Covered.{cover_none}
use Rattle.iigs_places.proofs.Once.{once_none}

all_new : (n place : ℕ) → slot_at (replicate n (new_slot {T = Block})) place ≡ new_slot
all_new zero place = refl
all_new (suc n) zero = refl
all_new (suc n) (suc place) = all_new n place

holds_none : (n place i : ℕ) → ¬ HoldsByte i (slot_at (replicate n new_slot) place)
holds_none n place i holds = let no : HoldsByte i new_slot = rw (all_new n place) at holds in absurd no

apart_none : (banks : List ℕ) (n : ℕ) → AreApart banks (replicate n new_slot)
apart_none banks n = record {
  inside = λ place i holds. absurd (holds_none n place i holds);
  apart = λ place other i one two. absurd (holds_none n place i one);
}

bounded_none : (n : ℕ) → All IsBoundedSlot (replicate n new_slot)
bounded_none n = all_slots IsBoundedSlot (replicate n new_slot) (λ place. rw (all_new n place) tt)

new_count : length new_slots ≡ 4096
unfolding new_slots
new_count = length-replicate 4096 (new_slot {T = Block})

new_apart : (banks : List ℕ) → AreApart banks new_slots
unfolding new_slots
new_apart banks = apart_none banks 4096

new_bounded : All IsBoundedSlot new_slots
unfolding new_slots
new_bounded = bounded_none 4096

pub new_arranged : (banks : List ℕ) → All (λ bank. bank < 256) banks → IsArranged banks new_slots
new_arranged banks small = record { small = small; count = new_count; bounded = new_bounded; sound = new_apart banks }

none_have : (n : ℕ) → HaveMarks (replicate n new_slot) []
none_have n = record {
  each = λ place e is. absurd (none place e is);
  are = λ m has. absurd (omega (arith, has.1));
  once = once_none;
}
  where
    none : (place : ℕ) (e : ℕ × ℕ) → extent (slot_at (replicate n new_slot) place) ≡ Some e → ⊥
    none place e is = let no : None ≡ Some e = ap extent (sym (all_new n place)) ∙ is in absurd cc

new_have : HaveMarks new_slots []
unfolding new_slots
new_have = none_have 4096

pub new_layout : (layout : BlockLayout) → layout.marks.items ≡ [] → layout.runs.items ≡ [] → HasRoom layout → IsLayout new_slots layout
new_layout layout marks runs room = record {
  laid = record {
    order = rw marks (λ i j d le lt. absurd (omega (arith, lt)));
    few = rw marks (omega arith);
    cover = λ joined. rw (marks, runs) cover_none;
    room = room;
  };
  have = rw marks new_have;
}
