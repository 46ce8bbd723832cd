-- Blocks of segments that wake or idle.
use Rattle.std.proofs.Common.{◌≡◌, inl, inr, ℕ, zero, suc, List, [], ◌∷◌, Option, Some, IsSome, refl, sym, ap, subst, ◌∙◌}
use Rattle.std.specs.Prelude.{slice_set}
use Rattle.std.proofs.lemmas.Option.{same_Some}
use Rattle.iigs_meaning.specs.declared.handles.Handle.{Handle}
use Rattle.iigs_meaning.specs.declared.slots.SlotContent.TheVariants.{Used}
use Rattle.iigs_meaning.specs.declared.wants.Block.{Block}
use Rattle.iigs_meaning.specs.Slots.{slot_at, get, with_value}
use Rattle.iigs_meaning.specs.Fits.{Slots}
use Rattle.iigs_meaning.specs.Blocks.{address_in}
use Rattle.iigs_meaning.specs.Memory.{Memory, IsThere, Changes}
use Rattle.loader_agrees.specs.laws.Slotted.{slot_set, live_block}
use Rattle.loader_users.proofs.Shifting.{set_is, value_here}

set_again : {X : Type 0} (xs : List X) (k : ℕ) (x y : X) → slice_set (slice_set xs k x) k y ≡ slice_set xs k y
set_again [] k x y = refl
set_again (z ∷ xs) zero x y = refl
set_again (z ∷ xs) (suc k) x y = ap (λ rest. z ∷ rest) (set_again xs k x y)

module _ (h : Handle) (one two : Block → Block) (a b c : Memory) (first : Changes a h one b) (second : Changes b h two c) (same_at : (x : Block) → (two x).at ≡ x.at) where
  middle : get b.slots h ≡ Some (one first.block)
  middle = ap (λ (t : Slots). get t h) first.slots ∙ value_here a.slots h first.block (one first.block) first.was

  block_is : second.block ≡ one first.block
  block_is = same_Some second.block (one first.block) (sym second.was ∙ middle)

  slots_are : c.slots ≡ with_value a.slots h (two (one first.block))
  slots_are = second.slots ∙ ap (λ (x : Block). with_value b.slots h (two x)) block_is ∙ set_is b.slots h (one first.block) (two (one first.block)) middle
      ∙ ap (λ (t : Slots). slice_set t h.slot (record { generation = h.generation; content = Used (two (one first.block)) })) (first.slots ∙ set_is a.slots h first.block (one first.block) first.was)
      ∙ set_again a.slots h.slot (record { generation = h.generation; content = Used (one first.block) }) (record { generation = h.generation; content = Used (two (one first.block)) })
      ∙ sym (set_is a.slots h first.block (two (one first.block)) first.was)

  was_there : (place : ℕ) → IsThere c place → IsThere b place
  was_there place there = elim (slot_set b.slots h.slot (record { generation = h.generation; content = Used (two second.block) }) place) [
    | inl here ↦
        let its : address_in (slot_at b.slots place) ≡ second.block.at = ap (λ (n : ℕ). address_in (slot_at b.slots n)) here.0 ∙ ap (λ (o : Option Block). Rattle.std.specs.Option.option_and_then (λ x. x.at) o) (live_block b.slots h second.block second.was) in
        subst (λ (o : Option ℕ). IsSome o) (sym its) second.there
    | inr same ↦
        let its : address_in (slot_at c.slots place) ≡ address_in (slot_at b.slots place) = ap (λ (t : Slots). address_in (slot_at t place)) (second.slots ∙ set_is b.slots h second.block (two second.block) second.was) ∙ ap address_in same in
        subst (λ (o : Option ℕ). IsSome o) its there
  ]

  pub changes_twice : Changes a h (λ x. two (one x)) c
  changes_twice = record {
    block = first.block;
    was = first.was;
    there = first.there;
    slots = slots_are;
    kept = record {
      banks = second.kept.banks ∙ first.kept.banks;
      bytes = λ place apart there. second.kept.bytes place apart there ∙ first.kept.bytes place apart (was_there place there);
    };
  }
