-- Slots among which several blocks are placed.
use Rattle.std.proofs.Common.{◌≡◌, ℕ, Bool, true, false, List, All, length, refl, ◌∙◌, inr}
use Rattle.std.proofs.lemmas.List.{length-map}
use Rattle.iigs_meaning.specs.declared.slots.Slot.{Slot}
use Rattle.iigs_meaning.specs.declared.wants.Block.{Block}
use Rattle.iigs_meaning.specs.Puts.{slots_for, without_user_in}
use Rattle.iigs_meaning.specs.Blocks.{AreApart}
use Rattle.iigs_places.specs.Spots.{IsBoundedSlot}
use Rattle.iigs_places.specs.Arranged.{IsArranged}
use Rattle.iigs_places.proofs.Stays.{Stays, users_stay, apart_stays}
use Rattle.iigs_places.proofs.Changed.{users_bounded}

pub start_stays : (slots : List (Slot Block)) (user : ℕ) (fresh : Bool) (place : ℕ) → Stays slots (slots_for slots user fresh) place
start_stays slots user true place = users_stay user slots place
start_stays slots user false place = inr refl

start_length : (slots : List (Slot Block)) (user : ℕ) (fresh : Bool) → length (slots_for slots user fresh) ≡ length slots
start_length slots user true = length-map slots (without_user_in user)
start_length slots user false = refl

pub start_bounded : (slots : List (Slot Block)) (user : ℕ) (fresh : Bool) → All IsBoundedSlot slots → All IsBoundedSlot (slots_for slots user fresh)
start_bounded slots user true bounded = users_bounded user slots bounded
start_bounded slots user false bounded = bounded

pub start_sound : (banks : List ℕ) (slots : List (Slot Block)) (user : ℕ) (fresh : Bool) → AreApart banks slots → AreApart banks (slots_for slots user fresh)
start_sound banks slots user fresh sound = apart_stays banks slots (slots_for slots user fresh) sound (start_stays slots user fresh)

pub start_arranged : (banks : List ℕ) (slots : List (Slot Block)) (user : ℕ) (fresh : Bool) → IsArranged banks slots → IsArranged banks (slots_for slots user fresh)
start_arranged banks slots user fresh arranged = record {
  small = arranged.small;
  count = start_length slots user fresh ∙ arranged.count;
  bounded = start_bounded slots user fresh arranged.bounded;
  sound = start_sound banks slots user fresh arranged.sound;
}
