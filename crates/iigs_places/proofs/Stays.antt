-- Slots whose blocks stay where they are, or are gone.
use Rattle.std.proofs.Common.{◌≡◌, ◌≢◌, ◌⊎◌, inl, inr, ℕ, Bool, true, false, cond, ◌==◌, ◌+◌, ◌≤◌, List, map, length, Some, None, IsSomeAnd, arith, refl, sym, ◌∙◌, subst}
use Rattle.std.proofs.Math.ListN.{get_or-eq_default}
use Rattle.std.proofs.lemmas.List.{get_or-map, length-map}
use Rattle.std.proofs.lemmas.Bool.{cases_lt, cases_eq}
use Rattle.iigs_meaning.specs.declared.slots.Slot.{Slot}
use Rattle.iigs_meaning.specs.declared.slots.SlotContent.{SlotContent}
use Rattle.iigs_meaning.specs.declared.slots.SlotContent.TheVariants.{Free, Used, Retired}
use Rattle.iigs_meaning.specs.declared.wants.Block.{Block}
use Rattle.iigs_meaning.specs.Slots.{slot_at, new_slot, released}
use Rattle.iigs_meaning.specs.Free.{IsFree}
use Rattle.iigs_meaning.specs.Fits.{HoldsByte}
use Rattle.iigs_meaning.specs.Placement.{emptied_where}
use Rattle.iigs_meaning.specs.Puts.{without_user, without_user_in}
use Rattle.iigs_meaning.specs.Blocks.{AreApart}
use Rattle.iigs_places.specs.Extent.{extent, Spans}
use Rattle.iigs_places.proofs.Extents.{holds_to, holds_from}

-- the slot's block stays where it is, or none is there
abbrev pub StaysIn : Slot Block → Slot Block → Type 0
StaysIn old new = (extent new ≡ None) ⊎ (extent new ≡ extent old)

abbrev pub Stays : List (Slot Block) → List (Slot Block) → ℕ → Type 0
Stays old new place = StaysIn (slot_at old place) (slot_at new place)

stays_holds : (old new : Slot Block) (i : ℕ) → StaysIn old new → HoldsByte i new → HoldsByte i old
stays_holds old new i (inl none) holds = let no : IsSomeAnd {T = ℕ × ℕ} None (Spans i) = rw none at (holds_to i new holds) in absurd no
stays_holds old new i (inr same) holds = holds_from i old (rw (← same) (holds_to i new holds))

pub apart_stays : (banks : List ℕ) (old new : List (Slot Block)) → AreApart banks old → ((place : ℕ) → Stays old new place) → AreApart banks new
apart_stays banks old new apart stays = record {
  inside = λ place i holds. apart.inside place i (stays_holds (slot_at old place) (slot_at new place) i (stays place) holds);
  apart = λ place other i one two. apart.apart place other i (stays_holds (slot_at old place) (slot_at new place) i (stays place) one)
      (stays_holds (slot_at old other) (slot_at new other) i (stays other) two);
}

-- a block that is put where no other is lies apart
pub apart_placed : (banks : List ℕ) (old new : List (Slot Block)) (at : ℕ) (e : ℕ × ℕ) → AreApart banks old
    → ((place : ℕ) → place ≢ at → Stays old new place) → extent (slot_at new at) ≡ Some e
    → ((i : ℕ) → Spans i e → IsFree banks i)
    → ((place i : ℕ) → place ≢ at → Spans i e → ¬ HoldsByte i (slot_at old place))
    → AreApart banks new
apart_placed banks old new at e apart stays is free beside = record {
  inside = λ place i holds. elim (cases_eq place at) [
    | inl eq ↦ free i (spans i (subst (λ (p : ℕ). HoldsByte i (slot_at new p)) eq holds))
    | inr ne ↦ apart.inside place i (stays_holds (slot_at old place) (slot_at new place) i (stays place ne) holds)
  ];
  apart = λ place other i one two. elim (cases_eq place at) [
    | inl eq ↦ elim (cases_eq other at) [
      | inl eq' ↦ eq ∙ sym eq'
      | inr ne' ↦ absurd (beside other i ne' (spans i (subst (λ (p : ℕ). HoldsByte i (slot_at new p)) eq one))
          (stays_holds (slot_at old other) (slot_at new other) i (stays other ne') two))
    ]
    | inr ne ↦ elim (cases_eq other at) [
      | inl eq' ↦ absurd (beside place i ne (spans i (subst (λ (p : ℕ). HoldsByte i (slot_at new p)) eq' two))
          (stays_holds (slot_at old place) (slot_at new place) i (stays place ne) one))
      | inr ne' ↦ apart.apart place other i (stays_holds (slot_at old place) (slot_at new place) i (stays place ne) one)
          (stays_holds (slot_at old other) (slot_at new other) i (stays other ne') two)
    ]
  ];
}
  where
    spans : (i : ℕ) → HoldsByte i (slot_at new at) → Spans i e
    spans i holds = rw is at (holds_to i (slot_at new at) holds)

-- slots that are changed one by one
pub slot_at-map : (f : Slot Block → Slot Block) (slots : List (Slot Block)) (place : ℕ) → f new_slot ≡ new_slot → slot_at (map f slots) place ≡ f (slot_at slots place)
slot_at-map f slots place e = elim (cases_lt place (length slots)) [
  | inl lt ↦ get_or-map f slots place new_slot new_slot lt
  | inr le ↦
      let past : slot_at slots place ≡ new_slot = get_or-eq_default slots new_slot le in
      let short : length (map f slots) ≤ place = omega (arith, length-map slots f) in
      rw (past, e) (get_or-eq_default (map f slots) new_slot short)
]

emptied_stays : (test : Block → Bool) (slot : Slot Block) → StaysIn slot (emptied_where test slot)
emptied_stays test slot = go slot.generation slot.content
  where
    used : (b : Bool) (generation : ℕ) (block : Block)
        → StaysIn (record { generation = generation; content = Used block }) (cond b (record { generation = generation; content = Used (record block { at = None }) }) (record { generation = generation; content = Used block }))
    used true generation block = inl refl
    used false generation block = inr refl

    go : (generation : ℕ) (content : SlotContent Block) → StaysIn (record { generation = generation; content = content }) (emptied_where test (record { generation = generation; content = content }))
    go generation Free = inl refl
    go generation Retired = inl refl
    go generation (Used block) = used (test block) generation block

pub map_stays : (test : Block → Bool) (slots : List (Slot Block)) (place : ℕ) → Stays slots (map (emptied_where test) slots) place
map_stays test slots place = rw (slot_at-map (emptied_where test) slots place refl) (emptied_stays test (slot_at slots place))

pub released_none : (generation : ℕ) → extent (released generation) ≡ None
released_none generation = go (generation == 255)
  where
    go : (b : Bool) → extent (cond b (record { generation = generation; content = Retired }) (record { generation = generation + 1; content = Free })) ≡ None
    go true = refl
    go false = refl

user_stays : (user : ℕ) (slot : Slot Block) → StaysIn slot (without_user_in user slot)
user_stays user slot = go slot.generation slot.content
  where
    used : (b : Bool) (generation : ℕ) (block : Block)
        → StaysIn (record { generation = generation; content = Used block }) (cond b (released generation) (record { generation = generation; content = Used block }))
    used true generation block = inl (released_none generation)
    used false generation block = inr refl

    go : (generation : ℕ) (content : SlotContent Block) → StaysIn (record { generation = generation; content = content }) (without_user_in user (record { generation = generation; content = content }))
    go generation Free = inl refl
    go generation Retired = inl refl
    go generation (Used block) = used (block.user == user) generation block

pub users_stay : (user : ℕ) (slots : List (Slot Block)) (place : ℕ) → Stays slots (without_user slots user) place
users_stay user slots place = rw (slot_at-map (without_user_in user) slots place refl) (user_stays user (slot_at slots place))
