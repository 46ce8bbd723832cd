-- One block emptied, or moved to an address at which it lies beside the others.
use Rattle.std.proofs.Common.{◌≡◌, ◌≢◌, ◌⊎◌, inl, inr, ℕ, not, ◌==◌, ◌+◌, ◌<◌, max, List, ◌∷◌, All, length, Option, Some, None, IsSome, IsSomeAnd, IfSome, is_some, Result, Ok, Err, OnOk, OnErr, arith, refl, sym, ap, subst, ◌∙◌}
use Rattle.std.specs.List.{filter}
use Rattle.std.specs.List.Sorted.{IsPermutation}
use Rattle.std.proofs.Math.ListN.{set, length-set}
use Rattle.std.proofs.lemmas.List.{set-set}
use Rattle.std.proofs.lemmas.Bool.{cases_eq}
use Rattle.iigs_meaning.specs.declared.handles.Handle.{Handle}
use Rattle.iigs_meaning.specs.declared.slots.Slot.{Slot}
use Rattle.iigs_meaning.specs.declared.slots.SlotContent.TheVariants.{Used}
use Rattle.iigs_meaning.specs.declared.wants.Want.{Want}
use Rattle.iigs_meaning.specs.declared.wants.Block.{Block}
use Rattle.iigs_meaning.specs.Slots.{slot_at, get, with_value}
use Rattle.iigs_meaning.specs.Fits.{Fits, IsApart, HoldsByte, block_in}
use Rattle.iigs_meaning.specs.Placement.{slots_after_purges}
use Rattle.iigs_meaning.specs.Moves.{Empties}
use Rattle.iigs_meaning.specs.Blocks.{AreApart}
use Rattle.iigs_places.specs.declared.marks.BlockMark.{BlockMark}
use Rattle.iigs_places.specs.Extent.{extent}
use Rattle.iigs_places.specs.Spots.{IsBounded, IsBoundedSlot}
use Rattle.iigs_places.specs.Arranged.{IsArranged}
use Rattle.iigs_places.specs.Open.{IsOpen}
use Rattle.iigs_places.specs.Marks.{mark, HaveMarks, IsSized, LiesBeside, SharesByte}
use Rattle.iigs_places.proofs.Extents.{each_slot, all_slots, holds_to, holds_from}
use Rattle.iigs_places.proofs.Stays.{Stays, apart_placed}
use Rattle.iigs_places.proofs.Changed.{live_block, live_in, with_is, set_here, set_other, set_stays, set_others_stay, set_bounded, gone_bounded}
use Rattle.iigs_places.proofs.Holds.{arranged_stays, length-with_slot}
use Rattle.iigs_places.proofs.Marked.{extent_in, have_set, have_gone, have_moved}
use Rattle.iigs_places.proofs.Puts.{free_limit, gone_stays, length-emptied}
use Rattle.iigs_places.proofs.Placed.{fits_open, open_fits}

-- what is so of the value that an option has
pub some_and : {X : Type 0} (o : Option X) (x : X) (P : X → Type 0) → o ≡ Some x → P x → IsSomeAnd o P
some_and o x P is holds = rw is holds

-- ---- what marks say of blocks

module _ (slots : List (Slot Block)) (marks : List BlockMark) (have : HaveMarks slots marks) (slot address size : ℕ) where
  pub beside_apart : LiesBeside marks slot address size → (place : ℕ) → place ≢ slot → IsApart address size (slot_at slots place)
  beside_apart beside place ne i from to holds =
      let e = extent_in i (slot_at slots place) (holds_to i (slot_at slots place) holds) in
      elim (beside (mark place e.0) (have.each place e.0 e.1) ne) [
        | inl before ↦ omega (arith, before, e.2.0, to)
        | inr following ↦ omega (arith, following, e.2.1, from)
      ]

  pub shares_byte : 0 < size → All IsSized marks → SharesByte marks slot address size → (place : ℕ) × (place ≢ slot) × ¬ IsApart address size (slot_at slots place)
  shares_byte some sized s =
      let one = have.are s.mark s.is in
      let its = sized s.is.0 s.mark s.is.1 in
      let at_is : s.mark.at ≡ one.0.0 = ap (λ (x : BlockMark). x.at) one.2 in
      let end_is : s.mark.end ≡ one.0.0 + one.0.1 = ap (λ (x : BlockMark). x.end) one.2 in
      let some' : s.mark.at < s.mark.end = omega (arith, its.0, ap (λ (x : BlockMark). x.at) s.is.2, ap (λ (x : BlockMark). x.end) s.is.2) in
      let i : ℕ = max address s.mark.at in
      let holds : HoldsByte i (slot_at slots s.mark.slot) = holds_from i (slot_at slots s.mark.slot) (rw one.1 (omega (arith, at_is), omega (arith, end_is, s.following, some'))) in
      (s.mark.slot, s.other, λ apart. apart i (omega arith) (omega (arith, s.before, some)) holds)

-- ---- a live handle's block

module _ (slots : List (Slot Block)) (h : Handle) (block : Block) (was : get slots h ≡ Some block) where
  live : IsSome (get slots h)
  live = ap is_some was

  empty : Slot Block
  empty = record { generation = h.generation; content = Used (record block { at = None }) }

  others_apart : (to size : ℕ) → ((place : ℕ) → place ≢ h.slot → IsApart to size (slot_at slots place)) → All (IsApart to size) (with_value slots h (record block { at = None }))
  unfolding empty
  others_apart to size apart = all_slots (IsApart to size) (with_value slots h (record block { at = None })) (λ place. rw (with_is slots h empty live) (elim (cases_eq place h.slot) [
    | inl eq ↦ rw (eq, set_here slots h.slot empty (live_in slots h live)) (λ i from to holds. absurd holds)
    | inr ne ↦ rw (set_other slots h.slot empty place ne) (apart place ne)
  ]))

  apart_others : (to size : ℕ) → All (IsApart to size) (with_value slots h (record block { at = None })) → (place : ℕ) → place ≢ h.slot → IsApart to size (slot_at slots place)
  unfolding empty
  apart_others to size all place ne =
      let here : IsApart to size (slot_at (with_value slots h (record block { at = None })) place) = each_slot (IsApart to size) (with_value slots h (record block { at = None })) (λ i from to holds. absurd holds) all place in
      rw (with_is slots h empty live, set_other slots h.slot empty place ne) at here

  pub fits_others : (banks : List ℕ) (want : Want) (to : ℕ) → IsOpen banks want to → ((place : ℕ) → place ≢ h.slot → IsApart to want.size (slot_at slots place))
      → Fits banks (with_value slots h (record block { at = None })) want to
  fits_others banks want to open_ apart = open_fits banks (with_value slots h (record block { at = None })) want to open_ (others_apart to want.size apart)

  pub fits_apart : (banks : List ℕ) (want : Want) (to : ℕ) → Fits banks (with_value slots h (record block { at = None })) want to → (place : ℕ) → place ≢ h.slot → IsApart to want.size (slot_at slots place)
  fits_apart banks want to fits = apart_others to want.size fits.apart

  -- where it isn't open, or a byte is another block's, it doesn't fit
  pub fits_not : (marks : List BlockMark) → HaveMarks slots marks → All IsSized marks → (banks : List ℕ) (want : Want) (to : ℕ) → 0 < want.size
      → (¬ IsOpen banks want to) ⊎ SharesByte marks h.slot to want.size → ¬ Fits banks (with_value slots h (record block { at = None })) want to
  fits_not marks have sized banks want to some (inl shut) fits = shut (fits_open banks (with_value slots h (record block { at = None })) want to some fits)
  fits_not marks have sized banks want to some (inr s) fits =
      let found = shares_byte slots marks have h.slot to want.size some sized s in
      found.2 (fits_apart banks want to fits found.0 found.1)

  bounded_block : All IsBoundedSlot slots → IsBounded block
  bounded_block bounded =
      let one : IfSome (block_in (slot_at slots h.slot)) IsBounded = each_slot IsBoundedSlot slots tt bounded h.slot in
      rw (live_block slots h block was) at one

  pub block_bounded : All IsBoundedSlot slots → IsBounded block
  block_bounded = bounded_block

  -- ---- emptied

  module _ (banks : List ℕ) (arranged : IsArranged banks slots) where
    emptied_bounded : All IsBoundedSlot (with_value slots h (record block { at = None }))
    unfolding empty
    emptied_bounded =
        let b = bounded_block arranged.bounded in
        rw (with_is slots h empty live) (set_bounded slots h.slot empty arranged.bounded (record { want = b.want; some = b.some; level = b.level; ends = tt }))

    pub emptied_stays : (place : ℕ) → Stays slots (with_value slots h (record block { at = None })) place
    unfolding empty
    emptied_stays place = rw (with_is slots h empty live) (set_stays slots h.slot empty (live_in slots h live) (inl refl) place)

    pub arranged_emptied : IsArranged banks (with_value slots h (record block { at = None }))
    arranged_emptied = arranged_stays banks slots (with_value slots h (record block { at = None })) arranged
        (length-with_slot slots h (record { generation = h.generation; content = Used (record block { at = None }) })) emptied_bounded emptied_stays

  pub have_emptied : (marks : List BlockMark) → HaveMarks slots marks → HaveMarks (with_value slots h (record block { at = None })) (filter (λ (m : BlockMark). not (m.slot == h.slot)) marks)
  unfolding empty
  have_emptied marks have = rw (with_is slots h empty live) (have_gone slots h.slot empty marks (live_in slots h live) refl have)

  -- ---- moved

  module _ (to : ℕ) where
    there : Slot Block
    there = record { generation = h.generation; content = Used (record block { at = Some to }) }

    pub have_shifted : (marks moved : List BlockMark) → HaveMarks slots marks
        → IsPermutation (mark h.slot (to, block.want.size) ∷ filter (λ (m : BlockMark). not (m.slot == h.slot)) marks) moved → HaveMarks (with_value slots h (record block { at = Some to })) moved
    unfolding empty there
    have_shifted marks moved have same =
        let inside = live_in slots h live in
        let without = have_gone slots h.slot empty marks inside refl have in
        let gone : extent (slot_at (set slots h.slot empty) h.slot) ≡ None = rw (set_here slots h.slot empty inside) refl in
        let within : h.slot < length (set slots h.slot empty) = subst (λ (n : ℕ). h.slot < n) (sym (length-set slots h.slot empty)) inside in
        let placed = have_set (set slots h.slot empty) h.slot there (to, block.want.size) (filter (λ (m : BlockMark). not (m.slot == h.slot)) marks) within gone refl without in
        let one = have_moved (set (set slots h.slot empty) h.slot there) (mark h.slot (to, block.want.size) ∷ filter (λ (m : BlockMark). not (m.slot == h.slot)) marks) moved same placed in
        rw (with_is slots h there live) (subst (λ (s : List (Slot Block)). HaveMarks s moved) (set-set slots h.slot empty there) one)

    module _ (banks : List ℕ) (arranged : IsArranged banks slots) (fits : Fits banks (with_value slots h (record block { at = None })) block.want to) where
      moved_bounded : All IsBoundedSlot (with_value slots h (record block { at = Some to }))
      unfolding there
      moved_bounded =
          let b = bounded_block arranged.bounded in
          rw (with_is slots h there live) (set_bounded slots h.slot there arranged.bounded (record {
            want = b.want;
            some = b.some;
            level = b.level;
            ends = free_limit banks to block.want.size arranged.small b.some fits.free;
          }))

      pub moved_others : (place : ℕ) → place ≢ h.slot → Stays slots (with_value slots h (record block { at = Some to })) place
      unfolding there
      moved_others place ne = rw (with_is slots h there live) (set_others_stay slots h.slot there place ne)

      pub moved_extent : extent (slot_at (with_value slots h (record block { at = Some to })) h.slot) ≡ Some (to, block.want.size)
      unfolding there
      moved_extent = rw (with_is slots h there live, set_here slots h.slot there (live_in slots h live)) refl

      moved_apart : AreApart banks (with_value slots h (record block { at = Some to }))
      moved_apart = apart_placed banks slots (with_value slots h (record block { at = Some to })) h.slot (to, block.want.size) arranged.sound moved_others moved_extent
          (λ i spans. fits.free i spans.0 spans.1)
          (λ place i ne spans holds. fits_apart banks block.want to fits place ne i spans.0 spans.1 holds)

      pub arranged_moved : IsArranged banks (with_value slots h (record block { at = Some to }))
      arranged_moved = record {
        small = arranged.small;
        count = length-with_slot slots h (record { generation = h.generation; content = Used (record block { at = Some to }) }) ∙ arranged.count;
        bounded = moved_bounded;
        sound = moved_apart;
      }

-- ---- where a call may refuse

pub arranged_either : {E : Type 0} (banks : List ℕ) (old new : List (Slot Block)) (h : Handle) {A : Type 0} (r : Result A E) → OnOk r (Empties old h new) → OnErr r (new ≡ old) → IsArranged banks old → IsArranged banks new
arranged_either banks old new h (Ok a) did err arranged = subst (IsArranged banks) (sym did.next_is) (arranged_emptied old h did.block did.was banks arranged)
arranged_either banks old new h (Err e) did err arranged = subst (IsArranged banks) (sym err) arranged

-- the first `count` purgeable blocks are emptied
pub arranged_gone : (banks : List ℕ) (slots : List (Slot Block)) (count : ℕ) → IsArranged banks slots → IsArranged banks (slots_after_purges slots count)
arranged_gone banks slots count arranged = arranged_stays banks slots (slots_after_purges slots count) arranged (length-emptied slots count) (gone_bounded count slots arranged.bounded) (gone_stays slots count)
