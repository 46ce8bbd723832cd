-- Laws of room that is made by purges and slides: it is made in one way at most, there is none exactly where the want fits nowhere,
-- and what it leaves of each slot.
use Rattle.std.proofs.Common.{◌≡◌, ◌⊎◌, inl, inr, ℕ, zero, suc, Bool, true, false, cond, ◌+◌, ◌<◌, ◌≤◌, List, [], ◌∷◌, map, length, Option, Some, None, refl, sym, ap, subst, ◌∙◌, arith}
use Rattle.std.specs.Prelude.{◌&&◌, nat_lt}
use Rattle.std.specs.Option.{option_map_or}
use Rattle.std.proofs.lemmas.Option.{same_Some}
use Rattle.std.proofs.lemmas.List.{length-map}
use Rattle.std.proofs.lemmas.Bool.{cases_lt}
use Rattle.iigs_meaning.specs.declared.slots.Slot.{Slot}
use Rattle.iigs_meaning.specs.declared.wants.Want.{Want}
use Rattle.iigs_meaning.specs.declared.wants.Block.{Block}
use Rattle.iigs_meaning.specs.Slots.{slot_at, new_slot}
use Rattle.iigs_meaning.specs.Free.{IsFree}
use Rattle.iigs_meaning.specs.Fits.{Slots, IsWant, Fits, HoldsByte, block_in}
use Rattle.iigs_meaning.specs.Placement.{can_purge, is_gone, rank, emptied_where, slots_after_purges, HasNoRoom}
use Rattle.iigs_meaning.specs.Puts.{LacksRoom, IsOnce}
use Rattle.iigs_meaning.specs.laws.PlacementLaws.{purges_once, no_number, no_room}
use Rattle.iigs_meaning.specs.Blocks.{AreApart}
use Rattle.iigs_meaning.specs.Slide.{can_move, movable_block, place_of, holding, moved_to, Slides, MakesBySlide, PurgesOrSlides, HasNoRoomBySlides, AreSettled}
use Rattle.iigs_meaning.specs.laws.Left.{IsLeft, AreLeft}
use Rattle.iigs_meaning.specs.laws.Left.IsLeft.{Unmoved, Emptied, Shifted}
use Rattle.iigs_meaning.specs.laws.SlideLaws.{mover_in, has_bytes, slides_once}

-- ---- one outcome

-- no more blocks are purged than for another slide
no_more : (banks : List ℕ) (slots : Slots) (want : Want) (address other : ℕ) (one two : Slots)
    → (p : MakesBySlide banks slots want address one) → (q : MakesBySlide banks slots want other two) → q.count ≤ p.count
no_more banks slots want address other one two p q = elim (cases_lt p.count q.count) [
  | inl less ↦ absurd (q.fewest p.count less one p.slides address p.fits)
  | inr le ↦ le
]

slide_once : (banks : List ℕ) (slots : Slots) (want : Want) (address other : ℕ) (one two : Slots)
    → MakesBySlide banks slots want address one → MakesBySlide banks slots want other two → (address ≡ other) × (one ≡ two)
slide_once banks slots want address other one two p q =
    let count : p.count ≡ q.count = omega (arith, no_more banks slots want address other one two p q, no_more banks slots want other address two one q p) in
    let rooms : one ≡ two = slides_once banks (slots_after_purges slots q.count) one two (subst (λ (n : ℕ). Slides banks (slots_after_purges slots n) one) count p.slides) q.slides in
    let there : Fits banks one want other = subst (λ (r : Slots). Fits banks r want other) (sym rooms) q.fits in
    let back : Fits banks two want address = subst (λ (r : Slots). Fits banks r want address) rooms p.fits in
    (omega (arith, p.least other there, q.least address back), rooms)

pub purges_or_slides_once : IsOnce PurgesOrSlides
purges_or_slides_once = record { room = go }
  where
    go : (banks : List ℕ) (slots : Slots) (want : Want) (address other : ℕ) (one two : Slots) → PurgesOrSlides banks slots want address one → PurgesOrSlides banks slots want other two
        → (address ≡ other) × (one ≡ two)
    go banks slots want address other one two (inl p) (inl q) = purges_once.room banks slots want address other one two p q
    go banks slots want address other one two (inl p) (inr q) = absurd (q.0 p.count address p.goes.fits)
    go banks slots want address other one two (inr p) (inl q) = absurd (p.0 q.count other q.goes.fits)
    go banks slots want address other one two (inr p) (inr q) = slide_once banks slots want address other one two p.1 q.1

-- ---- no room

module _ (banks : List ℕ) (slots : Slots) (want : Want) where
  -- a number of purges after which a slide makes room
  abbrev FitsWith : ℕ → Type 0
  FitsWith count = (room : Slots) × Slides banks (slots_after_purges slots count) room × ((address : ℕ) × Fits banks room want address)

  pub no_room_by_slides : LacksRoom PurgesOrSlides banks slots want → HasNoRoomBySlides banks slots want
  no_room_by_slides lacks = (
    none,
    λ count room slides address fits. no_number FitsWith none_fewest (count + 1) count (omega arith) (room, slides, (address, fits)),
  )
    where
      none : HasNoRoom banks slots want
      none = no_room banks slots want (λ address room made. lacks address room (inl made))

      none_fewest : (count : ℕ) → FitsWith count → ((fewer : ℕ) → fewer < count → ¬ FitsWith fewer) → ⊥
      none_fewest count with_it fewest = no_number (λ address. Fits banks with_it.0 want address) none_least (with_it.2.0 + 1) with_it.2.0 (omega arith) with_it.2.1
        where
          none_least : (address : ℕ) → Fits banks with_it.0 want address → ((lower : ℕ) → lower < address → ¬ Fits banks with_it.0 want lower) → ⊥
          none_least address fits least = lacks address with_it.0 (inr (
            none,
            record {
              count = count;
              slides = with_it.1;
              fits = fits;
              least = λ other there. elim (cases_lt other address) [
                | inl lower ↦ absurd (least other lower there)
                | inr above ↦ above
              ];
              fewest = λ fewer lower other slides place fits'. fewest fewer lower (other, slides, (place, fits'));
            },
          ))

  pub lacks_room_by_slides : HasNoRoomBySlides banks slots want → LacksRoom PurgesOrSlides banks slots want
  lacks_room_by_slides none address room (inl made) = none.0 made.count address made.goes.fits
  lacks_room_by_slides none address room (inr made) = none.1 made.1.count room made.1.slides address made.1.fits

-- ---- what is left

gone_can : (slots : Slots) (count : ℕ) (block : Block) → is_gone slots count block ≡ true → can_purge block ≡ true
unfolding is_gone
gone_can slots count block is = go (can_purge block) (nat_lt (rank slots block) count) is
  where
    go : (a b : Bool) → (a && b) ≡ true → a ≡ true
    go true b e = refl
    go false b e = e

emptied_slot : (slots : Slots) (count : ℕ) (slot : Slot Block) → IsLeft slot (emptied_where (is_gone slots count) slot)
emptied_slot slots count slot = go (block_in slot) refl
  where
    by_test : (block : Block) (t : Bool) → block_in slot ≡ Some block → is_gone slots count block ≡ t
        → IsLeft slot (cond t (holding slot (record block { at = None })) slot)
    by_test block true is test = Emptied block is (gone_can slots count block test) refl
    by_test block false is test = Unmoved refl

    go : (o : Option Block) → block_in slot ≡ o
        → IsLeft slot (option_map_or (λ block. cond (is_gone slots count block) (holding slot (record block { at = None })) slot) o slot)
    go None is = Unmoved refl
    go (Some block) is = by_test block (is_gone slots count block) is refl

at_map : (f : Slot Block → Slot Block) (slots : Slots) (place : ℕ) → f new_slot ≡ new_slot → slot_at (map f slots) place ≡ f (slot_at slots place)
at_map f [] place new = sym new
at_map f (slot ∷ slots) zero new = refl
at_map f (slot ∷ slots) (suc place) new = at_map f slots place new

emptied_at : (slots : Slots) (count place : ℕ) → slot_at (slots_after_purges slots count) place ≡ emptied_where (is_gone slots count) (slot_at slots place)
unfolding slots_after_purges
emptied_at slots count place = at_map (emptied_where (is_gone slots count)) slots place refl

emptied_len : (slots : Slots) (count : ℕ) → length (slots_after_purges slots count) ≡ length slots
unfolding slots_after_purges
emptied_len slots count = length-map slots (emptied_where (is_gone slots count))

pub emptied_left : (slots : Slots) (count : ℕ) → AreLeft slots (slots_after_purges slots count)
emptied_left slots count = record {
  len = emptied_len slots count;
  each = λ place. subst (IsLeft (slot_at slots place)) (sym (emptied_at slots count place)) (emptied_slot slots count (slot_at slots place));
}

-- an empty block doesn't move
empty_stays : (slot : Slot Block) (block : Block) → movable_block (holding slot (record block { at = None })) ≡ None
unfolding can_move
empty_stays slot block = refl

pub slid_left : (banks : List ℕ) (slots middle room : Slots) → AreLeft slots middle → Slides banks middle room → AreLeft slots room
slid_left banks slots middle room left slides = record { len = slides.len ∙ left.len; each = λ place. go place (left.each place) }
  where
    moves : (place : ℕ) → slot_at middle place ≡ slot_at slots place → (o : Option Block) → movable_block (slot_at middle place) ≡ o → IsLeft (slot_at slots place) (slot_at room place)
    moves place is None e = Unmoved (slides.stay place e ∙ is)
    moves place is (Some block) e =
        let went' = slides.goes place block e in
        let its = mover_in (slot_at middle place) block e in
        Shifted block (sym (ap block_in is) ∙ its.0) its.1 went'.0 (went'.2 ∙ ap (λ (s : Slot Block). holding s (moved_to went'.0 block)) is)

    go : (place : ℕ) → IsLeft (slot_at slots place) (slot_at middle place) → IsLeft (slot_at slots place) (slot_at room place)
    go place (Unmoved is) = moves place is (movable_block (slot_at middle place)) refl
    go place (Emptied block is can now) = Emptied block is can (slides.stay place (ap movable_block now ∙ empty_stays (slot_at slots place) block) ∙ now)
    go place (Shifted block is can address now) = elim (mover_case (movable_block (slot_at middle place)) refl) [
      | inl none ↦ Shifted block is can address (slides.stay place none ∙ now)
      | inr some ↦
          let goes = slides.goes place some.0 some.1 in
          let its = mover_in (slot_at middle place) some.0 some.1 in
          let one : moved_to address block ≡ some.0 = same_Some (moved_to address block) some.0 (sym (ap block_in now) ∙ its.0) in
          Shifted block is can goes.0 (goes.2 ∙ ap (λ (s : Slot Block). holding s (moved_to goes.0 some.0)) now ∙ ap (λ (b : Block). holding (slot_at slots place) (moved_to goes.0 b)) (sym one))
    ]
      where
        mover_case : (o : Option Block) → movable_block (slot_at middle place) ≡ o → (movable_block (slot_at middle place) ≡ None) ⊎ ((b : Block) × (movable_block (slot_at middle place) ≡ Some b))
        mover_case None e = inl e
        mover_case (Some b) e = inr (b, e)

pub are_left : (banks : List ℕ) (slots : Slots) (want : Want) (address : ℕ) (room : Slots) → PurgesOrSlides banks slots want address room → AreLeft slots room
are_left banks slots want address room (inl made) = subst (AreLeft slots) (sym made.room_is) (emptied_left slots made.count)
are_left banks slots want address room (inr made) = slid_left banks slots (slots_after_purges slots made.1.count) room (emptied_left slots made.1.count) made.1.slides

-- ---- blocks lie apart after a slide too

module _ (banks : List ℕ) (old new : Slots) (apart : AreApart banks old) (settled : AreSettled banks old) (slides : Slides banks old new) where
  its_bytes : (place : ℕ) (block : Block) (m : movable_block (slot_at old place) ≡ Some block) (i : ℕ) → HoldsByte i (slot_at new place)
      → let at = (slides.goes place block m).0 in (at ≤ i) × (i < at + block.want.size)
  its_bytes place block m i held = subst (HoldsByte i) (slides.goes place block m).2 held

  -- of two blocks that moved, the one that moved later lies apart from the other
  later_apart : (place other : ℕ) (block second : Block) → movable_block (slot_at old place) ≡ Some block → movable_block (slot_at old other) ≡ Some second → place_of block < place_of second
      → (i : ℕ) → HoldsByte i (slot_at new place) → HoldsByte i (slot_at new other) → ⊥
  later_apart place other block second m m' below i one two =
      let its = its_bytes other second m' i two in
      (slides.goes other second m').1.fits.moved place block m below i its.0 its.1 one

  one_byte : (place other i : ℕ) (o p : Option Block) → movable_block (slot_at old place) ≡ o → movable_block (slot_at old other) ≡ p → HoldsByte i (slot_at new place) → HoldsByte i (slot_at new other) → place ≡ other
  one_byte place other i None None m m' one two =
      apart.apart place other i (subst (HoldsByte i) (slides.stay place m) one) (subst (HoldsByte i) (slides.stay other m') two)
  one_byte place other i None (Some second) m m' one two =
      let its = its_bytes other second m' i two in
      absurd ((slides.goes other second m').1.fits.stay place m i its.0 its.1 (subst (HoldsByte i) (slides.stay place m) one))
  one_byte place other i (Some block) None m m' one two =
      let its = its_bytes place block m i one in
      absurd ((slides.goes place block m).1.fits.stay other m' i its.0 its.1 (subst (HoldsByte i) (slides.stay other m') two))
  one_byte place other i (Some block) (Some second) m m' one two = elim (cases_lt (place_of block) (place_of second)) [
    | inl below ↦ absurd (later_apart place other block second m m' below i one two)
    | inr ge ↦ elim (cases_lt (place_of second) (place_of block)) [
      | inl below ↦ absurd (later_apart other place second block m' m below i two one)
      | inr le ↦
          let some = (settled.wants place block (mover_in (slot_at old place) block m).0).some in
          let some' = (settled.wants other second (mover_in (slot_at old other) second m').0).some in
          apart.apart place other (place_of block) (has_bytes (slot_at old place) block m (place_of block) (omega arith) (omega arith))
          (has_bytes (slot_at old other) second m' (place_of block) (omega arith) (omega arith))
    ]
  ]

  byte_free : (place i : ℕ) (o : Option Block) → movable_block (slot_at old place) ≡ o → HoldsByte i (slot_at new place) → IsFree banks i
  byte_free place i None m held = apart.inside place i (subst (HoldsByte i) (slides.stay place m) held)
  byte_free place i (Some block) m held =
      let its = its_bytes place block m i held in
      (slides.goes place block m).1.fits.open_.free i its.0 its.1

  pub slid_apart : AreApart banks new
  slid_apart = record {
    inside = λ place i held. byte_free place i (movable_block (slot_at old place)) refl held;
    apart = λ place other i one two. one_byte place other i (movable_block (slot_at old place)) (movable_block (slot_at old other)) refl refl one two;
  }

  slid_want : (place : ℕ) (block : Block) (o : Option Block) → movable_block (slot_at old place) ≡ o → block_in (slot_at new place) ≡ Some block → IsWant block.want
  slid_want place block None m is = settled.wants place block (sym (ap block_in (slides.stay place m)) ∙ is)
  slid_want place block (Some was) m is =
      let goes = slides.goes place was m in
      let one : moved_to goes.0 was ≡ block = same_Some (moved_to goes.0 was) block (sym (ap block_in goes.2) ∙ is) in
      subst (λ (b : Block). IsWant b.want) one (settled.wants place was (mover_in (slot_at old place) was m).0)

  slid_fit : (place : ℕ) (block : Block) (at : ℕ) (o : Option Block) → movable_block (slot_at old place) ≡ o → block_in (slot_at new place) ≡ Some block → block.at ≡ Some at → Fits banks [] block.want at
  slid_fit place block at None m is lies = settled.fits place block at (sym (ap block_in (slides.stay place m)) ∙ is) lies
  slid_fit place block at (Some was) m is lies =
      let goes = slides.goes place was m in
      let one : moved_to goes.0 was ≡ block = same_Some (moved_to goes.0 was) block (sym (ap block_in goes.2) ∙ is) in
      let there : goes.0 ≡ at = same_Some goes.0 at (ap (λ (b : Block). b.at) one ∙ lies) in
      subst (λ (b : Block). Fits banks [] b.want at) one (subst (λ (n : ℕ). Fits banks [] was.want n) there goes.1.fits.open_)

  pub slid_settled : AreSettled banks new
  slid_settled = record {
    wants = λ place block is. slid_want place block (movable_block (slot_at old place)) refl is;
    fits = λ place block at is lies. slid_fit place block at (movable_block (slot_at old place)) refl is lies;
  }
