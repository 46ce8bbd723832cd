-- A slide that was planned is carried out, one block after the other.
use Rattle.std.proofs.Common.{◌≡◌, ◌≢◌, inl, inr, ℕ, suc, Bool, true, false, cond, ◌==◌, not, ◌&&◌, ◌+◌, ◌<◌, ◌≤◌, List, length, Option, Some, None, IsSome, is_some, IsSomeAnd, refl, sym, ap, subst, ◌∙◌, arith}
use Rattle.std.specs.Prelude.{slice_set, unwrap_or}
use Rattle.std.proofs.lemmas.Option.{same_Some}
use Rattle.std.proofs.lemmas.Bool.{cases_eq, cases_lt, eqb-true}
use Rattle.std.proofs.lemmas.Bool.Decides.{nat_tests}
use Rattle.std.proofs.lemmas.List.{ext_get_or, get_or-set_same, get_or-set_other, length-set}
use Rattle.iigs_meaning.specs.declared.handles.Handle.{Handle}
use Rattle.iigs_meaning.specs.declared.slots.Slot.{Slot}
use Rattle.iigs_meaning.specs.declared.wants.Block.{Block}
use Rattle.iigs_meaning.specs.Slots.{slot_at, new_slot, used_value, get, with_value}
use Rattle.iigs_meaning.specs.Fits.{Slots, Fits, block_in}
use Rattle.iigs_meaning.specs.Blocks.{AreApart, address_in}
use Rattle.iigs_meaning.specs.Moves.{Shifts}
use Rattle.iigs_meaning.specs.Slide.{can_move, is_moved, count_moved, movable_block, place_of, holding, moved_to, Slides, AreSettled}
use Rattle.iigs_meaning.specs.laws.SlideLaws.{mover_in, lies, are_low, slides_moved, AreSlidTo, IsNext, fits_there, from_slide}
use Rattle.iigs_places.specs.declared.table.PlacedBlock.{PlacedBlock}
use Rattle.iigs_places.specs.Lowest.{IsFirstPut}
use Rattle.iigs_places.proofs.Changed.{live_block, live_in}
use Rattle.iigs_places.proofs.Sliding.{set_is, is_mover, no_mover, held_same, set_same}
use Rattle.iigs_compact_memory.specs.Carried.{CanCarry, AreCarried}
use Rattle.iigs_compact_memory.proofs.Moved.{count_set}

-- ---- one block

module _ (banks : List ℕ) (slots plan : Slots) (h : Handle) (at : ℕ) (can : CanCarry banks slots plan h at) where
  live : IsSome (get slots h)
  live = ap is_some can.was

  pub carry_within : h.slot < length slots
  carry_within = live_in slots h live

  generation : (slot_at slots h.slot).generation ≡ h.generation
  generation = go ((slot_at slots h.slot).generation == h.generation) refl (can.was)
    where
      go : (b : Bool) → ((slot_at slots h.slot).generation == h.generation) ≡ b → cond b (used_value (slot_at slots h.slot).content) None ≡ Some can.block → (slot_at slots h.slot).generation ≡ h.generation
      go true e is = eqb-true (slot_at slots h.slot).generation h.generation e
      go false e is = absurd cc

  -- the plan's block under the handle
  pub planned_block : get plan h ≡ Some (moved_to can.to can.block)
  planned_block = rw can.planned (rw generation (same h.generation))
    where
      same : (n : ℕ) → cond (n == n) (Some (moved_to can.to can.block)) None ≡ Some (moved_to can.to can.block)
      same n = let one : (n == n) ≡ true = grind (arith, nat_tests) in rw one refl

  -- where the plan has it elsewhere
  pub carried_is : with_value slots h (moved_to can.to can.block) ≡ slice_set slots h.slot (slot_at plan h.slot)
  carried_is = set_is slots h can.block can.was (moved_to can.to can.block) ∙ ap (λ (s : Slot Block). slice_set slots h.slot s) (sym can.planned)

  -- and where it has it here
  pub stays_is : can.to ≡ at → slots ≡ slice_set slots h.slot (slot_at plan h.slot)
  stays_is same = sym (set_same slots h.slot (slot_at plan h.slot) carry_within (can.planned ∙ held_same (slot_at slots h.slot) can.block can.to (live_block slots h can.block can.was) (can.there ∙ ap (λ (n : ℕ). Some n) (sym same))))

  pub moved_reported : is_moved (slot_at slots h.slot) (slot_at plan h.slot) ≡ not (at == can.to)
  moved_reported = rw (can.planned, live_block slots h can.block can.was, can.there) refl

  -- and where it is moved
  pub carried_shift : (next : Slots) (to : ℕ) → to ≡ can.to → Shifts banks slots h to next → next ≡ slice_set slots h.slot (slot_at plan h.slot)
  carried_shift next to same shifts =
      let block : shifts.block ≡ can.block = same_Some shifts.block can.block (sym shifts.was ∙ can.was) in
      shifts.next_is ∙ ap (λ (b : Block). with_value slots h (moved_to to b)) block ∙ ap (λ (n : ℕ). with_value slots h (moved_to n can.block)) same ∙ carried_is

  pub counts_one : can.to ≢ at → 1 ≡ cond {A = ℕ} (is_moved (slot_at slots h.slot) (slot_at plan h.slot)) 1 0
  counts_one ne = let other : (at == can.to) ≡ false = grind (arith, nat_tests) in rw (moved_reported, other) refl

  pub counts_none : can.to ≡ at → 0 ≡ cond {A = ℕ} (is_moved (slot_at slots h.slot) (slot_at plan h.slot)) 1 0
  counts_none eq = let same : (at == can.to) ≡ true = grind (arith, nat_tests) in rw (moved_reported, same) refl

  -- what is there once it is carried was there
  pub there_before : (place : ℕ) → IsSome (address_in (slot_at (slice_set slots h.slot (slot_at plan h.slot)) place)) → IsSome (address_in (slot_at slots place))
  there_before place some = elim (cases_eq place h.slot) [
    | inl same ↦ rw (same, live_block slots h can.block can.was, can.there) refl
    | inr ne ↦ subst (λ (s : Slot Block). IsSome (address_in s)) (get_or-set_other slots h.slot place (slot_at plan h.slot) new_slot ne) some
  ]

  -- where the plan has it is what was looked up
  pub looked_up : (block : Block) → Some block ≡ get plan h → (to : ℕ) → to ≡ unwrap_or block.at at → to ≡ can.to
  looked_up block is to reported =
      let same : block ≡ moved_to can.to can.block = same_Some block (moved_to can.to can.block) (is ∙ planned_block) in
      reported ∙ ap (λ (b : Block). unwrap_or b.at at) same

isnt_locked : (block : Block) → can_move block ≡ true → block.locked ≡ false
unfolding can_move
isnt_locked block can = last (is_some block.at) block.movable block.locked can
  where
    last : (a b c : Bool) → (a && b && not c) ≡ true → c ≡ false
    last true true true e = absurd cc
    last true true false e = refl
    last true false c e = absurd cc
    last false b c e = absurd cc

-- ---- where blocks lie while the slide is carried out

pub carried_none : (old plan : Slots) → AreCarried old plan old 0
carried_none old plan = record {
  len = refl;
  stay = λ place m. refl;
  wait = λ place block m late. refl;
  done = λ place block m below. absurd (omega (arith, below));
}

module _ (banks : List ℕ) (old plan now : Slots) (apart : AreApart banks old) (settled : AreSettled banks old) (slides : Slides banks old plan) (limit : ℕ) (carried : AreCarried old plan now limit) where
  same_done : (block : Block) → place_of block ≤ limit → (place : ℕ) (other : Block) → movable_block (slot_at old place) ≡ Some other → place_of other < place_of block → slot_at plan place ≡ slot_at now place
  same_done block le place other m below = sym (carried.done place other m (omega (arith, le, below)))

  pub slid_now : AreSlidTo banks old now limit
  slid_now = record {
    len = carried.len;
    stay = carried.stay;
    wait = carried.wait;
    moved = record {
      goes = λ place block m below.
          let it = slides.goes place block m in (
            it.0,
            record {
              fits = fits_there banks old plan now block it.0 (same_done block (omega (arith, below))) it.1.fits;
              least = λ other fits. it.1.least other (fits_there banks old now plan block other (λ p o m' less. sym (same_done block (omega (arith, below)) p o m' less)) fits);
            },
            carried.done place block m below ∙ it.2,
          );
    };
  }

  address_mover : (place : ℕ) (block : Block) → movable_block (slot_at old place) ≡ Some block → limit ≤ place_of block → address_in (slot_at now place) ≡ Some (place_of block)
  address_mover place block m late = ap address_in (carried.wait place block m late) ∙ rw (mover_in (slot_at old place) block m).0 (lies (slot_at old place) block m)

  -- where no block is left, all are where the plan has them
  pub carried_all : ((place at : ℕ) → address_in (slot_at now place) ≡ Some at → at < limit) → now ≡ plan
  carried_all none = ext_get_or new_slot now plan (carried.len ∙ sym slides.len) (λ place inside'. go place (movable_block (slot_at old place)) refl)
    where
      go : (place : ℕ) (o : Option Block) → movable_block (slot_at old place) ≡ o → slot_at now place ≡ slot_at plan place
      go place None m = carried.stay place m ∙ sym (slides.stay place m)
      go place (Some block) m = elim (cases_lt (place_of block) limit) [
        | inl below ↦ carried.done place block m below
        | inr late ↦ carried.done place block m (none place (place_of block) (address_mover place block m late))
      ]

  module _ (put : PlacedBlock) (first : IsFirstPut now limit put) where
    its : (block : Block) × (get now put.handle ≡ Some block) × (block.at ≡ Some put.at)
    its = go (get now put.handle) refl first.there
      where
        go : (o : Option Block) → get now put.handle ≡ o → IsSomeAnd o (λ block. block.at ≡ Some put.at) → (block : Block) × (get now put.handle ≡ Some block) × (block.at ≡ Some put.at)
        go None is there = absurd there
        go (Some block) is there = (block, is, there)

    there_now : block_in (slot_at now put.handle.slot) ≡ Some its.0
    there_now = live_block now put.handle its.0 its.1

    address_now : address_in (slot_at now put.handle.slot) ≡ Some put.at
    address_now = rw there_now its.2

    -- it waits where it was
    still : slot_at now put.handle.slot ≡ slot_at old put.handle.slot
    still = go (movable_block (slot_at old put.handle.slot)) refl
      where
        go : (o : Option Block) → movable_block (slot_at old put.handle.slot) ≡ o → slot_at now put.handle.slot ≡ slot_at old put.handle.slot
        go None m = carried.stay put.handle.slot m
        go (Some was) m = elim (cases_lt (place_of was) limit) [
          | inr late ↦ carried.wait put.handle.slot was m late
          | inl early ↦
              let it = are_low banks old now apart settled limit slid_now.moved limit (omega arith) put.handle.slot was m early in
              let one : Some it.0 ≡ Some put.at = sym (ap address_in it.2) ∙ address_now in
              let same : it.0 ≡ put.at = same_Some it.0 put.at one in
              absurd (omega (arith, same, it.1, early, first.from))
        ]

    there_old : block_in (slot_at old put.handle.slot) ≡ Some its.0
    there_old = ap block_in (sym still) ∙ there_now

    place_first : place_of its.0 ≡ put.at
    place_first = rw its.2 refl

    late_others : (place : ℕ) (other : Block) → movable_block (slot_at old place) ≡ Some other → limit ≤ place_of other → put.at ≤ place_of other
    late_others place other m late = first.least place (place_of other) (address_mover place other m late) late

    is_next : IsNext old limit its.0
    is_next = (omega (arith, place_first, first.from), λ place other m late. omega (arith, place_first, late_others place other m late))

    -- the block can be carried
    pub can_carry : CanCarry banks now plan put.handle put.at
    can_carry = go (can_move its.0) refl
      where
        go : (b : Bool) → can_move its.0 ≡ b → CanCarry banks now plan put.handle put.at
        go false cannot =
            let none = no_mover (slot_at old put.handle.slot) its.0 there_old cannot in
            record {
              block = its.0;
              was = its.1;
              there = its.2;
              to = put.at;
              planned = slides.stay put.handle.slot none ∙ sym still ∙ sym (held_same (slot_at now put.handle.slot) its.0 put.at there_now its.2);
              goes = λ ne. absurd (ne refl);
            }
        go true can =
            let m = is_mover (slot_at old put.handle.slot) its.0 there_old can in
            let it = slides.goes put.handle.slot its.0 m in
            let low : it.0 ≤ place_of its.0 = low_of m in
            let beside = fits_there banks old plan now its.0 it.0 (early m) it.1.fits in
            let fits = from_slide banks old now apart settled limit slid_now put.handle.slot its.0 m is_next it.0 low beside in
            record {
              block = its.0;
              was = its.1;
              there = its.2;
              to = it.0;
              planned = it.2 ∙ ap (λ (s : Slot Block). holding s (moved_to it.0 its.0)) (sym still);
              goes = λ ne. (isnt_locked its.0 can, omega (arith, low, place_first), subst (λ (s : Slots). Fits banks s its.0.want it.0) (sym (set_is now put.handle its.0 its.1 (record its.0 { at = None }))) fits);
            }
          where
            low_of : (m : movable_block (slot_at old put.handle.slot) ≡ Some its.0) → (slides.goes put.handle.slot its.0 m).0 ≤ place_of its.0
            low_of m =
                let it = are_low banks old plan apart settled (suc (place_of its.0)) (slides_moved banks old plan slides (suc (place_of its.0))) (suc (place_of its.0)) (omega arith) put.handle.slot its.0 m (omega arith) in
                let one : moved_to it.0 its.0 ≡ moved_to (slides.goes put.handle.slot its.0 m).0 its.0 = same_held (slot_at old put.handle.slot) (moved_to it.0 its.0) (moved_to (slides.goes put.handle.slot its.0 m).0 its.0) (sym it.2 ∙ (slides.goes put.handle.slot its.0 m).2) in
                omega (arith, same_Some it.0 (slides.goes put.handle.slot its.0 m).0 (ap (λ (b : Block). b.at) one), it.1)
              where
                same_held : (slot : Slot Block) (a b : Block) → holding slot a ≡ holding slot b → a ≡ b
                same_held slot a b e = same_Some a b (ap block_in e)

            early : (m : movable_block (slot_at old put.handle.slot) ≡ Some its.0) → (place : ℕ) (other : Block) → movable_block (slot_at old place) ≡ Some other → place_of other < place_of its.0 → slot_at plan place ≡ slot_at now place
            early m place other m' below = elim (cases_lt (place_of other) limit) [
              | inl before ↦ sym (carried.done place other m' before)
              | inr late ↦ absurd (omega (arith, late_others place other m' late, place_first, below))
            ]

    -- once it is carried
    pub carried_step : AreCarried old plan (slice_set now put.handle.slot (slot_at plan put.handle.slot)) (suc put.at)
    carried_step = record {
      len = length-set now put.handle.slot (slot_at plan put.handle.slot) ∙ carried.len;
      stay = λ place m. elim (cases_eq place put.handle.slot) [
        | inl same ↦ here place same ∙ slides.stay place m
        | inr ne ↦ other place ne ∙ carried.stay place m
      ];
      wait = λ place block m late. elim (cases_eq place put.handle.slot) [
        | inl same ↦
            let at : Some (place_of block) ≡ Some put.at = sym (address_mover place block m (omega (arith, late, first.from))) ∙ ap (λ (n : ℕ). address_in (slot_at now n)) same ∙ address_now in
            absurd (omega (arith, late, same_Some (place_of block) put.at at))
        | inr ne ↦ other place ne ∙ carried.wait place block m (omega (arith, late, first.from))
      ];
      done = λ place block m below. elim (cases_eq place put.handle.slot) [
        | inl same ↦ here place same
        | inr ne ↦ elim (cases_lt (place_of block) limit) [
          | inl early ↦ other place ne ∙ carried.done place block m early
          | inr late ↦
              let at : place_of block ≡ put.at = omega (arith, late_others place block m late, below) in
              absurd (ne (one_place place block m late at))
        ]
      ];
    }
      where
        inside_now : put.handle.slot < length now
        inside_now = carry_within banks now plan put.handle put.at can_carry

        here : (place : ℕ) → place ≡ put.handle.slot → slot_at (slice_set now put.handle.slot (slot_at plan put.handle.slot)) place ≡ slot_at plan place
        here place same = ap (λ (n : ℕ). slot_at (slice_set now put.handle.slot (slot_at plan put.handle.slot)) n) same
            ∙ get_or-set_same now put.handle.slot (slot_at plan put.handle.slot) new_slot inside_now ∙ ap (slot_at plan) (sym same)

        other : (place : ℕ) → place ≢ put.handle.slot → slot_at (slice_set now put.handle.slot (slot_at plan put.handle.slot)) place ≡ slot_at now place
        other place ne = get_or-set_other now put.handle.slot place (slot_at plan put.handle.slot) new_slot ne

        -- two blocks that begin at one address are one
        one_place : (place : ℕ) (block : Block) → movable_block (slot_at old place) ≡ Some block → limit ≤ place_of block → place_of block ≡ put.at → place ≡ put.handle.slot
        one_place place block m late at =
            let want = settled.wants place block (mover_in (slot_at old place) block m).0 in
            let want' = settled.wants put.handle.slot its.0 there_old in
            apart.apart place put.handle.slot put.at
            (rw ((mover_in (slot_at old place) block m).0, lies (slot_at old place) block m) (omega (arith, at), omega (arith, at, want.some)))
            (rw (there_old, its.2) (omega arith, omega (arith, want'.some)))

    -- how many changed their address
    pub carried_count : count_moved old (slice_set now put.handle.slot (slot_at plan put.handle.slot)) ≡ count_moved old now + cond (is_moved (slot_at now put.handle.slot) (slot_at plan put.handle.slot)) 1 0
    carried_count =
        let inside_old : put.handle.slot < length old = subst (λ (n : ℕ). put.handle.slot < n) carried.len (carry_within banks now plan put.handle put.at can_carry) in
        count_set old now put.handle.slot (slot_at plan put.handle.slot) inside_old (sym carried.len) still
        ∙ ap (λ (s : Slot Block). count_moved old now + cond (is_moved s (slot_at plan put.handle.slot)) 1 0) (sym still)
