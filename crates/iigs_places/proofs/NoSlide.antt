-- Blocks that no slide moves.
use Rattle.std.proofs.Common.{◌≡◌, ◌⊎◌, inl, inr, ℕ, suc, true, false, nat_lt, ◌+◌, ◌<◌, ◌≤◌, ◌^◌, max, List, [], All, Contains, get_or, length, count_by, Option, Some, None, MatchOption, is_some, Bool, arith, refl, sym, ap, subst, ◌∙◌}
use Rattle.std.proofs.lemmas.Bool.{cases_lt}
use Rattle.std.proofs.lemmas.Bool.Decides.{nat_tests}
use Rattle.std.proofs.lemmas.List.Elements.{Contains-get_or}
use Rattle.std.proofs.lemmas.List.Sums.{count_by-le-length}
use Rattle.iigs_meaning.specs.declared.slots.Slot.{Slot}
use Rattle.iigs_meaning.specs.declared.wants.Block.{Block}
use Rattle.iigs_meaning.specs.declared.wants.Want.{Want}
use Rattle.iigs_meaning.specs.Slots.{slot_at, new_slot}
use Rattle.iigs_meaning.specs.Fits.{Slots, IsWant, IsApart, HoldsByte, block_in}
use Rattle.iigs_meaning.specs.Blocks.{address_in}
use Rattle.iigs_meaning.specs.Moves.{lies_below}
use Rattle.iigs_meaning.specs.Slide.{can_move, movable_block, place_of, holding, moved_to}
use Rattle.iigs_meaning.specs.laws.PurgeLaws.{count_more}
use Rattle.iigs_meaning.specs.laws.SlideLaws.{no_address_rises, mover_in}
use Rattle.iigs_places.specs.declared.marks.BlockMark.{BlockMark}
use Rattle.iigs_places.specs.declared.spots.BlockSpot.{BlockSpot}
use Rattle.iigs_places.specs.Extent.{extent}
use Rattle.iigs_places.specs.Spots.{IsBoundedSlot, FitsAmong, IsLeastAmong, IsBeside}
use Rattle.iigs_places.specs.Marks.{HaveMarks, IsFirstFrom}
use Rattle.iigs_places.specs.Runs.{AreRuns, InRuns, RunsAdd}
use Rattle.iigs_places.specs.Sliding.{HasPassed}
use Rattle.iigs_places.specs.Fixed.{NeverFits, IsFixed, AreFixed}
use Rattle.iigs_places.proofs.Extents.{each_slot, bounded_extent, holds_from}
use Rattle.iigs_places.proofs.Marked.{past_none}
use Rattle.iigs_places.proofs.Placed.{fits_open}
use Rattle.iigs_places.proofs.Sliding.{below_more, address_reported, extent_block, is_mover, no_mover, held_same, mark_size, mark_extent, mark_ends}

-- where no byte is one of the runs', an address is beside them
pub apart_beside : (runs : List BlockSpot) → AreRuns runs → (address size : ℕ) → 0 < size → ((i : ℕ) → address ≤ i → i < address + size → ¬ InRuns runs i)
    → All (λ (run : BlockSpot). 0 ≤ run.turn → IsBeside address size run) runs
apart_beside runs are address size some apart = λ k d inside kept.
    let run : BlockSpot = get_or runs k d in
    let some' : run.at < run.end = are.some k d inside in
    elim (cases_lt run.at (address + size)) [
      | inr ge ↦ inl ge
      | inl lt ↦ elim (cases_lt address run.end) [
        | inr ge ↦ inr ge
        | inl lt' ↦ absurd (apart (max address run.at) (omega arith) (omega arith) (run, Contains-get_or runs k d inside, omega arith, omega arith))
      ]
    ]

pub mover_or_none : (slot : Slot Block) → (movable_block slot ≡ None) ⊎ ((block : Block) × (movable_block slot ≡ Some block))
mover_or_none slot = go (movable_block slot) refl
  where
    go : (o : Option Block) → movable_block slot ≡ o → (movable_block slot ≡ None) ⊎ ((block : Block) × (movable_block slot ≡ Some block))
    go None is = inl is
    go (Some block) is = inr (block, is)

pub mover_begins : (slot : Slot Block) (block : Block) → movable_block slot ≡ Some block → (e : ℕ × ℕ) → extent slot ≡ Some e → place_of block ≡ e.0
mover_begins slot block m e is = rw (extent_block slot block e (mover_in slot block m).0 is).0 refl

-- ---- one block

module _ (banks : List ℕ) (slots : Slots) (bounded : All IsBoundedSlot slots) (place address size : ℕ) (there : extent (slot_at slots place) ≡ Some (address, size)) where
  sized : (0 < size) × (address + size ≤ 2 ^ 24)
  sized = rw there at (bounded_extent (slot_at slots place) (each_slot IsBoundedSlot slots tt bounded place))

  first_byte : HoldsByte address (slot_at slots place)
  first_byte = holds_from address (slot_at slots place) (rw there (omega arith, omega (arith, sized.0)))

  -- one that stays in a slide
  pub stays_fixed : movable_block (slot_at slots place) ≡ None → IsFixed banks slots place
  stays_fixed none more room apart settled have slides =
      let same = have place address first_byte in
      slides.stay place (ap movable_block same ∙ none) ∙ same

  -- one that fits nowhere lower beside others that no slide moves
  module _ (block : Block) (is : block_in (slot_at slots place) ≡ Some block) (can : can_move block ≡ true) (want : IsWant block.want) (runs : List BlockSpot) (fixed : AreFixed banks slots address runs)
      (least : IsLeastAmong banks block.want runs 0 address) where
    lies_at : place_of block ≡ address
    lies_at = rw (extent_block (slot_at slots place) block (address, size) is there).0 refl

    pub least_fixed : IsFixed banks slots place
    least_fixed more room apart settled have slides =
        let same : slot_at more place ≡ slot_at slots place = have place address first_byte in
        let mover : movable_block (slot_at more place) ≡ Some block = ap movable_block same ∙ is_mover (slot_at slots place) block is can in
        let goes = slides.goes place block mover in
        let present = (no_address_rises banks more room apart settled slides).present place block mover in
        let low : goes.0 ≤ address = omega (arith, goes.1.least (place_of block) present, lies_at) in
        let among : FitsAmong banks block.want runs 0 goes.0 = record {
          open_ = fits_open banks [] block.want goes.0 want.some goes.1.fits.open_;
          beside = apart_beside runs fixed.are goes.0 block.want.size want.some (λ i from to r.
              let f = fixed.from i r in
              let q = f.0.place in
              let holds : HoldsByte i (slot_at slots q) = holds_from i (slot_at slots q) (rw f.0.is f.0.spans) in
              let same' : slot_at more q ≡ slot_at slots q = have q i holds in
              let stays : slot_at room q ≡ slot_at slots q = f.1 more room apart settled have slides in
              elim (mover_or_none (slot_at more q)) [
                | inl none ↦ goes.1.fits.stay q none i from to (subst (HoldsByte i) (sym same') holds)
                | inr other ↦
                    let begins : place_of other.0 ≡ f.0.at.0 = mover_begins (slot_at more q) other.0 other.1 f.0.at (ap extent same' ∙ f.0.is) in
                    goes.1.fits.moved q other.0 other.1 (omega (arith, begins, lies_at, f.0.before)) i from to (subst (HoldsByte i) (sym stays) holds)
              ]);
        } in
        let to_is : goes.0 ≡ address = omega (arith, low, least.least goes.0 among) in
        goes.2 ∙ ap (λ (n : ℕ). holding (slot_at more place) (moved_to n block)) to_is
        ∙ held_same (slot_at more place) block address (ap block_in same ∙ is) (extent_block (slot_at slots place) block (address, size) is there).0 ∙ same

-- ---- the blocks with marks

module _ (banks : List ℕ) (slots : Slots) (bounded : All IsBoundedSlot slots) (marks : List BlockMark) (have : HaveMarks slots marks) (m : BlockMark) (has : Contains marks m)
    (block : Block) (is : block_in (slot_at slots m.slot) ≡ Some block) where
  pub mark_want : IsWant block.want
  mark_want = (rw is at (each_slot IsBoundedSlot slots tt bounded m.slot)).want

  pub mark_stays : can_move block ≡ false → IsFixed banks slots m.slot
  mark_stays cannot = stays_fixed banks slots bounded m.slot m.at (mark_size slots marks have m has) (mark_extent slots marks have m has) (no_mover (slot_at slots m.slot) block is cannot)

  pub mark_least : can_move block ≡ true → (runs : List BlockSpot) → AreFixed banks slots m.at runs → (to : ℕ) → IsLeastAmong banks block.want runs 0 to → to ≡ m.at → IsFixed banks slots m.slot
  mark_least can runs fixed to least same = least_fixed banks slots bounded m.slot m.at (mark_size slots marks have m has) (mark_extent slots marks have m has) block is can mark_want runs fixed
      (subst (IsLeastAmong banks block.want runs 0) same least)

-- ---- runs of fixed blocks

pub fixed_none : (banks : List ℕ) (slots : Slots) → AreFixed banks slots 0 []
fixed_none banks slots = record {
  are = record {
    order = λ i j d le lt. absurd (omega (arith, lt));
    some = λ k d lt. absurd (omega (arith, lt));
    ends = λ k d lt. absurd (omega (arith, lt));
  };
  from = λ i r. absurd (omega (arith, r.1.1));
}

abbrev later : (slots : Slots) (limit more i : ℕ) → limit ≤ more → HasPassed slots limit i → HasPassed slots more i
later slots limit more i le has = record { place = has.place; at = has.at; is = has.is; before = omega (arith, has.before, le); spans = has.spans }

pub fixed_later : (banks : List ℕ) (slots : Slots) (limit more : ℕ) → limit ≤ more → (runs : List BlockSpot) → AreFixed banks slots limit runs → AreFixed banks slots more runs
fixed_later banks slots limit more le runs fixed = record {
  are = fixed.are;
  from = λ i r. let f = fixed.from i r in (later slots limit more i le f.0, f.1);
}

pub fixed_more : (banks : List ℕ) (slots : Slots) (marks : List BlockMark) → (have : HaveMarks slots marks) → (m : BlockMark) → (has : Contains marks m) → IsFixed banks slots m.slot
    → (runs added : List BlockSpot) → AreFixed banks slots m.at runs → AreRuns added → RunsAdd runs m.at m.end added → AreFixed banks slots (suc m.at) added
fixed_more banks slots marks have m has stays runs added fixed are adds = record {
  are = are;
  from = λ i r. elim (adds.only i r) [
    | inl old ↦ let f = fixed.from i old in (later slots m.at (suc m.at) i (omega arith) f.0, f.1)
    | inr new ↦ (
      record {
        place = m.slot;
        at = (m.at, mark_size slots marks have m has);
        is = mark_extent slots marks have m has;
        before = omega arith;
        spans = (new.0, omega (arith, new.1, mark_ends slots marks have m has));
      },
      stays,
    )
  ];
}

module _ (slots : Slots) (marks : List BlockMark) (have : HaveMarks slots marks) (limit : ℕ) (m : BlockMark) (first : IsFirstFrom marks limit m) where
  m_address : address_in (slot_at slots m.slot) ≡ Some m.at
  m_address = address_reported (slot_at slots m.slot) (m.at, mark_size slots marks have m first.is) (mark_extent slots marks have m first.is)

  pub counted_more : count_by (lies_below limit) slots + 1 ≤ count_by (lies_below (suc m.at)) slots
  counted_more = count_more (lies_below limit) (lies_below (suc m.at)) new_slot new_slot slots slots m.slot refl
      (past_none slots m.slot (m.at, mark_size slots marks have m first.is) (mark_extent slots marks have m first.is))
      (λ k is. below_more limit (suc m.at) (address_in (slot_at slots k)) (omega (arith, first.from)) is) not_below now_below
    where
      not_below : lies_below limit (slot_at slots m.slot) ≡ false
      not_below = rw m_address (at_not_below m.at limit first.from)
        where
          at_not_below : (n l : ℕ) → l ≤ n → nat_lt n l ≡ false
          at_not_below n l le = grind (arith, nat_tests)

      now_below : lies_below (suc m.at) (slot_at slots m.slot) ≡ true
      now_below = rw m_address (at_below m.at)
        where
          at_below : (n : ℕ) → nat_lt n (suc n) ≡ true
          at_below n = grind (arith, nat_tests)

  pub room_more : length slots ≡ 4096 → count_by (lies_below limit) slots < 4096
  room_more count = omega (arith, counted_more, count_by-le-length (lies_below (suc m.at)) slots, count)

-- ---- a want

-- where a want doesn't fit beside fixed blocks, no slide makes room for it
pub never_fits : (banks : List ℕ) (slots : Slots) (limit : ℕ) (want : Want) → IsWant want → (runs : List BlockSpot) → AreFixed banks slots limit runs → (o : Option ℕ) (b : Bool) → b ≡ is_some o
    → MatchOption o ((address : ℕ) → ¬ FitsAmong banks want runs 0 address) (IsLeastAmong banks want runs 0) → b ≡ false → NeverFits banks slots want
never_fits banks slots limit want is_want runs fixed (Some at) b is reported e more room apart settled have slides address fits = let clash : true ≡ false = sym is ∙ e in absurd cc
never_fits banks slots limit want is_want runs fixed None b is reported e more room apart settled have slides address fits = reported address (record {
  open_ = fits_open banks room want address is_want.some fits;
  beside = apart_beside runs fixed.are address want.size is_want.some (λ i from to r.
      let f = fixed.from i r in
      let holds : HoldsByte i (slot_at slots f.0.place) = holds_from i (slot_at slots f.0.place) (rw f.0.is f.0.spans) in
      let stays : slot_at room f.0.place ≡ slot_at slots f.0.place = f.1 more room apart settled have slides in
      each_slot (IsApart address want.size) room (λ j from' to' none. absurd none) fits.apart f.0.place i from to (subst (HoldsByte i) (sym stays) holds));
})
