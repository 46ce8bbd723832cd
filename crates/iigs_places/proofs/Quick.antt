-- Where a want fits beside all blocks.
use Rattle.std.proofs.Common.{◌≡◌, ◌⊎◌, inl, inr, ℕ, Bool, true, false, ◌&&◌, nat_lt, ◌+◌, ◌<◌, ◌≤◌, List, ◌∷◌, map, get_or, max, MatchOption, Option, Some, None, IsSome, is_some, arith, refl, sym, ap, subst, ◌∙◌}
use Rattle.std.specs.Option.{option_and_then}
use Rattle.std.proofs.lemmas.Bool.{cases_lt}
use Rattle.std.proofs.lemmas.Bool.Decides.{nat_tests}
use Rattle.std.proofs.lemmas.List.Elements.{Contains-get_or, All-contains}
use Rattle.iigs_meaning.specs.declared.handles.Handle.{Handle}
use Rattle.iigs_meaning.specs.declared.slots.Slot.{Slot}
use Rattle.iigs_meaning.specs.declared.slots.SlotContent.TheVariants.{Used}
use Rattle.iigs_meaning.specs.declared.wants.Want.{Want}
use Rattle.iigs_meaning.specs.declared.wants.Block.{Block}
use Rattle.iigs_meaning.specs.Slots.{slot_at, get, new_handle, after_take, with_value}
use Rattle.iigs_meaning.specs.Fits.{Fits, IsWant, IsApart, HoldsByte, block_in}
use Rattle.iigs_meaning.specs.Placement.{can_purge, is_gone, rank, slots_after_purges, emptied_where}
use Rattle.iigs_meaning.specs.Puts.{placed_block}
use Rattle.iigs_places.specs.declared.search.FoundAddress.{FoundAddress}
use Rattle.iigs_places.specs.Table.{IsPut, IsReput}
use Rattle.iigs_places.specs.Extent.{extent, extent_of}
use Rattle.iigs_places.specs.declared.spots.BlockSpot.{BlockSpot}
use Rattle.iigs_places.specs.declared.marks.BlockMark.{BlockMark}
use Rattle.iigs_places.specs.Marks.{mark, HaveMarks}
use Rattle.iigs_places.specs.Runs.{InRuns, Cover}
use Rattle.iigs_places.specs.Spots.{turn_of, FitsAmong, IsLeastAmong, IsFound}
use Rattle.iigs_places.proofs.Extents.{each_slot, all_slots, holds_to, holds_from}
use Rattle.iigs_places.proofs.Emptied.{emptied_none}
use Rattle.iigs_places.proofs.Placed.{fits_open, open_fits, below}
use Rattle.iigs_places.proofs.Takes.{emptied_handle}
use Rattle.iigs_places.proofs.Changed.{taken, live_block, live_in, with_is}
use Rattle.iigs_places.proofs.Marked.{extent_in, have_set}

gone_zero : (slots : List (Slot Block)) (block : Block) → is_gone slots 0 block ≡ false
unfolding is_gone
gone_zero slots block = go (can_purge block) (nat_lt (rank slots block) 0) (grind (arith, nat_tests))
  where
    go : (a b : Bool) → b ≡ false → (a && b) ≡ false
    go true b none = none
    go false b none = refl

emptied_zero : (slots : List (Slot Block)) → slots ≡ slots_after_purges slots 0
unfolding slots_after_purges
emptied_zero slots = emptied_none (is_gone slots 0) slots (gone_zero slots)

-- nothing has a turn below 0
below_none : (slots : List (Slot Block)) (limit : ℕ) → limit ≡ 0 → slots ≡ map (emptied_where (below limit)) slots
below_none slots limit none = emptied_none (below limit) slots (λ block. never_below (turn_of block))
  where
    never_below : (turn : ℕ) → nat_lt turn limit ≡ false
    never_below turn = grind (arith, nat_tests)

module _ (slots : List (Slot Block)) (marks : List BlockMark) (have : HaveMarks slots marks) (runs : List BlockSpot) (cover : Cover marks runs) where
  held : (i place : ℕ) → HoldsByte i (slot_at slots place) → InRuns runs i
  held i place holds =
      let e = extent_in i (slot_at slots place) (holds_to i (slot_at slots place) holds) in
      cover.to i (mark place e.0, have.each place e.0 e.1, e.2.0, e.2.1)

  holder : (i : ℕ) → InRuns runs i → (place : ℕ) × HoldsByte i (slot_at slots place)
  holder i r =
      let m = cover.from i r in
      let one = have.are m.0 m.1 in
      (m.0.slot, holds_from i (slot_at slots m.0.slot) (rw one.1 (omega (arith, ap (λ (x : BlockMark). x.at) one.2, m.2), omega (arith, ap (λ (x : BlockMark). x.end) one.2, m.3))))

  module _ (banks : List ℕ) (want : Want) (is_want : IsWant want) where
    fits_runs : (address : ℕ) → Fits banks slots want address → FitsAmong banks want runs 0 address
    fits_runs address fits = record {
      open_ = fits_open banks slots want address is_want.some fits;
      beside = λ k d inside kept.
          let run : BlockSpot = get_or runs k d in
          let some : run.at < run.end = cover.are.some k d inside in
          elim (cases_lt run.at (address + want.size)) [
            | inr ge ↦ inl ge
            | inl lt ↦ elim (cases_lt address run.end) [
              | inr ge ↦ inr ge
              | inl lt' ↦ (
                  let size : 0 < want.size = is_want.some in
                  let h = holder (max address run.at) (run, Contains-get_or runs k d inside, omega arith, omega arith) in
                  let apart : IsApart address want.size (slot_at slots h.0) = each_slot (IsApart address want.size) slots (λ i from to holds. absurd holds) fits.apart h.0 in
                  absurd (apart (max address run.at) (omega arith) (omega arith) h.1))
            ]
          ];
    }

    runs_fit : (address : ℕ) → FitsAmong banks want runs 0 address → Fits banks slots want address
    runs_fit address among = open_fits banks slots want address among.open_ (all_slots (IsApart address want.size) slots
        (λ place i from to holds.
        let r = held i place holds in
        elim (All-contains (λ (run : BlockSpot). 0 ≤ run.turn → (address + want.size ≤ run.at) ⊎ (run.end ≤ address)) runs r.0 among.beside r.1 (omega arith)) [
          | inl before ↦ absurd (omega (arith, before, r.2, to))
          | inr following ↦ absurd (omega (arith, following, r.3, from))
        ]))

    -- so a search among runs decides whether the want fits anywhere
    pub has_yes : (o : Option ℕ) (b : Bool) → b ≡ is_some o → MatchOption o ((address : ℕ) → ¬ FitsAmong banks want runs 0 address) (IsLeastAmong banks want runs 0) → b ≡ true
        → (address : ℕ) × Fits banks slots want address
    has_yes None b is reported e = let clash : true ≡ false = sym e ∙ is in absurd cc
    has_yes (Some at) b is reported e = (at, runs_fit at reported.fits)

    pub has_no : (o : Option ℕ) (b : Bool) → b ≡ is_some o → MatchOption o ((address : ℕ) → ¬ FitsAmong banks want runs 0 address) (IsLeastAmong banks want runs 0) → b ≡ false
        → (address : ℕ) → ¬ Fits banks slots want address
    has_no None b is reported e = λ address fits. reported address (fits_runs address fits)
    has_no (Some at) b is reported e = let clash : true ≡ false = sym is ∙ e in absurd cc

    -- the least such address is where the want goes, and no block is purged
    pub quick_found : (address : ℕ) → IsLeastAmong banks want runs 0 address → IsFound banks slots want (record { limit = 0; at = address })
    quick_found address least = record {
      count = 0;
      goes = record {
        fits = rw (← emptied_zero slots) (runs_fit address least.fits);
        least = λ other fits. least.least other (fits_runs other (rw (← emptied_zero slots) at fits));
        fewest = λ fewer less. absurd (omega (arith, less));
      };
      empties = sym (below_none slots 0 refl) ∙ emptied_zero slots;
    }

-- ---- what is made of a place that was found

module _ (banks : List ℕ) (old : List (Slot Block)) (want : Want) (found : FoundAddress) (is : IsFound banks old want found) where
  pub put_done : (user : ℕ) (locked : Bool) (level : ℕ) (movable : Bool) (h : Handle) (new : List (Slot Block)) → Some h ≡ new_handle (map (emptied_where (below found.limit)) old)
      → new ≡ after_take (map (emptied_where (below found.limit)) old) (placed_block want found.at user locked level movable)
      → IsPut banks old want user locked level movable (record { handle = h; at = found.at }) new
  put_done user locked level movable h new handle made = record {
    count = is.count;
    goes = is.goes;
    handle = sym (handle ∙ emptied_handle (below found.limit) old);
    slots = made ∙ ap (λ slots. after_take slots (placed_block want found.at user locked level movable)) is.empties;
  }

  pub reput_done : (h : Handle) (block : Block) (new : List (Slot Block)) → get old h ≡ Some block → block.at ≡ None
      → new ≡ with_value (map (emptied_where (below found.limit)) old) h (placed_block want found.at block.user block.locked block.level false)
      → IsReput banks old h want found.at new
  reput_done h block new was empty made = record {
    block = block;
    was = was;
    empty = empty;
    count = is.count;
    goes = is.goes;
    slots = made ∙ ap (λ slots. with_value slots h (placed_block want found.at block.user block.locked block.level false)) is.empties;
  }

-- where no block is purged, the marks of the others stay and the new one's is added to them
module _ (slots : List (Slot Block)) (limit : ℕ) (none : limit ≡ 0) (marks : List BlockMark) (have : HaveMarks slots marks) (want : Want) (address user : ℕ) (locked : Bool) (level : ℕ) (movable : Bool) (h : Handle) where
  pub have_taken : new_handle slots ≡ Some h
      → HaveMarks (after_take (map (emptied_where (below limit)) slots) (placed_block want address user locked level movable)) (mark h.slot (address, want.size) ∷ marks)
  have_taken is =
      let block : Block = placed_block want address user locked level movable in
      let took = taken slots h block is in
      subst (λ (now : List (Slot Block)). HaveMarks (after_take now block) (mark h.slot (address, want.size) ∷ marks)) (below_none slots limit none)
      (rw took.0 (have_set slots h.slot (record { generation = h.generation; content = Used block }) (address, want.size) marks took.1 (ap (option_and_then extent_of) took.2) refl have))

  pub have_reput : (old : Block) → get slots h ≡ Some old → old.at ≡ None
      → HaveMarks (with_value (map (emptied_where (below limit)) slots) h (placed_block want address user locked level movable)) (mark h.slot (address, want.size) ∷ marks)
  have_reput old was empty =
      let block : Block = placed_block want address user locked level movable in
      let live : IsSome (get slots h) = ap is_some was in
      let there : block_in (slot_at slots h.slot) ≡ Some old = live_block slots h old was in
      let gone : extent (slot_at slots h.slot) ≡ None = rw (there, empty) refl in
      subst (λ (now : List (Slot Block)). HaveMarks (with_value now h block) (mark h.slot (address, want.size) ∷ marks)) (below_none slots limit none)
      (rw (with_is slots h (record { generation = h.generation; content = Used block }) live)
      (have_set slots h.slot (record { generation = h.generation; content = Used block }) (address, want.size) marks (live_in slots h live) gone refl have))
