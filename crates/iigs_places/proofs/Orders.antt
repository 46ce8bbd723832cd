-- The blocks in order of address.
use Rattle.std.proofs.Common.{◌≡◌, ℕ, true, ◌==◌, ◌<◌, ◌≤◌, List, All, Contains, length, get_or, count_by, Option, Some, None, IsSomeAnd, arith, refl, sym, ap, subst, ◌∙◌}
use Rattle.std.specs.Option.{option_map, option_and_then}
use Rattle.std.proofs.lemmas.Option.{same_Some}
use Rattle.std.proofs.lemmas.Bool.Decides.{nat_tests}
use Rattle.std.proofs.lemmas.List.Elements.{Contains-get_or}
use Rattle.iigs_meaning.specs.declared.handles.Handle.{Handle}
use Rattle.iigs_meaning.specs.declared.slots.Slot.{Slot}
use Rattle.iigs_meaning.specs.declared.wants.Block.{Block}
use Rattle.iigs_meaning.specs.Slots.{slot_at, get}
use Rattle.iigs_meaning.specs.Fits.{block_in}
use Rattle.iigs_meaning.specs.Blocks.{address_in}
use Rattle.iigs_meaning.specs.Moves.{count_there, lies_below, IsNth}
use Rattle.iigs_places.specs.declared.marks.BlockMark.{BlockMark}
use Rattle.iigs_places.specs.Extent.{extent, extent_of}
use Rattle.iigs_places.specs.Marks.{mark, HaveMarks, IsMarked, IsSized, IsFirstFrom}
use Rattle.iigs_places.specs.Lowest.{IsFirstPut}
use Rattle.iigs_places.proofs.Counting.{count_is, below_is, address_extent}
use Rattle.iigs_places.proofs.Sliding.{mark_size, mark_extent, extent_block}

-- a slot with an extent has a block there
block_at : (slot : Slot Block) (e : ℕ × ℕ) → extent slot ≡ Some e → IsSomeAnd (block_in slot) (λ block. block.at ≡ Some e.0)
block_at slot e there = go (block_in slot) refl
  where
    go : (o : Option Block) → block_in slot ≡ o → IsSomeAnd o (λ block. block.at ≡ Some e.0)
    go None is = let no : None ≡ Some e = sym (ap (option_and_then extent_of) is) ∙ there in absurd cc
    go (Some block) is = (extent_block slot block e is there).0

-- and a slot with an address has an extent there
extent_at : (slot : Slot Block) (at : ℕ) → address_in slot ≡ Some at → (size : ℕ) × (extent slot ≡ Some (at, size))
extent_at slot at is = go (extent slot) refl (sym (address_extent slot) ∙ is)
  where
    go : (o : Option (ℕ × ℕ)) → extent slot ≡ o → option_map (λ (e : ℕ × ℕ). e.0) o ≡ Some at → (size : ℕ) × (extent slot ≡ Some (at, size))
    go None there begins = absurd cc
    go (Some e) there begins = let same : e.0 ≡ at = same_Some e.0 at begins in (e.1, there ∙ ap (λ (n : ℕ). Some (n, e.1)) same)

module _ (slots : List (Slot Block)) (marks : List BlockMark) (have : HaveMarks slots marks) where
  -- the handle of a mark's slot has its block
  pub mark_held : (m : BlockMark) → Contains marks m → (h : Handle) → (h.slot ≡ m.slot) × (h.generation ≡ (slot_at slots m.slot).generation)
      → IsSomeAnd (get slots h) (λ block. block.at ≡ Some m.at)
  mark_held m has h of =
      let alike : ((slot_at slots h.slot).generation == h.generation) ≡ true = rw (of.1, of.0) (itself (slot_at slots m.slot).generation) in
      rw (alike, of.0) (block_at (slot_at slots m.slot) (m.at, mark_size slots marks have m has) (mark_extent slots marks have m has))
    where
      itself : (n : ℕ) → (n == n) ≡ true
      itself n = grind (arith, nat_tests)

  pub nth_none : (place : ℕ) → length marks ≤ place → count_there slots ≤ place
  nth_none place le = omega (arith, count_is slots marks have, le)

  pub nth_is : IsMarked slots marks → All IsSized marks → (place : ℕ) (m : BlockMark) → place < length marks → get_or marks place m ≡ m
      → (h : Handle) → (h.slot ≡ m.slot) × (h.generation ≡ (slot_at slots m.slot).generation) → IsNth slots place h
  nth_is made sized place m inside is h of = record {
    address = m.at;
    there = mark_held m (subst (Contains marks) is (Contains-get_or marks place m inside)) h of;
    below = subst (λ (x : BlockMark). count_by (lies_below x.at) slots ≡ place) is (below_is slots marks made have sized place m inside);
  }

  -- ---- the lowest from an address on

  pub first_none : (address : ℕ) → ((m : BlockMark) → Contains marks m → m.at < address) → (place at : ℕ) → address_in (slot_at slots place) ≡ Some at → at < address
  first_none address below place at is =
      let e = extent_at (slot_at slots place) at is in
      below (mark place (at, e.0)) (have.each place (at, e.0) e.1)

  pub first_put : (address : ℕ) (m : BlockMark) → IsFirstFrom marks address m → (h : Handle) → (h.slot ≡ m.slot) × (h.generation ≡ (slot_at slots m.slot).generation)
      → IsFirstPut slots address (record { handle = h; at = m.at })
  first_put address m first h of = record {
    there = mark_held m first.is h of;
    from = first.from;
    least = λ place at is late.
        let e = extent_at (slot_at slots place) at is in
        first.least (mark place (at, e.0)) (have.each place (at, e.0) e.1) late;
  }
