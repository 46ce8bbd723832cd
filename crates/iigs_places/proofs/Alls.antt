-- Several blocks that are placed in order.
use Rattle.std.proofs.Common.{◌≡◌, ◌≢◌, inl, inr, ℕ, Bool, true, false, cond, nat_lt, ◌&&◌, not, ◌==◌, ◌+◌, ◌<◌, List, [], ◌∷◌, ◌++◌, map, take, All, length, get_or, count_by, Option, Some, None, is_some, arith, refl, sym, ap, ◌∙◌, subst}
use Rattle.std.specs.Option.{option_map, option_map_or}
use Rattle.std.proofs.Math.ListN.{set}
use Rattle.std.proofs.lemmas.List.{map-append, take_more}
use Rattle.std.proofs.lemmas.List.Sums.{sum_by-set, sum_by-cons}
use Rattle.std.proofs.lemmas.List.Quantifiers.{position-Some}
use Rattle.iigs_meaning.specs.declared.handles.Handle.{Handle}
use Rattle.iigs_meaning.specs.declared.slots.Slot.{Slot}
use Rattle.iigs_meaning.specs.declared.slots.SlotContent.TheVariants.{Used}
use Rattle.iigs_meaning.specs.declared.wants.Want.{Want}
use Rattle.iigs_meaning.specs.declared.wants.Block.{Block}
use Rattle.iigs_meaning.specs.Slots.{slot_at, new_slot, is_free, after_take, new_handle, lowest_free}
use Rattle.iigs_meaning.specs.Fits.{IsWant, block_in}
use Rattle.iigs_meaning.specs.Placement.{can_purge, emptied_where, slots_after_purges, is_gone, rank}
use Rattle.iigs_meaning.specs.Puts.{placed_block, Purges, Puts, PutsAll}
use Rattle.iigs_places.specs.declared.table.PlacedBlock.{PlacedBlock}
use Rattle.iigs_places.specs.Table.{IsPut}
use Rattle.iigs_places.specs.Alls.{handle_of, BlocksAre, NotAmong, AllPut}
use Rattle.iigs_places.proofs.Takes.{gone_handle, emptied_free}
use Rattle.iigs_places.proofs.Stays.{StaysIn, slot_at-map}
use Rattle.iigs_places.proofs.Changed.{set_other, set_here, taken}
use Rattle.iigs_places.proofs.Puts.{PutFacts, put_is, put_facts}

-- one more at the end
pub puts_more : (banks : List ℕ) (user : ℕ) (start : List (Slot Block)) (wants : List Want) (hs : List Handle) (now next : List (Slot Block)) (want : Want) (h : Handle)
    → PutsAll Purges banks user start wants hs now → Puts Purges banks now want user true 0 false h next
    → PutsAll Purges banks user start (wants ++ want ∷ []) (hs ++ h ∷ []) next
puts_more banks user start [] [] now next want h done one = (next, subst (λ (s : List (Slot Block)). Puts Purges banks s want user true 0 false h next) done one, refl)
puts_more banks user start [] (g ∷ hs) now next want h done one = absurd done
puts_more banks user start (w ∷ wants) [] now next want h done one = absurd done
puts_more banks user start (w ∷ wants) (g ∷ hs) now next want h done one =
    (done.0, done.1, puts_more banks user done.0 wants hs now next want h done.2 one)

-- a locked block stays
locked_stays : (slots : List (Slot Block)) (count : ℕ) (slot : Slot Block) (block : Block) → block.locked ≡ true → block_in slot ≡ Some block
    → block_in (emptied_where (is_gone slots count) slot) ≡ Some block
unfolding is_gone can_purge
locked_stays slots count slot block locked there = go (block_in slot) there
  where
    kept : (b : Bool) (one : Block) → one.locked ≡ true → (is_some one.at && not one.locked && not (one.level == 0) && b) ≡ false
    kept b one is = rw is (none (is_some one.at) (one.level == 0) b)
      where
        none : (a c b : Bool) → (a && not true && not c && b) ≡ false
        none true c b = refl
        none false c b = refl

    go : (o : Option Block) → o ≡ Some block
        → block_in (option_map_or (λ one. cond (can_purge one && nat_lt (rank slots one) count) (record { generation = slot.generation; content = Used (record one { at = None }) }) slot) o slot) ≡ Some block
    go None e = absurd (cc)
    go (Some one) e =
        let same : one ≡ block = cc in
        let is : one.locked ≡ true = rw same locked in
        rw (kept (nat_lt (rank slots one) count) one is) there

-- in the slots after one more block was put
module _ (banks : List ℕ) (now next : List (Slot Block)) (want : Want) (user : ℕ) (put : PlacedBlock) (done : IsPut banks now want user true 0 false put next) where
  abbrev pub block : Block
  block = placed_block want put.at user true 0 false

  took : (after_take (slots_after_purges now done.count) block ≡ set (slots_after_purges now done.count) put.handle.slot (record { generation = put.handle.generation; content = Used block }))
      × (put.handle.slot < length (slots_after_purges now done.count)) × (block_in (slot_at (slots_after_purges now done.count) put.handle.slot) ≡ None)
  took = taken (slots_after_purges now done.count) put.handle block (gone_handle done.count now ∙ done.handle)

  next_is : next ≡ set (slots_after_purges now done.count) put.handle.slot (record { generation = put.handle.generation; content = Used block })
  next_is = done.slots ∙ took.0

  pub block_here : block_in (slot_at next put.handle.slot) ≡ Some block
  block_here = rw (next_is, set_here (slots_after_purges now done.count) put.handle.slot (record { generation = put.handle.generation; content = Used block }) took.1) refl

  pub block_stays : (place : ℕ) (one : Block) → one.locked ≡ true → block_in (slot_at now place) ≡ Some one → block_in (slot_at next place) ≡ Some one
  unfolding slots_after_purges
  block_stays place one locked there =
      let kept : block_in (slot_at (slots_after_purges now done.count) place) ≡ Some one =
      rw (slot_at-map (emptied_where (is_gone now done.count)) now place refl) (locked_stays now done.count (slot_at now place) one locked there) in
      let ne : place ≢ put.handle.slot = λ eq. let no : Some one ≡ None = sym kept ∙ rw eq took.2 in cc in
      rw (next_is, set_other (slots_after_purges now done.count) put.handle.slot (record { generation = put.handle.generation; content = Used block }) place ne) kept

  pub blocks_more : (wants : List Want) (puts : List PlacedBlock) → BlocksAre user now wants puts → BlocksAre user next (wants ++ want ∷ []) (puts ++ put ∷ [])
  blocks_more [] [] blocks = (block_here, tt)
  blocks_more [] (p ∷ puts) blocks = absurd blocks
  blocks_more (w ∷ wants) [] blocks = absurd blocks
  blocks_more (w ∷ wants) (p ∷ puts) blocks = (block_stays p.handle.slot (placed_block w p.at user true 0 false) refl blocks.0, blocks_more wants puts blocks.1)

-- how many slots are free
count-map : (f : Slot Block → Slot Block) → ((slot : Slot Block) → is_free (f slot) ≡ is_free slot) → (slots : List (Slot Block)) → count_by is_free (map f slots) ≡ count_by is_free slots
count-map f same [] = refl
count-map f same (slot ∷ slots) = sum_by-cons (λ s. cond (is_free s) 1 0) (f slot) (map f slots)
    ∙ ap (λ b. cond b 1 0 + count_by is_free (map f slots)) (same slot)
    ∙ ap (λ n. cond (is_free slot) 1 0 + n) (count-map f same slots)
    ∙ sym (sum_by-cons (λ s. cond (is_free s) 1 0) slot slots)

count-emptied : (slots : List (Slot Block)) (count : ℕ) → count_by is_free (slots_after_purges slots count) ≡ count_by is_free slots
unfolding slots_after_purges
count-emptied slots count = count-map (emptied_where (is_gone slots count)) (emptied_free (is_gone slots count)) slots

-- a new handle takes a free slot
first_free_slot : (slots : List (Slot Block)) (h : Handle) → new_handle slots ≡ Some h → is_free (slot_at slots h.slot) ≡ true
first_free_slot slots h is = go (lowest_free slots) refl is
  where
    go : (o : Option ℕ) → lowest_free slots ≡ o
        → option_map (λ place. let new : Handle = record { slot = place; generation = (slot_at slots place).generation } in new) o ≡ Some h → is_free (slot_at slots h.slot) ≡ true
    go None none e = absurd (cc)
    go (Some place) there e =
        let slot : place ≡ h.slot = cc in
        let found = position-Some is_free slots place new_slot there in
        subst (λ (p : ℕ). is_free (slot_at slots p) ≡ true) slot found.1

pub free_less : (banks : List ℕ) (now next : List (Slot Block)) (want : Want) (user : ℕ) (put : PlacedBlock) → IsPut banks now want user true 0 false put next
    → count_by is_free next + 1 ≡ count_by is_free now
free_less banks now next want user put done =
    let took = taken (slots_after_purges now done.count) put.handle (placed_block want put.at user true 0 false) (gone_handle done.count now ∙ done.handle) in
    let slot : Slot Block = record { generation = put.handle.generation; content = Used (placed_block want put.at user true 0 false) } in
    let free : is_free (slot_at (slots_after_purges now done.count) put.handle.slot) ≡ true = first_free_slot (slots_after_purges now done.count) put.handle (gone_handle done.count now ∙ done.handle) in
    let change : count_by is_free (set (slots_after_purges now done.count) put.handle.slot slot) + cond {A = ℕ} true 1 0 ≡ count_by is_free (slots_after_purges now done.count) + cond {A = ℕ} (is_free slot) 1 0 =
    rw free at (sum_by-set (λ s. cond (is_free s) 1 0) (slots_after_purges now done.count) put.handle.slot slot new_slot took.1) in
    let same : count_by is_free (slots_after_purges now done.count) ≡ count_by is_free now = count-emptied now done.count in
    let next_is : count_by is_free next ≡ count_by is_free (set (slots_after_purges now done.count) put.handle.slot slot) = ap (count_by is_free) (done.slots ∙ took.0) in
    let none : cond {A = ℕ} (is_free slot) 1 0 ≡ 0 = refl in
    omega arith

-- what is among more isn't among fewer
fewer : (puts : List PlacedBlock) (put : PlacedBlock) (place : ℕ) → NotAmong (puts ++ put ∷ []) place → NotAmong puts place × (place ≢ put.handle.slot)
fewer [] put place not = (tt, not.0)
fewer (p ∷ puts) put place not = let rest = fewer puts put place not.1 in ((not.0, rest.0), rest.1)

pub stays_on : (one two three : Slot Block) → StaysIn one two → StaysIn two three → StaysIn one three
stays_on one two three first (inl none) = inl none
stays_on one two three (inl none) (inr same) = inl (same ∙ none)
stays_on one two three (inr same') (inr same) = inr (same ∙ same')

-- one more is placed
pub all_more : (banks : List ℕ) (user : ℕ) (start now next : List (Slot Block)) (wants : List Want) (puts : List PlacedBlock) (want : Want) (put : PlacedBlock)
    → All (λ bank. bank < 256) banks → IsWant want → AllPut banks user start wants puts now → IsPut banks now want user true 0 false put next
    → AllPut banks user start (wants ++ want ∷ []) (puts ++ put ∷ []) next
all_more banks user start now next wants puts want put small is_want all done =
    let facts : PutFacts banks now want put next = put_facts banks now next want user true 0 false put small is_want all.bounded all.sound (omega arith) done in
    record {
      places = rw (map-append handle_of puts (put ∷ [])) (puts_more banks user start wants (map handle_of puts) now next want put.handle all.places (put_is banks now next want user true 0 false put done));
      bounded = facts.bounded;
      sound = facts.sound;
      len = facts.len ∙ all.len;
      blocks = blocks_more banks now next want user put done wants puts all.blocks;
      others = λ place not. let apart = fewer puts put place not in
          stays_on (slot_at start place) (slot_at now place) (slot_at next place) (all.others place apart.0) (facts.others place apart.1);
    }

pub all_next : (banks : List ℕ) (user : ℕ) (start now next : List (Slot Block)) (wants : List Want) (puts : List PlacedBlock) (place : ℕ) (d : Want) (put : PlacedBlock)
    → All (λ bank. bank < 256) banks → IsWant (get_or wants place d) → place < length wants → AllPut banks user start (take place wants) puts now
    → IsPut banks now (get_or wants place d) user true 0 false put next
    → AllPut banks user start (take (place + 1) wants) (puts ++ put ∷ []) next
all_next banks user start now next wants puts place d put small is_want inside all done =
    rw (take_more wants place d inside) (all_more banks user start now next (take place wants) puts (get_or wants place d) put small is_want all done)
