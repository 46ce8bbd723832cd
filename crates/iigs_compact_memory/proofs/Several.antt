-- Several blocks placed in order, with slides where these are needed.
use Rattle.std.proofs.Common.{◌≡◌, ◌≢◌, inl, ℕ, zero, suc, Bool, true, false, cond, not, ◌==◌, ◌&&◌, ◌+◌, ◌<◌, List, [], ◌∷◌, ◌++◌, take, drop, map, replicate, length, get_or, Contains, count_by, Option, Some, None, IsSome, is_some, refl, sym, ap, subst, ◌∙◌, add-one, arith}
use Rattle.std.specs.Prelude.{slice_get, slice_set, option_map}
use Rattle.std.specs.Option.{option_map_or}
use Rattle.std.proofs.lemmas.Option.{same_Some}
use Rattle.std.proofs.lemmas.List.{get_or-set_same, get_or-set_other, take_more, map-append}
use Rattle.std.proofs.lemmas.List.Sums.{sum_by-cons, sum_by-set}
use Rattle.std.proofs.lemmas.List.Elements.{Contains-append_left, Contains-push}
use Rattle.std.proofs.lemmas.List.Quantifiers.{position-Some}
use Rattle.iigs_meaning.specs.declared.handles.Handle.{Handle}
use Rattle.iigs_meaning.specs.declared.slots.Slot.{Slot}
use Rattle.iigs_meaning.specs.declared.slots.SlotContent.TheVariants.{Used}
use Rattle.iigs_meaning.specs.declared.wants.Want.{Want}
use Rattle.iigs_meaning.specs.declared.wants.Block.{Block}
use Rattle.iigs_meaning.specs.Slots.{slot_at, new_slot, is_free, lowest_free, new_handle, after_take}
use Rattle.iigs_meaning.specs.Fits.{Slots, block_in}
use Rattle.iigs_meaning.specs.Placement.{can_purge}
use Rattle.iigs_meaning.specs.Puts.{Purges, Puts, PutsAll, LacksRoom, placed_block}
use Rattle.iigs_meaning.specs.Blocks.{address_in}
use Rattle.iigs_meaning.specs.Memory.{Memory, KeepsBut, IsPlaced, IsThere, bytes_at}
use Rattle.iigs_meaning.specs.Slide.{can_move, PurgesOrSlides}
use Rattle.iigs_meaning.specs.laws.Left.{IsLeft, AreLeft}
use Rattle.iigs_meaning.specs.laws.Left.IsLeft.{Unmoved, Emptied, Shifted}
use Rattle.iigs_meaning.specs.laws.SlideRoomLaws.{purges_or_slides_once, are_left}
use Rattle.iigs_places.proofs.Changed.{taken}
use Rattle.iigs_compact_memory.specs.Alls.{AreZeros, CanPutAll}
use Rattle.iigs_compact_memory.proofs.Making.{left_handle, left_free}

-- ---- purges alone are purges and slides

pub puts_all_at_once : (banks : List ℕ) (user : ℕ) (slots last : Slots) (wants : List Want) (hs : List Handle) → PutsAll Purges banks user slots wants hs last → PutsAll PurgesOrSlides banks user slots wants hs last
puts_all_at_once banks user slots last [] [] all = all
puts_all_at_once banks user slots last [] (h ∷ hs) all = absurd all
puts_all_at_once banks user slots last (want ∷ wants) [] all = absurd all
puts_all_at_once banks user slots last (want ∷ wants) (h ∷ hs) all = (
  all.0,
  record { address = all.1.address; room = all.1.room; makes = inl all.1.makes; handle = all.1.handle; next_is = all.1.next_is },
  puts_all_at_once banks user all.0 last wants hs all.2,
)

-- ---- one more

module _ (banks : List ℕ) (user : ℕ) where
  pub puts_more : (start : Slots) (wants : List Want) (hs : List Handle) (now next : Slots) (want : Want) (h : Handle) → PutsAll PurgesOrSlides banks user start wants hs now
      → Puts PurgesOrSlides banks now want user true 0 false h next → PutsAll PurgesOrSlides banks user start (wants ++ want ∷ []) (hs ++ h ∷ []) next
  puts_more start [] [] now next want h done one = (next, subst (λ (s : Slots). Puts PurgesOrSlides banks s want user true 0 false h next) done one, refl)
  puts_more start [] (g ∷ hs) now next want h done one = absurd done
  puts_more start (w ∷ wants) [] now next want h done one = absurd done
  puts_more start (w ∷ wants) (g ∷ hs) now next want h done one = (done.0, done.1, puts_more done.0 wants hs now next want h done.2 one)

  -- a want goes one way
  pub puts_once : (slots : Slots) (want : Want) (h k : Handle) (x y : Slots) → Puts PurgesOrSlides banks slots want user true 0 false h x → Puts PurgesOrSlides banks slots want user true 0 false k y → x ≡ y
  puts_once slots want h k x y p q =
      let same = purges_or_slides_once.room banks slots want p.address q.address p.room q.room p.makes q.makes in
      p.next_is ∙ ap (λ (r : Slots). after_take r (placed_block want p.address user true 0 false)) same.1 ∙ ap (λ (n : ℕ). after_take q.room (placed_block want n user true 0 false)) same.0 ∙ sym q.next_is

-- ---- free slots

count_left : (p : Slot Block → Bool) (xs ys : Slots) → length ys ≡ length xs → ((k : ℕ) → p (slot_at ys k) ≡ p (slot_at xs k)) → count_by p ys ≡ count_by p xs
count_left p [] [] len same = refl
count_left p [] (y ∷ ys) len same = absurd (omega (arith, len))
count_left p (x ∷ xs) [] len same = absurd (omega (arith, len))
count_left p (x ∷ xs) (y ∷ ys) len same =
    sum_by-cons (λ s. cond (p s) 1 0) y ys ∙ ap (λ (b : Bool). cond {A = ℕ} b 1 0 + count_by p ys) (same 0) ∙ ap (λ (n : ℕ). cond {A = ℕ} (p x) 1 0 + n) (count_left p xs ys (omega (arith, len)) (λ k. same (suc k)))
    ∙ sym (sum_by-cons (λ s. cond (p s) 1 0) x xs)

free_taken : (slots : Slots) (block : Block) → IsSome (new_handle slots) → count_by is_free (after_take slots block) + 1 ≡ count_by is_free slots
free_taken slots block some = go (lowest_free slots) refl some
  where
    go : (o : Option ℕ) → lowest_free slots ≡ o → IsSome (option_map (λ place. let h : Handle = record { slot = place; generation = (slot_at slots place).generation } in h) o)
        → count_by is_free (option_map_or (λ place. slice_set slots place (record { generation = (slot_at slots place).generation; content = Used block })) o slots) + 1 ≡ count_by is_free slots
    go None low some = absurd cc
    go (Some place) low some =
        let found = position-Some is_free slots place new_slot low in
        let one : cond {A = ℕ} (is_free (slot_at slots place)) 1 0 ≡ 1 = rw found.1 refl in
        omega (arith, one, sum_by-set (λ s. cond (is_free s) 1 0) slots place (record { generation = (slot_at slots place).generation; content = Used block }) new_slot found.0)

pub free_puts : (banks : List ℕ) (slots next : Slots) (want : Want) (user : ℕ) (h : Handle) → Puts PurgesOrSlides banks slots want user true 0 false h next → count_by is_free next + 1 ≡ count_by is_free slots
free_puts banks slots next want user h puts =
    let left = are_left banks slots want puts.address puts.room puts.makes in
    let same : count_by is_free puts.room ≡ count_by is_free slots = count_left is_free slots puts.room left.len (λ k. (left_free (slot_at slots k) (slot_at puts.room k) (left.each k)).0) in
    let handle : IsSome (new_handle puts.room) = rw (left_handle slots puts.room left ∙ puts.handle) refl in
    omega (arith, same, free_taken puts.room (placed_block want puts.address user true 0 false) handle, ap (count_by is_free) puts.next_is)

-- ---- a locked block stays

locked_left : (was now : Slot Block) (block : Block) → block_in was ≡ Some block → block.locked ≡ true → IsLeft was now → now ≡ was
unfolding can_purge can_move
locked_left was now block there locked = go
  where
    its : (b : Block) → block_in was ≡ Some b → b.locked ≡ true
    its b is = ap (λ (x : Block). x.locked) (sym (same_Some block b (sym there ∙ is))) ∙ locked

    not_purged : (a b c : Bool) → b ≡ true → (a && not b && not c) ≡ true → ⊥
    not_purged true true c e is = cc
    not_purged false true c e is = cc
    not_purged a false c e is = cc

    not_moved : (a m b : Bool) → b ≡ true → (a && m && not b) ≡ true → ⊥
    not_moved true true true e is = cc
    not_moved true false true e is = cc
    not_moved false m true e is = cc
    not_moved a m false e is = cc

    go : IsLeft was now → now ≡ was
    go (Unmoved e) = e
    go (Emptied b is can e) = absurd (not_purged (is_some b.at) b.locked (b.level == 0) (its b is) can)
    go (Shifted b is can address e) = absurd (not_moved (is_some b.at) b.movable b.locked (its b is) can)

module _ (banks : List ℕ) (slots next : Slots) (want : Want) (user : ℕ) (h : Handle) (puts : Puts PurgesOrSlides banks slots want user true 0 false h next) where
  left : AreLeft slots puts.room
  left = are_left banks slots want puts.address puts.room puts.makes

  block : Block
  block = placed_block want puts.address user true 0 false

  handle : new_handle puts.room ≡ Some h
  handle = left_handle slots puts.room left ∙ puts.handle

  took : (after_take puts.room block ≡ slice_set puts.room h.slot (record { generation = h.generation; content = Used block })) × (h.slot < length puts.room) × (block_in (slot_at puts.room h.slot) ≡ None)
  took = taken puts.room h block handle

  next_set : next ≡ slice_set puts.room h.slot (record { generation = h.generation; content = Used (placed_block want puts.address user true 0 false) })
  unfolding block
  next_set = puts.next_is ∙ took.0

  -- the new one is there, locked
  pub put_here : block_in (slot_at next h.slot) ≡ Some (placed_block want puts.address user true 0 false)
  put_here = ap (λ (s : Slots). block_in (slot_at s h.slot)) next_set ∙ ap block_in (get_or-set_same puts.room h.slot (record { generation = h.generation; content = Used (placed_block want puts.address user true 0 false) }) new_slot took.1)

  pub locked_stays : (place : ℕ) (one : Block) → block_in (slot_at slots place) ≡ Some one → one.locked ≡ true → (place ≢ h.slot) × (slot_at next place ≡ slot_at slots place)
  locked_stays place one there locked =
      let same : slot_at puts.room place ≡ slot_at slots place = locked_left (slot_at slots place) (slot_at puts.room place) one there locked (left.each place) in
      let ne : place ≢ h.slot = λ eq.
      let none : Some one ≡ None = sym there ∙ ap block_in (sym same) ∙ ap (λ (n : ℕ). block_in (slot_at puts.room n)) eq ∙ took.2 in
      absurd cc in
      (ne, ap (λ (s : Slots). slot_at s place) next_set ∙ get_or-set_other puts.room h.slot place (record { generation = h.generation; content = Used (placed_block want puts.address user true 0 false) }) new_slot ne ∙ same)

-- ---- their bytes

module _ (now next : Memory) (want : Want) (user : ℕ) (h : Handle) (one : IsPlaced PurgesOrSlides now want user true 0 false h next) where
  zeros_keep : (wants : List Want) (hs : List Handle) → AreZeros now wants hs → AreZeros next wants hs
  zeros_keep [] [] zeros = tt
  zeros_keep [] (g ∷ hs) zeros = absurd zeros
  zeros_keep (w ∷ wants) [] zeros = absurd zeros
  zeros_keep (w ∷ wants) (g ∷ hs) zeros =
      let stays = locked_stays now.banks now.slots next.slots want user h one.puts g.slot zeros.1.0 zeros.1.1 zeros.1.2 in
      let there : IsThere next g.slot = ap (λ (s : Slot Block). is_some (address_in s)) stays.1 ∙ zeros.1.3 in (
        one.kept.bytes g.slot (not_in g.slot stays.0) there ∙ zeros.0,
        (zeros.1.0, ap block_in stays.1 ∙ zeros.1.1, zeros.1.2, there),
        zeros_keep wants hs zeros.2,
      )
    where
      not_in : (place : ℕ) → place ≢ h.slot → ¬ Contains (h.slot ∷ []) place
      not_in place ne has = ne (sym (only has.0 has.1 has.2))
        where
          only : (k : ℕ) → k < 1 → get_or (h.slot ∷ []) k place ≡ place → h.slot ≡ place
          only zero lt e = e
          only (suc k) lt e = absurd (omega (arith, lt))

  here : AreZeros next (want ∷ []) (h ∷ [])
  here =
      let at = put_here now.banks now.slots next.slots want user h one.puts in
      (one.zeros, (placed_block want one.puts.address user true 0 false, at, refl, rw at refl), tt)

  both : (ws vs : List Want) (hs ks : List Handle) → AreZeros next ws hs → AreZeros next vs ks → AreZeros next (ws ++ vs) (hs ++ ks)
  both [] vs [] ks one two = two
  both [] vs (g ∷ hs) ks one two = absurd one
  both (w ∷ ws) vs [] ks one two = absurd one
  both (w ∷ ws) vs (g ∷ hs) ks one two = (one.0, one.1, both ws vs hs ks one.2 two)

  pub zeros_more : (wants : List Want) (hs : List Handle) → AreZeros now wants hs → AreZeros next (wants ++ want ∷ []) (hs ++ h ∷ [])
  zeros_more wants hs zeros = both wants (want ∷ []) hs (h ∷ []) (zeros_keep wants hs zeros) here

pub zeros_get : (memory : Memory) (wants : List Want) (hs : List Handle) → AreZeros memory wants hs → (i : ℕ) (want : Want) (h : Handle) → slice_get wants i ≡ Some want → slice_get hs i ≡ Some h
    → bytes_at memory h.slot ≡ replicate want.size 0
zeros_get memory [] hs zeros i want h is at = absurd cc
zeros_get memory (w ∷ wants) [] zeros i want h is at = absurd cc
zeros_get memory (w ∷ wants) (g ∷ hs) zeros zero want h is at =
    ap (λ (k : Handle). bytes_at memory k.slot) (sym (same_Some g h at)) ∙ zeros.0 ∙ ap (λ (v : Want). replicate v.size 0) (same_Some w want is)
zeros_get memory (w ∷ wants) (g ∷ hs) zeros (suc i) want h is at = zeros_get memory wants hs zeros.2 i want h is at

-- ---- what is there

there_left : (was now : Slot Block) → IsLeft was now → IsSome (address_in now) → IsSome (address_in was)
unfolding can_move
there_left was now = go
  where
    clash : (at : Option ℕ) → (a b : Bool) → (is_some at && a && not b) ≡ true → IsSome at
    clash None a b is = absurd cc
    clash (Some at) a b is = refl

    go : IsLeft was now → IsSome (address_in now) → IsSome (address_in was)
    go (Unmoved e) some = subst (λ (s : Slot Block). IsSome (address_in s)) e some
    go (Emptied b is can e) some = let none : IsSome {T = ℕ} None = subst (λ (s : Slot Block). IsSome (address_in s)) e some in absurd cc
    go (Shifted b is can address e) some = rw is (clash b.at b.movable b.locked can)

pub there_puts : (banks : List ℕ) (slots next : Slots) (want : Want) (user : ℕ) (h : Handle) → Puts PurgesOrSlides banks slots want user true 0 false h next
    → (place : ℕ) → place ≢ h.slot → IsSome (address_in (slot_at next place)) → IsSome (address_in (slot_at slots place))
there_puts banks slots next want user h puts place ne some =
    let left = are_left banks slots want puts.address puts.room puts.makes in
    let there : IsSome (address_in (slot_at puts.room place)) = subst (λ (s : Slot Block). IsSome (address_in s))
    (ap (λ (s : Slots). slot_at s place) (next_set banks slots next want user h puts) ∙ get_or-set_other puts.room h.slot place (record { generation = h.generation; content = Used (placed_block want puts.address user true 0 false) }) new_slot ne) some in
    there_left (slot_at slots place) (slot_at puts.room place) (left.each place) there

-- ---- one more of all

drop_next : {X : Type 0} (xs : List X) (k : ℕ) (d : X) → k < length xs → drop k xs ≡ get_or xs k d ∷ drop (suc k) xs
drop_next [] k d less = absurd (omega (arith, less))
drop_next (x ∷ xs) zero d less = refl
drop_next (x ∷ xs) (suc k) d less = drop_next xs k d (omega (arith, less))

-- the next want can be placed, and so can those after it
pub can_next : (banks : List ℕ) (user : ℕ) (slots : Slots) (wants : List Want) (k : ℕ) (d : Want) → k < length wants → CanPutAll banks user slots (drop k wants)
    → (h : Handle) × (middle : Slots) × Puts PurgesOrSlides banks slots (get_or wants k d) user true 0 false h middle × CanPutAll banks user middle (drop (suc k) wants)
can_next banks user slots wants k d less can = go can.0 (subst (λ (ws : List Want). PutsAll PurgesOrSlides banks user slots ws can.0 can.1) (drop_next wants k d less) can.2)
  where
    go : (hs : List Handle) → PutsAll PurgesOrSlides banks user slots (get_or wants k d ∷ drop (suc k) wants) hs can.1
        → (h : Handle) × (middle : Slots) × Puts PurgesOrSlides banks slots (get_or wants k d) user true 0 false h middle × CanPutAll banks user middle (drop (suc k) wants)
    go [] all = absurd all
    go (h ∷ hs) all = (h, all.0, all.1, (hs, can.1, all.2))

-- so there is room for the next, and a handle
pub each_room : (banks : List ℕ) (user : ℕ) (slots : Slots) (wants : List Want) (k : ℕ) (d : Want) → k < length wants → CanPutAll banks user slots (drop k wants) → LacksRoom PurgesOrSlides banks slots (get_or wants k d) → ⊥
each_room banks user slots wants k d less can lacks = let rest = can_next banks user slots wants k d less can in lacks rest.2.address rest.2.room rest.2.makes

pub each_handle : (banks : List ℕ) (user : ℕ) (slots : Slots) (wants : List Want) (k : ℕ) → k < length wants → CanPutAll banks user slots (drop k wants) → new_handle slots ≡ None → ⊥
each_handle banks user slots [] k less can none = absurd (omega (arith, less))
each_handle banks user slots (want ∷ wants) k less can none =
    let rest = can_next banks user slots (want ∷ wants) k want less can in
    let clash : Some rest.0 ≡ None = sym rest.2.handle ∙ none in
    absurd cc

pub not_among : (places : List ℕ) (slot place : ℕ) → ¬ Contains (places ++ slot ∷ []) place → (¬ Contains places place) × (place ≢ slot)
not_among places slot place out = (
  λ has. out (Contains-append_left places (slot ∷ []) place has),
  λ same. out (subst (λ (n : ℕ). Contains (places ++ slot ∷ []) n) (sym same) (Contains-push places slot)),
)

-- ---- one more is placed

not_alone : (slot place : ℕ) → place ≢ slot → ¬ Contains (slot ∷ []) place
not_alone slot place ne has = ne (sym (only has.0 has.1 has.2))
  where
    only : (k : ℕ) → k < 1 → get_or (slot ∷ []) k place ≡ place → slot ≡ place
    only zero lt e = e
    only (suc k) lt e = absurd (omega (arith, lt))

abbrev slots_of : List Handle → List ℕ
slots_of hs = map (λ h. h.slot) hs

module _ (start now next : Memory) (user : ℕ) (wants : List Want) (k : ℕ) (d : Want) (less : k < length wants) (h : Handle) (hs : List Handle) (banks : now.banks ≡ start.banks)
    (one : IsPlaced PurgesOrSlides now (get_or wants k d) user true 0 false h next) where
  its : Puts PurgesOrSlides start.banks now.slots (get_or wants k d) user true 0 false h next.slots
  its = subst (λ (bs : List ℕ). Puts PurgesOrSlides bs now.slots (get_or wants k d) user true 0 false h next.slots) banks one.puts

  pub each_puts : PutsAll PurgesOrSlides start.banks user start.slots (take k wants) hs now.slots → PutsAll PurgesOrSlides start.banks user start.slots (take (k + 1) wants) (hs ++ h ∷ []) next.slots
  each_puts done = rw (take_more wants k d less) (puts_more start.banks user start.slots (take k wants) hs now.slots next.slots (get_or wants k d) h done its)

  pub each_can : CanPutAll start.banks user now.slots (drop k wants) → CanPutAll start.banks user next.slots (drop (k + 1) wants)
  each_can can =
      let rest = can_next start.banks user now.slots wants k d less can in
      let same : rest.1 ≡ next.slots = puts_once start.banks user now.slots (get_or wants k d) rest.0 h rest.1 next.slots rest.2 its in
      rw add-one (subst (λ (s : Slots). CanPutAll start.banks user s (drop (suc k) wants)) same rest.3)

  pub each_zeros : AreZeros now (take k wants) hs → AreZeros next (take (k + 1) wants) (hs ++ h ∷ [])
  each_zeros zeros = rw (take_more wants k d less) (zeros_more now next (get_or wants k d) user h one (take k wants) hs zeros)

  outside : (place : ℕ) → ¬ Contains (slots_of (hs ++ h ∷ [])) place → (¬ Contains (slots_of hs) place) × (place ≢ h.slot)
  outside place out = not_among (slots_of hs) h.slot place (subst (λ (l : List ℕ). ¬ Contains l place) (map-append (λ (x : Handle). x.slot) hs (h ∷ [])) out)

  before : (place : ℕ) → place ≢ h.slot → IsThere next place → IsThere now place
  before place ne some = there_puts now.banks now.slots next.slots (get_or wants k d) user h one.puts place ne some

  pub each_kept : KeepsBut start now (slots_of hs) → KeepsBut start next (slots_of (hs ++ h ∷ []))
  each_kept kept = record {
    banks = one.kept.banks ∙ kept.banks;
    bytes = λ place out some.
        let o = outside place out in
        one.kept.bytes place (not_alone h.slot place o.1) some ∙ kept.bytes place o.0 (before place o.1 some);
  }

  pub each_there : ((place : ℕ) → ¬ Contains (slots_of hs) place → IsThere now place → IsThere start place)
      → (place : ℕ) → ¬ Contains (slots_of (hs ++ h ∷ [])) place → IsThere next place → IsThere start place
  each_there there place out some = let o = outside place out in there place o.0 (before place o.1 some)
