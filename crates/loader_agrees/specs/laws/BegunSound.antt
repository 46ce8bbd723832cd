-- A loader is sound after a program was loaded.
use Rattle.std.proofs.Common.{◌≡◌, ◌≢◌, ◌⊎◌, inl, inr, ℕ, zero, suc, true, false, ◌+◌, ◌<◌, ◌≤◌, List, [], ◌∷◌, length, map, replicate, Option, Some, None, IsSome, refl, sym, ap, subst, ◌∙◌, arith}
use Rattle.std.specs.Prelude.{slice_get}
use Rattle.std.specs.Option.{option_and_then}
use Rattle.std.proofs.lemmas.Option.{same_Some}
use Rattle.std.proofs.lemmas.List.{length-map, length-replicate}
use Rattle.omf_format.specs.File.{Segment}
use Rattle.iigs_meaning.specs.declared.handles.Handle.{Handle}
use Rattle.iigs_meaning.specs.declared.wants.Want.{Want}
use Rattle.iigs_meaning.specs.declared.wants.Block.{Block}
use Rattle.iigs_meaning.specs.Slots.{get, slot_at}
use Rattle.iigs_meaning.specs.Fits.{Slots, block_in}
use Rattle.iigs_meaning.specs.Puts.{Puts, PutsAll, placed_block}
use Rattle.loader_machine.specs.Rule.{RoomRule}
use Rattle.iigs_meaning.specs.Memory.{bytes_at}
use Rattle.loader_machine.specs.declared.seen.SegmentHead.{SegmentHead}
use Rattle.loader_machine.specs.declared.seen.Life.TheVariants.{Running, Dormant}
use Rattle.loader_machine.specs.Heads.{head_of, at_number, is_static, is_table, want_of, wants_of}
use Rattle.loader_machine.specs.laws.Words.{is_stack}
use Rattle.loader_machine.specs.State.{HeldSegment, first_id}
use Rattle.loader_machine.specs.Presences.{handle_at, presence, presence_at, is_active}
use Rattle.loader_machine.specs.Steps.{held_of_heads}
use Rattle.loader_agrees.specs.Agrees.{LoadedUser, Loaded, AreAttached, IsCall, IsOf, Has, IsSound}
use Rattle.loader_agrees.specs.laws.Joining.{call_stays}
use Rattle.load_meaning.specs.LoadTable.{target_at, entry_count}
use Rattle.loader_agrees.specs.Acts.{HasPlaced, IsAdded, started_kept}
use Rattle.loader_agrees.specs.laws.Stay.{put_apart, put_live}
use Rattle.loader_agrees.specs.laws.Slotted.{in_put}
use Rattle.loader_agrees.specs.laws.Begun.{puts_here, all_placed, all_active, all_length, spread_length, spread_static, decide, begun_keeps}
use Rattle.loader_agrees.specs.laws.Keeping.{AllKept, of_kept, statics_kept, rests_kept, calls_kept}

-- ---- handles of one placement

-- none is in the slot of a handle that was live before
pub rest_apart : (banks : List ℕ) (user : ℕ) (slots last : Slots) (wants : List Want) (hs : List Handle) → PutsAll RoomRule banks user slots wants hs last → (h : Handle) → IsSome (get slots h)
    → (j : ℕ) (k : Handle) → slice_get hs j ≡ Some k → k.slot ≢ h.slot
rest_apart banks user slots last [] [] all h live j k is = absurd cc
rest_apart banks user slots last [] (x ∷ hs) all h live j k is = absurd all
rest_apart banks user slots last (want ∷ wants) [] all h live j k is = absurd all
rest_apart banks user slots last (want ∷ wants) (x ∷ hs) all h live zero k is = λ same.
    put_apart banks slots all.0 want user true 0 false x all.1 h live (sym (ap (λ (y : Handle). y.slot) (same_Some x k is) ∙ same))
rest_apart banks user slots last (want ∷ wants) (x ∷ hs) all h live (suc j) k is =
    rest_apart banks user all.0 last wants hs all.2 h (put_live banks slots all.0 want user true 0 false x all.1 h live) j k is

abbrev pub AreDistinct : List Handle → Type 0
AreDistinct hs = (i j : ℕ) (h k : Handle) → slice_get hs i ≡ Some h → slice_get hs j ≡ Some k → h.slot ≡ k.slot → i ≡ j

new_live : (banks : List ℕ) (user : ℕ) (slots next : Slots) (want : Want) (h : Handle) → Puts RoomRule banks slots want user true 0 false h next → IsSome (get next h)
new_live banks user slots next want h puts = rw (puts_here banks slots next want user true 0 false h puts) refl

pub all_distinct : (banks : List ℕ) (user : ℕ) (slots last : Slots) (wants : List Want) (hs : List Handle) → PutsAll RoomRule banks user slots wants hs last → AreDistinct hs
all_distinct banks user slots last [] [] all i j h k is is' same = absurd cc
all_distinct banks user slots last [] (x ∷ hs) all i j h k is is' same = absurd all
all_distinct banks user slots last (want ∷ wants) [] all i j h k is is' same = absurd all
all_distinct banks user slots last (want ∷ wants) (x ∷ hs) all zero zero h k is is' same = refl
all_distinct banks user slots last (want ∷ wants) (x ∷ hs) all zero (suc j) h k is is' same =
    absurd (rest_apart banks user all.0 last wants hs all.2 x (new_live banks user slots all.0 want x all.1) j k is' (sym same ∙ sym (ap (λ (y : Handle). y.slot) (same_Some x h is))))
all_distinct banks user slots last (want ∷ wants) (x ∷ hs) all (suc i) zero h k is is' same =
    absurd (rest_apart banks user all.0 last wants hs all.2 x (new_live banks user slots all.0 want x all.1) i h is (same ∙ sym (ap (λ (y : Handle). y.slot) (same_Some x k is'))))
all_distinct banks user slots last (want ∷ wants) (x ∷ hs) all (suc i) (suc j) h k is is' same = ap suc (all_distinct banks user all.0 last wants hs all.2 i j h k is is' same)

-- a block that is there afterwards is in the slot of a new handle, or was there before, of the same user
all_only : (banks : List ℕ) (user : ℕ) (slots last : Slots) (wants : List Want) (hs : List Handle) → PutsAll RoomRule banks user slots wants hs last → (n : ℕ) (block : Block) → block_in (slot_at last n) ≡ Some block
    → ((i : ℕ) × (h : Handle) × (slice_get hs i ≡ Some h) × (h.slot ≡ n)) ⊎ ((was : Block) × (block_in (slot_at slots n) ≡ Some was) × (was.user ≡ block.user))
all_only banks user slots last [] [] all n block is = inr (block, sym (ap (λ (t : Slots). block_in (slot_at t n)) all) ∙ is, refl)
all_only banks user slots last [] (x ∷ hs) all n block is = absurd all
all_only banks user slots last (want ∷ wants) [] all n block is = absurd all
all_only banks user slots last (want ∷ wants) (x ∷ hs) all n block is = elim (all_only banks user all.0 last wants hs all.2 n block is) [
  | inl new ↦ inl (suc new.0, new.1, new.2, new.3)
  | inr was ↦ elim (in_put banks slots all.0 want user true 0 false x all.1 n was.0 was.1) [
    | inl here ↦ inl (zero, x, refl, sym here.0)
    | inr before ↦ inr (before.0, before.1, before.2 ∙ was.2)
  ]
]

-- ---- handles and segments

abbrev pub spread_handles : List SegmentHead → List Handle → List (Option Handle)
spread_handles heads hs = map (λ (held : HeldSegment). held.handle) (held_of_heads heads hs)

-- a segment's handle is one of them, placed for its want
abbrev pub HasWant : List SegmentHead → List Handle → SegmentHead → Handle → Type 0
HasWant heads hs head h = (i : ℕ) × (slice_get hs i ≡ Some h) × (slice_get (wants_of heads) i ≡ Some (want_of head))

no_handle : (h : Handle) → ◌≡◌ {A = Option (Option Handle)} (Some None) (Some (Some h)) → ⊥
no_handle h e = cc

pub spread_want : (heads : List SegmentHead) (hs : List Handle) (k : ℕ) (head : SegmentHead) (h : Handle) → slice_get heads k ≡ Some head → slice_get (spread_handles heads hs) k ≡ Some (Some h) → HasWant heads hs head h
spread_want [] hs k head h is has = absurd cc
spread_want (g ∷ heads) [] zero head h is has = absurd (no_handle h has)
spread_want (g ∷ heads) [] (suc k) head h is has = let one = spread_want heads [] k head h is has in let none = one.1 in absurd cc
spread_want (g ∷ heads) (x ∷ hs) zero head h is has = elim (decide (is_static g)) [
  | inl static ↦ here static (rw static at has)
  | inr other ↦ absurd (no_handle h (rw other at has))
]
  where
    here : is_static g ≡ true → ◌≡◌ {A = Option (Option Handle)} (Some (Some x)) (Some (Some h)) → HasWant (g ∷ heads) (x ∷ hs) head h
    here static e =
        let same : x ≡ h = same_Some x h (same_Some (Some x) (Some h) e) in
        let it : g ≡ head = same_Some g head is in
        (zero, ap (λ (y : Handle). Some y) same, rw static (ap (λ (y : SegmentHead). Some (want_of y)) it))
spread_want (g ∷ heads) (x ∷ hs) (suc k) head h is has = elim (decide (is_static g)) [
  | inl static ↦ later static (spread_want heads hs k head h is (rw static at has))
  | inr other ↦ passed other (spread_want heads (x ∷ hs) k head h is (rw other at has))
]
  where
    later : is_static g ≡ true → HasWant heads hs head h → HasWant (g ∷ heads) (x ∷ hs) head h
    later static one = (suc one.0, one.1, rw static one.2)

    passed : is_static g ≡ false → HasWant heads (x ∷ hs) head h → HasWant (g ∷ heads) (x ∷ hs) head h
    passed other one = (one.0, one.1, rw other one.2)

-- the same without the want
pub spread_index : (heads : List SegmentHead) (hs : List Handle) (k : ℕ) (h : Handle) → slice_get (spread_handles heads hs) k ≡ Some (Some h) → (i : ℕ) × (slice_get hs i ≡ Some h)
spread_index [] hs k h has = absurd cc
spread_index (g ∷ heads) [] zero h has = absurd (no_handle h has)
spread_index (g ∷ heads) [] (suc k) h has = spread_index heads [] k h has
spread_index (g ∷ heads) (x ∷ hs) zero h has = elim (decide (is_static g)) [
  | inl static ↦ (zero, ap (λ (y : Handle). Some y) (same_Some x h (same_Some (Some x) (Some h) (rw static at has))))
  | inr other ↦ absurd (no_handle h (rw other at has))
]
spread_index (g ∷ heads) (x ∷ hs) (suc k) h has = elim (decide (is_static g)) [
  | inl static ↦ (let one = spread_index heads hs k h (rw static at has) in (suc one.0, one.1))
  | inr other ↦ spread_index heads (x ∷ hs) k h (rw other at has)
]

-- no two segments have one slot
pub spread_once : (heads : List SegmentHead) (hs : List Handle) → AreDistinct hs → (k l : ℕ) (h j : Handle) → slice_get (spread_handles heads hs) k ≡ Some (Some h)
    → slice_get (spread_handles heads hs) l ≡ Some (Some j) → h.slot ≡ j.slot → k ≡ l
spread_once [] hs distinct k l h j has has' same = absurd cc
spread_once (g ∷ heads) [] distinct k l h j has has' same = let one = spread_index (g ∷ heads) [] k h has in let none = one.1 in absurd cc
spread_once (g ∷ heads) (x ∷ hs) distinct zero zero h j has has' same = refl
spread_once (g ∷ heads) (x ∷ hs) distinct zero (suc l) h j has has' same = elim (decide (is_static g)) [
  | inl static ↦
      (let first : x ≡ h = same_Some x h (same_Some (Some x) (Some h) (rw static at has)) in
      let one = spread_index heads hs l j (rw static at has') in
      absurd (omega (arith, distinct zero (suc one.0) h j (ap (λ (y : Handle). Some y) first) one.1 same)))
  | inr other ↦ absurd (no_handle h (rw other at has))
]
spread_once (g ∷ heads) (x ∷ hs) distinct (suc k) zero h j has has' same = elim (decide (is_static g)) [
  | inl static ↦
      (let first : x ≡ j = same_Some x j (same_Some (Some x) (Some j) (rw static at has')) in
      let one = spread_index heads hs k h (rw static at has) in
      absurd (omega (arith, distinct (suc one.0) zero h j one.1 (ap (λ (y : Handle). Some y) first) same)))
  | inr other ↦ absurd (no_handle j (rw other at has'))
]
spread_once (g ∷ heads) (x ∷ hs) distinct (suc k) (suc l) h j has has' same = elim (decide (is_static g)) [
  | inl static ↦ ap suc (spread_once heads hs (λ a b c d is is' e. omega (arith, distinct (suc a) (suc b) c d is is' e)) k l h j (rw static at has) (rw static at has') same)
  | inr other ↦ ap suc (spread_once heads (x ∷ hs) distinct k l h j (rw other at has) (rw other at has') same)
]

-- each handle is a segment's
abbrev HasSegment : List SegmentHead → List Handle → Handle → Type 0
HasSegment heads hs h = (k : ℕ) × (head : SegmentHead) × (slice_get heads k ≡ Some head) × (slice_get (spread_handles heads hs) k ≡ Some (Some h))

spread_has : (heads : List SegmentHead) (hs : List Handle) → length hs ≡ length (wants_of heads) → (i : ℕ) (h : Handle) → slice_get hs i ≡ Some h → HasSegment heads hs h
spread_has [] [] long i h is = absurd cc
spread_has [] (x ∷ hs) long i h is = absurd (omega (arith, long))
spread_has (g ∷ heads) [] long i h is = absurd cc
spread_has (g ∷ heads) (x ∷ hs) long zero h is = elim (decide (is_static g)) [
  | inl static ↦ (zero, g, refl, rw static (ap (λ (y : Handle). Some (Some y)) (same_Some x h is)))
  | inr other ↦ passed other (spread_has heads (x ∷ hs) (rw other at long) zero h is)
]
  where
    passed : is_static g ≡ false → HasSegment heads (x ∷ hs) h → HasSegment (g ∷ heads) (x ∷ hs) h
    passed other one = (suc one.0, one.1, one.2, rw other one.3)
spread_has (g ∷ heads) (x ∷ hs) long (suc i) h is = elim (decide (is_static g)) [
  | inl static ↦ later static (spread_has heads hs (shorter (rw static at long)) i h is)
  | inr other ↦ passed other (spread_has heads (x ∷ hs) (rw other at long) (suc i) h is)
]
  where
    shorter : suc (length hs) ≡ suc (length (wants_of heads)) → length hs ≡ length (wants_of heads)
    shorter e = omega (arith, e)

    later : is_static g ≡ true → HasSegment heads hs h → HasSegment (g ∷ heads) (x ∷ hs) h
    later static one = (suc one.0, one.1, one.2, rw static one.3)

    passed : is_static g ≡ false → HasSegment heads (x ∷ hs) h → HasSegment (g ∷ heads) (x ∷ hs) h
    passed other one = (suc one.0, one.1, one.2, rw other one.3)

-- a want has room for LENGTH bytes
pub want_size : (head : SegmentHead) → head.length ≤ (want_of head).size
unfolding want_of
want_size head = elim (decide (is_stack head)) [ inl stack ↦ rw stack (grind arith) | inr plain ↦ rw plain (grind arith) ]

-- ---- users

module _ (old new : Loaded) (path : List ℕ) (segments : List Segment) (id : ℕ) (entry : Option ℕ) (sound : IsSound old.memory old.users) (begun : HasPlaced old.memory path segments id entry new.memory)
    (ids : List ℕ) (its_place : ℕ) (id_is : id ≡ first_id + its_place) (added : IsAdded old.users its_place (record (started_kept path (map head_of segments) begun.handles) { attached = ids }) new.users)
    (attached : AreAttached new.users)
    (its_calls : (number k : ℕ) (head : SegmentHead) (h : Handle) → at_number (map head_of segments) number ≡ Some head → handle_at (started_kept path (map head_of segments) begun.handles).handles number ≡ Some h
    → is_table head ≡ true → k < entry_count head.length → IsCall new.users id (target_at (bytes_at new.memory h.slot) k)) where
  abbrev heads : List SegmentHead
  heads = map head_of segments

  abbrev hs : List Handle
  hs = begun.handles

  abbrev its : LoadedUser
  its = record (started_kept path (map head_of segments) begun.handles) { attached = ids }

  abbrev users : List (Option LoadedUser)
  users = new.users

  long : length begun.handles ≡ length (wants_of (map head_of segments))
  long = all_length old.memory.banks id old.memory.slots begun.middle.slots (wants_of (map head_of segments)) begun.handles begun.placed.puts

  all_kept : AllKept old new.memory
  all_kept place number head h has =
      let of' = sound.each place number head h has in
      begun_keeps old.memory new.memory path segments id entry begun h of'.block of'.live of'.fixed

  -- a user is an old one, or the new one
  abbrev Which : ℕ → LoadedUser → Type 0
  Which p kept = (slice_get old.users p ≡ Some (Some kept)) ⊎ ((p ≡ its_place) × (kept ≡ its))

  which : (p : ℕ) (kept : LoadedUser) → slice_get users p ≡ Some (Some kept) → Which p kept
  which p kept made = elim (added.which p kept made) [ inl was ↦ inl was.1 | inr last ↦ inr last ]

  handle_in : (number : ℕ) (h : Handle) → handle_at its.handles number ≡ Some h → (k : ℕ) × (number ≡ suc k) × (slice_get (spread_handles (map head_of segments) begun.handles) k ≡ Some (Some h))
  handle_in zero h is = absurd cc
  handle_in (suc k) h is = (k, refl, inner (slice_get (spread_handles (map head_of segments) begun.handles) k) is)
    where
      inner : (o : Option (Option Handle)) → option_and_then (λ (handle : Option Handle). handle) o ≡ Some h → o ≡ Some (Some h)
      inner None e = absurd cc
      inner (Some None) e = absurd cc
      inner (Some (Some x)) e = cc

  its_static : (number : ℕ) (head : SegmentHead) → at_number (map head_of segments) number ≡ Some head → is_static head ≡ true → is_active (presence_at new.memory.slots its.handles number) ≡ true
  its_static zero head has static = absurd cc
  its_static (suc k) head has static =
      let one = spread_static (map head_of segments) begun.handles long k head has static in
      let active = all_active old.memory.banks id old.memory.slots begun.middle.slots (wants_of (map head_of segments)) begun.handles begun.placed.puts one.0 one.1 one.2 in
      let handle : handle_at its.handles (suc k) ≡ Some one.1 = ap (option_and_then (λ (o : Option Handle). o)) one.3 in
      ap (λ (o : Option Handle). is_active (presence new.memory.slots o)) handle ∙ subst (λ (t : Slots). is_active (presence t (Some one.1)) ≡ true) (sym begun.slots) active

  its_block : (number : ℕ) (head : SegmentHead) (h : Handle) → at_number (map head_of segments) number ≡ Some head → handle_at its.handles number ≡ Some h → IsOf new.memory id head h
  its_block zero head h has is = absurd cc
  its_block (suc k) head h has is =
      let found = handle_in (suc k) h is in
      let here : slice_get (spread_handles (map head_of segments) begun.handles) k ≡ Some (Some h) = subst (λ (n : ℕ). slice_get (spread_handles (map head_of segments) begun.handles) n ≡ Some (Some h)) (omega (arith, found.1)) found.2 in
      let one = spread_want (map head_of segments) begun.handles k head h has here in
      let there = all_placed old.memory.banks id old.memory.slots begun.middle.slots (wants_of (map head_of segments)) begun.handles begun.placed.puts one.0 h one.1 in
      let want : there.0 ≡ want_of head = same_Some there.0 (want_of head) (sym there.2 ∙ one.2) in
      let zeros : bytes_at begun.middle h.slot ≡ replicate (want_of head).size 0 = begun.placed.zeros one.0 (want_of head) h one.2 one.1 in
      record {
        block = placed_block (want_of head) there.1 id true 0 false;
        live = ap (λ (t : Slots). get t h) begun.slots ∙ there.3 ∙ ap (λ (w : Want). Some (placed_block w there.1 id true 0 false)) want;
        user = refl;
        fixed = refl;
        form = inl (refl, refl);
        want = want_size head;
        room = λ some. omega (arith, want_size head, begun.sizes h.slot, ap (λ (bs : List ℕ). length bs) zeros, length-replicate {A = ℕ} (want_of head).size 0);
      }

  -- the parts of a segment's handle, by its user
  parts_old : (place number : ℕ) (head : SegmentHead) (h : Handle) → (has : Has users place number head h) → slice_get old.users place ≡ Some (Some has.kept) → Has old.users place number head h
  parts_old place number head h has was = record { kept = has.kept; made = was; head' = has.head'; handle = has.handle }

  lift : (place number : ℕ) (head : SegmentHead) (h : Handle) → Has old.users place number head h → Has users place number head h
  lift place number head h has = record { kept = has.kept; made = added.stay place has.kept has.made; head' = has.head'; handle = has.handle }

  its_head : (place number : ℕ) (head : SegmentHead) (h : Handle) → (has : Has users place number head h) → has.kept ≡ its → at_number (map head_of segments) number ≡ Some head
  its_head place number head h has is = sym (ap (λ (k : LoadedUser). at_number k.heads number) is) ∙ has.head'

  its_handle : (place number : ℕ) (head : SegmentHead) (h : Handle) → (has : Has users place number head h) → has.kept ≡ its → handle_at its.handles number ≡ Some h
  its_handle place number head h has is = sym (ap (λ (k : LoadedUser). handle_at k.handles number) is) ∙ has.handle

  each : (place number : ℕ) (head : SegmentHead) (h : Handle) → Has users place number head h → IsOf new.memory (first_id + place) head h
  each place number head h has = elim (which place has.kept has.made) [
    | inl was ↦ of_kept old.memory new.memory (first_id + place) head h (sound.each place number head h (parts_old place number head h has was)) (all_kept place number head h (parts_old place number head h has was))
    | inr last ↦ subst (λ (n : ℕ). IsOf new.memory n head h) (omega (arith, id_is, last.0)) (its_block number head h (its_head place number head h has last.1) (its_handle place number head h has last.1))
  ]

  -- a new handle isn't in the slot of an old one
  apart : (place number n : ℕ) (head : SegmentHead) (h k : Handle) → Has old.users place number head h → handle_at its.handles n ≡ Some k → h.slot ≡ k.slot → ⊥
  apart place number n head h k has is same =
      let of' = sound.each place number head h has in
      let live : IsSome (get old.memory.slots h) = rw of'.live refl in
      let found = handle_in n k is in
      let one = spread_index (map head_of segments) begun.handles found.0 k found.2 in
      rest_apart old.memory.banks id old.memory.slots begun.middle.slots (wants_of (map head_of segments)) begun.handles begun.placed.puts h live one.0 k one.1 (sym same)

  its_once : (number n : ℕ) (h k : Handle) → handle_at its.handles number ≡ Some h → handle_at its.handles n ≡ Some k → h.slot ≡ k.slot → number ≡ n
  its_once number n h k is is' same =
      let one = handle_in number h is in
      let two = handle_in n k is' in
      let distinct = all_distinct old.memory.banks id old.memory.slots begun.middle.slots (wants_of (map head_of segments)) begun.handles begun.placed.puts in
      omega (arith, one.1, two.1, spread_once (map head_of segments) begun.handles distinct one.0 two.0 h k one.2 two.2 same)

  once : (place other number n : ℕ) (head second : SegmentHead) (h k : Handle) → Has users place number head h → Has users other n second k → h.slot ≡ k.slot → (place ≡ other) × (number ≡ n)
  once place other number n head second h k has has' same = elim (which place has.kept has.made) [
    | inl was ↦ elim (which other has'.kept has'.made) [
      | inl was' ↦ sound.once place other number n head second h k (parts_old place number head h has was) (parts_old other n second k has' was') same
      | inr last' ↦ absurd (apart place number n head h k (parts_old place number head h has was) (its_handle other n second k has' last'.1) same)
    ]
    | inr last ↦ elim (which other has'.kept has'.made) [
      | inl was' ↦ absurd (apart other n number second k h (parts_old other n second k has' was') (its_handle place number head h has last.1) (sym same))
      | inr last' ↦ (last.0 ∙ sym last'.0, its_once number n h k (its_handle place number head h has last.1) (its_handle other n second k has' last'.1) same)
    ]
  ]

  abbrev IsSegments' : ℕ → Type 0
  IsSegments' slot = (place : ℕ) × (number : ℕ) × (head : SegmentHead) × (h : Handle) × Has users place number head h × (h.slot ≡ slot)

  only : (slot : ℕ) (block : Block) → block_in (slot_at new.memory.slots slot) ≡ Some block → block.user ≢ 0 → IsSegments' slot
  only slot block is user = elim (all_only old.memory.banks id old.memory.slots begun.middle.slots (wants_of (map head_of segments)) begun.handles begun.placed.puts slot block
      (sym (ap (λ (t : Slots). block_in (slot_at t slot)) begun.slots) ∙ is)) [
        | inl new' ↦
            (let one = spread_has (map head_of segments) begun.handles long new'.0 new'.1 new'.2 in (
              its_place,
              suc one.0,
              one.1,
              new'.1,
              record { kept = its; made = added.here; head' = one.2; handle = ap (option_and_then (λ (o : Option Handle). o)) one.3 },
              new'.3,
            ))
        | inr was ↦
            (let before = sound.only slot was.0 was.1 (λ zero'. user (sym was.2 ∙ zero')) in
            (before.0, before.1, before.2, before.3, lift before.0 before.1 before.2 before.3 before.4, before.5))
      ]

  pub sound_placed : IsSound new.memory new.users
  sound_placed = record {
    few = added.few;
    lengths = λ place kept made. elim (which place kept made) [
      | inl was ↦ sound.lengths place kept was
      | inr last ↦ rw last.1 (length-map (held_of_heads (map head_of segments) begun.handles) (λ (held : HeldSegment). held.handle) ∙ spread_length (map head_of segments) begun.handles)
    ];
    short = λ place kept made. elim (which place kept made) [
      | inl was ↦ sound.short place kept was
      | inr last ↦ rw last.1 (omega (arith, begun.short, length-map segments head_of))
    ];
    statics = λ place kept number head made runs has static. elim (which place kept made) [
      | inl was ↦ statics_kept old new.memory sound all_kept place kept number head was runs has static
      | inr last ↦ rw last.1 (its_static number head (sym (ap (λ (k : LoadedUser). at_number k.heads number) last.1) ∙ has) static)
    ];
    rests = λ place kept number made life. elim (which place kept made) [
      | inl was ↦ rests_kept old new.memory sound all_kept place kept number was life
      | inr last ↦ (let clash : Running ≡ Dormant = ap (λ (k : LoadedUser). k.life) (sym last.1) ∙ life in absurd cc)
    ];
    each = each;
    once = once;
    only = only;
    attached = attached;
    calls = λ place number k head h has table there inside. elim (which place has.kept has.made) [
      | inl was ↦ call_stays old.users new.users added.stay (first_id + place) _
          (calls_kept old new.memory sound all_kept place number k head h (parts_old place number head h has was) table there inside)
      | inr last ↦ subst (λ (n : ℕ). IsCall new.users n (target_at (bytes_at new.memory h.slot) k)) (omega (arith, id_is, last.0))
          (its_calls number k head h (its_head place number head h has last.1) (its_handle place number head h has last.1) table inside)
    ];
  }
