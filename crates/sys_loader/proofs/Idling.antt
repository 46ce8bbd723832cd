-- Segments that are let go one by one.
use Rattle.std.proofs.Common.{◌≡◌, inl, inr, ℕ, zero, suc, Bool, true, false, cond, ◌==◌, ◌+◌, ◌<◌, ◌≤◌, List, [], ◌∷◌, ◌++◌, length, take, get_or, Option, Some, None, IsSome, refl, sym, ap, subst, ◌∙◌, arith}
use Rattle.std.specs.Prelude.{slice_get, slice_set, option_map}
use Rattle.std.specs.Option.{option_map_or, option_and_then}
use Rattle.std.proofs.lemmas.Option.{same_Some, slice_get-get_or, slice_get-map}
use Rattle.iigs_meaning.specs.declared.handles.Handle.{Handle}
use Rattle.iigs_meaning.specs.declared.slots.SlotContent.{SlotContent}
use Rattle.iigs_meaning.specs.declared.slots.SlotContent.TheVariants.{Free, Used, Retired}
use Rattle.iigs_meaning.specs.declared.slots.Slot.{Slot}
use Rattle.iigs_meaning.specs.declared.wants.Block.{Block}
use Rattle.iigs_meaning.specs.Slots.{slot_at, get, used_value, with_value}
use Rattle.iigs_meaning.specs.Fits.{Slots, block_in}
use Rattle.iigs_meaning.specs.Blocks.{address_in}
use Rattle.iigs_meaning.specs.Memory.{Memory, IsThere, Changes}
use Rattle.loader_machine.specs.declared.seen.Presence.TheVariants.{Absent, Purged, Idle, Active}
use Rattle.loader_machine.specs.Presences.{presence, lies_in, lies_at}
use Rattle.loader_machine.specs.laws.Words.{family, handles_of_all}
use Rattle.loader_machine.specs.Steps.{with_block_changed, changed_all, idle_block, let_go}
use Rattle.loader_machine.specs.State.{user_of}
use Rattle.loader_agrees.specs.Agrees.{LoadedUser, kept_outlines}
use Rattle.loader_agrees.specs.laws.Slotted.{slot_set, live_block}
use Rattle.loader_users.specs.declared.user.UserSegment as users
use Rattle.sys_loader.specs.Lives.{AreIdled}
use Rattle.loader_users.proofs.Families.{take_past}
use Rattle.sys_loader.proofs.Together.{its_handles, more_handles}
use Rattle.loader_users.proofs.Written.{handles_of}
use Rattle.loader_users.proofs.Renewing.{same_active}
use Rattle.loader_users.proofs.Shifting.{set_is}
use Rattle.sys_loader.proofs.ChangedAll.{all_more, all_none, all_kept, all_join, let_go_again, let_go_at, let_go_active, let_go_idle, let_go_empty}

pub handle_get : (segments : List users.UserSegment) (k : ℕ) (s : users.UserSegment) → k < length segments → s ≡ get_or segments k s → slice_get (handles_of segments) k ≡ Some s.handle
handle_get segments k s inside is =
    slice_get-map (λ (x : users.UserSegment). x.handle) segments k ∙ ap (option_map (λ (x : users.UserSegment). x.handle)) (slice_get-get_or segments k s inside) ∙ ap (λ (x : users.UserSegment). Some x.handle) (sym is)

pub take_more : {X : Type 0} (xs : List X) (k : ℕ) (x : X) → slice_get xs k ≡ Some x → take (k + 1) xs ≡ take k xs ++ x ∷ []
take_more {X} xs k x is = let more : k + 1 ≡ suc k = omega arith in ap (λ (n : ℕ). take n xs) more ∙ go xs k is
  where
    go : (ys : List X) (i : ℕ) → slice_get ys i ≡ Some x → take (suc i) ys ≡ take i ys ++ x ∷ []
    go [] i e = absurd cc
    go (y ∷ ys) zero e = ap (λ z. z ∷ []) (same_Some y x e)
    go (y ∷ ys) (suc i) e = ap (λ zs. y ∷ zs) (go ys i e)

-- a slot that is set to what it holds stays
value_same : (slots : Slots) (h : Handle) (b : Block) → get slots h ≡ Some b → with_value slots h b ≡ slots
value_same slots h b is = set_is slots h b b is ∙ go slots h.slot (slot_is (slot_at slots h.slot) (here is))
  where
    here : get slots h ≡ Some b → ((slot_at slots h.slot).generation ≡ h.generation) × (block_in (slot_at slots h.slot) ≡ Some b)
    here e = (by_test ((slot_at slots h.slot).generation == h.generation) refl e, live_block slots h b e)
      where
        by_test : (t : Bool) → ((slot_at slots h.slot).generation == h.generation) ≡ t → cond t (block_in (slot_at slots h.slot)) None ≡ Some b → (slot_at slots h.slot).generation ≡ h.generation
        by_test true test e' = grind (arith, test)
        by_test false test e' = absurd cc

    slot_is : (slot : Slot Block) → (slot.generation ≡ h.generation) × (block_in slot ≡ Some b) → slot ≡ record { generation = h.generation; content = Used b }
    slot_is slot both = by slot.generation slot.content both.0 both.1
      where
        by : (g : ℕ) (content : SlotContent Block) → g ≡ h.generation → used_value content ≡ Some b
            → (let one : Slot Block = record { generation = g; content = content } in one) ≡ record { generation = h.generation; content = Used b }
        by g Free e f = absurd cc
        by g Retired e f = absurd cc
        by g (Used c) e f = cc

    go : (xs : Slots) (n : ℕ) → slot_at xs n ≡ record { generation = h.generation; content = Used b } → slice_set xs n (record { generation = h.generation; content = Used b }) ≡ xs
    go [] n e = refl
    go (x ∷ xs) zero e = ap (λ (y : Slot Block). y ∷ xs) (sym e)
    go (x ∷ xs) (suc n) e = ap (λ (ys : Slots). x ∷ ys) (go xs n e)

-- a block that isn't let go stays as it is
unchanged : (slots : Slots) (h : Handle) → ((b : Block) → get slots h ≡ Some b → let_go b ≡ b) → with_block_changed let_go slots h ≡ slots
unchanged slots h same = go (get slots h) refl
  where
    go : (o : Option Block) → get slots h ≡ o → option_map_or (λ b. with_value slots h (let_go b)) o slots ≡ slots
    go None none = refl
    go (Some b) is = ap (with_value slots h) (same b is) ∙ value_same slots h b is

-- ---- one more

module _ (handles : List (Option Handle)) (k : ℕ) (o : Option Handle) (found : slice_get handles k ≡ Some o) (old now : Memory) (so_far : AreIdled (take k handles) old now) where
  stays : changed_all let_go old.slots (take (k + 1) handles) ≡ now.slots → AreIdled (take (k + 1) handles) old now
  stays same = record { slots = sym same; bytes = so_far.bytes }

  next : (h : Handle) → o ≡ Some h → changed_all let_go old.slots (take (k + 1) handles) ≡ with_block_changed let_go now.slots h
  next h is = ap (changed_all let_go old.slots) (take_more handles k o found ∙ ap (λ (x : Option Handle). take k handles ++ x ∷ []) is)
      ∙ all_more let_go let_go_again old.slots (take k handles) h ∙ ap (λ (t : Slots). with_block_changed let_go t h) (sym so_far.slots)

  at_block : (h : Handle) (b : Block) → get now.slots h ≡ Some b → presence now.slots (Some h) ≡ lies_at h b.at b.locked
  at_block h b is = ap (lies_in h) is

  pub idled_absent : presence now.slots o ≡ Absent → AreIdled (take (k + 1) handles) old now
  idled_absent absent = go o refl absent
    where
      go : (x : Option Handle) → o ≡ x → presence now.slots x ≡ Absent → AreIdled (take (k + 1) handles) old now
      go None is e = stays (ap (changed_all let_go old.slots) (take_more handles k o found ∙ ap (λ (y : Option Handle). take k handles ++ y ∷ []) is) ∙ all_none let_go let_go_again old.slots (take k handles) ∙ sym so_far.slots)
      go (Some h) is e = stays (next h is ∙ unchanged now.slots h (λ b live. absurd (lives b.at b.locked (sym (at_block h b live) ∙ e))))
        where
          lives : (at : Option ℕ) (locked : Bool) → lies_at h at locked ≡ Absent → ⊥
          lives None locked e' = cc
          lives (Some a) true e' = cc
          lives (Some a) false e' = cc

  pub idled_purged : (h : Handle) → presence now.slots o ≡ Purged h → AreIdled (take (k + 1) handles) old now
  idled_purged h purged = go o refl purged
    where
      go : (x : Option Handle) → o ≡ x → presence now.slots x ≡ Purged h → AreIdled (take (k + 1) handles) old now
      go None is e = absurd cc
      go (Some g) is e = stays (next g is ∙ unchanged now.slots g (λ b live. let_go_empty b (empty b.at b.locked (sym (at_block g b live) ∙ e))))
        where
          empty : (at : Option ℕ) (locked : Bool) → lies_at g at locked ≡ Purged h → at ≡ None
          empty None locked e' = refl
          empty (Some a) true e' = absurd cc
          empty (Some a) false e' = absurd cc

  pub idled_idle : (h : Handle) (address : ℕ) → presence now.slots o ≡ Idle h address → AreIdled (take (k + 1) handles) old now
  idled_idle h address idle = go o refl idle
    where
      go : (x : Option Handle) → o ≡ x → presence now.slots x ≡ Idle h address → AreIdled (take (k + 1) handles) old now
      go None is e = absurd cc
      go (Some g) is e = stays (next g is ∙ unchanged now.slots g (λ b live. let_go_idle b (loose b.at b.locked (sym (at_block g b live) ∙ e))))
        where
          loose : (at : Option ℕ) (locked : Bool) → lies_at g at locked ≡ Idle h address → locked ≡ false
          loose None locked e' = absurd cc
          loose (Some a) true e' = absurd cc
          loose (Some a) false e' = refl

  pub idled_active : (h : Handle) (address : ℕ) → presence now.slots o ≡ Active h address → (new : Memory) → Changes now h idle_block new → AreIdled (take (k + 1) handles) old new
  idled_active h address active new changes =
      let is : o ≡ Some h = same_active now.slots o h address active in
      let locked : changes.block.locked ≡ true = tight changes.block.at changes.block.locked (sym (at_block h changes.block changes.was) ∙ ap (presence now.slots) (sym is) ∙ active) in
      let one : let_go changes.block ≡ idle_block changes.block = let_go_active changes.block changes.there locked in
      record {
        slots = changes.slots ∙ ap (with_value now.slots h) (sym one) ∙ sym (ap (λ (x : Option Block). option_map_or (λ b. with_value now.slots h (let_go b)) x now.slots) changes.was) ∙ sym (next h is);
        bytes = record {
          banks = changes.kept.banks ∙ so_far.bytes.banks;
          bytes = λ place apart there. changes.kept.bytes place apart there ∙ so_far.bytes.bytes place apart (was_there place there);
        };
      }
    where
      tight : (at : Option ℕ) (locked : Bool) → lies_at h at locked ≡ Active h address → locked ≡ true
      tight None locked e = absurd cc
      tight (Some a) true e = refl
      tight (Some a) false e = absurd cc

      was_there : (place : ℕ) → IsThere new place → IsThere now place
      was_there place there = elim (slot_set now.slots h.slot (record { generation = h.generation; content = Used (idle_block changes.block) }) place) [
        | inl here ↦
            let its : address_in (slot_at now.slots place) ≡ changes.block.at = ap (λ (n : ℕ). address_in (slot_at now.slots n)) here.0 ∙ ap (λ (x : Option Block). option_and_then (λ y. y.at) x) (live_block now.slots h changes.block changes.was) in
            subst (λ (x : Option ℕ). IsSome x) (sym its) changes.there
        | inr same ↦
            let its : address_in (slot_at new.slots place) ≡ address_in (slot_at now.slots place) = ap (λ (t : Slots). address_in (slot_at t place)) (changes.slots ∙ set_is now.slots h changes.block (idle_block changes.block) changes.was) ∙ ap address_in same in
            subst (λ (x : Option ℕ). IsSome x) its there
      ]

-- ---- two lists of segments, one after the other

was_at : (old new : Memory) (handles : List (Option Handle)) → new.slots ≡ changed_all let_go old.slots handles → (place : ℕ) → IsThere new place → IsThere old place
was_at old new handles same place there = go (block_in (slot_at new.slots place)) refl there
  where
    go : (o : Option Block) → block_in (slot_at new.slots place) ≡ o → IsSome (option_and_then (λ (b : Block). b.at) o) → IsThere old place
    go None is some = absurd cc
    go (Some b) is some =
        let was = all_kept let_go let_go_again (λ (x : Block). x.at) let_go_at old.slots handles place b (sym (ap (λ (t : Slots). block_in (slot_at t place)) same) ∙ is) in
        rw was.1 (subst (λ (o : Option ℕ). IsSome o) (sym was.2) some)

pub idled_none : (memory : Memory) → AreIdled [] memory memory
idled_none memory = record { slots = refl; bytes = record { banks = refl; bytes = λ place apart there. refl } }

pub idled_join : (xs ys : List (Option Handle)) (old mid new : Memory) → AreIdled xs old mid → AreIdled ys mid new → AreIdled (xs ++ ys) old new
idled_join xs ys old mid new one two = record {
  slots = two.slots ∙ ap (λ (t : Slots). changed_all let_go t ys) one.slots ∙ sym (all_join let_go let_go_again old.slots xs ys);
  bytes = record {
    banks = two.bytes.banks ∙ one.bytes.banks;
    bytes = λ place apart there. two.bytes.bytes place apart there ∙ one.bytes.bytes place apart (was_at mid new ys two.slots place there);
  };
}

-- the segments of one user more
module _ (users : List (Option LoadedUser)) (ids : List ℕ) (other : LoadedUser) (old mid new : Memory) where
  following : (front : List ℕ) (id : ℕ) → user_of users id ≡ Some other → AreIdled (handles_of_all (kept_outlines users) front) old mid → AreIdled other.handles mid new
      → AreIdled (handles_of_all (kept_outlines users) (front ++ id ∷ [])) old new
  following front id made so_far idled =
      subst (λ (hs : List (Option Handle)). AreIdled hs old new)
      (ap (λ (hs : List (Option Handle)). handles_of_all (kept_outlines users) front ++ hs) (sym (its_handles users id other made)) ∙ sym (more_handles users front id))
      (idled_join (handles_of_all (kept_outlines users) front) other.handles old mid new so_far idled)

  pub family_more : (k id : ℕ) → slice_get ids k ≡ Some id → user_of users id ≡ Some other → AreIdled (handles_of_all (kept_outlines users) (take k ids)) old mid → AreIdled other.handles mid new
      → AreIdled (handles_of_all (kept_outlines users) (take (k + 1) ids)) old new
  family_more k id is made so_far idled = subst (λ (l : List ℕ). AreIdled (handles_of_all (kept_outlines users) l) old new) (sym (take_more ids k id is)) (following (take k ids) id made so_far idled)

  pub family_all : (k id : ℕ) → length ids ≤ k → user_of users id ≡ Some other → AreIdled (handles_of_all (kept_outlines users) (take k ids)) old mid → AreIdled other.handles mid new
      → AreIdled (handles_of_all (kept_outlines users) (family id ids)) old new
  family_all k id le made so_far idled =
      following ids id made (subst (λ (l : List ℕ). AreIdled (handles_of_all (kept_outlines users) l) old mid) (take_past ids k le) so_far) idled
