-- A user that is dropped, with those that are attached to it.
use Rattle.std.proofs.Common.{◌≡◌, ◌≢◌, inl, inr, ℕ, zero, suc, Bool, true, false, cond, ◌==◌, ◌+◌, ◌-◌, ◌<◌, ◌≤◌, List, [], ◌∷◌, ◌++◌, length, map, Option, Some, None, IsSome, refl, sym, ap, subst, ◌∙◌, arith}
use Rattle.std.specs.Prelude.{slice_get, take, option_map, Contains, ◌||◌}
use Rattle.std.specs.Option.{option_and_then}
use Rattle.std.proofs.lemmas.Bool.{cases_eq}
use Rattle.std.proofs.lemmas.Option.{same_Some, slice_get_within}
use Rattle.omf_io.specs.Files.{FileMap}
use Rattle.load_meaning.specs.declared.table.Target.{Target}
use Rattle.load_meaning.specs.LoadTable.{target_at, entry_count}
use Rattle.iigs_meaning.specs.declared.handles.Handle.{Handle}
use Rattle.iigs_meaning.specs.declared.slots.Slot.{Slot}
use Rattle.iigs_meaning.specs.declared.wants.Block.{Block}
use Rattle.iigs_meaning.specs.declared.slots.SlotContent.TheVariants.{Free, Retired}
use Rattle.iigs_meaning.specs.Slots.{slot_at, get, released}
use Rattle.iigs_meaning.specs.Fits.{Slots, block_in}
use Rattle.iigs_meaning.specs.Puts.{without_user, without_user_in}
use Rattle.loader_machine.specs.Rule.{RoomRule}
use Rattle.iigs_meaning.specs.Memory.{Memory, KeepsBut, AreAllPlaced, bytes_at}
use Rattle.iigs_meaning.specs.Blocks.{address_in}
use Rattle.loader_machine.specs.declared.seen.SegmentHead.{SegmentHead}
use Rattle.loader_machine.specs.declared.seen.Life.TheVariants.{Running, Dormant}
use Rattle.loader_machine.specs.Heads.{at_number, is_static, is_table}
use Rattle.loader_machine.specs.State.{User, Machine, Outline, outline_of, outlines, first_id, user_of, with_user, without_all, attached_at, is_attached, handles_in}
use Rattle.loader_machine.specs.laws.Words.{family, dropped_state}
use Rattle.loader_machine.specs.Presences.{handle_at, presence, presence_at, there_at, active_at, is_active, lies_in}
use Rattle.loader_machine.specs.Stands.{far_of}
use Rattle.loader_machine.specs.Refusals.{shut_down_refusal}
use Rattle.loader_machine.specs.Commands.{Okay, ShutDown}
use Rattle.loader_machine.specs.Steps.{without_users}
use Rattle.loader_agrees.specs.Agrees.{LoadedUser, Loaded, outline, kept_outlines, seen_by, UserAgrees, AreAttached, LeadsFar, Agrees, IsCall, IsOf, Has, IsSound, Met}
use Rattle.loader_agrees.specs.laws.Words.{far_in, EntriesLead}
use Rattle.loader_agrees.specs.laws.Begun.{decide}
use Rattle.loader_agrees.specs.laws.Frame.{Same, agrees_still}
use Rattle.loader_agrees.specs.laws.Lists.{set_map, set_at, set_apart, length_set}
use Rattle.loader_agrees.specs.laws.Seeing.{made_at, user_is, IsKept, kept_is, does, has_any}
use Rattle.loader_agrees.specs.laws.ScriptBlocks.{released_none}
use Rattle.loader_agrees.specs.laws.Slotted.{live_block}
use Rattle.loader_agrees.specs.laws.Stay.{get_is, in_slot, slot_map, is_there}
use Rattle.loader_agrees.specs.laws.RowUsers.{user_there}
use Rattle.sys_loader.specs.Lives.{AreReleased, HasDropped}
use Rattle.loader_users.proofs.Shifting.{there_block}
use Rattle.sys_loader.proofs.Together.{is_in, in_last, in_either}

-- ---- slots without a user's handles

module _ (slots : Slots) (id : ℕ) where
  slot_is : (n : ℕ) → slot_at (without_user slots id) n ≡ without_user_in id (slot_at slots n)
  slot_is n = slot_map (without_user_in id) slots n refl

  other_slot : (n : ℕ) (b : Block) → block_in (slot_at slots n) ≡ Some b → b.user ≢ id → slot_at (without_user slots id) n ≡ slot_at slots n
  other_slot n b is ne = slot_is n ∙ rw (is, test) refl
    where
      test : (b.user == id) ≡ false
      test = grind (arith, ne)

  -- another user's handle is as before
  pub other_get : (k : Handle) (b : Block) → get slots k ≡ Some b → b.user ≢ id → get (without_user slots id) k ≡ get slots k
  other_get k b is ne = get_is (without_user slots id) k ∙ ap (λ (slot : Slot Block). in_slot slot k) (other_slot k.slot b (live_block slots k b is) ne) ∙ sym (get_is slots k)

  -- a user's block in them is another user's
  pub other_in : (n : ℕ) (b : Block) → block_in (slot_at (without_user slots id) n) ≡ Some b → b.user ≢ 0 → (block_in (slot_at slots n) ≡ Some b) × (b.user ≢ id)
  other_in n b found user = go (block_in (slot_at slots n)) refl (sym (ap block_in (slot_is n)) ∙ found)
    where
      by_test : (c : Block) (t : Bool) → (c.user == id) ≡ t → block_in (slot_at slots n) ≡ Some c → block_in (cond t (released (slot_at slots n).generation) (slot_at slots n)) ≡ Some b
          → (block_in (slot_at slots n) ≡ Some b) × (b.user ≢ id)
      by_test c true test is e = absurd (user (released_none (slot_at slots n).generation b e))
      by_test c false test is e =
          let same : c ≡ b = same_Some c b (sym is ∙ e) in
          (e, λ own. let yes : (c.user == id) ≡ true = grind (arith, own, ap (λ (x : Block). x.user) same) in absurd cc)

      go : (o : Option Block) → block_in (slot_at slots n) ≡ o → block_in (without_user_in id (slot_at slots n)) ≡ Some b → (block_in (slot_at slots n) ≡ Some b) × (b.user ≢ id)
      go None is e = let none : block_in (slot_at slots n) ≡ Some b = rw is at e in (none, λ own. absurd (clash none is))
        where
          clash : {o : Option Block} → o ≡ Some b → o ≡ None → ⊥
          clash p q = cc
      go (Some c) is e = by_test c (c.user == id) refl is (rw is at e)

-- ---- slots without the handles of several users

-- an ID that is none of these
none_of : (id n : ℕ) (ids : List ℕ) → is_in (id ∷ ids) n ≡ false → (n ≢ id) × (is_in ids n ≡ false)
none_of id n ids out = go (id == n) refl out
  where
    go : (b : Bool) → (id == n) ≡ b → (b || is_in ids n) ≡ false → (n ≢ id) × (is_in ids n ≡ false)
    go true same e = absurd cc
    go false other e = ((λ same. let yes : (id == n) ≡ true = grind (arith, same) in absurd cc), e)

all_of : (id n : ℕ) (ids : List ℕ) → n ≢ id → is_in ids n ≡ false → is_in (id ∷ ids) n ≡ false
all_of id n ids ne out = let no : (id == n) ≡ false = grind (arith, ne) in rw no out

in_more : (id n : ℕ) (ids : List ℕ) → is_in ids n ≡ true → is_in (id ∷ ids) n ≡ true
in_more id n ids inside = go (id == n)
  where
    go : (b : Bool) → (b || is_in ids n) ≡ true
    go true = refl
    go false = inside

others_get : (ids : List ℕ) (slots : Slots) (k : Handle) (b : Block) → get slots k ≡ Some b → is_in ids b.user ≡ false → get (without_users slots ids) k ≡ get slots k
others_get [] slots k b is out = refl
others_get (id ∷ ids) slots k b is out =
    let both = none_of id b.user ids out in
    let same = other_get slots id k b is both.0 in
    others_get ids (without_user slots id) k b (same ∙ is) both.1 ∙ same

others_in : (ids : List ℕ) (slots : Slots) (n : ℕ) (b : Block) → block_in (slot_at (without_users slots ids) n) ≡ Some b → b.user ≢ 0 → (block_in (slot_at slots n) ≡ Some b) × (is_in ids b.user ≡ false)
others_in [] slots n b found user = (found, refl)
others_in (id ∷ ids) slots n b found user =
    let later = others_in ids (without_user slots id) n b found user in
    let here = other_in slots id n b later.0 user in
    (here.0, all_of id b.user ids here.1 later.1)

-- ---- users, where several are gone

module _ {U : Type 0} where
  gone_now : (ids : List ℕ) (users : List (Option U)) (p : ℕ) (k : U) → slice_get (without_all users ids) p ≡ Some (Some k) → (slice_get users p ≡ Some (Some k)) × (is_in ids (first_id + p) ≡ false)
  gone_now [] users p k is = (is, refl)
  gone_now (id ∷ ids) users p k is =
      let later = gone_now ids (with_user users id None) p k is in
      elim (cases_eq p (id - first_id)) [
        | inl eq ↦ absurd (none_here eq later.0)
        | inr ne ↦ (sym (set_apart users (id - first_id) p None ne) ∙ later.0, all_of id (first_id + p) ids (λ e. ne (omega (arith, e))) later.1)
      ]
    where
      two : (o : Option (Option U)) → o ≡ Some None → o ≡ Some (Some k) → ⊥
      two o a b = cc

      none_here : p ≡ id - first_id → slice_get (with_user users id None) p ≡ Some (Some k) → ⊥
      none_here eq found =
          let at : slice_get (with_user users id None) (id - first_id) ≡ Some (Some k) = ap (slice_get (with_user users id None)) (sym eq) ∙ found in
          let within : id - first_id < length users = omega (arith, slice_get_within (with_user users id None) (id - first_id) (Some k) at, length_set users (id - first_id) None) in
          two (slice_get (with_user users id None) (id - first_id)) (set_at users (id - first_id) None within) at

  stays_there : (ids : List ℕ) (users : List (Option U)) (p : ℕ) (k : U) → ((n : ℕ) → is_in ids n ≡ true → first_id ≤ n) → slice_get users p ≡ Some (Some k) → is_in ids (first_id + p) ≡ false
      → slice_get (without_all users ids) p ≡ Some (Some k)
  stays_there [] users p k above is out = is
  stays_there (id ∷ ids) users p k above is out =
      let both = none_of id (first_id + p) ids out in
      let same : (id == id) ≡ true = grind arith in
      let high = above id (rw same refl) in
      stays_there ids (with_user users id None) p k (λ n inside. above n (in_more id n ids inside)) (set_apart users (id - first_id) p None (λ e. both.0 (omega (arith, e, high))) ∙ is) both.1

  length_gone : (ids : List ℕ) (users : List (Option U)) → length (without_all users ids) ≡ length users
  length_gone [] users = refl
  length_gone (id ∷ ids) users = length_gone ids (with_user users id None) ∙ length_set users (id - first_id) None

  -- one more is gone
  pub more_gone : (ids : List ℕ) (users : List (Option U)) (id : ℕ) → without_all users (ids ++ id ∷ []) ≡ with_user (without_all users ids) id None
  more_gone [] users id = refl
  more_gone (one ∷ ids) users id = more_gone ids (with_user users one None) id

map_gone : {A B : Type 0} (f : A → B) (ids : List ℕ) (users : List (Option A)) → map (option_map f) (without_all users ids) ≡ without_all (map (option_map f) users) ids
map_gone f [] users = refl
map_gone {A} {B} f (id ∷ ids) users =
    map_gone f ids (with_user users id None) ∙ ap (λ (us : List (Option B)). without_all us ids) (set_map (option_map f) users (id - first_id) None)

-- ---- the loader

none_in : (place : ℕ) → ¬ Contains {X = ℕ} [] place
none_in place found = omega (arith, found.1)

-- the handles of these users are released, and they are gone, where no row of another user names one of them
module _ (old new : Loaded) (ids : List ℕ) (sound : IsSound old.memory old.users) (released' : AreReleased ids old.memory new.memory) (gone : new.users ≡ without_all old.users ids)
    (high : (n : ℕ) → is_in ids n ≡ true → first_id ≤ n)
    (row_out : (p : ℕ) (k : LoadedUser) (i n : ℕ) → slice_get old.users p ≡ Some (Some k) → is_in ids (first_id + p) ≡ false → slice_get k.attached i ≡ Some n → is_in ids n ≡ false) where
  abbrev In : ℕ → Bool
  In p = is_in ids (first_id + p)

  -- a user that is left was there before
  before : (p : ℕ) (k : LoadedUser) → slice_get new.users p ≡ Some (Some k) → (slice_get old.users p ≡ Some (Some k)) × (In p ≡ false)
  before p k made = gone_now ids old.users p k (ap (λ (us : List (Option LoadedUser)). slice_get us p) (sym gone) ∙ made)

  left : (p : ℕ) (k : LoadedUser) → slice_get old.users p ≡ Some (Some k) → In p ≡ false → slice_get new.users p ≡ Some (Some k)
  left p k made out = ap (λ (us : List (Option LoadedUser)). slice_get us p) gone ∙ stays_there ids old.users p k high made out

  user_left : (n : ℕ) (k : LoadedUser) → user_of old.users n ≡ Some k → is_in ids n ≡ false → user_of new.users n ≡ Some k
  user_left n k is out =
      let there = made_at old.users n k is in
      subst (λ (m : ℕ). user_of new.users m ≡ Some k) there.1 (user_there new.users (n - first_id) k (left (n - first_id) k there.0 (ap (is_in ids) there.1 ∙ out)))

  has_before : (p n : ℕ) (head : SegmentHead) (h : Handle) → Has new.users p n head h → Has old.users p n head h × (In p ≡ false)
  has_before p n head h has = let was = before p has.kept has.made in (record { kept = has.kept; made = was.0; head' = has.head'; handle = has.handle }, was.1)

  live_before : (p n : ℕ) (head : SegmentHead) (h : Handle) → Has old.users p n head h → In p ≡ false → get new.memory.slots h ≡ get old.memory.slots h
  live_before p n head h has out =
      let of' = sound.each p n head h has in
      ap (λ (t : Slots). get t h) released'.slots ∙ others_get ids old.memory.slots h of'.block of'.live (ap (is_in ids) of'.user ∙ out)

  bytes_same : (h : Handle) → IsSome (there_at (presence new.memory.slots (Some h))) → bytes_at new.memory h.slot ≡ bytes_at old.memory h.slot
  bytes_same h there = released'.bytes.bytes h.slot (none_in h.slot) (is_there new.memory h there)

  each_now : (p n : ℕ) (head : SegmentHead) (h : Handle) → Has new.users p n head h → IsOf new.memory (first_id + p) head h
  each_now p n head h has =
      let was = has_before p n head h has in
      let of' = sound.each p n head h was.0 in
      let live = live_before p n head h was.0 was.1 in
      record {
        block = of'.block;
        live = live ∙ of'.live;
        user = of'.user;
        fixed = of'.fixed;
        form = of'.form;
        want = of'.want;
        room = λ there.
            let present : IsSome (there_at (presence new.memory.slots (Some h))) = subst (λ (o : Option Block). IsSome (there_at (lies_in h o))) (sym (live ∙ of'.live)) (there_block h of'.block there) in
            omega (arith, of'.room there, ap (λ (bs : List ℕ). length bs) (bytes_same h present));
      }

  presence_same : (p : ℕ) (k : LoadedUser) → slice_get old.users p ≡ Some (Some k) → In p ≡ false → (n : ℕ) (o : Option Handle) → handle_at k.handles n ≡ o → presence new.memory.slots o ≡ presence old.memory.slots o
  presence_same p k made out n None e = refl
  presence_same p k made out n (Some h) e = let one = has_any old sound p k made n h e in ap (lies_in h) (live_before p n one.0 h one.1 out)

  statics_now : (p : ℕ) (k : LoadedUser) (n : ℕ) (head : SegmentHead) → slice_get new.users p ≡ Some (Some k) → k.life ≡ Running → at_number k.heads n ≡ Some head → is_static head ≡ true
      → is_active (presence_at new.memory.slots k.handles n) ≡ true
  statics_now p k n head made runs found static =
      let was = before p k made in
      ap is_active (presence_same p k was.0 was.1 n (handle_at k.handles n) refl) ∙ sound.statics p k n head was.0 runs found static

  rests_now : (p : ℕ) (k : LoadedUser) (n : ℕ) → slice_get new.users p ≡ Some (Some k) → k.life ≡ Dormant → is_active (presence_at new.memory.slots k.handles n) ≡ false
  rests_now p k n made life =
      let was = before p k made in
      ap is_active (presence_same p k was.0 was.1 n (handle_at k.handles n) refl) ∙ sound.rests p k n was.0 life

  only_now : (slot : ℕ) (b : Block) → block_in (slot_at new.memory.slots slot) ≡ Some b → b.user ≢ 0
      → (p : ℕ) × (n : ℕ) × (head : SegmentHead) × (h : Handle) × Has new.users p n head h × (h.slot ≡ slot)
  only_now slot b found user =
      let was = others_in ids old.memory.slots slot b (sym (ap (λ (t : Slots). block_in (slot_at t slot)) released'.slots) ∙ found) user in
      let it = sound.only slot b was.0 user in
      let of' = sound.each it.0 it.1 it.2 it.3 it.4 in
      let same : of'.block ≡ b = same_Some of'.block b (sym (live_block old.memory.slots it.3 of'.block of'.live) ∙ ap (λ (n : ℕ). block_in (slot_at old.memory.slots n)) it.5 ∙ was.0) in
      let out : In it.0 ≡ false = ap (is_in ids) (sym of'.user ∙ ap (λ (x : Block). x.user) same) ∙ was.1 in
      (it.0, it.1, it.2, it.3, record { kept = it.4.kept; made = left it.0 it.4.kept it.4.made out; head' = it.4.head'; handle = it.4.handle }, it.5)

  -- ---- attached users

  is_row : (p : ℕ) (k : LoadedUser) (f : ℕ) → slice_get old.users p ≡ Some (Some k) → attached_at (kept_outlines old.users) (first_id + p) f ≡ slice_get k.attached (f - 2)
  is_row p k f made = rw (user_is outline old.users (first_id + p), user_there old.users p k made) refl

  is_row_now : (p : ℕ) (k : LoadedUser) (f : ℕ) → slice_get old.users p ≡ Some (Some k) → In p ≡ false → attached_at (kept_outlines new.users) (first_id + p) f ≡ slice_get k.attached (f - 2)
  is_row_now p k f made out = rw (user_is outline new.users (first_id + p), user_there new.users p k (left p k made out)) refl

  attached_now : AreAttached new.users
  attached_now = record {
    few = λ p k made. sound.attached.few p k (before p k made).0;
    each = λ p i n k made is.
        let was = before p k made in
        let one = sound.attached.each p i n k was.0 is in
        (one.0, user_left n one.0 one.1 (row_out p k i n was.0 was.1 is), one.2);
    once = λ p q i j n one two made made' is is'. sound.attached.once p q i j n one two (before p one made).0 (before q two made').0 is is';
  }

  -- what an entry names is there still
  module _ (p : ℕ) (k : LoadedUser) (made : slice_get old.users p ≡ Some (Some k)) (out : In p ≡ false) where
    call_now : (t : Target) → IsCall old.users (first_id + p) t → IsCall new.users (first_id + p) t
    call_now t call = go (t.file == 1) refl
      where
        go : (b : Bool) → (t.file == 1) ≡ b → IsCall new.users (first_id + p) t
        go true own =
            let named : Some (first_id + p) ≡ Some call.other = rw own at call.named in
            let other : first_id + p ≡ call.other = same_Some (first_id + p) call.other named in
            record {
              other = call.other;
              named = rw own named;
              kept = call.kept;
              made = user_left call.other call.kept call.made (ap (is_in ids) (sym other) ∙ out);
              head = call.head;
              head' = call.head';
              dynamic = call.dynamic;
              loaded = call.loaded;
            }
        go false far =
            let named : attached_at (kept_outlines old.users) (first_id + p) t.file ≡ Some call.other = rw far at call.named in
            let row : slice_get k.attached (t.file - 2) ≡ Some call.other = sym (is_row p k t.file made) ∙ named in
            record {
              other = call.other;
              named = rw far (is_row_now p k t.file made out ∙ row);
              kept = call.kept;
              made = user_left call.other call.kept call.made (row_out p k (t.file - 2) call.other made out row);
              head = call.head;
              head' = call.head';
              dynamic = call.dynamic;
              loaded = call.loaded;
            }

    far_now : (t : Target) → LeadsFar old.users (first_id + p) t → LeadsFar new.users (first_id + p) t
    far_now t far =
        let row : slice_get k.attached (t.file - 2) ≡ Some far.other = sym (is_row p k t.file made) ∙ far.named in
        record {
          other = far.other;
          named = is_row_now p k t.file made out ∙ row;
          kept = far.kept;
          made = user_left far.other far.kept far.made (row_out p k (t.file - 2) far.other made out row);
          head = far.head;
          head' = far.head';
          inside = far.inside;
        }

    -- attached segments are where they were
    far_same : (f n : ℕ) → far_of new.memory.slots (kept_outlines new.users) (first_id + p) f n ≡ far_of old.memory.slots (kept_outlines old.users) (first_id + p) f n
    far_same f n = rw (is_row_now p k f made out, is_row p k f made) (go (slice_get k.attached (f - 2)) refl)
      where
        other : (m : ℕ) → slice_get k.attached (f - 2) ≡ Some m
            → active_at (presence_at new.memory.slots (handles_in (kept_outlines new.users) m) n) ≡ active_at (presence_at old.memory.slots (handles_in (kept_outlines old.users) m) n)
        other m is =
            let one = sound.attached.each p (f - 2) m k made is in
            let there = made_at old.users m one.0 one.1 in
            let out' = row_out p k (f - 2) m made out is in
            let its : handles_in (kept_outlines new.users) m ≡ one.0.handles = rw (user_is outline new.users m, user_left m one.0 one.1 out') refl in
            let was : handles_in (kept_outlines old.users) m ≡ one.0.handles = rw (user_is outline old.users m, one.1) refl in
            rw (its, was) (ap active_at (presence_same (m - first_id) one.0 there.0 (ap (is_in ids) there.1 ∙ out') n (handle_at one.0.handles n) refl))

        go : (o : Option ℕ) → slice_get k.attached (f - 2) ≡ o
            → option_and_then (λ (m : ℕ). active_at (presence_at new.memory.slots (handles_in (kept_outlines new.users) m) n)) o
            ≡ option_and_then (λ (m : ℕ). active_at (presence_at old.memory.slots (handles_in (kept_outlines old.users) m) n)) o
        go None e = refl
        go (Some m) e = other m e

  calls_now : (p n k : ℕ) (g : SegmentHead) (j : Handle) → Has new.users p n g j → is_table g ≡ true → IsSome (there_at (presence new.memory.slots (Some j))) → k < entry_count g.length
      → IsCall new.users (first_id + p) (target_at (bytes_at new.memory j.slot) k)
  calls_now p n k g j has table there inside =
      let was = has_before p n g j has in
      let there' : IsSome (there_at (presence old.memory.slots (Some j))) = subst (λ (o : Option Block). IsSome (there_at (lies_in j o))) (live_before p n g j was.0 was.1) there in
      subst (λ (bs : List ℕ). IsCall new.users (first_id + p) (target_at bs k)) (sym (bytes_same j there))
      (call_now p was.0.kept was.0.made was.1 (target_at (bytes_at old.memory j.slot) k) (sound.calls p n k g j was.0 table there' inside))

  pub gone_sound : IsSound new.memory new.users
  gone_sound = record {
    few = omega (arith, sound.few, ap (λ (us : List (Option LoadedUser)). length us) gone, length_gone ids old.users);
    lengths = λ p k made. sound.lengths p k (before p k made).0;
    short = λ p k made. sound.short p k (before p k made).0;
    statics = statics_now;
    rests = rests_now;
    each = each_now;
    once = λ p q n m head second h k one two same. sound.once p q n m head second h k (has_before p n head h one).0 (has_before q m second k two).0 same;
    only = only_now;
    attached = attached_now;
    calls = calls_now;
  }

  module _ (held : FileMap) (state : Machine) (agrees : Agrees held old state) where
    still : (p : ℕ) (k : LoadedUser) (user : User) → slice_get old.users p ≡ Some (Some k) → In p ≡ false → UserAgrees held old.memory (far_in old (first_id + p)) (first_id + p) k user
        → UserAgrees held new.memory (far_in new (first_id + p)) (first_id + p) k user
    still p k user made out was = agrees_still held old.memory new.memory (far_in old (first_id + p)) (far_in new (first_id + p)) (first_id + p) k user was
        (λ n h found. let one = has_any old sound p k made n h found in Same (live_before p n one.0 h one.1 out) (bytes_same h))
        (λ f n above. far_same p k made out f n)

    entries_now : EntriesLead held new.users
    entries_now p number i k segments s t made holds is' table found above =
        let was = before p k made in
        far_now p k was.0 was.1 t (agrees.entries p number i k segments s t was.0 holds is' table found above)

    pub gone_agrees : Agrees held new (record { banks = state.banks; slots = without_users state.slots ids; users = without_all state.users ids })
    gone_agrees = record {
      banks = released'.bytes.banks ∙ agrees.banks;
      slots = released'.slots ∙ ap (λ (t : Slots). without_users t ids) agrees.slots;
      users = ap kept_outlines gone ∙ map_gone outline ids old.users ∙ ap (λ (os : List (Option Outline)). without_all os ids) agrees.users ∙ sym (map_gone outline_of ids state.users);
      attached = attached_now;
      entries = entries_now;
      each = λ p k user made made'.
          let was = before p k made in
          let user' = gone_now ids state.users p user made' in
          still p k user was.0 was.1 (agrees.each p k user was.0 user'.0);
    }

-- ---- a user with those that are attached to it

module _ (old new : Loaded) (id : ℕ) (sound : IsSound old.memory old.users) (did : HasDropped old id new) (top : (q f : ℕ) → attached_at (kept_outlines old.users) q f ≡ Some id → ⊥) where
  abbrev place : ℕ
  place = id - first_id

  abbrev kept : LoadedUser
  kept = did.kept

  abbrev its : List ℕ
  its = family id kept.attached

  its_users : (slice_get old.users place ≡ Some (Some kept)) × (first_id + place ≡ id)
  its_users = made_at old.users id kept did.made

  place_in : is_in its (first_id + place) ≡ true
  place_in = ap (is_in its) its_users.1 ∙ in_last kept.attached id

  its_high : (n : ℕ) → is_in its n ≡ true → first_id ≤ n
  its_high n inside = elim (in_either kept.attached id n inside) [
    | inl last ↦ omega (arith, last, its_users.1)
    | inr row ↦
        let one = sound.attached.each place row.0 n kept its_users.0 row.1 in
        omega (arith, (made_at old.users n one.0 one.1).1)
  ]

  -- a user that is left has none of them
  its_out : (p : ℕ) (k : LoadedUser) (i n : ℕ) → slice_get old.users p ≡ Some (Some k) → is_in its (first_id + p) ≡ false → slice_get k.attached i ≡ Some n → is_in its n ≡ false
  its_out p k i n made out is = elim (decide (is_in its n)) [
    | inr out' ↦ out'
    | inl inside ↦ elim (in_either kept.attached id n inside) [
      | inl last ↦
          let back : i + 2 - 2 ≡ i = omega arith in
          let row : attached_at (kept_outlines old.users) (first_id + p) (i + 2) ≡ slice_get k.attached (i + 2 - 2) = rw (user_is outline old.users (first_id + p), user_there old.users p k made) refl in
          absurd (top (first_id + p) (i + 2) (row ∙ ap (slice_get k.attached) back ∙ is ∙ ap (λ (m : ℕ). Some m) last))
      | inr row ↦
          (let both = sound.attached.once p place i row.0 n k kept made its_users.0 is row.1 in
          let clash : false ≡ true = sym out ∙ ap (λ (q : ℕ). is_in its (first_id + q)) both.0 ∙ place_in in absurd cc)
    ]
  ]

  pub dropped_sound : IsSound new.memory new.users
  dropped_sound = gone_sound old new its sound did.released did.users its_high its_out

  module _ (held : FileMap) (state : Machine) (agrees : Agrees held old state) where
    is : IsKept held old state agrees id kept
    is = kept_is held old state agrees id kept did.made

    abbrev next_of : List ℕ → Machine
    next_of ids = record { banks = state.banks; slots = without_users state.slots ids; users = without_all state.users ids }

    agrees_next : Agrees held new (dropped_state state id is.user)
    agrees_next = subst (λ (ns : List ℕ). Agrees held new (next_of (family id ns))) (ap (λ (o : Outline). o.attached) is.does_agree.same)
        (gone_agrees old new its sound did.released did.users its_high its_out held state agrees)

    pub drop_met : shut_down_refusal (is_attached (kept_outlines old.users) id) (seen_by old id) false ≡ None → Met RoomRule held state (ShutDown id false) Okay new
    drop_met passes = (
      dropped_state state id is.user,
      does held old state agrees id (λ seen. shut_down_refusal (is_attached (outlines state.users) id) seen false) Okay (dropped_state state id is.user) _
          (ap (λ (os : List (Option Outline)). shut_down_refusal (is_attached os id) (seen_by old id) false) (sym agrees.users) ∙ passes) is.user is.made (refl, refl),
      agrees_next,
    )

-- ---- as it is done

released_is : (old new : Memory) (id : ℕ) (handles : List Handle) → AreAllPlaced RoomRule old id true [] handles new → (new.slots ≡ without_user old.slots id) × KeepsBut old new []
released_is old new id [] all = (all.puts, all.kept)
released_is old new id (h ∷ handles) all = absurd all.puts

-- a slot that is released has no block
no_address : (generation : ℕ) → IsSome (address_in (released generation)) → ⊥
no_address generation = go (generation == 255)
  where
    go : (t : Bool) → IsSome (address_in (cond t (record { generation = generation; content = Retired }) (record { generation = generation + 1; content = Free }))) → ⊥
    go true some = let clash : false ≡ true = some in absurd cc
    go false some = let clash : false ≡ true = some in absurd cc

was_there : (slots : Slots) (id place : ℕ) → IsSome (address_in (slot_at (without_user slots id) place)) → IsSome (address_in (slot_at slots place))
was_there slots id place some = go (block_in (slot_at slots place)) refl (subst (λ (slot : Slot Block). IsSome (address_in slot)) (slot_is slots id place) some)
  where
    by_test : (b : Block) (t : Bool) → IsSome (address_in (cond t (released (slot_at slots place).generation) (slot_at slots place))) → IsSome (address_in (slot_at slots place))
    by_test b true there = absurd (no_address (slot_at slots place).generation there)
    by_test b false there = there

    go : (o : Option Block) → block_in (slot_at slots place) ≡ o → IsSome (address_in (without_user_in id (slot_at slots place))) → IsSome (address_in (slot_at slots place))
    go None is there = rw is at there
    go (Some b) is there = by_test b (b.user == id) (rw is at there)

more_released : (ids : List ℕ) (slots : Slots) (id : ℕ) → without_users slots (ids ++ id ∷ []) ≡ without_user (without_users slots ids) id
more_released [] slots id = refl
more_released (one ∷ ids) slots id = more_released ids (without_user slots one) id

pub released_none_yet : (memory : Memory) → AreReleased [] memory memory
released_none_yet memory = record { slots = refl; bytes = record { banks = refl; bytes = λ place apart there. refl } }

-- the handles of one user more are released
pub released_more : (ids : List ℕ) (id : ℕ) (old mid new : Memory) → AreReleased ids old mid → (handles : List Handle) × AreAllPlaced RoomRule mid id true [] handles new → AreReleased (ids ++ id ∷ []) old new
released_more ids id old mid new so_far (handles, all) =
    let is = released_is mid new id handles all in
    record {
      slots = is.0 ∙ ap (λ (t : Slots). without_user t id) so_far.slots ∙ sym (more_released ids old.slots id);
      bytes = record {
        banks = is.1.banks ∙ so_far.bytes.banks;
        bytes = λ place apart there.
            is.1.bytes place apart there ∙ so_far.bytes.bytes place apart (was_there mid.slots id place (subst (λ (t : Slots). IsSome (address_in (slot_at t place))) is.0 there));
      };
    }

pub has_dropped : (old last : Loaded) (id : ℕ) (k : LoadedUser) (middle : Memory) (users : List (Option LoadedUser)) → user_of old.users id ≡ Some k → AreReleased k.attached old.memory middle → users ≡ without_all old.users k.attached
    → (handles : List Handle) × AreAllPlaced RoomRule middle id true [] handles last.memory → last.users ≡ with_user users id None → HasDropped old id last
has_dropped old last id k middle users made released gone last_released last_gone = record {
  kept = k;
  made = made;
  released = released_more k.attached id old.memory middle last.memory released last_released;
  users = last_gone ∙ ap (λ (us : List (Option LoadedUser)). with_user us id None) gone ∙ sym (more_gone k.attached old.users id);
}

-- a user that isn't among the first ones is there still
module _ (users : List (Option LoadedUser)) (attached : AreAttached users) (id : ℕ) (k : LoadedUser) (made : user_of users id ≡ Some k) (count : ℕ) where
  of_take : (xs : List ℕ) (m n : ℕ) → is_in (take m xs) n ≡ true → (i : ℕ) × (i < m) × (slice_get xs i ≡ Some n)
  of_take [] zero n inside = absurd cc
  of_take [] (suc m) n inside = absurd cc
  of_take (x ∷ xs) zero n inside = absurd cc
  of_take (x ∷ xs) (suc m) n inside = elim (cases_eq x n) [
    | inl eq ↦ (0, omega arith, ap (λ (o : ℕ). Some o) eq)
    | inr ne ↦
        let test : (x == n) ≡ false = grind (arith, ne) in
        let later = of_take xs m n (rw test at inside) in
        (suc later.0, omega (arith, later.1), later.2)
  ]

  place_of : (slice_get users (id - first_id) ≡ Some (Some k)) × (first_id + (id - first_id) ≡ id)
  place_of = made_at users id k made

  left_there : (n : ℕ) (u : LoadedUser) → user_of users n ≡ Some u → ((i : ℕ) → i < count → slice_get k.attached i ≡ Some n → ⊥) → user_of (without_all users (take count k.attached)) n ≡ Some u
  left_there n u is none =
      let there = made_at users n u is in
      let its : slice_get (without_all users (take count k.attached)) (n - first_id) ≡ Some (Some u) = stays_there (take count k.attached) users (n - first_id) u
      (λ m inside. let row = of_take k.attached count m inside in let one = attached.each (id - first_id) row.0 m k place_of.0 row.2 in omega (arith, (made_at users m one.0 one.1).1)) there.0
      (elim (decide (is_in (take count k.attached) (first_id + (n - first_id)))) [
        | inr out ↦ out
        | inl inside ↦ (let row = of_take k.attached count (first_id + (n - first_id)) inside in absurd (none row.0 row.1 (row.2 ∙ ap (λ (m : ℕ). Some m) there.1)))
      ]) in
      subst (λ (m : ℕ). user_of (without_all users (take count k.attached)) m ≡ Some u) there.1 (user_there (without_all users (take count k.attached)) (n - first_id) u its)

  nothing : (i n : ℕ) → slice_get {X = ℕ} [] i ≡ Some n → ⊥
  nothing i n e = cc

  -- so is the user itself
  pub still_there : user_of (without_all users (take count k.attached)) id ≡ Some k
  still_there = left_there id k made (λ i less is.
      let one = attached.each (id - first_id) i id k place_of.0 is in
      let it : one.0 ≡ k = same_Some one.0 k (sym one.1 ∙ made) in
      nothing i id (ap (λ (ns : List ℕ). slice_get ns i) (sym (ap (λ (x : LoadedUser). x.attached) (sym it) ∙ one.2.alone)) ∙ is))

  -- and the next one
  pub next_there : (n : ℕ) → slice_get k.attached count ≡ Some n → (u : LoadedUser) × (user_of (without_all users (take count k.attached)) n ≡ Some u)
  next_there n is =
      let one = attached.each (id - first_id) count n k place_of.0 is in (
        one.0,
        left_there n one.0 one.1 (λ i less is'.
            let both = attached.once (id - first_id) (id - first_id) i count n k k place_of.0 place_of.0 is' is in
            omega (arith, both.1, less)),
      )
