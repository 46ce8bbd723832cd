-- A user that is restarted in place, as it is done.
use Rattle.std.proofs.Common.{◌≡◌, inl, inr, ℕ, zero, suc, Bool, true, false, cond, ◌==◌, ◌+◌, ◌-◌, ◌^◌, ◌<◌, ◌≤◌, List, [], ◌∷◌, length, map, get_or, Option, Some, None, IsSome, refl, sym, ap, subst, ◌∙◌, arith}
use Rattle.std.specs.Prelude.{slice_get, IsSomeAnd, option_map}
use Rattle.std.specs.Option.{option_map_or, option_and_then}
use Rattle.std.specs.List.{AllByRecursion}
use Rattle.std.proofs.lemmas.Bool.{and_parts, cases_eq}
use Rattle.std.proofs.lemmas.Option.{same_Some, slice_get_within, slice_get-get_or, slice_get-map}
use Rattle.std.proofs.lemmas.List.{length-map}
use Rattle.omf_format.specs.File.{Segment}
use Rattle.load_meaning.specs.declared.table.Target.{Target}
use Rattle.load_meaning.specs.LoadTable.{targets_of, target_at, entry_count}
use Rattle.iigs_meaning.specs.declared.handles.Handle.{Handle}
use Rattle.iigs_meaning.specs.declared.wants.Block.{Block}
use Rattle.iigs_meaning.specs.Slots.{get, slot_at}
use Rattle.iigs_meaning.specs.Fits.{Slots, block_in}
use Rattle.iigs_meaning.specs.Memory.{Memory, bytes_at}
use Rattle.loader_machine.specs.declared.faults.LoaderFault.{LoaderFault}
use Rattle.loader_machine.specs.declared.faults.LoaderFault.TheVariants as fault
use Rattle.loader_machine.specs.declared.seen.SegmentHead.{SegmentHead}
use Rattle.loader_machine.specs.declared.seen.Life.TheVariants.{Running, Dormant}
use Rattle.loader_machine.specs.declared.seen.Presence.{Presence}
use Rattle.loader_machine.specs.declared.seen.Presence.TheVariants.{Absent, Purged, Idle, Active}
use Rattle.loader_machine.specs.Heads.{head_of, at_number, is_static, is_table, entry_in}
use Rattle.loader_machine.specs.State.{UserSeen, first_id, user_of, with_user, with_all}
use Rattle.loader_machine.specs.Presences.{handle_at, presence, presence_at, there_at, is_there, is_active, active_at}
use Rattle.load_meaning.specs.Loadable.{IsLoadable}
use Rattle.loader_machine.specs.Refusals.{restart_refusal}
use Rattle.loader_machine.specs.Stands.{place_in, setting}
use Rattle.loader_machine.specs.laws.Words.{no_far_segment, target_with}
use Rattle.loader_machine.specs.Steps.{active_block, changed_all, static_handles, is_read_again, lost_refusal}
use Rattle.loader_agrees.specs.Agrees.{LoadedUser, Loaded, outline, IsCall, Has, IsSound}
use Rattle.loader_agrees.specs.laws.Begun.{decide}
use Rattle.loader_agrees.specs.laws.EntryReads.{its_call}
use Rattle.loader_agrees.specs.laws.Lists.{number_map}
use Rattle.loader_agrees.specs.laws.Reads.{headed, head_at}
use Rattle.loader_agrees.specs.laws.Rows.{IsReached, all_reached}
use Rattle.loader_agrees.specs.laws.Seeing.{made_at, user_is}
use Rattle.sys_loader.specs.declared.answers.Started.{Started}
use Rattle.loader_users.specs.declared.user.UserSegment as users
use Rattle.loader_users.specs.declared.user.User.{User}
use Rattle.loader_users.specs.View.{kept}
use Rattle.loader_users.specs.Users.{with_life}
use Rattle.loader_users.specs.Filling.{IsSetting, AreReady, AreFilled}
use Rattle.sys_loader.specs.Restarting.{is_whole, AreReread, HasResumed, AreActivated, static_handle, again_handle}
use Rattle.loader_users.specs.Users.{heads_in, kept_heads}
use Rattle.loader_users.proofs.Written.{heads_of, handles_of}
use Rattle.loader_users.proofs.Settling.{addresses, address_is}
use Rattle.sys_loader.proofs.Resuming.{IsQuiet, there_all, number_suc}
use Rattle.loader_users.proofs.Leads.{at_most}
use Rattle.sys_loader.proofs.Static.{live_of, same_changed}

-- ---- the refusal

-- an attached user is refused as if there were none
pub restart_attached : (attached : Bool) (user : Option UserSeen) (why : LoaderFault) → why ≡ fault.NoUser → attached ≡ true → restart_refusal attached user ≡ Some why
unfolding restart_refusal
restart_attached attached None why is own = ap (λ (f : LoaderFault). Some f) (sym is)
restart_attached attached (Some seen) why is own = rw own (ap (λ (f : LoaderFault). Some f) (sym is))

pub restart_none : (attached : Bool) (user : Option UserSeen) → user ≡ None → restart_refusal attached user ≡ Some fault.NoUser
unfolding restart_refusal
restart_none attached user is = rw is refl

pub restart_runs : (attached : Bool) (user : Option UserSeen) (seen : UserSeen) → attached ≡ false → user ≡ Some seen → seen.life ≡ Running → restart_refusal attached user ≡ Some fault.Running
unfolding restart_refusal
restart_runs attached user seen own is runs = rw (is, own, runs) refl

pub restart_rests : (attached : Bool) (user : Option UserSeen) (seen : UserSeen) → attached ≡ false → user ≡ Some seen → seen.life ≡ Dormant → restart_refusal attached user ≡ None
unfolding restart_refusal
restart_rests attached user seen own is rests = rw (is, own, rests) refl

-- one that passes is attached to no user
pub restart_alone : (attached : Bool) (user : Option UserSeen) → restart_refusal attached user ≡ None → attached ≡ false
unfolding restart_refusal
restart_alone true None none = absurd cc
restart_alone true (Some seen) none = absurd cc
restart_alone false user none = refl

-- ---- it runs

pub quiet_same : (memory : Memory) → IsQuiet memory memory
quiet_same memory = record { banks = refl; slots = refl; sizes = λ slot. refl }

pub has_resumed : (old : Memory) (users' : List (Option LoadedUser)) (id : ℕ) (k : LoadedUser) (items : List users.UserSegment) (started : Started) (new : Loaded) → heads_of items ≡ k.heads → handles_of items ≡ k.handles → started.user ≡ id
    → AreActivated (map static_handle items) old new.memory → new.users ≡ with_all (with_life Running) (with_user users' id (Some (record k { life = Running }))) k.attached
    → started.entry ≡ entry_in (heads_of items) (place_in new.memory.slots (handles_of items)) 1 → HasResumed old users' id k started new
has_resumed old users' id k items started new heads handles user activated runs entry = record {
  user = user;
  slots = activated.slots ∙ same_changed active_block old.slots items
      ∙ ap (λ (gs : List SegmentHead). changed_all active_block old.slots (static_handles gs (handles_of items) 1)) heads
      ∙ ap (λ (hs : List (Option Handle)). changed_all active_block old.slots (static_handles k.heads hs 1)) handles;
  bytes = activated.bytes;
  users' = runs;
  entry = entry ∙ ap (λ (gs : List SegmentHead). entry_in gs (place_in new.memory.slots (handles_of items)) 1) heads ∙ ap (λ (hs : List (Option Handle)). entry_in k.heads (place_in new.memory.slots hs) 1) handles;
}

-- ---- bytes that are written

-- a loader is sound still where nothing but bytes changes, and each entry of a table leads to a segment
pub quiet_sound : (old new : Memory) (users' : List (Option LoadedUser)) → IsSound old users' → IsQuiet old new
    → ((p n k : ℕ) (g : SegmentHead) (j : Handle) → Has users' p n g j → is_table g ≡ true → IsSome (there_at (presence old.slots (Some j))) → k < entry_count g.length
    → IsCall users' (first_id + p) (target_at (bytes_at new j.slot) k)) → IsSound new users'
quiet_sound old new users' sound quiet calls = record {
  few = sound.few;
  lengths = sound.lengths;
  short = sound.short;
  statics = λ p k n head made runs found static. ap (λ (t : Slots). is_active (presence_at t k.handles n)) quiet.slots ∙ sound.statics p k n head made runs found static;
  rests = λ p k n made life. ap (λ (t : Slots). is_active (presence_at t k.handles n)) quiet.slots ∙ sound.rests p k n made life;
  each = λ p n head h has.
      let of' = sound.each p n head h has in
      record {
        block = of'.block;
        live = ap (λ (t : Slots). get t h) quiet.slots ∙ of'.live;
        user = of'.user;
        fixed = of'.fixed;
        form = of'.form;
        want = of'.want;
        room = λ there. omega (arith, of'.room there, quiet.sizes h.slot);
      };
  once = sound.once;
  only = λ slot b found user. sound.only slot b (sym (ap (λ (t : Slots). block_in (slot_at t slot)) quiet.slots) ∙ found) user;
  attached = sound.attached;
  calls = λ p n k g j has table there inside. calls p n k g j has table (subst (λ (t : Slots). IsSome (there_at (presence t (Some j)))) quiet.slots there) inside;
}

-- so they do where a user's segments are read again from the file that was loaded
module _ (old middle : Memory) (users' : List (Option LoadedUser)) (id : ℕ) (kept : LoadedUser) (sound : IsSound old users') (made : user_of users' id ≡ Some kept) (file : List ℕ) (segments : List Segment)
    (taken : IsLoadable file segments) (heads : map head_of segments ≡ kept.heads) (none : lost_refusal (kept_heads users' kept.attached) segments ≡ None) (reread : AreReread segments id kept old middle) where
  its_place : (slice_get users' (id - first_id) ≡ Some (Some kept)) × (first_id + (id - first_id) ≡ id)
  its_place = made_at users' id kept made

  one_kept : (a b : LoadedUser) → Some (Some a) ≡ Some (Some b) → a ≡ b
  one_kept a b e = cc

  -- an entry for another file leads to an attached user
  far_call : (t : Target) → 2 ≤ t.file → IsReached (kept_heads users' kept.attached) t → IsCall users' id t × (t.file < 2 ^ 16) × (t.segment < 2 ^ 16)
  far_call t above reached = go (slice_get kept.attached (t.file - 2)) refl (sym (slice_get-map (heads_in users') kept.attached (t.file - 2)) ∙ reached.row)
    where
      heads_are : (m : ℕ) (u : LoadedUser) → user_of users' m ≡ Some u → heads_in users' m ≡ reached.heads → u.heads ≡ reached.heads
      heads_are m u is' e' = sym (ap (λ (o : Option LoadedUser). option_map_or (λ (k : LoadedUser). k.heads) o []) is') ∙ e'

      go : (o : Option ℕ) → slice_get kept.attached (t.file - 2) ≡ o → option_map (heads_in users') o ≡ Some reached.heads → IsCall users' id t × (t.file < 2 ^ 16) × (t.segment < 2 ^ 16)
      go None e is = absurd cc
      go (Some m) e is =
          let one = sound.attached.each (id - first_id) (t.file - 2) m kept its_place.0 e in
          let there = made_at users' m one.0 one.1 in
          let head' : at_number one.0.heads t.segment ≡ Some reached.head = ap (λ (hs : List SegmentHead). at_number hs t.segment) (heads_are m one.0 one.1 (same_Some (heads_in users' m) reached.heads is)) ∙ reached.head' in
          let kind = one.2.dynamic t.segment reached.head head' in
          let within = slice_get_within kept.attached (t.file - 2) m e in
          let other : (t.file == 1) ≡ false = grind arith in (
            record {
              other = m;
              named = rw other (rw (user_is outline users' id, made) e);
              kept = one.0;
              made = one.1;
              head = reached.head;
              head' = head';
              dynamic = kind.0;
              loaded = kind.1;
            },
            omega (arith, within, above, sound.attached.few (id - first_id) kept its_place.0),
            omega (arith, at_most one.0.heads t.segment reached.head head', sound.short (m - first_id) one.0 there.0),
          )

  -- a segment that is read again
  again_call : (p n k : ℕ) (g : SegmentHead) (j : Handle) → Has users' p n g j → is_table g ≡ true → k < entry_count g.length → p ≡ id - first_id → is_read_again g ≡ true
      → IsCall users' (first_id + p) (target_at (bytes_at middle j.slot) k)
  again_call p n k g j has table inside here again =
      let same : has.kept ≡ kept = one_kept has.kept kept (sym has.made ∙ ap (slice_get users') here ∙ its_place.0) in
      let head : at_number (map head_of segments) n ≡ Some g = ap (λ (hs : List SegmentHead). at_number hs n) heads ∙ ap (λ (x : LoadedUser). at_number x.heads n) (sym same) ∙ has.head' in
      let handle : handle_at kept.handles n ≡ Some j = ap (λ (x : LoadedUser). handle_at x.handles n) (sym same) ∙ has.handle in
      let s = headed segments n g head in
      let short : length segments < 2 ^ 16 = omega (arith, sound.short (id - first_id) kept its_place.0, ap length heads, length-map segments head_of) in
      let front = reread.begins n s.0 j s.1 (ap is_read_again s.2 ∙ again) handle in
      subst (λ (q : ℕ). IsCall users' q (target_at (bytes_at middle j.slot) k)) (omega (arith, its_place.1, here))
      (its_call file segments taken short users' id kept made (sym heads) (setting id old.slots kept.handles) n k s.0 (bytes_at middle j.slot) s.1 (ap is_table s.2 ∙ table) front
      (omega (arith, inside, ap (λ (x : SegmentHead). entry_count x.length) s.2))
      (λ t found above. far_call t above (all_reached file segments (kept_heads users' kept.attached) taken none n k s.0 t s.1 (ap is_table s.2 ∙ table) found above)))

  -- and any other
  plain_call : (p n k : ℕ) (g : SegmentHead) (j : Handle) → Has users' p n g j → is_table g ≡ true → IsSome (there_at (presence old.slots (Some j))) → k < entry_count g.length
      → (p ≡ id - first_id → is_read_again g ≡ false) → IsCall users' (first_id + p) (target_at (bytes_at middle j.slot) k)
  plain_call p n k g j has table there inside plain =
      let stays = reread.stay j.slot (λ m f i found again fhandle same.
      let other : Has users' (id - first_id) m f i = record { kept = kept; made = its_place.0; head' = found; handle = fhandle } in
      let both = sound.once (id - first_id) p m n f g i j other has same in
      let user : has.kept ≡ kept = one_kept has.kept kept (sym has.made ∙ ap (slice_get users') (sym both.0) ∙ its_place.0) in
      let heads' : Some g ≡ Some f = sym has.head' ∙ ap (λ (x : LoadedUser). at_number x.heads n) user ∙ ap (at_number kept.heads) (sym both.1) ∙ found in
      let clash : true ≡ false = sym again ∙ ap is_read_again (sym (same_Some g f heads')) ∙ plain (sym both.0) in absurd cc) in
      subst (λ (bs : List ℕ). IsCall users' (first_id + p) (target_at bs k)) (sym stays) (sound.calls p n k g j has table there inside)

  pub reread_calls : (p n k : ℕ) (g : SegmentHead) (j : Handle) → Has users' p n g j → is_table g ≡ true → IsSome (there_at (presence old.slots (Some j))) → k < entry_count g.length
      → IsCall users' (first_id + p) (target_at (bytes_at middle j.slot) k)
  reread_calls p n k g j has table there inside = elim (cases_eq p (id - first_id)) [
    | inl here ↦ elim (decide (is_read_again g)) [
      | inl again ↦ again_call p n k g j has table inside here again
      | inr plain ↦ plain_call p n k g j has table there inside (λ e. plain)
    ]
    | inr other ↦ plain_call p n k g j has table there inside (λ e. absurd (other e))
  ]

-- ---- the segments that are read again

again_some : (s : users.UserSegment) (h : Handle) → again_handle s ≡ Some h → (is_read_again s.head ≡ true) × (s.handle ≡ Some h)
again_some s h is = go (is_read_again s.head) refl is
  where
    go : (b : Bool) → is_read_again s.head ≡ b → cond b s.handle None ≡ Some h → (is_read_again s.head ≡ true) × (s.handle ≡ Some h)
    go true e found = (e, found)
    go false e found = absurd cc

pub again_here : (segments : List users.UserSegment) (k : ℕ) (s : users.UserSegment) → k < length segments → s ≡ get_or segments k s → handle_at (map again_handle segments) (k + 1) ≡ again_handle s
again_here segments k s inside is =
    let more : k + 1 ≡ suc k = omega arith in
    ap (handle_at (map again_handle segments)) more ∙ ap (option_and_then (λ (o : Option Handle). o)) (number_map again_handle segments (suc k)
    ∙ ap (option_map again_handle) (slice_get-get_or segments k s inside)) ∙ ap again_handle (sym is)

-- a handle among them is that of such a segment
abbrev IsAgain : List users.UserSegment → ℕ → Handle → Type 0
IsAgain items n h = (head : SegmentHead) × (at_number (heads_of items) n ≡ Some head) × (is_read_again head ≡ true) × (handle_at (handles_of items) n ≡ Some h)

again_of : (items : List users.UserSegment) (n : ℕ) (h : Handle) → handle_at (map again_handle items) n ≡ Some h → IsAgain items n h
again_of items zero h is = absurd cc
again_of items (suc k) h is = go items k is
  where
    go : (xs : List users.UserSegment) (i : ℕ) → option_and_then (λ (o : Option Handle). o) (slice_get (map again_handle xs) i) ≡ Some h → IsAgain xs (suc i) h
    go [] i e = absurd cc
    go (x ∷ xs) zero e = let its = again_some x h e in (x.head, refl, its.0, its.1)
    go (x ∷ xs) (suc i) e = go xs i e

-- and such a segment's handle is among them
again_at : (items : List users.UserSegment) (n : ℕ) (head : SegmentHead) (h : Handle) → at_number (heads_of items) n ≡ Some head → is_read_again head ≡ true → handle_at (handles_of items) n ≡ Some h
    → handle_at (map again_handle items) n ≡ Some h
again_at items zero head h found again has = absurd cc
again_at items (suc k) head h found again has = go items k found has
  where
    go : (xs : List users.UserSegment) (i : ℕ) → slice_get (heads_of xs) i ≡ Some head → option_and_then (λ (o : Option Handle). o) (slice_get (handles_of xs) i) ≡ Some h
        → option_and_then (λ (o : Option Handle). o) (slice_get (map again_handle xs) i) ≡ Some h
    go [] i e e' = absurd cc
    go (x ∷ xs) zero e e' = ap (λ (b : Bool). cond b x.handle None) (ap is_read_again (same_Some x.head head e) ∙ again) ∙ e'
    go (x ∷ xs) (suc i) e e' = go xs i e e'

module _ (old : Loaded) (id : ℕ) (user : User) (sound : IsSound old.memory old.users) (made : user_of old.users id ≡ Some (kept user)) where
  abbrev place : ℕ
  place = id - first_id

  abbrev items : List users.UserSegment
  items = user.segments.items

  its_users : (slice_get old.users place ≡ Some (Some (kept user))) × (first_id + place ≡ id)
  its_users = made_at old.users id (kept user) made

  own : (n : ℕ) (head : SegmentHead) (h : Handle) → at_number (heads_of items) n ≡ Some head → handle_at (handles_of items) n ≡ Some h → Has old.users place n head h
  own n head h found has = record { kept = kept user; made = its_users.0; head' = found; handle = has }

  pub its_short : length items < 2 ^ 16
  its_short = omega (arith, sound.short place (kept user) its_users.0, length-map items (λ (s : users.UserSegment). s.head))

  pub again_ready : is_whole old (kept user) ≡ true → AreReady old.memory (heads_of items) (map again_handle items)
  again_ready whole = record {
    each = λ n head h found has.
        let its = again_of items n h has in
        let same : its.0 ≡ head = same_Some its.0 head (sym its.1 ∙ found) in
        let static : is_static head ≡ true = ap is_static (sym same) ∙ (and_parts (is_static its.0) _ its.2).0 in
        let at = number_suc (heads_of items) n head found in
        let there : is_there (presence old.memory.slots (Some h)) ≡ true =
        ap (λ (o : Option Handle). is_there (presence old.memory.slots o)) (sym (ap (handle_at (handles_of items)) (sym at.1) ∙ its.3))
        ∙ there_all old.memory.slots (heads_of items) (handles_of items) 1 at.0 head whole at.2 static in
        let live = live_of old.memory.slots h there in
        let of' = sound.each place n head h (own n head h found its.3) in
        let block : of'.block ≡ live.0 = same_Some of'.block live.0 (sym of'.live ∙ live.1) in
        record {
          there = subst (λ (o : Option Block). IsSomeAnd o (λ b. IsSome b.at)) (sym live.1) live.2;
          fits = of'.room (subst (λ (b : Block). IsSome b.at) (sym block) live.2);
        };
    once = λ m n h k found found' same.
        let one = again_of items m h found in
        let two = again_of items n k found' in
        (sound.once place place m n one.0 two.0 h k (own m one.0 h one.1 one.3) (own n two.0 k two.1 two.3) same).1;
  }

  -- no segment of a dormant user is active
  none_active : user.life ≡ Dormant → (n : ℕ) → active_at (presence_at old.memory.slots (handles_of items) n) ≡ None
  none_active rests n = by_place (presence_at old.memory.slots (handles_of items) n) (sound.rests place (kept user) n its_users.0 rests)
    where
      by_place : (p : Presence) → is_active p ≡ false → active_at p ≡ None
      by_place Absent e = refl
      by_place (Purged h) e = refl
      by_place (Idle h a) e = refl
      by_place (Active h a) e = absurd cc

  no_target : user.life ≡ Dormant → (file n : ℕ) → target_with no_far_segment old.memory.slots (handles_of items) file n ≡ None
  no_target rests file n = go (file == 1) (none_active rests n)
    where
      go : (b : Bool) → active_at (presence_at old.memory.slots (handles_of items) n) ≡ None → cond b (active_at (presence_at old.memory.slots (handles_of items) n)) None ≡ None
      go true e = e
      go false e = refl

  no_targets : user.life ≡ Dormant → (ts : List Target) → AllByRecursion (λ (t : Target). target_with no_far_segment old.memory.slots (handles_of items) t.file t.segment ≡ None) ts
  no_targets rests [] = tt
  no_targets rests (t ∷ ts) = (no_target rests t.file t.segment, no_targets rests ts)

  its_setting : user.life ≡ Dormant → (segments : List Segment) → IsSetting segments id (addresses old.memory.slots items) (setting id old.memory.slots (handles_of items))
  its_setting rests segments = record {
    id = refl;
    place = λ n. address_is old.memory.slots items n;
    targets = λ number s is table. no_targets rests (targets_of s);
  }

  pub has_reread : user.life ≡ Dormant → (segments : List Segment) → map head_of segments ≡ heads_of items → (middle : Memory)
      → AreFilled segments (map again_handle items) id (addresses old.memory.slots items) old.memory middle (length items) → AreReread segments id (kept user) old.memory middle
  has_reread rests segments same middle filled = record {
    banks = filled.banks;
    slots = filled.slots;
    begins = λ n s h there again has.
        let found : at_number (heads_of items) n ≡ Some (head_of s) = ap (λ (gs : List SegmentHead). at_number gs n) (sym same) ∙ head_at segments n s there in
        filled.filled n h (omega (arith, at_most (heads_of items) n (head_of s) found, length-map items (λ (x : users.UserSegment). x.head))) (again_at items n (head_of s) h found again has)
        (setting id old.memory.slots (handles_of items)) s (its_setting rests segments) there;
    stay = λ slot apart. filled.stay slot (λ n h le is at. let its = again_of items n h is in apart n its.0 h its.1 its.2 its.3 at);
    sizes = filled.sizes;
  }
