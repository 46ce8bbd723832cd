-- A user that is kept dormant, with those that are attached to it.
use Rattle.std.proofs.Common.{◌≡◌, ◌≢◌, ◌⊎◌, inl, inr, ℕ, Bool, true, false, ◌+◌, ◌-◌, ◌<◌, ◌≤◌, List, [], length, Option, Some, None, IsSome, refl, sym, ap, subst, ◌∙◌, arith}
use Rattle.std.specs.Prelude.{slice_get, unwrap_or, Contains}
use Rattle.std.specs.Option.{option_and_then}
use Rattle.std.proofs.lemmas.Bool.{cases_eq}
use Rattle.std.proofs.lemmas.Option.{same_Some}
use Rattle.omf_format.specs.File.{Segment, segment_at}
use Rattle.omf_io.specs.Files.{FileMap}
use Rattle.load_meaning.specs.declared.table.Target.{Target}
use Rattle.load_meaning.specs.LoadTable as load
use Rattle.load_meaning.specs.LoadTable.{target_at, entry_count}
use Rattle.iigs_meaning.specs.declared.handles.Handle.{Handle}
use Rattle.iigs_meaning.specs.declared.wants.Block.{Block}
use Rattle.iigs_meaning.specs.Slots.{slot_at, get}
use Rattle.iigs_meaning.specs.Fits.{Slots, block_in}
use Rattle.loader_machine.specs.Rule.{RoomRule}
use Rattle.iigs_meaning.specs.Memory.{Memory, bytes_at}
use Rattle.loader_machine.specs.declared.faults.LoaderFault.{LoaderFault}
use Rattle.loader_machine.specs.declared.faults.LoaderFault.TheVariants.{NoUser}
use Rattle.loader_machine.specs.declared.seen.SegmentHead.{SegmentHead}
use Rattle.loader_machine.specs.declared.seen.Life.TheVariants.{Running, Dormant}
use Rattle.loader_machine.specs.declared.seen.Presence.{Presence}
use Rattle.loader_machine.specs.declared.seen.Presence.TheVariants.{Absent, Purged, Idle, Active}
use Rattle.loader_machine.specs.Heads.{head_of, at_number, is_static, is_table}
use Rattle.loader_machine.specs.State.{User, Machine, UserSeen, Outline, outline_of, outlines, first_id, user_of, handles_in, with_all, attached_at, is_attached}
use Rattle.loader_machine.specs.laws.Words.{family, handles_of_all, kept_state}
use Rattle.loader_machine.specs.laws.Words as words
use Rattle.loader_machine.specs.Presences.{handle_at, presence, presence_at, there_at, active_at, is_active, lies_in, lies_at}
use Rattle.loader_machine.specs.Stands.{setting_with, far_of}
use Rattle.loader_machine.specs.Refusals.{shut_down_refusal}
use Rattle.loader_machine.specs.Commands.{Okay, ShutDown}
use Rattle.loader_machine.specs.Steps.{changed_all, let_go}
use Rattle.loader_agrees.specs.Agrees.{LoadedUser, Loaded, outline, kept_outlines, seen_by, IsJoined, AreAttached, IsCall, UserAgrees, Agrees, IsOf, Has, IsSound, Met}
use Rattle.loader_agrees.specs.laws.Words.{far_in}
use Rattle.loader_agrees.specs.laws.Begun.{decide}
use Rattle.loader_agrees.specs.Checks.{PassesRunning, StopsRunning}
use Rattle.loader_agrees.specs.laws.RowUsers.{user_there}
use Rattle.loader_agrees.specs.laws.Frame.{Same, agrees_still}
use Rattle.loader_agrees.specs.laws.Reads.{head_at}
use Rattle.loader_agrees.specs.laws.Seeing.{made_at, user_is, IsKept, kept_is, does, has_any}
use Rattle.loader_agrees.specs.laws.Stay.{is_there}
use Rattle.loader_users.specs.Renewing.{AreRenewed}
use Rattle.loader_users.proofs.Lead.{target_stays}
use Rattle.loader_users.specs.Users.{with_life}
use Rattle.sys_loader.specs.Lives.{AreIdled, HasKept}
use Rattle.loader_users.proofs.Shifting.{there_block}
use Rattle.sys_loader.proofs.Relived as relived
use Rattle.sys_loader.proofs.Together.{is_in, in_last, in_front, in_either, Was, with_all_get, among, from_among, map_all, length_all}
use Rattle.loader_users.proofs.Turned.{Becomes, Stays, Turns, Turned, turned_agrees}
use Rattle.loader_users.proofs.Leads.{at_most, entries_lead}
use Rattle.sys_loader.proofs.ChangedAll.{all_here, all_apart, all_in, let_go_again, let_go_at, let_go_user, let_go_movable, let_go_want, let_go_form, let_go_active_at}

none_in : (place : ℕ) → ¬ Contains {X = ℕ} [] place
none_in place found = omega (arith, found.1)

abbrev rests : LoadedUser → LoadedUser
rests = with_life Dormant

module _ (old new : Loaded) (id : ℕ) (sound : IsSound old.memory old.users) (did : HasKept old id new) (top : (q f : ℕ) → attached_at (kept_outlines old.users) q f ≡ Some id → ⊥) where
  abbrev place : ℕ
  place = id - first_id

  abbrev kept : LoadedUser
  kept = did.kept

  abbrev ids : List ℕ
  ids = family id kept.attached

  abbrev In : ℕ → Bool
  In p = is_in ids (first_id + p)

  its_users : (slice_get old.users place ≡ Some (Some kept)) × (first_id + place ≡ id)
  its_users = made_at old.users id kept did.made

  kept_one : (p : ℕ) (k : LoadedUser) → slice_get old.users p ≡ Some (Some k) → p ≡ place → k ≡ kept
  kept_one p k found eq = go k kept (sym found ∙ ap (slice_get old.users) eq ∙ its_users.0)
    where
      go : (a b : LoadedUser) → Some (Some a) ≡ Some (Some b) → a ≡ b
      go a b e = cc

  place_in : In place ≡ true
  place_in = ap (is_in ids) its_users.1 ∙ in_last kept.attached id

  slots_are : new.memory.slots ≡ changed_all let_go old.memory.slots (handles_of_all (kept_outlines old.users) ids)
  slots_are = did.idled.slots ∙ ap (λ (t : Slots). changed_all let_go t (handles_of_all (kept_outlines old.users) ids)) did.renewed.slots

  -- a user of the family is the user itself, or an attached one
  which : (p : ℕ) (k : LoadedUser) → slice_get old.users p ≡ Some (Some k) → In p ≡ true → ((p ≡ place) × (k ≡ kept)) ⊎ ((i : ℕ) × (slice_get kept.attached i ≡ Some (first_id + p)) × IsJoined kept.life k)
  which p k made inside = relived.which old.users sound.attached id kept did.made top ids (in_last kept.attached id) (in_front kept.attached id) (in_either kept.attached id) p k made inside

  users_now : (p : ℕ) (k : LoadedUser) → slice_get new.users p ≡ Some (Some k) → Was rests (relived.life_again Dormant) old.users ids p k
  users_now p k made = relived.users_now old.users new.users Dormant ids did.users p k made

  has_before : (p n : ℕ) (head : SegmentHead) (h : Handle) → Has new.users p n head h → Has old.users p n head h
  has_before p n head h has = relived.has_before old.users new.users Dormant ids did.users p n head h has

  user_then : (n : ℕ) (k : LoadedUser) → user_of old.users n ≡ Some k
      → (v : LoadedUser) × (user_of new.users n ≡ Some v) × (v.heads ≡ k.heads) × (v.attached ≡ k.attached) × (v.handles ≡ k.handles) × (((is_in ids n ≡ true) × (v ≡ rests k)) ⊎ ((is_in ids n ≡ false) × (v ≡ k)))
  user_then n k is = relived.user_then old.users new.users Dormant ids did.users n k is

  -- ---- blocks

  family_get : (p n : ℕ) (head : SegmentHead) (h : Handle) (b : Block) → Has old.users p n head h → In p ≡ true → get old.memory.slots h ≡ Some b → get new.memory.slots h ≡ Some (let_go b)
  family_get p n head h b has inside live =
      let i = among old.users ids (first_id + p) n has.kept h inside (user_there old.users p has.kept has.made) has.handle in
      ap (λ (t : Slots). get t h) slots_are ∙ all_here let_go let_go_again old.memory.slots (handles_of_all (kept_outlines old.users) ids) h b i.0 live i.1

  other_get : (p n : ℕ) (head : SegmentHead) (h : Handle) → Has old.users p n head h → In p ≡ false → get new.memory.slots h ≡ get old.memory.slots h
  other_get p n head h has outside = ap (λ (t : Slots). get t h) slots_are ∙ all_apart let_go let_go_again old.memory.slots (handles_of_all (kept_outlines old.users) ids) h (λ i k found same.
      let it = from_among old.users ids i k found in
      let there = made_at old.users it.0 it.1 it.4 in
      let one = has_any old sound (it.0 - first_id) it.1 there.0 it.2 k it.5 in
      let both = sound.once p (it.0 - first_id) n it.2 head one.0 h k has one.1 same in
      let its_id : first_id + p ≡ it.0 = omega (arith, both.0, there.1) in
      let clash : false ≡ true = sym outside ∙ ap (is_in ids) its_id ∙ it.3 in cc)

  -- ---- bytes

  bytes_middle : (h : Handle) → IsSome (there_at (presence new.memory.slots (Some h))) → bytes_at new.memory h.slot ≡ bytes_at did.middle h.slot
  bytes_middle h there = did.idled.bytes.bytes h.slot (none_in h.slot) (is_there new.memory h there)

  plain_bytes : (p n : ℕ) (g : SegmentHead) (k : Handle) → Has old.users p n g k → ((p ≡ place) → is_table g ≡ false) → bytes_at did.middle k.slot ≡ bytes_at old.memory k.slot
  plain_bytes p n g k has plain = did.renewed.stay k.slot (λ m f j le fhead fhandle table same.
      let other : Has old.users place m f j = record { kept = kept; made = its_users.0; head' = fhead; handle = fhandle } in
      let both = sound.once place p m n f g j k other has same in
      let kept_same : has.kept ≡ kept = kept_one p has.kept has.made (sym both.0) in
      let heads : Some g ≡ Some f = sym has.head' ∙ ap (λ (x : LoadedUser). at_number x.heads n) kept_same ∙ ap (at_number kept.heads) (sym both.1) ∙ fhead in
      let clash : true ≡ false = sym table ∙ ap is_table (sym (same_Some g f heads)) ∙ plain (sym both.0) in absurd cc)

  sizes : (h : Handle) → IsSome (there_at (presence new.memory.slots (Some h))) → length (bytes_at new.memory h.slot) ≡ length (bytes_at old.memory h.slot)
  sizes h there = ap length (bytes_middle h there) ∙ did.renewed.sizes h.slot

  room_now : (h : Handle) (b : Block) (size : ℕ) → get new.memory.slots h ≡ Some b → IsSome b.at → size ≤ length (bytes_at old.memory h.slot) → size ≤ length (bytes_at new.memory h.slot)
  room_now h b size live there room =
      let present : IsSome (there_at (presence new.memory.slots (Some h))) = subst (λ (o : Option Block). IsSome (there_at (lies_in h o))) (sym live) (there_block h b there) in
      omega (arith, room, sizes h present)

  by_in : (p : ℕ) → (In p ≡ true) ⊎ (In p ≡ false)
  by_in p = decide (In p)

  each_before : (p n : ℕ) (head : SegmentHead) (h : Handle) → Has old.users p n head h → IsOf new.memory (first_id + p) head h
  each_before p n head h has =
      let of' = sound.each p n head h has in
      elim (by_in p) [
        | inl inside ↦
            let live = family_get p n head h of'.block has inside of'.live in
            record {
              block = let_go of'.block;
              live = live;
              user = let_go_user of'.block ∙ of'.user;
              fixed = let_go_movable of'.block ∙ of'.fixed;
              form = let_go_form of'.block of'.form;
              want = omega (arith, of'.want, ap (λ w. w.size) (let_go_want of'.block));
              room = λ there. room_now h (let_go of'.block) head.length live there (of'.room (subst (λ (o : Option ℕ). IsSome o) (let_go_at of'.block) there));
            }
        | inr outside ↦
            let live = other_get p n head h has outside ∙ of'.live in
            record { block = of'.block; live = live; user = of'.user; fixed = of'.fixed; form = of'.form; want = of'.want; room = λ there. room_now h of'.block head.length live there (of'.room there) }
      ]

  -- ---- where the segments are

  lies_alike : (h : Handle) (at : Option ℕ) (one other : Bool) → there_at (lies_at h at one) ≡ there_at (lies_at h at other)
  lies_alike h None one other = refl
  lies_alike h (Some a) true true = refl
  lies_alike h (Some a) true false = refl
  lies_alike h (Some a) false true = refl
  lies_alike h (Some a) false false = refl

  module _ (p : ℕ) (k : LoadedUser) (made : slice_get old.users p ≡ Some (Some k)) where
    own : (n : ℕ) (h : Handle) → handle_at k.handles n ≡ Some h → (head : SegmentHead) × Has old.users p n head h
    own n h found = has_any old sound p k made n h found

    other_same : In p ≡ false → (n : ℕ) (o : Option Handle) → handle_at k.handles n ≡ o → presence new.memory.slots o ≡ presence old.memory.slots o
    other_same outside n None e = refl
    other_same outside n (Some h) e = let one = own n h e in ap (lies_in h) (other_get p n one.0 h one.1 outside)

    there_same : In p ≡ true → (n : ℕ) (o : Option Handle) → handle_at k.handles n ≡ o → there_at (presence new.memory.slots o) ≡ there_at (presence old.memory.slots o)
    there_same inside n None e = refl
    there_same inside n (Some h) e =
        let one = own n h e in
        let of' = sound.each p n one.0 h one.1 in
        ap (λ (o : Option Block). there_at (lies_in h o)) (family_get p n one.0 h of'.block one.1 inside of'.live)
        ∙ ap (λ (at : Option ℕ). there_at (lies_at h at (let_go of'.block).locked)) (let_go_at of'.block)
        ∙ lies_alike h of'.block.at (let_go of'.block).locked of'.block.locked
        ∙ sym (ap (λ (o : Option Block). there_at (lies_in h o)) of'.live)

    there_now : In p ≡ true → (n : ℕ) → there_at (presence_at new.memory.slots k.handles n) ≡ there_at (presence_at old.memory.slots k.handles n)
    there_now inside n = there_same inside n (handle_at k.handles n) refl

    none_active : In p ≡ true → (n : ℕ) (o : Option Handle) → handle_at k.handles n ≡ o → active_at (presence new.memory.slots o) ≡ None
    none_active inside n None e = refl
    none_active inside n (Some h) e =
        let one = own n h e in
        let of' = sound.each p n one.0 h one.1 in
        ap (λ (o : Option Block). active_at (lies_in h o)) (family_get p n one.0 h of'.block one.1 inside of'.live) ∙ let_go_active_at h of'.block

  by_place : (p : Presence) → active_at p ≡ None → is_active p ≡ false
  by_place Absent e = refl
  by_place (Purged h) e = refl
  by_place (Idle h a) e = refl
  by_place (Active h a) e = absurd cc

  -- ---- what is true of every loader

  attached_now : AreAttached new.users
  attached_now = relived.attached_now old.users new.users Dormant ids did.users sound.attached
      (relived.together old.users sound.attached id kept did.made top ids (in_last kept.attached id) (in_front kept.attached id) (in_either kept.attached id))

  has_now : (p n : ℕ) (head : SegmentHead) (h : Handle) → Has old.users p n head h → Has new.users p n head h
  has_now p n head h has = relived.has_now old.users new.users Dormant ids did.users p n head h has

  statics_now : (p : ℕ) (k : LoadedUser) (n : ℕ) (head : SegmentHead) → slice_get new.users p ≡ Some (Some k) → k.life ≡ Running → at_number k.heads n ≡ Some head → is_static head ≡ true
      → is_active (presence_at new.memory.slots k.handles n) ≡ true
  statics_now p k n head made runs found static = go (users_now p k made)
    where
      go : Was rests (relived.life_again Dormant) old.users ids p k → is_active (presence_at new.memory.slots k.handles n) ≡ true
      go w = elim w.is [
        | inl inside ↦ (let clash : Dormant ≡ Running = ap (λ (x : LoadedUser). x.life) (sym inside.1) ∙ runs in absurd cc)
        | inr outside ↦
            (let made' : slice_get old.users p ≡ Some (Some k) = w.made ∙ ap (λ (x : LoadedUser). Some (Some x)) (sym outside.1) in
            let before = sound.statics p k n head made' runs found static in
            ap is_active (other_same p k made' outside.0 n (handle_at k.handles n) refl) ∙ before)
      ]

  rests_now : (p : ℕ) (k : LoadedUser) (n : ℕ) → slice_get new.users p ≡ Some (Some k) → k.life ≡ Dormant → is_active (presence_at new.memory.slots k.handles n) ≡ false
  rests_now p k n made life = go (users_now p k made)
    where
      go : Was rests (relived.life_again Dormant) old.users ids p k → is_active (presence_at new.memory.slots k.handles n) ≡ false
      go w = elim w.is [
        | inl inside ↦
            ap (λ (x : LoadedUser). is_active (presence_at new.memory.slots x.handles n)) inside.1
            ∙ by_place (presence_at new.memory.slots w.was.handles n) (none_active p w.was w.made inside.0 n (handle_at w.was.handles n) refl)
        | inr outside ↦
            (let made' : slice_get old.users p ≡ Some (Some k) = w.made ∙ ap (λ (x : LoadedUser). Some (Some x)) (sym outside.1) in
            ap is_active (other_same p k made' outside.0 n (handle_at k.handles n) refl) ∙ sound.rests p k n made' life)
      ]

  only_now : (slot : ℕ) (b : Block) → block_in (slot_at new.memory.slots slot) ≡ Some b → b.user ≢ 0
      → (p : ℕ) × (n : ℕ) × (head : SegmentHead) × (h : Handle) × Has new.users p n head h × (h.slot ≡ slot)
  only_now slot b found user =
      let was = all_in let_go let_go_again let_go_user old.memory.slots (handles_of_all (kept_outlines old.users) ids) slot b (sym (ap (λ (t : Slots). block_in (slot_at t slot)) slots_are) ∙ found) in
      let it = sound.only slot was.0 was.1 (λ e. user (sym was.2 ∙ e)) in
      (it.0, it.1, it.2, it.3, has_now it.0 it.1 it.2 it.3 it.4, it.5)

  was_there : (p n : ℕ) (g : SegmentHead) (j : Handle) → Has old.users p n g j → IsSome (there_at (presence new.memory.slots (Some j))) → IsSome (there_at (presence old.memory.slots (Some j)))
  was_there p n g j has there = elim (by_in p) [
    | inl inside ↦
        (let same = there_same p has.kept has.made inside n (Some j) has.handle in subst (λ (o : Option ℕ). IsSome o) same there)
    | inr outside ↦ subst (λ (x : Presence). IsSome (there_at x)) (other_same p has.kept has.made outside n (Some j) has.handle) there
  ]

  calls_now : (p n k : ℕ) (g : SegmentHead) (j : Handle) → Has new.users p n g j → is_table g ≡ true → IsSome (there_at (presence new.memory.slots (Some j))) → k < entry_count g.length
      → IsCall new.users (first_id + p) (target_at (bytes_at new.memory j.slot) k)
  calls_now p n k g j has' table there inside =
      let has = has_before p n g j has' in
      let was = was_there p n g j has there in
      let before = relived.call_now old.users new.users Dormant ids did.users (first_id + p) (target_at (bytes_at old.memory j.slot) k) (sound.calls p n k g j has table was inside) in
      elim (cases_eq p place) [
        | inl eq ↦
            let user = kept_one p has.kept has.made eq in
            let ghead : at_number kept.heads n ≡ Some g = ap (λ (x : LoadedUser). at_number x.heads n) (sym user) ∙ has.head' in
            let ghandle : handle_at kept.handles n ≡ Some j = ap (λ (x : LoadedUser). handle_at x.handles n) (sym user) ∙ has.handle in
            let follows = did.renewed.follow n g j (at_most kept.heads n g ghead) ghead ghandle table was in
            let of' = sound.each p n g j has in
            let room = of'.room (block_at j of'.block of'.live was) in
            subst (λ (t : Target). IsCall new.users (first_id + p) t)
            (sym (ap (λ (bs : List ℕ). target_at bs k) (bytes_middle j there ∙ follows) ∙ target_stays None None k (entry_count g.length) (bytes_at old.memory j.slot) (omega (arith, inside, room))))
            before
        | inr ne ↦ subst (λ (bs : List ℕ). IsCall new.users (first_id + p) (target_at bs k)) (sym (bytes_middle j there ∙ plain_bytes p n g j has (λ e. absurd (ne e)))) before
      ]
    where
      block_at : (j : Handle) (b : Block) → get old.memory.slots j ≡ Some b → IsSome (there_at (presence old.memory.slots (Some j))) → IsSome b.at
      block_at j b live there = go b.at b.locked (subst (λ (o : Option Block). IsSome (there_at (lies_in j o))) live there)
        where
          go : (at : Option ℕ) (locked : Bool) → IsSome (there_at (lies_at j at locked)) → IsSome at
          go None locked e = absurd cc
          go (Some a) locked e = refl

  pub kept_sound : IsSound new.memory new.users
  kept_sound = record {
    few = omega (arith, sound.few, ap length did.users, length_all rests old.users ids);
    lengths = λ p k made. let w = relived.users_now old.users new.users Dormant ids did.users p k made in let same = relived.same_but old.users new.users Dormant ids did.users p k made in omega (arith, sound.lengths p w.was w.made, ap length same.0, ap length same.1);
    short = λ p k made. let w = relived.users_now old.users new.users Dormant ids did.users p k made in let same = relived.same_but old.users new.users Dormant ids did.users p k made in omega (arith, sound.short p w.was w.made, ap length same.1);
    statics = statics_now;
    rests = rests_now;
    each = λ p n head h has. each_before p n head h (has_before p n head h has);
    once = λ p q n m head second h k one two same. sound.once p q n m head second h k (has_before p n head h one) (has_before q m second k two) same;
    only = only_now;
    attached = attached_now;
    calls = calls_now;
  }

  -- ---- agreement

  -- no segment of the family is active
  far_none : (f n : ℕ) → far_of new.memory.slots (kept_outlines new.users) id f n ≡ None
  far_none f n = go (attached_at (kept_outlines new.users) id f) refl
    where
      its_new : (v : LoadedUser) × (user_of new.users id ≡ Some v) × (v.heads ≡ kept.heads) × (v.attached ≡ kept.attached) × (v.handles ≡ kept.handles) × (((is_in ids id ≡ true) × (v ≡ rests kept)) ⊎ ((is_in ids id ≡ false) × (v ≡ kept)))
      its_new = user_then id kept did.made

      row : (m : ℕ) → slice_get kept.attached (f - 2) ≡ Some m → active_at (presence_at new.memory.slots (handles_in (kept_outlines new.users) m) n) ≡ None
      row m is =
          let one = sound.attached.each place (f - 2) m kept its_users.0 is in
          let there = made_at old.users m one.0 one.1 in
          let now = user_then m one.0 one.1 in
          let same : now.0.handles ≡ one.0.handles = now.4 in
          let inside : In (m - first_id) ≡ true = ap (is_in ids) there.1 ∙ in_front kept.attached id (f - 2) m is in
          let its : handles_in (kept_outlines new.users) m ≡ one.0.handles = rw (user_is outline new.users m, now.1) same in
          ap (λ (hs : List (Option Handle)). active_at (presence_at new.memory.slots hs n)) its ∙ none_active (m - first_id) one.0 there.0 inside n (handle_at one.0.handles n) refl

      is_row : attached_at (kept_outlines new.users) id f ≡ slice_get kept.attached (f - 2)
      is_row = rw (user_is outline new.users id, its_new.1) (ap (λ (ns : List ℕ). slice_get ns (f - 2)) its_new.3)

      go : (o : Option ℕ) → attached_at (kept_outlines new.users) id f ≡ o → option_and_then (λ (other : ℕ). active_at (presence_at new.memory.slots (handles_in (kept_outlines new.users) other) n)) o ≡ None
      go None e = refl
      go (Some m) e = row m (sym is_row ∙ e)

  -- an attached user has none itself
  far_alone : (p : ℕ) (k : LoadedUser) → slice_get old.users p ≡ Some (Some k) → k.attached ≡ [] → (f n : ℕ) → far_of new.memory.slots (kept_outlines new.users) (first_id + p) f n ≡ None
  far_alone p k made alone f n =
      let now = user_then (first_id + p) k (user_there old.users p k made) in
      let row : attached_at (kept_outlines new.users) (first_id + p) f ≡ None = rw (user_is outline new.users (first_id + p), now.1) (ap (λ (ns : List ℕ). slice_get ns (f - 2)) (now.3 ∙ alone)) in
      rw row refl

  -- those of any other user are where they were
  far_other : (p : ℕ) (k : LoadedUser) → slice_get old.users p ≡ Some (Some k) → In p ≡ false → (f n : ℕ)
      → far_of new.memory.slots (kept_outlines new.users) (first_id + p) f n ≡ far_of old.memory.slots (kept_outlines old.users) (first_id + p) f n
  far_other p k made outside f n = rw (row_new, row_old) (go (slice_get k.attached (f - 2)) refl)
    where
      now : (v : LoadedUser) × (user_of new.users (first_id + p) ≡ Some v) × (v.heads ≡ k.heads) × (v.attached ≡ k.attached) × (v.handles ≡ k.handles) × (((is_in ids (first_id + p) ≡ true) × (v ≡ rests k)) ⊎ ((is_in ids (first_id + p) ≡ false) × (v ≡ k)))
      now = user_then (first_id + p) k (user_there old.users p k made)

      row_new : attached_at (kept_outlines new.users) (first_id + p) f ≡ slice_get k.attached (f - 2)
      row_new = rw (user_is outline new.users (first_id + p), now.1) (ap (λ (ns : List ℕ). slice_get ns (f - 2)) now.3)

      row_old : attached_at (kept_outlines old.users) (first_id + p) f ≡ slice_get k.attached (f - 2)
      row_old = rw (user_is outline old.users (first_id + p), user_there old.users p k made) refl

      back : f - 2 + 2 - 2 ≡ f - 2
      back = omega arith

      other : (m : ℕ) → slice_get k.attached (f - 2) ≡ Some m
          → active_at (presence_at new.memory.slots (handles_in (kept_outlines new.users) m) n) ≡ active_at (presence_at old.memory.slots (handles_in (kept_outlines old.users) m) n)
      other m is =
          let one = sound.attached.each p (f - 2) m k made is in
          let there = made_at old.users m one.0 one.1 in
          let then' = user_then m one.0 one.1 in
          let same : then'.0.handles ≡ one.0.handles = then'.4 in
          let its : handles_in (kept_outlines new.users) m ≡ one.0.handles = rw (user_is outline new.users m, then'.1) same in
          let was : handles_in (kept_outlines old.users) m ≡ one.0.handles = rw (user_is outline old.users m, one.1) refl in
          rw (its, was) (ap active_at (other_same (m - first_id) one.0 there.0 (out (m - first_id) m there.1 is) n (handle_at one.0.handles n) refl))
        where
          out : (q m : ℕ) → first_id + q ≡ m → slice_get k.attached (f - 2) ≡ Some m → In q ≡ false
          out q m at is = elim (by_in q) [
            | inr out' ↦ out'
            | inl within ↦ elim (in_either kept.attached id m (ap (is_in ids) (sym at) ∙ within)) [
              | inl last ↦ absurd (top (first_id + p) f (row_old ∙ is ∙ ap (λ (x : ℕ). Some x) last))
              | inr row ↦
                  (let both = sound.attached.once p place (f - 2) row.0 m k kept made its_users.0 is row.1 in
                  let clash : false ≡ true = sym outside ∙ ap In both.0 ∙ place_in in absurd cc)
            ]
          ]

      go : (o : Option ℕ) → slice_get k.attached (f - 2) ≡ o
          → option_and_then (λ (m : ℕ). active_at (presence_at new.memory.slots (handles_in (kept_outlines new.users) m) n)) o
          ≡ option_and_then (λ (m : ℕ). active_at (presence_at old.memory.slots (handles_in (kept_outlines old.users) m) n)) o
      go None e = refl
      go (Some m) e = other m e

  module _ (held : FileMap) (state : Machine) (agrees : Agrees held old state) where
    -- a user of the family agrees, dormant
    module _ (p : ℕ) (k : LoadedUser) (user : User) (made : slice_get old.users p ≡ Some (Some k)) (inside : In p ≡ true)
        (was : UserAgrees held old.memory (far_in old (first_id + p)) (first_id + p) k user) where
      heads_at : (n : ℕ) (s : Segment) → segment_at was.segments n ≡ Some s → at_number k.heads n ≡ Some (head_of s)
      heads_at n s found = ap (λ (hs : List SegmentHead). at_number hs n) was.heads ∙ head_at was.segments n s found

      here_or_plain : (n : ℕ) (s : Segment) → segment_at was.segments n ≡ Some s → load.is_table s ≡ true → (p ≡ place)
      here_or_plain n s found table = elim (which p k made inside) [
        | inl here ↦ here.0
        | inr row ↦
            (let clash : true ≡ false = sym table ∙ row.2.plain n (head_of s) (heads_at n s found) in absurd cc)
      ]

      far_now : (f n : ℕ) → far_of new.memory.slots (kept_outlines new.users) (first_id + p) f n ≡ None
      far_now f n = elim (which p k made inside) [
        | inl here ↦ (let at : first_id + p ≡ id = omega (arith, here.0, its_users.1) in ap (λ (q : ℕ). far_of new.memory.slots (kept_outlines new.users) q f n) at ∙ far_none f n)
        | inr row ↦ far_alone p k made row.2.alone f n
      ]

      becomes : (n : ℕ) (s : Segment) (j : Handle) → segment_at was.segments n ≡ Some s → handle_at k.handles n ≡ Some j → IsSome (there_at (presence_at new.memory.slots k.handles n))
          → Becomes (setting_with (far_in old (first_id + p)) (first_id + p) old.memory.slots k.handles) (setting_with (far_in new (first_id + p)) (first_id + p) new.memory.slots k.handles) None None old.memory new.memory k user (words.dormant_user user) n s j
      becomes n s j found has present =
          let present' : IsSome (there_at (presence new.memory.slots (Some j))) = subst (λ (o : Option Handle). IsSome (there_at (presence new.memory.slots o))) has present in
          let before : IsSome (there_at (presence_at old.memory.slots k.handles n)) = rw (← there_now p k made inside n) present in
          let before' : IsSome (there_at (presence old.memory.slots (Some j))) = subst (λ (o : Option Handle). IsSome (there_at (presence old.memory.slots o))) has before in
          elim (decide (load.is_table s)) [
            | inl table ↦
                let same : k ≡ kept = kept_one p k made (here_or_plain n s found table) in
                let fhead : at_number kept.heads n ≡ Some (head_of s) = ap (λ (x : LoadedUser). at_number x.heads n) (sym same) ∙ heads_at n s found in
                let fhandle : handle_at kept.handles n ≡ Some j = ap (λ (x : LoadedUser). handle_at x.handles n) (sym same) ∙ has in
                Turns table has before (bytes_middle j present' ∙ did.renewed.follow n (head_of s) j (at_most kept.heads n (head_of s) fhead) fhead fhandle table before')
            | inr plain ↦ Stays plain has before (ap (λ (o : Option ℕ). unwrap_or o 0) (there_now p k made inside n)) refl (bytes_middle j present'
                ∙ plain_bytes p n (head_of s) j (record { kept = k; made = made; head' = heads_at n s found; handle = has }) (λ e. plain))
          ]

      turned : Turned old.memory new.memory (far_in old (first_id + p)) (far_in new (first_id + p)) (first_id + p) None None k (rests k) user (words.dormant_user user) was.segments
      turned = record {
        same = ap (λ (o : Outline). let new : Outline = record o { life = Dormant } in new) was.same;
        path = refl;
        heads = refl;
        count = refl;
        unpoked = was.unpoked;
        statics = λ runs n s found static. absurd cc;
        were = λ there n s found static. rw (← there_now p k made inside n) (there n s found static);
        places = λ there n s found static. ap (λ (o : Option ℕ). unwrap_or o 0) (there_now p k made inside n);
        chosen = λ n s found dynamic' kept' c. none_active p k made inside n (handle_at k.handles n) refl;
        far_chosen = λ f n above c. far_now f n;
        far_others = λ f n above c. absurd cc;
        fits = λ n s found c some. absurd cc;
        others = λ n s found dynamic' kept' c. absurd cc;
        each = λ there n s j found has present. becomes n s j found has present;
      }

      family_agrees : UserAgrees held new.memory (far_in new (first_id + p)) (first_id + p) (rests k) (words.dormant_user user)
      family_agrees = turned_agrees held old.memory new.memory (far_in old (first_id + p)) (far_in new (first_id + p)) (first_id + p) None None k (rests k) user (words.dormant_user user) was
          (entries_lead held old state agrees sound (first_id + p) k (user_there old.users p k made) None None (λ t above far c some. absurd cc) was.segments was.holds) (sound.short p k made) turned

    -- every other user agrees still
    others_agree : (p : ℕ) (k : LoadedUser) (user : User) → slice_get old.users p ≡ Some (Some k) → In p ≡ false
        → UserAgrees held old.memory (far_in old (first_id + p)) (first_id + p) k user → UserAgrees held new.memory (far_in new (first_id + p)) (first_id + p) k user
    others_agree p k user made outside was = agrees_still held old.memory new.memory (far_in old (first_id + p)) (far_in new (first_id + p)) (first_id + p) k user was (λ n j found.
        let one = has_any old sound p k made n j found in
        Same (other_get p n one.0 j one.1 outside) (λ there. bytes_middle j there ∙ plain_bytes p n one.0 j one.1 (λ e. let clash : false ≡ true = sym outside ∙ ap In e ∙ place_in in absurd cc)))
        (λ f n above. far_other p k made outside f n)

    -- ---- the next state

    is : IsKept held old state agrees id kept
    is = kept_is held old state agrees id kept did.made

    rests_outline : Outline → Outline
    rests_outline o = record o { life = Dormant }

    abbrev next_of : List ℕ → Machine
    next_of family = record {
      banks = state.banks;
      slots = changed_all let_go state.slots (handles_of_all (outlines state.users) family);
      users = with_all words.dormant_user state.users family;
    }

    agrees_of : Agrees held new (next_of ids)
    unfolding rests_outline
    agrees_of = record {
      banks = did.idled.bytes.banks ∙ did.renewed.banks ∙ agrees.banks;
      slots = slots_are ∙ ap (λ (t : Slots). changed_all let_go t (handles_of_all (kept_outlines old.users) ids)) agrees.slots ∙ ap (λ (os : List (Option Outline)). changed_all let_go state.slots (handles_of_all os ids)) agrees.users;
      users = ap kept_outlines did.users ∙ map_all outline rests rests_outline (λ k. refl) old.users ids ∙ ap (λ (os : List (Option Outline)). with_all rests_outline os ids) agrees.users
          ∙ sym (map_all outline_of words.dormant_user rests_outline (λ u. refl) state.users ids);
      attached = attached_now;
      entries = relived.entries_now old.users new.users Dormant ids did.users held agrees.entries;
      each = λ p k user made made'. each_agrees p k user (users_now p k made) (with_all_get words.dormant_user (λ u. refl) ids state.users p user made');
    }
      where
        each_agrees : (p : ℕ) (k : LoadedUser) (user : User) → Was rests (relived.life_again Dormant) old.users ids p k → Was words.dormant_user (λ u. refl) state.users ids p user
            → UserAgrees held new.memory (far_in new (first_id + p)) (first_id + p) k user
        each_agrees p k user w v = elim w.is [
          | inl inside ↦ elim v.is [
            | inl inside' ↦
                subst (λ (x : LoadedUser). UserAgrees held new.memory (far_in new (first_id + p)) (first_id + p) x user) (sym inside.1)
                (subst (λ (x : User). UserAgrees held new.memory (far_in new (first_id + p)) (first_id + p) (rests w.was) x) (sym inside'.1)
                (family_agrees p w.was v.was w.made inside.0 (agrees.each p w.was v.was w.made v.made)))
            | inr outside' ↦ (let clash : true ≡ false = sym inside.0 ∙ outside'.0 in absurd cc)
          ]
          | inr outside ↦ elim v.is [
            | inl inside' ↦ (let clash : true ≡ false = sym inside'.0 ∙ outside.0 in absurd cc)
            | inr outside' ↦
                subst (λ (x : LoadedUser). UserAgrees held new.memory (far_in new (first_id + p)) (first_id + p) x user) (sym outside.1)
                (subst (λ (x : User). UserAgrees held new.memory (far_in new (first_id + p)) (first_id + p) w.was x) (sym outside'.1)
                (others_agree p w.was v.was w.made outside.0 (agrees.each p w.was v.was w.made v.made)))
          ]
        ]

    agrees_next : Agrees held new (kept_state state id is.user)
    agrees_next = subst (λ (ns : List ℕ). Agrees held new (next_of (family id ns))) (ap (λ (o : Outline). o.attached) is.does_agree.same) agrees_of

    pub keep_met : shut_down_refusal (is_attached (kept_outlines old.users) id) (seen_by old id) true ≡ None → Met RoomRule held state (ShutDown id true) Okay new
    keep_met passes = (
      kept_state state id is.user,
      does held old state agrees id (λ seen. shut_down_refusal (is_attached (outlines state.users) id) seen true) Okay (kept_state state id is.user) _
          (ap (λ (os : List (Option Outline)). shut_down_refusal (is_attached os id) (seen_by old id) true) (sym agrees.users) ∙ passes) is.user is.made (refl, refl),
      agrees_next,
    )

-- ---- the refusal

-- one that passes is attached to no user
pub alone_of : (attached : Bool) (user : Option UserSeen) (keep : Bool) → shut_down_refusal attached user keep ≡ None → attached ≡ false
unfolding shut_down_refusal
alone_of true None keep none = absurd cc
alone_of true (Some seen) keep none = absurd cc
alone_of false user keep none = refl

-- an attached user is refused as if there were none
pub alone_stops : (attached : Bool) (user : Option UserSeen) (keep : Bool) (fault : LoaderFault) → fault ≡ NoUser → attached ≡ true → shut_down_refusal attached user keep ≡ Some fault
unfolding shut_down_refusal
alone_stops attached None keep fault is own = ap (λ (f : LoaderFault). Some f) (sym is)
alone_stops attached (Some seen) keep fault is own = rw own (ap (λ (f : LoaderFault). Some f) (sym is))

pub keep_stops : (attached : Bool) (user : Option UserSeen) (fault : LoaderFault) → attached ≡ false → StopsRunning user fault → shut_down_refusal attached user true ≡ Some fault
unfolding shut_down_refusal
keep_stops attached user fault own stops = rw own (stops (λ seen. None))

pub keep_passes : (attached : Bool) (user : Option UserSeen) (seen : UserSeen) → attached ≡ false → PassesRunning user seen → shut_down_refusal attached user true ≡ None
unfolding shut_down_refusal
keep_passes attached user seen own runs = rw own (runs (λ seen. None))

pub drop_none : (attached : Bool) (user : Option UserSeen) → user ≡ None → shut_down_refusal attached user false ≡ Some NoUser
unfolding shut_down_refusal
drop_none attached user is = rw is refl

pub drop_passes : (attached : Bool) (user : Option UserSeen) (seen : UserSeen) → attached ≡ false → user ≡ Some seen → shut_down_refusal attached user false ≡ None
unfolding shut_down_refusal
drop_passes attached user seen own is = rw (is, own) refl

-- ---- as it is done

pub has_kept : (old last : Loaded) (id : ℕ) (k : LoadedUser) (middle : Memory) (count : ℕ) → user_of old.users id ≡ Some k → k.life ≡ Running → count ≡ length k.heads
    → AreRenewed k.heads k.handles None None old.memory middle count → AreIdled (handles_of_all (kept_outlines old.users) (family id k.attached)) middle last.memory
    → last.users ≡ with_all rests old.users (family id k.attached) → HasKept old id last
has_kept old last id k middle count made runs long renewed idled users = record {
  kept = k;
  made = made;
  runs = runs;
  middle = middle;
  renewed = subst (AreRenewed k.heads k.handles None None old.memory middle) long renewed;
  idled = idled;
  users = users;
}

-- the user that was found is the one that runs
pub found_runs : (users : List (Option LoadedUser)) (id : ℕ) (a b : LoadedUser) → user_of users id ≡ Some a → user_of users id ≡ Some b → a.life ≡ Running → b.life ≡ Running
found_runs users id a b p q runs = ap (λ (k : LoadedUser). k.life) (same_Some b a (sym q ∙ p)) ∙ runs
