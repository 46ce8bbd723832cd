-- A loader after a dynamic segment was read into a new block.
use Rattle.std.proofs.Common.{◌≡◌, ◌≢◌, ◌⊎◌, inl, inr, ℕ, zero, suc, Bool, true, false, ◌==◌, ◌+◌, ◌-◌, ◌^◌, ◌<◌, ◌≤◌, List, [], length, map, Option, Some, None, IsSome, refl, sym, ap, subst, ◌∙◌, arith}
use Rattle.std.specs.Prelude.{slice_get, slice_set, option_map, unwrap_or, not, ◌&&◌}
use Rattle.std.specs.Option.{option_map_or, option_and_then}
use Rattle.std.proofs.lemmas.Option.{same_Some, slice_get_within}
use Rattle.std.proofs.lemmas.Bool.{cases_eq, cases_lt}
use Rattle.std.proofs.lemmas.List.{get_or-set_same, get_or-set_other, length-map}
use Rattle.std.proofs.Math.ListN.{get_or-eq_default}
use Rattle.omf_format.specs.Header.{is_dynamic, is_skipped}
use Rattle.omf_format.specs.File.{Segment, segment_at}
use Rattle.omf_io.specs.Counts.{IsFront}
use Rattle.omf_io.specs.Files.{FileMap}
use Rattle.load_meaning.specs.laws.CellLaws.{loadable_has}
use Rattle.load_meaning.specs.LoadTable as load
use Rattle.iigs_meaning.specs.declared.handles.Handle.{Handle}
use Rattle.iigs_meaning.specs.declared.wants.Block.{Block}
use Rattle.iigs_meaning.specs.Slots.{slot_at, get}
use Rattle.iigs_meaning.specs.Fits.{Slots, block_in}
use Rattle.iigs_meaning.specs.Memory.{Memory, bytes_at}
use Rattle.loader_machine.specs.declared.seen.SegmentHead.{SegmentHead}
use Rattle.loader_machine.specs.declared.seen.Life.TheVariants.{Running, Dormant}
use Rattle.loader_machine.specs.Heads.{head_of, at_number, is_static, is_table, want_of}
use Rattle.loader_machine.specs.State.{Pokes, HeldSegment, User, Machine, absent, fresh, no_pokes, first_id, user_of, with_user, held_at, attached_at, handles_in}
use Rattle.loader_machine.specs.Presences.{handle_at, presence, presence_at, there_at, active_at, is_active, lies_in, lies_at}
use Rattle.loader_machine.specs.Stands.{Far, setting, setting_with, stands}
use Rattle.loader_machine.specs.laws.StandsLaws.{AreAlike, stands_alike}
use Rattle.loader_machine.specs.Steps.{with_both, with_segment}
use Rattle.loader_agrees.specs.Agrees.{LoadedUser, Loaded, Outline, outline, outline_of, kept_outlines, LeadsFar, UserAgrees, Agrees, IsCall, IsOf, Has, IsSound}
use Rattle.loader_agrees.specs.laws.Words.{far_in}
use Rattle.loader_agrees.specs.laws.Begun.{decide}
use Rattle.loader_agrees.specs.laws.BegunSound.{want_size}
use Rattle.loader_agrees.specs.laws.Frame.{Keeps, Same, Gone, agrees_still}
use Rattle.loader_agrees.specs.laws.Keeping.{of_kept}
use Rattle.loader_agrees.specs.laws.Lists.{set_map, set_at, set_apart, length_set}
use Rattle.loader_agrees.specs.laws.Reads.{head_at}
use Rattle.loader_agrees.specs.laws.Seeing.{user_is, made_at, IsKept, kept_is, has_any}
use Rattle.loader_agrees.specs.laws.Leading.{Leading, Its, Holder}
use Rattle.loader_agrees.specs.laws.Likes.{IsLike, AreLike, like_row, like_call, like_attached, like_entries}
use Rattle.loader_agrees.specs.laws.RowUsers.{user_there}
use Rattle.loader_users.specs.Renewing.{AreRenewed}
use Rattle.loader_users.specs.Bytes.{with_bytes}
use Rattle.loader_users.specs.Users.{with_handle}
use Rattle.sys_loader.proofs.Beginning.{want_some}
use Rattle.sys_loader.proofs.Bringing.{Brings}
use Rattle.loader_users.proofs.Families.{user_apart}
use Rattle.sys_loader.proofs.KeptHandles.{keeps_there, keeps_active, keeps_rest, keeps_target, keeps_bytes, handle_here, handle_apart}
use Rattle.load_meaning.specs.declared.table.Target.{Target}
use Rattle.loader_users.specs.Renewing.{is_chosen}
use Rattle.loader_users.proofs.Lead.{target_stays}
use Rattle.loader_users.proofs.Shifting.{room_there}
use Rattle.loader_users.proofs.Turned.{Becomes, Stays, Turns, Anew, Turned, turned_agrees}
use Rattle.loader_users.proofs.Leads.{entries_lead}

-- ---- the loader

module _ (old new : Loaded) (id number owner file : ℕ) (kept lead : LoadedUser) (head : SegmentHead) (handle : Option Handle) (h : Handle) (address : ℕ) (placed : Memory) (content : List ℕ)
    (sound : IsSound old.memory old.users) (leading : Leading old.users id owner file) (lead_made : user_of old.users owner ≡ Some lead)
    (alone : file ≡ 1 ⊎ ((n : ℕ) (g : SegmentHead) → at_number kept.heads n ≡ Some g → is_table g ≡ false)) (made : user_of old.users id ≡ Some kept) (head' : at_number kept.heads number ≡ Some head) (handle' : handle_at kept.handles number ≡ handle)
    (dynamic : is_dynamic head.kind ≡ true) (plain : is_table head ≡ false) (gone : there_at (presence old.memory.slots handle) ≡ None)
    (brings : Brings old id head h address placed)
    (apart : (p n : ℕ) (g : SegmentHead) (k : Handle) → Has old.users p n g k → ((first_id + p ≡ id) → (n ≡ number) → ⊥) → k.slot ≢ h.slot)
    (own_handle : (k : Handle) → handle ≡ Some k → k ≡ h)
    (same : length content ≡ length (bytes_at placed h.slot))
    (renewed : AreRenewed lead.heads lead.handles (Some (file, number)) (Some address) (with_bytes placed h.slot content) new.memory (length lead.heads))
    (users : new.users ≡ with_user old.users id (Some (with_handle kept number h))) where
  abbrev place : ℕ
  place = id - first_id

  its_users : (slice_get old.users place ≡ Some (Some kept)) × (first_id + place ≡ id)
  its_users = made_at old.users id kept made

  abbrev lead_place : ℕ
  lead_place = owner - first_id

  lead_users : (slice_get old.users lead_place ≡ Some (Some lead)) × (first_id + lead_place ≡ owner)
  lead_users = made_at old.users owner lead lead_made

  number_in : (1 ≤ number) × (number - 1 < length kept.heads)
  number_in = go number head'
    where
      go : (n : ℕ) → at_number kept.heads n ≡ Some head → (1 ≤ n) × (n - 1 < length kept.heads)
      go zero is = absurd cc
      go (suc k) is = let within = slice_get_within kept.heads k head is in (omega arith, omega (arith, within))

  inside : number - 1 < length kept.handles
  inside = omega (arith, number_in.1, sound.lengths place kept its_users.0)

  abbrev come : LoadedUser
  come = with_handle kept number h

  slots_are : new.memory.slots ≡ placed.slots
  slots_are = renewed.slots

  -- ---- bytes

  slot_inside : h.slot < length placed.bytes
  slot_inside = elim (cases_lt h.slot (length placed.bytes)) [
    | inl lt ↦ lt
    | inr le ↦ (let none : bytes_at placed h.slot ≡ [] = get_or-eq_default placed.bytes [] le in absurd (omega (arith, brings.size, ap length none, want_some head)))
  ]

  filled_here : bytes_at (with_bytes placed h.slot content) h.slot ≡ content
  filled_here = get_or-set_same placed.bytes h.slot content [] slot_inside

  filled_apart : (slot : ℕ) → slot ≢ h.slot → bytes_at (with_bytes placed h.slot content) slot ≡ bytes_at placed slot
  filled_apart slot ne = get_or-set_other placed.bytes h.slot slot content [] ne

  sizes_apart : (k : Handle) → k.slot ≢ h.slot → length (bytes_at new.memory k.slot) ≡ length (bytes_at placed k.slot)
  sizes_apart k ne = renewed.sizes k.slot ∙ ap length (filled_apart k.slot ne)

  size_here : length (bytes_at new.memory h.slot) ≡ (want_of head).size
  size_here = renewed.sizes h.slot ∙ ap length filled_here ∙ same ∙ brings.size

  -- ---- handles before and after

  kept_one : (p : ℕ) (k : LoadedUser) → slice_get old.users p ≡ Some (Some k) → p ≡ place → k ≡ kept
  kept_one p k found eq = go k kept (sym found ∙ ap (slice_get old.users) eq ∙ its_users.0)
    where
      go : (a b : LoadedUser) → Some (Some a) ≡ Some (Some b) → a ≡ b
      go a b e = cc

  id_of : (p : ℕ) → first_id + p ≡ id → p ≡ place
  id_of p e = omega (arith, e, its_users.1)

  -- a user is as before, or it is the one with the handle more
  users_now : (p : ℕ) (k : LoadedUser) → slice_get new.users p ≡ Some (Some k) → ((p ≡ place) × (k ≡ come)) ⊎ ((p ≢ place) × (slice_get old.users p ≡ Some (Some k)))
  users_now p k found = elim (cases_eq p place) [
    | inl eq ↦
        let within = slice_get_within old.users place (Some kept) its_users.0 in
        let now : slice_get new.users p ≡ Some (Some come) = ap (λ (us : List (Option LoadedUser)). slice_get us p) users ∙ ap (slice_get (slice_set old.users place (Some come))) eq ∙ set_at old.users place (Some come) within in
        inl (eq, one k come (sym found ∙ now))
    | inr ne ↦ inr (ne, sym (set_apart old.users place p (Some come) ne) ∙ ap (λ (us : List (Option LoadedUser)). slice_get us p) (sym users) ∙ found)
  ]
    where
      one : (a b : LoadedUser) → Some (Some a) ≡ Some (Some b) → a ≡ b
      one a b e = cc

  -- a handle is the new block's, or was there before and is apart from it
  has_before : (p n : ℕ) (g : SegmentHead) (k : Handle) → Has new.users p n g k
      → ((p ≡ place) × (n ≡ number) × (g ≡ head) × (k ≡ h)) ⊎ (Has old.users p n g k × (k.slot ≢ h.slot))
  has_before p n g k has = elim (users_now p has.kept has.made) [
    | inl it ↦ elim (cases_eq n number) [
      | inl eq ↦
          let heads : Some g ≡ Some head = sym has.head' ∙ ap (λ (x : LoadedUser). at_number x.heads n) it.1 ∙ ap (at_number kept.heads) eq ∙ head' in
          let handles : Some k ≡ Some h = sym has.handle ∙ ap (λ (x : LoadedUser). handle_at x.handles n) it.1 ∙ ap (handle_at come.handles) eq ∙ handle_here kept number h inside number_in.0 in
          inl (it.0, eq, same_Some g head heads, same_Some k h handles)
      | inr ne ↦
          let was : Has old.users p n g k = record {
            kept = kept;
            made = ap (slice_get old.users) it.0 ∙ its_users.0;
            head' = ap (λ (x : LoadedUser). at_number x.heads n) (sym it.1) ∙ has.head';
            handle = sym (handle_apart kept number h inside number_in.0 n ne) ∙ ap (λ (x : LoadedUser). handle_at x.handles n) (sym it.1) ∙ has.handle;
          } in
          inr (was, apart p n g k was (λ e e'. ne e'))
    ]
    | inr other ↦
        let was : Has old.users p n g k = record { kept = has.kept; made = other.1; head' = has.head'; handle = has.handle } in
        inr (was, apart p n g k was (λ e e'. other.0 (id_of p e)))
  ]

  -- ---- what is true of every loader

  of_slots : (p : ℕ) (g : SegmentHead) (k : Handle) → k.slot ≢ h.slot → IsOf placed (first_id + p) g k → IsOf new.memory (first_id + p) g k
  of_slots p g k ne is = record {
    block = is.block;
    live = ap (λ (t : Slots). get t k) slots_are ∙ is.live;
    user = is.user;
    fixed = is.fixed;
    form = is.form;
    want = is.want;
    room = λ there. omega (arith, is.room there, sizes_apart k ne);
  }

  of_it : IsOf new.memory (first_id + place) head h
  of_it = record {
    block = brings.block;
    live = ap (λ (t : Slots). get t h) slots_are ∙ brings.live;
    user = brings.user ∙ sym its_users.1;
    fixed = brings.fixed;
    form = inl (brings.locked, brings.level);
    want = omega (arith, want_size head, ap (λ w. w.size) brings.want);
    room = λ there. omega (arith, want_size head, size_here);
  }

  each_now : (p n : ℕ) (g : SegmentHead) (k : Handle) → Has new.users p n g k → IsOf new.memory (first_id + p) g k
  each_now p n g k has = elim (has_before p n g k has) [
    | inl it ↦
        subst (λ (q : ℕ). IsOf new.memory (first_id + q) g k) (sym it.0)
        (subst (λ (x : SegmentHead). IsOf new.memory (first_id + place) x k) (sym it.2) (subst (IsOf new.memory (first_id + place) head) (sym it.3) of_it))
    | inr was ↦ of_slots p g k was.1 (of_kept old.memory placed (first_id + p) g k (sound.each p n g k was.0) (brings.keeps p n g k was.0 was.1))
  ]

  static_apart : (n : ℕ) (g : SegmentHead) → at_number kept.heads n ≡ Some g → is_static g ≡ true → n ≢ number
  static_apart n g found static eq =
      let same' : g ≡ head = same_Some g head (sym found ∙ ap (at_number kept.heads) eq ∙ head') in
      no (is_dynamic g.kind) (is_skipped g.kind) (ap (λ (x : SegmentHead). is_dynamic x.kind) same' ∙ dynamic) static
    where
      no : (d k : Bool) → d ≡ true → (not d && not k) ≡ true → ⊥
      no true k e e' = cc
      no false k e e' = cc

  keeps_old : (p n : ℕ) (g : SegmentHead) (k : Handle) → Has old.users p n g k → ((first_id + p ≡ id) → (n ≡ number) → ⊥) → Keeps old.memory placed k
  keeps_old p n g k has differ = brings.keeps p n g k has (apart p n g k has differ)

  active_still : (p : ℕ) (k : LoadedUser) (n : ℕ) (g : SegmentHead) → slice_get old.users p ≡ Some (Some k) → at_number k.heads n ≡ Some g → ((first_id + p ≡ id) → (n ≡ number) → ⊥) → is_active (presence_at old.memory.slots k.handles n) ≡ true
      → presence new.memory.slots (handle_at k.handles n) ≡ presence old.memory.slots (handle_at k.handles n)
  active_still p k n g found head'' differ active = go (handle_at k.handles n) refl active
    where
      go : (o : Option Handle) → handle_at k.handles n ≡ o → is_active (presence old.memory.slots o) ≡ true → presence new.memory.slots o ≡ presence old.memory.slots o
      go None e act = refl
      go (Some j) e act =
          ap (λ (t : Slots). presence t (Some j)) slots_are
          ∙ keeps_active old.memory placed j (keeps_old p n g j (record { kept = k; made = found; head' = head''; handle = e }) differ) act

  statics_now : (p : ℕ) (k : LoadedUser) (n : ℕ) (g : SegmentHead) → slice_get new.users p ≡ Some (Some k) → k.life ≡ Running → at_number k.heads n ≡ Some g → is_static g ≡ true
      → is_active (presence_at new.memory.slots k.handles n) ≡ true
  statics_now p k n g found runs head'' static = elim (users_now p k found) [
    | inl it ↦
        let own : at_number kept.heads n ≡ Some g = ap (λ (x : LoadedUser). at_number x.heads n) (sym it.1) ∙ head'' in
        let ne = static_apart n g own static in
        let life : kept.life ≡ Running = ap (λ (x : LoadedUser). x.life) (sym it.1) ∙ runs in
        let before = sound.statics place kept n g its_users.0 life own static in
        ap (λ (x : LoadedUser). is_active (presence_at new.memory.slots x.handles n)) it.1
        ∙ ap (λ (o : Option Handle). is_active (presence new.memory.slots o)) (handle_apart kept number h inside number_in.0 n ne)
        ∙ ap is_active (active_still place kept n g its_users.0 own (λ e e'. ne e') before) ∙ before
    | inr other ↦
        let before = sound.statics p k n g other.1 runs head'' static in
        ap is_active (active_still p k n g other.1 head'' (λ e e'. other.0 (id_of p e)) before) ∙ before
  ]

  rests_now : kept.life ≡ Running → (p : ℕ) (k : LoadedUser) (n : ℕ) → slice_get new.users p ≡ Some (Some k) → k.life ≡ Dormant → is_active (presence_at new.memory.slots k.handles n) ≡ false
  rests_now runs p k n found life = elim (users_now p k found) [
    | inl it ↦ (let clash : Running ≡ Dormant = sym runs ∙ ap (λ (x : LoadedUser). x.life) (sym it.1) ∙ life in absurd cc)
    | inr other ↦ go (handle_at k.handles n) refl other.0 other.1 (sound.rests p k n other.1 life)
  ]
    where
      go : (o : Option Handle) → handle_at k.handles n ≡ o → p ≢ place → slice_get old.users p ≡ Some (Some k) → is_active (presence old.memory.slots o) ≡ false → is_active (presence_at new.memory.slots k.handles n) ≡ false
      go None e ne made' rests = ap (λ (o : Option Handle). is_active (presence new.memory.slots o)) e
      go (Some j) e ne made' rests =
          let one = has_any old sound p k made' n j e in
          ap (λ (o : Option Handle). is_active (presence new.memory.slots o)) e ∙ ap (λ (t : Slots). is_active (presence t (Some j))) slots_are
          ∙ keeps_rest old.memory placed j (keeps_old p n one.0 j one.1 (λ e' e''. ne (id_of p e'))) rests

  has_now : (p n : ℕ) (g : SegmentHead) (k : Handle) → Has old.users p n g k → ((first_id + p ≡ id) → (n ≡ number) → ⊥) → Has new.users p n g k
  has_now p n g k has differ = elim (cases_eq p place) [
    | inl eq ↦
        let same' = kept_one p has.kept has.made eq in
        let within = slice_get_within old.users place (Some kept) its_users.0 in
        let ne : n ≢ number = λ e. differ (omega (arith, its_users.1, eq)) e in
        record {
          kept = come;
          made = ap (λ (us : List (Option LoadedUser)). slice_get us p) users ∙ ap (slice_get (slice_set old.users place (Some come))) eq ∙ set_at old.users place (Some come) within;
          head' = ap (λ (x : LoadedUser). at_number x.heads n) (sym same') ∙ has.head';
          handle = handle_apart kept number h inside number_in.0 n ne ∙ ap (λ (x : LoadedUser). handle_at x.handles n) (sym same') ∙ has.handle;
        }
    | inr ne ↦ record {
      kept = has.kept;
      made = ap (λ (us : List (Option LoadedUser)). slice_get us p) users ∙ set_apart old.users place p (Some come) ne ∙ has.made;
      head' = has.head';
      handle = has.handle;
    }
  ]

  it_made : slice_get new.users place ≡ Some (Some come)
  it_made = ap (λ (us : List (Option LoadedUser)). slice_get us place) users ∙ set_at old.users place (Some come) (slice_get_within old.users place (Some kept) its_users.0)

  has_it : Has new.users place number head h
  has_it = record { kept = come; made = it_made; head' = head'; handle = handle_here kept number h inside number_in.0 }

  differs : (p n : ℕ) (g : SegmentHead) (k : Handle) → Has old.users p n g k → k.slot ≢ h.slot → (first_id + p ≡ id) → (n ≡ number) → ⊥
  differs p n g k has ne e e' =
      let same' = kept_one p has.kept has.made (id_of p e) in
      let found : handle ≡ Some k = sym handle' ∙ ap (handle_at kept.handles) (sym e') ∙ ap (λ (x : LoadedUser). handle_at x.handles n) (sym same') ∙ has.handle in
      ne (ap (λ (x : Handle). x.slot) (own_handle k found))

  only_now : (slot : ℕ) (b : Block) → block_in (slot_at new.memory.slots slot) ≡ Some b → b.user ≢ 0
      → (p : ℕ) × (n : ℕ) × (g : SegmentHead) × (k : Handle) × Has new.users p n g k × (k.slot ≡ slot)
  only_now slot b found user = elim (cases_eq slot h.slot) [
    | inl eq ↦ (place, number, head, h, has_it, sym eq)
    | inr ne ↦ elim (brings.only slot b (sym (ap (λ (t : Slots). block_in (slot_at t slot)) slots_are) ∙ found)) [
      | inl here ↦ absurd (ne here.0)
      | inr was ↦
          let it = sound.only slot was.0 was.1 (λ e. user (sym was.2 ∙ e)) in
          let other : it.3.slot ≢ h.slot = λ e. ne (sym it.5 ∙ e) in
          (it.0, it.1, it.2, it.3, has_now it.0 it.1 it.2 it.3 it.4 (differs it.0 it.1 it.2 it.3 it.4 other), it.5)
    ]
  ]

  once_now : (p q n m : ℕ) (g f : SegmentHead) (j k : Handle) → Has new.users p n g j → Has new.users q m f k → j.slot ≡ k.slot → (p ≡ q) × (n ≡ m)
  once_now p q n m g f j k one two same' = elim (has_before p n g j one) [
    | inl it ↦ elim (has_before q m f k two) [
      | inl it' ↦ (it.0 ∙ sym it'.0, it.1 ∙ sym it'.1)
      | inr was' ↦ absurd (was'.1 (sym same' ∙ ap (λ (x : Handle). x.slot) it.3))
    ]
    | inr was ↦ elim (has_before q m f k two) [
      | inl it' ↦ absurd (was.1 (same' ∙ ap (λ (x : Handle). x.slot) it'.3))
      | inr was' ↦ sound.once p q n m g f j k was.0 was'.0 same'
    ]
  ]

  lengths_now : (p : ℕ) (k : LoadedUser) → slice_get new.users p ≡ Some (Some k) → (length k.handles ≡ length k.heads) × (length k.heads < 2 ^ 16)
  lengths_now p k found = elim (users_now p k found) [
    | inl it ↦ subst (λ (x : LoadedUser). (length x.handles ≡ length x.heads) × (length x.heads < 2 ^ 16)) (sym it.1)
        (length_set kept.handles (number - 1) (Some h) ∙ sound.lengths place kept its_users.0, sound.short place kept its_users.0)
    | inr other ↦ (sound.lengths p k other.1, sound.short p k other.1)
  ]

  -- the users are as they were, but for the handle
  like : AreLike old.users new.users
  like = record {
    back = λ p now found. elim (users_now p now found) [
      | inl it ↦ (kept, ap (slice_get old.users) it.0 ∙ its_users.0, subst (λ (x : LoadedUser). IsLike kept x) (sym it.1) (record { path = refl; life = refl; heads = refl; attached = refl }))
      | inr other ↦ (now, other.1, record { path = refl; life = refl; heads = refl; attached = refl })
    ];
    forth = λ p was found. elim (cases_eq p place) [
      | inl eq ↦
          let it = kept_one p was found eq in
          (come, ap (slice_get new.users) eq ∙ it_made, subst (λ (x : LoadedUser). IsLike x come) (sym it) (record { path = refl; life = refl; heads = refl; attached = refl }))
      | inr ne ↦ (was, ap (λ (us : List (Option LoadedUser)). slice_get us p) users ∙ set_apart old.users place p (Some come) ne ∙ found, record { path = refl; life = refl; heads = refl; attached = refl })
    ];
  }

  lead_one : (p : ℕ) (k : LoadedUser) → slice_get old.users p ≡ Some (Some k) → p ≡ lead_place → k ≡ lead
  lead_one p k found eq = go k lead (sym found ∙ ap (slice_get old.users) eq ∙ lead_users.0)
    where
      go : (a b : LoadedUser) → Some (Some a) ≡ Some (Some b) → a ≡ b
      go a b e = cc

  at_most : (heads : List SegmentHead) (n : ℕ) (g : SegmentHead) → at_number heads n ≡ Some g → n ≤ length heads
  at_most heads zero g e = omega arith
  at_most heads (suc m) g e = let within = slice_get_within heads m g e in omega (arith, within)

  -- no table's block is written but the leading user's
  plain_bytes : (p n : ℕ) (g : SegmentHead) (k : Handle) → Has old.users p n g k → k.slot ≢ h.slot → ((p ≡ lead_place) → is_table g ≡ false) → bytes_at new.memory k.slot ≡ bytes_at placed k.slot
  plain_bytes p n g k has ne plain = renewed.stay k.slot (λ m f j le fhead fhandle table same'.
      let other : Has old.users lead_place m f j = record { kept = lead; made = lead_users.0; head' = fhead; handle = fhandle } in
      let both = sound.once lead_place p m n f g j k other has same' in
      let kept_same = lead_one p has.kept has.made (sym both.0) in
      let heads : Some g ≡ Some f = sym has.head' ∙ ap (λ (x : LoadedUser). at_number x.heads n) kept_same ∙ ap (at_number lead.heads) (sym both.1) ∙ fhead in
      let clash : true ≡ false = sym table ∙ ap is_table (sym (same_Some g f heads)) ∙ plain (sym both.0) in absurd cc) ∙ filled_apart k.slot ne

  calls_now : (p n k : ℕ) (g : SegmentHead) (j : Handle) → Has new.users p n g j → is_table g ≡ true → IsSome (there_at (presence new.memory.slots (Some j))) → k < load.entry_count g.length
      → IsCall new.users (first_id + p) (load.target_at (bytes_at new.memory j.slot) k)
  calls_now p n k g j has table there inside' = elim (has_before p n g j has) [
    | inl it ↦ (let clash : true ≡ false = sym table ∙ ap is_table it.2 ∙ plain in absurd cc)
    | inr was ↦ by_old was.0 was.1
  ]
    where
      by_old : (has_old : Has old.users p n g j) → j.slot ≢ h.slot → IsCall new.users (first_id + p) (load.target_at (bytes_at new.memory j.slot) k)
      by_old has_old ne =
          let keeps = brings.keeps p n g j has_old ne in
          let here : IsSome (there_at (presence placed.slots (Some j))) = subst (λ (t : Slots). IsSome (there_at (presence t (Some j)))) slots_are there in
          let before : IsSome (there_at (presence old.memory.slots (Some j))) = subst (λ p. IsSome (there_at p)) (keeps_there old.memory placed j keeps here) here in
          let bytes = keeps_bytes old.memory placed j keeps here in
          let call = like_call old.users new.users like (first_id + p) (load.target_at (bytes_at old.memory j.slot) k) (sound.calls p n k g j has_old table before inside') in
          elim (cases_eq p lead_place) [
            | inl eq ↦
                let user = lead_one p has_old.kept has_old.made eq in
                let ghead : at_number lead.heads n ≡ Some g = ap (λ (x : LoadedUser). at_number x.heads n) (sym user) ∙ has_old.head' in
                let ghandle : handle_at lead.handles n ≡ Some j = ap (λ (x : LoadedUser). handle_at x.handles n) (sym user) ∙ has_old.handle in
                let follows = renewed.follow n g j (at_most lead.heads n g ghead) ghead ghandle table here in
                let room : g.length ≤ length (bytes_at old.memory j.slot) = room_there old sound p n g j has_old before in
                subst (λ (t : Target). IsCall new.users (first_id + p) t)
                (sym (ap (λ (bs : List ℕ). load.target_at bs k) (follows ∙ ap (Rattle.loader_users.specs.Renewing.relinked_entries (Some (file, number)) (Some address) (load.entry_count g.length)) (filled_apart j.slot ne ∙ bytes))
                ∙ target_stays (Some (file, number)) (Some address) k (load.entry_count g.length) (bytes_at old.memory j.slot) (omega (arith, inside', room)))) call
            | inr other ↦ subst (λ (bs : List ℕ). IsCall new.users (first_id + p) (load.target_at bs k)) (sym (plain_bytes p n g j has_old ne (λ e. absurd (other e)) ∙ bytes)) call
          ]

  pub come_sound : kept.life ≡ Running → IsSound new.memory new.users
  come_sound runs = record {
    few = omega (arith, sound.few, ap (λ (us : List (Option LoadedUser)). length us) users, length_set old.users place (Some come));
    lengths = λ p k found. (lengths_now p k found).0;
    short = λ p k found. (lengths_now p k found).1;
    statics = statics_now;
    rests = rests_now runs;
    each = each_now;
    once = once_now;
    only = only_now;
    attached = like_attached old.users new.users like sound.attached;
    calls = calls_now;
  }

  -- ---- where attached users' segments are active

  abbrev outs : List (Option Outline)
  outs = kept_outlines old.users

  abbrev far_new : ℕ → Far
  far_new q = far_in new q

  abbrev far_old : ℕ → Far
  far_old q = far_in old q

  now_active : presence new.memory.slots (Some h) ≡ Rattle.loader_machine.specs.declared.seen.Presence.TheVariants.Active h address
  now_active = ap (lies_in h) (ap (λ (t : Slots). get t h) slots_are ∙ brings.live) ∙ ap (λ (o : Option ℕ). lies_at h o brings.block.locked) brings.at ∙ ap (λ (l : Bool). lies_at h (Some address) l) brings.locked

  user_now : user_of new.users id ≡ Some come
  user_now = subst (λ (n : ℕ). user_of new.users n ≡ Some come) its_users.1 (user_there new.users place come it_made)

  -- another user's segments are active where they were
  target_of : (p : ℕ) (k : LoadedUser) (n : ℕ) → slice_get old.users p ≡ Some (Some k) → ((first_id + p ≡ id) → (n ≡ number) → ⊥) → (o : Option Handle) → handle_at k.handles n ≡ o
      → active_at (presence new.memory.slots o) ≡ active_at (presence old.memory.slots o)
  target_of p k n found differ None e = refl
  target_of p k n found differ (Some j) e =
      let one = has_any old sound p k found n j e in
      ap (λ (t : Slots). active_at (presence t (Some j))) slots_are ∙ keeps_target old.memory placed j (keeps_old p n one.0 j one.1 differ)

  -- so are the user's own other ones
  target_same : (n : ℕ) → n ≢ number → active_at (presence_at new.memory.slots come.handles n) ≡ active_at (presence_at old.memory.slots kept.handles n)
  target_same n ne = ap (λ (o : Option Handle). active_at (presence new.memory.slots o)) (handle_apart kept number h inside number_in.0 n ne)
      ∙ target_of place kept n its_users.0 (λ e e'. ne e') (handle_at kept.handles n) refl

  -- the segment is found where a row names its user
  far_hit : (q f : ℕ) → attached_at outs q f ≡ Some id → far_new q f number ≡ Some address
  far_hit q f is = rw (like_row old.users new.users like q f, is, user_is outline new.users id, user_now)
      (ap (λ (o : Option Handle). active_at (presence new.memory.slots o)) (handle_here kept number h inside number_in.0) ∙ ap active_at now_active)

  -- and all others as before
  far_miss : (q f n : ℕ) → (attached_at outs q f ≡ Some id → n ≡ number → ⊥) → far_new q f n ≡ far_old q f n
  far_miss q f n not = ap (λ (o : Option ℕ). option_and_then (λ (other : ℕ). active_at (presence_at new.memory.slots (handles_in (kept_outlines new.users) other) n)) o) (like_row old.users new.users like q f)
      ∙ go (attached_at outs q f) refl
    where
      nothing : (n : ℕ) → active_at (presence_at new.memory.slots [] n) ≡ active_at (presence_at old.memory.slots [] n)
      nothing zero = refl
      nothing (suc m) = refl

      apart_one : (other : ℕ) (o o' : Option LoadedUser) → user_of old.users other ≡ o → user_of new.users other ≡ o' → o' ≡ o → other ≢ id
          → active_at (presence_at new.memory.slots (option_map_or (λ (u : Outline). u.handles) (option_map outline o') []) n)
          ≡ active_at (presence_at old.memory.slots (option_map_or (λ (u : Outline). u.handles) (option_map outline o) []) n)
      apart_one other None o' is is' same' ne = rw same' (nothing n)
      apart_one other (Some k) o' is is' same' ne =
          let there = made_at old.users other k is in
          rw same' (target_of (other - first_id) k n there.0 (λ e e'. ne (sym there.1 ∙ e)) (handle_at k.handles n) refl)

      go : (o : Option ℕ) → attached_at outs q f ≡ o
          → option_and_then (λ (other : ℕ). active_at (presence_at new.memory.slots (handles_in (kept_outlines new.users) other) n)) o
          ≡ option_and_then (λ (other : ℕ). active_at (presence_at old.memory.slots (handles_in outs other) n)) o
      go None e = refl
      go (Some other) e = elim (cases_eq other id) [
        | inl eq ↦
            let ne : n ≢ number = λ same'. not (e ∙ ap (λ (m : ℕ). Some m) eq) same' in
            rw (eq, user_is outline new.users id, user_now, user_is outline old.users id, made) (target_same n ne)
        | inr ne ↦ rw (user_is outline new.users other, user_is outline old.users other)
            (apart_one other (user_of old.users other) (user_of new.users other) refl refl (ap (λ (us : List (Option LoadedUser)). user_of us other) users ∙ user_apart old.users id kept made (Some come) other ne) ne)
      ]

  -- ---- agreement

  module _ (held : FileMap) (state : Machine) (agrees : Agrees held old state) (fits : head.length < 2 ^ 32)
      (begins : (s : Segment) → segment_at (kept_is held old state agrees id kept made).does_agree.segments number ≡ Some s → IsFront (stands (setting id placed.slots come.handles) no_pokes s) content) where
    abbrev is : IsKept held old state agrees id kept
    is = kept_is held old state agrees id kept made

    abbrev user' : User
    user' = with_segment is.user number (fresh (Some h))

    heads_at : (n : ℕ) (s : Segment) → segment_at is.does_agree.segments n ≡ Some s → at_number kept.heads n ≡ Some (head_of s)
    heads_at n s found = ap (λ (hs : List SegmentHead). at_number hs n) is.does_agree.heads ∙ head_at is.does_agree.segments n s found

    sound_one : (n : ℕ) (s : Segment) → segment_at is.does_agree.segments n ≡ Some s → load.is_table s ≡ true → is_static (head_of s) ≡ true
    sound_one n s found table =
        let t = (loadable_has is.does_agree.holds.file is.does_agree.segments is.does_agree.holds.loadable n s found).table table in
        rw (t.static, t.kept) refl

    segments_in : number - 1 < length is.user.segments
    segments_in = omega (arith, number_in.1, ap (λ (hs : List SegmentHead). length hs) is.does_agree.heads, length-map is.does_agree.segments head_of, is.does_agree.count)

    held_here : held_at user' number ≡ fresh (Some h)
    held_here = go number number_in.0 segments_in
      where
        go : (n : ℕ) → 1 ≤ n → n - 1 < length is.user.segments → held_at (with_segment is.user n (fresh (Some h))) n ≡ fresh (Some h)
        go zero le lt = absurd (omega (arith, le))
        go (suc k) le lt =
            let back : suc k - 1 ≡ k = omega arith in
            ap (λ (m : ℕ). option_map_or (λ x. x) (slice_get (slice_set is.user.segments m (fresh (Some h))) k) absent) back
            ∙ ap (λ (o : Option HeldSegment). option_map_or (λ x. x) o absent) (set_at is.user.segments k (fresh (Some h)) (omega (arith, lt, back)))

    held_apart : (n : ℕ) → n ≢ number → held_at user' n ≡ held_at is.user n
    held_apart zero ne = refl
    held_apart (suc k) ne =
        let other : k ≢ number - 1 = λ e. ne (omega (arith, e, number_in.0)) in
        ap (λ (o : Option HeldSegment). option_map_or (λ x. x) o absent) (set_apart is.user.segments (number - 1) k (fresh (Some h)) other)

    outlines : outline come ≡ outline_of user'
    outlines =
        let one : Outline → Outline = λ o. record o { handles = slice_set o.handles (number - 1) (Some h) } in
        ap one is.does_agree.same ∙ ap (λ (hs : List (Option Handle)). let o : Outline = record (outline_of is.user) { handles = hs } in o) (sym (set_map (λ (x : HeldSegment). x.handle) is.user.segments (number - 1) (fresh (Some h))))

    -- ---- where the segments are

    has_own : (n : ℕ) (k : Handle) → handle_at kept.handles n ≡ Some k → (g : SegmentHead) × Has old.users place n g k
    has_own n k found = has_any old sound place kept its_users.0 n k found

    there_same : (n : ℕ) → n ≢ number → IsSome (there_at (presence_at new.memory.slots come.handles n)) → presence_at new.memory.slots come.handles n ≡ presence_at old.memory.slots kept.handles n
    there_same n ne there = ap (presence new.memory.slots) (handle_apart kept number h inside number_in.0 n ne) ∙ go (handle_at kept.handles n) refl (subst (λ (o : Option Handle). IsSome (there_at (presence new.memory.slots o))) (handle_apart kept number h inside number_in.0 n ne) there)
      where
        go : (o : Option Handle) → handle_at kept.handles n ≡ o → IsSome (there_at (presence new.memory.slots o)) → presence new.memory.slots o ≡ presence old.memory.slots o
        go None e some = refl
        go (Some k) e some =
            ap (λ (t : Slots). presence t (Some k)) slots_are
            ∙ keeps_there old.memory placed k (keeps_old place n (has_own n k e).0 k (has_own n k e).1 (λ a b. ne b)) (subst (λ (t : Slots). IsSome (there_at (presence t (Some k)))) slots_are some)

    static_ne : (n : ℕ) (s : Segment) → segment_at is.does_agree.segments n ≡ Some s → is_static (head_of s) ≡ true → n ≢ number
    static_ne n s found static = static_apart n (head_of s) (heads_at n s found) static

    bytes_here : (s : Segment) → segment_at is.does_agree.segments number ≡ Some s → bytes_at new.memory h.slot ≡ content
    bytes_here s found = renewed.stay h.slot (λ m g j le ghead ghandle table same'.
        let has : Has old.users lead_place m g j = record { kept = lead; made = lead_users.0; head' = ghead; handle = ghandle } in
        apart lead_place m g j has (λ a b.
        let user = kept_one lead_place lead lead_users.0 (id_of lead_place a) in
        let heads : Some g ≡ Some (head_of s) = sym ghead ∙ ap (λ (x : LoadedUser). at_number x.heads m) user ∙ ap (at_number kept.heads) b ∙ heads_at number s found in
        let table' : load.is_table s ≡ true = ap is_table (sym (same_Some g (head_of s) heads)) ∙ table in
        static_ne number s found (sound_one number s found table') refl) same') ∙ filled_here

    -- a table of the user's own follows
    own_table : (n : ℕ) (s : Segment) (k : Handle) → segment_at is.does_agree.segments n ≡ Some s → handle_at kept.handles n ≡ Some k → load.is_table s ≡ true → IsSome (there_at (presence placed.slots (Some k)))
        → bytes_at new.memory k.slot ≡ Rattle.loader_users.specs.Renewing.relinked_entries (Some (1, number)) (Some address) (load.entry_count s.fields.length) (bytes_at (with_bytes placed h.slot content) k.slot)
    own_table n s k found has table there = go leading
      where
        go : Leading old.users id owner file
            → bytes_at new.memory k.slot ≡ Rattle.loader_users.specs.Renewing.relinked_entries (Some (1, number)) (Some address) (load.entry_count s.fields.length) (bytes_at (with_bytes placed h.slot content) k.slot)
        go (Holder above ne' there' empty only) = elim alone [
          | inl one ↦ absurd (omega (arith, above, one))
          | inr plain' ↦ (let clash : true ≡ false = sym table ∙ plain' n (head_of s) (heads_at n s found) in absurd cc)
        ]
        go (Its same' one none) =
            let user : lead ≡ kept = same_Some lead kept (sym lead_made ∙ ap (user_of old.users) same' ∙ made) in
            let fhead : at_number lead.heads n ≡ Some (head_of s) = ap (λ (x : LoadedUser). at_number x.heads n) user ∙ heads_at n s found in
            let fhandle : handle_at lead.handles n ≡ Some k = ap (λ (x : LoadedUser). handle_at x.handles n) user ∙ has in
            renewed.follow n (head_of s) k (at_most lead.heads n (head_of s) fhead) fhead fhandle table there
            ∙ ap (λ (f : ℕ). Rattle.loader_users.specs.Renewing.relinked_entries (Some (f, number)) (Some address) (load.entry_count s.fields.length) (bytes_at (with_bytes placed h.slot content) k.slot)) one

    becomes_other : (n : ℕ) (s : Segment) (k : Handle) → n ≢ number → segment_at is.does_agree.segments n ≡ Some s → handle_at come.handles n ≡ Some k → IsSome (there_at (presence_at new.memory.slots come.handles n))
        → Becomes (setting_with (far_in old id) id old.memory.slots kept.handles) (setting_with (far_in new id) id new.memory.slots come.handles) (Some (1, number)) (Some address) old.memory new.memory kept is.user user' n s k
    becomes_other n s k ne found has there =
        let was : handle_at kept.handles n ≡ Some k = sym (handle_apart kept number h inside number_in.0 n ne) ∙ has in
        let one : Has old.users place n (head_of s) k = record { kept = kept; made = its_users.0; head' = heads_at n s found; handle = was } in
        let presence_same = there_same n ne there in
        let before : IsSome (there_at (presence_at old.memory.slots kept.handles n)) = rw (← presence_same) there in
        let here : IsSome (there_at (presence placed.slots (Some k))) = subst (λ (t : Slots). IsSome (there_at (presence t (Some k)))) slots_are (subst (λ (o : Option Handle). IsSome (there_at (presence new.memory.slots o))) has there) in
        let other = apart place n (head_of s) k one (λ a b. ne b) in
        let kept_bytes = keeps_bytes old.memory placed k (keeps_old place n (head_of s) k one (λ a b. ne b)) here in
        elim (decide (load.is_table s)) [
          | inl table ↦ Turns table was before (own_table n s k found was table here
              ∙ ap (Rattle.loader_users.specs.Renewing.relinked_entries (Some (1, number)) (Some address) (load.entry_count s.fields.length)) (filled_apart k.slot other ∙ kept_bytes))
          | inr plain ↦ Stays plain was before (ap (λ p. unwrap_or (there_at p) 0) presence_same) (ap (λ (x : HeldSegment). x.pokes) (held_apart n ne))
              (plain_bytes place n (head_of s) k one other (λ e. plain) ∙ kept_bytes)
        ]

    chosen_is : (n : ℕ) → is_chosen (Some (1, number)) 1 n ≡ true → n ≡ number
    chosen_is n c = grind (arith, c)

    not_chosen : (n : ℕ) → is_chosen (Some (1, number)) 1 n ≡ false → n ≢ number
    not_chosen n c eq =
        let test : (n == number) ≡ true = grind (arith, eq) in
        let one : (1 == 1) ≡ true = refl in
        let clash : true ≡ false = (rw test at c) in cc

    chosen_file : (f g n m : ℕ) → is_chosen (Some (f, m)) g n ≡ true → (g ≡ f) × (n ≡ m)
    chosen_file f g n m c = (grind (arith, c), grind (arith, c))

    chosen_both : (f n : ℕ) → is_chosen (Some (f, n)) f n ≡ true
    chosen_both f n = let one : (f == f) ≡ true = grind arith in let two : (n == n) ≡ true = grind arith in rw (one, two) refl

    -- no row of the user names itself
    not_its : (f : ℕ) → attached_at outs id f ≡ Some id → ⊥
    not_its f found = go leading
      where
        go : Leading old.users id owner file → ⊥
        go (Its same' one none) = none id f found
        go (Holder above ne there empty only) = let clash : None ≡ Some id = sym (empty f) ∙ found in cc

    -- its content depends on no attached user, since it is no table
    stands_now : (s : Segment) → segment_at is.does_agree.segments number ≡ Some s → IsFront (stands (setting_with (far_in new id) id new.memory.slots come.handles) no_pokes s) content
    stands_now s found =
        let same' : head_of s ≡ head = same_Some (head_of s) head (sym (heads_at number s found) ∙ head') in
        let no_table : load.is_table s ≡ false = ap is_table same' ∙ plain in
        let alike : AreAlike is.does_agree.segments number s (setting id new.memory.slots come.handles) (setting_with (far_in new id) id new.memory.slots come.handles) = record {
          id = refl;
          own = refl;
          static = λ n t is' static. refl;
          target = λ table n t is' dynamic' kept''. let clash : true ≡ false = sym table ∙ no_table in absurd cc;
          far = λ table f n above. let clash : true ≡ false = sym table ∙ no_table in absurd cc;
        } in
        let one = stands_alike is.does_agree.segments number s
        (loadable_has is.does_agree.holds.file is.does_agree.segments is.does_agree.holds.loadable number s found) (setting id new.memory.slots come.handles) (setting_with (far_in new id) id new.memory.slots come.handles) alike no_pokes in
        subst (λ (bs : List ℕ). IsFront bs content) one (subst (λ (t : Slots). IsFront (stands (setting id t come.handles) no_pokes s) content) (sym slots_are) (begins s found))

    turned : Turned old.memory new.memory (far_in old id) (far_in new id) id (Some (1, number)) (Some address) kept come is.user user' is.does_agree.segments
    turned = record {
      same = outlines;
      path = refl;
      heads = refl;
      count = length_set is.user.segments (number - 1) (fresh (Some h));
      unpoked = λ n s found table. ap (λ (x : HeldSegment). x.pokes) (held_apart n (static_ne n s found (sound_one n s found table))) ∙ is.does_agree.unpoked n s found table;
      statics = λ runs n s found static. statics_now place come n (head_of s) it_made runs (heads_at n s found) static;
      were = λ there n s found static. let now = there n s found static in subst (λ p. IsSome (there_at p)) (there_same n (static_ne n s found static) now) now;
      places = λ there n s found static. ap (λ p. unwrap_or (there_at p) 0) (there_same n (static_ne n s found static) (there n s found static));
      chosen = λ n s found dynamic' kept'' c.
          let eq = chosen_is n c in
          ap (λ (m : ℕ). active_at (presence_at new.memory.slots come.handles m)) eq ∙ ap (λ (o : Option Handle). active_at (presence new.memory.slots o)) (handle_here kept number h inside number_in.0) ∙ ap active_at now_active;
      fits = λ n s found c some.
          let eq = chosen_is n c in
          let same' : head_of s ≡ head = same_Some (head_of s) head (sym (heads_at n s found) ∙ ap (at_number kept.heads) eq ∙ head') in
          omega (arith, fits, ap (λ (x : SegmentHead). x.length) same');
      others = λ n s found dynamic' kept'' c. target_same n (not_chosen n c);
      far_chosen = λ f n above c. absurd (omega (arith, above, (chosen_file 1 f n number c).0));
      far_others = λ f n above c. far_miss id f n (λ found eq. not_its f found);
      each = λ there n s k found has present. elim (cases_eq n number) [
        | inl eq ↦
            let found' : segment_at is.does_agree.segments number ≡ Some s = subst (λ (m : ℕ). segment_at is.does_agree.segments m ≡ Some s) eq found in
            let it : k ≡ h = same_Some k h (sym has ∙ ap (handle_at come.handles) eq ∙ handle_here kept number h inside number_in.0) in
            let at = stands_now s found' in
            let held' : IsFront (stands (setting_with (far_in new id) id new.memory.slots come.handles) (held_at user' n).pokes s) content =
            subst (λ (p : Pokes). IsFront (stands (setting_with (far_in new id) id new.memory.slots come.handles) p s) content) (sym (ap (λ (x : HeldSegment). x.pokes) (ap (held_at user') eq ∙ held_here))) at in
            Anew (subst (λ (x : Handle). IsFront (stands (setting_with (far_in new id) id new.memory.slots come.handles) (held_at user' n).pokes s) (bytes_at new.memory x.slot)) (sym it)
            (subst (λ (bs : List ℕ). IsFront (stands (setting_with (far_in new id) id new.memory.slots come.handles) (held_at user' n).pokes s) bs) (sym (bytes_here s found')) held'))
        | inr ne ↦ becomes_other n s k ne found has present
      ];
    }

    pub come_agrees_own : UserAgrees held new.memory (far_in new id) id come user'
    come_agrees_own = turned_agrees held old.memory new.memory (far_in old id) (far_in new id) id (Some (1, number)) (Some address) kept come is.user user' is.does_agree
        (entries_lead held old state agrees sound id kept made (Some (1, number)) (Some address) (λ t above far c some. let file : t.file ≡ 1 = grind (arith, c) in absurd (omega (arith, above, file))) is.does_agree.segments is.does_agree.holds) (sound.short place kept its_users.0) turned

    moved : (j : Handle) → bytes_at new.memory j.slot ≡ bytes_at placed j.slot → Keeps old.memory placed j → Keeps old.memory new.memory j
    moved j same' (Same slot bytes) = Same (ap (λ (t : Slots). get t j) slots_are ∙ slot) (λ there. same' ∙ bytes (subst (λ (t : Slots). IsSome (there_at (presence t (Some j)))) slots_are there))
    moved j same' (Gone block was' can gone') = Gone block was' can (ap (λ (t : Slots). get t j) slots_are ∙ gone')

    others_agree : (p : ℕ) (k : LoadedUser) (u : User) → slice_get old.users p ≡ Some (Some k) → p ≢ place → p ≢ lead_place → ((f n : ℕ) → 2 ≤ f → far_new (first_id + p) f n ≡ far_old (first_id + p) f n)
        → UserAgrees held old.memory (far_old (first_id + p)) (first_id + p) k u → UserAgrees held new.memory (far_new (first_id + p)) (first_id + p) k u
    others_agree p k u found ne ne' same' was = agrees_still held old.memory new.memory (far_old (first_id + p)) (far_new (first_id + p)) (first_id + p) k u was (λ n j has.
        let one = has_any old sound p k found n j has in
        let other = apart p n one.0 j one.1 (λ e e'. ne (id_of p e)) in
        moved j (plain_bytes p n one.0 j one.1 other (λ e. absurd (ne' e))) (brings.keeps p n one.0 j one.1 other)) same'

    -- ---- the user whose tables lead to it

    module _ (above : 2 ≤ file) (ne : owner ≢ id) (there : attached_at outs owner file ≡ Some id)
        (only : (q f : ℕ) → 2 ≤ f → attached_at outs q f ≡ Some id → (q ≡ owner) × (f ≡ file)) where
      its : IsKept held old state agrees owner lead
      its = kept_is held old state agrees owner lead lead_made

      place_ne : lead_place ≢ place
      place_ne e = ne (omega (arith, lead_users.1, its_users.1, e))

      not_here : (n : ℕ) → (first_id + lead_place ≡ id) → (n ≡ number) → ⊥
      not_here n e e' = place_ne (id_of lead_place e)

      lead_now : slice_get new.users lead_place ≡ Some (Some lead)
      lead_now = ap (λ (us : List (Option LoadedUser)). slice_get us lead_place) users ∙ set_apart old.users place lead_place (Some come) place_ne ∙ lead_users.0

      lead_heads : (n : ℕ) (s : Segment) → segment_at its.does_agree.segments n ≡ Some s → at_number lead.heads n ≡ Some (head_of s)
      lead_heads n s found = ap (λ (hs : List SegmentHead). at_number hs n) its.does_agree.heads ∙ head_at its.does_agree.segments n s found

      lead_there : (n : ℕ) (o : Option Handle) → handle_at lead.handles n ≡ o → IsSome (there_at (presence new.memory.slots o)) → presence new.memory.slots o ≡ presence old.memory.slots o
      lead_there n None e some = refl
      lead_there n (Some k) e some =
          let one = has_any old sound lead_place lead lead_users.0 n k e in
          ap (λ (t : Slots). presence t (Some k)) slots_are
          ∙ keeps_there old.memory placed k (keeps_old lead_place n one.0 k one.1 (not_here n)) (subst (λ (t : Slots). IsSome (there_at (presence t (Some k)))) slots_are some)

      not_one : (n : ℕ) → is_chosen (Some (file, number)) 1 n ≡ true → ⊥
      not_one n c = omega (arith, above, (chosen_file file 1 n number c).0)

      lead_becomes : (n : ℕ) (s : Segment) (k : Handle) → segment_at its.does_agree.segments n ≡ Some s → handle_at lead.handles n ≡ Some k → IsSome (there_at (presence_at new.memory.slots lead.handles n))
          → Becomes (setting_with (far_old owner) owner old.memory.slots lead.handles) (setting_with (far_new owner) owner new.memory.slots lead.handles) (Some (file, number)) (Some address) old.memory new.memory lead its.user its.user n s k
      lead_becomes n s k found has present =
          let one : Has old.users lead_place n (head_of s) k = record { kept = lead; made = lead_users.0; head' = lead_heads n s found; handle = has } in
          let presence_same = lead_there n (handle_at lead.handles n) refl present in
          let before : IsSome (there_at (presence_at old.memory.slots lead.handles n)) = rw (← presence_same) present in
          let here : IsSome (there_at (presence placed.slots (Some k))) = subst (λ (t : Slots). IsSome (there_at (presence t (Some k)))) slots_are (subst (λ (o : Option Handle). IsSome (there_at (presence new.memory.slots o))) has present) in
          let other = apart lead_place n (head_of s) k one (not_here n) in
          let kept_bytes = keeps_bytes old.memory placed k (keeps_old lead_place n (head_of s) k one (not_here n)) here in
          elim (decide (load.is_table s)) [
            | inl table ↦ Turns table has before (
                renewed.follow n (head_of s) k (at_most lead.heads n (head_of s) (lead_heads n s found)) (lead_heads n s found) has table here
                ∙ ap (Rattle.loader_users.specs.Renewing.relinked_entries (Some (file, number)) (Some address) (load.entry_count s.fields.length)) (filled_apart k.slot other ∙ kept_bytes))
            | inr plain' ↦ Stays plain' has before (ap (λ p. unwrap_or (there_at p) 0) presence_same) refl (plain_bytes lead_place n (head_of s) k one other (λ e. plain') ∙ kept_bytes)
          ]

      lead_turned : Turned old.memory new.memory (far_old owner) (far_new owner) owner (Some (file, number)) (Some address) lead lead its.user its.user its.does_agree.segments
      lead_turned = record {
        same = its.does_agree.same;
        path = refl;
        heads = refl;
        count = refl;
        unpoked = its.does_agree.unpoked;
        statics = λ runs n s found static. statics_now lead_place lead n (head_of s) lead_now runs (lead_heads n s found) static;
        were = λ there' n s found static. let now = there' n s found static in subst (λ p. IsSome (there_at p)) (lead_there n (handle_at lead.handles n) refl now) now;
        places = λ there' n s found static. ap (λ p. unwrap_or (there_at p) 0) (lead_there n (handle_at lead.handles n) refl (there' n s found static));
        chosen = λ n s found dynamic' kept'' c. absurd (not_one n c);
        far_chosen = λ f n above' c.
            let both = chosen_file file f n number c in
            ap (λ (m : ℕ). far_new owner f m) both.1 ∙ far_hit owner f (ap (attached_at outs owner) both.0 ∙ there);
        far_others = λ f n above' c. far_miss owner f n (λ found eq.
            let which = only owner f above' found in
            let yes : is_chosen (Some (file, number)) f n ≡ true = ap (λ (g : ℕ). is_chosen (Some (file, number)) g n) which.1 ∙ ap (is_chosen (Some (file, number)) file) eq ∙ chosen_both file number in
            let clash : true ≡ false = sym yes ∙ c in cc);
        fits = λ n s found c some. absurd (not_one n c);
        others = λ n s found dynamic' kept'' c. target_of lead_place lead n lead_users.0 (not_here n) (handle_at lead.handles n) refl;
        each = λ there' n s k found has present. lead_becomes n s k found has present;
      }

      -- an entry that names the segment has an offset in it
      offset_fits : (t : Target) → 2 ≤ t.file → LeadsFar old.users owner t → is_chosen (Some (file, number)) t.file t.segment ≡ true → IsSome (Some address) → t.offset < 2 ^ 32
      offset_fits t above' far c some =
          let both = chosen_file file t.file t.segment number c in
          let same' : far.other ≡ id = same_Some far.other id (sym far.named ∙ ap (attached_at outs owner) both.0 ∙ there) in
          let user : far.kept ≡ kept = same_Some far.kept kept (sym far.made ∙ ap (user_of old.users) same' ∙ made) in
          let its_head : far.head ≡ head = same_Some far.head head (sym far.head' ∙ ap (λ (x : LoadedUser). at_number x.heads t.segment) user ∙ ap (at_number kept.heads) both.1 ∙ head') in
          omega (arith, far.inside, ap (λ (g : SegmentHead). g.length) its_head, fits)

      lead_agrees : UserAgrees held new.memory (far_new owner) owner lead its.user
      lead_agrees = turned_agrees held old.memory new.memory (far_old owner) (far_new owner) owner (Some (file, number)) (Some address) lead lead its.user its.user its.does_agree
          (entries_lead held old state agrees sound owner lead lead_made (Some (file, number)) (Some address) offset_fits its.does_agree.segments its.does_agree.holds) (sound.short lead_place lead lead_users.0) lead_turned

    user_one : (a b : User) → Some (Some a) ≡ Some (Some b) → a ≡ b
    user_one a b e = cc

    there_agrees : (p : ℕ) (k : LoadedUser) (u : User) → slice_get old.users p ≡ Some (Some k) → slice_get state.users p ≡ Some (Some u) → p ≢ place
        → UserAgrees held old.memory (far_old (first_id + p)) (first_id + p) k u → UserAgrees held new.memory (far_new (first_id + p)) (first_id + p) k u
    there_agrees p k u found found' ne was = go leading
      where
        go : Leading old.users id owner file → UserAgrees held new.memory (far_new (first_id + p)) (first_id + p) k u
        go (Its same' one none) = others_agree p k u found ne (λ e. ne (omega (arith, e, lead_users.1, its_users.1, same'))) (λ f n above. far_miss (first_id + p) f n (λ named eq. none (first_id + p) f named)) was
        go (Holder above apart' there empty only) = elim (cases_eq p lead_place) [
          | inl eq ↦
              let it = its above apart' there only in
              let kept_same : k ≡ lead = lead_one p k found eq in
              let user_same : u ≡ it.user = user_one u it.user (sym found' ∙ ap (slice_get state.users) eq ∙ (made_at state.users owner it.user it.made).0) in
              let id_is : owner ≡ first_id + p = omega (arith, lead_users.1, eq) in
              subst (λ (n : ℕ). UserAgrees held new.memory (far_new n) n k u) id_is
              (subst (λ (x : User). UserAgrees held new.memory (far_new owner) owner k x) (sym user_same) (subst (λ (x : LoadedUser). UserAgrees held new.memory (far_new owner) owner x it.user) (sym kept_same) (lead_agrees above apart' there only)))
          | inr ne' ↦ others_agree p k u found ne ne' (λ f n above'. far_miss (first_id + p) f n (λ named eq. ne' (omega (arith, (only (first_id + p) f above' named).0, lead_users.1)))) was
        ]

    pub come_agrees : Agrees held new (with_both state id new.memory.slots (Some user'))
    come_agrees = record {
      banks = renewed.banks ∙ brings.banks ∙ agrees.banks;
      slots = refl;
      users = ap (map (option_map outline)) users ∙ set_map (option_map outline) old.users place (Some come) ∙ ap (λ us. slice_set us place (Some (outline come))) agrees.users
          ∙ ap (λ (o : Outline). slice_set (map (option_map outline_of) state.users) place (Some o)) outlines ∙ sym (set_map (option_map outline_of) state.users place (Some user'));
      attached = like_attached old.users new.users like agrees.attached;
      entries = like_entries old.users new.users like held agrees.entries;
      each = λ p k u found found'. elim (users_now p k found) [
        | inl it ↦
            let within = slice_get_within state.users place (Some is.user) (made_at state.users id is.user is.made).0 in
            let user_same : u ≡ user' = user_one u user' (sym found' ∙ ap (slice_get (slice_set state.users place (Some user'))) it.0 ∙ set_at state.users place (Some user') within) in
            let id_is : id ≡ first_id + p = omega (arith, its_users.1, it.0) in
            subst (λ (n : ℕ). UserAgrees held new.memory (far_in new n) n k u) id_is
            (subst (λ (x : User). UserAgrees held new.memory (far_in new id) id k x) (sym user_same) (subst (λ (x : LoadedUser). UserAgrees held new.memory (far_in new id) id x user') (sym it.1) come_agrees_own))
        | inr other ↦
            let before = sym (set_apart state.users place p (Some user') other.0) ∙ found' in
            there_agrees p k u other.1 before other.0 (agrees.each p k u other.1 before)
      ];
    }
