-- A loader after a user's segment woke or idled.
use Rattle.std.proofs.Common.{◌≡◌, ◌≢◌, ◌⊎◌, inl, inr, ℕ, zero, suc, Bool, true, false, cond, ◌==◌, ◌+◌, ◌-◌, ◌^◌, ◌<◌, ◌≤◌, List, [], length, Option, Some, None, IsSome, refl, sym, ap, subst, ◌∙◌, arith}
use Rattle.std.specs.Prelude.{slice_get, slice_set, option_map, unwrap_or, not, ◌&&◌, Contains}
use Rattle.std.specs.Option.{option_map_or, option_and_then}
use Rattle.std.proofs.lemmas.Option.{same_Some, slice_get_within}
use Rattle.std.proofs.lemmas.Bool.{cases_eq, cases_lt}
use Rattle.std.proofs.lemmas.List.{get_or-set_same}
use Rattle.std.proofs.Math.ListN.{get_or-eq_default}
use Rattle.omf_format.specs.Header.{is_dynamic, is_skipped}
use Rattle.omf_format.specs.File.{Segment, segment_at}
use Rattle.omf_io.specs.Files.{FileMap}
use Rattle.load_meaning.specs.LoadTable as load
use Rattle.load_meaning.specs.declared.table.Target.{Target}
use Rattle.iigs_meaning.specs.declared.handles.Handle.{Handle}
use Rattle.iigs_meaning.specs.declared.slots.SlotContent.TheVariants.{Used}
use Rattle.iigs_meaning.specs.declared.wants.Block.{Block}
use Rattle.iigs_meaning.specs.Slots.{slot_at, new_slot, get, with_value}
use Rattle.iigs_meaning.specs.Fits.{Slots, block_in}
use Rattle.iigs_meaning.specs.Memory.{bytes_at}
use Rattle.loader_machine.specs.declared.seen.SegmentHead.{SegmentHead}
use Rattle.loader_machine.specs.declared.seen.Life.TheVariants.{Running, Dormant}
use Rattle.loader_machine.specs.Heads.{head_of, at_number, is_static, is_table}
use Rattle.loader_machine.specs.State.{User, Machine, Outline, first_id, user_of, attached_at, handles_in}
use Rattle.loader_machine.specs.declared.seen.Presence.{Presence}
use Rattle.loader_machine.specs.Presences.{handle_at, presence, presence_at, there_at, active_at, is_active, lies_in, lies_at}
use Rattle.loader_machine.specs.Stands.{Far, setting_with, far_of}
use Rattle.load_meaning.specs.LoadTable.{target_at, entry_count}
use Rattle.load_meaning.specs.Table.{entry_start}
use Rattle.loader_machine.specs.Steps.{with_block_changed, with_slots}
use Rattle.loader_agrees.specs.Agrees.{LoadedUser, Loaded, outline, kept_outlines, UserAgrees, LeadsFar, AreAttached, IsCall, Agrees, IsSegments, IsOf, Has, IsSound}
use Rattle.loader_agrees.specs.laws.Words.{EntriesLead}
use Rattle.loader_agrees.specs.laws.Begun.{decide}
use Rattle.loader_agrees.specs.laws.Frame.{Same, agrees_still}
use Rattle.loader_agrees.specs.laws.Leading.{Leading, Its, Holder}
use Rattle.loader_agrees.specs.laws.Reads.{head_at}
use Rattle.loader_agrees.specs.laws.Seeing.{made_at, user_is, IsKept, kept_is, has_any}
use Rattle.loader_agrees.specs.laws.Slotted.{slot_apart, slot_set}
use Rattle.loader_agrees.specs.laws.Stay.{is_there}
use Rattle.loader_users.specs.Renewing.{is_chosen, relinked_entries}
use Rattle.loader_users.proofs.Lead.{target_stays as target_kept}
use Rattle.loader_users.specs.Shifted.{HasShifted}
use Rattle.loader_users.proofs.Turned.{Becomes, Stays, Turns, Turned, turned_agrees}
use Rattle.loader_users.proofs.Leads.{entries_lead}

-- ---- slots in which a live handle's block is another

pub live_inside : (slots : Slots) (h : Handle) (block : Block) → get slots h ≡ Some block → h.slot < length slots
live_inside slots h block is = elim (cases_lt h.slot (length slots)) [
  | inl lt ↦ lt
  | inr le ↦
      let past : slot_at slots h.slot ≡ new_slot = get_or-eq_default slots new_slot le in
      let none : get slots h ≡ None = rw past (no_block (0 == h.generation)) in
      let clash : Some block ≡ None = sym is ∙ none in absurd cc
]
  where
    no_block : (b : Bool) → cond {A = Option Block} b None None ≡ None
    no_block true = refl
    no_block false = refl

module _ (slots : Slots) (h : Handle) (block value : Block) (is : get slots h ≡ Some block) where
  pub set_is : with_value slots h value ≡ slice_set slots h.slot (record { generation = h.generation; content = Used value })
  set_is = rw is refl

  pub value_here : get (with_value slots h value) h ≡ Some value
  value_here = ap (λ (t : Slots). get t h) set_is
      ∙ (rw (get_or-set_same slots h.slot (record { generation = h.generation; content = Used value }) new_slot (live_inside slots h block is)) (same h.generation))
    where
      same : (n : ℕ) → cond (n == n) (Some value) None ≡ Some value
      same n = let e : (n == n) ≡ true = grind arith in rw e refl

  -- a block in such slots is the new one, or was there before
  pub value_in : (n : ℕ) (b : Block) → block_in (slot_at (with_value slots h value) n) ≡ Some b → ((n ≡ h.slot) × (b ≡ value)) ⊎ (block_in (slot_at slots n) ≡ Some b)
  value_in n b found = elim (slot_set slots h.slot (record { generation = h.generation; content = Used value }) n) [
    | inl here ↦ inl (here.0, sym (same_Some value b (sym (ap block_in here.1) ∙ found')))
    | inr was ↦ inr (sym (ap block_in was) ∙ found')
  ]
    where
      found' : block_in (slot_at (slice_set slots h.slot (record { generation = h.generation; content = Used value })) n) ≡ Some b
      found' = sym (ap (λ (t : Slots). block_in (slot_at t n)) set_is) ∙ found

-- ---- a changed segment

-- what a change of a segment's block leaves
pub record IsTurn (change : Block → Block) : Type 0 where
  pub at : (b : Block) → (change b).at ≡ b.at
  pub user : (b : Block) → (change b).user ≡ b.user
  pub want : (b : Block) → (change b).want ≡ b.want
  pub movable : (b : Block) → (change b).movable ≡ b.movable
  pub form : (b : Block) → IsSegments (change b)

none_in : (place : ℕ) → ¬ Contains {X = ℕ} [] place
none_in place found = omega (arith, found.1)

lies_alike : (h : Handle) (at : Option ℕ) (one other : Bool) → there_at (lies_at h at one) ≡ there_at (lies_at h at other)
lies_alike h None one other = refl
lies_alike h (Some a) true true = refl
lies_alike h (Some a) true false = refl
lies_alike h (Some a) false true = refl
lies_alike h (Some a) false false = refl

pub there_block : (h : Handle) (block : Block) → IsSome block.at → IsSome (there_at (lies_in h (Some block)))
there_block h block some = go block.at block.locked some
  where
    go : (at : Option ℕ) (locked : Bool) → IsSome at → IsSome (there_at (lies_at h at locked))
    go None locked e = absurd cc
    go (Some a) true e = refl
    go (Some a) false e = refl

-- the block of a segment that is there has room for LENGTH bytes
pub room_there : (loader : Loaded) → IsSound loader.memory loader.users → (p n : ℕ) (g : SegmentHead) (j : Handle) → Has loader.users p n g j → IsSome (there_at (presence loader.memory.slots (Some j))) → g.length ≤ length (bytes_at loader.memory j.slot)
room_there loader sound p n g j has there =
    let of' = sound.each p n g j has in
    of'.room (go of'.block.at of'.block.locked (subst (λ (o : Option Block). IsSome (there_at (lies_in j o))) of'.live there))
  where
    go : (at : Option ℕ) (locked : Bool) → IsSome (there_at (lies_at j at locked)) → IsSome at
    go None locked e = absurd cc
    go (Some a) locked e = refl

module _ (old new : Loaded) (id number owner file : ℕ) (kept lead : LoadedUser) (h : Handle) (change : Block → Block) (address : Option ℕ) (head : SegmentHead)
    (sound : IsSound old.memory old.users) (leading : Leading old.users id owner file) (lead_made : user_of old.users owner ≡ Some lead)
    (alone : file ≡ 1 ⊎ ((n : ℕ) (g : SegmentHead) → at_number kept.heads n ≡ Some g → is_table g ≡ false)) (made : user_of old.users id ≡ Some kept) (head' : at_number kept.heads number ≡ Some head) (handle : handle_at kept.handles number ≡ Some h)
    (dynamic : is_dynamic head.kind ≡ true) (turn : IsTurn change) (shifted : HasShifted old lead (file, number) h change address new) where
  abbrev place : ℕ
  place = id - first_id

  its_users : (slice_get old.users place ≡ Some (Some kept)) × (first_id + place ≡ id)
  its_users = made_at old.users id kept made

  abbrev lead_place : ℕ
  lead_place = owner - first_id

  lead_users : (slice_get old.users lead_place ≡ Some (Some lead)) × (first_id + lead_place ≡ owner)
  lead_users = made_at old.users owner lead lead_made

  abbrev block : Block
  block = shifted.changes.block

  was : get old.memory.slots h ≡ Some block
  was = ap (λ (t : Slots). get t h) (sym shifted.renewed.slots) ∙ shifted.changes.was

  has_it : Has old.users place number head h
  has_it = record { kept = kept; made = its_users.0; head' = head'; handle = handle }

  slots_are : new.memory.slots ≡ with_value old.memory.slots h (change block)
  slots_are = shifted.changes.slots ∙ ap (λ (t : Slots). with_value t h (change block)) shifted.renewed.slots

  pub slots_changed : new.memory.slots ≡ with_block_changed change old.memory.slots h
  slots_changed = slots_are ∙ sym (ap (λ (o : Option Block). option_map_or (λ b. with_value old.memory.slots h (change b)) o old.memory.slots) was)

  now_is : get new.memory.slots h ≡ Some (change block)
  now_is = ap (λ (t : Slots). get t h) slots_are ∙ value_here old.memory.slots h block (change block) was

  get_apart : (k : Handle) → k.slot ≢ h.slot → get new.memory.slots k ≡ get old.memory.slots k
  get_apart k ne = ap (λ (t : Slots). get t k) slots_are ∙ slot_apart old.memory.slots h k (record { generation = h.generation; content = Used (change block) }) ne

  apart : (p n : ℕ) (g : SegmentHead) (k : Handle) → Has old.users p n g k → ((p ≡ place) → (n ≡ number) → ⊥) → k.slot ≢ h.slot
  apart p n g k has differ same = let both = sound.once p place n number g head k h has has_it same in differ both.0 both.1

  own : (n : ℕ) (k : Handle) → handle_at kept.handles n ≡ Some k → (g : SegmentHead) × Has old.users place n g k
  own n k found = has_any old sound place kept its_users.0 n k found

  -- ---- where the segments are

  same_handle : (n : ℕ) (k : Handle) → handle_at kept.handles n ≡ Some k → n ≡ number → k ≡ h
  same_handle n k found eq = same_Some k h (sym found ∙ ap (handle_at kept.handles) eq ∙ handle)

  there_here : there_at (presence new.memory.slots (Some h)) ≡ there_at (presence old.memory.slots (Some h))
  there_here = ap (λ (o : Option Block). there_at (lies_in h o)) now_is ∙ ap (λ (at : Option ℕ). there_at (lies_at h at (change block).locked)) (turn.at block)
      ∙ lies_alike h block.at (change block).locked block.locked ∙ sym (ap (λ (o : Option Block). there_at (lies_in h o)) was)

  there_same : (n : ℕ) (o : Option Handle) → handle_at kept.handles n ≡ o → there_at (presence new.memory.slots o) ≡ there_at (presence old.memory.slots o)
  there_same n None e = refl
  there_same n (Some k) e = elim (cases_eq n number) [
    | inl eq ↦ ap (λ (x : Handle). there_at (presence new.memory.slots (Some x))) (same_handle n k e eq) ∙ there_here ∙ ap (λ (x : Handle). there_at (presence old.memory.slots (Some x))) (sym (same_handle n k e eq))
    | inr ne ↦ ap (λ (o : Option Block). there_at (lies_in k o)) (get_apart k (apart place n (own n k e).0 k (own n k e).1 (λ p q. ne q)))
  ]

  there_now : (n : ℕ) → there_at (presence_at new.memory.slots kept.handles n) ≡ there_at (presence_at old.memory.slots kept.handles n)
  there_now n = there_same n (handle_at kept.handles n) refl

  presence_apart : (n : ℕ) (o : Option Handle) → handle_at kept.handles n ≡ o → n ≢ number → presence new.memory.slots o ≡ presence old.memory.slots o
  presence_apart n None e ne = refl
  presence_apart n (Some k) e ne = ap (lies_in k) (get_apart k (apart place n (own n k e).0 k (own n k e).1 (λ p q. ne q)))

  -- ---- bytes

  bytes_middle : (k : Handle) → IsSome (there_at (presence new.memory.slots (Some k))) → bytes_at new.memory k.slot ≡ bytes_at shifted.middle k.slot
  bytes_middle k there = shifted.changes.kept.bytes k.slot (none_in k.slot) (is_there new.memory k there)

  -- no table's block is written but the leading user's
  plain_bytes : (p n : ℕ) (g : SegmentHead) (k : Handle) → Has old.users p n g k → ((p ≡ lead_place) → is_table g ≡ false) → bytes_at shifted.middle k.slot ≡ bytes_at old.memory k.slot
  plain_bytes p n g k has plain = shifted.renewed.stay k.slot (λ m f j le fhead fhandle table same.
      let other : Has old.users lead_place m f j = record { kept = lead; made = lead_users.0; head' = fhead; handle = fhandle } in
      let both = sound.once lead_place p m n f g j k other has same in
      let kept_same : has.kept ≡ lead = kept_is_one has.kept lead (sym has.made ∙ ap (slice_get old.users) (sym both.0) ∙ lead_users.0) in
      let heads : Some g ≡ Some f = sym has.head' ∙ ap (λ (x : LoadedUser). at_number x.heads n) kept_same ∙ ap (at_number lead.heads) (sym both.1) ∙ fhead in
      let clash : true ≡ false = sym table ∙ ap is_table (sym (same_Some g f heads)) ∙ plain (sym both.0) in absurd cc)
    where
      kept_is_one : (a b : LoadedUser) → Some (Some a) ≡ Some (Some b) → a ≡ b
      kept_is_one a b e = cc

  sizes : (k : Handle) → IsSome (there_at (presence new.memory.slots (Some k))) → length (bytes_at new.memory k.slot) ≡ length (bytes_at old.memory k.slot)
  sizes k there = ap length (bytes_middle k there) ∙ shifted.renewed.sizes k.slot

  -- ---- what is true of every loader

  static_apart : (n : ℕ) (g : SegmentHead) → at_number kept.heads n ≡ Some g → is_static g ≡ true → n ≢ number
  static_apart n g found static eq =
      let same : g ≡ head = same_Some g head (sym found ∙ ap (at_number kept.heads) eq ∙ head') in
      no (is_dynamic g.kind) (is_skipped g.kind) (ap (λ (x : SegmentHead). is_dynamic x.kind) same ∙ dynamic) static
    where
      no : (d k : Bool) → d ≡ true → (not d && not k) ≡ true → ⊥
      no true k e e' = cc
      no false k e e' = cc

  of_same : (p : ℕ) (g : SegmentHead) (k : Handle) → IsOf old.memory (first_id + p) g k → get new.memory.slots k ≡ get old.memory.slots k → IsOf new.memory (first_id + p) g k
  of_same p g k is same = record {
    block = is.block;
    live = same ∙ is.live;
    user = is.user;
    fixed = is.fixed;
    form = is.form;
    want = is.want;
    room = λ there.
        let present : IsSome (there_at (presence new.memory.slots (Some k))) = subst (λ (o : Option Block). IsSome (there_at (lies_in k o))) (sym (same ∙ is.live)) (there_block k is.block there) in
        omega (arith, is.room there, sizes k present);
  }

  of_it : (p : ℕ) (g : SegmentHead) → IsOf old.memory (first_id + p) g h → IsOf new.memory (first_id + p) g h
  of_it p g is =
      let same : is.block ≡ block = same_Some is.block block (sym is.live ∙ was) in
      record {
        block = change block;
        live = now_is;
        user = turn.user block ∙ ap (λ (b : Block). b.user) (sym same) ∙ is.user;
        fixed = turn.movable block ∙ ap (λ (b : Block). b.movable) (sym same) ∙ is.fixed;
        form = turn.form block;
        want = omega (arith, is.want, ap (λ (b : Block). b.want.size) same, ap (λ w. w.size) (turn.want block));
        room = λ there.
            let present : IsSome (there_at (presence new.memory.slots (Some h))) = subst (λ (o : Option Block). IsSome (there_at (lies_in h o))) (sym now_is) (there_block h (change block) there) in
            let there' : IsSome is.block.at = subst (λ (o : Option ℕ). IsSome o) (turn.at block ∙ ap (λ (b : Block). b.at) (sym same)) there in
            omega (arith, is.room there', sizes h present);
      }

  kept_one : (p : ℕ) (k : LoadedUser) → slice_get old.users p ≡ Some (Some k) → p ≡ place → k ≡ kept
  kept_one p k found eq = go k kept (sym found ∙ ap (slice_get old.users) eq ∙ its_users.0)
    where
      go : (a b : LoadedUser) → Some (Some a) ≡ Some (Some b) → a ≡ b
      go a b e = cc

  each_now : (p n : ℕ) (g : SegmentHead) (k : Handle) → Has old.users p n g k → IsOf new.memory (first_id + p) g k
  each_now p n g k has = elim (cases_eq k.slot h.slot) [
    | inl same ↦
        let both = sound.once p place n number g head k h has has_it same in
        let one : k ≡ h = same_Some k h (sym has.handle ∙ ap (λ (x : LoadedUser). handle_at x.handles n) (kept_one p has.kept has.made both.0) ∙ ap (handle_at kept.handles) both.1 ∙ handle) in
        subst (λ (x : Handle). IsOf new.memory (first_id + p) g x) (sym one) (of_it p g (subst (λ (x : Handle). IsOf old.memory (first_id + p) g x) one (sound.each p n g k has)))
    | inr ne ↦ of_same p g k (sound.each p n g k has) (get_apart k ne)
  ]

  statics_now : (p : ℕ) (k : LoadedUser) (n : ℕ) (g : SegmentHead) → slice_get old.users p ≡ Some (Some k) → k.life ≡ Running → at_number k.heads n ≡ Some g → is_static g ≡ true
      → is_active (presence_at new.memory.slots k.handles n) ≡ true
  statics_now p k n g made' runs found static = go (handle_at k.handles n) refl (sound.statics p k n g made' runs found static)
    where
      go : (o : Option Handle) → handle_at k.handles n ≡ o → is_active (presence old.memory.slots o) ≡ true → is_active (presence_at new.memory.slots k.handles n) ≡ true
      go None e active = absurd cc
      go (Some j) e active =
          let has : Has old.users p n g j = record { kept = k; made = made'; head' = found; handle = e } in
          let ne : j.slot ≢ h.slot = apart p n g j has (λ pe ne. static_apart n g (ap (λ (x : LoadedUser). at_number x.heads n) (sym (kept_one p k made' pe)) ∙ found) static ne) in
          ap (λ (o : Option Handle). is_active (presence new.memory.slots o)) e ∙ ap (λ (o : Option Block). is_active (lies_in j o)) (get_apart j ne) ∙ active

  rests_now : kept.life ≡ Running → (p : ℕ) (k : LoadedUser) (n : ℕ) → slice_get old.users p ≡ Some (Some k) → k.life ≡ Dormant → is_active (presence_at new.memory.slots k.handles n) ≡ false
  rests_now runs p k n made' life = go (handle_at k.handles n) refl (sound.rests p k n made' life)
    where
      not_both : Running ≡ Dormant → ⊥
      not_both clash = cc

      go : (o : Option Handle) → handle_at k.handles n ≡ o → is_active (presence old.memory.slots o) ≡ false → is_active (presence_at new.memory.slots k.handles n) ≡ false
      go None e rests = ap (λ (o : Option Handle). is_active (presence new.memory.slots o)) e
      go (Some j) e rests =
          let one = has_any old sound p k made' n j e in
          let ne : j.slot ≢ h.slot = apart p n one.0 j one.1 (λ pe ne. not_both (sym runs ∙ ap (λ (x : LoadedUser). x.life) (sym (kept_one p k made' pe)) ∙ life)) in
          ap (λ (o : Option Handle). is_active (presence new.memory.slots o)) e ∙ ap (λ (o : Option Block). is_active (lies_in j o)) (get_apart j ne) ∙ rests

  only_now : (slot : ℕ) (b : Block) → block_in (slot_at new.memory.slots slot) ≡ Some b → b.user ≢ 0
      → (p : ℕ) × (n : ℕ) × (g : SegmentHead) × (k : Handle) × Has old.users p n g k × (k.slot ≡ slot)
  only_now slot b found user = elim (value_in old.memory.slots h block (change block) was slot b (sym (ap (λ (t : Slots). block_in (slot_at t slot)) slots_are) ∙ found)) [
    | inl here ↦ (place, number, head, h, has_it, sym here.0)
    | inr before ↦ sound.only slot b before user
  ]

  lead_one : (p : ℕ) (k : LoadedUser) → slice_get old.users p ≡ Some (Some k) → p ≡ lead_place → k ≡ lead
  lead_one p k found eq = go k lead (sym found ∙ ap (slice_get old.users) eq ∙ lead_users.0)
    where
      go : (a b : LoadedUser) → Some (Some a) ≡ Some (Some b) → a ≡ b
      go a b e = cc

  at_most : (heads : List SegmentHead) (n : ℕ) (g : SegmentHead) → at_number heads n ≡ Some g → n ≤ length heads
  at_most heads zero g e = omega arith
  at_most heads (suc m) g e = let inside = slice_get_within heads m g e in omega (arith, inside)

  -- a segment that is there was there
  was_there : (p n : ℕ) (g : SegmentHead) (k : Handle) → Has old.users p n g k → IsSome (there_at (presence new.memory.slots (Some k))) → IsSome (there_at (presence old.memory.slots (Some k)))
  was_there p n g k has there = elim (cases_eq k.slot h.slot) [
    | inl same ↦
        let both = sound.once p place n number g head k h has has_it same in
        let one : k ≡ h = same_Some k h (sym has.handle ∙ ap (λ (x : LoadedUser). handle_at x.handles n) (kept_one p has.kept has.made both.0) ∙ ap (handle_at kept.handles) both.1 ∙ handle) in
        subst (λ (x : Handle). IsSome (there_at (presence old.memory.slots (Some x)))) (sym one)
        (subst (λ (o : Option ℕ). IsSome o) there_here (subst (λ (x : Handle). IsSome (there_at (presence new.memory.slots (Some x)))) one there))
    | inr ne ↦ subst (λ (o : Option Block). IsSome (there_at (lies_in k o))) (get_apart k ne) there
  ]

  entries_fit : (size : ℕ) (bytes : List ℕ) (k : ℕ) → k < entry_count size → size ≤ length bytes → entry_start (entry_count size) ≤ length bytes
  entries_fit size bytes k inside room = omega (arith, inside, room)

  calls_now : (p n k : ℕ) (g : SegmentHead) (j : Handle) → Has old.users p n g j → is_table g ≡ true → IsSome (there_at (presence new.memory.slots (Some j))) → k < entry_count g.length
      → IsCall old.users (first_id + p) (target_at (bytes_at new.memory j.slot) k)
  calls_now p n k g j has table there inside =
      let was = was_there p n g j has there in
      let before = sound.calls p n k g j has table was inside in
      elim (cases_eq p lead_place) [
        | inl eq ↦
            let user = lead_one p has.kept has.made eq in
            let ghead : at_number lead.heads n ≡ Some g = ap (λ (x : LoadedUser). at_number x.heads n) (sym user) ∙ has.head' in
            let ghandle : handle_at lead.handles n ≡ Some j = ap (λ (x : LoadedUser). handle_at x.handles n) (sym user) ∙ has.handle in
            let follows = shifted.renewed.follow n g j (at_most lead.heads n g ghead) ghead ghandle table was in
            let of' = sound.each p n g j has in
            let some : IsSome of'.block.at = block_at j of'.block of'.live was in
            let room = of'.room some in
            subst (λ (t : Target). IsCall old.users (first_id + p) t)
            (sym (ap (λ (bs : List ℕ). target_at bs k) (bytes_middle j there ∙ follows) ∙ target_kept (Some (file, number)) address k (entry_count g.length) (bytes_at old.memory j.slot) (entries_fit g.length (bytes_at old.memory j.slot) k inside room)))
            before
        | inr ne ↦ subst (λ (bs : List ℕ). IsCall old.users (first_id + p) (target_at bs k)) (sym (bytes_middle j there ∙ plain_bytes p n g j has (λ e. absurd (ne e)))) before
      ]
    where
      block_at : (j : Handle) (b : Block) → get old.memory.slots j ≡ Some b → IsSome (there_at (presence old.memory.slots (Some j))) → IsSome b.at
      block_at j b live there = go b.at b.locked (subst (λ (o : Option Block). IsSome (there_at (lies_in j o))) live there)
        where
          go : (at : Option ℕ) (locked : Bool) → IsSome (there_at (lies_at j at locked)) → IsSome at
          go None locked e = absurd cc
          go (Some a) locked e = refl

  -- it is sound still
  pub shifted_sound : kept.life ≡ Running → IsSound new.memory old.users
  shifted_sound runs = record { few = sound.few; lengths = sound.lengths; short = sound.short; statics = statics_now; rests = rests_now runs; each = each_now; once = sound.once; only = only_now; attached = sound.attached; calls = calls_now }

  -- ---- agreement

  -- another user's segments are where they were
  presence_other : (p : ℕ) (k : LoadedUser) (n : ℕ) → slice_get old.users p ≡ Some (Some k) → p ≢ place → (o : Option Handle) → handle_at k.handles n ≡ o → presence new.memory.slots o ≡ presence old.memory.slots o
  presence_other p k n made' ne None e = refl
  presence_other p k n made' ne (Some j) e =
      let one = has_any old sound p k made' n j e in
      ap (lies_in j) (get_apart j (apart p n one.0 j one.1 (λ pe q. ne pe)))

  abbrev outs : List (Option Outline)
  outs = kept_outlines old.users

  abbrev far_new : ℕ → Far
  far_new q = far_of new.memory.slots outs q

  abbrev far_old : ℕ → Far
  far_old q = far_of old.memory.slots outs q

  its_handles : handles_in outs id ≡ kept.handles
  its_handles = rw (user_is outline old.users id, made) refl

  module _ (active : active_at (lies_in h (Some (change block))) ≡ address) where
    active_now : active_at (presence_at new.memory.slots kept.handles number) ≡ address
    active_now = ap (λ (o : Option Handle). active_at (presence new.memory.slots o)) handle ∙ ap (λ (o : Option Block). active_at (lies_in h o)) now_is ∙ active

    -- the segment is found where a row names its user
    far_hit : (q f : ℕ) → attached_at outs q f ≡ Some id → far_new q f number ≡ address
    far_hit q f is = rw is (ap (λ (hs : List (Option Handle)). active_at (presence_at new.memory.slots hs number)) its_handles ∙ active_now)

    -- and all others as before
    far_miss : (q f n : ℕ) → (attached_at outs q f ≡ Some id → n ≡ number → ⊥) → far_new q f n ≡ far_old q f n
    far_miss q f n not = go (attached_at outs q f) refl
      where
        user : (other : ℕ) (o : Option LoadedUser) → user_of old.users other ≡ o → other ≢ id
            → active_at (presence_at new.memory.slots (option_map_or (λ (u : Outline). u.handles) (option_map outline o) []) n)
            ≡ active_at (presence_at old.memory.slots (option_map_or (λ (u : Outline). u.handles) (option_map outline o) []) n)
        user other None is ne = nothing n
          where
            nothing : (n : ℕ) → active_at (presence_at new.memory.slots [] n) ≡ active_at (presence_at old.memory.slots [] n)
            nothing zero = refl
            nothing (suc m) = refl
        user other (Some k) is ne =
            let there = made_at old.users other k is in
            ap active_at (presence_other (other - first_id) k n there.0 (λ e. ne (omega (arith, there.1, its_users.1, e))) (handle_at k.handles n) refl)

        go : (o : Option ℕ) → attached_at outs q f ≡ o
            → option_and_then (λ (other : ℕ). active_at (presence_at new.memory.slots (handles_in outs other) n)) o
            ≡ option_and_then (λ (other : ℕ). active_at (presence_at old.memory.slots (handles_in outs other) n)) o
        go None e = refl
        go (Some other) e = elim (cases_eq other id) [
          | inl eq ↦
              let ne : n ≢ number = λ same. not (e ∙ ap (λ (m : ℕ). Some m) eq) same in
              let its : handles_in outs other ≡ kept.handles = ap (handles_in outs) eq ∙ its_handles in
              rw its (ap active_at (presence_apart n (handle_at kept.handles n) refl ne))
          | inr ne ↦ rw (user_is outline old.users other) (user other (user_of old.users other) refl ne)
        ]

    module _ (held : FileMap) (state : Machine) (agrees : Agrees held old state) (fits : IsSome address → head.length < 2 ^ 32) where
      is : IsKept held old state agrees id kept
      is = kept_is held old state agrees id kept made

      heads_at : (n : ℕ) (s : Segment) → segment_at is.does_agree.segments n ≡ Some s → at_number kept.heads n ≡ Some (head_of s)
      heads_at n s found = ap (λ (hs : List SegmentHead). at_number hs n) is.does_agree.heads ∙ head_at is.does_agree.segments n s found

      chosen_is : (f n m : ℕ) → is_chosen (Some (f, m)) f n ≡ true → n ≡ m
      chosen_is f n m c = grind (arith, c)

      chosen_file : (f g n m : ℕ) → is_chosen (Some (f, m)) g n ≡ true → (g ≡ f) × (n ≡ m)
      chosen_file f g n m c = (grind (arith, c), grind (arith, c))

      chosen_both : (f n : ℕ) → is_chosen (Some (f, n)) f n ≡ true
      chosen_both f n = let one : (f == f) ≡ true = grind arith in let two : (n == n) ≡ true = grind arith in rw (one, two) refl

      not_chosen : (n : ℕ) → is_chosen (Some (1, number)) 1 n ≡ false → n ≢ number
      not_chosen n c eq = let yes : is_chosen (Some (1, number)) 1 n ≡ true = ap (is_chosen (Some (1, number)) 1) eq ∙ chosen_both 1 number in let clash : true ≡ false = sym yes ∙ c in cc

      -- no row of the user names itself
      not_its : (f : ℕ) → attached_at outs id f ≡ Some id → ⊥
      not_its f found = go leading
        where
          go : Leading old.users id owner file → ⊥
          go (Its same one none) = none id f found
          go (Holder above ne there empty only) = let clash : None ≡ Some id = sym (empty f) ∙ found in cc

      -- a table of the user's own follows
      own_table : (n : ℕ) (s : Segment) (k : Handle) → segment_at is.does_agree.segments n ≡ Some s → handle_at kept.handles n ≡ Some k → load.is_table s ≡ true
          → IsSome (there_at (presence old.memory.slots (Some k))) → IsSome (there_at (presence new.memory.slots (Some k)))
          → bytes_at new.memory k.slot ≡ relinked_entries (Some (1, number)) address (entry_count s.fields.length) (bytes_at old.memory k.slot)
      own_table n s k found has table before now = go leading
        where
          one_kept : (a b : LoadedUser) → Some a ≡ Some b → a ≡ b
          one_kept a b e = cc

          go : Leading old.users id owner file → bytes_at new.memory k.slot ≡ relinked_entries (Some (1, number)) address (entry_count s.fields.length) (bytes_at old.memory k.slot)
          go (Holder above ne there empty only) = elim alone [
            | inl one ↦ absurd (omega (arith, above, one))
            | inr plain ↦ (let clash : true ≡ false = sym table ∙ plain n (head_of s) (heads_at n s found) in absurd cc)
          ]
          go (Its same one none) =
              let user : lead ≡ kept = one_kept lead kept (sym lead_made ∙ ap (user_of old.users) same ∙ made) in
              let fhead : at_number lead.heads n ≡ Some (head_of s) = ap (λ (x : LoadedUser). at_number x.heads n) user ∙ heads_at n s found in
              let fhandle : handle_at lead.handles n ≡ Some k = ap (λ (x : LoadedUser). handle_at x.handles n) user ∙ has in
              bytes_middle k now ∙ shifted.renewed.follow n (head_of s) k (at_most lead.heads n (head_of s) fhead) fhead fhandle table before
              ∙ ap (λ (f : ℕ). relinked_entries (Some (f, number)) address (entry_count s.fields.length) (bytes_at old.memory k.slot)) one

      becomes : (n : ℕ) (s : Segment) (k : Handle) → segment_at is.does_agree.segments n ≡ Some s → handle_at kept.handles n ≡ Some k → IsSome (there_at (presence_at new.memory.slots kept.handles n))
          → Becomes (setting_with (far_old id) id old.memory.slots kept.handles) (setting_with (far_new id) id new.memory.slots kept.handles) (Some (1, number)) address old.memory new.memory kept is.user is.user n s k
      becomes n s k found has present =
          let present' : IsSome (there_at (presence new.memory.slots (Some k))) = subst (λ (o : Option Handle). IsSome (there_at (presence new.memory.slots o))) has present in
          let before : IsSome (there_at (presence_at old.memory.slots kept.handles n)) = rw (← there_now n) present in
          let before' : IsSome (there_at (presence old.memory.slots (Some k))) = subst (λ (o : Option Handle). IsSome (there_at (presence old.memory.slots o))) has before in
          elim (decide (load.is_table s)) [
            | inl table ↦ Turns table has before (own_table n s k found has table before' present')
            | inr plain ↦ Stays plain has before (ap (λ (o : Option ℕ). unwrap_or o 0) (there_now n)) refl (bytes_middle k present'
                ∙ plain_bytes place n (head_of s) k (record { kept = kept; made = its_users.0; head' = heads_at n s found; handle = has }) (λ e. plain))
          ]

      turned : Turned old.memory new.memory (far_old id) (far_new id) id (Some (1, number)) address kept kept is.user is.user is.does_agree.segments
      turned = record {
        same = is.does_agree.same;
        path = refl;
        heads = refl;
        count = refl;
        unpoked = is.does_agree.unpoked;
        statics = λ runs n s found static.
            ap is_active (presence_apart n (handle_at kept.handles n) refl (static_apart n (head_of s) (heads_at n s found) static)) ∙ is.does_agree.statics runs n s found static;
        were = λ there n s found static. rw (← there_now n) (there n s found static);
        places = λ there n s found static. ap (λ (o : Option ℕ). unwrap_or o 0) (there_now n);
        chosen = λ n s found dynamic' kept' c.
            ap (λ (m : ℕ). active_at (presence_at new.memory.slots kept.handles m)) (chosen_is 1 n number c) ∙ active_now;
        far_chosen = λ f n above c. absurd (omega (arith, above, (chosen_file 1 f n number c).0));
        far_others = λ f n above c. far_miss id f n (λ found eq. not_its f found);
        fits = λ n s found c some.
            let same : head_of s ≡ head = same_Some (head_of s) head (sym (heads_at n s found) ∙ ap (at_number kept.heads) (chosen_is 1 n number c) ∙ head') in
            omega (arith, fits some, ap (λ (x : SegmentHead). x.length) same);
        others = λ n s found dynamic' kept' c. ap active_at (presence_apart n (handle_at kept.handles n) refl (not_chosen n c));
        each = λ there n s k found has present. becomes n s k found has present;
      }

      -- the user whose segment it is agrees still
      user_agrees : UserAgrees held new.memory (far_new id) id kept is.user
      user_agrees = turned_agrees held old.memory new.memory (far_old id) (far_new id) id (Some (1, number)) address kept kept is.user is.user is.does_agree
          (entries_lead held old state agrees sound id kept made (Some (1, number)) address (λ t above far c some. absurd (omega (arith, above, (chosen_file 1 t.file t.segment number c).0))) is.does_agree.segments is.does_agree.holds)
          (sound.short place kept its_users.0) turned

      module _ (above : 2 ≤ file) (ne : owner ≢ id) (there : attached_at outs owner file ≡ Some id)
          (only : (q f : ℕ) → 2 ≤ f → attached_at outs q f ≡ Some id → (q ≡ owner) × (f ≡ file)) where
        its : IsKept held old state agrees owner lead
        its = kept_is held old state agrees owner lead lead_made

        place_ne : lead_place ≢ place
        place_ne e = ne (omega (arith, lead_users.1, its_users.1, e))

        lead_heads : (n : ℕ) (s : Segment) → segment_at its.does_agree.segments n ≡ Some s → at_number lead.heads n ≡ Some (head_of s)
        lead_heads n s found = ap (λ (hs : List SegmentHead). at_number hs n) its.does_agree.heads ∙ head_at its.does_agree.segments n s found

        lead_here : (n : ℕ) → presence_at new.memory.slots lead.handles n ≡ presence_at old.memory.slots lead.handles n
        lead_here n = presence_other lead_place lead n lead_users.0 place_ne (handle_at lead.handles n) refl

        not_one : (n : ℕ) → is_chosen (Some (file, number)) 1 n ≡ true → ⊥
        not_one n c = omega (arith, above, (chosen_file file 1 n number c).0)

        lead_becomes : (n : ℕ) (s : Segment) (k : Handle) → segment_at its.does_agree.segments n ≡ Some s → handle_at lead.handles n ≡ Some k → IsSome (there_at (presence_at new.memory.slots lead.handles n))
            → Becomes (setting_with (far_old owner) owner old.memory.slots lead.handles) (setting_with (far_new owner) owner new.memory.slots lead.handles) (Some (file, number)) address old.memory new.memory lead its.user its.user n s k
        lead_becomes n s k found has present =
            let present' : IsSome (there_at (presence new.memory.slots (Some k))) = subst (λ (o : Option Handle). IsSome (there_at (presence new.memory.slots o))) has present in
            let before : IsSome (there_at (presence_at old.memory.slots lead.handles n)) = rw (← lead_here n) present in
            let before' : IsSome (there_at (presence old.memory.slots (Some k))) = subst (λ (o : Option Handle). IsSome (there_at (presence old.memory.slots o))) has before in
            elim (decide (load.is_table s)) [
              | inl table ↦ Turns table has before (bytes_middle k present' ∙ shifted.renewed.follow n (head_of s) k (at_most lead.heads n (head_of s) (lead_heads n s found)) (lead_heads n s found) has table before')
              | inr plain ↦ Stays plain has before (ap (λ (p : Presence). unwrap_or (there_at p) 0) (lead_here n)) refl (bytes_middle k present'
                  ∙ plain_bytes lead_place n (head_of s) k (record { kept = lead; made = lead_users.0; head' = lead_heads n s found; handle = has }) (λ e. plain))
            ]

        lead_turned : Turned old.memory new.memory (far_old owner) (far_new owner) owner (Some (file, number)) address lead lead its.user its.user its.does_agree.segments
        lead_turned = record {
          same = its.does_agree.same;
          path = refl;
          heads = refl;
          count = refl;
          unpoked = its.does_agree.unpoked;
          statics = λ runs n s found static. ap is_active (lead_here n) ∙ its.does_agree.statics runs n s found static;
          were = λ there' n s found static. rw (← lead_here n) (there' n s found static);
          places = λ there' n s found static. ap (λ (p : Presence). unwrap_or (there_at p) 0) (lead_here n);
          chosen = λ n s found dynamic' kept' c. absurd (not_one n c);
          far_chosen = λ f n above' c.
              let both = chosen_file file f n number c in
              ap (λ (m : ℕ). far_new owner f m) both.1 ∙ far_hit owner f (ap (attached_at outs owner) both.0 ∙ there);
          far_others = λ f n above' c. far_miss owner f n (λ found eq.
              let which = only owner f above' found in
              let yes : is_chosen (Some (file, number)) f n ≡ true = ap (λ (g : ℕ). is_chosen (Some (file, number)) g n) which.1 ∙ ap (is_chosen (Some (file, number)) file) eq ∙ chosen_both file number in
              let clash : true ≡ false = sym yes ∙ c in cc);
          fits = λ n s found c some. absurd (not_one n c);
          others = λ n s found dynamic' kept' c. ap active_at (lead_here n);
          each = λ there' n s k found has present. lead_becomes n s k found has present;
        }

        -- an entry that names the segment has an offset in it
        offset_fits : (t : Target) → 2 ≤ t.file → LeadsFar old.users owner t → is_chosen (Some (file, number)) t.file t.segment ≡ true → IsSome address → t.offset < 2 ^ 32
        offset_fits t above' far c some =
            let both = chosen_file file t.file t.segment number c in
            let same : far.other ≡ id = same_Some far.other id (sym far.named ∙ ap (attached_at outs owner) both.0 ∙ there) in
            let user : far.kept ≡ kept = same_Some far.kept kept (sym far.made ∙ ap (user_of old.users) same ∙ made) in
            let its_head : far.head ≡ head = same_Some far.head head (sym far.head' ∙ ap (λ (x : LoadedUser). at_number x.heads t.segment) user ∙ ap (at_number kept.heads) both.1 ∙ head') in
            omega (arith, far.inside, ap (λ (g : SegmentHead). g.length) its_head, fits some)

        -- so does the user whose tables lead to it
        lead_agrees : UserAgrees held new.memory (far_new owner) owner lead its.user
        lead_agrees = turned_agrees held old.memory new.memory (far_old owner) (far_new owner) owner (Some (file, number)) address lead lead its.user its.user its.does_agree
            (entries_lead held old state agrees sound owner lead lead_made (Some (file, number)) address offset_fits its.does_agree.segments its.does_agree.holds) (sound.short lead_place lead lead_users.0) lead_turned

      -- and every other
      others_agree : (p : ℕ) (k : LoadedUser) (user : User) → slice_get old.users p ≡ Some (Some k) → p ≢ place → p ≢ lead_place → ((f n : ℕ) → 2 ≤ f → far_new (first_id + p) f n ≡ far_old (first_id + p) f n)
          → UserAgrees held old.memory (far_old (first_id + p)) (first_id + p) k user → UserAgrees held new.memory (far_new (first_id + p)) (first_id + p) k user
      others_agree p k user made' ne ne' same was' = agrees_still held old.memory new.memory (far_old (first_id + p)) (far_new (first_id + p)) (first_id + p) k user was' (λ n j found.
          let one = has_any old sound p k made' n j found in
          Same (get_apart j (apart p n one.0 j one.1 (λ e q. ne e))) (λ there. bytes_middle j there ∙ plain_bytes p n one.0 j one.1 (λ e. absurd (ne' e)))) same

      user_one : (a b : User) → Some (Some a) ≡ Some (Some b) → a ≡ b
      user_one a b e = cc

      abbrev Agreeing : List (Option LoadedUser) → ℕ → LoadedUser → User → Type 0
      Agreeing users p k user = UserAgrees held new.memory (far_of new.memory.slots (kept_outlines users) (first_id + p)) (first_id + p) k user

      here_agrees : (p : ℕ) (k : LoadedUser) (user : User) → slice_get old.users p ≡ Some (Some k) → slice_get state.users p ≡ Some (Some user) → p ≡ place → Agreeing old.users p k user
      here_agrees p k user made' made'' eq =
          let kept_same : k ≡ kept = kept_one p k made' eq in
          let user_same : user ≡ is.user = user_one user is.user (sym made'' ∙ ap (slice_get state.users) eq ∙ (made_at state.users id is.user is.made).0) in
          let id_is : id ≡ first_id + p = omega (arith, its_users.1, eq) in
          subst (λ (n : ℕ). UserAgrees held new.memory (far_new n) n k user) id_is
          (subst (λ (u : User). UserAgrees held new.memory (far_new id) id k u) (sym user_same) (subst (λ (x : LoadedUser). UserAgrees held new.memory (far_new id) id x is.user) (sym kept_same) user_agrees))

      there_agrees : (p : ℕ) (k : LoadedUser) (user : User) → slice_get old.users p ≡ Some (Some k) → slice_get state.users p ≡ Some (Some user) → p ≢ place
          → UserAgrees held old.memory (far_old (first_id + p)) (first_id + p) k user → Agreeing old.users p k user
      there_agrees p k user made' made'' ne was' = go leading
        where
          go : Leading old.users id owner file → Agreeing old.users p k user
          go (Its same one none) = others_agree p k user made' ne (λ e. ne (omega (arith, e, lead_users.1, its_users.1, same))) (λ f n above. far_miss (first_id + p) f n (λ found eq. none (first_id + p) f found)) was'
          go (Holder above apart' there empty only) = elim (cases_eq p lead_place) [
            | inl eq ↦
                let it = its above apart' there only in
                let kept_same : k ≡ lead = lead_one p k made' eq in
                let user_same : user ≡ it.user = user_one user it.user (sym made'' ∙ ap (slice_get state.users) eq ∙ (made_at state.users owner it.user it.made).0) in
                let id_is : owner ≡ first_id + p = omega (arith, lead_users.1, eq) in
                subst (λ (n : ℕ). UserAgrees held new.memory (far_new n) n k user) id_is
                (subst (λ (u : User). UserAgrees held new.memory (far_new owner) owner k u) (sym user_same) (subst (λ (x : LoadedUser). UserAgrees held new.memory (far_new owner) owner x it.user) (sym kept_same) (lead_agrees above apart' there only)))
            | inr ne' ↦ others_agree p k user made' ne ne' (λ f n above'. far_miss (first_id + p) f n (λ found eq. ne' (omega (arith, (only (first_id + p) f above' found).0, lead_users.1)))) was'
          ]

      pub shifted_agrees : Agrees held new (with_slots state (with_block_changed change state.slots h))
      shifted_agrees = record {
        banks = shifted.changes.kept.banks ∙ shifted.renewed.banks ∙ agrees.banks;
        slots = slots_changed ∙ ap (λ (t : Slots). with_block_changed change t h) agrees.slots;
        users = ap kept_outlines shifted.users ∙ agrees.users;
        attached = subst AreAttached (sym shifted.users) agrees.attached;
        entries = subst (EntriesLead held) (sym shifted.users) agrees.entries;
        each = λ p k user made' made''.
            let old_made : slice_get old.users p ≡ Some (Some k) = ap (λ (us : List (Option LoadedUser)). slice_get us p) (sym shifted.users) ∙ made' in
            subst (λ (us : List (Option LoadedUser)). Agreeing us p k user) (sym shifted.users) (elim (cases_eq p place) [
              | inl eq ↦ here_agrees p k user old_made made'' eq
              | inr ne ↦ there_agrees p k user old_made made'' ne (agrees.each p k user old_made made'')
            ]);
      }
