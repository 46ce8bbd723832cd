-- A user that is restarted in place, with those that are attached to it.
use Rattle.std.proofs.Common.{◌≡◌, ◌≢◌, ◌⊎◌, inl, inr, ℕ, zero, suc, Bool, true, false, cond, ◌==◌, ◌||◌, ◌+◌, ◌-◌, ◌<◌, ◌≤◌, List, [], ◌∷◌, length, map, Option, Some, None, IsSome, refl, sym, ap, subst, ◌∙◌, arith}
use Rattle.std.specs.Prelude.{slice_get, slice_set, option_map, unwrap_or, Contains, not, ◌&&◌}
use Rattle.std.specs.Option.{option_map_or, option_and_then}
use Rattle.std.proofs.lemmas.Bool.{cases_eq, and_parts}
use Rattle.std.proofs.lemmas.Option.{same_Some, slice_get_within}
use Rattle.omf_format.specs.File.{Segment, segment_at}
use Rattle.omf_format.specs.Header.{is_dynamic, is_skipped}
use Rattle.omf_io.specs.Counts.{IsFront}
use Rattle.omf_io.specs.Files.{FileMap}
use Rattle.load_meaning.specs.LoadTable as load
use Rattle.load_meaning.specs.laws.CellLaws.{loadable_has}
use Rattle.iigs_meaning.specs.declared.handles.Handle.{Handle}
use Rattle.iigs_meaning.specs.declared.wants.Block.{Block}
use Rattle.iigs_meaning.specs.Slots.{slot_at, get}
use Rattle.iigs_meaning.specs.Fits.{Slots, block_in}
use Rattle.iigs_meaning.specs.Memory.{Memory, bytes_at}
use Rattle.loader_machine.specs.declared.seen.SegmentHead.{SegmentHead}
use Rattle.loader_machine.specs.declared.seen.Life.TheVariants.{Running, Dormant}
use Rattle.loader_machine.specs.Heads.{head_of, at_number, is_static, is_table}
use Rattle.loader_machine.specs.State.{HeldSegment, User, Machine, fresh, absent, no_pokes, first_id, user_of, with_user, with_all, handles_of, held_at, attached_at, handles_in, Outline, outline_of}
use Rattle.loader_machine.specs.laws.Words as words
use Rattle.loader_machine.specs.declared.seen.Presence.{Presence}
use Rattle.loader_machine.specs.declared.seen.Presence.TheVariants.{Absent, Purged, Idle, Active}
use Rattle.loader_machine.specs.Presences.{handle_at, presence, presence_at, there_at, active_at, is_active, is_there, lies_in, lies_at}
use Rattle.loader_machine.specs.Stands.{AddressSetting, setting, setting_with, far_of, stands}
use Rattle.loader_machine.specs.laws.StandsLaws.{AreAlike, stands_alike}
use Rattle.loader_machine.specs.Steps.{active_block, changed_all, are_there, static_handles, is_read_again, read_again}
use Rattle.loader_agrees.specs.Agrees.{LoadedUser, Loaded, outline, kept_outlines, IsSegments, IsJoined, AreAttached, UserAgrees, Agrees, IsCall, IsOf, Has, IsSound}
use Rattle.loader_agrees.specs.laws.Words.{AreThere, far_in}
use Rattle.loader_agrees.specs.laws.Begun.{decide}
use Rattle.loader_agrees.specs.laws.Frame.{Same, agrees_still}
use Rattle.loader_agrees.specs.laws.Lists.{set_map, set_at, set_apart}
use Rattle.loader_agrees.specs.laws.Reads.{head_at}
use Rattle.loader_agrees.specs.laws.Seeing.{made_at, user_is, IsKept, kept_is, has_any}
use Rattle.loader_agrees.specs.laws.Stay as stay
use Rattle.loader_agrees.specs.laws.RowUsers.{user_there}
use Rattle.sys_loader.specs.declared.answers.Started.{Started}
use Rattle.loader_users.specs.Users.{with_life}
use Rattle.sys_loader.specs.Restarting.{AreReread, HasResumed}
use Rattle.loader_users.proofs.Shifting.{there_block}
use Rattle.sys_loader.proofs.ChangedAll.{all_here, all_apart, all_in}
use Rattle.sys_loader.proofs.Relived as relived
use Rattle.sys_loader.proofs.Together.{is_in, in_row, in_rows, Was, with_all_get, map_all, length_all}

-- ---- static segments and their handles

pub has_handle : (handles : List (Option Handle)) (first : ℕ) → handle_at handles (first + 0) ≡ handle_at handles first
has_handle handles first = let same : first + 0 ≡ first = omega arith in ap (handle_at handles) same

pub next_number : (first k : ℕ) → first + suc k ≡ first + 1 + k
next_number first k = omega arith

pub statics_cons : (g : SegmentHead) (heads : List SegmentHead) (handles : List (Option Handle)) (first : ℕ) → is_static g ≡ true
    → static_handles (g ∷ heads) handles first ≡ handle_at handles first ∷ static_handles heads handles (first + 1)
statics_cons g heads handles first is = rw is refl

pub statics_pass : (g : SegmentHead) (heads : List SegmentHead) (handles : List (Option Handle)) (first : ℕ) → is_static g ≡ false → static_handles (g ∷ heads) handles first ≡ static_handles heads handles (first + 1)
statics_pass g heads handles first is = rw is refl

-- the handle of a static segment is one of them
in_statics : (heads : List SegmentHead) (handles : List (Option Handle)) (first k : ℕ) (head : SegmentHead) (h : Handle) → slice_get heads k ≡ Some head → is_static head ≡ true → handle_at handles (first + k) ≡ Some h
    → (i : ℕ) × (slice_get (static_handles heads handles first) i ≡ Some (Some h))
in_statics [] handles first k head h is static has = absurd cc
in_statics (g ∷ heads) handles first zero head h is static has =
    (zero, ap (λ (l : List (Option Handle)). slice_get l 0) (statics_cons g heads handles first (ap is_static (same_Some g head is) ∙ static)) ∙ ap (λ (o : Option Handle). Some o) (sym (has_handle handles first) ∙ has))
in_statics (g ∷ heads) handles first (suc k) head h is static has =
    let later = in_statics heads handles (first + 1) k head h is static (ap (handle_at handles) (sym (next_number first k)) ∙ has) in
    elim (decide (is_static g)) [
      | inl static' ↦ (suc later.0, ap (λ (l : List (Option Handle)). slice_get l (suc later.0)) (statics_cons g heads handles first static') ∙ later.1)
      | inr other ↦ (later.0, ap (λ (l : List (Option Handle)). slice_get l later.0) (statics_pass g heads handles first other) ∙ later.1)
    ]

-- and each of them is that of one
abbrev IsStatics : List SegmentHead → List (Option Handle) → ℕ → Handle → Type 0
IsStatics heads handles first h = (k : ℕ) × (head : SegmentHead) × (slice_get heads k ≡ Some head) × (is_static head ≡ true) × (handle_at handles (first + k) ≡ Some h)

one_after : (g : SegmentHead) (heads : List SegmentHead) (handles : List (Option Handle)) (first : ℕ) (h : Handle) → IsStatics heads handles (first + 1) h → IsStatics (g ∷ heads) handles first h
one_after g heads handles first h was = (suc was.0, was.1, was.2, was.3, ap (handle_at handles) (next_number first was.0) ∙ was.4)

statics_in : (heads : List SegmentHead) (handles : List (Option Handle)) (first i : ℕ) (h : Handle) → slice_get (static_handles heads handles first) i ≡ Some (Some h) → IsStatics heads handles first h
statics_in [] handles first i h is = absurd cc
statics_in (g ∷ heads) handles first i h is = elim (decide (is_static g)) [
  | inl static ↦ here i static (λ j e. statics_in heads handles (first + 1) j h e) (sym (ap (λ (l : List (Option Handle)). slice_get l i) (statics_cons g heads handles first static)) ∙ is)
  | inr other ↦ one_after g heads handles first h (statics_in heads handles (first + 1) i h (sym (ap (λ (l : List (Option Handle)). slice_get l i) (statics_pass g heads handles first other)) ∙ is))
]
  where
    here : (j : ℕ) → is_static g ≡ true → ((m : ℕ) → slice_get (static_handles heads handles (first + 1)) m ≡ Some (Some h) → IsStatics heads handles (first + 1) h)
        → slice_get (handle_at handles first ∷ static_handles heads handles (first + 1)) j ≡ Some (Some h) → IsStatics (g ∷ heads) handles first h
    here zero static later e = (zero, g, refl, static, has_handle handles first ∙ same_Some (handle_at handles first) (Some h) e)
    here (suc j) static later e = one_after g heads handles first h (later j e)

-- where all static segments are there, each one is
pub there_all : (slots : Slots) (heads : List SegmentHead) (handles : List (Option Handle)) (first k : ℕ) (head : SegmentHead) → are_there slots heads handles first ≡ true → slice_get heads k ≡ Some head → is_static head ≡ true
    → is_there (presence_at slots handles (first + k)) ≡ true
there_all slots [] handles first k head all is static = absurd cc
there_all slots (g ∷ heads) handles first zero head all is static =
    let both = and_parts _ _ all in
    let same : first + 0 ≡ first = omega arith in
    ap (λ (n : ℕ). is_there (presence_at slots handles n)) same ∙ one (is_static g) (ap is_static (same_Some g head is) ∙ static) both.0
  where
    one : (b : Bool) → b ≡ true → cond b (is_there (presence_at slots handles first)) true ≡ true → is_there (presence_at slots handles first) ≡ true
    one true e is = is
    one false e is = absurd cc
there_all slots (g ∷ heads) handles first (suc k) head all is static =
    let both = and_parts _ _ all in
    ap (λ (n : ℕ). is_there (presence_at slots handles n)) (next_number first k) ∙ there_all slots heads handles (first + 1) k head both.1 is static

pub there_some : (p : Presence) → is_there p ≡ true → IsSome (there_at p)
there_some Absent e = absurd cc
there_some (Purged h) e = absurd cc
there_some (Idle h a) e = refl
there_some (Active h a) e = refl

pub number_suc : (heads : List SegmentHead) (n : ℕ) (head : SegmentHead) → at_number heads n ≡ Some head → (k : ℕ) × (n ≡ 1 + k) × (slice_get heads k ≡ Some head)
number_suc heads zero head is = absurd cc
number_suc heads (suc k) head is = (k, omega arith, is)

-- ---- what is held of segments that are read again

again_get : (heads : List SegmentHead) (held : List HeldSegment) (k : ℕ) (head : SegmentHead) → length held ≡ length heads → slice_get heads k ≡ Some head
    → option_map_or (λ (x : HeldSegment). x) (slice_get (read_again heads held) k) absent ≡ cond (is_read_again head) (fresh (option_map_or (λ (x : HeldSegment). x) (slice_get held k) absent).handle) (option_map_or (λ (x : HeldSegment). x) (slice_get held k) absent)
again_get [] held k head long is = absurd cc
again_get (g ∷ heads) [] k head long is = absurd (omega (arith, long))
again_get (g ∷ heads) (x ∷ held) zero head long is = ap (λ (b : SegmentHead). cond (is_read_again b) (fresh x.handle) x) (same_Some g head is)
again_get (g ∷ heads) (x ∷ held) (suc k) head long is = again_get heads held k head (omega (arith, long)) is

again_length : (heads : List SegmentHead) (held : List HeldSegment) → length held ≡ length heads → length (read_again heads held) ≡ length held
again_length [] [] long = refl
again_length [] (x ∷ held) long = absurd (omega (arith, long))
again_length (g ∷ heads) [] long = refl
again_length (g ∷ heads) (x ∷ held) long = ap suc (again_length heads held (omega (arith, long)))

again_handles : (heads : List SegmentHead) (held : List HeldSegment) → length held ≡ length heads → map (λ (x : HeldSegment). x.handle) (read_again heads held) ≡ map (λ (x : HeldSegment). x.handle) held
again_handles [] [] long = refl
again_handles [] (x ∷ held) long = absurd (omega (arith, long))
again_handles (g ∷ heads) [] long = refl
again_handles (g ∷ heads) (x ∷ held) long =
    let rest = again_handles heads held (omega (arith, long)) in
    ap (λ (o : Option Handle). o ∷ map (λ (y : HeldSegment). y.handle) (read_again heads held)) (by (is_read_again g)) ∙ ap (λ (l : List (Option Handle)). x.handle ∷ l) rest
  where
    by : (b : Bool) → (cond b (fresh x.handle) x).handle ≡ x.handle
    by true = refl
    by false = refl

-- ---- the loader

pub again_is : (b : Block) → active_block (active_block b) ≡ active_block b
again_is b = refl

-- nothing but bytes changes, and no block's size
pub record IsQuiet (old new : Memory) : Type 0 where
  pub banks : new.banks ≡ old.banks
  pub slots : new.slots ≡ old.slots
  pub sizes : (slot : ℕ) → length (bytes_at new slot) ≡ length (bytes_at old slot)

pub quiet_reread : (segments : List Segment) (id : ℕ) (kept : LoadedUser) (old new : Memory) → AreReread segments id kept old new → IsQuiet old new
quiet_reread segments id kept old new reread = record { banks = reread.banks; slots = reread.slots; sizes = reread.sizes }

module _ (old new : Loaded) (id : ℕ) (kept : LoadedUser) (started : Started) (sound : IsSound old.memory old.users) (made : user_of old.users id ≡ Some kept)
    (rests : kept.life ≡ Dormant) (top : (q f : ℕ) → attached_at (kept_outlines old.users) q f ≡ Some id → ⊥)
    (whole : are_there old.memory.slots kept.heads kept.handles 1 ≡ true) (middle : Memory) (quiet : IsQuiet old.memory middle) (did : HasResumed middle old.users id kept started new) where
  abbrev place : ℕ
  place = id - first_id

  abbrev runs : LoadedUser
  runs = with_life Running kept

  -- it and those that are attached to it
  abbrev ids : List ℕ
  ids = id ∷ kept.attached

  abbrev In : ℕ → Bool
  In p = is_in ids (first_id + p)

  abbrev statics : List (Option Handle)
  statics = static_handles kept.heads kept.handles 1

  its_users : (slice_get old.users place ≡ Some (Some kept)) × (first_id + place ≡ id)
  its_users = made_at old.users id kept made

  slots_are : new.memory.slots ≡ changed_all active_block old.memory.slots (static_handles kept.heads kept.handles 1)
  slots_are = did.slots ∙ ap (λ (t : Slots). changed_all active_block t (static_handles kept.heads kept.handles 1)) quiet.slots

  kept_one : (a b : LoadedUser) → Some (Some a) ≡ Some (Some b) → a ≡ b
  kept_one a b e = cc

  are : new.users ≡ with_all (with_life Running) old.users ids
  are = did.users' ∙ sym (ap (λ (o : Option LoadedUser). with_all (with_life Running) (option_map_or (λ (u : LoadedUser). with_user old.users id (Some (with_life Running u))) o old.users) kept.attached) made)

  has_id : is_in ids id ≡ true
  has_id = let test : (id == id) ≡ true = grind arith in rw test refl

  has_rows : (i n : ℕ) → slice_get kept.attached i ≡ Some n → is_in ids n ≡ true
  has_rows i n is = go (id == n) (in_row kept.attached i n is)
    where
      go : (b : Bool) → is_in kept.attached n ≡ true → (b || is_in kept.attached n) ≡ true
      go true e = refl
      go false e = e

  either : (n : ℕ) → is_in ids n ≡ true → (n ≡ id) ⊎ ((i : ℕ) × (slice_get kept.attached i ≡ Some n))
  either n inside = elim (cases_eq id n) [
    | inl eq ↦ inl (sym eq)
    | inr ne ↦ (let test : (id == n) ≡ false = grind arith in inr (in_rows kept.attached n (rw test at inside)))
  ]

  which : (p : ℕ) (k : LoadedUser) → slice_get old.users p ≡ Some (Some k) → In p ≡ true → ((p ≡ place) × (k ≡ kept)) ⊎ ((i : ℕ) × (slice_get kept.attached i ≡ Some (first_id + p)) × IsJoined kept.life k)
  which p k made' inside = relived.which old.users sound.attached id kept made top ids has_id has_rows either p k made' inside

  place_in : In place ≡ true
  place_in = ap (is_in ids) its_users.1 ∙ has_id

  users_now : (p : ℕ) (k : LoadedUser) → slice_get new.users p ≡ Some (Some k) → Was (with_life Running) (relived.life_again Running) old.users ids p k
  users_now p k made' = relived.users_now old.users new.users Running ids are p k made'

  has_before : (p n : ℕ) (head : SegmentHead) (h : Handle) → Has new.users p n head h → Has old.users p n head h
  has_before p n head h has = relived.has_before old.users new.users Running ids are p n head h has

  abbrev own : (n : ℕ) (head : SegmentHead) (h : Handle) → at_number kept.heads n ≡ Some head → handle_at kept.handles n ≡ Some h → Has old.users place n head h
  own n head h found has = record { kept = kept; made = its_users.0; head' = found; handle = has }

  -- ---- blocks

  static_get : (n : ℕ) (head : SegmentHead) (h : Handle) (b : Block) → at_number kept.heads n ≡ Some head → is_static head ≡ true → handle_at kept.handles n ≡ Some h → get old.memory.slots h ≡ Some b
      → get new.memory.slots h ≡ Some (active_block b)
  static_get n head h b found static has live =
      let at = number_suc kept.heads n head found in
      let i = in_statics kept.heads kept.handles 1 at.0 head h at.2 static (ap (handle_at kept.handles) (sym at.1) ∙ has) in
      ap (λ (t : Slots). get t h) slots_are ∙ all_here active_block again_is old.memory.slots (static_handles kept.heads kept.handles 1) h b i.0 live i.1

  -- any other segment's is as before
  apart_get : (p n : ℕ) (head : SegmentHead) (h : Handle) → Has old.users p n head h → ((p ≡ place) → is_static head ≡ false) → get new.memory.slots h ≡ get old.memory.slots h
  apart_get p n head h has other = ap (λ (t : Slots). get t h) slots_are ∙ all_apart active_block again_is old.memory.slots (static_handles kept.heads kept.handles 1) h (λ i k found same.
      let one = statics_in kept.heads kept.handles 1 i k found in
      let more : 1 + one.0 ≡ suc one.0 = omega arith in
      let has' : Has old.users place (1 + one.0) one.1 k = own (1 + one.0) one.1 k (ap (at_number kept.heads) more ∙ one.2) one.4 in
      let both = sound.once p place n (1 + one.0) head one.1 h k has has' same in
      let kept_same : has.kept ≡ kept = kept_one has.kept kept (sym has.made ∙ ap (slice_get old.users) both.0 ∙ its_users.0) in
      let heads' : Some head ≡ Some one.1 = sym has.head' ∙ ap (λ (x : LoadedUser). at_number x.heads n) kept_same ∙ ap (at_number kept.heads) both.1 ∙ has'.head' in
      let clash : true ≡ false = sym one.3 ∙ ap is_static (sym (same_Some head one.1 heads')) ∙ other both.0 in absurd cc)

  none_in : (n : ℕ) → ¬ Contains {X = ℕ} [] n
  none_in n found = omega (arith, found.1)

  bytes_middle : (h : Handle) → IsSome (there_at (presence new.memory.slots (Some h))) → bytes_at new.memory h.slot ≡ bytes_at middle h.slot
  bytes_middle h there = did.bytes.bytes h.slot (none_in h.slot) (stay.is_there new.memory h there)

  sizes : (h : Handle) → IsSome (there_at (presence new.memory.slots (Some h))) → length (bytes_at new.memory h.slot) ≡ length (bytes_at old.memory h.slot)
  sizes h there = ap length (bytes_middle h there) ∙ quiet.sizes h.slot

  -- a block of a segment afterwards: as before, but a static one of the user is active
  record IsAfter (h : Handle) (b : Block) : Type 0 where
    after : Block
    live : get new.memory.slots h ≡ Some after
    at : after.at ≡ b.at
    user : after.user ≡ b.user
    want : after.want ≡ b.want
    movable : after.movable ≡ b.movable
    form : IsSegments b → IsSegments after

  after_get : (p n : ℕ) (head : SegmentHead) (h : Handle) (b : Block) → Has old.users p n head h → get old.memory.slots h ≡ Some b → IsAfter h b
  after_get p n head h b has live = elim (cases_eq p place) [
    | inl eq ↦ elim (decide (is_static head)) [
      | inl static ↦
          let same : has.kept ≡ kept = kept_one has.kept kept (sym has.made ∙ ap (slice_get old.users) eq ∙ its_users.0) in
          let head' : at_number kept.heads n ≡ Some head = ap (λ (k : LoadedUser). at_number k.heads n) (sym same) ∙ has.head' in
          let handle : handle_at kept.handles n ≡ Some h = ap (λ (k : LoadedUser). handle_at k.handles n) (sym same) ∙ has.handle in
          record { after = active_block b; live = static_get n head h b head' static handle live; at = refl; user = refl; want = refl; movable = refl; form = λ was. inl (refl, refl) }
      | inr other ↦ as_was (apart_get p n head h has (λ e. other))
    ]
    | inr ne ↦ as_was (apart_get p n head h has (λ e. absurd (ne e)))
  ]
    where
      as_was : get new.memory.slots h ≡ get old.memory.slots h → IsAfter h b
      as_was same = record { after = b; live = same ∙ live; at = refl; user = refl; want = refl; movable = refl; form = λ was. was }

  each_before : (p n : ℕ) (head : SegmentHead) (h : Handle) → Has old.users p n head h → IsOf new.memory (first_id + p) head h
  each_before p n head h has =
      let of' = sound.each p n head h has in
      let it = after_get p n head h of'.block has of'.live in
      record {
        block = it.after;
        live = it.live;
        user = it.user ∙ of'.user;
        fixed = it.movable ∙ of'.fixed;
        form = it.form of'.form;
        want = omega (arith, of'.want, ap (λ w. w.size) it.want);
        room = λ there.
            let present : IsSome (there_at (presence new.memory.slots (Some h))) = subst (λ (o : Option Block). IsSome (there_at (lies_in h o))) (sym it.live) (there_block h it.after there) in
            omega (arith, of'.room (subst (λ (o : Option ℕ). IsSome o) it.at there), sizes h present);
      }

  -- the static segments were there
  was_there : (n : ℕ) (head : SegmentHead) → at_number kept.heads n ≡ Some head → is_static head ≡ true → IsSome (there_at (presence_at old.memory.slots kept.handles n))
  was_there n head found static =
      let at = number_suc kept.heads n head found in
      there_some (presence_at old.memory.slots kept.handles n)
      (ap (λ (m : ℕ). is_there (presence_at old.memory.slots kept.handles m)) at.1 ∙ there_all old.memory.slots kept.heads kept.handles 1 at.0 head whole at.2 static)

  static_active : (n : ℕ) (head : SegmentHead) → at_number kept.heads n ≡ Some head → is_static head ≡ true → is_active (presence_at new.memory.slots kept.handles n) ≡ true
  static_active n head found static = go (handle_at kept.handles n) refl (was_there n head found static)
    where
      active_here : (h : Handle) (at : Option ℕ) → IsSome at → is_active (lies_at h at true) ≡ true
      active_here h None some = absurd cc
      active_here h (Some a) some = refl

      some_at : (h : Handle) (at : Option ℕ) (locked : Bool) → IsSome (there_at (lies_at h at locked)) → IsSome at
      some_at h None locked e = absurd cc
      some_at h (Some a) locked e = refl

      go : (o : Option Handle) → handle_at kept.handles n ≡ o → IsSome (there_at (presence old.memory.slots o)) → is_active (presence_at new.memory.slots kept.handles n) ≡ true
      go None e there = absurd cc
      go (Some h) e there =
          let of' = sound.each place n head h (own n head h found e) in
          let some = some_at h of'.block.at of'.block.locked (subst (λ (o : Option Block). IsSome (there_at (lies_in h o))) of'.live there) in
          ap (λ (o : Option Handle). is_active (presence new.memory.slots o)) e
          ∙ ap (λ (o : Option Block). is_active (lies_in h o)) (static_get n head h of'.block found static e of'.live) ∙ active_here h of'.block.at some

  -- the segments of any other user are as before
  other_same : (p : ℕ) (k : LoadedUser) → slice_get old.users p ≡ Some (Some k) → p ≢ place → (n : ℕ) (o : Option Handle) → handle_at k.handles n ≡ o → presence new.memory.slots o ≡ presence old.memory.slots o
  other_same p k made' ne n None e = refl
  other_same p k made' ne n (Some h) e = let one = has_any old sound p k made' n h e in ap (lies_in h) (apart_get p n one.0 h one.1 (λ eq. absurd (ne eq)))

  none_static : (d s : Bool) → d ≡ true → (not d && not s) ≡ true → ⊥
  none_static true s e e' = cc
  none_static false s e e' = cc

  statics_now : (p : ℕ) (k : LoadedUser) (n : ℕ) (head : SegmentHead) → slice_get new.users p ≡ Some (Some k) → k.life ≡ Running → at_number k.heads n ≡ Some head → is_static head ≡ true
      → is_active (presence_at new.memory.slots k.handles n) ≡ true
  statics_now p k n head made' life found static = go (users_now p k made')
    where
      go : Was (with_life Running) (relived.life_again Running) old.users ids p k → is_active (presence_at new.memory.slots k.handles n) ≡ true
      go w = elim w.is [
        | inl inside ↦ elim (which p w.was w.made inside.0) [
          | inl here ↦
              let it : k ≡ runs = inside.1 ∙ ap (with_life Running) here.1 in
              subst (λ (x : LoadedUser). is_active (presence_at new.memory.slots x.handles n) ≡ true) (sym it) (static_active n head (ap (λ (x : LoadedUser). at_number x.heads n) (sym it) ∙ found) static)
          | inr row ↦
              let kind = row.2.dynamic n head (ap (λ (x : LoadedUser). at_number x.heads n) (sym inside.1) ∙ found) in
              absurd (none_static (is_dynamic head.kind) (is_skipped head.kind) kind.0 static)
        ]
        | inr outside ↦
            let made'' : slice_get old.users p ≡ Some (Some k) = w.made ∙ ap (λ (x : LoadedUser). Some (Some x)) (sym outside.1) in
            let ne : p ≢ place = λ eq. (let clash : false ≡ true = sym outside.0 ∙ ap In eq ∙ place_in in absurd cc) in
            ap is_active (other_same p k made'' ne n (handle_at k.handles n) refl) ∙ sound.statics p k n head made'' life found static
      ]

  rests_now : (p : ℕ) (k : LoadedUser) (n : ℕ) → slice_get new.users p ≡ Some (Some k) → k.life ≡ Dormant → is_active (presence_at new.memory.slots k.handles n) ≡ false
  rests_now p k n made' life = go (users_now p k made')
    where
      go : Was (with_life Running) (relived.life_again Running) old.users ids p k → is_active (presence_at new.memory.slots k.handles n) ≡ false
      go w = elim w.is [
        | inl inside ↦ (let clash : Running ≡ Dormant = ap (λ (x : LoadedUser). x.life) (sym inside.1) ∙ life in absurd cc)
        | inr outside ↦
            let made'' : slice_get old.users p ≡ Some (Some k) = w.made ∙ ap (λ (x : LoadedUser). Some (Some x)) (sym outside.1) in
            let ne : p ≢ place = λ eq. (let clash : false ≡ true = sym outside.0 ∙ ap In eq ∙ place_in in absurd cc) in
            ap is_active (other_same p k made'' ne n (handle_at k.handles n) refl) ∙ sound.rests p k n made'' life
      ]

  only_now : (slot : ℕ) (b : Block) → block_in (slot_at new.memory.slots slot) ≡ Some b → b.user ≢ 0
      → (p : ℕ) × (n : ℕ) × (head : SegmentHead) × (h : Handle) × Has new.users p n head h × (h.slot ≡ slot)
  only_now slot b found user =
      let was = all_in active_block again_is (λ x. refl) old.memory.slots (static_handles kept.heads kept.handles 1) slot b (sym (ap (λ (t : Slots). block_in (slot_at t slot)) slots_are) ∙ found) in
      let it = sound.only slot was.0 was.1 (λ e. user (sym was.2 ∙ e)) in
      (it.0, it.1, it.2, it.3, relived.has_now old.users new.users Running ids are it.0 it.1 it.2 it.3 it.4, it.5)

  attached_now : AreAttached new.users
  attached_now = relived.attached_now old.users new.users Running ids are sound.attached (relived.together old.users sound.attached id kept made top ids has_id has_rows either)

  -- where each segment is stays
  place_same : (p n : ℕ) (g : SegmentHead) (j : Handle) → Has old.users p n g j → there_at (presence new.memory.slots (Some j)) ≡ there_at (presence old.memory.slots (Some j))
  place_same p n g j has =
      let of' = sound.each p n g j has in
      let it = after_get p n g j of'.block has of'.live in
      ap (λ (o : Option Block). there_at (lies_in j o)) it.live ∙ ap (λ (at : Option ℕ). there_at (lies_at j at it.after.locked)) it.at
      ∙ lies_alike j of'.block.at it.after.locked of'.block.locked ∙ sym (ap (λ (o : Option Block). there_at (lies_in j o)) of'.live)
    where
      lies_alike : (h : Handle) (at : Option ℕ) (one other : Bool) → there_at (lies_at h at one) ≡ there_at (lies_at h at other)
      lies_alike h None one other = refl
      lies_alike h (Some a) true true = refl
      lies_alike h (Some a) true false = refl
      lies_alike h (Some a) false true = refl
      lies_alike h (Some a) false false = refl

  -- where each entry leads to a segment before the call
  abbrev AreCalls : Type 0
  AreCalls = (p n k : ℕ) (g : SegmentHead) (j : Handle) → Has old.users p n g j → is_table g ≡ true → IsSome (there_at (presence old.memory.slots (Some j))) → k < load.entry_count g.length
      → IsCall old.users (first_id + p) (load.target_at (bytes_at middle j.slot) k)

  calls_now : AreCalls → (p n k : ℕ) (g : SegmentHead) (j : Handle) → Has new.users p n g j → is_table g ≡ true → IsSome (there_at (presence new.memory.slots (Some j))) → k < load.entry_count g.length
      → IsCall new.users (first_id + p) (load.target_at (bytes_at new.memory j.slot) k)
  calls_now calls p n k g j has' table there inside =
      let has = has_before p n g j has' in
      let was : IsSome (there_at (presence old.memory.slots (Some j))) = subst (λ (o : Option ℕ). IsSome o) (place_same p n g j has) there in
      subst (λ (bs : List ℕ). IsCall new.users (first_id + p) (load.target_at bs k)) (sym (bytes_middle j there))
      (relived.call_now old.users new.users Running ids are (first_id + p) (load.target_at (bytes_at middle j.slot) k) (calls p n k g j has table was inside))

  pub resumed_sound : AreCalls → IsSound new.memory new.users
  resumed_sound calls = record {
    few = omega (arith, sound.few, ap (λ (us : List (Option LoadedUser)). length us) are, length_all (with_life Running) old.users ids);
    lengths = λ p k made'. let w = relived.users_now old.users new.users Running ids are p k made' in let same = relived.same_but old.users new.users Running ids are p k made' in omega (arith, sound.lengths p w.was w.made, ap length same.0, ap length same.1);
    short = λ p k made'. let w = relived.users_now old.users new.users Running ids are p k made' in let same = relived.same_but old.users new.users Running ids are p k made' in omega (arith, sound.short p w.was w.made, ap length same.1);
    statics = statics_now;
    rests = rests_now;
    each = λ p n head h has. each_before p n head h (has_before p n head h has);
    once = λ p q n m head second h k one two same. sound.once p q n m head second h k (has_before p n head h one) (has_before q m second k two) same;
    only = only_now;
    attached = attached_now;
    calls = calls_now calls;
  }

  -- ---- attached segments

  by_place : (p : Presence) → is_active p ≡ false → active_at p ≡ None
  by_place Absent e = refl
  by_place (Purged h) e = refl
  by_place (Idle h a) e = refl
  by_place (Active h a) e = absurd cc

  is_row : (p : ℕ) (k : LoadedUser) (f : ℕ) → slice_get old.users p ≡ Some (Some k) → attached_at (kept_outlines old.users) (first_id + p) f ≡ slice_get k.attached (f - 2)
  is_row p k f made' = rw (user_is outline old.users (first_id + p), user_there old.users p k made') refl

  -- they are where they were
  far_same : (p : ℕ) (k : LoadedUser) → slice_get old.users p ≡ Some (Some k) → (f n : ℕ) → far_of new.memory.slots (kept_outlines new.users) (first_id + p) f n ≡ far_of old.memory.slots (kept_outlines old.users) (first_id + p) f n
  far_same p k made' f n =
      let now = relived.user_then old.users new.users Running ids are (first_id + p) k (user_there old.users p k made') in
      let row : attached_at (kept_outlines new.users) (first_id + p) f ≡ slice_get k.attached (f - 2) = rw (user_is outline new.users (first_id + p), now.1) (ap (λ (ns : List ℕ). slice_get ns (f - 2)) now.3) in
      rw (row, is_row p k f made') (go (slice_get k.attached (f - 2)) refl)
    where
      other : (m : ℕ) → slice_get k.attached (f - 2) ≡ Some m
          → active_at (presence_at new.memory.slots (handles_in (kept_outlines new.users) m) n) ≡ active_at (presence_at old.memory.slots (handles_in (kept_outlines old.users) m) n)
      other m is =
          let one = sound.attached.each p (f - 2) m k made' is in
          let there = made_at old.users m one.0 one.1 in
          let then' = relived.user_then old.users new.users Running ids are m one.0 one.1 in
          let ne : m - first_id ≢ place = λ eq. top (first_id + p) f (is_row p k f made' ∙ is ∙ ap (λ (x : ℕ). Some x) (omega (arith, eq, there.1, its_users.1))) in
          let its : handles_in (kept_outlines new.users) m ≡ one.0.handles = rw (user_is outline new.users m, then'.1) then'.4 in
          let was : handles_in (kept_outlines old.users) m ≡ one.0.handles = rw (user_is outline old.users m, one.1) refl in
          rw (its, was) (ap active_at (other_same (m - first_id) one.0 there.0 ne n (handle_at one.0.handles n) refl))

      go : (o : Option ℕ) → slice_get k.attached (f - 2) ≡ o
          → option_and_then (λ (m : ℕ). active_at (presence_at new.memory.slots (handles_in (kept_outlines new.users) m) n)) o
          ≡ option_and_then (λ (m : ℕ). active_at (presence_at old.memory.slots (handles_in (kept_outlines old.users) m) n)) o
      go None e = refl
      go (Some m) e = other m e

  -- and none of those of the user is active
  far_none : (f n : ℕ) → far_of old.memory.slots (kept_outlines old.users) id f n ≡ None
  far_none f n = subst (λ (q : ℕ). far_of old.memory.slots (kept_outlines old.users) q f n ≡ None) its_users.1 (rw (is_row place kept f its_users.0) (go (slice_get kept.attached (f - 2)) refl))
    where
      go : (o : Option ℕ) → slice_get kept.attached (f - 2) ≡ o → option_and_then (λ (m : ℕ). active_at (presence_at old.memory.slots (handles_in (kept_outlines old.users) m) n)) o ≡ None
      go None e = refl
      go (Some m) e =
          let one = sound.attached.each place (f - 2) m kept its_users.0 e in
          let there = made_at old.users m one.0 one.1 in
          let was : handles_in (kept_outlines old.users) m ≡ one.0.handles = rw (user_is outline old.users m, one.1) refl in
          ap (λ (hs : List (Option Handle)). active_at (presence_at old.memory.slots hs n)) was
          ∙ by_place (presence_at old.memory.slots one.0.handles n) (sound.rests (m - first_id) one.0 n there.0 (one.2.same ∙ rests))

  -- ---- agreement

  there_now : (n : ℕ) → there_at (presence_at new.memory.slots kept.handles n) ≡ there_at (presence_at old.memory.slots kept.handles n)
  there_now n = go (handle_at kept.handles n) refl
    where
      lies_alike : (h : Handle) (at : Option ℕ) (one other : Bool) → there_at (lies_at h at one) ≡ there_at (lies_at h at other)
      lies_alike h None one other = refl
      lies_alike h (Some a) true true = refl
      lies_alike h (Some a) true false = refl
      lies_alike h (Some a) false true = refl
      lies_alike h (Some a) false false = refl

      go : (o : Option Handle) → handle_at kept.handles n ≡ o → there_at (presence new.memory.slots o) ≡ there_at (presence old.memory.slots o)
      go None e = refl
      go (Some h) e =
          let one = has_any old sound place kept its_users.0 n h e in
          let of' = sound.each place n one.0 h one.1 in
          let it = after_get place n one.0 h of'.block one.1 of'.live in
          ap (λ (o : Option Block). there_at (lies_in h o)) it.live ∙ ap (λ (at : Option ℕ). there_at (lies_at h at it.after.locked)) it.at
          ∙ lies_alike h of'.block.at it.after.locked of'.block.locked ∙ sym (ap (λ (o : Option Block). there_at (lies_in h o)) of'.live)

  -- a dynamic segment is as before
  dynamic_now : (n : ℕ) (head : SegmentHead) → at_number kept.heads n ≡ Some head → is_static head ≡ false → presence_at new.memory.slots kept.handles n ≡ presence_at old.memory.slots kept.handles n
  dynamic_now n head found other = go (handle_at kept.handles n) refl
    where
      go : (o : Option Handle) → handle_at kept.handles n ≡ o → presence new.memory.slots o ≡ presence old.memory.slots o
      go None e = refl
      go (Some h) e = ap (lies_in h) (apart_get place n head h (own n head h found e) (λ eq. other))

  module _ (segments : List Segment) (reread : AreReread segments id kept old.memory middle)
      (held : FileMap) (state : Machine) (agrees : Agrees held old state) (same_segments : (kept_is held old state agrees id kept made).does_agree.segments ≡ segments) where
    -- the bytes of a segment that isn't read again stay
    plain_bytes : (p n : ℕ) (g : SegmentHead) (k : Handle) → Has old.users p n g k → ((p ≡ place) → is_read_again g ≡ false) → bytes_at middle k.slot ≡ bytes_at old.memory k.slot
    plain_bytes p n g k has plain = reread.stay k.slot (λ m f j fhead again fhandle same.
        let other = own m f j fhead fhandle in
        let both = sound.once place p m n f g j k other has same in
        let kept_same : has.kept ≡ kept = kept_one has.kept kept (sym has.made ∙ ap (slice_get old.users) (sym both.0) ∙ its_users.0) in
        let heads' : Some g ≡ Some f = sym has.head' ∙ ap (λ (x : LoadedUser). at_number x.heads n) kept_same ∙ ap (at_number kept.heads) (sym both.1) ∙ fhead in
        let clash : true ≡ false = sym again ∙ ap is_read_again (sym (same_Some g f heads')) ∙ plain (sym both.0) in absurd cc)

    abbrev is : IsKept held old state agrees id kept
    is = kept_is held old state agrees id kept made

    abbrev user : User
    user = is.user

    abbrev user' : User
    user' = record is.user { life = Running; segments = read_again (map head_of is.does_agree.segments) is.user.segments }

    count : length is.user.segments ≡ length (map head_of is.does_agree.segments)
    count = is.does_agree.count ∙ sym (Rattle.std.proofs.lemmas.List.length-map is.does_agree.segments head_of)

    heads_at : (n : ℕ) (s : Segment) → segment_at is.does_agree.segments n ≡ Some s → at_number kept.heads n ≡ Some (head_of s)
    heads_at n s found = ap (λ (hs : List SegmentHead). at_number hs n) is.does_agree.heads ∙ head_at is.does_agree.segments n s found

    abbrev a : AddressSetting
    a = setting_with (far_in old id) id old.memory.slots kept.handles

    abbrev b : AddressSetting
    b = setting_with (far_in new id) id new.memory.slots kept.handles

    not_static : (s : Segment) → is_dynamic s.fields.kind ≡ true → is_static (head_of s) ≡ false
    not_static s dynamic = rw dynamic refl

    its_far : (f m : ℕ) → far_of old.memory.slots (kept_outlines old.users) id f m ≡ far_of new.memory.slots (kept_outlines new.users) id f m
    its_far f m = subst (λ (q : ℕ). far_of old.memory.slots (kept_outlines old.users) q f m ≡ far_of new.memory.slots (kept_outlines new.users) q f m) its_users.1 (sym (far_same place kept its_users.0 f m))

    far_both : (file m : ℕ) → 2 ≤ file → a.target file m ≡ b.target file m
    far_both file m above = let other : (file == 1) ≡ false = grind arith in rw other (its_far file m)

    -- a fresh segment's content is the same where no attached segment is active
    alone_stands : (n : ℕ) (s : Segment) → segment_at is.does_agree.segments n ≡ Some s → stands (setting id old.memory.slots kept.handles) no_pokes s ≡ stands a no_pokes s
    alone_stands n s found =
        let front : AreAlike is.does_agree.segments n s (setting id old.memory.slots kept.handles) a = record {
          id = refl;
          own = refl;
          static = λ m t found' static. refl;
          target = λ table m t found' dynamic loaded. refl;
          far = λ table file m above. (let other : (file == 1) ≡ false = grind arith in rw other (sym (far_none file m)));
        } in
        stands_alike is.does_agree.segments n s (loadable_has is.does_agree.holds.file is.does_agree.segments is.does_agree.holds.loadable n s found) (setting id old.memory.slots kept.handles) a front no_pokes

    alike : (n : ℕ) (s : Segment) → AreAlike is.does_agree.segments n s a b
    alike n s = record {
      id = refl;
      own = ap (λ (o : Option ℕ). unwrap_or o 0) (sym (there_now n));
      static = λ m t found static. ap (λ (o : Option ℕ). unwrap_or o 0) (sym (there_now m));
      target = λ table m t found dynamic kept'. ap active_at (sym (dynamic_now m (head_of t) (heads_at m t found) (not_static t dynamic)));
      far = λ table file m above. far_both file m above;
    }

    alike_stands : (n : ℕ) (s : Segment) (pokes : Rattle.loader_machine.specs.State.Pokes) → segment_at is.does_agree.segments n ≡ Some s → stands a pokes s ≡ stands b pokes s
    alike_stands n s pokes found = stands_alike is.does_agree.segments n s (loadable_has is.does_agree.holds.file is.does_agree.segments is.does_agree.holds.loadable n s found) a b (alike n s) pokes

    pokes_now : (n : ℕ) (s : Segment) → segment_at is.does_agree.segments n ≡ Some s → held_at user' n ≡ cond (is_read_again (head_of s)) (fresh (held_at user n).handle) (held_at user n)
    pokes_now zero s found = absurd cc
    pokes_now (suc k) s found = again_get (map head_of is.does_agree.segments) is.user.segments k (head_of s) count (head_at is.does_agree.segments (suc k) s found)

    begins : AreThere old.memory.slots kept.handles is.does_agree.segments → (n : ℕ) (s : Segment) (h : Handle) → segment_at is.does_agree.segments n ≡ Some s → handle_at kept.handles n ≡ Some h
        → IsSome (there_at (presence_at new.memory.slots kept.handles n)) → IsFront (stands b (held_at user' n).pokes s) (bytes_at new.memory h.slot)
    begins there n s h found has present =
        let present' : IsSome (there_at (presence new.memory.slots (Some h))) = subst (λ (o : Option Handle). IsSome (there_at (presence new.memory.slots o))) has present in
        elim (decide (is_read_again (head_of s))) [
          | inl again ↦
              let front = reread.begins n s h (subst (λ (ss : List Segment). segment_at ss n ≡ Some s) same_segments found) again has in
              let pokes : (held_at user' n).pokes ≡ no_pokes = ap (λ (x : HeldSegment). x.pokes) (pokes_now n s found) ∙ ap (λ (t : Bool). (cond t (fresh (held_at user n).handle) (held_at user n)).pokes) again in
              let front' = subst (λ (bs : List ℕ). IsFront bs (bytes_at middle h.slot)) (alone_stands n s found) front in
              rw (pokes, ← alike_stands n s no_pokes found, bytes_middle h present') front'
          | inr plain ↦
              let before : IsSome (there_at (presence_at old.memory.slots kept.handles n)) = rw (← there_now n) present in
              let front = is.does_agree.begins there n s h found has before in
              let pokes : (held_at user' n).pokes ≡ (held_at user n).pokes = ap (λ (x : HeldSegment). x.pokes) (pokes_now n s found) ∙ ap (λ (t : Bool). (cond t (fresh (held_at user n).handle) (held_at user n)).pokes) plain in
              let bytes : bytes_at new.memory h.slot ≡ bytes_at old.memory h.slot = bytes_middle h present' ∙ plain_bytes place n (head_of s) h (own n (head_of s) h (heads_at n s found) has) (λ e. plain) in
              rw (pokes, ← alike_stands n s (held_at user n).pokes found, bytes) front
        ]

    unpoked : (n : ℕ) (s : Segment) → segment_at is.does_agree.segments n ≡ Some s → load.is_table s ≡ true → (held_at user' n).pokes ≡ no_pokes
    unpoked n s found table = elim (decide (is_read_again (head_of s))) [
      | inl again ↦ ap (λ (x : HeldSegment). x.pokes) (pokes_now n s found) ∙ ap (λ (t : Bool). (cond t (fresh (held_at user n).handle) (held_at user n)).pokes) again
      | inr plain ↦ ap (λ (x : HeldSegment). x.pokes) (pokes_now n s found) ∙ ap (λ (t : Bool). (cond t (fresh (held_at user n).handle) (held_at user n)).pokes) plain ∙ is.does_agree.unpoked n s found table
    ]

    outlines : outline runs ≡ outline_of user'
    outlines =
        let new_life : Outline → Outline = λ o. record o { life = Running } in
        ap new_life is.does_agree.same
        ∙ ap (λ (hs : List (Option Handle)). let o : Outline = record { path = is.user.path; life = Running; handles = hs; attached = is.user.attached } in o) (sym (again_handles (map head_of is.does_agree.segments) is.user.segments count))

    user_agrees : UserAgrees held new.memory (far_in new id) id runs user'
    user_agrees = record {
      same = outlines;
      segments = is.does_agree.segments;
      holds = is.does_agree.holds;
      heads = is.does_agree.heads;
      count = again_length (map head_of is.does_agree.segments) is.user.segments count ∙ is.does_agree.count;
      unpoked = unpoked;
      statics = λ life n s found static. static_active n (head_of s) (heads_at n s found) static;
      begins = λ there n s h found has present. begins (λ m t found' static. was_there m (head_of t) (heads_at m t found') static) n s h found has present;
    }

    -- the others agree still, and those that are attached run
    others_agree : (p : ℕ) (k : LoadedUser) (u : User) → slice_get old.users p ≡ Some (Some k) → p ≢ place → UserAgrees held old.memory (far_in old (first_id + p)) (first_id + p) k u → UserAgrees held new.memory (far_in new (first_id + p)) (first_id + p) k u
    others_agree p k u made' ne was = agrees_still held old.memory new.memory (far_in old (first_id + p)) (far_in new (first_id + p)) (first_id + p) k u was
        (λ n j found.
        let one = has_any old sound p k made' n j found in
        Same (apart_get p n one.0 j one.1 (λ e. absurd (ne e))) (λ there. bytes_middle j there ∙ plain_bytes p n one.0 j one.1 (λ e. absurd (ne e))))
        (λ f n above. far_same p k made' f n)

    row_agrees : (p : ℕ) (k : LoadedUser) (u : User) → slice_get old.users p ≡ Some (Some k) → p ≢ place → IsJoined kept.life k → UserAgrees held old.memory (far_in old (first_id + p)) (first_id + p) k u
        → UserAgrees held new.memory (far_in new (first_id + p)) (first_id + p) (with_life Running k) (words.runs_again u)
    row_agrees p k u made' ne joined was =
        let still = others_agree p k u made' ne was in
        record {
          same = ap (λ (o : Outline). let new_o : Outline = record o { life = Running } in new_o) still.same;
          segments = still.segments;
          holds = still.holds;
          heads = still.heads;
          count = still.count;
          unpoked = still.unpoked;
          statics = λ life n s found static.
              absurd (none_static (is_dynamic (head_of s).kind) (is_skipped (head_of s).kind)
              (joined.dynamic n (head_of s) (ap (λ (hs : List SegmentHead). at_number hs n) still.heads ∙ head_at still.segments n s found)).0 static);
          begins = still.begins;
        }

    state_users : slice_get state.users place ≡ Some (Some is.user)
    state_users = (made_at state.users id is.user is.made).0

    next_slots : new.memory.slots ≡ changed_all active_block state.slots (static_handles (map head_of is.does_agree.segments) (handles_of is.user) 1)
    next_slots = slots_are ∙ ap (λ (t : Slots). changed_all active_block t (static_handles kept.heads kept.handles 1)) agrees.slots
        ∙ ap (λ (hs : List SegmentHead). changed_all active_block state.slots (static_handles hs kept.handles 1)) is.does_agree.heads
        ∙ ap (λ (o : Outline). changed_all active_block state.slots (static_handles (map head_of is.does_agree.segments) o.handles 1)) is.does_agree.same

    runs_outline : Outline → Outline
    runs_outline o = record o { life = Running }

    mid_users : map (option_map outline) (with_user old.users id (Some runs)) ≡ map (option_map outline_of) (with_user state.users id (Some user'))
    mid_users = set_map (option_map outline) old.users place (Some runs) ∙ ap (λ us. slice_set us place (Some (outline runs))) agrees.users
        ∙ ap (λ (o : Outline). slice_set (map (option_map outline_of) state.users) place (Some o)) outlines ∙ sym (set_map (option_map outline_of) state.users place (Some user'))

    abbrev next_of : List ℕ → Machine
    next_of rows = record {
      banks = state.banks;
      slots = changed_all active_block state.slots (static_handles (map head_of is.does_agree.segments) (handles_of is.user) 1);
      users = with_all words.runs_again (with_user state.users id (Some user')) rows;
    }

    user_one : (a b : User) → Some (Some a) ≡ Some (Some b) → a ≡ b
    user_one a b e = cc

    agrees_of : Agrees held new (next_of kept.attached)
    unfolding runs_outline
    agrees_of = record {
      banks = did.bytes.banks ∙ reread.banks ∙ agrees.banks;
      slots = next_slots;
      users = ap (map (option_map outline)) did.users' ∙ map_all outline (with_life Running) runs_outline (λ k. refl) (with_user old.users id (Some runs)) kept.attached
          ∙ ap (λ (us : List (Option Outline)). with_all runs_outline us kept.attached) mid_users ∙ sym (map_all outline_of words.runs_again runs_outline (λ u. refl) (with_user state.users id (Some user')) kept.attached);
      attached = attached_now;
      entries = relived.entries_now old.users new.users Running ids are held agrees.entries;
      each = λ p k u made' made''. each_agrees p k u (users_now p k made') (with_all_get words.runs_again (λ x. refl) kept.attached (with_user state.users id (Some user')) p u made'');
    }
      where
        out_rows : (p : ℕ) → In p ≡ false → (p ≢ place) × (is_in kept.attached (first_id + p) ≡ false)
        out_rows p out = (
          (λ eq. let clash : false ≡ true = sym out ∙ ap In eq ∙ place_in in absurd cc),
          go (id == first_id + p) out,
        )
          where
            go : (b : Bool) → (b || is_in kept.attached (first_id + p)) ≡ false → is_in kept.attached (first_id + p) ≡ false
            go true e = absurd cc
            go false e = e

        each_agrees : (p : ℕ) (k : LoadedUser) (u : User) → Was (with_life Running) (relived.life_again Running) old.users ids p k → Was words.runs_again (λ x. refl) (with_user state.users id (Some user')) kept.attached p u
            → UserAgrees held new.memory (far_in new (first_id + p)) (first_id + p) k u
        each_agrees p k u w v = elim (cases_eq p place) [
          | inl eq ↦
              let inside = slice_get_within state.users place (Some is.user) state_users in
              let mid : v.was ≡ user' = user_one v.was user' (sym v.made ∙ ap (slice_get (slice_set state.users place (Some user'))) eq ∙ set_at state.users place (Some user') inside) in
              let user_same : u ≡ user' = elim v.is [ inl l ↦ l.1 ∙ ap words.runs_again mid | inr l ↦ l.1 ∙ mid ] in
              let was : w.was ≡ kept = kept_one w.was kept (sym w.made ∙ ap (slice_get old.users) eq ∙ its_users.0) in
              let k_same : k ≡ runs = elim w.is [
                | inl l ↦ l.1 ∙ ap (with_life Running) was
                | inr l ↦ (let clash : false ≡ true = sym l.0 ∙ ap In eq ∙ place_in in absurd cc)
              ] in
              let id_is : id ≡ first_id + p = omega (arith, its_users.1, eq) in
              subst (λ (n : ℕ). UserAgrees held new.memory (far_in new n) n k u) id_is
              (subst (λ (x : User). UserAgrees held new.memory (far_in new id) id k x) (sym user_same) (subst (λ (x : LoadedUser). UserAgrees held new.memory (far_in new id) id x user') (sym k_same) user_agrees))
          | inr ne ↦
              let made' : slice_get state.users p ≡ Some (Some v.was) = sym (set_apart state.users place p (Some user') ne) ∙ v.made in
              let before = agrees.each p w.was v.was w.made made' in
              elim w.is [
                | inl inside ↦ elim (which p w.was w.made inside.0) [
                  | inl here ↦ absurd (ne here.0)
                  | inr row ↦
                      let user_same : u ≡ words.runs_again v.was = elim v.is [
                        | inl l ↦ l.1
                        | inr l ↦ (let clash : true ≡ false = sym (in_row kept.attached row.0 (first_id + p) row.1) ∙ l.0 in absurd cc)
                      ] in
                      subst (λ (x : User). UserAgrees held new.memory (far_in new (first_id + p)) (first_id + p) k x) (sym user_same)
                      (subst (λ (x : LoadedUser). UserAgrees held new.memory (far_in new (first_id + p)) (first_id + p) x (words.runs_again v.was)) (sym inside.1) (row_agrees p w.was v.was w.made ne row.2 before))
                ]
                | inr outside ↦
                    let user_same : u ≡ v.was = elim v.is [
                      | inl l ↦ (let clash : true ≡ false = sym l.0 ∙ (out_rows p outside.0).1 in absurd cc)
                      | inr l ↦ l.1
                    ] in
                    subst (λ (x : User). UserAgrees held new.memory (far_in new (first_id + p)) (first_id + p) k x) (sym user_same)
                    (subst (λ (x : LoadedUser). UserAgrees held new.memory (far_in new (first_id + p)) (first_id + p) x v.was) (sym outside.1) (others_agree p w.was v.was w.made ne before))
              ]
        ]

    abbrev pub next : Machine
    next = record {
      banks = state.banks;
      slots = changed_all active_block state.slots (static_handles (map head_of (kept_is held old state agrees id kept made).does_agree.segments) (handles_of (kept_is held old state agrees id kept made).user) 1);
      users = with_all words.runs_again (with_user state.users id (Some (record (kept_is held old state agrees id kept made).user { life = Running; segments = read_again (map head_of (kept_is held old state agrees id kept made).does_agree.segments) (kept_is held old state agrees id kept made).user.segments })))
          (kept_is held old state agrees id kept made).user.attached;
    }

    pub resumed_agrees : Agrees held new next
    resumed_agrees = subst (λ (rows : List ℕ). Agrees held new (next_of rows)) (ap (λ (o : Outline). o.attached) is.does_agree.same) agrees_of
