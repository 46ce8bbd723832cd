-- A loader after a byte was poked.
use Rattle.std.proofs.Common.{◌≡◌, ◌≢◌, inl, inr, ℕ, zero, suc, true, false, ◌+◌, ◌-◌, ◌<◌, ◌≤◌, List, [], length, map, Option, Some, None, refl, sym, ap, subst, ◌∙◌, arith}
use Rattle.std.specs.Prelude.{slice_set, slice_get, option_map, Result, Ok, Err}
use Rattle.std.specs.Option.{option_map_or}
use Rattle.std.specs.FinMap.{insert}
use Rattle.std.proofs.Math.ListN.{get_or-eq_default}
use Rattle.std.proofs.lemmas.List.{get_or-set_same, get_or-set_other, length-map}
use Rattle.std.proofs.lemmas.Bool.{cases_lt, cases_eq}
use Rattle.std.proofs.lemmas.Option.{slice_get_within, same_Some}
use Rattle.omf_format.specs.File.{Segment, segment_at}
use Rattle.omf_io.specs.Counts.{IsFront}
use Rattle.omf_io.specs.Files.{FileMap}
use Rattle.load_meaning.specs.laws.CellLaws.{loadable_has}
use Rattle.load_meaning.specs.LoadTable.{target_at}
use Rattle.iigs_meaning.specs.declared.handles.Handle.{Handle}
use Rattle.iigs_meaning.specs.Fits.{Slots}
use Rattle.loader_machine.specs.Rule.{RoomRule}
use Rattle.iigs_meaning.specs.Memory.{Memory, bytes_at}
use Rattle.loader_machine.specs.declared.faults.LoaderFault.{LoaderFault}
use Rattle.loader_machine.specs.declared.faults.LoaderFault.TheVariants.{TableByte, OutOfSegment, NotActive}
use Rattle.loader_machine.specs.declared.seen.SegmentHead.{SegmentHead}
use Rattle.loader_machine.specs.Heads.{head_of, at_number, is_table}
use Rattle.loader_machine.specs.State.{UserSeen, HeldSegment, User, Machine, no_pokes, first_id, handles_of, held_at}
use Rattle.loader_machine.specs.Presences.{handle_at, presence, is_active}
use Rattle.loader_machine.specs.Stands.{stands, setting_with}
use Rattle.loader_machine.specs.laws.StandsLaws.{stands_long}
use Rattle.loader_machine.specs.laws.PokeLaws.{poked_begins}
use Rattle.loader_machine.specs.Refusals.{Refuse, of_user, of_running, of_segment, of_active, of_inside, poke_refusal}
use Rattle.loader_machine.specs.laws.Words.{of_plain}
use Rattle.loader_machine.specs.Commands.{Okay, Refused, Poke}
use Rattle.loader_machine.specs.Steps.{with_segment, with_both}
use Rattle.loader_agrees.specs.Agrees.{LoadedUser, Loaded, Outline, outline_of, seen_by, UserAgrees, Agrees, IsCall, IsOf, Has, IsSound, Met}
use Rattle.loader_agrees.specs.laws.Words.{far_in}
use Rattle.loader_agrees.specs.Checks.{PassesRunning, PassesSegment}
use Rattle.loader_agrees.specs.laws.Checking.{active_none, active_passes, inside_none, inside_passes}
use Rattle.loader_agrees.specs.laws.Lists.{set_map, set_same, set_at, set_apart, length_set, set_like}
use Rattle.loader_agrees.specs.laws.Seeing.{made_at, IsKept, kept_is, refuses, does, has, block_room, has_any}
use Rattle.loader_agrees.specs.laws.Reads.{head_at}
use Rattle.loader_agrees.specs.laws.Frame.{Same, agrees_still}
use Rattle.sys_loader.specs.Replies.{done_reply}
use Rattle.loader_users.specs.Bytes.{with_bytes}
use Rattle.sys_loader.specs.Lives.{with_byte, CanPoke, DidPoke}

-- ---- the refusal, check by check

pub plain_none : (head : SegmentHead) (rest : Refuse) → is_table head ≡ true → of_plain head rest ≡ Some TableByte
plain_none head rest is = rw is refl

pub plain_passes : (head : SegmentHead) (rest : Refuse) → is_table head ≡ false → of_plain head rest ≡ rest
plain_passes head rest is = rw is refl

module _ (slots : Slots) (number at : ℕ) where
  abbrev pub after_active : SegmentHead → Refuse
  after_active head = of_plain head (of_inside at 1 head None)

  abbrev pub after_segment : UserSeen → SegmentHead → Refuse
  after_segment seen head = of_active slots seen number (after_active head)

  abbrev pub after_running : UserSeen → Refuse
  after_running seen = of_segment seen number (after_segment seen)

  pub poke_is : (user : Option UserSeen) → poke_refusal slots user number at ≡ of_user user (λ seen. of_running seen (after_running seen))
  unfolding poke_refusal
  poke_is user = refl

  module _ (user : Option UserSeen) (seen : UserSeen) (head : SegmentHead) (o : Option Handle) (runs : PassesRunning user seen) (has : PassesSegment seen number head) (handle : handle_at seen.handles number ≡ o) where
    to_segment : poke_refusal slots user number at ≡ after_segment seen head
    to_segment = poke_is user ∙ runs after_running ∙ has (after_segment seen)

    pub stops_active : is_active (presence slots o) ≡ false → poke_refusal slots user number at ≡ Some NotActive
    stops_active is = to_segment ∙ active_none slots seen number o (after_active head) handle is

    module _ (active : is_active (presence slots o) ≡ true) where
      to_active : poke_refusal slots user number at ≡ after_active head
      to_active = to_segment ∙ active_passes slots seen number o (after_active head) handle active

      pub stops_plain : is_table head ≡ true → poke_refusal slots user number at ≡ Some TableByte
      stops_plain is = to_active ∙ plain_none head (of_inside at 1 head None) is

      pub stops_inside : is_table head ≡ false → head.length ≤ at → poke_refusal slots user number at ≡ Some OutOfSegment
      stops_inside is past = to_active ∙ plain_passes head (of_inside at 1 head None) is ∙ inside_none at 1 head None (omega arith)

      pub passes : is_table head ≡ false → at + 1 ≤ head.length → poke_refusal slots user number at ≡ None
      passes is within = to_active ∙ plain_passes head (of_inside at 1 head None) is ∙ inside_passes at 1 head None within

-- ---- bytes that are written

pub others_bytes : (memory : Memory) (slot : ℕ) (w : List ℕ) (other : ℕ) → other ≢ slot → bytes_at (with_bytes memory slot w) other ≡ bytes_at memory other
others_bytes memory slot w other ne = get_or-set_other memory.bytes slot other w [] ne

pub its_bytes : (memory : Memory) (slot : ℕ) (w : List ℕ) → slot < length memory.bytes → bytes_at (with_bytes memory slot w) slot ≡ w
its_bytes memory slot w inside = get_or-set_same memory.bytes slot w [] inside

past_bytes : (memory : Memory) (slot : ℕ) → length memory.bytes ≤ slot → length (bytes_at memory slot) ≡ 0
past_bytes memory slot past = ap length (get_or-eq_default memory.bytes [] past)

-- a block that has bytes is one of the memory's
pub has_bytes : (memory : Memory) (slot : ℕ) → 0 < length (bytes_at memory slot) → slot < length memory.bytes
has_bytes memory slot some = elim (cases_lt slot (length memory.bytes)) [
  | inl lt ↦ lt
  | inr le ↦ absurd (omega (arith, past_bytes memory slot le))
]

pub same_length : (memory : Memory) (slot : ℕ) (w : List ℕ) (other : ℕ) → length w ≡ length (bytes_at memory slot) → length (bytes_at memory other) ≤ length (bytes_at (with_bytes memory slot w) other)
same_length memory slot w other same = elim (cases_eq other slot) [
  | inl eq ↦ elim (cases_lt slot (length memory.bytes)) [
    | inl lt ↦ rw (eq, its_bytes memory slot w lt) (omega arith)
    | inr le ↦ rw eq (omega (arith, past_bytes memory slot le))
  ]
  | inr ne ↦ rw (others_bytes memory slot w other ne) (omega arith)
]

-- what is true of every loader stays, where the bytes of a block are written that is no table's
pub sound_written : (memory : Memory) (users : List (Option LoadedUser)) (slot : ℕ) (w : List ℕ) → IsSound memory users → length w ≡ length (bytes_at memory slot)
    → ((p n : ℕ) (g : SegmentHead) (j : Handle) → Has users p n g j → is_table g ≡ true → j.slot ≢ slot) → IsSound (with_bytes memory slot w) users
sound_written memory users slot w sound same tables = record {
  few = sound.few;
  lengths = sound.lengths;
  short = sound.short;
  statics = sound.statics;
  rests = sound.rests;
  each = λ place number head h has.
      let is = sound.each place number head h has in
      let is' : IsOf (with_bytes memory slot w) (first_id + place) head h = record {
        block = is.block;
        live = is.live;
        user = is.user;
        fixed = is.fixed;
        form = is.form;
        want = is.want;
        room = λ there. omega (arith, is.room there, same_length memory slot w h.slot same);
      } in is';
  once = sound.once;
  only = sound.only;
  attached = sound.attached;
  calls = λ p n k g j has table there inside. subst (λ (bs : List ℕ). IsCall users (first_id + p) (target_at bs k)) (sym (others_bytes memory slot w j.slot (tables p n g j has table)))
      (sound.calls p n k g j has table there inside);
}

-- a block in which a byte can be poked is no table's
pub poked_tables : (old : Loaded) (id number at : ℕ) (h : Handle) → IsSound old.memory old.users → CanPoke old id number at h → (p n : ℕ) (g : SegmentHead) (j : Handle) → Has old.users p n g j → is_table g ≡ true → j.slot ≢ h.slot
poked_tables old id number at h sound can p n g j it table same =
    let mine = has old sound id number h can.is in
    let both = sound.once p (id - first_id) n number g can.is.head j h it mine same in
    let user : it.kept ≡ mine.kept = one it.kept mine.kept (sym it.made ∙ ap (slice_get old.users) both.0 ∙ mine.made) in
    let heads : Some g ≡ Some can.is.head = sym it.head' ∙ ap (λ (k : LoadedUser). at_number k.heads n) user ∙ ap (at_number mine.kept.heads) both.1 ∙ mine.head' in
    let clash : true ≡ false = sym table ∙ ap is_table (same_Some g can.is.head heads) ∙ can.plain in cc
  where
    one : (a b : LoadedUser) → Some (Some a) ≡ Some (Some b) → a ≡ b
    one a b e = cc

-- ---- agreement

module _ (held : FileMap) (old : Loaded) (state : Machine) (id number at byte : ℕ) (sound : IsSound old.memory old.users) (agrees : Agrees held old state)
    (h : Handle) (can : CanPoke old id number at h) where
  abbrev place : ℕ
  place = id - first_id

  abbrev new : Loaded
  new = with_byte old h at byte

  is : IsKept held old state agrees id can.is.kept
  is = kept_is held old state agrees id can.is.kept can.is.made

  abbrev absent_one : HeldSegment
  absent_one = record { handle = None; pokes = no_pokes }

  abbrev was : HeldSegment
  was = held_at is.user number

  abbrev now : HeldSegment
  now = record was { pokes = insert was.pokes at byte }

  abbrev next : Machine
  next = with_both state id state.slots (Some (with_segment is.user number now))

  room : can.is.head.length ≤ length (bytes_at old.memory h.slot)
  room = block_room old sound id number h can.is

  slot_inside : h.slot < length old.memory.bytes
  slot_inside = has_bytes old.memory h.slot (omega (arith, room, can.inside))

  its_now : bytes_at new.memory h.slot ≡ slice_set (bytes_at old.memory h.slot) at byte
  its_now = its_bytes old.memory h.slot (slice_set (bytes_at old.memory h.slot) at byte) slot_inside

  -- ---- the user's segments

  -- the number is one of a segment's, from 1
  number_is : (heads : List SegmentHead) (f : SegmentHead) (n : ℕ) → at_number heads n ≡ Some f → (n ≡ n - 1 + 1) × (n - 1 < length heads)
  number_is heads f zero is = absurd cc
  number_is heads f (suc k) is =
      let within = slice_get_within heads k f is in
      let back : suc k - 1 ≡ k = omega arith in
      (omega arith, omega (arith, within))

  in_range : (number ≡ number - 1 + 1) × (number - 1 < length is.user.segments)
  in_range =
      let range = number_is can.is.kept.heads can.is.head number can.is.head' in
      let heads : length can.is.kept.heads ≡ length is.does_agree.segments = ap length is.does_agree.heads ∙ length-map is.does_agree.segments head_of in
      (range.0, omega (arith, range.1, heads, is.does_agree.count))

  held_here : held_at (with_segment is.user number now) number ≡ now
  held_here = go number in_range.0 in_range.1
    where
      go : (n : ℕ) → n ≡ n - 1 + 1 → n - 1 < length is.user.segments → held_at (with_segment is.user n now) n ≡ now
      go zero e within = absurd (omega arith)
      go (suc k) e within =
          let back : suc k - 1 ≡ k = omega arith in
          let found : slice_get (slice_set is.user.segments (suc k - 1) now) k ≡ Some now = rw back (set_at is.user.segments k now (omega (arith, within))) in
          ap (λ (o : Option HeldSegment). option_map_or (λ held. held) o (absent_one)) found

  held_apart : (n : ℕ) → n ≢ number → held_at (with_segment is.user number now) n ≡ held_at is.user n
  held_apart zero ne = refl
  held_apart (suc k) ne =
      let apart : k ≢ number - 1 = λ e. ne (omega (arith, in_range.0)) in
      ap (λ (o : Option HeldSegment). option_map_or (λ held. held) o (absent_one)) (set_apart is.user.segments (number - 1) k now apart)

  -- the user's handles are as before
  handles_same : handles_of (with_segment is.user number now) ≡ handles_of is.user
  handles_same = go number in_range.0 in_range.1
    where
      go : (n : ℕ) → n ≡ n - 1 + 1 → n - 1 < length is.user.segments → map (λ (held : HeldSegment). held.handle) (slice_set is.user.segments (n - 1) (record (held_at is.user n) { pokes = insert was.pokes at byte })) ≡ map (λ (held : HeldSegment). held.handle) is.user.segments
      go zero e within = absurd (omega arith)
      go (suc k) e within =
          let back : suc k - 1 ≡ k = omega arith in
          rw back (set_like (λ (held : HeldSegment). held.handle) is.user.segments k (record (held_at is.user (suc k)) { pokes = insert was.pokes at byte }) (absent_one) (omega (arith, within)) refl)

  outline_with : List (Option Handle) → Outline
  outline_with hs = record { path = is.user.path; life = is.user.life; handles = hs; attached = is.user.attached }

  outlines_same : outline_of is.user ≡ outline_of (with_segment is.user number now)
  unfolding outline_with
  outlines_same = ap outline_with (sym handles_same)

  -- a segment with the number has the header that is kept
  its_head : (s : Segment) → segment_at is.does_agree.segments number ≡ Some s → can.is.head ≡ head_of s
  its_head s found = same_Some can.is.head (head_of s) (sym can.is.head' ∙ ap (λ (hs : List SegmentHead). at_number hs number) is.does_agree.heads ∙ head_at is.does_agree.segments number s found)

  apart : (place' : ℕ) (kept : LoadedUser) → slice_get old.users place' ≡ Some (Some kept) → (n : ℕ) (k : Handle) → handle_at kept.handles n ≡ Some k → ((place' ≡ place) → (n ≡ number) → ⊥) → k.slot ≢ h.slot
  apart place' kept made n k found differ same =
      let other = has_any old sound place' kept made n k found in
      let both = sound.once place' place n number other.0 can.is.head k h other.1 (has old sound id number h can.is) same in
      differ both.0 both.1

  its_users : (slice_get old.users place ≡ Some (Some can.is.kept)) × (first_id + place ≡ id)
  its_users = made_at old.users id can.is.kept can.is.made

  -- the user agrees
  user_agrees : UserAgrees held new.memory (far_in old id) id can.is.kept (with_segment is.user number now)
  user_agrees = record {
    same = is.does_agree.same ∙ outlines_same;
    segments = is.does_agree.segments;
    holds = is.does_agree.holds;
    heads = is.does_agree.heads;
    count = length_set is.user.segments (number - 1) now ∙ is.does_agree.count;
    unpoked = λ n s found table. elim (cases_eq n number) [
      | inl eq ↦
          let heads = its_head s (subst (λ (m : ℕ). segment_at is.does_agree.segments m ≡ Some s) eq found) in
          let plain : is_table (head_of s) ≡ false = subst (λ (f : SegmentHead). is_table f ≡ false) heads can.plain in
          absurd cc
      | inr ne ↦ rw (held_apart n ne) (is.does_agree.unpoked n s found table)
    ];
    statics = is.does_agree.statics;
    begins = λ there n s k found has' present. elim (cases_eq n number) [
      | inl eq ↦
          let found' : segment_at is.does_agree.segments number ≡ Some s = subst (λ (m : ℕ). segment_at is.does_agree.segments m ≡ Some s) eq found in
          let heads = its_head s found' in
          let plain : is_table (head_of s) ≡ false = subst (λ (f : SegmentHead). is_table f ≡ false) heads can.plain in
          let sized = stands_long is.does_agree.segments n s (setting_with (far_in old id) id old.memory.slots can.is.kept.handles) was.pokes (loadable_has is.does_agree.holds.file is.does_agree.segments is.does_agree.holds.loadable n s found) in
          let inside : at < s.fields.length = omega (arith, can.inside, ap (λ (f : SegmentHead). f.length) heads) in
          let handle : k ≡ h = same_Some k h (sym has' ∙ ap (handle_at can.is.kept.handles) eq ∙ can.is.handle) in
          let before : IsFront (stands (setting_with (far_in old id) id old.memory.slots can.is.kept.handles) (held_at is.user n).pokes s) (bytes_at old.memory k.slot) = is.does_agree.begins there n s k found has' present in
          let before' : IsFront (stands (setting_with (far_in old id) id old.memory.slots can.is.kept.handles) was.pokes s) (bytes_at old.memory h.slot) =
          subst (λ (j : Handle). IsFront (stands (setting_with (far_in old id) id old.memory.slots can.is.kept.handles) was.pokes s) (bytes_at old.memory j.slot)) handle
          (subst (λ (m : ℕ). IsFront (stands (setting_with (far_in old id) id old.memory.slots can.is.kept.handles) (held_at is.user m).pokes s) (bytes_at old.memory k.slot)) eq before) in
          let after = poked_begins (setting_with (far_in old id) id old.memory.slots can.is.kept.handles) s was.pokes at byte (bytes_at old.memory h.slot) (omega (arith, sized, inside)) before' in
          rw (eq, held_here, handle, its_now) after
      | inr ne ↦
          rw (held_apart n ne, others_bytes old.memory h.slot (slice_set (bytes_at old.memory h.slot) at byte) k.slot (apart place can.is.kept its_users.0 n k has' (λ p e. ne e)))
          (is.does_agree.begins there n s k found has' present)
    ];
  }

  -- and so do the others
  others_agree : (place' : ℕ) (kept : LoadedUser) (user : User) → slice_get old.users place' ≡ Some (Some kept) → place' ≢ place → UserAgrees held old.memory (far_in old (first_id + place')) (first_id + place') kept user
      → UserAgrees held new.memory (far_in old (first_id + place')) (first_id + place') kept user
  others_agree place' kept user made ne was' = agrees_still held old.memory new.memory (far_in old (first_id + place')) (far_in old (first_id + place')) (first_id + place') kept user was'
      (λ n k found. Same refl (λ there. others_bytes old.memory h.slot (slice_set (bytes_at old.memory h.slot) at byte) k.slot (apart place' kept made n k found (λ p e. ne p)))) (λ file n above. refl)

  state_users : slice_get state.users place ≡ Some (Some is.user)
  state_users = (made_at state.users id is.user is.made).0

  agrees_next : Agrees held new next
  agrees_next = record {
    banks = agrees.banks;
    slots = agrees.slots;
    users = agrees.users ∙ sym (set_map (option_map outline_of) state.users place (Some (with_segment is.user number now))
        ∙ ap (λ (o : Outline). slice_set (map (option_map outline_of) state.users) place (Some o)) (sym outlines_same)
        ∙ sym (set_map (option_map outline_of) state.users place (Some is.user))
        ∙ ap (map (option_map outline_of)) (set_same state.users place (Some is.user) state_users));
    attached = agrees.attached;
    entries = agrees.entries;
    each = λ place' kept user made made'. elim (cases_eq place' place) [
      | inl eq ↦
          let kept_is' : kept ≡ can.is.kept = cc (made, its_users.0, ap (slice_get old.users) eq) in
          let inside = slice_get_within state.users place (Some is.user) state_users in
          let user_is' : with_segment is.user number now ≡ user = cc (made', ap (slice_get next.users) eq, set_at state.users place (Some (with_segment is.user number now)) inside) in
          let id_is : id ≡ first_id + place' = omega (arith, its_users.1) in
          subst (λ (n : ℕ). UserAgrees held new.memory (far_in old n) n kept user) id_is
          (subst (λ (u : User). UserAgrees held new.memory (far_in old id) id kept u) user_is' (subst (λ (k : LoadedUser). UserAgrees held new.memory (far_in old id) id k (with_segment is.user number now)) (sym kept_is') user_agrees))
      | inr ne ↦ others_agree place' kept user made ne (agrees.each place' kept user made (sym (set_apart state.users place place' (Some (with_segment is.user number now)) ne) ∙ made'))
    ];
  }

  poke_met : Met RoomRule held state (Poke id number at byte) Okay new
  poke_met = (
    next,
    does held old state agrees id (λ seen. poke_refusal state.slots seen number at) Okay next
        (λ (user : User). let was = held_at user number in (Okay ≡ Okay) × (next ≡ with_both state id state.slots (Some (with_segment user number (record was { pokes = insert was.pokes at byte })))))
        (subst (λ (slots : Slots). poke_refusal slots (seen_by old id) number at ≡ None) agrees.slots can.passes) is.user is.made (refl, refl),
    agrees_next,
  )

-- a poke is the machine's step
pub pokes_meet : (held : FileMap) (old new : Loaded) (state : Machine) (id number at byte : ℕ) (result : Result (Unit {0}) LoaderFault) → IsSound old.memory old.users → Agrees held old state
    → DidPoke old id number at byte result new → Met RoomRule held state (Poke id number at byte) (done_reply result) new
pokes_meet held old new state id number at byte (Ok done) sound agrees did =
    rw did.new_is (poke_met held old state id number at byte sound agrees did.h did.can)
pokes_meet held old new state id number at byte (Err fault) sound agrees did = (
  state,
  refuses held old state agrees id (λ seen. poke_refusal state.slots seen number at) fault
      (λ (user : User). let was = held_at user number in (Refused fault ≡ Okay) × (state ≡ with_both state id state.slots (Some (with_segment user number (record was { pokes = insert was.pokes at byte })))))
      (subst (λ (slots : Slots). poke_refusal slots (seen_by old id) number at ≡ Some fault) agrees.slots did.0),
  rw did.1 agrees,
)
