-- Calls that read: a user's bytes, what is known of a segment, and where an address lies.
use Rattle.std.proofs.Common.{◌≡◌, ℕ, zero, suc, true, ◌+◌, ◌<◌, ◌≤◌, List, ◌++◌, length, map, take, drop, Option, Some, None, IsSome, refl, sym, ap, subst, ◌∙◌, arith}
use Rattle.std.specs.Prelude.{option_map}
use Rattle.std.proofs.lemmas.Option.{same_Some}
use Rattle.std.proofs.lemmas.List.{take-append-le, drop-append-le, length-drop}
use Rattle.omf_format.specs.File.{Segment, segment_at}
use Rattle.omf_io.specs.Counts.{IsFront}
use Rattle.omf_io.specs.Files.{FileMap}
use Rattle.load_meaning.specs.laws.CellLaws.{loadable_has}
use Rattle.iigs_meaning.specs.declared.handles.Handle.{Handle}
use Rattle.iigs_meaning.specs.Fits.{Slots}
use Rattle.iigs_meaning.specs.Puts.{MakesRoom}
use Rattle.iigs_meaning.specs.Memory.{bytes_at}
use Rattle.loader_machine.specs.declared.seen.SegmentHead.{SegmentHead}
use Rattle.loader_machine.specs.declared.seen.Life.TheVariants.{Running}
use Rattle.loader_machine.specs.declared.seen.Presence.{Presence}
use Rattle.loader_machine.specs.declared.seen.Presence.TheVariants.{Absent, Purged, Idle, Active}
use Rattle.loader_machine.specs.declared.faults.LoaderFault.{LoaderFault}
use Rattle.loader_machine.specs.Heads.{head_of, at_number}
use Rattle.loader_machine.specs.State.{User, Machine, handles_of, held_at}
use Rattle.loader_machine.specs.Presences.{handle_at, presence, presence_at, there_at, is_active}
use Rattle.loader_machine.specs.Stands.{setting_with, far_of, stands}
use Rattle.loader_machine.specs.laws.StandsLaws.{stands_long}
use Rattle.loader_machine.specs.Found.{HoldsLoad}
use Rattle.loader_machine.specs.Commands.{Bytes, Info, Where, Shown, SegmentIs, Refused}
use Rattle.loader_machine.specs.Refusals.{bytes_refusal, info_refusal}
use Rattle.loader_machine.specs.Steps.{Sees, StandsIn, IsAt, Nowhere, In}
use Rattle.loader_machine.specs.laws.Words.{place_reply}
use Rattle.loader_machine.specs.laws.OnceLaws.{active_is, one_load}
use Rattle.loader_agrees.specs.Agrees.{LoadedUser, Loaded, Outline, outlines, kept_outlines, seen_by, UserAgrees, Agrees, IsSound, Met}
use Rattle.loader_agrees.specs.laws.Words.{far_in, AreThere}
use Rattle.loader_agrees.specs.Acts.{IsActive, HasBorrowed, HasReported, LiesIn}
use Rattle.loader_agrees.specs.laws.Lists.{number_map}
use Rattle.loader_agrees.specs.laws.Seeing.{IsKept, kept_is, refuses, does}
use Rattle.loader_agrees.specs.laws.Apart.{back}

pub number_is : (segments : List Segment) (number : ℕ) → at_number segments number ≡ segment_at segments number
number_is segments zero = refl
number_is segments (suc k) = refl

-- the segment whose header is kept
pub headed : (segments : List Segment) (number : ℕ) (head : SegmentHead) → at_number (map head_of segments) number ≡ Some head
    → (s : Segment) × (segment_at segments number ≡ Some s) × (head_of s ≡ head)
headed segments number head is = go (segment_at segments number) refl (ap (option_map head_of) (sym (number_is segments number)) ∙ sym (number_map head_of segments number) ∙ is)
  where
    go : (o : Option Segment) → segment_at segments number ≡ o → option_map head_of o ≡ Some head → (s : Segment) × (segment_at segments number ≡ Some s) × (head_of s ≡ head)
    go None e is = absurd cc
    go (Some s) e is = (s, e, same_Some (head_of s) head is)

pub head_at : (segments : List Segment) (number : ℕ) (s : Segment) → segment_at segments number ≡ Some s → at_number (map head_of segments) number ≡ Some (head_of s)
head_at segments number s is = number_map head_of segments number ∙ ap (option_map head_of) (number_is segments number ∙ is)

pub active_there : (p : Presence) → is_active p ≡ true → IsSome (there_at p)
active_there Absent e = absurd cc
active_there (Purged h) e = absurd cc
active_there (Idle h a) e = absurd cc
active_there (Active h a) e = refl

-- while a user runs, its static segments are there
pub all_there : (held : FileMap) (loader : Loaded) (id : ℕ) (kept : LoadedUser) (user : User) → (agrees : UserAgrees held loader.memory (far_in loader id) id kept user) → kept.life ≡ Running
    → AreThere loader.memory.slots kept.handles agrees.segments
all_there held loader id kept user agrees runs number s is static = active_there (presence_at loader.memory.slots kept.handles number) (agrees.statics runs number s is static)

-- `count` bytes within a prefix are the same bytes of the whole list
pub within_front : (front rest : List ℕ) (at count : ℕ) → at + count ≤ length front → take count (drop at (front ++ rest)) ≡ take count (drop at front)
within_front front rest at count within =
    ap (take count) (drop-append-le at front rest (omega arith))
    ∙ take-append-le count (drop at front) rest (omega (arith, length-drop at front))

module _ (held : FileMap) (loader : Loaded) (state : Machine) (agrees : Agrees held loader state) where
  -- the machine's user of a kept one, with the segments of its file
  abbrev pub sees_of : (id : ℕ) (kept : LoadedUser) → (is : IsKept held loader state agrees id kept) → Sees held state id
  sees_of id kept is =
      let path : kept.path ≡ is.user.path = ap (λ (o : Outline). o.path) is.does_agree.same in
      record { user = is.user; made = is.made; segments = is.does_agree.segments; holds = subst (λ (p : List ℕ). HoldsLoad held p is.does_agree.segments) path is.does_agree.holds }

  module _ (id number : ℕ) (h : Handle) (is : IsActive loader id number h) where
    abbrev pub one : IsKept held loader state agrees id is.kept
    one = kept_is held loader state agrees id is.kept is.made

    abbrev pub user : User
    user = one.user

    pub its_segment : (s : Segment) × (segment_at one.does_agree.segments number ≡ Some s) × (head_of s ≡ is.head)
    its_segment = headed one.does_agree.segments number is.head (ap (λ (hs : List SegmentHead). at_number hs number) (sym one.does_agree.heads) ∙ is.head')

    pub handles : is.kept.handles ≡ handles_of user
    handles = ap (λ (o : Outline). o.handles) one.does_agree.same

    pub present : presence_at loader.memory.slots is.kept.handles number ≡ Active h is.address
    present = ap (presence loader.memory.slots) is.handle ∙ is.active

    -- its block begins with its content
    pub begins : IsFront (stands (setting_with (far_in loader id) id loader.memory.slots is.kept.handles) (held_at user number).pokes its_segment.0) (bytes_at loader.memory h.slot)
    begins = one.does_agree.begins (all_there held loader id is.kept user one.does_agree is.runs) number its_segment.0 h its_segment.1 is.handle
        (rw present refl)

    pub stands_there : StandsIn held state id number (stands (setting_with (far_in loader id) id loader.memory.slots is.kept.handles) (held_at user number).pokes its_segment.0)
    stands_there = record {
      sees = sees_of id is.kept one;
      s = its_segment.0;
      is = its_segment.1;
      bytes_are = ap (λ (t : Slots). stands (setting_with (far_of t (kept_outlines loader.users) id) id t is.kept.handles) (held_at user number).pokes its_segment.0) agrees.slots
          ∙ ap (λ (os : List (Option Outline)). stands (setting_with (far_of state.slots os id) id state.slots is.kept.handles) (held_at user number).pokes its_segment.0) agrees.users
          ∙ ap (λ (hs : List (Option Handle)). stands (setting_with (far_of state.slots (outlines state.users) id) id state.slots hs) (held_at user number).pokes its_segment.0) handles;
    }

    pub stands_size : length (stands (setting_with (far_in loader id) id loader.memory.slots is.kept.handles) (held_at user number).pokes its_segment.0) ≡ is.head.length
    stands_size = stands_long one.does_agree.segments number its_segment.0 (setting_with (far_in loader id) id loader.memory.slots is.kept.handles) (held_at user number).pokes
        (loadable_has one.does_agree.holds.file one.does_agree.segments one.does_agree.holds.loadable number its_segment.0 its_segment.1)
        ∙ ap (λ (head : SegmentHead). head.length) its_segment.2

    abbrev pub at_there : (address offset : ℕ) → is.address + offset ≡ address → offset < is.head.length → IsAt held state address id number offset
    at_there address offset sum inside = record {
      sees = sees_of id is.kept one;
      runs = sym (ap (λ (o : Outline). o.life) one.does_agree.same) ∙ is.runs;
      s = its_segment.0;
      is = its_segment.1;
      h = h;
      first = is.address;
      active = ap (λ (hs : List (Option Handle)). presence_at state.slots hs number) (sym handles) ∙ ap (λ (t : Slots). presence_at t is.kept.handles number) (sym agrees.slots) ∙ present;
      sum = sum;
      inside = omega (arith, inside, ap (λ (head : SegmentHead). head.length) its_segment.2);
    }

  module _ (Makes : MakesRoom) where
    -- the bytes that are borrowed are those of the machine
    pub borrowed_met : (id number at count : ℕ) (bytes : List ℕ) → HasBorrowed loader id number at count bytes → Met Makes held state (Bytes id number at count) (Shown bytes) loader
    borrowed_met id number at count bytes borrowed =
        let is = borrowed.can.is in
        let whole = stands (setting_with (far_in loader id) id loader.memory.slots is.kept.handles) (held_at (user id number borrowed.h is) number).pokes (its_segment id number borrowed.h is).0 in
        let front = begins id number borrowed.h is in
        let shown : bytes ≡ take count (drop at whole) = borrowed.is ∙ ap (λ (bs : List ℕ). take count (drop at bs)) front.1
        ∙ within_front whole front.0 at count (omega (arith, borrowed.can.inside, stands_size id number borrowed.h is)) in (
          state,
          does held loader state agrees id (λ seen. bytes_refusal state.slots seen number at count) (Shown bytes) state _
              (ap (λ (t : Slots). bytes_refusal t (seen_by loader id) number at count) (sym agrees.slots) ∙ borrowed.can.passes)
              (user id number borrowed.h is) (one id number borrowed.h is).made
              (whole, stands_there id number borrowed.h is, ap (λ (bs : List ℕ). Shown bs) shown, refl),
          agrees,
        )

    pub borrowed_refused : (id number at count : ℕ) (fault : LoaderFault) → bytes_refusal loader.memory.slots (seen_by loader id) number at count ≡ Some fault
        → Met Makes held state (Bytes id number at count) (Refused fault) loader
    borrowed_refused id number at count fault is = (
      state,
      refuses held loader state agrees id (λ seen. bytes_refusal state.slots seen number at count) fault _
          (ap (λ (t : Slots). bytes_refusal t (seen_by loader id) number at count) (sym agrees.slots) ∙ is),
      agrees,
    )

    -- what the loader reports for a segment is what the machine reports
    pub reported_met : (id number : ℕ) (where' : Presence) (length' kind : ℕ) → HasReported loader id number where' length' kind
        → Met Makes held state (Info id number) (SegmentIs where' length' kind) loader
    reported_met id number where' length' kind reported =
        let kept = kept_is held loader state agrees id reported.kept reported.made in
        let segment = headed kept.does_agree.segments number reported.head (ap (λ (hs : List SegmentHead). at_number hs number) (sym kept.does_agree.heads) ∙ reported.head') in
        let reply : SegmentIs where' length' kind ≡ SegmentIs (presence_at state.slots (handles_of kept.user) number) segment.0.fields.length segment.0.fields.kind =
        ap (λ (p : Presence). SegmentIs p length' kind) (reported.presence_is ∙ ap (λ (t : Slots). presence_at t reported.kept.handles number) agrees.slots
        ∙ ap (λ (hs : List (Option Handle)). presence_at state.slots hs number) (ap (λ (o : Outline). o.handles) kept.does_agree.same))
        ∙ ap (λ (n : ℕ). SegmentIs (presence_at state.slots (handles_of kept.user) number) n kind) (reported.length_is ∙ sym (ap (λ (head : SegmentHead). head.length) segment.2))
        ∙ ap (λ (n : ℕ). SegmentIs (presence_at state.slots (handles_of kept.user) number) segment.0.fields.length n) (reported.kind_is ∙ sym (ap (λ (head : SegmentHead). head.kind) segment.2)) in (
          state,
          does held loader state agrees id (λ seen. info_refusal seen number) (SegmentIs where' length' kind) state _ reported.passes
              kept.user kept.made (sees_of id reported.kept kept, segment.0, segment.1, reply, refl),
          agrees,
        )

    pub reported_refused : (id number : ℕ) (fault : LoaderFault) → info_refusal (seen_by loader id) number ≡ Some fault → Met Makes held state (Info id number) (Refused fault) loader
    reported_refused id number fault is = (state, refuses held loader state agrees id (λ seen. info_refusal seen number) fault _ is, agrees)

    -- where an address lies is where the machine has it
    pub lies_met : (address id number offset : ℕ) → LiesIn loader address id number offset → Met Makes held state (Where address) (place_reply (In id number offset)) loader
    lies_met address id number offset lies =
        (state, (In id number offset, at_there id number lies.h lies.is address offset lies.sum lies.inside, refl, refl), agrees)

    module _ (sound : IsSound loader.memory loader.users) where
      pub lies_back : (address id number offset : ℕ) → IsAt held state address id number offset → LiesIn loader address id number offset
      lies_back address id number offset is =
          let kept = back held loader state agrees sound id is.sees.user is.sees.made in
          let in_state = kept_is held loader state agrees id kept.0 kept.1 in
          let same : in_state.user ≡ is.sees.user = same_Some in_state.user is.sees.user (sym in_state.made ∙ is.sees.made) in
          let path : kept.0.path ≡ is.sees.user.path = ap (λ (o : Outline). o.path) in_state.does_agree.same ∙ ap (λ (u : User). u.path) same in
          let life : kept.0.life ≡ Running = ap (λ (o : Outline). o.life) in_state.does_agree.same ∙ ap (λ (u : User). u.life) same ∙ is.runs in
          let segments = one_load held is.sees.user.path in_state.does_agree.segments is.sees.segments (subst (λ (p : List ℕ). HoldsLoad held p in_state.does_agree.segments) path in_state.does_agree.holds) is.sees.holds in
          let head : at_number kept.0.heads number ≡ Some (head_of is.s) = ap (λ (hs : List SegmentHead). at_number hs number) in_state.does_agree.heads
          ∙ ap (λ (ss : List Segment). at_number (map head_of ss) number) segments ∙ head_at is.sees.segments number is.s is.is in
          let there = active_is held state (handle_at (handles_of is.sees.user) number) is.h is.first is.active in
          let handle : handle_at kept.0.handles number ≡ Some is.h = ap (λ (hs : List (Option Handle)). handle_at hs number) kept.2 ∙ there.0 in
          let active : presence loader.memory.slots (Some is.h) ≡ Active is.h is.first =
          ap (λ (t : Slots). presence t (Some is.h)) agrees.slots ∙ ap (presence state.slots) (sym there.0) ∙ is.active in
          record {
            h = is.h;
            is = record { kept = kept.0; made = kept.1; runs = life; head = head_of is.s; head' = head; handle = handle; address = is.first; active = active };
            sum = is.sum;
            inside = is.inside;
          }

      pub nowhere_met : (address : ℕ) → ((id number offset : ℕ) → ¬ LiesIn loader address id number offset) → Met Makes held state (Where address) (place_reply Nowhere) loader
      nowhere_met address none = (state, (Nowhere, (λ id number offset is. none id number offset (lies_back address id number offset is)), refl, refl), agrees)
