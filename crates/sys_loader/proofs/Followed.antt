-- A JSL that is followed is the machine's step.
use Rattle.std.proofs.Common.{◌≡◌, ◌≢◌, inl, inr, ℕ, Bool, true, false, ◌==◌, ◌+◌, ◌-◌, ◌%◌, ◌^◌, ◌<◌, ◌≤◌, List, [], ◌∷◌, length, map, take, drop, Option, Some, None, Result, Ok, Err, refl, sym, ap, subst, ◌∙◌, arith}
use Rattle.std.specs.Prelude.{slice_get}
use Rattle.std.proofs.lemmas.Option.{same_Some}
use Rattle.omf_format.specs.File.{Segment, segment_at}
use Rattle.omf_io.specs.Counts.{IsFront}
use Rattle.omf_io.specs.Files.{FileMap}
use Rattle.load_meaning.specs.declared.table.Target.{Target}
use Rattle.load_meaning.specs.Table.{entry_place, table_bytes}
use Rattle.load_meaning.specs.LoadTable as load
use Rattle.load_meaning.specs.LoadTable.{entry_count, target_at, targets_of}
use Rattle.load_meaning.specs.laws.CellLaws.{loadable_has}
use Rattle.load_meaning.specs.Loadable.{IsTarget}
use Rattle.iigs_meaning.specs.declared.handles.Handle.{Handle}
use Rattle.iigs_meaning.specs.declared.wants.Want.{Want}
use Rattle.iigs_meaning.specs.declared.wants.Block.{Block}
use Rattle.iigs_meaning.specs.Slots.{slot_at, get}
use Rattle.iigs_meaning.specs.Fits.{Slots, HoldsByte}
use Rattle.loader_machine.specs.Rule.{RoomRule}
use Rattle.iigs_meaning.specs.Memory.{bytes_at}
use Rattle.loader_machine.specs.declared.faults.LoaderFault.{LoaderFault}
use Rattle.loader_machine.specs.declared.seen.SegmentHead.{SegmentHead}
use Rattle.loader_machine.specs.Heads.{head_of, at_number, is_table}
use Rattle.loader_machine.specs.State.{Machine, Outline, outlines, first_id, user_of, named_by, handles_of, held_at}
use Rattle.loader_machine.specs.declared.seen.Presence.{Presence}
use Rattle.loader_machine.specs.declared.seen.Presence.TheVariants.{Absent, Purged, Idle, Active}
use Rattle.loader_machine.specs.Presences.{presence, presence_at, there_at, lies_in, lies_at}
use Rattle.loader_machine.specs.laws.Words.{entry_for, Enters, EntersEntry}
use Rattle.loader_machine.specs.Stands.{AddressSetting, setting_with, stands}
use Rattle.loader_machine.specs.Refusals.{Refuse, bytes_refusal, load_segment_refusal}
use Rattle.loader_machine.specs.Steps.{Sees, StandsIn, IsAt, AddressPlace, Nowhere, In, IsLocated, Decides, Either, no_jsl, address_of, target_at_code, MakesActive, StepsJsl}
use Rattle.loader_machine.specs.Needs.{Needs, Reaches, is_read, path_if}
use Rattle.loader_machine.specs.Commands.{Reply, Jsl, Entered, Refused}
use Rattle.loader_agrees.specs.Agrees.{LoadedUser, Loaded, kept_outlines, seen_by, LeadsFar, Agrees, Has, IsSound, Meets}
use Rattle.loader_agrees.specs.laws.Words.{far_in}
use Rattle.loader_agrees.specs.Acts.{HasBorrowed, LiesIn}
use Rattle.loader_agrees.specs.laws.Reads.{its_segment, begins, stands_there, stands_size, at_there, within_front, lies_back, sees_of, one, user}
use Rattle.loader_agrees.specs.laws.BegunSound.{want_size}
use Rattle.loader_agrees.specs.laws.Slotted.{live_block}
use Rattle.loader_agrees.specs.laws.Seeing.{made_at, IsKept, kept_is, is_seen, refuses, does}
use Rattle.sys_loader.specs.declared.answers.Entered as answers
use Rattle.sys_loader.specs.Replies.{activation_reply}
use Rattle.sys_loader.specs.Activating.{CanLoad, HasCome, HasActivated, DidActivate}
use Rattle.sys_loader.specs.Following.{jsl_reply, HasJsl, IsEntry, IsJslRefusal, NoBytes, NoJsl, NoPlace, NoEntry, EntersPlace, entered_at, DidJsl, Stops, Leads, Calls}
use Rattle.sys_loader.proofs.Activated.{IsMet, activated, presence_same}
use Rattle.sys_loader.proofs.Came.{is_new}
use Rattle.sys_loader.proofs.Entries.{found_code, no_code}
use Rattle.loader_agrees.specs.laws.EntryReads.{get_all, file_read, segment_read, offset_read, table_stands, targets_count, number_within}
use Rattle.loader_users.proofs.Leads.{far_file, far_segment}

-- ---- what decides

decided : (r : Refuse) (state : Machine) (reply : Reply) (next : Machine) (Done : Type 0) → r ≡ None → Done → Decides r state reply next Done
decided r state reply next Done is done = rw is done

stopped : (r : Refuse) (why : LoaderFault) (state : Machine) (Done : Type 0) → r ≡ Some why → Decides r state (Refused why) state Done
stopped r why state Done is = rw is (refl, refl)

-- an entry of a user's table leads to an offset below LENGTH of a segment of the user that it names; its numbers are small
pub record LeadsInto (users : List (Option LoadedUser)) (owner : ℕ) (t : Target) : Type 0 where
  pub other : ℕ
  pub named : named_by (kept_outlines users) owner t.file ≡ Some other
  pub kept : LoadedUser
  pub made : user_of users other ≡ Some kept
  pub head : SegmentHead
  pub head' : at_number kept.heads t.segment ≡ Some head
  pub inside : t.offset < head.length
  pub file_fits : t.file < 2 ^ 16
  pub segment_fits : t.segment < 2 ^ 16

module _ (held : FileMap) (old : Loaded) (state : Machine) (sound : IsSound old.memory old.users) (agrees : Agrees held old state) where
  -- ---- the four bytes

  abbrev Four : ℕ → ℕ → ℕ → List ℕ → Type 0
  Four id number at bytes = (all : List ℕ) × StandsIn held state id number all × (bytes ≡ take 4 (drop at all))

  pub four : (id number at : ℕ) (bytes : List ℕ) → HasBorrowed old id number at 4 bytes → Four id number at bytes
  four id number at bytes borrowed =
      let is = borrowed.can.is in
      let whole = stands (setting_with (far_in old id) id old.memory.slots is.kept.handles) (held_at (user held old state agrees id number borrowed.h is) number).pokes (its_segment held old state agrees id number borrowed.h is).0 in
      let front = begins held old state agrees id number borrowed.h is in (
        whole,
        stands_there held old state agrees id number borrowed.h is,
        borrowed.is ∙ ap (λ (bs : List ℕ). take 4 (drop at bs)) front.1
            ∙ within_front whole front.0 at 4 (omega (arith, borrowed.can.inside, stands_size held old state agrees id number borrowed.h is)),
      )

  can_read : (id number at : ℕ) (bytes : List ℕ) → HasBorrowed old id number at 4 bytes → bytes_refusal state.slots (seen_by old id) number at 4 ≡ None
  can_read id number at bytes borrowed = ap (λ (t : Slots). bytes_refusal t (seen_by old id) number at 4) (sym agrees.slots) ∙ borrowed.can.passes

  -- the machine's user of the call
  module _ (id number at : ℕ) (bytes : List ℕ) (borrowed : HasBorrowed old id number at 4 bytes) where
    abbrev it : IsKept held old state agrees id borrowed.can.is.kept
    it = kept_is held old state agrees id borrowed.can.is.kept borrowed.can.is.made

    -- a call whose four bytes are read does this
    does_jsl : (reply : Reply) (next : Machine) → StepsJsl RoomRule held state id number at reply next
        → Rattle.loader_machine.specs.Steps.Does held state id (λ seen. bytes_refusal state.slots seen number at 4) reply next (λ user. StepsJsl RoomRule held state id number at reply next)
    does_jsl reply next steps = does held old state agrees id (λ seen. bytes_refusal state.slots seen number at 4) reply next (λ user. StepsJsl RoomRule held state id number at reply next)
        (can_read id number at bytes borrowed) it.user it.made steps

    steps_none : (why : LoaderFault) → no_jsl bytes ≡ Some why → StepsJsl RoomRule held state id number at (Refused why) state
    steps_none why is =
        let f = four id number at bytes borrowed in
        record { bytes = f.0; stands = f.1; is = stopped (no_jsl (take 4 (drop at f.0))) why state _ (ap no_jsl (sym f.2) ∙ is) }

    steps_to : (place : AddressPlace) (reply : Reply) (next : Machine) → no_jsl bytes ≡ None → IsLocated held state (address_of bytes) place → Enters RoomRule held state (address_of bytes) place reply next
        → StepsJsl RoomRule held state id number at reply next
    steps_to place reply next is located enters =
        let f = four id number at bytes borrowed in
        record {
          bytes = f.0;
          stands = f.1;
          is = decided (no_jsl (take 4 (drop at f.0))) state reply next _ (ap no_jsl (sym f.2) ∙ is) (
            place,
            subst (λ (bs : List ℕ). IsLocated held state (address_of bs) place) f.2 located,
            subst (λ (bs : List ℕ). Enters RoomRule held state (address_of bs) place reply next) f.2 enters,
          );
        }

  -- ---- the place

  abbrev pub is_at : (address id number offset : ℕ) → (lies : LiesIn old address id number offset) → IsAt held state address id number offset
  is_at address id number offset lies = at_there held old state agrees id number lies.h lies.is address offset lies.sum lies.inside

  nowhere : (address : ℕ) → ((id number offset : ℕ) → ¬ LiesIn old address id number offset) → IsLocated held state address Nowhere
  nowhere address none = λ id number offset at. none id number offset (lies_back held old state agrees RoomRule sound address id number offset at)

  -- the segment in which it lies
  module _ (address owner number offset : ℕ) (lies : LiesIn old address owner number offset) where
    abbrev pub its : IsKept held old state agrees owner lies.is.kept
    its = one held old state agrees owner number lies.h lies.is

    abbrev pub s : Segment
    s = (its_segment held old state agrees owner number lies.h lies.is).0

    pub found : segment_at its.does_agree.segments number ≡ Some s
    found = (its_segment held old state agrees owner number lies.h lies.is).1

    same_head : head_of s ≡ lies.is.head
    same_head = (its_segment held old state agrees owner number lies.h lies.is).2

    pub same_table : is_table (head_of s) ≡ is_table lies.is.head
    same_table = ap is_table same_head

    abbrev pub sees : Sees held state owner
    sees = sees_of held old state agrees owner lies.is.kept (one held old state agrees owner number lies.h lies.is)

    steps_place : (reply : Reply) (next : Machine) → is_table lies.is.head ≡ false → reply ≡ Entered owner number offset address → next ≡ state
        → Enters RoomRule held state address (In owner number offset) reply next
    steps_place reply next plain is same = (
      sees,
      s,
      found,
      either_no (is_table (head_of s)) _ _ (same_table ∙ plain) (is, same),
    )
      where
        either_no : (b : Bool) (P Q : Type 0) → b ≡ false → Q → Either b P Q
        either_no b P Q plain' q = rw plain' q

    steps_entry : (o : Option Target) (reply : Reply) (next : Machine) → is_table lies.is.head ≡ true → target_at_code (targets_of s) 0 offset ≡ o → EntersEntry RoomRule held state owner o reply next
        → Enters RoomRule held state address (In owner number offset) reply next
    steps_entry o reply next table is enters = (
      sees,
      s,
      found,
      either_yes (is_table (head_of s)) _ _ (same_table ∙ table) (subst (λ (x : Option Target). EntersEntry RoomRule held state owner x reply next) (sym is) enters),
    )
      where
        either_yes : (b : Bool) (P Q : Type 0) → b ≡ true → P → Either b P Q
        either_yes b P Q table' p = rw table' p

    -- ---- its entries

    module _ (table : is_table lies.is.head ≡ true) where
      its_table : load.is_table s ≡ true
      its_table = same_table ∙ table

      count : length (targets_of s) ≡ entry_count lies.is.head.length
      count = targets_count s ∙ ap (λ (h : SegmentHead). entry_count h.length) same_head

      front : IsFront (table_bytes (map (entry_for (setting_with (far_in old owner) owner old.memory.slots lies.is.kept.handles)) (targets_of s))) (bytes_at old.memory lies.h.slot)
      front =
          let was = begins held old state agrees owner number lies.h lies.is in
          subst (λ (l : List ℕ). IsFront l (bytes_at old.memory lies.h.slot)) (table_stands s (setting_with (far_in old owner) owner old.memory.slots lies.is.kept.handles) its_table)
          (rw (← its.does_agree.unpoked number s found its_table) was)

      pub none : ((k : ℕ) → k < entry_count lies.is.head.length → entry_place k ≢ offset) → target_at_code (targets_of s) 0 offset ≡ None
      none apart = no_code (targets_of s) 0 offset (λ n inside e. apart n (omega (arith, inside, count)) (omega (arith, e)))

      module _ (k : ℕ) (inside : k < entry_count lies.is.head.length) (code : entry_place k ≡ offset) where
        pub entry : (t : Target) × (slice_get (targets_of s) k ≡ Some t)
        entry = Rattle.loader_agrees.specs.laws.Lists.get_inside (targets_of s) k (omega (arith, inside, count))

        by_code : target_at_code (targets_of s) 0 offset ≡ Some entry.0
        by_code = found_code (targets_of s) 0 k offset entry.0 entry.1 (omega (arith, code))

        is_target : IsTarget its.does_agree.segments entry.0
        is_target = get_all (IsTarget its.does_agree.segments) (targets_of s) k entry.0 entry.1
            ((loadable_has its.does_agree.holds.file its.does_agree.segments its.does_agree.holds.loadable number s found).table its_table).targets

        -- the place to which it leads
        pub leads_to : LeadsInto old.users owner entry.0
        leads_to = by_target is_target
          where
            own_place : owner ≡ first_id + (owner - first_id)
            own_place = sym (made_at old.users owner lies.is.kept lies.is.made).1

            by_target : IsTarget its.does_agree.segments entry.0 → LeadsInto old.users owner entry.0
            by_target (inl own) =
                let within = number_within its.does_agree.segments entry.0.segment own.segment' own.is in
                let short = sound.short (owner - first_id) lies.is.kept (made_at old.users owner lies.is.kept lies.is.made).0 in
                record {
                  other = owner;
                  named = ap (λ (n : ℕ). named_by (kept_outlines old.users) owner n) own.file';
                  kept = lies.is.kept;
                  made = lies.is.made;
                  head = head_of own.segment';
                  head' = ap (λ (hs : List SegmentHead). at_number hs entry.0.segment) its.does_agree.heads ∙ Rattle.loader_agrees.specs.laws.Reads.head_at its.does_agree.segments entry.0.segment own.segment' own.is;
                  inside = own.inside;
                  file_fits = omega (arith, own.file');
                  segment_fits = omega (arith, within, short, ap (λ (hs : List SegmentHead). length hs) its.does_agree.heads, Rattle.std.proofs.lemmas.List.length-map its.does_agree.segments head_of);
                }
            by_target (inr far) =
                let above : 2 ≤ entry.0.file = far.beyond in
                let other : (entry.0.file == 1) ≡ false = grind arith in
                let leads = subst (λ (n : ℕ). LeadsFar old.users n entry.0) (sym own_place)
                (agrees.entries (owner - first_id) number k lies.is.kept its.does_agree.segments s entry.0 (made_at old.users owner lies.is.kept lies.is.made).0 its.does_agree.holds found its_table entry.1 above) in
                record {
                  other = leads.other;
                  named = rw other leads.named;
                  kept = leads.kept;
                  made = leads.made;
                  head = leads.head;
                  head' = leads.head';
                  inside = leads.inside;
                  file_fits = far_file held old state agrees sound owner entry.0 above leads;
                  segment_fits = far_segment held old state agrees sound owner entry.0 leads;
                }

        abbrev its_setting : AddressSetting
        its_setting = setting_with (far_in old owner) owner old.memory.slots lies.is.kept.handles

        -- what is read of the entry is its target
        file_same : (target_at (bytes_at old.memory lies.h.slot) k).file ≡ entry.0.file
        unfolding target_at
        file_same = file_read its_setting (targets_of s) (bytes_at old.memory lies.h.slot) front k entry.0 entry.1 (omega (arith, leads_to.file_fits))

        segment_same : (target_at (bytes_at old.memory lies.h.slot) k).segment ≡ entry.0.segment
        unfolding target_at
        segment_same = segment_read its_setting (targets_of s) (bytes_at old.memory lies.h.slot) front k entry.0 entry.1 (omega (arith, leads_to.segment_fits))

        offset_same : entry.0.offset < 256 ^ 4 → (target_at (bytes_at old.memory lies.h.slot) k).offset ≡ entry.0.offset
        unfolding target_at
        offset_same fits = offset_read its_setting (targets_of s) (bytes_at old.memory lies.h.slot) front k entry.0 entry.1 fits

-- ---- where a segment lands

-- an offset below LENGTH of a segment that was made active is an address of its block
at_byte : (slots : Slots) → ((place address : ℕ) → HoldsByte address (slot_at slots place) → address < 2 ^ 24) → (h : Handle) (block : Block) (at offset : ℕ) → get slots h ≡ Some block → block.at ≡ Some at
    → offset < block.want.size → at + offset < 2 ^ 24
at_byte slots below h block at offset live is inside = below h.slot (at + offset) (rw (live_block slots h block live, is) (omega arith, omega (arith, inside)))

-- the block of a segment that is there, and where it is
there_is : (slots : Slots) (o : Option Handle) (at : ℕ) → there_at (presence slots o) ≡ Some at → (h : Handle) × (block : Block) × (o ≡ Some h) × (get slots h ≡ Some block) × (block.at ≡ Some at)
there_is slots None at is = absurd cc
there_is slots (Some h) at is = in_slot (get slots h) refl is
  where
    at_place : (block : Block) (a : Option ℕ) (locked : Bool) → get slots h ≡ Some block → block.at ≡ a → there_at (lies_at h a locked) ≡ Some at
        → (k : Handle) × (b : Block) × (Some h ≡ Some k) × (get slots k ≡ Some b) × (b.at ≡ Some at)
    at_place block None locked g a is = absurd cc
    at_place block (Some x) false g a is = (h, block, refl, g, a ∙ is)
    at_place block (Some x) true g a is = (h, block, refl, g, a ∙ is)

    in_slot : (b : Option Block) → get slots h ≡ b → there_at (lies_in h b) ≡ Some at → (k : Handle) × (block : Block) × (Some h ≡ Some k) × (get slots k ≡ Some block) × (block.at ≡ Some at)
    in_slot None g is = absurd cc
    in_slot (Some block) g is = at_place block block.at block.locked g refl is

module _ (held : Option FileMap) (old new : Loaded) (sound : IsSound old.memory old.users) (below : (place address : ℕ) → HoldsByte address (slot_at old.memory.slots place) → address < 2 ^ 24)
    (below_now : (place address : ℕ) → HoldsByte address (slot_at new.memory.slots place) → address < 2 ^ 24) (owner number : ℕ) (head : SegmentHead) (handle : Option Handle)
    (can : CanLoad old owner number head handle) (offset : ℕ) (inside : offset < head.length) where
  lands_there : (at : ℕ) → there_at (presence old.memory.slots handle) ≡ Some at → at + offset < 2 ^ 24
  lands_there at is =
      let there = there_is old.memory.slots handle at is in
      let has : Has old.users (owner - first_id) number head there.0 =
      record { kept = can.kept; made = (made_at old.users owner can.kept can.made).0; head' = can.head'; handle = can.handle' ∙ there.2 } in
      let of' = sound.each (owner - first_id) number head there.0 has in
      let same : of'.block ≡ there.1 = same_Some of'.block there.1 (sym of'.live ∙ there.3) in
      at_byte old.memory.slots below there.0 there.1 at offset there.3 there.4 (omega (arith, inside, of'.want, ap (λ (b : Block). b.want.size) same))

  lands_new : (address : ℕ) (segments : List Segment) → HasCome old owner number can.kept head handle segments address new → address + offset < 2 ^ 24
  lands_new address segments did =
      let users = made_at old.users owner can.kept can.made in
      let brings = (is_new old owner number sound can.kept head users.0 users.1 can.head' handle did.h address did.placed can.handle' did.brought).brings in
      let live : get new.memory.slots did.h ≡ Some brings.block = ap (λ (t : Slots). get t did.h) did.renewed.slots ∙ brings.live in
      at_byte new.memory.slots below_now did.h brings.block address offset live brings.at (omega (arith, inside, want_size head, ap (λ (w : Want). w.size) brings.want))

  pub lands : (p : Presence) → presence old.memory.slots handle ≡ p → (address before now : ℕ) → HasActivated held old owner number can.kept head handle p (Ok address) new before now → address + offset < 2 ^ 24
  lands (Active h at) here address before now did =
      let same : address ≡ at = ok_same did.0 in
      omega (arith, same, lands_there at (ap there_at here))
    where
      ok_same : {a b : ℕ} → ◌≡◌ {A = Result ℕ LoaderFault} (Ok a) (Ok b) → a ≡ b
      ok_same e = cc
  lands (Idle h at) here address before now did =
      let same : address ≡ at = ok_same did.0 in
      omega (arith, same, lands_there at (ap there_at here))
    where
      ok_same : {a b : ℕ} → ◌≡◌ {A = Result ℕ LoaderFault} (Ok a) (Ok b) → a ≡ b
      ok_same e = cc
  lands (Purged h) here address before now did = lands_new address did.0.2.0 did.0.2.3
  lands Absent here address before now did = lands_new address did.0.2.0 did.0.2.3

-- ---- the whole call

module _ (held : FileMap) (old new : Loaded) (state : Machine) (sound : IsSound old.memory old.users) (agrees : Agrees held old state)
    (below : (place address : ℕ) → HoldsByte address (slot_at old.memory.slots place) → address < 2 ^ 24)
    (below_now : (place address : ℕ) → HoldsByte address (slot_at new.memory.slots place) → address < 2 ^ 24) (id number at before now : ℕ) where
  abbrev Met' : Result answers.Entered LoaderFault → Loaded → ℕ → Type 0
  Met' result last after = Meets RoomRule held state (Jsl id number at) (jsl_reply result) last before after

  refused : (why : LoaderFault) → IsJslRefusal old id number at why → Met' (Err why) old before
  refused why (NoBytes is) =
      inl (
        (
          state,
          refuses held old state agrees id (λ seen. bytes_refusal state.slots seen number at 4) why _
              (ap (λ (t : Slots). bytes_refusal t (seen_by old id) number at 4) (sym agrees.slots) ∙ is),
          agrees,
        ),
        refl,
      )
  refused why (NoJsl bytes borrowed is) =
      inl ((state, does_jsl held old state sound agrees id number at bytes borrowed (Refused why) state (steps_none held old state sound agrees id number at bytes borrowed why is), agrees), refl)
  refused why (NoPlace address call none is) =
      inl (
        (
          state,
          does_jsl held old state sound agrees id number at call.bytes call.borrowed (Refused why) state
              (steps_to held old state sound agrees id number at call.bytes call.borrowed Nowhere (Refused why) state call.jsl
              (subst (λ (n : ℕ). IsLocated held state n Nowhere) call.address_is (nowhere held old state sound agrees address none))
              (ap (λ (f : LoaderFault). Refused f) is, refl)),
          agrees,
        ),
        refl,
      )
  refused why (NoEntry place leads table apart is) =
      let call = leads.call in
      inl (
        (
          state,
          does_jsl held old state sound agrees id number at call.bytes call.borrowed (Refused why) state
              (steps_to held old state sound agrees id number at call.bytes call.borrowed (In place.user place.segment place.offset) (Refused why) state call.jsl
              (subst (λ (n : ℕ). IsLocated held state n (In place.user place.segment place.offset)) call.address_is (is_at held old state sound agrees place.address place.user place.segment place.offset leads.lies))
              (subst (λ (n : ℕ). Enters RoomRule held state n (In place.user place.segment place.offset) (Refused why) state) call.address_is
              (steps_entry held old state sound agrees place.address place.user place.segment place.offset leads.lies None (Refused why) state table
              (none held old state sound agrees place.address place.user place.segment place.offset leads.lies table apart) (ap (λ (f : LoaderFault). Refused f) is, refl)))),
          agrees,
        ),
        refl,
      )

  entered : (place : answers.Entered) → EntersPlace old id number at place → Met' (Ok place) old before
  entered place enters =
      let call = enters.leads.call in
      let lies = enters.leads.lies in
      inl (
        (
          state,
          does_jsl held old state sound agrees id number at call.bytes call.borrowed (Entered place.user place.segment place.offset place.address) state
              (steps_to held old state sound agrees id number at call.bytes call.borrowed (In place.user place.segment place.offset) (Entered place.user place.segment place.offset place.address) state call.jsl
              (subst (λ (n : ℕ). IsLocated held state n (In place.user place.segment place.offset)) call.address_is (is_at held old state sound agrees place.address place.user place.segment place.offset lies))
              (subst (λ (n : ℕ). Enters RoomRule held state n (In place.user place.segment place.offset) (Entered place.user place.segment place.offset place.address) state) call.address_is
              (steps_place held old state sound agrees place.address place.user place.segment place.offset lies (Entered place.user place.segment place.offset place.address) state enters.plain refl refl))),
          agrees,
        ),
        refl,
      )

  -- an entry
  module _ (place : answers.Entered) (call : HasJsl old id number at place.address) (target : Target) (is : IsEntry old place target) where
    abbrev lies : LiesIn old place.address place.user place.segment place.offset
    lies = is.lies

    abbrev pub t : (t : Target) × (slice_get (targets_of (s held old state sound agrees place.address place.user place.segment place.offset is.lies)) is.k ≡ Some t)
    t = entry held old state sound agrees place.address place.user place.segment place.offset is.lies is.table is.k is.inside is.code

    pub lead : LeadsInto old.users place.user t.0
    lead = leads_to held old state sound agrees place.address place.user place.segment place.offset is.lies is.table is.k is.inside is.code

    -- the user that the entry names
    named : named_by (outlines state.users) place.user t.0.file ≡ Some lead.other
    named = ap (λ (os : List (Option Outline)). named_by os place.user t.0.file) (sym agrees.users) ∙ lead.named

    pub file_is : target.file ≡ t.0.file
    file_is = ap (λ (x : Target). x.file) is.target_is ∙ file_same held old state sound agrees place.address place.user place.segment place.offset is.lies is.table is.k is.inside is.code

    pub segment_is : target.segment ≡ t.0.segment
    segment_is = ap (λ (x : Target). x.segment) is.target_is ∙ segment_same held old state sound agrees place.address place.user place.segment place.offset is.lies is.table is.k is.inside is.code

    offset_is : t.0.offset < 256 ^ 4 → target.offset ≡ t.0.offset
    offset_is fits = ap (λ (x : Target). x.offset) is.target_is ∙ offset_same held old state sound agrees place.address place.user place.segment place.offset is.lies is.table is.k is.inside is.code fits

    abbrev of : ℕ → Reply
    of address = Entered lead.other t.0.segment t.0.offset (address + t.0.offset)

    steps_call : (reply : Reply) (next : Machine) → MakesActive RoomRule held state lead.other t.0.segment of reply next
        → Rattle.loader_machine.specs.Steps.Does held state id (λ seen. bytes_refusal state.slots seen number at 4) reply next (λ user. StepsJsl RoomRule held state id number at reply next)
    steps_call reply next makes =
        does_jsl held old state sound agrees id number at call.bytes call.borrowed reply next
        (steps_to held old state sound agrees id number at call.bytes call.borrowed (In place.user place.segment place.offset) reply next call.jsl
        (subst (λ (n : ℕ). IsLocated held state n (In place.user place.segment place.offset)) call.address_is (is_at held old state sound agrees place.address place.user place.segment place.offset is.lies))
        (subst (λ (n : ℕ). Enters RoomRule held state n (In place.user place.segment place.offset) reply next) call.address_is
        (steps_entry held old state sound agrees place.address place.user place.segment place.offset is.lies (Some t.0) reply next is.table
        (by_code held old state sound agrees place.address place.user place.segment place.offset is.lies is.table is.k is.inside is.code) (lead.other, named, makes))))

    -- the place by the address that is read
    abbrev read_lies : (n : ℕ) → place.address ≡ n → LiesIn old n place.user place.segment place.offset
    read_lies n e = record { h = is.lies.h; is = is.lies.is; sum = is.lies.sum ∙ e; inside = is.lies.inside }

    -- the call reaches the target
    pub reaches : Reaches held state id number at lead.other t.0
    reaches =
        let f = four held old state sound agrees id number at call.bytes call.borrowed in
        record {
          owner = place.user;
          seen = seen_by old id;
          is_seen = is_seen held old state agrees id;
          passes = can_read held old state sound agrees id number at call.bytes call.borrowed;
          bytes = f.0;
          stands = f.1;
          jsl = ap no_jsl (sym f.2) ∙ call.jsl;
          table = place.segment;
          offset = place.offset;
          is_at = is_at held old state sound agrees (address_of (take 4 (drop at f.0))) place.user place.segment place.offset (read_lies (address_of (take 4 (drop at f.0))) (call.address_is ∙ ap address_of f.2));
          is_table = same_table held old state sound agrees place.address place.user place.segment place.offset is.lies ∙ is.table;
          target = by_code held old state sound agrees place.address place.user place.segment place.offset is.lies is.table is.k is.inside is.code;
          named = named;
        }

    module _ (head : SegmentHead) (handle : Option Handle) (can : CanLoad old lead.other t.0.segment head handle) where
      abbrev its_user : IsKept held old state agrees lead.other can.kept
      its_user = kept_is held old state agrees lead.other can.kept can.made

      needs : is_read (presence old.memory.slots handle) ≡ true → Needs held state (Jsl id number at) (its_user.user.path ∷ [])
      needs reads =
          let same' : presence_at state.slots (handles_of its_user.user) t.0.segment ≡ presence old.memory.slots handle = presence_same held old state lead.other t.0.segment sound agrees head handle can in
          inl (
            lead.other,
            t.0,
            reaches,
            its_user.user,
            its_user.made,
            sym (ap (λ (b : Bool). path_if None b its_user.user.path) (ap is_read same' ∙ reads)),
          )

      head_is : head ≡ lead.head
      head_is =
          let same : can.kept ≡ lead.kept = same_Some can.kept lead.kept (sym can.made ∙ lead.made) in
          same_Some head lead.head (sym can.head' ∙ ap (λ (k : LoadedUser). at_number k.heads t.0.segment) same ∙ lead.head')

      inside' : t.0.offset < head.length
      inside' = omega (arith, lead.inside, ap (λ (x : SegmentHead). x.length) head_is)

      reply_same : (made : Result ℕ LoaderFault) → HasActivated (Some held) old lead.other t.0.segment can.kept head handle (presence old.memory.slots handle) made new before now
          → activation_reply of made ≡ jsl_reply (entered_at lead.other t.0.segment t.0.offset made)
      reply_same (Ok address) did =
          let small = lands (Some held) old new sound below below_now lead.other t.0.segment head handle can t.0.offset inside' (presence old.memory.slots handle) refl address before now did in
          ap (Entered lead.other t.0.segment t.0.offset) (small_sum (address + t.0.offset) small)
        where
          small_sum : (n : ℕ) → n < 2 ^ 24 → n ≡ n % 2 ^ 24
          small_sum n lt = omega (arith, lt)
      reply_same (Err why) did = refl

      activation : (made : Result ℕ LoaderFault) → HasActivated (Some held) old lead.other t.0.segment can.kept head handle (presence old.memory.slots handle) made new before now
          → Met' (entered_at lead.other t.0.segment t.0.offset made) new now
      activation made did = elim (subst (λ (r : Reply). IsMet held state lead.other t.0.segment of (is_read (presence old.memory.slots handle)) r new before now) (reply_same made did)
          (activated held old state lead.other t.0.segment sound agrees head handle can (presence old.memory.slots handle) refl made new before now of did)) [
            | inl met ↦ inl ((met.0, steps_call (jsl_reply (entered_at lead.other t.0.segment t.0.offset made)) met.0 met.1, met.2), met.3)
            | inr other ↦ elim other [
              | inl unread ↦ inr (inl (unread.0, its_user.user.path ∷ [], needs unread.2, (λ none. absurd cc), unread.1, unread.3))
              | inr short ↦ inr (inr short)
            ]
          ]

    called : load_segment_refusal (seen_by old lead.other) t.0.segment ≡ None → (made : Result ℕ LoaderFault) → DidActivate (Some held) old lead.other t.0.segment made new before now → (offset : ℕ)
        → (t.0.offset < 256 ^ 4 → offset ≡ t.0.offset) → Met' (entered_at lead.other t.0.segment offset made) new now
    called passes made (inl stops) offset same = let clash : Some stops.0 ≡ None = sym stops.1 ∙ passes in absurd cc
    called passes made (inr did) offset same =
        let inside = inside' did.0 did.1 did.2 in
        subst (λ (n : ℕ). Met' (entered_at lead.other t.0.segment n made) new now) (sym (same (omega (arith, inside, did.2.fits))))
        (activation did.0 did.1 did.2 made did.3)

    by_entry : (other segment offset : ℕ) → named_by (kept_outlines old.users) place.user target.file ≡ Some other → target.segment ≡ segment → target.offset ≡ offset
        → load_segment_refusal (seen_by old other) segment ≡ None → (made : Result ℕ LoaderFault)
        → DidActivate (Some held) old other segment made new before now → Met' (entered_at other segment offset made) new now
    by_entry other segment offset its_named its_segment' its_offset passes made did =
        let segment_same' : t.0.segment ≡ segment = sym segment_is ∙ its_segment' in
        let user : lead.other ≡ other = same_Some lead.other other (sym lead.named ∙ ap (λ (n : ℕ). named_by (kept_outlines old.users) place.user n) (sym file_is) ∙ its_named) in
        let did' : DidActivate (Some held) old lead.other t.0.segment made new before now =
        subst (λ (n : ℕ). DidActivate (Some held) old n t.0.segment made new before now) (sym user)
        (subst (λ (n : ℕ). DidActivate (Some held) old other n made new before now) (sym segment_same') did) in
        let passes' : load_segment_refusal (seen_by old lead.other) t.0.segment ≡ None =
        subst (λ (n : ℕ). load_segment_refusal (seen_by old n) t.0.segment ≡ None) (sym user) (subst (λ (n : ℕ). load_segment_refusal (seen_by old other) n ≡ None) (sym segment_same') passes) in
        subst (λ (n : ℕ). Met' (entered_at n segment offset made) new now) user
        (subst (λ (n : ℕ). Met' (entered_at lead.other n offset made) new now) segment_same'
        (called passes' made did' offset (λ fits. sym its_offset ∙ offset_is fits)))

  jsl_met : (result : Result answers.Entered LoaderFault) → DidJsl (Some held) old id number at result new before now → Met' result new now
  jsl_met result (Stops why is result_is new_is now_is) =
      subst (λ (r : Result answers.Entered LoaderFault). Met' r new now) (sym result_is)
      (subst (λ (l : Loaded). Met' (Err why) l now) (sym new_is) (subst (λ (n : ℕ). Met' (Err why) old n) (sym now_is) (refused why is)))
  jsl_met result (Leads place is result_is new_is now_is) =
      subst (λ (r : Result answers.Entered LoaderFault). Met' r new now) (sym result_is)
      (subst (λ (l : Loaded). Met' (Ok place) l now) (sym new_is) (subst (λ (n : ℕ). Met' (Ok place) old n) (sym now_is) (entered place is)))
  jsl_met result (Calls other segment offset calls made did result_is) =
      subst (λ (r : Result answers.Entered LoaderFault). Met' r new now) (sym result_is)
      (by_entry calls.place calls.leads.call calls.target calls.entry other segment offset calls.named calls.segment' calls.offset' calls.passes made did)

-- following a JSL is the machine's step
pub jsls_meet : (store : Option FileMap) (held : FileMap) (old new : Loaded) (state : Machine) (id number at : ℕ) (result : Result answers.Entered LoaderFault) (before now : ℕ) → store ≡ Some held
    → IsSound old.memory old.users → ((place address : ℕ) → HoldsByte address (slot_at old.memory.slots place) → address < 2 ^ 24)
    → ((place address : ℕ) → HoldsByte address (slot_at new.memory.slots place) → address < 2 ^ 24)
    → DidJsl store old id number at result new before now → Agrees held old state → Meets RoomRule held state (Jsl id number at) (jsl_reply result) new before now
jsls_meet store held old new state id number at result before now reported sound below below_now did agrees =
    jsl_met held old new state sound agrees below below_now id number at before now result
    (subst (λ (s : Option FileMap). DidJsl s old id number at result new before now) reported did)
