-- A JSL in memory to an entry of a jump table: its four bytes, and the outcome of following them.
use Rattle.std.proofs.Common.{◌≡◌, inl, inr, ℕ, Bool, true, false, ◌+◌, ◌^◌, ◌<◌, ◌≤◌, List, take, drop, Option, Some, None, Result, Ok, Err, nat_le, refl, sym, ap, subst, ◌∙◌, arith}
use Rattle.std.specs.Prelude.{slice_get, slice_index}
use Rattle.std.proofs.lemmas.Option.{same_Some, slice_get_within, get_or_from_slice_get}
use Rattle.omf_format.specs.Header.{is_skipped}
use Rattle.omf_format.specs.Number.{number_at}
use Rattle.omf_format.specs.File.{Segment, segment_at}
use Rattle.omf_io.specs.Files.{FileMap}
use Rattle.load_meaning.specs.declared.table.Target.{Target}
use Rattle.load_meaning.specs.Cells.{Byte, cells}
use Rattle.load_meaning.specs.laws.CellLaws.{length-cells}
use Rattle.load_meaning.specs.laws.LayingLaws.{get-take, get-drop}
use Rattle.load_meaning.specs.Table.{entry_place}
use Rattle.load_meaning.specs.LoadTable.{targets_of}
use Rattle.iigs_meaning.specs.Slots.{slot_at}
use Rattle.iigs_meaning.specs.Fits.{Slots, HoldsByte}
use Rattle.iigs_meaning.specs.Blocks.{AreApart}
use Rattle.loader_machine.specs.Rule.{RoomRule}
use Rattle.loader_machine.specs.declared.faults.LoaderFault.{LoaderFault}
use Rattle.loader_machine.specs.declared.faults.LoaderFault.TheVariants.{CannotRead, Memory}
use Rattle.loader_machine.specs.declared.seen.SegmentHead.{SegmentHead}
use Rattle.loader_machine.specs.declared.seen.Life.TheVariants.{Running}
use Rattle.loader_machine.specs.Heads.{head_of, at_number, is_table}
use Rattle.loader_machine.specs.State.{User, Machine, UserSeen, handles_of, held_at, outlines, named_by}
use Rattle.loader_machine.specs.Presences.{presence_at, is_active}
use Rattle.loader_machine.specs.Stands.{place_in, stands}
use Rattle.loader_machine.specs.Found.{HoldsLoad}
use Rattle.loader_machine.specs.Refusals.{Refuse, of_segment, bytes_refusal}
use Rattle.loader_machine.specs.Commands.{Reply, Bytes, Jsl, Where, Entered, Lies, Shown, Refused}
use Rattle.loader_machine.specs.laws.OnceLaws.{one_load}
use Rattle.loader_machine.specs.Steps.{Sees, seen_of, StandsIn, IsAt, AddressPlace, Nowhere, In, IsLocated, Decides, Either, no_jsl, address_of, target_at_code, StepsJsl, Activation, OutOfSlots, OutOfRoom, Made, Steps}
use Rattle.loader_machine.specs.laws.Words.{setting_in, place_reply, Enters, EntersEntry, EntersSegment, Answers}
use Rattle.loader_agrees.specs.Agrees.{Loaded, Agrees, IsSound, Meets}
use Rattle.loader_agrees.specs.laws.Apart.{steps_once_there}
use Rattle.loader_agrees.specs.laws.Reads.{head_at}
use Rattle.sys_loader.specs.declared.answers.Entered as answers
use Rattle.sys_loader.specs.Naming.{HasAddress}
use Rattle.sys_loader.specs.Calling.{HasCall, EntersTarget}
use Rattle.sys_loader.specs.Following.{jsl_reply}
use Rattle.sys_loader.proofs.Entries.{found_code}
use Rattle.sys_loader.proofs.Naming.{cell_stands, number_of_three, byte_there, part_plain, segment_sound, target_at, target_small, read_is}

-- ---- four bytes of a segment

-- a byte among some of the bytes
get_in : (bytes : List ℕ) (at k b : ℕ) → k < 4 → slice_get bytes (at + k) ≡ Some b → slice_get (take 4 (drop at bytes)) k ≡ Some b
get_in bytes at k b lt is = get-take 4 (drop at bytes) k lt ∙ get-drop at bytes k ∙ is

first_in : (bytes : List ℕ) (at b : ℕ) → slice_get bytes at ≡ Some b → slice_index (take 4 (drop at bytes)) 0 ≡ b
first_in bytes at b is =
    let same : at + 0 ≡ at = omega arith in
    get_or_from_slice_get (take 4 (drop at bytes)) 0 b 0 (get_in bytes at 0 b (omega arith) (ap (slice_get bytes) same ∙ is))

-- the number after the first of four bytes
number_in : (bytes : List ℕ) (at a b c : ℕ) → slice_get bytes (at + 1 + 0) ≡ Some a → slice_get bytes (at + 1 + 1) ≡ Some b → slice_get bytes (at + 1 + 2) ≡ Some c
    → number_at 3 1 (take 4 (drop at bytes)) ≡ number_at 3 (at + 1) bytes
number_in bytes at a b c one two three =
    let p : at + 1 ≡ at + 1 + 0 = omega arith in
    let q : at + 2 ≡ at + 1 + 1 = omega arith in
    let r : at + 3 ≡ at + 1 + 2 = omega arith in
    number_of_three (take 4 (drop at bytes)) 1 a b c
    (get_in bytes at 1 a (omega arith) (ap (slice_get bytes) p ∙ one))
    (get_in bytes at 2 b (omega arith) (ap (slice_get bytes) q ∙ two))
    (get_in bytes at 3 c (omega arith) (ap (slice_get bytes) r ∙ three))
    ∙ sym (number_of_three bytes (at + 1) a b c one two three)

is_jsl : (bytes : List ℕ) → slice_index bytes 0 ≡ 0x22 → no_jsl bytes ≡ None
is_jsl bytes is = rw is refl

-- ---- what decides

decided : (r : Refuse) (state : Machine) (reply : Reply) (next : Machine) (Done : Type 0) → r ≡ None → Done → Decides r state reply next Done
decided r state reply next Done is done = rw is done

undecided : (r : Refuse) (state : Machine) (reply : Reply) (next : Machine) (Done : Type 0) → r ≡ None → Decides r state reply next Done → Done
undecided r state reply next Done is d = subst (λ (x : Refuse). Decides x state reply next Done) is d

-- bytes of an active segment can be read
bytes_pass : (slots : Slots) (seen : UserSeen) (number at count : ℕ) (head : SegmentHead) → seen.life ≡ Running → at_number seen.heads number ≡ Some head → is_skipped head.kind ≡ false
    → is_active (presence_at slots seen.handles number) ≡ true → at + count ≤ head.length → bytes_refusal slots (Some seen) number at count ≡ None
unfolding bytes_refusal
bytes_pass slots seen number at count head runs head' loaded active inside =
    let within : nat_le (at + count) head.length ≡ true = grind (arith, inside) in
    rw (runs, head', loaded, active, within, of_segment) refl

-- ---- replies

place_is : (place : AddressPlace) (id number offset : ℕ) → place_reply place ≡ Lies id number offset → place ≡ In id number offset
place_is Nowhere id number offset e = absurd cc
place_is (In a b c) id number offset e = cc

same_shown : (a b : List ℕ) → Shown a ≡ Shown b → a ≡ b
same_shown a b e = cc

module _ (held : FileMap) (loader : Loaded) (state : Machine) (agrees : Agrees held loader state) (sound : IsSound loader.memory loader.users)
    (apart : AreApart loader.memory.banks loader.memory.slots) (below : (place address : ℕ) → HoldsByte address (slot_at loader.memory.slots place) → address < 2 ^ 24)
    (id number at : ℕ) (t : Target) (call : HasCall held state id number at t) where
  abbrev has : HasAddress held state id number (at + 1) call.table (entry_place call.k)
  has = call.address

  abbrev sees : Sees held state id
  sees = call.address.sees

  abbrev bytes : List ℕ
  bytes = stands (setting_in state id sees.user) (held_at sees.user number).pokes has.s

  abbrev four : List ℕ
  four = take 4 (drop at bytes)

  -- ---- the four bytes

  long : at + 4 ≤ has.s.fields.length
  long = omega (
    arith,
    slice_get_within (cells has.s) (at + 1 + 2) _ (has.parts 2 (omega arith)),
    length-cells sees.segments number has.s (segment_sound held loader state agrees sound below id number (at + 1) call.table (entry_place call.k) has),
  )

  passes : bytes_refusal state.slots (Some (seen_of sees.user sees.segments)) number at 4 ≡ None
  passes = bytes_pass state.slots (seen_of sees.user sees.segments) number at 4 (head_of has.s) has.runs
      (head_at sees.segments number has.s has.is) call.loaded has.active long

  stands_here : StandsIn held state id number bytes
  stands_here = record { sees = sees; s = has.s; is = has.is; bytes_are = refl }

  shows : Steps RoomRule held state (Bytes id number at 4) (Shown four) state
  shows = record {
    seen = Some (seen_of sees.user sees.segments);
    is_seen = (sees, refl);
    is = decided _ state (Shown four) state _ passes (sees.user, sees.made, (bytes, stands_here, refl, refl));
  }

  plain : Rattle.load_meaning.specs.LoadTable.is_table has.s ≡ false
  plain = part_plain sees.segments number has.s (segment_sound held loader state agrees sound below id number (at + 1) call.table (entry_place call.k) has)
      (at + 1 + 0) 1 call.table (entry_place call.k) 0 (has.parts 0 (omega arith))

  starts : slice_index four 0 ≡ 0x22
  starts = first_in bytes at 0x22 (cell_stands (setting_in state id sees.user) (held_at sees.user number).pokes has.s at (Byte 0x22) plain call.code call.unwritten)

  leads : address_of four ≡ place_in state.slots (handles_of sees.user) call.table + entry_place call.k
  leads =
      let byte = byte_there (setting_in state id sees.user) (held_at sees.user number).pokes has.s (at + 1) call.table (entry_place call.k) plain
      has.parts has.unwritten (target_small held loader state agrees sound below id number (at + 1) call.table (entry_place call.k) has) in
      number_in bytes at _ _ _ (byte 0 (omega arith)) (byte 1 (omega arith)) (byte 2 (omega arith))
      ∙ read_is held loader state agrees sound below id number (at + 1) call.table (entry_place call.k) has

  at_code : IsAt held state (address_of four) id call.table (entry_place call.k)
  at_code =
      let there = target_at held loader state agrees sound below id number (at + 1) call.table (entry_place call.k) has in
      let same : there.0 + entry_place call.k ≡ address_of four = ap (λ (n : ℕ). n + entry_place call.k) (sym there.1) ∙ sym leads in
      subst (λ (n : ℕ). IsAt held state n id call.table (entry_place call.k)) same there.2

  lies : Steps RoomRule held state (Where (address_of four)) (Lies id call.table (entry_place call.k)) state
  lies = (In id call.table (entry_place call.k), at_code, refl, refl)

  -- ---- the outcome of following them

  answers_enter : (other : ℕ) → named_by (outlines state.users) id t.file ≡ Some other → (outcome : Activation) (result : Result answers.Entered LoaderFault) (next : Machine)
      → Answers state t.segment outcome (λ address. Entered other t.segment t.offset (address + t.offset)) (jsl_reply result) next → EntersTarget state id t result
  answers_enter other named OutOfSlots (Ok place) next is = let no = is.0 in absurd cc
  answers_enter other named OutOfSlots (Err why) next is = let e = is.0 in inr (inl cc)
  answers_enter other named OutOfRoom (Ok place) next is = let no = is.0 in absurd cc
  answers_enter other named OutOfRoom (Err why) next is = let e = is.0 in inr (inr (inl cc))
  answers_enter other named (Made address last) (Ok place) next is = let e = is.0 in let user : place.user ≡ other = cc in (named ∙ ap (λ (n : ℕ). Some n) (sym user), cc, cc)
  answers_enter other named (Made address last) (Err why) next is = let no = is.0 in absurd cc

  enters : (result : Result answers.Entered LoaderFault) (next : Machine) (address : ℕ) → Enters RoomRule held state address (In id call.table (entry_place call.k)) (jsl_reply result) next → EntersTarget state id t result
  enters result next address e =
      let other = e.0 in
      let s = e.1 in
      let user : other.user ≡ sees.user = same_Some other.user sees.user (sym other.made ∙ sees.made) in
      let segments : other.segments ≡ sees.segments = one_load held sees.user.path other.segments sees.segments
      (subst (λ (u : User). HoldsLoad held u.path other.segments) user other.holds) sees.holds in
      let same : s ≡ has.t = same_Some s has.t (sym e.2 ∙ ap (λ (ss : List Segment). segment_at ss call.table) segments ∙ has.target') in
      let found : target_at_code (targets_of has.t) 0 (entry_place call.k) ≡ Some t = found_code (targets_of has.t) 0 call.k (entry_place call.k) t call.entry (omega arith) in
      let entry : EntersEntry RoomRule held state id (target_at_code (targets_of has.t) 0 (entry_place call.k)) (jsl_reply result) next =
      yes (is_table (head_of has.t)) _ _ call.is_table (subst (λ (x : Segment). EntersSegment RoomRule held state address id call.table (entry_place call.k) x (jsl_reply result) next) same e.3) in
      let made = subst (λ (o : Option Target). EntersEntry RoomRule held state id o (jsl_reply result) next) found entry in
      answers_enter made.0 made.1 made.2.outcome result next made.2.answers
    where
      yes : (b : Bool) (P Q : Type 0) → b ≡ true → Either b P Q → P
      yes b P Q is e = subst (λ (x : Bool). Either x P Q) is e

  follows : (result : Result answers.Entered LoaderFault) (next : Machine) → StepsJsl RoomRule held state id number at (jsl_reply result) next → EntersTarget state id t result
  follows result next steps =
      let other : List ℕ = take 4 (drop at steps.bytes) in
      let shown : Steps RoomRule held state (Bytes id number at 4) (Shown other) state = record {
        seen = Some (seen_of sees.user sees.segments);
        is_seen = (sees, refl);
        is = decided _ state (Shown other) state _ passes (sees.user, sees.made, (steps.bytes, steps.stands, refl, refl));
      } in
      let same : other ≡ four = same_shown other four (steps_once_there held loader state agrees sound apart (Bytes id number at 4) (Shown other) (Shown four) state state shown shows).0 in
      let done = undecided (no_jsl other) state (jsl_reply result) next _ (ap no_jsl same ∙ is_jsl four starts) steps.is in
      let located : IsLocated held state (address_of four) done.0 = subst (λ (bs : List ℕ). IsLocated held state (address_of bs) done.0) same done.1 in
      let place : done.0 ≡ In id call.table (entry_place call.k) = place_is done.0 id call.table (entry_place call.k)
      (steps_once_there held loader state agrees sound apart (Where (address_of four)) (place_reply done.0) (Lies id call.table (entry_place call.k)) state state (done.0, located, refl, refl) lies).0 in
      enters result next (address_of other) (subst (λ (p : AddressPlace). Enters RoomRule held state (address_of other) p (jsl_reply result) next) place done.2)

  steps_enter : (result : Result answers.Entered LoaderFault) (next : Machine) → Steps RoomRule held state (Jsl id number at) (jsl_reply result) next → EntersTarget state id t result
  steps_enter result next steps = go (bytes_refusal state.slots steps.seen number at 4) refl
    where
      go : (r : Refuse) → bytes_refusal state.slots steps.seen number at 4 ≡ r → EntersTarget state id t result
      go None is = follows result next (undecided (bytes_refusal state.slots steps.seen number at 4) state (jsl_reply result) next _ is steps.is).2
      go (Some why) is =
          let refuses : Steps RoomRule held state (Bytes id number at 4) (Refused why) state = record { seen = steps.seen; is_seen = steps.is_seen; is = rw is (refl, refl) } in
          let clash : Refused why ≡ Shown four = (steps_once_there held loader state agrees sound apart (Bytes id number at 4) (Refused why) (Shown four) state state refuses shows).0 in
          absurd cc

  same_refused : (result : Result answers.Entered LoaderFault) (why : LoaderFault) → jsl_reply result ≡ Refused why → result ≡ Err why
  same_refused (Ok place) why e = absurd cc
  same_refused (Err other) why e = cc

  -- following a JSL to an entry enters the entry's target, or is refused where the file or room is missing
  pub calls_enter : (result : Result answers.Entered LoaderFault) (new : Loaded) (before now : ℕ) → Meets RoomRule held state (Jsl id number at) (jsl_reply result) new before now → EntersTarget state id t result
  calls_enter result new before now (inl met) = steps_enter result met.0.0 met.0.1
  calls_enter result new before now (inr (inl unread)) = subst (λ (r : Result answers.Entered LoaderFault). EntersTarget state id t r) (sym (same_refused result CannotRead unread.0)) (inl refl)
  calls_enter result new before now (inr (inr short)) = subst (λ (r : Result answers.Entered LoaderFault). EntersTarget state id t r) (sym (same_refused result Memory short.0)) (inr (inr (inr refl)))
