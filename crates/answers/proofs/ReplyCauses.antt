-- No reply of a step is a refusal for being out of memory.
use Rattle.std.proofs.Common.{◌≡◌, ◌≢◌, ℕ, Bool, true, false, cond, List, [], ◌∷◌, length, map, Option, Some, None, refl, sym, subst}
use Rattle.std.specs.Prelude.{take, drop}
use Rattle.omf_format.specs.Header.{is_skipped}
use Rattle.omf_format.specs.File.{Segment}
use Rattle.omf_io.specs.Files.{FileMap}
use Rattle.load_meaning.specs.LoadTable.{targets_of}
use Rattle.load_meaning.specs.declared.table.Target.{Target}
use Rattle.load_meaning.specs.Pathnames.{paths_of}
use Rattle.iigs_meaning.specs.declared.handles.Handle.{Handle}
use Rattle.iigs_meaning.specs.declared.wants.Block.{Block}
use Rattle.iigs_meaning.specs.declared.wants.Want.{Want}
use Rattle.iigs_meaning.specs.Slots.{get}
use Rattle.iigs_meaning.specs.Fits.{Slots}
use Rattle.iigs_meaning.specs.Puts.{MakesRoom, without_user}
use Rattle.loader_machine.specs.declared.faults.LoaderFault.{LoaderFault}
use Rattle.loader_machine.specs.declared.faults.LoaderFault.TheVariants.{NoUser, NotRunning, Running, NoSegment, Static, NotActive, TableByte, OutOfSegment, TooManyUsers, Stale, LoaderOwned, Empty, NotJsl, NoTarget, NotEntry, CannotRead, BadFile, NoHandle, NoRoom, Memory}
use Rattle.loader_machine.specs.declared.seen.SegmentHead.{SegmentHead}
use Rattle.loader_machine.specs.Heads.{at_number, is_table, head_of, number_of}
use Rattle.loader_machine.specs.State.{User, Machine, UserSeen, outlines, is_attached, handles_of}
use Rattle.loader_machine.specs.Found.{FileFound, Unread, Bad, Good, Joined, Stops, Joins, AreJoined, joined_after}
use Rattle.loader_machine.specs.Commands.{Command, Banks, Load, LoadSegment, UnloadSegment, Jsl, ShutDown, Restart, Purge, Poke, Bytes, Where, Info, Alloc, Free, Lock, Unlock, Level, StateOf, Room, Compact, Reply, Okay, MadeActive, Entered, Lies, Nothing, Placed, RoomIs, Refused}
use Rattle.loader_machine.specs.laws.Words.{JoinsFound, Lands, LoadsJoined, LoadsFound, Answers, EntersEntry, Enters, RestartsInPlace, again_users, place_reply}
use Rattle.loader_machine.specs.Refusals.{Refuse, of_user, of_running, of_segment, of_dynamic, of_active, of_inside, of_own, of_live, of_script, load_refusal, rows_refusal, bytes_refusal, info_refusal, load_segment_refusal, unload_refusal, poke_refusal, shut_down_refusal, restart_refusal, purge_refusal, state_refusal, free_refusal, change_refusal}
use Rattle.loader_machine.specs.Steps.{Decides, Does, Put, NoSlots, Lacks, PutIn, Begins, lost_refusal, Activation, OutOfSlots, OutOfRoom, Made, MakesActive, AddressPlace, Nowhere, In, Either, no_jsl, target_at_code, StepsJsl, are_there, StepsRestart, StepsAlloc, IsPlaced, HasNoHandle, HasNoRoom, StepsChange, Steps, address_of}
use Rattle.answers.specs.laws.Options.{same_some, mapped}

abbrev IsOther : LoaderFault → Type 0
IsOther fault = fault ≢ Memory

-- ---- refusals

abbrev OnlyOthers : Refuse → Type 0
OnlyOthers refusal = (fault : LoaderFault) → refusal ≡ Some fault → IsOther fault

none : OnlyOthers None
none fault e = absurd cc

one : (f : LoaderFault) → IsOther f → OnlyOthers (Some f)
one f other fault e = subst IsOther (same_some f fault e) other

either : (b : Bool) (r s : Refuse) → OnlyOthers r → OnlyOthers s → OnlyOthers (cond b r s)
either true r s first second = first
either false r s first second = second

user : (seen : Option UserSeen) (rest : UserSeen → Refuse) → ((s : UserSeen) → OnlyOthers (rest s)) → OnlyOthers (of_user seen rest)
user None rest others = one NoUser (λ e. cc)
user (Some seen) rest others = others seen

running : (seen : UserSeen) (rest : Refuse) → OnlyOthers rest → OnlyOthers (of_running seen rest)
running seen rest others = either _ rest (Some NotRunning) others (one NotRunning (λ e. cc))

segment : (seen : UserSeen) (number : ℕ) (rest : SegmentHead → Refuse) → ((head : SegmentHead) → OnlyOthers (rest head)) → OnlyOthers (of_segment seen number rest)
segment seen number rest others = by_head (at_number seen.heads number)
  where
    by_head : (found : Option SegmentHead) → OnlyOthers (elim found as (λ f. Refuse) [ None ↦ Some NoSegment | Some head ↦ cond (is_skipped head.kind) (Some NoSegment) (rest head) ])
    by_head None = one NoSegment (λ e. cc)
    by_head (Some head) = either _ (Some NoSegment) (rest head) (one NoSegment (λ e. cc)) (others head)

dynamic : (head : SegmentHead) (rest : Refuse) → OnlyOthers rest → OnlyOthers (of_dynamic head rest)
dynamic head rest others = either _ rest (Some Static) others (one Static (λ e. cc))

active : (slots : Slots) (seen : UserSeen) (number : ℕ) (rest : Refuse) → OnlyOthers rest → OnlyOthers (of_active slots seen number rest)
active slots seen number rest others = either _ rest (Some NotActive) others (one NotActive (λ e. cc))

inside : (at count : ℕ) (head : SegmentHead) → OnlyOthers (of_inside at count head None)
inside at count head = either _ None (Some OutOfSegment) none (one OutOfSegment (λ e. cc))

script : (found : Option Block) (rest : Block → Refuse) → ((block : Block) → OnlyOthers (rest block)) → OnlyOthers (of_live found (λ block. of_script block (rest block)))
script None rest others = one Stale (λ e. cc)
script (Some block) rest others = either _ (rest block) (Some LoaderOwned) (others block) (one LoaderOwned (λ e. cc))

load_others : (made : ℕ) → OnlyOthers (load_refusal made)
unfolding load_refusal
load_others made = either _ None (Some TooManyUsers) none (one TooManyUsers (λ e. cc))

rows_others : (made rows : ℕ) → OnlyOthers (rows_refusal made rows)
unfolding rows_refusal
rows_others made rows = either _ None (Some TooManyUsers) none (one TooManyUsers (λ e. cc))

bytes_others : (slots : Slots) (seen : Option UserSeen) (number at count : ℕ) → OnlyOthers (bytes_refusal slots seen number at count)
unfolding bytes_refusal
bytes_others slots seen number at count = user seen _ (λ s. running s _ (segment s number _ (λ head. active slots s number _ (inside at count head))))

info_others : (seen : Option UserSeen) (number : ℕ) → OnlyOthers (info_refusal seen number)
unfolding info_refusal
info_others seen number = user seen _ (λ s. segment s number _ (λ head. none))

load_segment_others : (seen : Option UserSeen) (number : ℕ) → OnlyOthers (load_segment_refusal seen number)
unfolding load_segment_refusal
load_segment_others seen number = user seen _ (λ s. running s _ (segment s number _ (λ head. dynamic head None none)))

unload_others : (slots : Slots) (seen : Option UserSeen) (number : ℕ) → OnlyOthers (unload_refusal slots seen number)
unfolding unload_refusal
unload_others slots seen number = user seen _ (λ s. running s _ (segment s number _ (λ head. dynamic head _ (active slots s number None none))))

poke_others : (slots : Slots) (seen : Option UserSeen) (number at : ℕ) → OnlyOthers (poke_refusal slots seen number at)
unfolding poke_refusal
poke_others slots seen number at = user seen _ (λ s. running s _ (segment s number _ (λ head.
    active slots s number _ (either _ (Some TableByte) _ (one TableByte (λ e. cc)) (inside at 1 head)))))

own : (attached : Bool) (rest : Refuse) → OnlyOthers rest → OnlyOthers (of_own attached rest)
own attached rest others = either attached (Some NoUser) rest (one NoUser (λ e. cc)) others

shut_down_others : (attached : Bool) (seen : Option UserSeen) (keep : Bool) → OnlyOthers (shut_down_refusal attached seen keep)
unfolding shut_down_refusal
shut_down_others attached seen keep = user seen _ (λ s. own attached _ (either keep _ None (running s None none) none))

restart_others : (attached : Bool) (seen : Option UserSeen) → OnlyOthers (restart_refusal attached seen)
unfolding restart_refusal
restart_others attached seen = user seen _ (λ s. own attached _ (either _ (Some Running) None (one Running (λ e. cc)) none))

purge_others : (seen : Option UserSeen) (id : ℕ) → OnlyOthers (purge_refusal seen id)
unfolding purge_refusal
purge_others seen id = either _ None _ none (user seen _ (λ s. none))

state_others : (slots : Slots) (h : Handle) → OnlyOthers (state_refusal slots h)
unfolding state_refusal
state_others slots h = by_block (get slots h)
  where
    by_block : (found : Option Block) → OnlyOthers (of_live found (λ block. None))
    by_block None = one Stale (λ e. cc)
    by_block (Some block) = none

free_others : (slots : Slots) (h : Handle) → OnlyOthers (free_refusal slots h)
unfolding free_refusal
free_others slots h = script (get slots h) (λ block. None) (λ block. none)

change_others : (slots : Slots) (h : Handle) → OnlyOthers (change_refusal slots h)
unfolding change_refusal
change_others slots h = script (get slots h) (λ block. elim block.at [ None ↦ Some Empty | Some address ↦ None ]) (λ block. by_place block.at)
  where
    by_place : (place : Option ℕ) → OnlyOthers (elim place as (λ p. Refuse) [ None ↦ Some Empty | Some address ↦ None ])
    by_place None = one Empty (λ e. cc)
    by_place (Some address) = none

lost_others : (attached : List (List SegmentHead)) (segments : List Segment) → OnlyOthers (lost_refusal attached segments)
unfolding lost_refusal
lost_others attached segments fault e = let of = mapped BadFile _ fault e in subst IsOther of.2 (λ e. cc)

jsl_others : (bytes : List ℕ) → OnlyOthers (no_jsl bytes)
jsl_others bytes = either _ None (Some NotJsl) none (one NotJsl (λ e. cc))

-- ---- replies

abbrev IsAnother : Reply → Type 0
IsAnother reply = reply ≢ Refused Memory

-- a reply that is another one
another : (reply is : Reply) → reply ≡ is → IsAnother is → IsAnother reply
another reply is e other = subst IsAnother (sym e) other

refused : (reply : Reply) (fault : LoaderFault) → reply ≡ Refused fault → IsOther fault → IsAnother reply
refused reply fault is other = another reply (Refused fault) is (λ e. other (same fault Memory e))
  where
    same : (f g : LoaderFault) → Refused f ≡ Refused g → f ≡ g
    same f g e = cc

decided : (refusal : Refuse) (state : Machine) (reply : Reply) (next : Machine) (Done : Type 0) → OnlyOthers refusal → (Done → IsAnother reply)
    → Decides refusal state reply next Done → IsAnother reply
decided None state reply next Done others done is = done is
decided (Some fault) state reply next Done others done is = refused reply fault is.0 (others fault refl)

done_by : (held : FileMap) (state : Machine) (id : ℕ) (refusal : Option UserSeen → Refuse) (reply : Reply) (next : Machine) (Done : User → Type 0)
    → ((seen : Option UserSeen) → OnlyOthers (refusal seen)) → ((user : User) → Done user → IsAnother reply) → Does held state id refusal reply next Done → IsAnother reply
done_by held state id refusal reply next Done others done is =
    decided (refusal is.seen) state reply next _ (others is.seen) (λ of. done of.0 of.2) is.is

-- ---- rows

-- the call is refused for another cause
abbrev StopsForOther : Joined → Type 0
StopsForOther (Stops reads why) = IsOther why
StopsForOther (Joins all) = Unit {0}

stops_for_other : (held : FileMap) (paths : List (List ℕ)) (joined : Joined) → AreJoined held paths joined → StopsForOther joined
stops_for_other held [] joined is = subst StopsForOther (sym is) tt
stops_for_other held (path ∷ paths) joined is = by_found (λ (rest : Joined) are. stops_for_other held paths rest are) is.0 is.2
  where
    one_more : (segments : List Segment) (rest : Joined) → StopsForOther rest → StopsForOther (joined_after segments rest)
    one_more segments (Stops reads why) other = other
    one_more segments (Joins all) other = tt

    by_found : ((rest : Joined) → AreJoined held paths rest → StopsForOther rest) → (found : FileFound) → JoinsFound found (AreJoined held paths) joined → StopsForOther joined
    by_found later Unread e = subst StopsForOther (sym e) (λ e. cc)
    by_found later (Bad fault) e = subst StopsForOther (sym e) (λ e. cc)
    by_found later (Good segments) after = subst StopsForOther (sym after.2) (one_more segments after.0 (later after.0 after.1))

-- ---- steps

module _ (Makes : MakesRoom) (held : FileMap) (state : Machine) where
  landed : (path : List ℕ) (id : ℕ) (heads : List SegmentHead) (users : User → List (Option User)) (put : Put) (reply : Reply) (next : Machine)
      → Lands state path id heads users put reply next → IsAnother reply
  landed path id heads users NoSlots reply next is = refused reply NoHandle is.0 (λ e. cc)
  landed path id heads users (Lacks i) reply next is = refused reply (NoRoom (number_of 1 heads i)) is.0 (λ e. cc)
  landed path id heads users (PutIn handles last) reply next is = another reply _ is.0 (λ e. cc)

  begun : (slots : Slots) (path : List ℕ) (id : ℕ) (segments : List Segment) (users : User → List (Option User)) (reply : Reply) (next : Machine)
      → Begins Makes state slots path id segments users reply next → IsAnother reply
  begun slots path id segments users reply next is = landed path id (map head_of segments) users is.put reply next is.lands

  joined : (path : List ℕ) (segments : List Segment) (of : Joined) (reply : Reply) (next : Machine) → StopsForOther of → LoadsJoined Makes state path segments of reply next → IsAnother reply
  joined path segments (Stops reads why) reply next other is = refused reply why is.0 other
  joined path segments (Joins all) reply next other is =
      decided (lost_refusal (map (map head_of) all) segments) state reply next _ (lost_others (map (map head_of) all) segments) (λ begins. begun _ _ _ _ _ reply next begins) is

  found : (path : List ℕ) (of : FileFound) (reply : Reply) (next : Machine) → LoadsFound Makes held state path of reply next → IsAnother reply
  found path Unread reply next is = refused reply CannotRead is.0 (λ e. cc)
  found path (Bad fault) reply next is = refused reply (BadFile fault) is.0 (λ e. cc)
  found path (Good segments) reply next is = decided (rows_refusal (length state.users) (length (paths_of segments))) state reply next _ (rows_others _ _)
      (λ rows. joined path segments rows.0 reply next (stops_for_other held (paths_of segments) rows.0 rows.1) rows.2) is

  answered : (number : ℕ) (outcome : Activation) (of : ℕ → Reply) (reply : Reply) (next : Machine) → ((address : ℕ) → IsAnother (of address)) → Answers state number outcome of reply next → IsAnother reply
  answered number OutOfSlots of reply next others is = refused reply NoHandle is.0 (λ e. cc)
  answered number OutOfRoom of reply next others is = refused reply (NoRoom number) is.0 (λ e. cc)
  answered number (Made address last) of reply next others is = another reply (of address) is.0 (others address)

  activated : (id number : ℕ) (of : ℕ → Reply) (reply : Reply) (next : Machine) → ((address : ℕ) → IsAnother (of address)) → MakesActive Makes held state id number of reply next → IsAnother reply
  activated id number of reply next others is = answered number is.outcome of reply next others is.answers

  entry_entered : (id : ℕ) (target : Option Target) (reply : Reply) (next : Machine) → EntersEntry Makes held state id target reply next → IsAnother reply
  entry_entered id None reply next is = refused reply NotEntry is.0 (λ e. cc)
  entry_entered id (Some t) reply next is = activated is.0 t.segment _ reply next (λ address e. cc) is.2

  segment_entered : (b : Bool) (id : ℕ) (target : Option Target) (reply is' : Reply) (next : Machine) → IsAnother is'
      → Either b (EntersEntry Makes held state id target reply next) ((reply ≡ is') × (next ≡ state)) → IsAnother reply
  segment_entered true id target reply is' next other is = entry_entered id target reply next is
  segment_entered false id target reply is' next other is = another reply is' is.0 other

  entered : (address : ℕ) (place : AddressPlace) (reply : Reply) (next : Machine) → Enters Makes held state address place reply next → IsAnother reply
  entered address Nowhere reply next is = refused reply NoTarget is.0 (λ e. cc)
  entered address (In id number offset) reply next is =
      segment_entered (is_table (head_of is.1)) id (target_at_code (targets_of is.1) 0 offset) reply (Entered id number offset address) next (λ e. cc) is.3

  jumped : (id number at : ℕ) (reply : Reply) (next : Machine) → StepsJsl Makes held state id number at reply next → IsAnother reply
  jumped id number at reply next is =
      decided (no_jsl (take 4 (drop at is.bytes))) state reply next _ (jsl_others (take 4 (drop at is.bytes))) (λ of. entered (address_of (take 4 (drop at is.bytes))) of.0 reply next of.2) is.is

  restarted : (id : ℕ) (reply : Reply) (next : Machine) → StepsRestart Makes held state id reply next → IsAnother reply
  restarted id reply next is = by_there (are_there state.slots (map head_of is.sees.segments) (handles_of is.sees.user) 1) is.is
    where
      by_there : (b : Bool) → Either b (RestartsInPlace state id is.sees.user (map head_of is.sees.segments) reply next)
          (Begins Makes state (without_user state.slots id) is.sees.user.path id is.sees.segments (again_users state id is.sees.user) reply next) → IsAnother reply
      by_there true in_place = another reply _ in_place.0 (λ e. cc)
      by_there false again = begun _ _ _ _ _ reply next again

  placed : (want : Want) (locked : Bool) (level : ℕ) (movable : Bool) (reply : Reply) (next : Machine) → StepsAlloc Makes state want locked level movable reply next → IsAnother reply
  placed want locked level movable reply next (IsPlaced h slots puts e n) = another reply (Placed h puts.address) e (λ e. cc)
  placed want locked level movable reply next (HasNoHandle none e n) = refused reply NoHandle e (λ e. cc)
  placed want locked level movable reply next (HasNoRoom some lacks e n) = refused reply (NoRoom 0) e (λ e. cc)

  changed : (h : Handle) (change : Block → Block) (reply : Reply) (next : Machine) → StepsChange state h change reply next → IsAnother reply
  changed h change reply next is = decided (change_refusal state.slots h) state reply next _ (change_others state.slots h) (λ of. another reply Okay of.0 (λ e. cc)) is

  located : (place : AddressPlace) (reply : Reply) → reply ≡ place_reply place → IsAnother reply
  located Nowhere reply is = another reply Nothing is (λ e. cc)
  located (In id number offset) reply is = another reply (Lies id number offset) is (λ e. cc)

  -- a step isn't answered by being out of memory
  pub step_reply : (command : Command) (reply : Reply) (next : Machine) → Steps Makes held state command reply next → reply ≢ Refused Memory
  step_reply (Banks banks) reply next is = another reply Okay is.0 (λ e. cc)
  step_reply (Load path) reply next is = decided (load_refusal (length state.users)) state reply next _ (load_others (length state.users)) (λ of. found path of.0 reply next of.2) is
  step_reply (LoadSegment id number) reply next is = done_by held state id _ reply next _ (λ seen. load_segment_others seen number)
      (λ user made. activated id number (MadeActive number) reply next (λ address e. cc) made) is
  step_reply (UnloadSegment id number) reply next is = done_by held state id _ reply next _ (λ seen. unload_others state.slots seen number) (λ user of. another reply Okay of.0 (λ e. cc)) is
  step_reply (Jsl id number at) reply next is = done_by held state id _ reply next _ (λ seen. bytes_others state.slots seen number at 4) (λ user of. jumped id number at reply next of) is
  step_reply (ShutDown id keep) reply next is = done_by held state id _ reply next _ (λ seen. shut_down_others (is_attached (outlines state.users) id) seen keep)
      (λ user of. another reply Okay of.0 (λ e. cc)) is
  step_reply (Restart id) reply next is = done_by held state id _ reply next _ (λ seen. restart_others (is_attached (outlines state.users) id) seen)
      (λ user of. restarted id reply next of) is
  step_reply (Purge id) reply next is = decided (purge_refusal is.0 id) state reply next _ (purge_others is.0 id) (λ of. another reply _ of.0 (λ e. cc)) is.2
  step_reply (Poke id number at byte) reply next is = done_by held state id _ reply next _ (λ seen. poke_others state.slots seen number at) (λ user of. another reply Okay of.0 (λ e. cc)) is
  step_reply (Bytes id number at count) reply next is = done_by held state id _ reply next _ (λ seen. bytes_others state.slots seen number at count) (λ user of. another reply _ of.2 (λ e. cc)) is
  step_reply (Where address) reply next is = located is.0 reply is.2
  step_reply (Info id number) reply next is = done_by held state id _ reply next _ (λ seen. info_others seen number) (λ user of. another reply _ of.3 (λ e. cc)) is
  step_reply (Alloc size attributes address) reply next is = placed _ _ _ _ reply next is
  step_reply (Free h) reply next is = decided (free_refusal state.slots h) state reply next _ (free_others state.slots h) (λ of. another reply Okay of.0 (λ e. cc)) is
  step_reply (Lock h) reply next is = changed h _ reply next is
  step_reply (Unlock h) reply next is = changed h _ reply next is
  step_reply (Level h level) reply next is = changed h _ reply next is
  step_reply (StateOf h) reply next is = decided (state_refusal state.slots h) state reply next _ (state_others state.slots h) (λ of. another reply _ of.2 (λ e. cc)) is
  step_reply Room reply next is = another reply (RoomIs is.0) is.2 (λ e. cc)
  step_reply Compact reply next is = another reply _ is.2 (λ e. cc)
