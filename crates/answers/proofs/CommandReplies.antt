-- Each command has a reply and a next state.
use Rattle.std.proofs.Common.{◌≡◌, ℕ, Bool, true, false, List, map, count_by, Some, None, refl}
use Rattle.std.specs.Prelude.{◌&&◌, ◌/◌, ◌%◌, not, take, drop}
use Rattle.std.specs.FinMap.{insert}
use Rattle.std.specs.Option.{option_map_or}
use Rattle.omf_format.specs.Header.{has_attribute}
use Rattle.omf_format.specs.File.{Segment, segment_at}
use Rattle.omf_io.specs.Files.{FileMap}
use Rattle.iigs_meaning.specs.Fits.{Slots, block_in}
use Rattle.iigs_meaning.specs.Placement.{emptied_where}
use Rattle.iigs_meaning.specs.Blocks.{AreApart, can_purge_of}
use Rattle.iigs_meaning.specs.Slide.{AreSettled}
use Rattle.loader_machine.specs.Rule.{RoomRule}
use Rattle.loader_machine.specs.declared.seen.SegmentHead.{SegmentHead}
use Rattle.loader_machine.specs.declared.faults.LoaderFault.TheVariants.{NoUser}
use Rattle.loader_machine.specs.Presences.{presence_at, handle_at}
use Rattle.loader_machine.specs.State.{User, Machine, empty_of, outlines, is_attached, handles_of, held_at}
use Rattle.loader_machine.specs.Commands.{Command, Banks, Load, LoadSegment, UnloadSegment, Jsl, ShutDown, Restart, Purge, Poke, Bytes, Where, Info, Alloc, Free, Lock, Unlock, Level, StateOf, Room, Compact, Reply, Okay, MadeActive, Counted, Shown, SegmentIs}
use Rattle.loader_machine.specs.Refusals.{Refuse, of_segment, of_dynamic, of_active, of_inside, bytes_refusal, info_refusal, load_segment_refusal, unload_refusal, poke_refusal, shut_down_refusal, restart_refusal, purge_refusal}
use Rattle.loader_machine.specs.Script.{IsCommand}
use Rattle.loader_machine.specs.Steps.{Sees, seen_of, with_slots, with_both, with_segment, idle_block, with_block_changed, StandsIn, MakesActive, StepsJsl, StepsShutDown, StepsRestart, Steps}
use Rattle.loader_agrees.specs.Agrees.{Loaded, Agrees, seen_by}
use Rattle.loader_agrees.specs.laws.Seeing.{is_seen}
use Rattle.answers.specs.Commands.{HoldBytes, CommandsAreAnswered}
use Rattle.answers.proofs.Replying.{decide_by, alloc_or, change_or, free_or, state_or, room_step, compact_step}
use Rattle.answers.proofs.UserReplies.{no_refusal, ran, there, active_or, user_or, load_or, restart_or, shut_down_or, stands_in}
use Rattle.answers.proofs.Locating.{where_or, jsl_or}
use Rattle.answers.proofs.ReplyCauses.{step_reply}

-- ---- no user, and a segment that is there

nobody_loads : (number : ℕ) → load_segment_refusal None number ≡ None → ⊥
unfolding load_segment_refusal
nobody_loads number e = no_refusal NoUser e

nobody_unloads : (slots : Slots) (number : ℕ) → unload_refusal slots None number ≡ None → ⊥
unfolding unload_refusal
nobody_unloads slots number e = no_refusal NoUser e

nobody_shuts : (attached keep : Bool) → shut_down_refusal attached None keep ≡ None → ⊥
unfolding shut_down_refusal
nobody_shuts attached keep e = no_refusal NoUser e

nobody_restarts : (attached : Bool) → restart_refusal attached None ≡ None → ⊥
unfolding restart_refusal
nobody_restarts attached e = no_refusal NoUser e

nobody_pokes : (slots : Slots) (number at : ℕ) → poke_refusal slots None number at ≡ None → ⊥
unfolding poke_refusal
nobody_pokes slots number at e = no_refusal NoUser e

nobody_shows : (slots : Slots) (number at count : ℕ) → bytes_refusal slots None number at count ≡ None → ⊥
unfolding bytes_refusal
nobody_shows slots number at count e = no_refusal NoUser e

nobody_asks : (number : ℕ) → info_refusal None number ≡ None → ⊥
unfolding info_refusal
nobody_asks number e = no_refusal NoUser e

loads : (user : User) (segments : List Segment) (number : ℕ) → load_segment_refusal (Some (seen_of user segments)) number ≡ None → (s : Segment) × (segment_at segments number ≡ Some s)
unfolding load_segment_refusal
loads user segments number e =
    let rest : SegmentHead → Refuse = λ head. of_dynamic head None in
    there user segments number rest (ran (seen_of user segments) (of_segment (seen_of user segments) number rest) e)

pub shows : (slots : Slots) (user : User) (segments : List Segment) (number at count : ℕ) → bytes_refusal slots (Some (seen_of user segments)) number at count ≡ None → (s : Segment) × (segment_at segments number ≡ Some s)
unfolding bytes_refusal
shows slots user segments number at count e =
    let rest : SegmentHead → Refuse = λ head. of_active slots (seen_of user segments) number (of_inside at count head None) in
    there user segments number rest (ran (seen_of user segments) (of_segment (seen_of user segments) number rest) e)

asks : (user : User) (segments : List Segment) (number : ℕ) → info_refusal (Some (seen_of user segments)) number ≡ None → (s : Segment) × (segment_at segments number ≡ Some s)
unfolding info_refusal
asks user segments number e = there user segments number (λ head. None) e

-- ---- each command

module _ (held : FileMap) (loader : Loaded) (state : Machine) (fits : HoldBytes held) (agrees : Agrees held loader state) (apart : AreApart state.banks state.slots) (settled : AreSettled state.banks state.slots) where
  abbrev Replies : Command → Type 0
  Replies command = (reply : Reply) × (next : Machine) × Steps RoomRule held state command reply next

  by_command : (is_first : Bool) (command : Command) → IsCommand is_first command → Replies command
  by_command is_first (Banks banks) is = (Okay, empty_of banks, (refl, refl))
  by_command is_first (Load path) is = load_or held loader state agrees apart settled fits path
  by_command is_first (LoadSegment id number) is = user_or held loader state agrees apart settled fits id (λ seen. load_segment_refusal seen number)
      (λ reply next user. MakesActive RoomRule held state id number (MadeActive number) reply next) (nobody_loads number)
      (λ sees none. let s = loads sees.user sees.segments number none in active_or held loader state agrees apart settled fits id number (MadeActive number) sees s.0 s.1)
  by_command is_first (UnloadSegment id number) is = user_or held loader state agrees apart settled fits id (λ seen. unload_refusal state.slots seen number)
      (λ reply next user. (reply ≡ Okay) × (next ≡ with_slots state (elim (handle_at (handles_of user) number) [ None ↦ state.slots | Some h ↦ with_block_changed idle_block state.slots h ]))) (nobody_unloads state.slots number)
      (λ sees none. (Okay, _, (refl, refl)))
  by_command is_first (Jsl id number at) is = user_or held loader state agrees apart settled fits id (λ seen. bytes_refusal state.slots seen number at 4)
      (λ reply next user. StepsJsl RoomRule held state id number at reply next) (nobody_shows state.slots number at 4)
      (λ sees none. let s = shows state.slots sees.user sees.segments number at 4 none in jsl_or held loader state agrees apart settled fits id number at sees s.0 s.1)
  by_command is_first (ShutDown id keep) is = user_or held loader state agrees apart settled fits id (λ seen. shut_down_refusal (is_attached (outlines state.users) id) seen keep)
      (λ reply next user. (reply ≡ Okay) × StepsShutDown state id keep user next) (nobody_shuts (is_attached (outlines state.users) id) keep)
      (λ sees none. shut_down_or held loader state agrees apart settled fits id keep sees.user)
  by_command is_first (Restart id) is = user_or held loader state agrees apart settled fits id (λ seen. restart_refusal (is_attached (outlines state.users) id) seen)
      (λ reply next user. StepsRestart RoomRule held state id reply next) (nobody_restarts (is_attached (outlines state.users) id))
      (λ sees none. restart_or held loader state agrees apart settled fits id sees)
  by_command is_first (Purge id) is =
      let step = decide_by (purge_refusal (seen_by loader id) id) state
      (λ reply next. (reply ≡ Counted (count_by (λ slot. option_map_or (can_purge_of id) (block_in slot) false) state.slots)) × (next ≡ with_slots state (map (emptied_where (can_purge_of id)) state.slots)))
      (λ none. (Counted (count_by (λ slot. option_map_or (can_purge_of id) (block_in slot) false) state.slots), with_slots state (map (emptied_where (can_purge_of id)) state.slots), (refl, refl))) in
      (step.0, step.1, (seen_by loader id, is_seen held loader state agrees id, step.2))
  by_command is_first (Poke id number at byte) is = user_or held loader state agrees apart settled fits id (λ seen. poke_refusal state.slots seen number at)
      (λ reply next user. (reply ≡ Okay) × (next ≡ with_both state id state.slots (Some (with_segment user number (record (held_at user number) { pokes = insert (held_at user number).pokes at byte }))))) (nobody_pokes state.slots number at)
      (λ sees none. (Okay, _, (refl, refl)))
  by_command is_first (Bytes id number at count) is = user_or held loader state agrees apart settled fits id (λ seen. bytes_refusal state.slots seen number at count)
      (λ reply next user. (bytes : List ℕ) × StandsIn held state id number bytes × (reply ≡ Shown (take count (drop at bytes))) × (next ≡ state)) (nobody_shows state.slots number at count)
      (λ sees none.
      let s = shows state.slots sees.user sees.segments number at count none in
      let bytes = stands_in held loader state agrees apart settled fits id number sees s.0 s.1 in
      (Shown (take count (drop at bytes.0)), state, (bytes.0, bytes.1, refl, refl)))
  by_command is_first (Where address) is = where_or held loader state agrees apart settled fits address
  by_command is_first (Info id number) is = user_or held loader state agrees apart settled fits id (λ seen. info_refusal seen number)
      (λ reply next user. (sees : Sees held state id) × (s : Segment) × (segment_at sees.segments number ≡ Some s)
      × (reply ≡ SegmentIs (presence_at state.slots (handles_of user) number) s.fields.length s.fields.kind) × (next ≡ state)) (nobody_asks number)
      (λ sees none. let s = asks sees.user sees.segments number none in
      (SegmentIs (presence_at state.slots (handles_of sees.user) number) s.0.fields.length s.0.fields.kind, state, (sees, s.0, s.1, refl, refl)))
  by_command is_first (Alloc size attributes address) is = alloc_or state _ (has_attribute 0x8000 attributes) (attributes / 0x100 % 4)
      (not (has_attribute 0x4000 attributes) && not (has_attribute 0x0002 attributes) && not (has_attribute 0x0001 attributes)) apart settled is.1
  by_command is_first (Free h) is = free_or state h
  by_command is_first (Lock h) is = change_or state h (λ block. record block { locked = true })
  by_command is_first (Unlock h) is = change_or state h (λ block. record block { locked = false })
  by_command is_first (Level h level) is = change_or state h (λ block. record block { level = level })
  by_command is_first (StateOf h) is = state_or state h
  by_command is_first Room is = room_step state
  by_command is_first Compact is = compact_step state apart settled

pub commands_are_answered : CommandsAreAnswered
commands_are_answered held loader state fits agrees apart settled is_first command is =
    let step = by_command held loader state fits agrees apart settled is_first command is in
    (step.0, step.1, step.2, step_reply RoomRule held state command step.0 step.1 step.2)
