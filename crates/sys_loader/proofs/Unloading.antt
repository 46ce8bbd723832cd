-- A segment that is let go.
use Rattle.std.proofs.Common.{◌≡◌, inr, ℕ, Bool, true, false, length, Option, Some, None, IsSome, refl, sym, ap, subst, ◌∙◌}
use Rattle.std.specs.Prelude.{slice_get, Result, Ok, Err}
use Rattle.omf_io.specs.Files.{FileMap}
use Rattle.omf_format.specs.Header.{is_dynamic}
use Rattle.iigs_meaning.specs.declared.handles.Handle.{Handle}
use Rattle.iigs_meaning.specs.declared.wants.Block.{Block}
use Rattle.iigs_meaning.specs.Fits.{Slots}
use Rattle.loader_machine.specs.Rule.{RoomRule}
use Rattle.iigs_meaning.specs.Memory.{Memory, Changes}
use Rattle.loader_machine.specs.declared.faults.LoaderFault.{LoaderFault}
use Rattle.loader_machine.specs.declared.faults.LoaderFault.TheVariants.{Static, NotActive}
use Rattle.loader_machine.specs.declared.seen.SegmentHead.{SegmentHead}
use Rattle.loader_machine.specs.State.{UserSeen, Machine, user_of, handles_of, led_by}
use Rattle.loader_machine.specs.Presences.{handle_at, presence, there_at, active_at, is_active, lies_at}
use Rattle.loader_machine.specs.laws.Words.{with_segment_idle}
use Rattle.loader_machine.specs.Refusals.{Refuse, of_user, of_running, of_segment, of_dynamic, of_active, unload_refusal}
use Rattle.loader_machine.specs.Commands.{Okay, Refused, UnloadSegment}
use Rattle.loader_machine.specs.Steps.{with_block_changed, idle_block, with_slots}
use Rattle.loader_agrees.specs.Agrees.{LoadedUser, Loaded, Outline, kept_outlines, seen_by, Agrees, Has, IsSound, Met}
use Rattle.loader_agrees.specs.Checks.{PassesRunning, StopsRunning, PassesSegment, StopsSegment}
use Rattle.loader_agrees.specs.laws.Checking.{active_none, active_passes}
use Rattle.loader_agrees.specs.laws.Seeing.{IsKept, kept_is, refuses, does, has_any}
use Rattle.loader_agrees.specs.laws.Leading.{IsLed, is_led}
use Rattle.sys_loader.specs.Replies.{done_reply}
use Rattle.loader_users.specs.Renewing.{Choice, AreRoomy, AreRenewed}
use Rattle.sys_loader.specs.Lives.{CanUnload, HasUnloaded, DidUnload}
use Rattle.loader_users.proofs.Shifting.{IsTurn, shifted_sound, shifted_agrees}

-- ---- the refusal, check by check

pub dynamic_none : (head : SegmentHead) (rest : Refuse) → is_dynamic head.kind ≡ false → of_dynamic head rest ≡ Some Static
dynamic_none head rest is = rw is refl

pub dynamic_passes : (head : SegmentHead) (rest : Refuse) → is_dynamic head.kind ≡ true → of_dynamic head rest ≡ rest
dynamic_passes head rest is = rw is refl

module _ (slots : Slots) (number : ℕ) where
  abbrev pub after_segment : UserSeen → SegmentHead → Refuse
  after_segment seen head = of_dynamic head (of_active slots seen number None)

  abbrev pub after_running : UserSeen → Refuse
  after_running seen = of_segment seen number (after_segment seen)

  pub unload_is : (user : Option UserSeen) → unload_refusal slots user number ≡ of_user user (λ seen. of_running seen (after_running seen))
  unfolding unload_refusal
  unload_is user = refl

  pub stops_running : (user : Option UserSeen) (fault : LoaderFault) → StopsRunning user fault → unload_refusal slots user number ≡ Some fault
  stops_running user fault stops = unload_is user ∙ stops after_running

  module _ (user : Option UserSeen) (seen : UserSeen) (runs : PassesRunning user seen) where
    pub stops_segment : (fault : LoaderFault) → StopsSegment seen number fault → unload_refusal slots user number ≡ Some fault
    stops_segment fault stops = unload_is user ∙ runs after_running ∙ stops (after_segment seen)

    module _ (head : SegmentHead) (o : Option Handle) (has : PassesSegment seen number head) (handle : handle_at seen.handles number ≡ o) where
      to_segment : unload_refusal slots user number ≡ after_segment seen head
      to_segment = unload_is user ∙ runs after_running ∙ has (after_segment seen)

      pub stops_dynamic : is_dynamic head.kind ≡ false → unload_refusal slots user number ≡ Some Static
      stops_dynamic is = to_segment ∙ dynamic_none head (of_active slots seen number None) is

      module _ (dynamic : is_dynamic head.kind ≡ true) where
        pub stops_active : is_active (presence slots o) ≡ false → unload_refusal slots user number ≡ Some NotActive
        stops_active is = to_segment ∙ dynamic_passes head (of_active slots seen number None) dynamic ∙ active_none slots seen number o None handle is

        pub passes : is_active (presence slots o) ≡ true → unload_refusal slots user number ≡ None
        passes is = to_segment ∙ dynamic_passes head (of_active slots seen number None) dynamic ∙ active_passes slots seen number o None handle is

-- ---- the step

idles : IsTurn idle_block
idles = record { at = λ b. refl; user = λ b. refl; want = λ b. refl; movable = λ b. refl; form = λ b. inr (refl, refl) }

none_active : (h : Handle) (block : Block) → active_at (lies_at h block.at false) ≡ None
none_active h block = go block.at
  where
    go : (at : Option ℕ) → active_at (lies_at h at false) ≡ None
    go None = refl
    go (Some a) = refl

module _ (old new : Loaded) (id number : ℕ) (sound : IsSound old.memory old.users) (did : HasUnloaded old id number new) where
  abbrev owner : ℕ
  owner = (led_by (kept_outlines old.users) id).0

  abbrev file : ℕ
  file = (led_by (kept_outlines old.users) id).1

  led : IsLed old.users id did.can.is.kept owner file
  led = is_led old.users id did.can.is.kept sound.attached did.can.is.made

  pub unloaded_sound : IsSound new.memory old.users
  unloaded_sound = shifted_sound old new id number owner file did.can.is.kept did.turned.lead did.h idle_block None did.can.is.head sound led.leading did.turned.leads led.alone did.can.is.made did.can.is.head' did.can.is.handle did.can.dynamic idles did.turned.shifted did.can.is.runs

  module _ (held : FileMap) (state : Machine) (agrees : Agrees held old state) where
    is : IsKept held old state agrees id did.can.is.kept
    is = kept_is held old state agrees id did.can.is.kept did.can.is.made

    abbrev next : Machine
    next = with_slots state (with_segment_idle state.slots (handle_at (handles_of is.user) number))

    handle_in_state : handle_at (handles_of is.user) number ≡ Some did.h
    handle_in_state = ap (λ (o : Outline). handle_at o.handles number) (sym is.does_agree.same) ∙ did.can.is.handle

    slots_same : with_block_changed idle_block state.slots did.h ≡ with_segment_idle state.slots (handle_at (handles_of is.user) number)
    slots_same = ap (with_segment_idle state.slots) (sym handle_in_state)

    agrees_next : Agrees held new next
    agrees_next = subst (λ (t : Slots). Agrees held new (with_slots state t)) slots_same
        (shifted_agrees old new id number owner file did.can.is.kept did.turned.lead did.h idle_block None did.can.is.head sound led.leading did.turned.leads led.alone did.can.is.made did.can.is.head' did.can.is.handle did.can.dynamic idles did.turned.shifted
        (none_active did.h did.turned.shifted.changes.block) held state agrees (λ some. absurd cc))

    unload_met : Met RoomRule held state (UnloadSegment id number) Okay new
    unload_met = (
      next,
      does held old state agrees id (λ seen. unload_refusal state.slots seen number) Okay next _
          (ap (λ (t : Slots). unload_refusal t (seen_by old id) number) (sym agrees.slots) ∙ did.can.passes) is.user is.made (refl, refl),
      agrees_next,
    )

-- an unload is the machine's step
pub unloads_meet : (old new : Loaded) (id number : ℕ) (result : Result (Unit {0}) LoaderFault) → IsSound old.memory old.users → DidUnload old id number result new
    → (held : FileMap) (state : Machine) → Agrees held old state → Met RoomRule held state (UnloadSegment id number) (done_reply result) new
unloads_meet old new id number (Ok done) sound did held state agrees = unload_met old new id number sound did held state agrees
unloads_meet old new id number (Err fault) sound did held state agrees = subst (λ (l : Loaded). Met RoomRule held state (UnloadSegment id number) (Refused fault) l) (sym did.1)
    (state, refuses held old state agrees id (λ seen. unload_refusal state.slots seen number) fault _ (ap (λ (t : Slots). unload_refusal t (seen_by old id) number) (sym agrees.slots) ∙ did.0), agrees)

-- ---- room for the tables

pub roomy : (old : Loaded) (place : ℕ) (kept : LoadedUser) → IsSound old.memory old.users → slice_get old.users place ≡ Some (Some kept) → AreRoomy old.memory kept.heads kept.handles
roomy old place kept sound made = record {
  each = λ n head h found handle there.
      let has : Has old.users place n head h = record { kept = kept; made = made; head' = found; handle = handle } in
      let of' = sound.each place n head h has in
      of'.room (at_block old.memory.slots h of'.block of'.live there);
  once = λ m n h k found found' same.
      let one = has_any old sound place kept made m h found in
      let two = has_any old sound place kept made n k found' in
      (sound.once place place m n one.0 two.0 h k one.1 two.1 same).1;
}
  where
    at_block : (slots : Slots) (h : Handle) (block : Block) → Rattle.iigs_meaning.specs.Slots.get slots h ≡ Some block → IsSome (there_at (presence slots (Some h))) → IsSome block.at
    at_block slots h block is there = go block.at block.locked (subst (λ (o : Option Block). IsSome (there_at (Rattle.loader_machine.specs.Presences.lies_in h o))) is there)
      where
        go : (at : Option ℕ) (locked : Bool) → IsSome (there_at (lies_at h at locked)) → IsSome at
        go None locked e = absurd cc
        go (Some a) locked e = refl

-- ---- as it is done

module _ (old : Loaded) (id number : ℕ) (h : Handle) (can : CanUnload old id number h) (lead : LoadedUser) (leads : user_of old.users (led_by (kept_outlines old.users) id).0 ≡ Some lead) where
  abbrev choice : Choice
  choice = Some ((led_by (kept_outlines old.users) id).1, number)

  pub has_unloaded : (middle new : Memory) (last : Loaded) (count : ℕ) → count ≡ length lead.heads → AreRenewed lead.heads lead.handles choice None old.memory middle count → Changes middle h idle_block new
      → last.memory ≡ new → last.users ≡ old.users → HasUnloaded old id number last
  has_unloaded middle new last count long renewed changes memory users = record {
    h = h;
    can = can;
    turned = record {
      lead = lead;
      leads = leads;
      shifted = record {
        middle = middle;
        renewed = subst (AreRenewed lead.heads lead.handles choice None old.memory middle) long renewed;
        changes = subst (Changes middle h idle_block) (sym memory) changes;
        users = users;
      };
    };
  }
