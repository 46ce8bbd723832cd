-- A loader whose users' blocks are kept agrees still, and is sound still.
use Rattle.std.proofs.Common.{◌≡◌, ◌≢◌, ℕ, zero, suc, Bool, true, false, ◌+◌, ◌-◌, ◌<◌, List, [], length, map, Option, Some, None, IsSome, refl, sym, ap, subst, ◌∙◌, arith}
use Rattle.std.specs.Prelude.{slice_get, option_map}
use Rattle.std.specs.Option.{option_map_or, option_and_then}
use Rattle.std.proofs.lemmas.Option.{same_Some}
use Rattle.omf_io.specs.Files.{FileMap}
use Rattle.iigs_meaning.specs.declared.handles.Handle.{Handle}
use Rattle.iigs_meaning.specs.declared.wants.Block.{Block}
use Rattle.iigs_meaning.specs.Slots.{get, slot_at}
use Rattle.iigs_meaning.specs.Fits.{Slots, block_in}
use Rattle.iigs_meaning.specs.Memory.{Memory, bytes_at}
use Rattle.loader_machine.specs.declared.seen.SegmentHead.{SegmentHead}
use Rattle.loader_machine.specs.declared.seen.Life.TheVariants.{Running, Dormant}
use Rattle.loader_machine.specs.Heads.{at_number, is_static, is_table}
use Rattle.load_meaning.specs.LoadTable.{target_at, entry_count}
use Rattle.loader_machine.specs.Stands.{far_of}
use Rattle.loader_machine.specs.State.{Machine, first_id, user_of, attached_at, handles_in}
use Rattle.loader_machine.specs.Presences.{handle_at, presence, presence_at, there_at, active_at, is_active, lies_in, lies_at}
use Rattle.loader_machine.specs.Steps.{with_slots}
use Rattle.loader_agrees.specs.Agrees.{LoadedUser, Loaded, Outline, outline, kept_outlines, AreAttached, IsCall, Agrees, IsOf, Has, IsSegments, IsSound}
use Rattle.loader_agrees.specs.laws.Words.{far_in, EntriesLead}
use Rattle.loader_agrees.specs.laws.Frame.{Keeps, Same, Gone, AreKept, was_active, not_active_still, target_stays, agrees_still}
use Rattle.loader_agrees.specs.laws.Seeing.{has_any, user_is, made_at}

-- each handle of a user's segment is kept
abbrev pub AllKept : Loaded → Memory → Type 0
AllKept old new = (place number : ℕ) (head : SegmentHead) (h : Handle) → Has old.users place number head h → Keeps old.memory new h

-- each user's block that is there now was a user's before, in the same slot
abbrev pub OnlyOld : Memory → Memory → Type 0
OnlyOld old new = (slot : ℕ) (block : Block) → block_in (slot_at new.slots slot) ≡ Some block → block.user ≢ 0
    → (was : Block) × (block_in (slot_at old.slots slot) ≡ Some was) × (was.user ≢ 0)

-- a block that is there lies somewhere
pub lies : (slots : Slots) (h : Handle) (block : Block) → get slots h ≡ Some block → IsSome block.at → IsSome (there_at (presence slots (Some h)))
lies slots h block is some = subst (λ (o : Option Block). IsSome (there_at (lies_in h o))) (sym is) (go block.at block.locked some)
  where
    go : (at : Option ℕ) (locked : Bool) → IsSome at → IsSome (there_at (lies_at h at locked))
    go None locked e = absurd cc
    go (Some a) true e = refl
    go (Some a) false e = refl

-- a segment's block that is kept is a segment's block
pub of_kept : (old new : Memory) (id : ℕ) (head : SegmentHead) (h : Handle) → IsOf old id head h → Keeps old new h → IsOf new id head h
of_kept old new id head h of' (Same slot bytes) = record {
  block = of'.block;
  live = slot ∙ of'.live;
  user = of'.user;
  fixed = of'.fixed;
  form = of'.form;
  want = of'.want;
  room = λ there. let same = bytes (lies new.slots h of'.block (slot ∙ of'.live) there) in omega (arith, of'.room there, ap (λ (bs : List ℕ). length bs) same);
}
of_kept old new id head h of' (Gone block was can gone) =
    let same : of'.block ≡ block = same_Some of'.block block (sym of'.live ∙ was) in
    record {
      block = record block { at = None };
      live = gone;
      user = sym (ap (λ (b : Block). b.user) same) ∙ of'.user;
      fixed = sym (ap (λ (b : Block). b.movable) same) ∙ of'.fixed;
      form = subst IsSegments same of'.form;
      want = omega (arith, of'.want, ap (λ (b : Block). b.want.size) same);
      room = λ there. absurd cc;
    }

module _ (old : Loaded) (new : Memory) (sound : IsSound old.memory old.users) (kept : AllKept old new) where
  pub handles_kept : (place : ℕ) (user : LoadedUser) → slice_get old.users place ≡ Some (Some user) → AreKept old.memory new user.handles
  handles_kept place user made n h found = let one = has_any old sound place user made n h found in kept place n one.0 h one.1

  pub statics_kept : (place : ℕ) (user : LoadedUser) (number : ℕ) (head : SegmentHead) → slice_get old.users place ≡ Some (Some user) → user.life ≡ Running
      → at_number user.heads number ≡ Some head → is_static head ≡ true → is_active (presence_at new.slots user.handles number) ≡ true
  statics_kept place user number head made runs has static =
      let before = sound.statics place user number head made runs has static in
      rw (was_active old.memory new user.handles (handles_kept place user made) number (handle_at user.handles number) refl before) before

  pub rests_kept : (place : ℕ) (user : LoadedUser) (number : ℕ) → slice_get old.users place ≡ Some (Some user) → user.life ≡ Dormant → is_active (presence_at new.slots user.handles number) ≡ false
  rests_kept place user number made life =
      not_active_still old.memory new user.handles (handles_kept place user made) number (handle_at user.handles number) refl (sound.rests place user number made life)

  -- an entry of a table that is there leads where it led
  pub calls_kept : (place number k : ℕ) (head : SegmentHead) (h : Handle) → Has old.users place number head h → is_table head ≡ true → IsSome (there_at (presence new.slots (Some h)))
      → k < entry_count head.length → IsCall old.users (first_id + place) (target_at (bytes_at new h.slot) k)
  calls_kept place number k head h has table there inside = elim (kept place number head h has) [
    | Same slot bytes ↦
        let was : IsSome (there_at (presence old.memory.slots (Some h))) = subst (λ (o : Option Block). IsSome (there_at (lies_in h o))) slot there in
        subst (λ (bs : List ℕ). IsCall old.users (first_id + place) (target_at bs k)) (sym (bytes there)) (sound.calls place number k head h has table was inside)
    | Gone block was can gone ↦ (let no : IsSome {T = ℕ} None = rw gone at there in absurd cc)
  ]

  -- the segments of attached users are active where they were
  pub far_kept : (id file n : ℕ) → far_of new.slots (kept_outlines old.users) id file n ≡ far_of old.memory.slots (kept_outlines old.users) id file n
  far_kept id file n = go (attached_at (kept_outlines old.users) id file)
    where
      of_user : (other : ℕ) (o : Option LoadedUser) → user_of old.users other ≡ o
          → active_at (presence_at new.slots (option_map_or (λ (u : Outline). u.handles) (option_map outline o) []) n)
          ≡ active_at (presence_at old.memory.slots (option_map_or (λ (u : Outline). u.handles) (option_map outline o) []) n)
      of_user other None is = nothing n
        where
          nothing : (n : ℕ) → active_at (presence_at new.slots [] n) ≡ active_at (presence_at old.memory.slots [] n)
          nothing zero = refl
          nothing (suc k) = refl
      of_user other (Some user) is =
          target_stays old.memory new user.handles (handles_kept (other - first_id) user (made_at old.users other user is).0) n (handle_at user.handles n) refl

      go : (o : Option ℕ)
          → option_and_then (λ (other : ℕ). active_at (presence_at new.slots (handles_in (kept_outlines old.users) other) n)) o
          ≡ option_and_then (λ (other : ℕ). active_at (presence_at old.memory.slots (handles_in (kept_outlines old.users) other) n)) o
      go None = refl
      go (Some other) = rw (user_is outline old.users other) (of_user other (user_of old.users other) refl)

  -- where each user's block was one before, the loader is sound
  pub sound_kept : OnlyOld old.memory new → IsSound new old.users
  sound_kept only = record {
    few = sound.few;
    lengths = sound.lengths;
    short = sound.short;
    statics = statics_kept;
    rests = rests_kept;
    each = λ place number head h has. of_kept old.memory new (first_id + place) head h (sound.each place number head h has) (kept place number head h has);
    once = sound.once;
    attached = sound.attached;
    calls = calls_kept;
    only = λ slot block is user. let was = only slot block is user in sound.only slot was.0 was.1 was.2;
  }

-- over held files it agrees with the state with the new slots
module _ (held : FileMap) (old new : Loaded) (state : Machine) (sound : IsSound old.memory old.users) (agrees : Agrees held old state)
    (banks : new.memory.banks ≡ old.memory.banks) (users : new.users ≡ old.users) (kept : AllKept old new.memory) where
  pub agrees_kept : Agrees held new (with_slots state new.memory.slots)
  agrees_kept = record {
    banks = banks ∙ agrees.banks;
    slots = refl;
    users = ap (map (option_map outline)) users ∙ agrees.users;
    attached = subst AreAttached (sym users) agrees.attached;
    entries = subst (λ (us : List (Option LoadedUser)). EntriesLead held us) (sym users) agrees.entries;
    each = λ place user made_user made made'.
        let made_old : slice_get old.users place ≡ Some (Some user) = ap (λ (us : List (Option LoadedUser)). slice_get us place) (sym users) ∙ made in
        agrees_still held old.memory new.memory (far_in old (first_id + place)) (far_in new (first_id + place)) (first_id + place) user made_user (agrees.each place user made_user made_old made')
        (handles_kept old new.memory sound kept place user made_old)
        (λ file n above. ap (λ (us : List (Option LoadedUser)). far_of new.memory.slots (kept_outlines us) (first_id + place) file n) users ∙ far_kept old new.memory sound kept (first_id + place) file n);
  }
