-- Calls on the script's own blocks, by their answers.
use Rattle.std.proofs.Common.{◌≡◌, ◌≢◌, inl, inr, ℕ, Bool, true, false, length, ◌+◌, ◌≤◌, Option, Some, None, IsSomeAnd, refl, sym, ap, subst, ◌∙◌, arith}
use Rattle.std.specs.Prelude.{option_map, is_some, not, ◌&&◌, IfOk, IfErr, OnErr, Result, Ok, Err}
use Rattle.std.proofs.lemmas.Option.{same_Some}
use Rattle.omf_io.specs.Files.{FileMap}
use Rattle.iigs_meaning.specs.declared.handles.Handle.{Handle}
use Rattle.iigs_meaning.specs.declared.wants.Want.{Want}
use Rattle.iigs_meaning.specs.declared.wants.Block.{Block}
use Rattle.iigs_meaning.specs.declared.wants.BlockState.{BlockState}
use Rattle.iigs_meaning.specs.declared.faults.PlaceFault.{PlaceFault}
use Rattle.iigs_meaning.specs.Slots.{get, slot_at, released}
use Rattle.iigs_meaning.specs.Fits.{Slots, block_in}
use Rattle.iigs_meaning.specs.Slide.{can_move, count_moved}
use Rattle.iigs_meaning.specs.Moves.{IsSlid}
use Rattle.loader_machine.specs.Rule.{RoomRule}
use Rattle.iigs_meaning.specs.declared.faults.BlockFault.{BlockFault}
use Rattle.iigs_meaning.specs.declared.faults.BlockFault.TheVariants.{Stale as BlockStale, Empty as BlockEmpty}
use Rattle.iigs_meaning.specs.Blocks.{state_of, IsStale}
use Rattle.iigs_meaning.specs.Memory.{Memory, IsPlaced, IsFreed, Changes, bytes_at}
use Rattle.iigs_meaning.specs.declared.slots.SlotContent.TheVariants.{Used}
use Rattle.loader_machine.specs.Steps.{StepsChange}
use Rattle.loader_machine.specs.declared.faults.LoaderFault.{LoaderFault}
use Rattle.loader_machine.specs.declared.faults.LoaderFault.TheVariants.{Empty, LoaderOwned}
use Rattle.loader_machine.specs.State.{Machine}
use Rattle.loader_machine.specs.Commands.{Compact, Free, Moved, Placed, Refused}
use Rattle.loader_machine.specs.Refusals.{free_refusal, change_refusal}
use Rattle.loader_agrees.specs.Agrees.{Loaded, Agrees, IsSound, Met, MetAlloc}
use Rattle.loader_agrees.specs.Acts.{CanRead}
use Rattle.loader_agrees.specs.laws.Begun.{puts_here}
use Rattle.loader_agrees.specs.laws.Keeping.{sound_kept}
use Rattle.loader_agrees.specs.laws.ScriptBlocks.{placed_kept, placed_only, slot_stays, slid_kept, slid_only, compact_met, changed_kept, changed_only, released_none, alloc_met, change_met, alloc_full, alloc_lacks, free_met, decides_refused}
use Rattle.loader_agrees.specs.laws.Slotted.{live_block}
use Rattle.loader_agrees.specs.laws.Stay.{cant_move}
use Rattle.loader_agrees.specs.laws.Checking as checking
use Rattle.loader_agrees.specs.laws.Seeing.{block_room}
use Rattle.sys_loader.specs.Scripts.{OthersStay}
use Rattle.sys_loader.specs.Replies.{done_reply, IsAllocRefusal}

pub if_ok : {X E : Type 0} (r : Result X E) (P Q : X → Type 0) → IfOk r P → ((x : X) → P x → Q x) → IfOk r Q
if_ok (Ok x) P Q p f = f x p
if_ok (Err e) P Q p f = tt

pub if_err : {X E : Type 0} (r : Result X E) (P Q : E → Type 0) → IfErr r P → ((e : E) → P e → Q e) → IfErr r Q
if_err (Ok x) P Q p f = tt
if_err (Err e) P Q p f = f e p

-- ---- alloc

pub alloc_sound : (old : Loaded) (want : Want) (locked : Bool) (level : ℕ) (movable : Bool) (result : Result Handle PlaceFault) (new : Memory) → IsSound old.memory old.users
    → IfOk result (λ h. IsPlaced RoomRule old.memory want 0 locked level movable h new) → OnErr result (new ≡ old.memory) → IsSound new old.users
alloc_sound old want locked level movable (Ok h) new sound placed err =
    sound_kept old new sound (placed_kept old sound want 0 locked level movable h new placed) (placed_only old sound want 0 locked level movable h new placed refl)
alloc_sound old want locked level movable (Err fault) new sound placed err = subst (λ (m : Memory). IsSound m old.users) (sym err) sound

module _ (old new : Loaded) (sound : IsSound old.memory old.users) (want : Want) (locked : Bool) (level : ℕ) (movable : Bool) where
  pub alloc_meets : (h : Handle) → IsPlaced RoomRule old.memory want 0 locked level movable h new.memory × (new.users ≡ old.users) → (held : FileMap) (state : Machine) → Agrees held old state
      → (address : ℕ) × IsSomeAnd (get new.memory.slots h) (λ block. block.at ≡ Some address) × MetAlloc RoomRule held state want locked level movable (Placed h address) new
  alloc_meets h did held state agrees =
      let puts = did.0.puts in
      let here = puts_here old.memory.banks old.memory.slots new.memory.slots want 0 locked level movable h puts in
      (puts.address, rw here refl, alloc_met held old new state sound agrees did.1 want locked level movable h did.0)

  pub alloc_refuses : (result : Result Handle LoaderFault) → IfErr result (IsAllocRefusal old.memory want) → OnErr result (new ≡ old)
      → IfErr result (λ fault. (held : FileMap) (state : Machine) → Agrees held old state → MetAlloc RoomRule held state want locked level movable (Refused fault) new)
  alloc_refuses (Ok h) refused err = tt
  alloc_refuses (Err fault) refused err = λ held state agrees. subst (λ (l : Loaded). MetAlloc RoomRule held state want locked level movable (Refused fault) l) (sym err) (go held state agrees refused)
    where
      go : (held : FileMap) (state : Machine) → Agrees held old state → IsAllocRefusal old.memory want fault → MetAlloc RoomRule held state want locked level movable (Refused fault) old
      go held state agrees refused = elim refused [
        | inl full ↦ rw full.0 (alloc_full held old state agrees want locked level movable full.1)
        | inr lacks ↦ rw lacks.0 (alloc_lacks held old state agrees want locked level movable lacks.1 lacks.2)
      ]

-- ---- compact

locked_cant : (b : Block) → b.locked ≡ true → can_move b ≡ true → ⊥
unfolding can_move
locked_cant b locked can = go (is_some b.at && b.movable) b.locked locked can
  where
    go : (x y : Bool) → y ≡ true → (x && not y) ≡ true → ⊥
    go true true e e' = cc
    go true false e e' = cc
    go false y e e' = cc

-- a block stays where it is locked, or a user's
pub others_stay : (old : Loaded) (new : Memory) → IsSound old.memory old.users → IsSlid old.memory new → OthersStay old.memory new
others_stay old new sound slid place block here stays =
    slid.slides.stay place (slot_stays (slot_at old.memory.slots place) block here (elim stays [
      | inl locked ↦ locked_cant block locked
      | inr user ↦
          let its = sound.only place block here user in
          let of' = sound.each its.0 its.1 its.2 its.3 its.4 in
          let one : of'.block ≡ block = same_Some of'.block block (sym (live_block old.memory.slots its.3 of'.block of'.live) ∙ ap (λ (n : ℕ). block_in (slot_at old.memory.slots n)) its.5 ∙ here) in
          cant_move block (sym (ap (λ (b : Block). b.movable) one) ∙ of'.fixed)
    ]))

pub slid_sound : (old : Loaded) (new : Memory) → IsSound old.memory old.users → IsSlid old.memory new → IsSound new old.users
slid_sound old new sound slid = sound_kept old new sound (slid_kept old sound new slid) (slid_only old sound new slid)

pub compact_meets : (old new : Loaded) → IsSound old.memory old.users → IsSlid old.memory new.memory → new.users ≡ old.users → (count : ℕ) → count ≡ count_moved old.memory.slots new.memory.slots
    → (held : FileMap) (state : Machine) → Agrees held old state → Met RoomRule held state Compact (Moved count) new
compact_meets old new sound slid users count is held state agrees =
    subst (λ (n : ℕ). Met RoomRule held state Compact (Moved n) new) (sym is) (compact_met held old new state sound agrees users slid)

-- ---- handles

pub stale_is : (slots : Slots) (h : Handle) (fault : BlockFault) → IsStale slots h fault → get slots h ≡ None
stale_is slots h BlockStale is = is
stale_is slots h BlockEmpty is = absurd is

pub of_state : (slots : Slots) (h : Handle) (state : BlockState) → Some state ≡ option_map state_of (get slots h) → (block : Block) × (get slots h ≡ Some block) × (state ≡ state_of block)
of_state slots h state is = go (get slots h) refl is
  where
    go : (o : Option Block) → get slots h ≡ o → Some state ≡ option_map state_of o → (block : Block) × (get slots h ≡ Some block) × (state ≡ state_of block)
    go None e is = absurd cc
    go (Some block) e is = (block, e, same_Some state (state_of block) is)

pub not_scripts : (slots : Slots) (h : Handle) (state : BlockState) → Some state ≡ option_map state_of (get slots h) → state.user ≢ 0
    → (free_refusal slots h ≡ Some LoaderOwned) × (change_refusal slots h ≡ Some LoaderOwned)
not_scripts slots h state is other =
    let found = of_state slots h state is in
    checking.owned slots h found.0 found.1 (λ e. other (ap (λ (s : BlockState). s.user) found.2 ∙ e))

scripts_is : (slots : Slots) (h : Handle) (state : BlockState) → IsSomeAnd (get slots h) (λ (block : Block). (block.user ≡ 0) × (state ≡ state_of block)) → (block : Block) × (get slots h ≡ Some block) × (block.user ≡ 0) × (state ≡ state_of block)
scripts_is slots h state is = go (get slots h) refl is
  where
    go : (o : Option Block) → get slots h ≡ o → IsSomeAnd o (λ (block : Block). (block.user ≡ 0) × (state ≡ state_of block)) → (block : Block) × (get slots h ≡ Some block) × (block.user ≡ 0) × (state ≡ state_of block)
    go None e is = absurd is
    go (Some block) e is = (block, e, is.0, is.1)

pub can_change : (slots : Slots) (h : Handle) (state : BlockState) (address : ℕ) → IsSomeAnd (get slots h) (λ (block : Block). (block.user ≡ 0) × (state ≡ state_of block)) → state.at ≡ Some address
    → IsSomeAnd (get slots h) (λ (block : Block). (block.user ≡ 0) × ((address : ℕ) × (block.at ≡ Some address))) × (change_refusal slots h ≡ None)
can_change slots h state address is there =
    let found = scripts_is slots h state is in
    let at : found.0.at ≡ Some address = sym (ap (λ (s : BlockState). s.at) found.3) ∙ there in
    (rw found.1 (found.2, (address, at)), checking.changes slots h found.0 found.1 found.2 address at)

pub cant_change : (slots : Slots) (h : Handle) (state : BlockState) → IsSomeAnd (get slots h) (λ (block : Block). (block.user ≡ 0) × (state ≡ state_of block)) → state.at ≡ None → change_refusal slots h ≡ Some Empty
cant_change slots h state is gone =
    let found = scripts_is slots h state is in
    checking.empty slots h found.0 found.1 found.2 (sym (ap (λ (s : BlockState). s.at) found.3) ∙ gone)

-- ---- free

pub freed_sound : (old : Loaded) (new : Memory) (h : Handle) (state : BlockState) → IsSound old.memory old.users → IsSomeAnd (get old.memory.slots h) (λ (block : Block). (block.user ≡ 0) × (state ≡ state_of block))
    → IsFreed old.memory h new → IsSound new old.users
freed_sound old new h state sound is freed =
    let found = scripts_is old.memory.slots h state is in
    sound_kept old new sound (changed_kept old sound h found.0 found.1 found.2 (released h.generation) new freed.slots freed.kept)
    (changed_only old sound h found.0 found.1 found.2 (released h.generation) new freed.slots freed.kept (released_none h.generation))

user_is : (slots : Slots) (h : Handle) → IsSomeAnd (get slots h) (λ (block : Block). block.user ≡ 0) → (block : Block) × (get slots h ≡ Some block) × (block.user ≡ 0)
user_is slots h is = go (get slots h) refl is
  where
    go : (o : Option Block) → get slots h ≡ o → IsSomeAnd o (λ (block : Block). block.user ≡ 0) → (block : Block) × (get slots h ≡ Some block) × (block.user ≡ 0)
    go None e is = absurd is
    go (Some block) e is = (block, e, is)

pub free_meets : (old new : Loaded) (h : Handle) (result : Result (Unit {0}) LoaderFault) → IsSound old.memory old.users
    → IfOk result (λ done. IsFreed old.memory h new.memory × (new.users ≡ old.users) × IsSomeAnd (get old.memory.slots h) (λ (block : Block). block.user ≡ 0))
    → IfErr result (λ fault. free_refusal old.memory.slots h ≡ Some fault) → OnErr result (new ≡ old)
    → (held : FileMap) (state : Machine) → Agrees held old state → Met RoomRule held state (Free h) (done_reply result) new
free_meets old new h (Ok done) sound did refused err held state agrees =
    let found = user_is old.memory.slots h did.2 in
    free_met held old new state sound agrees did.1 h (checking.freed old.memory.slots h found.0 found.1 found.2) found.0 found.1 found.2 did.0
free_meets old new h (Err fault) sound did refused err held state agrees =
    subst (λ (l : Loaded). Met RoomRule held state (Free h) (Refused fault) l) (sym err)
    (state, decides_refused held old state agrees (λ (t : Slots). free_refusal t h) fault _ refused, agrees)

-- ---- lock, unlock and level

changed_only_old : (old : Loaded) (new : Memory) (h : Handle) (change : Block → Block) → ((b : Block) → (change b).user ≡ b.user) → (changes : Changes old.memory h change new) → changes.block.user ≡ 0
    → (b : Block) → Some (change changes.block) ≡ Some b → b.user ≡ 0
changed_only_old old new h change keeps changes script b is = sym (ap (λ (x : Block). x.user) (same_Some (change changes.block) b is)) ∙ keeps changes.block ∙ script

script_is : (old : Loaded) (new : Memory) (h : Handle) (change : Block → Block) → (changes : Changes old.memory h change new) → (block : Block) → get old.memory.slots h ≡ Some block → block.user ≡ 0 → changes.block.user ≡ 0
script_is old new h change changes block is script = ap (λ (x : Block). x.user) (same_Some changes.block block (sym changes.was ∙ is)) ∙ script

there_is : (slots : Slots) (h : Handle) → IsSomeAnd (get slots h) (λ (block : Block). (block.user ≡ 0) × ((address : ℕ) × (block.at ≡ Some address))) → IsSomeAnd (get slots h) (λ (block : Block). block.user ≡ 0)
there_is slots h is = go (get slots h) is
  where
    go : (o : Option Block) → IsSomeAnd o (λ (block : Block). (block.user ≡ 0) × ((address : ℕ) × (block.at ≡ Some address))) → IsSomeAnd o (λ (block : Block). block.user ≡ 0)
    go None is = is
    go (Some block) is = is.0

pub changed_sound : (old : Loaded) (new : Memory) (h : Handle) (change : Block → Block) → ((b : Block) → (change b).user ≡ b.user) → IsSound old.memory old.users
    → IsSomeAnd (get old.memory.slots h) (λ (block : Block). (block.user ≡ 0) × ((address : ℕ) × (block.at ≡ Some address))) → Changes old.memory h change new → IsSound new old.users
changed_sound old new h change keeps sound is changes =
    let found = user_is old.memory.slots h (there_is old.memory.slots h is) in
    let script = script_is old new h change changes found.0 found.1 found.2 in
    sound_kept old new sound (changed_kept old sound h changes.block changes.was script (record { generation = h.generation; content = Used (change changes.block) }) new changes.slots changes.kept)
    (changed_only old sound h changes.block changes.was script (record { generation = h.generation; content = Used (change changes.block) }) new changes.slots changes.kept
    (changed_only_old old new h change keeps changes script))

pub change_meets : (old new : Loaded) (h : Handle) (change : Block → Block) (result : Result (Unit {0}) LoaderFault) → IsSound old.memory old.users
    → IfOk result (λ done. Changes old.memory h change new.memory × (new.users ≡ old.users) × IsSomeAnd (get old.memory.slots h) (λ (block : Block). block.user ≡ 0) × (change_refusal old.memory.slots h ≡ None))
    → IfErr result (λ fault. change_refusal old.memory.slots h ≡ Some fault) → OnErr result (new ≡ old)
    → (held : FileMap) (state : Machine) → Agrees held old state → (next : Machine) × StepsChange state h change (done_reply result) next × Agrees held new next
change_meets old new h change (Ok done) sound did refused err held state agrees =
    let found = user_is old.memory.slots h did.2 in
    change_met held old new state sound agrees did.1 h change _ refl did.3 did.0 (script_is old new.memory h change did.0 found.0 found.1 found.2)
change_meets old new h change (Err fault) sound did refused err held state agrees =
    subst (λ (l : Loaded). (next : Machine) × StepsChange state h change (Refused fault) next × Agrees held l next) (sym err)
    (state, decides_refused held old state agrees (λ (t : Slots). change_refusal t h) fault _ refused, agrees)

-- ---- bytes

pub can_slice : (loader : Loaded) (id number at count : ℕ) (h : Handle) → IsSound loader.memory loader.users → CanRead loader id number at count h → at + count ≤ length (bytes_at loader.memory h.slot)
can_slice loader id number at count h sound can = omega (arith, can.inside, block_room loader sound id number h can.is)
