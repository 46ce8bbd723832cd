-- A segment that wakes, and one that is read, as they are done.
use Rattle.std.proofs.Common.{◌≡◌, inl, inr, ℕ, Bool, true, false, ◌-◌, length, map, List, Option, Some, None, IsSome, Result, Ok, Err, refl, sym, ap, subst, ◌∙◌}
use Rattle.std.specs.Prelude.{IsSomeAnd, IfOk, IfErr, OnErr}
use Rattle.std.proofs.lemmas.Option.{same_Some}
use Rattle.omf_format.specs.File.{Segment}
use Rattle.omf_io.specs.Files.{FileMap, IsRead}
use Rattle.iigs_meaning.specs.declared.handles.Handle.{Handle}
use Rattle.iigs_meaning.specs.declared.wants.Block.{Block}
use Rattle.iigs_meaning.specs.Slots.{get}
use Rattle.iigs_meaning.specs.Fits.{Slots}
use Rattle.iigs_meaning.specs.Memory.{Memory, Changes}
use Rattle.loader_machine.specs.declared.faults.LoaderFault.{LoaderFault}
use Rattle.loader_machine.specs.declared.seen.SegmentHead.{SegmentHead}
use Rattle.loader_machine.specs.declared.seen.Presence.{Presence}
use Rattle.loader_machine.specs.declared.seen.Presence.TheVariants.{Idle}
use Rattle.loader_machine.specs.Heads.{head_of}
use Rattle.loader_machine.specs.State.{first_id, user_of, is_attached, led_by}
use Rattle.loader_machine.specs.Presences.{presence, lies_in, lies_at}
use Rattle.loader_machine.specs.Steps.{active_block}
use Rattle.loader_machine.specs.Needs.{is_read}
use Rattle.loader_agrees.specs.Agrees.{LoadedUser, Loaded, kept_outlines, Has, IsSound}
use Rattle.loader_agrees.specs.laws.Seeing.{made_at}
use Rattle.loader_users.specs.Renewing.{AreRenewed}
use Rattle.loader_users.specs.Taken.{IsReadAs}
use Rattle.sys_loader.specs.Lives.{HasTurned}
use Rattle.loader_users.specs.Changed.{IsChanged}
use Rattle.sys_loader.specs.Activating.{CanLoad, IsBringRefusal, HasCome, HasComeFrom, IsComeRefusal, CantCome, DidCome}

-- ---- a loader, and its fields

-- what can be made active by the one can by the other
pub can_load : (old now : Loaded) (id number : ℕ) (head : SegmentHead) (handle : Option Handle) → old ≡ now → CanLoad now id number head handle → CanLoad old id number head handle
can_load old now id number head handle same can = subst (λ (l : Loaded). CanLoad l id number head handle) (sym same) can

-- the user that is found in the one is the user of the other
pub one_kept : (old now : Loaded) (id : ℕ) (found k : LoadedUser) → old ≡ now → user_of old.users id ≡ Some found → user_of now.users id ≡ Some k → found ≡ k
one_kept old now id found k same is made = same_Some found k (sym is ∙ ap (λ (l : Loaded). user_of l.users id) same ∙ made)

-- a segment is in the one where it is in the other
pub one_presence : (old now : Loaded) (handle : Option Handle) (p : Presence) → old ≡ now → presence old.memory.slots handle ≡ p → presence now.memory.slots handle ≡ p
one_presence old now handle p same is = subst (λ (l : Loaded). presence l.memory.slots handle ≡ p) same is

-- ---- a segment that wakes

module _ (old : Loaded) (id number : ℕ) (h : Handle) (address : ℕ) (lead : LoadedUser) (leads : user_of old.users (led_by (kept_outlines old.users) id).0 ≡ Some lead) where
  pub has_woken : (middle new : Memory) (last : Loaded) (count : ℕ) → count ≡ length lead.heads
      → AreRenewed lead.heads lead.handles (Some ((led_by (kept_outlines old.users) id).1, number)) (Some address) old.memory middle count → Changes middle h active_block new
      → last.memory ≡ new → last.users ≡ old.users → HasTurned old id number h active_block (Some address) last
  has_woken middle new last count long renewed changes memory users = record {
    lead = lead;
    leads = leads;
    shifted = record {
      middle = middle;
      renewed = subst (AreRenewed lead.heads lead.handles (Some ((led_by (kept_outlines old.users) id).1, number)) (Some address) old.memory middle) long renewed;
      changes = subst (Changes middle h active_block) (sym memory) changes;
      users = users;
    };
  }

-- an idle block is there, also once the tables follow
pub idle_there : (slots now : Slots) (h : Handle) (address : ℕ) → now ≡ slots → presence slots (Some h) ≡ Idle h address → IsSomeAnd (get now h) (λ block. IsSome block.at)
idle_there slots now h address same is = subst (λ (t : Slots). IsSomeAnd (get t h) (λ block. IsSome block.at)) (sym same) (go (get slots h) is)
  where
    at_block : (at : Option ℕ) (locked : Bool) → lies_at h at locked ≡ Idle h address → IsSome at
    at_block None locked e = absurd cc
    at_block (Some a) locked e = refl

    go : (o : Option Block) → lies_in h o ≡ Idle h address → IsSomeAnd o (λ block. IsSome block.at)
    go None e = absurd cc
    go (Some b) e = at_block b.at b.locked e

-- the block of a segment that has a handle and isn't there is empty
pub gone_empty : (old : Loaded) (id number : ℕ) (head : SegmentHead) (handle : Option Handle) → IsSound old.memory old.users → CanLoad old id number head handle → is_read (presence old.memory.slots handle) ≡ true
    → (k : Handle) → handle ≡ Some k → IsSomeAnd (get old.memory.slots k) (λ block. block.at ≡ None)
gone_empty old id number head handle sound can gone k is =
    let it : Has old.users (id - first_id) number head k = record { kept = can.kept; made = (made_at old.users id can.kept can.made).0; head' = can.head'; handle = can.handle' ∙ is } in
    let of' = sound.each (id - first_id) number head k it in
    let none : of'.block.at ≡ None = at_block of'.block.at of'.block.locked
    (subst (λ (o : Option Block). is_read (lies_in k o) ≡ true) of'.live (subst (λ (o : Option Handle). is_read (presence old.memory.slots o) ≡ true) is gone)) in
    rw of'.live none
  where
    at_block : (at : Option ℕ) (locked : Bool) → is_read (lies_at k at locked) ≡ true → at ≡ None
    at_block None locked e = refl
    at_block (Some a) true e = absurd cc
    at_block (Some a) false e = absurd cc

-- ---- a segment of a file

module _ (file : List ℕ) (old : Loaded) (id number : ℕ) (k : LoadedUser) (head : SegmentHead) (handle : Option Handle) (segments : List Segment) (taken : IsReadAs (is_attached (kept_outlines old.users) id) file segments) where
  pub come_from : (new : Loaded) (r : Result ℕ LoaderFault) → map head_of segments ≡ k.heads → IfOk r (λ address. HasCome old id number k head handle segments address new)
      → IfOk r (λ address. HasComeFrom file old id number k head handle address new)
  come_from new (Ok address) same did = (segments, taken, same, did)
  come_from new (Err why) same did = tt

  pub brings_none : (r : Result ℕ LoaderFault) → map head_of segments ≡ k.heads → IfErr r (IsBringRefusal old.memory head handle number) → IfErr r (IsComeRefusal file old id number k head handle)
  brings_none (Ok address) same none = tt
  brings_none (Err why) same none = inr (segments, taken, inr (same, none))

  pub file_changed : (why : LoaderFault) → IsChanged k.heads (map head_of segments) why → IsComeRefusal file old id number k head handle why
  file_changed why is = inr (segments, taken, inl is)

pub did_come : (held : Option FileMap) (old new : Loaded) (id number : ℕ) (k : LoadedUser) (head : SegmentHead) (handle : Option Handle) (file : List ℕ) (r : Result ℕ LoaderFault) (before now : ℕ) → IsRead held k.path file → now ≡ before
    → IfOk r (λ address. HasComeFrom file old id number k head handle address new) → IfErr r (IsComeRefusal file old id number k head handle) → OnErr r (new ≡ old)
    → DidCome held old id number k head handle r new before now
did_come held old new id number k head handle file (Ok address) before now is_read same come none kept = ((file, is_read, come), same)
did_come held old new id number k head handle file (Err why) before now is_read same come none kept = (CantCome file is_read none same, kept)
