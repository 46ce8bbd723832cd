-- A segment that is made active, as it is done.
use Rattle.std.proofs.Common.{◌≡◌, inl, inr, ℕ, Bool, false, Option, Some, None, IsSome, Result, Ok, Err, refl, sym, ap, subst, ◌∙◌}
use Rattle.std.specs.Option.{option_map_or}
use Rattle.omf_io.specs.Files.{FileMap}
use Rattle.iigs_meaning.specs.declared.handles.Handle.{Handle}
use Rattle.loader_machine.specs.declared.faults.LoaderFault.{LoaderFault}
use Rattle.loader_machine.specs.declared.seen.SegmentHead.{SegmentHead}
use Rattle.loader_machine.specs.declared.seen.Presence.{Presence}
use Rattle.loader_machine.specs.declared.seen.Presence.TheVariants.{Absent, Purged, Idle, Active}
use Rattle.loader_machine.specs.State.{user_of}
use Rattle.loader_machine.specs.Presences.{presence, presence_at}
use Rattle.loader_machine.specs.Refusals.{load_segment_refusal}
use Rattle.loader_machine.specs.Steps.{active_block}
use Rattle.loader_machine.specs.Needs.{is_read}
use Rattle.loader_agrees.specs.Agrees.{LoadedUser, Loaded, seen_by}
use Rattle.sys_loader.specs.Lives.{HasTurned}
use Rattle.sys_loader.specs.Activating.{segment_reads, CanLoad, DidCome, HasActivated, DidActivate}
use Rattle.loader_users.proofs.Renewing.{same_idle}

module _ (loader : Loaded) (id number : ℕ) (head : SegmentHead) (handle : Option Handle) (can : CanLoad loader id number head handle) where
  -- it is read where it isn't there
  pub reads_is : segment_reads loader id number ≡ is_read (presence loader.memory.slots handle)
  reads_is = ap (λ (o : Option LoadedUser). option_map_or (λ k. is_read (presence_at loader.memory.slots k.handles number)) o false) can.made
      ∙ ap (λ (o : Option Handle). is_read (presence loader.memory.slots o)) can.handle'

  pub reads_where : (p : Presence) (b : Bool) → presence loader.memory.slots handle ≡ p → is_read p ≡ b → segment_reads loader id number ≡ b
  reads_where p b is reads = reads_is ∙ ap is_read is ∙ reads

  -- where it can be made active it isn't refused
  pub not_refused : IsSome (load_segment_refusal (seen_by loader id) number) → ⊥
  not_refused some = let none : IsSome {T = LoaderFault} None = subst (λ (o : Option LoaderFault). IsSome o) can.passes some in absurd cc

  -- an idle one can wake
  pub can_wake : (h : Handle) (at : ℕ) → presence loader.memory.slots handle ≡ Idle h at → CanLoad loader id number head (Some h)
  can_wake h at is = subst (CanLoad loader id number head) (same_idle loader.memory.slots handle h at is) can

  pub is_idle : (h : Handle) (at : ℕ) → presence loader.memory.slots handle ≡ Idle h at → presence loader.memory.slots (Some h) ≡ Idle h at
  is_idle h at is = subst (λ (o : Option Handle). presence loader.memory.slots o ≡ Idle h at) (same_idle loader.memory.slots handle h at is) is

  module _ (held : Option FileMap) (new : Loaded) (before now : ℕ) where
    activates : (p : Presence) (r : Result ℕ LoaderFault) → presence loader.memory.slots handle ≡ p → HasActivated held loader id number can.kept head handle p r new before now → DidActivate held loader id number r new before now
    activates p r is has = inr (head, handle, can, subst (λ (q : Presence). HasActivated held loader id number can.kept head handle q r new before now) (sym is) has)

    pub was_active : (h : Handle) (at : ℕ) → presence loader.memory.slots handle ≡ Active h at → new ≡ loader → now ≡ before → DidActivate held loader id number (Ok at) new before now
    was_active h at is same count = activates (Active h at) (Ok at) is (refl, same, count)

    pub was_idle : (h : Handle) (at : ℕ) → presence loader.memory.slots handle ≡ Idle h at → HasTurned loader id number h active_block (Some at) new → now ≡ before → DidActivate held loader id number (Ok at) new before now
    was_idle h at is turned count = activates (Idle h at) (Ok at) is (refl, turned, count)

    pub was_purged : (h : Handle) (r : Result ℕ LoaderFault) → presence loader.memory.slots handle ≡ Purged h
        → ((k : LoadedUser) → user_of loader.users id ≡ Some k → DidCome held loader id number k head handle r new before now) → DidActivate held loader id number r new before now
    was_purged h r is came = activates (Purged h) r is (came can.kept can.made)

    pub was_absent : (r : Result ℕ LoaderFault) → presence loader.memory.slots handle ≡ Absent
        → ((k : LoadedUser) → user_of loader.users id ≡ Some k → DidCome held loader id number k head handle r new before now) → DidActivate held loader id number r new before now
    was_absent r is came = activates Absent r is (came can.kept can.made)

pub stops : (held : Option FileMap) (loader new : Loaded) (id number : ℕ) (why : LoaderFault) (before now : ℕ) → load_segment_refusal (seen_by loader id) number ≡ Some why → new ≡ loader → now ≡ before
    → DidActivate held loader id number (Err why) new before now
stops held loader new id number why before now is same count = inl (why, is, refl, same, count)
