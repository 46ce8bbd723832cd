-- A loader after a dynamic segment of its file was placed.
use Rattle.std.proofs.Common.{◌≡◌, ◌≢◌, inl, inr, ℕ, true, false, ◌+◌, ◌-◌, List, map, Option, Some, None, refl, sym, ap, subst, ◌∙◌}
use Rattle.std.specs.Prelude.{slice_get}
use Rattle.std.proofs.lemmas.Option.{same_Some}
use Rattle.omf_format.specs.Header.{is_dynamic}
use Rattle.omf_format.specs.File.{Segment, segment_at}
use Rattle.omf_io.specs.Files.{FileMap}
use Rattle.load_meaning.specs.laws.CellLaws.{loadable_has}
use Rattle.iigs_meaning.specs.declared.handles.Handle.{Handle}
use Rattle.iigs_meaning.specs.declared.wants.Block.{Block}
use Rattle.iigs_meaning.specs.Memory.{Memory}
use Rattle.loader_machine.specs.declared.seen.SegmentHead.{SegmentHead}
use Rattle.loader_machine.specs.declared.seen.Presence.{Presence}
use Rattle.loader_machine.specs.declared.seen.Presence.TheVariants.{Absent, Purged, Idle, Active}
use Rattle.loader_machine.specs.Heads.{head_of, at_number, is_table}
use Rattle.loader_machine.specs.State.{Machine, fresh, first_id, led_by}
use Rattle.loader_machine.specs.Presences.{handle_at, presence, there_at}
use Rattle.load_meaning.specs.Loadable.{IsLoadable}
use Rattle.loader_machine.specs.Steps.{with_both, with_segment}
use Rattle.loader_machine.specs.Needs.{is_read}
use Rattle.loader_agrees.specs.Agrees.{LoadedUser, Loaded, kept_outlines, Agrees, Has, IsSound}
use Rattle.loader_agrees.specs.laws.Begun.{decide}
use Rattle.loader_agrees.specs.laws.Reads.{headed}
use Rattle.loader_agrees.specs.laws.Seeing.{made_at, kept_is}
use Rattle.sys_loader.specs.Activating.{CanLoad, IsBrought, HasCome}
use Rattle.sys_loader.proofs.Bringing.{Brings, brings_first, first_apart, brings_anew}
use Rattle.loader_agrees.specs.laws.Leading.{IsLed, is_led}
use Rattle.sys_loader.proofs.Coming.{come_sound, come_agrees}

not_there : (p : Presence) → is_read p ≡ true → there_at p ≡ None
not_there Absent is = refl
not_there (Purged h) is = refl
not_there (Idle h a) is = absurd cc
not_there (Active h a) is = absurd cc

-- what a block that is brought is, apart from all others
pub record IsNew (old : Loaded) (id number : ℕ) (head : SegmentHead) (handle : Option Handle) (h : Handle) (address : ℕ) (new : Memory) : Type 0 where
  pub brings : Brings old id head h address new
  pub apart : (p n : ℕ) (g : SegmentHead) (k : Handle) → Has old.users p n g k → ((first_id + p ≡ id) → (n ≡ number) → ⊥) → k.slot ≢ h.slot
  pub own : (k : Handle) → handle ≡ Some k → k ≡ h

module _ (old : Loaded) (id number : ℕ) (sound : IsSound old.memory old.users) (kept : LoadedUser) (head : SegmentHead) (made : slice_get old.users (id - first_id) ≡ Some (Some kept)) (its_id : first_id + (id - first_id) ≡ id)
    (head' : at_number kept.heads number ≡ Some head) where
  pub is_new : (handle : Option Handle) (h : Handle) (address : ℕ) (new : Memory) → handle_at kept.handles number ≡ handle → IsBrought old.memory id head handle h address new
      → IsNew old id number head handle h address new
  is_new None h address new has brought = record {
    brings = brings_first old sound id head h address new brought.0 brought.1;
    apart = λ p n g k old_has differ. first_apart old sound id head h address new brought.0 p n g k old_has;
    own = λ k e. absurd cc;
  }
  is_new (Some k) h address new has brought =
      let middle = brought.1 in
      let is = brought.2 in
      let it : Has old.users (id - first_id) number head h = record { kept = kept; made = made; head' = head'; handle = has ∙ ap (λ (x : Handle). Some x) brought.0 } in
      let of' = sound.each (id - first_id) number head h it in
      let same : is.puts.block ≡ of'.block = same_Some is.puts.block of'.block (sym is.puts.was ∙ of'.live) in
      record {
        brings = brings_anew old sound id head h address new middle is brought.4 brought.3 (ap (λ (b : Block). b.user) same ∙ of'.user ∙ its_id);
        apart = λ p n g j old_has differ slots.
            let both = sound.once p (id - first_id) n number g head j h old_has it slots in
            differ (ap (λ (q : ℕ). first_id + q) both.0 ∙ its_id) both.1;
        own = λ j e. sym (same_Some k j e) ∙ brought.0;
      }

-- a dynamic segment of a load file is no table
pub dynamic_plain : (file : List ℕ) (segments : List Segment) → IsLoadable file segments → (number : ℕ) (head : SegmentHead) → at_number (map head_of segments) number ≡ Some head → is_dynamic head.kind ≡ true → is_table head ≡ false
dynamic_plain file segments taken number head is dynamic =
    let s = headed segments number head is in
    elim (decide (is_table head)) [
      | inr other ↦ other
      | inl table ↦
          (let t = (loadable_has file segments taken number s.0 s.1).table (ap is_table s.2 ∙ table) in
          let clash : false ≡ true = sym t.static ∙ ap (λ (h : SegmentHead). is_dynamic h.kind) s.2 ∙ dynamic in absurd cc)
    ]

module _ (old new : Loaded) (id number : ℕ) (head : SegmentHead) (handle : Option Handle) (segments : List Segment) (address : ℕ) (sound : IsSound old.memory old.users)
    (can : CanLoad old id number head handle) (gone : is_read (presence old.memory.slots handle) ≡ true) (plain : is_table head ≡ false) (did : HasCome old id number can.kept head handle segments address new) where
  its_users : (slice_get old.users (id - first_id) ≡ Some (Some can.kept)) × (first_id + (id - first_id) ≡ id)
  its_users = made_at old.users id can.kept can.made

  new_one : IsNew old id number head handle did.h address did.placed
  new_one = is_new old id number sound can.kept head its_users.0 its_users.1 can.head' handle did.h address did.placed can.handle' did.brought

  led : IsLed old.users id can.kept (led_by (kept_outlines old.users) id).0 (led_by (kept_outlines old.users) id).1
  led = is_led old.users id can.kept sound.attached can.made

  pub came_sound : IsSound new.memory new.users
  came_sound =
      come_sound old new id number (led_by (kept_outlines old.users) id).0 (led_by (kept_outlines old.users) id).1 can.kept did.lead head handle did.h address did.placed did.content sound led.leading did.leads led.alone can.made can.head' can.handle' can.dynamic plain (not_there (presence old.memory.slots handle) gone)
      new_one.brings new_one.apart new_one.own did.same did.renewed did.users can.runs

  module _ (held : FileMap) (state : Machine) (agrees : Agrees held old state) (same : (kept_is held old state agrees id can.kept can.made).does_agree.segments ≡ segments) where
    pub came_agrees : Agrees held new (with_both state id new.memory.slots (Some (with_segment (kept_is held old state agrees id can.kept can.made).user number (fresh (Some did.h)))))
    came_agrees =
        come_agrees old new id number (led_by (kept_outlines old.users) id).0 (led_by (kept_outlines old.users) id).1 can.kept did.lead head handle did.h address did.placed did.content sound led.leading did.leads led.alone can.made can.head' can.handle' can.dynamic plain (not_there (presence old.memory.slots handle) gone)
        new_one.brings new_one.apart new_one.own did.same did.renewed did.users held state agrees can.fits
        (λ s found. did.begins s (subst (λ (ss : List Segment). segment_at ss number ≡ Some s) same found))
