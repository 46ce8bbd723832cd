-- A restart that reads, and one that doesn't.
use Rattle.std.proofs.Common.{◌≡◌, ℕ, Bool, true, false, List, Option, Some, Result, Ok, Err, refl, sym, ap, ◌∙◌}
use Rattle.std.specs.Prelude.{not, ◌||◌, IfOk, IfErr, OnErr}
use Rattle.std.specs.Option.{option_map_or}
use Rattle.omf_io.specs.Files.{FileMap, IsRead}
use Rattle.loader_machine.specs.declared.faults.LoaderFault.{LoaderFault}
use Rattle.loader_machine.specs.State.{user_of}
use Rattle.loader_machine.specs.Needs.{some_read_again}
use Rattle.loader_agrees.specs.Agrees.{LoadedUser, Loaded}
use Rattle.sys_loader.specs.declared.answers.Started.{Started}
use Rattle.sys_loader.specs.Restarting.{CanRestart, is_whole, restart_reads, Reread, Anew, IsAgainRefusal, CantRestart, DidRestart, HasReloaded, HasBegunFrom}

pub reads_is : (old : Loaded) (id : ℕ) (k : LoadedUser) → user_of old.users id ≡ Some k → restart_reads old id ≡ (not (is_whole old k) || some_read_again k.heads)
reads_is old id k made = ap (λ (o : Option LoadedUser). option_map_or (λ x. not (is_whole old x) || some_read_again x.heads) o false) made

module _ (held : Option FileMap) (old new : Loaded) (id : ℕ) (k : LoadedUser) (can : CanRestart old id k) (reads : restart_reads old id ≡ true) (file : List ℕ) (is_read : IsRead held k.path file) (before now : ℕ) (same : now ≡ before) where
  again_needed : is_whole old k ≡ true → some_read_again k.heads ≡ true
  again_needed whole = ap (λ (b : Bool). not b || some_read_again k.heads) (sym whole) ∙ sym (reads_is old id k can.made) ∙ reads

  pub did_reload : (r : Result Started LoaderFault) → is_whole old k ≡ true → IfOk r (λ started. HasReloaded file old id k started new) → IfErr r (IsAgainRefusal file old id k) → OnErr r (new ≡ old)
      → DidRestart held old id r new before now
  did_reload (Ok started) whole did none kept = (k, can, Reread whole (again_needed whole) file is_read did.0 did.1 did.2 did.3 did.4 did.5 did.6, same)
  did_reload (Err why) whole did none kept = (CantRestart k can reads file is_read none same, kept)

  pub did_begin : (r : Result Started LoaderFault) → is_whole old k ≡ false → IfOk r (λ started. HasBegunFrom file old id k started new) → IfErr r (IsAgainRefusal file old id k) → OnErr r (new ≡ old)
      → DidRestart held old id r new before now
  did_begin (Ok started) gone did none kept = (k, can, Anew gone file is_read did.0 did.1 did.2 did.3 did.4, same)
  did_begin (Err why) gone did none kept = (CantRestart k can reads file is_read none same, kept)

-- where the file hasn't to be read, all are there and none is read again
pub not_needed : (in_place some : Bool) → (not in_place || some) ≡ false → (in_place ≡ true) × (some ≡ false)
not_needed true true e = absurd cc
not_needed true false e = (refl, refl)
not_needed false some e = absurd cc
