-- Handles that a placement keeps, and those of a user with one more.
use Rattle.std.proofs.Common.{◌≡◌, ◌≢◌, ℕ, zero, suc, Bool, true, false, ◌-◌, ◌<◌, ◌≤◌, length, Option, Some, None, IsSome, refl, sym, ap, subst, ◌∙◌, arith}
use Rattle.std.specs.Prelude.{slice_get, slice_set}
use Rattle.std.specs.Option.{option_and_then}
use Rattle.iigs_meaning.specs.declared.handles.Handle.{Handle}
use Rattle.iigs_meaning.specs.declared.wants.Block.{Block}
use Rattle.iigs_meaning.specs.Memory.{Memory, bytes_at}
use Rattle.loader_machine.specs.Presences.{handle_at, presence, there_at, active_at, is_active, lies_in, lies_at}
use Rattle.loader_agrees.specs.Agrees.{LoadedUser}
use Rattle.loader_agrees.specs.laws.Frame.{Keeps, Same, Gone, unlocked}
use Rattle.loader_agrees.specs.laws.Lists.{set_at, set_apart}
use Rattle.loader_users.specs.Users.{with_handle}

-- ---- a handle that is kept

module _ (old new : Memory) (k : Handle) (keeps : Keeps old new k) where
  pub keeps_there : IsSome (there_at (presence new.slots (Some k))) → presence new.slots (Some k) ≡ presence old.slots (Some k)
  keeps_there there = elim keeps [
    | Same slot bytes ↦ ap (lies_in k) slot
    | Gone block was can gone ↦ (let no : IsSome {T = ℕ} None = rw gone at there in absurd cc)
  ]

  pub keeps_active : is_active (presence old.slots (Some k)) ≡ true → presence new.slots (Some k) ≡ presence old.slots (Some k)
  keeps_active active = elim keeps [
    | Same slot bytes ↦ ap (lies_in k) slot
    | Gone block was can gone ↦ absurd (not_locked block.at block.locked (unlocked block can) (subst (λ (o : Option Block). is_active (lies_in k o) ≡ true) was active))
  ]
    where
      not_locked : (at : Option ℕ) (locked : Bool) → locked ≡ false → is_active (lies_at k at locked) ≡ true → ⊥
      not_locked None locked e act = cc
      not_locked (Some a) true e act = cc
      not_locked (Some a) false e act = cc

  pub keeps_rest : is_active (presence old.slots (Some k)) ≡ false → is_active (presence new.slots (Some k)) ≡ false
  keeps_rest rests = elim keeps [
    | Same slot bytes ↦ ap (λ (b : Option Block). is_active (lies_in k b)) slot ∙ rests
    | Gone block was can gone ↦ ap (λ (b : Option Block). is_active (lies_in k b)) gone
  ]

  pub keeps_target : active_at (presence new.slots (Some k)) ≡ active_at (presence old.slots (Some k))
  keeps_target = elim keeps [
    | Same slot bytes ↦ ap (λ (b : Option Block). active_at (lies_in k b)) slot
    | Gone block was can gone ↦
        ap (λ (b : Option Block). active_at (lies_in k b)) gone ∙ sym (not_active block.at block.locked (unlocked block can)) ∙ ap (λ (b : Option Block). active_at (lies_in k b)) (sym was)
  ]
    where
      not_active : (at : Option ℕ) (locked : Bool) → locked ≡ false → active_at (lies_at k at locked) ≡ None
      not_active None locked e = refl
      not_active (Some a) true e = absurd cc
      not_active (Some a) false e = refl

  pub keeps_bytes : IsSome (there_at (presence new.slots (Some k))) → bytes_at new k.slot ≡ bytes_at old k.slot
  keeps_bytes there = elim keeps [
    | Same slot bytes ↦ bytes there
    | Gone block was can gone ↦ (let no : IsSome {T = ℕ} None = rw gone at there in absurd cc)
  ]

-- ---- the handles of a user with one more

module _ (kept : LoadedUser) (number : ℕ) (h : Handle) (inside : number - 1 < length kept.handles) (some : 1 ≤ number) where
  abbrev kept' : LoadedUser
  kept' = with_handle kept number h

  pub handle_here : handle_at kept'.handles number ≡ Some h
  handle_here = go number some inside
    where
      go : (n : ℕ) → 1 ≤ n → n - 1 < length kept.handles → handle_at (slice_set kept.handles (n - 1) (Some h)) n ≡ Some h
      go zero le lt = absurd (omega (arith, le))
      go (suc k) le lt =
          let back : suc k - 1 ≡ k = omega arith in
          ap (λ (m : ℕ). option_and_then (λ (x : Option Handle). x) (slice_get (slice_set kept.handles m (Some h)) k)) back
          ∙ ap (option_and_then (λ (x : Option Handle). x)) (set_at kept.handles k (Some h) (omega (arith, lt, back)))

  pub handle_apart : (n : ℕ) → n ≢ number → handle_at kept'.handles n ≡ handle_at kept.handles n
  handle_apart zero ne = refl
  handle_apart (suc k) ne =
      let apart : k ≢ number - 1 = λ e. ne (omega (arith, e, some)) in
      ap (option_and_then (λ (x : Option Handle). x)) (set_apart kept.handles (number - 1) k (Some h) apart)
