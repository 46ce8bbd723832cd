-- A user agrees still where its blocks stay, or were purgeable and are purged.
use Rattle.std.proofs.Common.{◌≡◌, ℕ, ◌≤◌, Bool, true, false, List, Option, Some, None, IsSome, refl, sym, ap, subst, ◌∙◌, arith}
use Rattle.std.specs.Prelude.{is_some, unwrap_or, not, ◌==◌, ◌&&◌}
use Rattle.omf_io.specs.Files.{FileMap}
use Rattle.iigs_meaning.specs.declared.handles.Handle.{Handle}
use Rattle.iigs_meaning.specs.declared.wants.Block.{Block}
use Rattle.iigs_meaning.specs.Slots.{get}
use Rattle.iigs_meaning.specs.Placement.{can_purge}
use Rattle.iigs_meaning.specs.Memory.{Memory, bytes_at}
use Rattle.loader_machine.specs.declared.seen.Presence.{Presence}
use Rattle.loader_machine.specs.State.{User, held_at}
use Rattle.loader_machine.specs.Presences.{handle_at, presence, presence_at, there_at, active_at, is_active, lies_in, lies_at}
use Rattle.loader_machine.specs.laws.Words.{target_with}
use Rattle.loader_machine.specs.Stands.{Far, setting_with}
use Rattle.loader_machine.specs.laws.StandsLaws.{AreAlike, stands_alike}
use Rattle.load_meaning.specs.laws.CellLaws.{loadable_has}
use Rattle.loader_agrees.specs.Agrees.{LoadedUser, UserAgrees}
use Rattle.loader_agrees.specs.laws.Words.{AreThere}

-- the handle's block is as before, and so are its bytes if it is there; or it was purgeable, and is empty now
pub data Keeps (old new : Memory) (h : Handle) : Type 0 where
  Same : get new.slots h ≡ get old.slots h → (IsSome (there_at (presence new.slots (Some h))) → bytes_at new h.slot ≡ bytes_at old h.slot) → Keeps old new h
  Gone : (block : Block) → get old.slots h ≡ Some block → can_purge block ≡ true → get new.slots h ≡ Some (record block { at = None }) → Keeps old new h

-- each handle of a user is kept so
abbrev pub AreKept : Memory → Memory → List (Option Handle) → Type 0
AreKept old new handles = (number : ℕ) (h : Handle) → handle_at handles number ≡ Some h → Keeps old new h

pub unlocked : (block : Block) → can_purge block ≡ true → block.locked ≡ false
unfolding can_purge
unlocked block is = go (is_some block.at) block.locked (not (block.level == 0)) is
  where
    go : (a b rest : Bool) → (a && not b && rest) ≡ true → b ≡ false
    go true true rest e = absurd cc
    go true false rest e = refl
    go false b rest e = absurd cc

module _ (old new : Memory) (handles : List (Option Handle)) (kept : AreKept old new handles) where
  -- what is there now was there, in the same place, with the same bytes
  now_there : (number : ℕ) (o : Option Handle) → handle_at handles number ≡ o → IsSome (there_at (presence new.slots o))
      → presence new.slots o ≡ presence old.slots o
  now_there number None is there = refl
  now_there number (Some h) is there = elim (kept number h is) [
    | Same slot bytes ↦ ap (lies_in h) slot
    | Gone block was can gone ↦ (let no : IsSome {T = ℕ} None = rw gone at there in absurd cc)
  ]

  -- what was active is so now
  pub was_active : (number : ℕ) (o : Option Handle) → handle_at handles number ≡ o → is_active (presence old.slots o) ≡ true
      → presence new.slots o ≡ presence old.slots o
  was_active number None is active = refl
  was_active number (Some h) is active = elim (kept number h is) [
    | Same slot bytes ↦ ap (lies_in h) slot
    | Gone block was can gone ↦ absurd (not_locked h block.at block.locked (unlocked block can) (subst (λ (o : Option Block). is_active (lies_in h o) ≡ true) was active))
  ]
    where
      not_locked : (h : Handle) (at : Option ℕ) (locked : Bool) → locked ≡ false → is_active (lies_at h at locked) ≡ true → ⊥
      not_locked h None locked e active = cc
      not_locked h (Some a) true e active = cc
      not_locked h (Some a) false e active = cc

  -- what wasn't active isn't so now
  pub not_active_still : (number : ℕ) (o : Option Handle) → handle_at handles number ≡ o → is_active (presence old.slots o) ≡ false
      → is_active (presence new.slots o) ≡ false
  not_active_still number None is rests = refl
  not_active_still number (Some h) is rests = elim (kept number h is) [
    | Same slot bytes ↦ ap (λ (b : Option Block). is_active (lies_in h b)) slot ∙ rests
    | Gone block was can gone ↦ ap (λ (b : Option Block). is_active (lies_in h b)) gone
  ]

  -- the targets of a table stay
  pub target_stays : (number : ℕ) (o : Option Handle) → handle_at handles number ≡ o → active_at (presence new.slots o) ≡ active_at (presence old.slots o)
  target_stays number None is = refl
  target_stays number (Some h) is = elim (kept number h is) [
    | Same slot bytes ↦ ap (λ (b : Option Block). active_at (lies_in h b)) slot
    | Gone block was can gone ↦
        ap (λ (b : Option Block). active_at (lies_in h b)) gone
        ∙ sym (not_active h block.at block.locked (unlocked block can))
        ∙ ap (λ (b : Option Block). active_at (lies_in h b)) (sym was)
  ]
    where
      not_active : (h : Handle) (at : Option ℕ) (locked : Bool) → locked ≡ false → active_at (lies_at h at locked) ≡ None
      not_active h None locked e = refl
      not_active h (Some a) true e = absurd cc
      not_active h (Some a) false e = refl

  there_bytes : (number : ℕ) (h : Handle) → handle_at handles number ≡ Some h → IsSome (there_at (presence new.slots (Some h))) → bytes_at new h.slot ≡ bytes_at old h.slot
  there_bytes number h is there = elim (kept number h is) [
    | Same slot bytes ↦ bytes there
    | Gone block was can gone ↦ (let no : IsSome {T = ℕ} None = rw gone at there in absurd cc)
  ]

  here : (number : ℕ) → IsSome (there_at (presence_at new.slots handles number)) → presence_at new.slots handles number ≡ presence_at old.slots handles number
  here number there = now_there number (handle_at handles number) refl there

module _ (held : FileMap) (old new : Memory) (far now : Far) (id : ℕ) (kept : LoadedUser) (user : User) (agrees : UserAgrees held old far id kept user) (stay : AreKept old new kept.handles)
    (same_far : (file n : ℕ) → 2 ≤ file → now file n ≡ far file n) where
  were_there : AreThere new.slots kept.handles agrees.segments → AreThere old.slots kept.handles agrees.segments
  were_there there number s is static = rw (← here old new kept.handles stay number (there number s is static)) (there number s is static)

  far_target : (file n : ℕ) → 2 ≤ file → target_with now new.slots kept.handles file n ≡ target_with far old.slots kept.handles file n
  far_target file n above = let other : (file == 1) ≡ false = grind arith in rw (other) (same_far file n above)

  -- the frame lemma
  pub agrees_still : UserAgrees held new now id kept user
  agrees_still = record {
    same = agrees.same;
    segments = agrees.segments;
    holds = agrees.holds;
    heads = agrees.heads;
    count = agrees.count;
    unpoked = agrees.unpoked;
    statics = λ running number s is static. rw (was_active old new kept.handles stay number (handle_at kept.handles number) refl (agrees.statics running number s is static)) (agrees.statics running number s is static);
    begins = λ there number s h is has present.
        let where' = here old new kept.handles stay number present in
        let before : IsSome (there_at (presence_at old.slots kept.handles number)) = rw (← where') present in
        let present' : IsSome (there_at (presence new.slots (Some h))) = subst (λ (o : Option Handle). IsSome (there_at (presence new.slots o))) has present in
        let bytes = there_bytes old new kept.handles stay number h has present' in
        let alike : AreAlike agrees.segments number s (setting_with now id new.slots kept.handles) (setting_with far id old.slots kept.handles) = record {
          id = refl;
          own = ap (λ (p : Presence). unwrap_or (there_at p) 0) where';
          static = λ n t is' static. ap (λ (p : Presence). unwrap_or (there_at p) 0) (here old new kept.handles stay n (there n t is' static));
          target = λ table n t is' dynamic kept'. target_stays old new kept.handles stay n (handle_at kept.handles n) refl;
          far = λ table file n above. far_target file n above;
        } in
        let same = stands_alike agrees.segments number s (loadable_has agrees.holds.file agrees.segments agrees.holds.loadable number s is) (setting_with now id new.slots kept.handles) (setting_with far id old.slots kept.handles) alike (held_at user number).pokes in
        rw (same, bytes) (agrees.begins (were_there there) number s h is has before);
  }
