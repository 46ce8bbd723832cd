-- Users that are made before they have anything in memory: a place for a user, and after it those that are to be attached to it.
use Rattle.std.proofs.Common.{◌≡◌, ◌⊎◌, inl, inr, ℕ, Bool, true, false, cond, ◌==◌, ◌+◌, ◌-◌, ◌^◌, ◌<◌, ◌≤◌, List, [], length, Option, Some, None, nat_lt, refl, sym, ap, subst, ◌∙◌, arith}
use Rattle.std.specs.Prelude.{slice_get, option_map}
use Rattle.std.specs.Option.{option_and_then}
use Rattle.load_meaning.specs.Pathnames.{most_paths}
use Rattle.load_meaning.specs.declared.table.Target.{Target}
use Rattle.iigs_meaning.specs.declared.handles.Handle.{Handle}
use Rattle.iigs_meaning.specs.Memory.{Memory}
use Rattle.loader_machine.specs.declared.seen.SegmentHead.{SegmentHead}
use Rattle.loader_machine.specs.declared.seen.Life.TheVariants.{Running, Dormant}
use Rattle.loader_machine.specs.Heads.{at_number, is_static}
use Rattle.loader_machine.specs.State.{first_id, max_users, user_of, named_by, attached_at}
use Rattle.loader_machine.specs.Presences.{handle_at}
use Rattle.loader_agrees.specs.Agrees.{LoadedUser, Outline, outline, kept_outlines, AreAttached, IsCall, Has, IsSound}
use Rattle.loader_agrees.specs.laws.Seeing.{user_is}

-- a user without a handle, none of whose segments is static, to which nothing is attached
pub record IsQuiet (kept : LoadedUser) : Type 0 where
  pub lengths : length kept.handles ≡ length kept.heads
  pub short : length kept.heads < 2 ^ 16
  pub runs : kept.life ≡ Running
  pub none : (number : ℕ) (h : Handle) → handle_at kept.handles number ≡ Some h → ⊥
  pub dynamic : (number : ℕ) (head : SegmentHead) → at_number kept.heads number ≡ Some head → is_static head ≡ true → ⊥
  pub alone : kept.attached ≡ []

-- users of whom the old ones are there as they were, and the others are quiet
pub record AreMore (old new : List (Option LoadedUser)) : Type 0 where
  pub stay : (place : ℕ) (kept : LoadedUser) → slice_get old place ≡ Some (Some kept) → slice_get new place ≡ Some (Some kept)
  pub which : (place : ℕ) (kept : LoadedUser) → slice_get new place ≡ Some (Some kept) → (slice_get old place ≡ Some (Some kept)) ⊎ IsQuiet kept

module _ (old new : List (Option LoadedUser)) (stay : (place : ℕ) (kept : LoadedUser) → slice_get old place ≡ Some (Some kept) → slice_get new place ≡ Some (Some kept)) where
  -- an old user is there under its ID
  pub user_stays : (id : ℕ) (kept : LoadedUser) → user_of old id ≡ Some kept → user_of new id ≡ Some kept
  user_stays id kept is = go (nat_lt id first_id) is
    where
      inner : (o p : Option (Option LoadedUser)) → ((k : LoadedUser) → o ≡ Some (Some k) → p ≡ Some (Some k)) → option_and_then (λ (u : Option LoadedUser). u) o ≡ Some kept → option_and_then (λ (u : Option LoadedUser). u) p ≡ Some kept
      inner None p f e = absurd cc
      inner (Some None) p f e = absurd cc
      inner (Some (Some k)) p f e = rw (f k refl) e

      go : (b : Bool) → cond b None (option_and_then (λ (u : Option LoadedUser). u) (slice_get old (id - first_id))) ≡ Some kept
          → cond b None (option_and_then (λ (u : Option LoadedUser). u) (slice_get new (id - first_id))) ≡ Some kept
      go true e = absurd cc
      go false e = inner (slice_get old (id - first_id)) (slice_get new (id - first_id)) (stay (id - first_id)) e

  named_stays : (id file other : ℕ) → named_by (kept_outlines old) id file ≡ Some other → named_by (kept_outlines new) id file ≡ Some other
  named_stays id file other is = go (file == 1) is
    where
      far : (o p : Option LoadedUser) → ((k : LoadedUser) → o ≡ Some k → p ≡ Some k) → option_and_then (λ (u : Outline). slice_get u.attached (file - 2)) (option_map outline o) ≡ Some other
          → option_and_then (λ (u : Outline). slice_get u.attached (file - 2)) (option_map outline p) ≡ Some other
      far None p f e = absurd cc
      far (Some k) p f e = rw (f k refl) e

      go : (b : Bool) → cond b (Some id) (attached_at (kept_outlines old) id file) ≡ Some other → cond b (Some id) (attached_at (kept_outlines new) id file) ≡ Some other
      go true e = e
      go false e = rw (user_is outline new id) (far (user_of old id) (user_of new id) (user_stays id) (ap (option_and_then (λ (u : Outline). slice_get u.attached (file - 2))) (sym (user_is outline old id)) ∙ e))

  pub call_stays : (id : ℕ) (t : Target) → IsCall old id t → IsCall new id t
  call_stays id t is = record {
    other = is.other;
    named = named_stays id t.file is.other is.named;
    kept = is.kept;
    made = user_stays is.other is.kept is.made;
    head = is.head;
    head' = is.head';
    dynamic = is.dynamic;
    loaded = is.loaded;
  }

  -- users to which nothing is attached may be added
  pub attached_more : ((place : ℕ) (kept : LoadedUser) → slice_get new place ≡ Some (Some kept) → (slice_get old place ≡ Some (Some kept)) ⊎ (kept.attached ≡ [])) → AreAttached old → AreAttached new
  attached_more which attached = record {
    few = λ place kept made. elim (which place kept made) [
      | inl was ↦ attached.few place kept was
      | inr alone ↦ subst (λ (ids : List ℕ). length ids ≤ most_paths) (sym alone) (omega arith)
    ];
    each = λ place i n kept made is. elim (which place kept made) [
      | inl was ↦ let one = attached.each place i n kept was is in (one.0, user_stays n one.0 one.1, one.2)
      | inr alone ↦ absurd (nothing kept i n alone is)
    ];
    once = λ place other i j n one two made made' is is'. elim (which place one made) [
      | inl was ↦ elim (which other two made') [
        | inl was' ↦ attached.once place other i j n one two was was' is is'
        | inr alone ↦ absurd (nothing two j n alone is')
      ]
      | inr alone ↦ absurd (nothing one i n alone is)
    ];
  }
    where
      nothing : (kept : LoadedUser) (i n : ℕ) → kept.attached ≡ [] → slice_get kept.attached i ≡ Some n → ⊥
      nothing kept i n alone is = let none : slice_get {X = ℕ} [] i ≡ Some n = subst (λ (ids : List ℕ). slice_get ids i ≡ Some n) alone is in cc

module _ (old new : List (Option LoadedUser)) (more : AreMore old new) where
  -- with them the loader is sound, where they aren't too many
  pub sound_more : (memory : Memory) → IsSound memory old → length new ≤ max_users → IsSound memory new
  sound_more memory sound few = record {
    few = few;
    lengths = λ place kept made. elim (more.which place kept made) [ inl was ↦ sound.lengths place kept was | inr quiet ↦ quiet.lengths ];
    short = λ place kept made. elim (more.which place kept made) [ inl was ↦ sound.short place kept was | inr quiet ↦ quiet.short ];
    statics = λ place kept number head made runs has static. elim (more.which place kept made) [
      | inl was ↦ sound.statics place kept number head was runs has static
      | inr quiet ↦ absurd (quiet.dynamic number head has static)
    ];
    rests = λ place kept number made life. elim (more.which place kept made) [
      | inl was ↦ sound.rests place kept number was life
      | inr quiet ↦ (let clash : Running ≡ Dormant = sym quiet.runs ∙ life in absurd cc)
    ];
    each = λ place number head h has. sound.each place number head h (was place number head h has);
    once = λ place other number n head second h k has has' same.
        sound.once place other number n head second h k (was place number head h has) (was other n second k has') same;
    only = λ slot block is user. let one = sound.only slot block is user in (one.0, one.1, one.2, one.3, lift one.0 one.1 one.2 one.3 one.4, one.5);
    attached = attached_more old new more.stay (λ place kept made. elim (more.which place kept made) [ inl was ↦ inl was | inr quiet ↦ inr quiet.alone ]) sound.attached;
    calls = λ place number k head h has table there inside. call_stays old new more.stay (first_id + place) _ (sound.calls place number k head h (was place number head h has) table there inside);
  }
    where
      was : (place number : ℕ) (head : SegmentHead) (h : Handle) → Has new place number head h → Has old place number head h
      was place number head h has = elim (more.which place has.kept has.made) [
        | inl made ↦ record { kept = has.kept; made = made; head' = has.head'; handle = has.handle }
        | inr quiet ↦ absurd (quiet.none number h has.handle)
      ]

      lift : (place number : ℕ) (head : SegmentHead) (h : Handle) → Has old place number head h → Has new place number head h
      lift place number head h has = record { kept = has.kept; made = more.stay place has.kept has.made; head' = has.head'; handle = has.handle }
