-- Users without static segments that run again, in memory that stays.
use Rattle.std.proofs.Common.{◌≡◌, inl, inr, ℕ, true, false, ◌+◌, ◌-◌, List, length, Option, Some, None, refl, sym, ap, subst, ◌∙◌, arith}
use Rattle.std.specs.Prelude.{slice_get}
use Rattle.std.specs.Option.{option_and_then}
use Rattle.omf_io.specs.Files.{FileMap}
use Rattle.iigs_meaning.specs.Memory.{Memory}
use Rattle.loader_machine.specs.declared.seen.SegmentHead.{SegmentHead}
use Rattle.loader_machine.specs.declared.seen.Life.TheVariants.{Running, Dormant}
use Rattle.loader_machine.specs.Heads.{head_of, at_number, is_static}
use Rattle.loader_machine.specs.State.{User, Machine, Outline, outline_of, first_id, with_all, attached_at, handles_in}
use Rattle.loader_machine.specs.laws.Words as words
use Rattle.loader_machine.specs.Presences.{presence_at, active_at, is_active}
use Rattle.loader_machine.specs.Stands.{far_of}
use Rattle.loader_agrees.specs.Agrees.{LoadedUser, Loaded, outline, kept_outlines, UserAgrees, Agrees, IsSound}
use Rattle.loader_agrees.specs.laws.Words.{far_in}
use Rattle.loader_agrees.specs.laws.Frame.{Same, agrees_still}
use Rattle.loader_agrees.specs.laws.Reads.{head_at}
use Rattle.loader_agrees.specs.laws.RowUsers.{user_there}
use Rattle.loader_agrees.specs.laws.Seeing.{user_is}
use Rattle.loader_users.specs.Users.{with_life}
use Rattle.sys_loader.proofs.Relived as relived
use Rattle.sys_loader.proofs.Together.{is_in, Was, with_all_get, map_all, length_all}

module _ (memory : Memory) (old new : List (Option LoadedUser)) (ids : List ℕ) (are : new ≡ with_all (with_life Running) old ids) (sound : IsSound memory old)
    (together : (p i n : ℕ) (k : LoadedUser) → slice_get old p ≡ Some (Some k) → slice_get k.attached i ≡ Some n → is_in ids (first_id + p) ≡ is_in ids n)
    (quiet : (p : ℕ) (k : LoadedUser) → slice_get old p ≡ Some (Some k) → is_in ids (first_id + p) ≡ true → (n : ℕ) (head : SegmentHead) → at_number k.heads n ≡ Some head → is_static head ≡ true → ⊥) where
  users_now : (p : ℕ) (k : LoadedUser) → slice_get new p ≡ Some (Some k) → Was (with_life Running) (relived.life_again Running) old ids p k
  users_now p k made = relived.users_now old new Running ids are p k made

  statics_now : (p : ℕ) (k : LoadedUser) (n : ℕ) (head : SegmentHead) → slice_get new p ≡ Some (Some k) → k.life ≡ Running → at_number k.heads n ≡ Some head → is_static head ≡ true
      → is_active (presence_at memory.slots k.handles n) ≡ true
  statics_now p k n head made life found static = go (users_now p k made)
    where
      go : Was (with_life Running) (relived.life_again Running) old ids p k → is_active (presence_at memory.slots k.handles n) ≡ true
      go w = elim w.is [
        | inl inside ↦ absurd (quiet p w.was w.made inside.0 n head (ap (λ (x : LoadedUser). at_number x.heads n) (sym inside.1) ∙ found) static)
        | inr outside ↦ sound.statics p k n head (w.made ∙ ap (λ (x : LoadedUser). Some (Some x)) (sym outside.1)) life found static
      ]

  rests_now : (p : ℕ) (k : LoadedUser) (n : ℕ) → slice_get new p ≡ Some (Some k) → k.life ≡ Dormant → is_active (presence_at memory.slots k.handles n) ≡ false
  rests_now p k n made life = go (users_now p k made)
    where
      go : Was (with_life Running) (relived.life_again Running) old ids p k → is_active (presence_at memory.slots k.handles n) ≡ false
      go w = elim w.is [
        | inl inside ↦ (let clash : Running ≡ Dormant = ap (λ (x : LoadedUser). x.life) (sym inside.1) ∙ life in absurd cc)
        | inr outside ↦ sound.rests p k n (w.made ∙ ap (λ (x : LoadedUser). Some (Some x)) (sym outside.1)) life
      ]

  pub rerun_sound : IsSound memory new
  rerun_sound = record {
    few = omega (arith, sound.few, ap (λ (us : List (Option LoadedUser)). length us) are, length_all (with_life Running) old ids);
    lengths = λ p k made. let w = relived.users_now old new Running ids are p k made in let same = relived.same_but old new Running ids are p k made in omega (arith, sound.lengths p w.was w.made, ap length same.0, ap length same.1);
    short = λ p k made. let w = relived.users_now old new Running ids are p k made in let same = relived.same_but old new Running ids are p k made in omega (arith, sound.short p w.was w.made, ap length same.1);
    statics = statics_now;
    rests = rests_now;
    each = λ p n head h has. sound.each p n head h (relived.has_before old new Running ids are p n head h has);
    once = λ p q n m head second h k one two same. sound.once p q n m head second h k (relived.has_before old new Running ids are p n head h one) (relived.has_before old new Running ids are q m second k two) same;
    only = λ slot b found user. let it = sound.only slot b found user in (it.0, it.1, it.2, it.3, relived.has_now old new Running ids are it.0 it.1 it.2 it.3 it.4, it.5);
    attached = relived.attached_now old new Running ids are sound.attached together;
    calls = λ p n k g j has table there inside. relived.call_now old new Running ids are (first_id + p) _ (sound.calls p n k g j (relived.has_before old new Running ids are p n g j has) table there inside);
  }

  -- attached segments are where they were
  pub far_same : (p : ℕ) (k : LoadedUser) → slice_get old p ≡ Some (Some k) → (f n : ℕ) → far_of memory.slots (kept_outlines new) (first_id + p) f n ≡ far_of memory.slots (kept_outlines old) (first_id + p) f n
  far_same p k made f n =
      let now = relived.user_then old new Running ids are (first_id + p) k (user_there old p k made) in
      let row : attached_at (kept_outlines new) (first_id + p) f ≡ slice_get k.attached (f - 2) = rw (user_is outline new (first_id + p), now.1) (ap (λ (ns : List ℕ). slice_get ns (f - 2)) now.3) in
      let was : attached_at (kept_outlines old) (first_id + p) f ≡ slice_get k.attached (f - 2) = rw (user_is outline old (first_id + p), user_there old p k made) refl in
      rw (row, was) (go (slice_get k.attached (f - 2)) refl)
    where
      other : (m : ℕ) → slice_get k.attached (f - 2) ≡ Some m → active_at (presence_at memory.slots (handles_in (kept_outlines new) m) n) ≡ active_at (presence_at memory.slots (handles_in (kept_outlines old) m) n)
      other m is =
          let one = sound.attached.each p (f - 2) m k made is in
          let then' = relived.user_then old new Running ids are m one.0 one.1 in
          let its : handles_in (kept_outlines new) m ≡ one.0.handles = rw (user_is outline new m, then'.1) then'.4 in
          let was : handles_in (kept_outlines old) m ≡ one.0.handles = rw (user_is outline old m, one.1) refl in
          rw (its, was) refl

      go : (o : Option ℕ) → slice_get k.attached (f - 2) ≡ o
          → option_and_then (λ (m : ℕ). active_at (presence_at memory.slots (handles_in (kept_outlines new) m) n)) o
          ≡ option_and_then (λ (m : ℕ). active_at (presence_at memory.slots (handles_in (kept_outlines old) m) n)) o
      go None e = refl
      go (Some m) e = other m e

  module _ (held : FileMap) (state : Machine) (agrees : Agrees held (record { memory = memory; users = old }) state) where
    abbrev was_loader : Loaded
    was_loader = record { memory = memory; users = old }

    abbrev now_loader : Loaded
    now_loader = record { memory = memory; users = new }

    still : (p : ℕ) (k : LoadedUser) (u : User) → slice_get old p ≡ Some (Some k) → UserAgrees held memory (far_in was_loader (first_id + p)) (first_id + p) k u → UserAgrees held memory (far_in now_loader (first_id + p)) (first_id + p) k u
    still p k u made was = agrees_still held memory memory (far_in was_loader (first_id + p)) (far_in now_loader (first_id + p)) (first_id + p) k u was (λ n j found. Same refl (λ there. refl)) (λ f n above. far_same p k made f n)

    runs : (p : ℕ) (k : LoadedUser) (u : User) → slice_get old p ≡ Some (Some k) → is_in ids (first_id + p) ≡ true → UserAgrees held memory (far_in was_loader (first_id + p)) (first_id + p) k u
        → UserAgrees held memory (far_in now_loader (first_id + p)) (first_id + p) (with_life Running k) (words.runs_again u)
    runs p k u made inside was =
        let one = still p k u made was in
        record {
          same = ap (λ (o : Outline). let new_o : Outline = record o { life = Running } in new_o) one.same;
          segments = one.segments;
          holds = one.holds;
          heads = one.heads;
          count = one.count;
          unpoked = one.unpoked;
          statics = λ life n s found static. absurd (quiet p k made inside n (head_of s) (ap (λ (hs : List SegmentHead). at_number hs n) one.heads ∙ head_at one.segments n s found) static);
          begins = one.begins;
        }

    runs_outline : Outline → Outline
    runs_outline o = record o { life = Running }

    pub rerun_agrees : Agrees held (record { memory = memory; users = new }) (record { banks = state.banks; slots = state.slots; users = with_all words.runs_again state.users ids })
    unfolding runs_outline
    rerun_agrees = record {
      banks = agrees.banks;
      slots = agrees.slots;
      users = ap kept_outlines are ∙ map_all outline (with_life Running) runs_outline (λ k. refl) old ids ∙ ap (λ (os : List (Option Outline)). with_all runs_outline os ids) agrees.users
          ∙ sym (map_all outline_of words.runs_again runs_outline (λ u. refl) state.users ids);
      attached = relived.attached_now old new Running ids are sound.attached together;
      entries = relived.entries_now old new Running ids are held agrees.entries;
      each = λ p k user made made'. each_agrees p k user (users_now p k made) (with_all_get words.runs_again (λ u. refl) ids state.users p user made');
    }
      where
        each_agrees : (p : ℕ) (k : LoadedUser) (user : User) → Was (with_life Running) (relived.life_again Running) old ids p k → Was words.runs_again (λ u. refl) state.users ids p user
            → UserAgrees held memory (far_in now_loader (first_id + p)) (first_id + p) k user
        each_agrees p k user w v = elim w.is [
          | inl inside ↦ elim v.is [
            | inl inside' ↦
                subst (λ (x : LoadedUser). UserAgrees held memory (far_in now_loader (first_id + p)) (first_id + p) x user) (sym inside.1)
                (subst (λ (x : User). UserAgrees held memory (far_in now_loader (first_id + p)) (first_id + p) (with_life Running w.was) x) (sym inside'.1)
                (runs p w.was v.was w.made inside.0 (agrees.each p w.was v.was w.made v.made)))
            | inr outside' ↦ (let clash : true ≡ false = sym inside.0 ∙ outside'.0 in absurd cc)
          ]
          | inr outside ↦ elim v.is [
            | inl inside' ↦ (let clash : true ≡ false = sym inside'.0 ∙ outside.0 in absurd cc)
            | inr outside' ↦
                subst (λ (x : LoadedUser). UserAgrees held memory (far_in now_loader (first_id + p)) (first_id + p) x user) (sym outside.1)
                (subst (λ (x : User). UserAgrees held memory (far_in now_loader (first_id + p)) (first_id + p) w.was x) (sym outside'.1)
                (still p w.was v.was w.made (agrees.each p w.was v.was w.made v.made)))
          ]
        ]
