-- A user that begins again in new blocks, and those that are attached to it run.
use Rattle.std.proofs.Common.{◌≡◌, ◌≢◌, ◌⊎◌, inl, inr, ℕ, Bool, true, false, ◌==◌, ◌||◌, ◌+◌, ◌-◌, ◌^◌, ◌<◌, ◌≤◌, List, [], ◌∷◌, length, map, Option, Some, None, refl, sym, ap, subst, ◌∙◌, arith}
use Rattle.std.specs.Prelude.{slice_get, slice_set, not, ◌&&◌}
use Rattle.std.specs.Option.{option_map, option_map_or, option_and_then}
use Rattle.std.proofs.lemmas.Bool.{cases_eq}
use Rattle.std.proofs.lemmas.Option.{same_Some, slice_get_within, slice_get-map}
use Rattle.std.proofs.lemmas.List.{length-map}
use Rattle.omf_format.specs.File.{Segment}
use Rattle.omf_format.specs.Header.{is_dynamic, is_skipped}
use Rattle.omf_io.specs.Files.{FileMap}
use Rattle.load_meaning.specs.declared.table.Target.{Target}
use Rattle.load_meaning.specs.LoadTable.{target_at, entry_count}
use Rattle.load_meaning.specs.Loadable.{IsLoadable}
use Rattle.iigs_meaning.specs.declared.handles.Handle.{Handle}
use Rattle.iigs_meaning.specs.Fits.{Slots}
use Rattle.iigs_meaning.specs.Memory.{bytes_at}
use Rattle.iigs_meaning.specs.Puts.{PutsAll, without_user}
use Rattle.loader_machine.specs.Rule.{RoomRule}
use Rattle.loader_machine.specs.declared.seen.SegmentHead.{SegmentHead}
use Rattle.loader_machine.specs.declared.seen.Life.TheVariants.{Running, Dormant}
use Rattle.loader_machine.specs.declared.seen.Presence.{Presence}
use Rattle.loader_machine.specs.declared.seen.Presence.TheVariants.{Absent, Purged, Idle, Active}
use Rattle.loader_machine.specs.Heads.{head_of, at_number, is_static, is_table, wants_of}
use Rattle.loader_machine.specs.State.{User, Machine, Outline, outline_of, first_id, user_of, with_user, with_all, attached_at, handles_in}
use Rattle.loader_machine.specs.laws.Words as words
use Rattle.loader_machine.specs.Presences.{handle_at, presence, presence_at, active_at, is_active}
use Rattle.loader_machine.specs.Stands.{setting, far_of}
use Rattle.loader_machine.specs.Found.{HoldsLoad}
use Rattle.loader_machine.specs.Commands.{Started}
use Rattle.loader_machine.specs.Steps.{PutIn, Begins, lost_refusal}
use Rattle.loader_machine.specs.laws.Words.{started_user, again_users}
use Rattle.loader_agrees.specs.Agrees.{LoadedUser, Loaded, outline, kept_outlines, IsJoined, AreAttached, UserAgrees, Agrees, IsCall, IsSound}
use Rattle.loader_agrees.specs.laws.Words.{far_in}
use Rattle.loader_agrees.specs.Acts.{IsAdded, started_kept}
use Rattle.loader_agrees.specs.laws.Begun.{user_agrees, others_agree, begun_keeps}
use Rattle.loader_agrees.specs.laws.BegunSound.{sound_placed}
use Rattle.loader_agrees.specs.laws.EntryReads.{its_call}
use Rattle.loader_agrees.specs.laws.Keeping.{AllKept, far_kept}
use Rattle.loader_agrees.specs.laws.Likes.{IsLike, AreLike, like_attached, like_entries}
use Rattle.loader_agrees.specs.laws.Lists.{set_map, set_at, set_apart, length_set}
use Rattle.loader_agrees.specs.laws.Reads.{headed}
use Rattle.loader_agrees.specs.laws.Rows.{IsReached, all_reached}
use Rattle.loader_agrees.specs.laws.RowUsers.{user_there}
use Rattle.loader_agrees.specs.laws.Seeing.{made_at, user_is, has_any}
use Rattle.sys_loader.specs.declared.answers.Started as answers
use Rattle.loader_users.specs.Users.{with_life}
use Rattle.sys_loader.specs.Lives.{AreReleased}
use Rattle.sys_loader.specs.Restarting.{released_memory, HasBegunAnew}
use Rattle.loader_users.specs.Users.{heads_in, kept_heads}
use Rattle.sys_loader.proofs.Dropping.{gone_sound, gone_agrees}
use Rattle.sys_loader.proofs.KeptHandles.{keeps_rest}
use Rattle.loader_users.proofs.Leads.{at_most}
use Rattle.sys_loader.proofs.Relived as relived
use Rattle.sys_loader.proofs.Rerun.{rerun_sound, rerun_agrees}
use Rattle.sys_loader.proofs.Together.{is_in, in_row, in_rows, with_all_then, with_all_else, length_all, map_all}

module _ (old new : Loaded) (id : ℕ) (kept : LoadedUser) (segments : List Segment) (started : answers.Started) (sound : IsSound old.memory old.users) (made : user_of old.users id ≡ Some kept) (rests : kept.life ≡ Dormant)
    (top : (q f : ℕ) → attached_at (kept_outlines old.users) q f ≡ Some id → ⊥) (same : map head_of segments ≡ kept.heads) (did : HasBegunAnew old id kept segments started new) where
  abbrev place : ℕ
  place = id - first_id

  abbrev its : LoadedUser
  its = record (started_kept kept.path (map head_of segments) did.placed.handles) { attached = kept.attached }

  its_users : (slice_get old.users place ≡ Some (Some kept)) × (first_id + place ≡ id)
  its_users = made_at old.users id kept made

  inside : place < length old.users
  inside = slice_get_within old.users place (Some kept) its_users.0

  -- ---- the loader without the user

  abbrev dropped : Loaded
  dropped = record { memory = released_memory old.memory id; users = with_user old.users id None }

  only_id : (n : ℕ) → is_in (id ∷ []) n ≡ true → n ≡ id
  only_id n found = elim (cases_eq id n) [
    | inl eq ↦ sym eq
    | inr ne ↦ (let test : (id == n) ≡ false = grind arith in let clash : false ≡ true = (rw test at found) in absurd cc)
  ]

  released_one : AreReleased (id ∷ []) old.memory dropped.memory
  released_one = record { slots = refl; bytes = record { banks = refl; bytes = λ p apart there. refl } }

  high : (n : ℕ) → is_in (id ∷ []) n ≡ true → first_id ≤ n
  high n found = omega (arith, only_id n found, its_users.1)

  row_out : (p : ℕ) (k : LoadedUser) (i n : ℕ) → slice_get old.users p ≡ Some (Some k) → is_in (id ∷ []) (first_id + p) ≡ false → slice_get k.attached i ≡ Some n → is_in (id ∷ []) n ≡ false
  row_out p k i n made' out is = elim (cases_eq id n) [
    | inl eq ↦
        let back : i + 2 - 2 ≡ i = omega arith in
        let row : attached_at (kept_outlines old.users) (first_id + p) (i + 2) ≡ slice_get k.attached (i + 2 - 2) = rw (user_is outline old.users (first_id + p), user_there old.users p k made') refl in
        absurd (top (first_id + p) (i + 2) (row ∙ ap (slice_get k.attached) back ∙ is ∙ ap (λ (m : ℕ). Some m) (sym eq)))
    | inr ne ↦ (let test : (id == n) ≡ false = grind arith in rw test refl)
  ]

  dropped_sound : IsSound dropped.memory dropped.users
  dropped_sound = gone_sound old dropped (id ∷ []) sound released_one refl high row_out

  dropped_before : (p : ℕ) (k : LoadedUser) → slice_get dropped.users p ≡ Some (Some k) → (slice_get old.users p ≡ Some (Some k)) × (p ≢ place)
  dropped_before p k is = elim (cases_eq p place) [
    | inl eq ↦ absurd (clash (sym (set_at old.users place None inside) ∙ ap (slice_get dropped.users) (sym eq) ∙ is))
    | inr ne ↦ (sym (set_apart old.users place p None ne) ∙ is, ne)
  ]
    where
      clash : Some None ≡ Some (Some k) → ⊥
      clash e = cc

  -- ---- and with those that are attached running

  abbrev rows : List ℕ
  rows = kept.attached

  abbrev without : Loaded
  without = record { memory = released_memory old.memory id; users = with_all (with_life Running) (with_user old.users id None) rows }

  -- an attached user
  row_of : (p : ℕ) (k : LoadedUser) → slice_get old.users p ≡ Some (Some k) → is_in rows (first_id + p) ≡ true → IsJoined kept.life k
  row_of p k made' found =
      let row = in_rows rows (first_id + p) found in
      let one = sound.attached.each place row.0 (first_id + p) kept its_users.0 row.1 in
      subst (IsJoined kept.life) (same_Some one.0 k (sym one.1 ∙ user_there old.users p k made')) one.2

  together : (p i n : ℕ) (k : LoadedUser) → slice_get dropped.users p ≡ Some (Some k) → slice_get k.attached i ≡ Some n → is_in rows (first_id + p) ≡ is_in rows n
  together p i n k made' is = go (is_in rows (first_id + p)) (is_in rows n) refl refl
    where
      nothing : (j m : ℕ) → slice_get {X = ℕ} [] j ≡ Some m → ⊥
      nothing j m e = cc

      was : (slice_get old.users p ≡ Some (Some k)) × (p ≢ place)
      was = dropped_before p k made'

      alone : is_in rows (first_id + p) ≡ true → ⊥
      alone e = nothing i n (ap (λ (ns : List ℕ). slice_get ns i) (sym (row_of p k was.0 e).alone) ∙ is)

      apart : is_in rows n ≡ true → ⊥
      apart e =
          let row = in_rows rows n e in
          was.1 (sound.attached.once p place i row.0 n k kept was.0 its_users.0 is row.1).0

      go : (a b : Bool) → is_in rows (first_id + p) ≡ a → is_in rows n ≡ b → a ≡ b
      go true b e f = absurd (alone e)
      go false true e f = absurd (apart f)
      go false false e f = refl

  none_static : (d s : Bool) → d ≡ true → (not d && not s) ≡ true → ⊥
  none_static true s e e' = cc
  none_static false s e e' = cc

  quiet : (p : ℕ) (k : LoadedUser) → slice_get dropped.users p ≡ Some (Some k) → is_in rows (first_id + p) ≡ true → (n : ℕ) (head : SegmentHead) → at_number k.heads n ≡ Some head → is_static head ≡ true → ⊥
  quiet p k made' found n head is static =
      let joined = row_of p k (dropped_before p k made').0 found in
      none_static (is_dynamic head.kind) (is_skipped head.kind) (joined.dynamic n head is).0 static

  without_sound : IsSound without.memory without.users
  without_sound = rerun_sound dropped.memory dropped.users without.users rows refl dropped_sound together quiet

  -- ---- the new users

  life_again : (k : LoadedUser) → with_life Running (with_life Running k) ≡ with_life Running k
  life_again k = refl

  at_place : slice_get new.users place ≡ Some (Some its)
  at_place =
      let one = with_all_then (with_life Running) life_again rows (with_user old.users id (Some its)) place its (set_at old.users place (Some its) inside) in
      let is : one.0 ≡ its = elim one.2 [ inl l ↦ l.1 | inr l ↦ l.1 ] in
      ap (λ (us : List (Option LoadedUser)). slice_get us place) did.users' ∙ one.1 ∙ ap (λ (k : LoadedUser). Some (Some k)) is

  -- any other is as without it
  else_same : (a b : Option LoadedUser) (p : ℕ) → p ≢ place → slice_get (with_user old.users id a) p ≡ slice_get (with_user old.users id b) p
  else_same a b p ne = set_apart old.users place p a ne ∙ sym (set_apart old.users place p b ne)

  now_without : (p : ℕ) (k : LoadedUser) → p ≢ place → slice_get new.users p ≡ Some (Some k) → slice_get without.users p ≡ Some (Some k)
  now_without p k ne is =
      with_all_else (with_life Running) life_again rows (with_user old.users id (Some its)) (with_user old.users id None) p k (else_same (Some its) None p ne)
      (ap (λ (us : List (Option LoadedUser)). slice_get us p) (sym did.users') ∙ is)

  without_now : (p : ℕ) (k : LoadedUser) → p ≢ place → slice_get without.users p ≡ Some (Some k) → slice_get new.users p ≡ Some (Some k)
  without_now p k ne is =
      ap (λ (us : List (Option LoadedUser)). slice_get us p) did.users'
      ∙ with_all_else (with_life Running) life_again rows (with_user old.users id None) (with_user old.users id (Some its)) p k (else_same None (Some its) p ne) is

  kept_one : (a b : LoadedUser) → Some (Some a) ≡ Some (Some b) → a ≡ b
  kept_one a b e = cc

  not_without : (p : ℕ) (k : LoadedUser) → p ≡ place → slice_get without.users p ≡ Some (Some k) → ⊥
  not_without p k eq is =
      let w = relived.users_now dropped.users without.users Running rows refl p k is in
      (dropped_before p w.was w.made).1 eq

  added : IsAdded without.users place its new.users
  added = record {
    few = omega (arith, sound.few, ap (λ (us : List (Option LoadedUser)). length us) did.users', length_all (with_life Running) (with_user old.users id (Some its)) rows, length_set old.users place (Some its));
    here = at_place;
    which = λ p k made'. elim (cases_eq p place) [
      | inl eq ↦ inr (eq, kept_one k its (sym made' ∙ ap (slice_get new.users) eq ∙ at_place))
      | inr ne ↦ inl (ne, now_without p k ne made')
    ];
    stay = λ p k was. elim (cases_eq p place) [
      | inl eq ↦ absurd (not_without p k eq was)
      | inr ne ↦ without_now p k ne was
    ];
  }

  -- ---- attached users, as where it runs in place

  abbrev ids : List ℕ
  ids = id ∷ rows

  abbrev resumed : List (Option LoadedUser)
  resumed = with_all (with_life Running) (with_user old.users id (Some (with_life Running kept))) rows

  are : resumed ≡ with_all (with_life Running) old.users ids
  are = sym (ap (λ (o : Option LoadedUser). with_all (with_life Running) (option_map_or (λ (u : LoadedUser). with_user old.users id (Some (with_life Running u))) o old.users) rows) made)

  has_id : is_in ids id ≡ true
  has_id = let test : (id == id) ≡ true = grind arith in rw test refl

  has_rows : (i n : ℕ) → slice_get kept.attached i ≡ Some n → is_in ids n ≡ true
  has_rows i n is = go (id == n) (in_row rows i n is)
    where
      go : (b : Bool) → is_in rows n ≡ true → (b || is_in rows n) ≡ true
      go true e = refl
      go false e = e

  either : (n : ℕ) → is_in ids n ≡ true → (n ≡ id) ⊎ ((i : ℕ) × (slice_get kept.attached i ≡ Some n))
  either n found = elim (cases_eq id n) [
    | inl eq ↦ inl (sym eq)
    | inr ne ↦ (let test : (id == n) ≡ false = grind arith in inr (in_rows rows n (rw test at found)))
  ]

  resumed_attached : AreAttached resumed
  resumed_attached = relived.attached_now old.users resumed Running ids are sound.attached (relived.together old.users sound.attached id kept made top ids has_id has_rows either)

  resumed_place : slice_get resumed place ≡ Some (Some (with_life Running kept))
  resumed_place =
      let one = with_all_then (with_life Running) life_again rows (with_user old.users id (Some (with_life Running kept))) place (with_life Running kept) (set_at old.users place (Some (with_life Running kept)) inside) in
      let is : one.0 ≡ with_life Running kept = elim one.2 [ inl l ↦ l.1 | inr l ↦ l.1 ] in
      one.1 ∙ ap (λ (k : LoadedUser). Some (Some k)) is

  is_like : IsLike (with_life Running kept) its
  is_like = record { path = refl; life = refl; heads = same; attached = refl }

  itself : (k : LoadedUser) → IsLike k k
  itself k = record { path = refl; life = refl; heads = refl; attached = refl }

  like : AreLike resumed new.users
  like = record {
    back = λ p now is. elim (cases_eq p place) [
      | inl eq ↦ (
        with_life Running kept,
        ap (slice_get resumed) eq ∙ resumed_place,
        subst (λ (k : LoadedUser). IsLike (with_life Running kept) k) (sym (kept_one now its (sym is ∙ ap (slice_get new.users) eq ∙ at_place))) is_like,
      )
      | inr ne ↦ (
        now,
        with_all_else (with_life Running) life_again rows (with_user old.users id (Some its)) (with_user old.users id (Some (with_life Running kept))) p now (else_same (Some its) (Some (with_life Running kept)) p ne)
            (ap (λ (us : List (Option LoadedUser)). slice_get us p) (sym did.users') ∙ is),
        itself now,
      )
    ];
    forth = λ p was is. elim (cases_eq p place) [
      | inl eq ↦ (
        its,
        ap (slice_get new.users) eq ∙ at_place,
        subst (λ (k : LoadedUser). IsLike k its) (sym (kept_one was (with_life Running kept) (sym is ∙ ap (slice_get resumed) eq ∙ resumed_place))) is_like,
      )
      | inr ne ↦ (
        was,
        ap (λ (us : List (Option LoadedUser)). slice_get us p) did.users'
            ∙ with_all_else (with_life Running) life_again rows (with_user old.users id (Some (with_life Running kept))) (with_user old.users id (Some its)) p was (else_same (Some (with_life Running kept)) (Some its) p ne) is,
        itself was,
      )
    ];
  }

  attached_now : AreAttached new.users
  attached_now = like_attached resumed new.users like resumed_attached

  its_made : user_of new.users id ≡ Some its
  its_made = subst (λ (n : ℕ). user_of new.users n ≡ Some its) its_users.1 (user_there new.users place its at_place)

  -- ---- the entries of its table

  -- one that leads to an attached user
  far_call : (t : Target) → 2 ≤ t.file → IsReached (kept_heads old.users kept.attached) t → IsCall new.users id t × (t.file < 2 ^ 16) × (t.segment < 2 ^ 16)
  far_call t above reached = go (slice_get kept.attached (t.file - 2)) refl (sym (slice_get-map (heads_in old.users) kept.attached (t.file - 2)) ∙ reached.row)
    where
      go : (o : Option ℕ) → slice_get kept.attached (t.file - 2) ≡ o → option_map (heads_in old.users) o ≡ Some reached.heads → IsCall new.users id t × (t.file < 2 ^ 16) × (t.segment < 2 ^ 16)
      go None e is = absurd cc
      go (Some n) e is =
          let one = attached_now.each place (t.file - 2) n its at_place e in
          let was = sound.attached.each place (t.file - 2) n kept its_users.0 e in
          let then' = relived.user_then old.users resumed Running ids are n was.0 was.1 in
          let its_heads : was.0.heads ≡ reached.heads = go' was.0 was.1 (same_Some (heads_in old.users n) reached.heads is) in
          let head' : at_number was.0.heads t.segment ≡ Some reached.head = ap (λ (hs : List SegmentHead). at_number hs t.segment) its_heads ∙ reached.head' in
          let kind = was.2.dynamic t.segment reached.head head' in
          let there = made_at old.users n was.0 was.1 in
          let within = slice_get_within kept.attached (t.file - 2) n e in
          let few = sound.attached.few place kept its_users.0 in
          let other : (t.file == 1) ≡ false = grind arith in
          let now = now_user n was.0 was.1 e in (
            record {
              other = n;
              named = rw other (rw (user_is outline new.users id, its_made) e);
              kept = now.0;
              made = now.1;
              head = reached.head;
              head' = ap (λ (hs : List SegmentHead). at_number hs t.segment) now.2 ∙ head';
              dynamic = kind.0;
              loaded = kind.1;
            },
            omega (arith, within, few, above),
            omega (arith, at_most was.0.heads t.segment reached.head head', sound.short (n - first_id) was.0 there.0),
          )
        where
          go' : (u : LoadedUser) → user_of old.users n ≡ Some u → heads_in old.users n ≡ reached.heads → u.heads ≡ reached.heads
          go' u is' e' = sym (ap (λ (o : Option LoadedUser). option_map_or (λ (k : LoadedUser). k.heads) o []) is') ∙ e'

          -- the user of a row, now
          now_user : (m : ℕ) (u : LoadedUser) → user_of old.users m ≡ Some u → slice_get kept.attached (t.file - 2) ≡ Some m → (v : LoadedUser) × (user_of new.users m ≡ Some v) × (v.heads ≡ u.heads)
          now_user m u is' row =
              let one = relived.user_then old.users resumed Running ids are m u is' in
              let at = made_at resumed m one.0 one.1 in
              let forth = like.forth (m - first_id) one.0 at.0 in
              (forth.0, subst (λ (q : ℕ). user_of new.users q ≡ Some forth.0) at.1 (user_there new.users (m - first_id) forth.0 forth.1), forth.2.heads ∙ one.2)

  calls_anew : (file : List ℕ) → IsLoadable file segments → lost_refusal (kept_heads old.users kept.attached) segments ≡ None → (number k : ℕ) (head : SegmentHead) (h : Handle) → at_number (map head_of segments) number ≡ Some head
      → handle_at its.handles number ≡ Some h → is_table head ≡ true → k < entry_count head.length → IsCall new.users id (target_at (bytes_at new.memory h.slot) k)
  calls_anew file loadable none number k head h head' handle table inside' =
      let s = headed segments number head head' in
      let table' = ap is_table s.2 ∙ table in
      its_call file segments loadable did.placed.short new.users id its its_made refl (setting id new.memory.slots its.handles) number k s.0 (bytes_at new.memory h.slot) s.1
      table' (did.placed.begins number s.0 h s.1 handle) (omega (arith, inside', ap (λ (x : SegmentHead). entry_count x.length) s.2))
      (λ t found above. far_call t above (all_reached file segments (kept_heads old.users kept.attached) loadable none number k s.0 t s.1 table' found above))

  pub begun_anew_sound : (file : List ℕ) → IsLoadable file segments → lost_refusal (kept_heads old.users kept.attached) segments ≡ None → IsSound new.memory new.users
  begun_anew_sound file loadable none =
      sound_placed without new kept.path segments id started.entry without_sound did.placed kept.attached place (sym its_users.1) added attached_now (calls_anew file loadable none)

  -- ---- attached segments

  by_place : (p : Presence) → is_active p ≡ false → active_at p ≡ None
  by_place Absent e = refl
  by_place (Purged h) e = refl
  by_place (Idle h a) e = refl
  by_place (Active h a) e = absurd cc

  -- none of those of the user is active
  module _ (i m : ℕ) (row : slice_get kept.attached i ≡ Some m) where
    one : (u : LoadedUser) × (user_of old.users m ≡ Some u) × IsJoined kept.life u
    one = sound.attached.each place i m kept its_users.0 row

    there : (slice_get old.users (m - first_id) ≡ Some (Some one.0)) × (first_id + (m - first_id) ≡ m)
    there = made_at old.users m one.0 one.1

    apart : m - first_id ≢ place
    apart eq =
        let back : i + 2 - 2 ≡ i = omega arith in
        let named : attached_at (kept_outlines old.users) id (i + 2) ≡ Some m = rw (user_is outline old.users id, made) (ap (slice_get kept.attached) back ∙ row) in
        top id (i + 2) (named ∙ ap (λ (q : ℕ). Some q) (omega (arith, eq, there.1, its_users.1)))

    dropped_made : slice_get dropped.users (m - first_id) ≡ Some (Some one.0)
    dropped_made = set_apart old.users place (m - first_id) None apart ∙ there.0

    then_one : (v : LoadedUser) × (slice_get without.users (m - first_id) ≡ Some (Some v)) × (v.handles ≡ one.0.handles)
    then_one =
        let v = relived.users_then dropped.users without.users Running rows refl (m - first_id) one.0 dropped_made in
        (v.0, v.1, elim v.2 [ inl l ↦ ap (λ (k : LoadedUser). k.handles) l.1 | inr l ↦ ap (λ (k : LoadedUser). k.handles) l.1 ])

    handles_now : handles_in (kept_outlines new.users) m ≡ one.0.handles
    handles_now =
        let now : user_of new.users m ≡ Some then_one.0 = subst (λ (q : ℕ). user_of new.users q ≡ Some then_one.0) there.1 (user_there new.users (m - first_id) then_one.0 (without_now (m - first_id) then_one.0 apart then_one.1)) in
        rw (user_is outline new.users m, now) then_one.2

    rest_at : (n : ℕ) (o : Option Handle) → handle_at one.0.handles n ≡ o → is_active (presence new.memory.slots o) ≡ false
    rest_at n None e = refl
    rest_at n (Some h) e =
        let has = has_any dropped dropped_sound (m - first_id) one.0 dropped_made n h e in
        let of' = dropped_sound.each (m - first_id) n has.0 h has.1 in
        let was : is_active (presence dropped.memory.slots (Some h)) ≡ false =
        ap (λ (o : Option Handle). is_active (presence dropped.memory.slots o)) (sym e) ∙ dropped_sound.rests (m - first_id) one.0 n dropped_made (one.2.same ∙ rests) in
        keeps_rest dropped.memory new.memory h (begun_keeps dropped.memory new.memory kept.path segments id started.entry did.placed h of'.block of'.live of'.fixed) was

    not_active' : (n : ℕ) → active_at (presence_at new.memory.slots (handles_in (kept_outlines new.users) m) n) ≡ None
    not_active' n = ap (λ (hs : List (Option Handle)). active_at (presence_at new.memory.slots hs n)) handles_now ∙ by_place (presence_at new.memory.slots one.0.handles n) (rest_at n (handle_at one.0.handles n) refl)

  -- ---- agreement

  module _ (held : FileMap) (state : Machine) (agrees : Agrees held old state) (holds : HoldsLoad held kept.path segments) where
    dropped_agrees : Agrees held dropped (record { banks = state.banks; slots = without_user state.slots id; users = with_user state.users id None })
    dropped_agrees = gone_agrees old dropped (id ∷ []) sound released_one refl high row_out held state agrees

    abbrev middle : Machine
    middle = record { banks = state.banks; slots = without_user state.slots id; users = with_all words.runs_again (with_user state.users id None) rows }

    without_agrees : Agrees held without middle
    without_agrees = rerun_agrees dropped.memory dropped.users without.users rows refl dropped_sound together quiet held (record { banks = state.banks; slots = without_user state.slots id; users = with_user state.users id None }) dropped_agrees

    abbrev user : User
    user = record (started_user kept.path (map head_of segments) did.placed.handles) { attached = kept.attached }

    abbrev pub next : Machine
    next = record {
      banks = state.banks;
      slots = new.memory.slots;
      users = with_all words.runs_again (with_user state.users id (Some (record (started_user kept.path (map head_of segments) did.placed.handles) { attached = kept.attached }))) kept.attached;
    }

    lists : length state.users ≡ length old.users
    lists = sym (length-map state.users (option_map outline_of)) ∙ ap length (sym agrees.users) ∙ length-map old.users (option_map outline)

    runs_outline : Outline → Outline
    runs_outline o = record o { life = Running }

    mid_users : map (option_map outline) (with_user old.users id (Some its)) ≡ map (option_map outline_of) (with_user state.users id (Some user))
    mid_users = set_map (option_map outline) old.users place (Some its) ∙ ap (λ us. slice_set us place (Some (outline its))) agrees.users ∙ sym (set_map (option_map outline_of) state.users place (Some user))

    again_user : (u : User) → words.runs_again (words.runs_again u) ≡ words.runs_again u
    again_user u = refl

    all_kept : AllKept without new.memory
    all_kept p n head h has = let of' = without_sound.each p n head h has in begun_keeps without.memory new.memory kept.path segments id started.entry did.placed h of'.block of'.live of'.fixed

    -- what is attached is active where it was
    far_now : (p : ℕ) (k : LoadedUser) → slice_get new.users p ≡ Some (Some k) → p ≢ place → (f n : ℕ) → far_of new.memory.slots (kept_outlines new.users) (first_id + p) f n ≡ far_of without.memory.slots (kept_outlines without.users) (first_id + p) f n
    far_now p k made' ne f n = step ∙ far_kept without new.memory without_sound all_kept (first_id + p) f n
      where
        was : slice_get without.users p ≡ Some (Some k)
        was = now_without p k ne made'

        row_now : attached_at (kept_outlines new.users) (first_id + p) f ≡ slice_get k.attached (f - 2)
        row_now = rw (user_is outline new.users (first_id + p), user_there new.users p k made') refl

        row_was : attached_at (kept_outlines without.users) (first_id + p) f ≡ slice_get k.attached (f - 2)
        row_was = rw (user_is outline without.users (first_id + p), user_there without.users p k was) refl

        other : (m : ℕ) → slice_get k.attached (f - 2) ≡ Some m → handles_in (kept_outlines new.users) m ≡ handles_in (kept_outlines without.users) m
        other m e =
            let one = without_sound.attached.each p (f - 2) m k was e in
            let there = made_at without.users m one.0 one.1 in
            let apart : m - first_id ≢ place = λ eq. not_without (m - first_id) one.0 eq there.0 in
            let now : user_of new.users m ≡ Some one.0 = subst (λ (q : ℕ). user_of new.users q ≡ Some one.0) there.1 (user_there new.users (m - first_id) one.0 (without_now (m - first_id) one.0 apart there.0)) in
            rw (user_is outline new.users m, now, user_is outline without.users m, one.1) refl

        step : far_of new.memory.slots (kept_outlines new.users) (first_id + p) f n ≡ far_of new.memory.slots (kept_outlines without.users) (first_id + p) f n
        step = rw (row_now, row_was) (go (slice_get k.attached (f - 2)) refl)
          where
            go : (o : Option ℕ) → slice_get k.attached (f - 2) ≡ o → option_and_then (λ (m : ℕ). active_at (presence_at new.memory.slots (handles_in (kept_outlines new.users) m) n)) o
                ≡ option_and_then (λ (m : ℕ). active_at (presence_at new.memory.slots (handles_in (kept_outlines without.users) m) n)) o
            go None e = refl
            go (Some m) e = ap (λ (hs : List (Option Handle)). active_at (presence_at new.memory.slots hs n)) (other m e)

    agrees_of : Agrees held new next
    unfolding runs_outline
    agrees_of = record {
      banks = did.placed.banks ∙ agrees.banks;
      slots = refl;
      users = ap kept_outlines did.users' ∙ map_all outline (with_life Running) runs_outline (λ k. refl) (with_user old.users id (Some its)) rows
          ∙ ap (λ (os : List (Option Outline)). with_all runs_outline os rows) mid_users ∙ sym (map_all outline_of words.runs_again runs_outline (λ u. refl) (with_user state.users id (Some user)) rows);
      attached = attached_now;
      entries = like_entries resumed new.users like held (relived.entries_now old.users resumed Running ids are held agrees.entries);
      each = each_agrees;
    }
      where
        user_one : (a b : User) → Some (Some a) ≡ Some (Some b) → a ≡ b
        user_one a b e = cc

        -- no attached segment is active
        far_none : (f n : ℕ) → far_of new.memory.slots (kept_outlines new.users) id f n ≡ None
        far_none f n = rw (user_is outline new.users id, its_made) (go (slice_get kept.attached (f - 2)) refl)
          where
            go : (o : Option ℕ) → slice_get kept.attached (f - 2) ≡ o → option_and_then (λ (m : ℕ). active_at (presence_at new.memory.slots (handles_in (kept_outlines new.users) m) n)) o ≡ None
            go None e = refl
            go (Some m) e = not_active' (f - 2) m e n

        each_agrees : (p : ℕ) (k : LoadedUser) (u : User) → slice_get new.users p ≡ Some (Some k) → slice_get next.users p ≡ Some (Some u) → UserAgrees held new.memory (far_in new (first_id + p)) (first_id + p) k u
        each_agrees p k u made' made'' = elim (cases_eq p place) [
          | inl eq ↦
              let one = with_all_then words.runs_again again_user rows (with_user state.users id (Some user)) place user (set_at state.users place (Some user) (omega (arith, inside, lists))) in
              let mid : one.0 ≡ user = elim one.2 [ inl l ↦ l.1 | inr l ↦ l.1 ] in
              let user_is' : user ≡ u = sym mid ∙ user_one one.0 u (sym one.1 ∙ ap (slice_get next.users) (sym eq) ∙ made'') in
              let kept_is : its ≡ k = kept_one its k (sym at_place ∙ ap (slice_get new.users) (sym eq) ∙ made') in
              let id_is : id ≡ first_id + p = omega (arith, its_users.1, eq) in
              subst (λ (n : ℕ). UserAgrees held new.memory (far_in new n) n k u) id_is
              (subst (λ (x : User). UserAgrees held new.memory (far_in new id) id k x) user_is' (subst (λ (x : LoadedUser). UserAgrees held new.memory (far_in new id) id x user) kept_is
              (user_agrees held without new kept.path segments id started.entry without_sound did.placed holds kept.attached (far_in new id) far_none)))
          | inr ne ↦
              let was = now_without p k ne made' in
              let was' : slice_get middle.users p ≡ Some (Some u) =
              with_all_else words.runs_again again_user rows (with_user state.users id (Some user)) (with_user state.users id None) p u (set_apart state.users place p (Some user) ne ∙ sym (set_apart state.users place p None ne)) made'' in
              others_agree held without new kept.path segments id started.entry without_sound did.placed holds kept.attached (far_in without (first_id + p)) (far_in new (first_id + p)) p k u was
              (λ f n above. far_now p k made' ne f n) (without_agrees.each p k u was was')
        ]

    pub begun_anew_agrees : Agrees held new next
    begun_anew_agrees = agrees_of

    puts : PutsAll RoomRule state.banks id (without_user state.slots id) (wants_of (map head_of segments)) did.placed.handles new.memory.slots
    puts =
        subst (λ (b : List ℕ). PutsAll RoomRule b id (without_user state.slots id) (wants_of (map head_of segments)) did.placed.handles new.memory.slots) agrees.banks
        (subst (λ (t : Slots). PutsAll RoomRule old.memory.banks id (without_user t id) (wants_of (map head_of segments)) did.placed.handles new.memory.slots) agrees.slots
        (subst (PutsAll RoomRule old.memory.banks id (without_user old.memory.slots id) (wants_of (map head_of segments)) did.placed.handles) (sym did.placed.slots) did.placed.placed.puts))

    -- the machine's user begins so too
    pub begins_anew : (was : User) → was.attached ≡ kept.attached → Begins RoomRule state (without_user state.slots id) kept.path id segments (again_users state id was) (Started id started.entry) next
    begins_anew was rows_are = record {
      put = PutIn did.placed.handles new.memory.slots;
      is_put = (subst (λ (t : Slots). length (wants_of (map head_of segments)) ≤ Rattle.std.specs.Prelude.count_by Rattle.iigs_meaning.specs.Slots.is_free (without_user t id)) agrees.slots did.placed.placed.enough, puts);
      lands = (
        ap (λ (e : Option ℕ). Started id e) did.placed.entry_is,
        ap (λ (ns : List ℕ). let m : Machine = record {
          banks = state.banks;
          slots = new.memory.slots;
          users = with_all words.runs_again (with_user state.users id (Some (record (started_user kept.path (map head_of segments) did.placed.handles) { attached = ns }))) ns;
        } in m) (sym rows_are),
      );
    }
