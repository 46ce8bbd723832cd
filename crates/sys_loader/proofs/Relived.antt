-- Users of which some get another life, together with those that are attached to them.
use Rattle.std.proofs.Common.{◌≡◌, ◌⊎◌, inl, inr, ℕ, Bool, true, false, cond, ◌==◌, ◌+◌, ◌-◌, ◌≤◌, List, [], length, Option, Some, None, refl, sym, ap, subst, ◌∙◌, arith}
use Rattle.std.specs.Prelude.{slice_get}
use Rattle.std.specs.Option.{option_map, option_and_then}
use Rattle.std.proofs.lemmas.Option.{same_Some}
use Rattle.omf_io.specs.Files.{FileMap}
use Rattle.load_meaning.specs.declared.table.Target.{Target}
use Rattle.load_meaning.specs.Pathnames.{most_paths}
use Rattle.iigs_meaning.specs.declared.handles.Handle.{Handle}
use Rattle.loader_machine.specs.declared.seen.SegmentHead.{SegmentHead}
use Rattle.loader_machine.specs.declared.seen.Life.{Life}
use Rattle.loader_machine.specs.Heads.{at_number}
use Rattle.loader_machine.specs.State.{Outline, first_id, user_of, with_all, attached_at}
use Rattle.loader_machine.specs.Presences.{handle_at}
use Rattle.loader_machine.specs.Found.{HoldsLoad}
use Rattle.loader_agrees.specs.Agrees.{LoadedUser, outline, kept_outlines, IsJoined, AreAttached, LeadsFar, IsCall, Has}
use Rattle.loader_agrees.specs.laws.Words.{EntriesLead}
use Rattle.loader_agrees.specs.laws.Begun.{decide}
use Rattle.loader_agrees.specs.laws.RowUsers.{user_there}
use Rattle.loader_agrees.specs.laws.Seeing.{made_at, user_is}
use Rattle.loader_users.specs.Users.{with_life}
use Rattle.sys_loader.proofs.Together.{is_in, Was, with_all_get, with_all_then}

pub life_again : (life : Life) (k : LoadedUser) → with_life life (with_life life k) ≡ with_life life k
life_again life k = refl

module _ (old new : List (Option LoadedUser)) (life : Life) (ids : List ℕ) (are : new ≡ with_all (with_life life) old ids) where
  abbrev pub In : ℕ → Bool
  In p = is_in ids (first_id + p)

  pub users_now : (p : ℕ) (k : LoadedUser) → slice_get new p ≡ Some (Some k) → Was (with_life life) (life_again life) old ids p k
  users_now p k made = with_all_get (with_life life) (life_again life) ids old p k (ap (λ (us : List (Option LoadedUser)). slice_get us p) (sym are) ∙ made)

  pub users_then : (p : ℕ) (k : LoadedUser) → slice_get old p ≡ Some (Some k)
      → (v : LoadedUser) × (slice_get new p ≡ Some (Some v)) × (((is_in ids (first_id + p) ≡ true) × (v ≡ with_life life k)) ⊎ ((is_in ids (first_id + p) ≡ false) × (v ≡ k)))
  users_then p k made = let one = with_all_then (with_life life) (life_again life) ids old p k made in (one.0, ap (λ (us : List (Option LoadedUser)). slice_get us p) are ∙ one.1, one.2)

  -- all but the life of a user stays
  pub same_but : (p : ℕ) (k : LoadedUser) → (made : slice_get new p ≡ Some (Some k)) → let was = (users_now p k made).was in (k.handles ≡ was.handles) × (k.heads ≡ was.heads) × (k.attached ≡ was.attached) × (k.path ≡ was.path)
  same_but p k made = go (users_now p k made)
    where
      go : (w : Was (with_life life) (life_again life) old ids p k) → (k.handles ≡ w.was.handles) × (k.heads ≡ w.was.heads) × (k.attached ≡ w.was.attached) × (k.path ≡ w.was.path)
      go w = elim w.is [
        | inl inside ↦ (ap (λ (x : LoadedUser). x.handles) inside.1, ap (λ (x : LoadedUser). x.heads) inside.1, ap (λ (x : LoadedUser). x.attached) inside.1, ap (λ (x : LoadedUser). x.path) inside.1)
        | inr outside ↦ (ap (λ (x : LoadedUser). x.handles) outside.1, ap (λ (x : LoadedUser). x.heads) outside.1, ap (λ (x : LoadedUser). x.attached) outside.1, ap (λ (x : LoadedUser). x.path) outside.1)
      ]

  pub has_before : (p n : ℕ) (head : SegmentHead) (h : Handle) → Has new p n head h → Has old p n head h
  has_before p n head h has =
      let w = users_now p has.kept has.made in
      let same = same_but p has.kept has.made in
      record { kept = w.was; made = w.made; head' = ap (λ (hs : List SegmentHead). at_number hs n) (sym same.1) ∙ has.head'; handle = ap (λ (hs : List (Option Handle)). handle_at hs n) (sym same.0) ∙ has.handle }

  pub has_now : (p n : ℕ) (head : SegmentHead) (h : Handle) → Has old p n head h → Has new p n head h
  has_now p n head h has =
      let one = users_then p has.kept has.made in
      let same : (one.0.heads ≡ has.kept.heads) × (one.0.handles ≡ has.kept.handles) = elim one.2 [ inl l ↦ (ap (λ (x : LoadedUser). x.heads) l.1, ap (λ (x : LoadedUser). x.handles) l.1) | inr l ↦ (ap (λ (x : LoadedUser). x.heads) l.1, ap (λ (x : LoadedUser). x.handles) l.1) ] in
      record { kept = one.0; made = one.1; head' = ap (λ (hs : List SegmentHead). at_number hs n) same.0 ∙ has.head'; handle = ap (λ (hs : List (Option Handle)). handle_at hs n) same.1 ∙ has.handle }

  -- the user of an ID, then
  pub user_then : (n : ℕ) (k : LoadedUser) → user_of old n ≡ Some k
      → (v : LoadedUser) × (user_of new n ≡ Some v) × (v.heads ≡ k.heads) × (v.attached ≡ k.attached) × (v.handles ≡ k.handles) × (((is_in ids n ≡ true) × (v ≡ with_life life k)) ⊎ ((is_in ids n ≡ false) × (v ≡ k)))
  user_then n k is =
      let there = made_at old n k is in
      let one = users_then (n - first_id) k there.0 in
      let now : user_of new n ≡ Some one.0 = subst (λ (m : ℕ). user_of new m ≡ Some one.0) there.1 (user_there new (n - first_id) one.0 one.1) in
      let same : (one.0.heads ≡ k.heads) × (one.0.attached ≡ k.attached) × (one.0.handles ≡ k.handles) = elim one.2 [
        | inl l ↦ (ap (λ (x : LoadedUser). x.heads) l.1, ap (λ (x : LoadedUser). x.attached) l.1, ap (λ (x : LoadedUser). x.handles) l.1)
        | inr l ↦ (ap (λ (x : LoadedUser). x.heads) l.1, ap (λ (x : LoadedUser). x.attached) l.1, ap (λ (x : LoadedUser). x.handles) l.1)
      ] in
      (one.0, now, same.0, same.1, same.2, subst (λ (m : ℕ). ((is_in ids m ≡ true) × (one.0 ≡ with_life life k)) ⊎ ((is_in ids m ≡ false) × (one.0 ≡ k))) there.1 one.2)

  -- what a row names, it names still
  pub row_now : (q f n : ℕ) → attached_at (kept_outlines old) q f ≡ Some n → attached_at (kept_outlines new) q f ≡ Some n
  row_now q f n is = go (user_of old q) refl (ap (option_and_then (λ (u : Outline). slice_get u.attached (f - 2))) (sym (user_is outline old q)) ∙ is)
    where
      go : (o : Option LoadedUser) → user_of old q ≡ o → option_and_then (λ (u : Outline). slice_get u.attached (f - 2)) (option_map outline o) ≡ Some n → attached_at (kept_outlines new) q f ≡ Some n
      go None e found = absurd cc
      go (Some k) e found = let one = user_then q k e in rw (user_is outline new q, one.1) (ap (λ (ns : List ℕ). slice_get ns (f - 2)) one.3 ∙ found)

  pub call_now : (q : ℕ) (t : Target) → IsCall old q t → IsCall new q t
  call_now q t call =
      let one = user_then call.other call.kept call.made in
      record {
        other = call.other;
        named = named (t.file == 1) call.named;
        kept = one.0;
        made = one.1;
        head = call.head;
        head' = ap (λ (hs : List SegmentHead). at_number hs t.segment) one.2 ∙ call.head';
        dynamic = call.dynamic;
        loaded = call.loaded;
      }
    where
      named : (b : Bool) → cond b (Some q) (attached_at (kept_outlines old) q t.file) ≡ Some call.other → cond b (Some q) (attached_at (kept_outlines new) q t.file) ≡ Some call.other
      named true e = e
      named false e = row_now q t.file call.other e

  far_now : (q : ℕ) (t : Target) → LeadsFar old q t → LeadsFar new q t
  far_now q t far =
      let one = user_then far.other far.kept far.made in
      record {
        other = far.other;
        named = row_now q t.file far.other far.named;
        kept = one.0;
        made = one.1;
        head = far.head;
        head' = ap (λ (hs : List SegmentHead). at_number hs t.segment) one.2 ∙ far.head';
        inside = far.inside;
      }

  pub entries_now : (held : FileMap) → EntriesLead held old → EntriesLead held new
  entries_now held entries p number k now segments s t made holds is table found above =
      let w = users_now p now made in
      far_now (first_id + p) t
      (entries p number k w.was segments s t w.made (subst (λ (path : List ℕ). HoldsLoad held path segments) (same_but p now made).3 holds) is table found above)

  -- an attached user is one of them where its user is
  module _ (attached : AreAttached old) (together : (p i n : ℕ) (k : LoadedUser) → slice_get old p ≡ Some (Some k) → slice_get k.attached i ≡ Some n → is_in ids (first_id + p) ≡ is_in ids n) where
    pub attached_now : AreAttached new
    attached_now = record {
      few = λ p k made. let w = users_now p k made in subst (λ (ns : List ℕ). length ns ≤ most_paths) (sym (same_but p k made).2) (attached.few p w.was w.made);
      each = λ p i n k made is.
          let w = users_now p k made in
          let same = same_but p k made in
          let is' : slice_get w.was.attached i ≡ Some n = ap (λ (ns : List ℕ). slice_get ns i) (sym same.2) ∙ is in
          let one = attached.each p i n w.was w.made is' in
          let now = user_then n one.0 one.1 in
          (now.0, now.1, joined p n k w.was now.0 one.0 (together p i n w.was w.made is') w.is one.2 now.2 now.3 now.5);
      once = λ p q i j n one two made made' is is'.
          let w = users_now p one made in
          let v = users_now q two made' in
          attached.once p q i j n w.was v.was w.made v.made (ap (λ (ns : List ℕ). slice_get ns i) (sym (same_but p one made).2) ∙ is) (ap (λ (ns : List ℕ). slice_get ns j) (sym (same_but q two made').2) ∙ is');
    }
      where
        joined : (p n : ℕ) (k was v o : LoadedUser) → is_in ids (first_id + p) ≡ is_in ids n
            → ((is_in ids (first_id + p) ≡ true) × (k ≡ with_life life was)) ⊎ ((is_in ids (first_id + p) ≡ false) × (k ≡ was)) → IsJoined was.life o → v.heads ≡ o.heads → v.attached ≡ o.attached
            → ((is_in ids n ≡ true) × (v ≡ with_life life o)) ⊎ ((is_in ids n ≡ false) × (v ≡ o)) → IsJoined k.life v
        joined p n k was v o both here j heads attached' at = record {
          same = lives here at;
          alone = attached' ∙ j.alone;
          dynamic = λ m head found. j.dynamic m head (ap (λ (hs : List SegmentHead). at_number hs m) (sym heads) ∙ found);
          plain = λ m head found. j.plain m head (ap (λ (hs : List SegmentHead). at_number hs m) (sym heads) ∙ found);
        }
          where
            lives : ((is_in ids (first_id + p) ≡ true) × (k ≡ with_life life was)) ⊎ ((is_in ids (first_id + p) ≡ false) × (k ≡ was)) → ((is_in ids n ≡ true) × (v ≡ with_life life o)) ⊎ ((is_in ids n ≡ false) × (v ≡ o)) → v.life ≡ k.life
            lives (inl a) (inl b) = ap (λ (x : LoadedUser). x.life) b.1 ∙ sym (ap (λ (x : LoadedUser). x.life) a.1)
            lives (inr a) (inr b) = ap (λ (x : LoadedUser). x.life) b.1 ∙ j.same ∙ sym (ap (λ (x : LoadedUser). x.life) a.1)
            lives (inl a) (inr b) = let clash : true ≡ false = sym a.0 ∙ both ∙ b.0 in absurd cc
            lives (inr a) (inl b) = let clash : false ≡ true = sym a.0 ∙ both ∙ b.0 in absurd cc

-- ---- a user with those that are attached to it

module _ (users : List (Option LoadedUser)) (attached : AreAttached users) (id : ℕ) (kept : LoadedUser) (made : user_of users id ≡ Some kept) (top : (q f : ℕ) → attached_at (kept_outlines users) q f ≡ Some id → ⊥)
    (ids : List ℕ) (has_id : is_in ids id ≡ true) (has_rows : (i n : ℕ) → slice_get kept.attached i ≡ Some n → is_in ids n ≡ true)
    (either : (n : ℕ) → is_in ids n ≡ true → (n ≡ id) ⊎ ((i : ℕ) × (slice_get kept.attached i ≡ Some n))) where
  its_place : (slice_get users (id - first_id) ≡ Some (Some kept)) × (first_id + (id - first_id) ≡ id)
  its_place = made_at users id kept made

  one_kept : (a b : LoadedUser) → Some (Some a) ≡ Some (Some b) → a ≡ b
  one_kept a b e = cc

  -- one of them is the user itself, or an attached one
  pub which : (p : ℕ) (k : LoadedUser) → slice_get users p ≡ Some (Some k) → is_in ids (first_id + p) ≡ true → ((p ≡ id - first_id) × (k ≡ kept)) ⊎ ((i : ℕ) × (slice_get kept.attached i ≡ Some (first_id + p)) × IsJoined kept.life k)
  which p k made' inside = elim (either (first_id + p) inside) [
    | inl last ↦
        let eq : p ≡ id - first_id = omega (arith, last) in
        inl (eq, one_kept k kept (sym made' ∙ ap (slice_get users) eq ∙ its_place.0))
    | inr row ↦
        let one = attached.each (id - first_id) row.0 (first_id + p) kept its_place.0 row.1 in
        let same : one.0 ≡ k = same_Some one.0 k (sym one.1 ∙ user_there users p k made') in
        inr (row.0, row.1, subst (IsJoined kept.life) same one.2)
  ]

  nothing : (i n : ℕ) → slice_get {X = ℕ} [] i ≡ Some n → ⊥
  nothing i n e = cc

  -- an attached user is one of them where its user is
  pub together : (p i n : ℕ) (k : LoadedUser) → slice_get users p ≡ Some (Some k) → slice_get k.attached i ≡ Some n → is_in ids (first_id + p) ≡ is_in ids n
  together p i n k made' is = go (decide (is_in ids (first_id + p))) (decide (is_in ids n))
    where
      back : i + 2 - 2 ≡ i
      back = omega arith

      go : (is_in ids (first_id + p) ≡ true) ⊎ (is_in ids (first_id + p) ≡ false) → (is_in ids n ≡ true) ⊎ (is_in ids n ≡ false) → is_in ids (first_id + p) ≡ is_in ids n
      go (inl a) (inl b) = a ∙ sym b
      go (inr a) (inr b) = a ∙ sym b
      go (inl a) (inr b) = elim (which p k made' a) [
        | inl here ↦ (let clash : true ≡ false = sym (has_rows i n (ap (λ (x : LoadedUser). slice_get x.attached i) (sym here.1) ∙ is)) ∙ b in absurd cc)
        | inr row ↦ absurd (nothing i n (ap (λ (ns : List ℕ). slice_get ns i) (sym row.2.alone) ∙ is))
      ]
      go (inr a) (inl b) = elim (either n b) [
        | inl last ↦ absurd (top (first_id + p) (i + 2) (rw (user_is outline users (first_id + p), user_there users p k made') (ap (slice_get k.attached) back ∙ is ∙ ap (λ (m : ℕ). Some m) last)))
        | inr row ↦
            (let both = attached.once p (id - first_id) i row.0 n k kept made' its_place.0 is row.1 in
            let its : first_id + p ≡ id = omega (arith, both.0, its_place.1) in
            let clash : false ≡ true = sym a ∙ ap (is_in ids) its ∙ has_id in absurd cc)
      ]
