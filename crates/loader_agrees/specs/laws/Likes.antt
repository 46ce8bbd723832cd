-- Users of whom a call changes nothing but handles.
use Rattle.std.proofs.Common.{◌≡◌, ℕ, cond, ◌==◌, ◌+◌, ◌-◌, ◌≤◌, List, length, Option, Some, None, refl, sym, ap, subst, ◌∙◌}
use Rattle.std.specs.Prelude.{slice_get, option_map}
use Rattle.std.specs.Option.{option_and_then}
use Rattle.omf_io.specs.Files.{FileMap}
use Rattle.load_meaning.specs.declared.table.Target.{Target}
use Rattle.load_meaning.specs.Pathnames.{most_paths}
use Rattle.loader_machine.specs.declared.seen.SegmentHead.{SegmentHead}
use Rattle.loader_machine.specs.declared.seen.Life.{Life}
use Rattle.loader_machine.specs.Heads.{at_number}
use Rattle.loader_machine.specs.State.{Outline, first_id, user_of, attached_at, named_by}
use Rattle.loader_machine.specs.Found.{HoldsLoad}
use Rattle.loader_agrees.specs.Agrees.{LoadedUser, outline, kept_outlines, IsJoined, AreAttached, LeadsFar, IsCall}
use Rattle.loader_agrees.specs.laws.Words.{EntriesLead}
use Rattle.loader_agrees.specs.laws.RowUsers.{user_there}
use Rattle.loader_agrees.specs.laws.Seeing.{user_is, made_at}

-- all but the handles of a user is as before
pub record IsLike (was now : LoadedUser) : Type 0 where
  pub path : now.path ≡ was.path
  pub life : now.life ≡ was.life
  pub heads : now.heads ≡ was.heads
  pub attached : now.attached ≡ was.attached

-- and so it is of all users
pub record AreLike (old new : List (Option LoadedUser)) : Type 0 where
  pub back : (place : ℕ) (now : LoadedUser) → slice_get new place ≡ Some (Some now) → (was : LoadedUser) × (slice_get old place ≡ Some (Some was)) × IsLike was now
  pub forth : (place : ℕ) (was : LoadedUser) → slice_get old place ≡ Some (Some was) → (now : LoadedUser) × (slice_get new place ≡ Some (Some now)) × IsLike was now

module _ (old new : List (Option LoadedUser)) (like : AreLike old new) where
  pub like_user : (id : ℕ) (was : LoadedUser) → user_of old id ≡ Some was → (now : LoadedUser) × (user_of new id ≡ Some now) × IsLike was now
  like_user id was is =
      let there = made_at old id was is in
      let one = like.forth (id - first_id) was there.0 in
      (one.0, subst (λ (n : ℕ). user_of new n ≡ Some one.0) there.1 (user_there new (id - first_id) one.0 one.1), one.2)

  like_none : (id : ℕ) → user_of old id ≡ None → user_of new id ≡ None
  like_none id none = go (user_of new id) refl
    where
      go : (o : Option LoadedUser) → user_of new id ≡ o → user_of new id ≡ None
      go None e = e
      go (Some now) e =
          let there = made_at new id now e in
          let one = like.back (id - first_id) now there.0 in
          let was : user_of old id ≡ Some one.0 = subst (λ (n : ℕ). user_of old n ≡ Some one.0) there.1 (user_there old (id - first_id) one.0 one.1) in
          let clash : None ≡ Some one.0 = sym none ∙ was in absurd cc

  -- each row names the user that it named
  pub like_row : (id file : ℕ) → attached_at (kept_outlines new) id file ≡ attached_at (kept_outlines old) id file
  like_row id file = rw (user_is outline new id, user_is outline old id) (go (user_of old id) refl)
    where
      row : Option LoadedUser → Option ℕ
      row o = option_and_then (λ (u : Outline). slice_get u.attached (file - 2)) (option_map outline o)

      go : (o : Option LoadedUser) → user_of old id ≡ o
          → option_and_then (λ (u : Outline). slice_get u.attached (file - 2)) (option_map outline (user_of new id)) ≡ option_and_then (λ (u : Outline). slice_get u.attached (file - 2)) (option_map outline o)
      go None e = ap row (like_none id e)
      go (Some was) e = let one = like_user id was e in ap row one.1 ∙ ap (λ (ids : List ℕ). slice_get ids (file - 2)) one.2.attached

  pub like_named : (id file : ℕ) → named_by (kept_outlines new) id file ≡ named_by (kept_outlines old) id file
  like_named id file = ap (λ (o : Option ℕ). cond (file == 1) (Some id) o) (like_row id file)

  -- so an entry leads where it led
  pub like_call : (id : ℕ) (t : Target) → IsCall old id t → IsCall new id t
  like_call id t is =
      let one = like_user is.other is.kept is.made in
      record {
        other = is.other;
        named = like_named id t.file ∙ is.named;
        kept = one.0;
        made = one.1;
        head = is.head;
        head' = ap (λ (hs : List SegmentHead). at_number hs t.segment) one.2.heads ∙ is.head';
        dynamic = is.dynamic;
        loaded = is.loaded;
      }

  joined_like : (life life' : Life) (was now : LoadedUser) → life' ≡ life → IsLike was now → IsJoined life was → IsJoined life' now
  joined_like life life' was now lives is joined = record {
    same = is.life ∙ joined.same ∙ sym lives;
    alone = is.attached ∙ joined.alone;
    dynamic = λ number head found. joined.dynamic number head (ap (λ (hs : List SegmentHead). at_number hs number) (sym is.heads) ∙ found);
    plain = λ number head found. joined.plain number head (ap (λ (hs : List SegmentHead). at_number hs number) (sym is.heads) ∙ found);
  }

  pub like_attached : AreAttached old → AreAttached new
  like_attached attached = record {
    few = λ place now made. let was = like.back place now made in subst (λ (ids : List ℕ). length ids ≤ most_paths) (sym was.2.attached) (attached.few place was.0 was.1);
    each = λ place i n now made is.
        let was = like.back place now made in
        let one = attached.each place i n was.0 was.1 (ap (λ (ids : List ℕ). slice_get ids i) (sym was.2.attached) ∙ is) in
        let other = like_user n one.0 one.1 in
        (other.0, other.1, joined_like was.0.life now.life one.0 other.0 was.2.life other.2 one.2);
    once = λ place other i j n one two made made' is is'.
        let was = like.back place one made in
        let was' = like.back other two made' in
        attached.once place other i j n was.0 was'.0 was.1 was'.1 (ap (λ (ids : List ℕ). slice_get ids i) (sym was.2.attached) ∙ is) (ap (λ (ids : List ℕ). slice_get ids j) (sym was'.2.attached) ∙ is');
  }

  leads_like : (id : ℕ) (t : Target) → LeadsFar old id t → LeadsFar new id t
  leads_like id t is =
      let one = like_user is.other is.kept is.made in
      record {
        other = is.other;
        named = like_row id t.file ∙ is.named;
        kept = one.0;
        made = one.1;
        head = is.head;
        head' = ap (λ (hs : List SegmentHead). at_number hs t.segment) one.2.heads ∙ is.head';
        inside = is.inside;
      }

  pub like_entries : (held : FileMap) → EntriesLead held old → EntriesLead held new
  like_entries held entries place number k now segments s t made holds is table found above =
      let was = like.back place now made in
      leads_like (first_id + place) t
      (entries place number k was.0 segments s t was.1 (subst (λ (p : List ℕ). HoldsLoad held p segments) was.2.path holds) is table found above)
