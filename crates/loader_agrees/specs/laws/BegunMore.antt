-- A loader is sound after a program was loaded with the run-time library files of its rows.
use Rattle.std.proofs.Common.{◌≡◌, ◌≢◌, ◌⊎◌, inl, inr, ℕ, Bool, true, false, ◌==◌, ◌+◌, ◌-◌, ◌^◌, ◌<◌, ◌≤◌, List, [], ◌∷◌, ◌++◌, length, map, Option, Some, None, refl, sym, ap, subst, ◌∙◌, arith}
use Rattle.std.specs.Prelude.{slice_get, not, ◌&&◌}
use Rattle.std.proofs.lemmas.Option.{same_Some, slice_get_within}
use Rattle.std.proofs.lemmas.List.{length-map, length-append}
use Rattle.omf_format.specs.Header.{is_dynamic, is_skipped}
use Rattle.omf_format.specs.File.{Segment}
use Rattle.load_meaning.specs.declared.table.Target.{Target}
use Rattle.load_meaning.specs.Pathnames.{paths_of}
use Rattle.load_meaning.specs.LoadTable.{target_at, entry_count}
use Rattle.load_meaning.specs.Loadable.{IsLoadable}
use Rattle.load_meaning.specs.Runtime.{IsRuntime}
use Rattle.iigs_meaning.specs.declared.handles.Handle.{Handle}
use Rattle.iigs_meaning.specs.Memory.{bytes_at}
use Rattle.loader_machine.specs.declared.seen.SegmentHead.{SegmentHead}
use Rattle.loader_machine.specs.Heads.{head_of, at_number, is_table}
use Rattle.loader_machine.specs.State.{ids_from}
use Rattle.loader_machine.specs.Presences.{handle_at}
use Rattle.loader_machine.specs.Stands.{setting}
use Rattle.loader_machine.specs.Steps.{lost_refusal}
use Rattle.loader_agrees.specs.Agrees.{LoadedUser, Loaded, AreAttached, IsCall, IsSound}
use Rattle.loader_agrees.specs.Acts.{IsAdded, HasBegun, started_kept, no_handle_of, joined_kept, joined_kepts}
use Rattle.loader_agrees.specs.laws.BegunSound.{sound_placed}
use Rattle.loader_agrees.specs.laws.EntryReads.{its_call, number_within}
use Rattle.loader_agrees.specs.laws.Joining.{IsQuiet, AreMore, sound_more}
use Rattle.loader_agrees.specs.laws.Reads.{headed}
use Rattle.loader_agrees.specs.laws.Rows.{IsReached, few_paths, runtime_called, all_reached, row_heads}
use Rattle.loader_agrees.specs.laws.RowUsers.{Lies, Front, Midst, After, lies, front_at, midst_at, after_at, AreCalled, AreRows, row_kept, without_handle, id_there, row_user, attached_made, its_there, its_attached}

-- each of these is the list of segments of a run-time library file
abbrev pub AreRuntimes : List (List Segment) → Type 0
AreRuntimes all = (j : ℕ) (segments : List Segment) → slice_get all j ≡ Some segments → (file : List ℕ) × IsRuntime file segments

length-joined : (paths : List (List ℕ)) (all : List (List Segment)) → length (joined_kepts paths all) ≤ length paths
length-joined [] all = omega arith
length-joined (path ∷ paths) [] = omega arith
length-joined (path ∷ paths) (segments ∷ all) = omega (arith, length-joined paths all)

not_static : (d k : Bool) → d ≡ true → (not d && not k) ≡ true → ⊥
not_static true k e e' = cc
not_static false k e e' = cc

-- a user of a row is quiet
quiet : (path : List ℕ) (segments : List Segment) → AreCalled segments → length segments < 2 ^ 16 → IsQuiet (joined_kept path (map head_of segments))
quiet path segments called short = record {
  lengths = length-map (map head_of segments) no_handle_of;
  short = omega (arith, short, length-map segments head_of);
  runs = refl;
  none = λ number h is. let clash : None ≡ Some h = sym (without_handle (map head_of segments) number) ∙ is in absurd cc;
  dynamic = λ number head is static.
      let one = headed segments number head is in
      let kind : is_dynamic head.kind ≡ true = ap (λ (g : SegmentHead). is_dynamic g.kind) (sym one.2) ∙ (called number one.0 one.1).0 in
      absurd (not_static (is_dynamic head.kind) (is_skipped head.kind) kind static);
  alone = refl;
}

module _ (old new : Loaded) (path : List ℕ) (segments : List Segment) (all : List (List Segment)) (id : ℕ) (entry : Option ℕ) (sound : IsSound old.memory old.users)
    (begun : HasBegun old path segments all id entry new) (file : List ℕ) (loadable : IsLoadable file segments) (runtimes : AreRuntimes all)
    (none : lost_refusal (map (map head_of) all) segments ≡ None) where
  abbrev first : LoadedUser
  first = started_kept path (map head_of segments) begun.placed.handles

  abbrev its : LoadedUser
  its = record (started_kept path (map head_of segments) begun.placed.handles) { attached = ids_from (id + 1) (length (paths_of segments)) }

  abbrev joined : List (Option LoadedUser)
  joined = joined_kepts (paths_of segments) all

  abbrev made : List (Option LoadedUser)
  made = old.users ++ Some its ∷ joined_kepts (paths_of segments) all

  -- the users before the program has anything in memory
  abbrev middle : List (Option LoadedUser)
  middle = old.users ++ None ∷ joined_kepts (paths_of segments) all

  called : (j : ℕ) (other : List Segment) → slice_get all j ≡ Some other → AreCalled other
  called j other found = let one = runtimes j other found in runtime_called one.0 other one.1

  rows : AreRows old.users (paths_of segments) all id
  rows = record { attached = sound.attached; id_is = begun.id_is; few = few_paths segments; long = begun.long; called = called }

  more : AreMore old.users middle
  more = record {
    stay = λ place kept is. front_at old.users None joined place (Some kept) is;
    which = λ place kept is. go place kept (lies old.users None joined place (Some kept) is);
  }
    where
      go : (place : ℕ) (kept : LoadedUser) → Lies old.users None joined place (Some kept) → (slice_get old.users place ≡ Some (Some kept)) ⊎ IsQuiet kept
      go place kept (Front less is) = inl is
      go place kept (Midst at is) = absurd cc
      go place kept (After j at is) =
          let one = row_kept (paths_of segments) all j (Some kept) is in
          let same : joined_kept one.0 (map head_of one.1) ≡ kept = sym (same_Some kept (joined_kept one.0 (map head_of one.1)) one.3) in
          inr (subst IsQuiet same (quiet one.0 one.1 (called j one.1 one.2.segments') (begun.shorts j one.1 one.2.segments')))

  sound_middle : IsSound old.memory middle
  sound_middle = sound_more old.users middle more old.memory sound
      (omega (arith, begun.few, length-append old.users (None ∷ joined), length-joined (paths_of segments) all))

  added : IsAdded middle (length old.users) its made
  added = record {
    few = omega (arith, begun.few, length-append old.users (Some its ∷ joined), length-joined (paths_of segments) all);
    here = midst_at old.users (Some its) joined;
    which = λ p k is. which p k (lies old.users (Some its) joined p (Some k) is);
    stay = λ p k is. stays p k (lies old.users None joined p (Some k) is);
  }
    where
      which : (p : ℕ) (k : LoadedUser) → Lies old.users (Some its) joined p (Some k) → ((p ≢ length old.users) × (slice_get middle p ≡ Some (Some k))) ⊎ ((p ≡ length old.users) × (k ≡ its))
      which p k (Front less is) = inl ((λ e. omega (arith, e, less)), front_at old.users None joined p (Some k) is)
      which p k (Midst at is) = inr (at, same_Some k its is)
      which p k (After j at is) = inl ((λ e. omega (arith, e, at)), ap (slice_get middle) at ∙ after_at old.users None joined j ∙ is)

      stays : (p : ℕ) (k : LoadedUser) → Lies old.users None joined p (Some k) → slice_get made p ≡ Some (Some k)
      stays p k (Front less is) = front_at old.users (Some its) joined p (Some k) is
      stays p k (Midst at is) = absurd cc
      stays p k (After j at is) = ap (slice_get made) at ∙ after_at old.users (Some its) joined j ∙ is

  -- an entry for another file leads to a segment of that row's user
  far_call : (t : Target) → 2 ≤ t.file → IsReached (map (map head_of) all) t → IsCall made id t × (t.file < 2 ^ 16) × (t.segment < 2 ^ 16)
  far_call t above reached =
      let within = slice_get_within (map (map head_of) all) (t.file - 2) reached.heads reached.row in
      let less : t.file - 2 < length (paths_of segments) = omega (arith, within, length-map all (map head_of), begun.long) in
      let row = row_user old.users (paths_of segments) all id rows first refl (t.file - 2) less in
      let heads = row_heads (paths_of segments) all (t.file - 2) row.0 row.1 reached.heads row.2 reached.row in
      let head' : at_number (map head_of row.1) t.segment ≡ Some reached.head = ap (λ (hs : List SegmentHead). at_number hs t.segment) heads ∙ reached.head' in
      let s = headed row.1 t.segment reached.head head' in
      let kind = called (t.file - 2) row.1 row.2.segments' t.segment s.0 s.1 in
      let other : (t.file == 1) ≡ false = grind arith in (
        record {
          other = id + 1 + (t.file - 2);
          named = rw other (its_attached old.users (paths_of segments) all id rows first refl t.file ∙ id_there (id + 1) (length (paths_of segments)) (t.file - 2) less);
          kept = joined_kept row.0 (map head_of row.1);
          made = row.3;
          head = reached.head;
          head' = head';
          dynamic = ap (λ (g : SegmentHead). is_dynamic g.kind) (sym s.2) ∙ kind.0;
          loaded = ap (λ (g : SegmentHead). is_skipped g.kind) (sym s.2) ∙ kind.1;
        },
        omega (arith, less, few_paths segments),
        omega (arith, number_within row.1 t.segment s.0 s.1, begun.shorts (t.file - 2) row.1 row.2.segments'),
      )

  its_calls : (number k : ℕ) (head : SegmentHead) (h : Handle) → at_number (map head_of segments) number ≡ Some head → handle_at first.handles number ≡ Some h → is_table head ≡ true → k < entry_count head.length
      → IsCall made id (target_at (bytes_at new.memory h.slot) k)
  its_calls number k head h head' handle table inside =
      let s = headed segments number head head' in
      let table' = ap is_table s.2 ∙ table in
      its_call file segments loadable begun.placed.short made id its (its_there old.users (paths_of segments) all id rows first refl) refl (setting id new.memory.slots first.handles) number k s.0
      (bytes_at new.memory h.slot) s.1 table' (begun.placed.begins number s.0 h s.1 handle) (omega (arith, inside, ap (λ (x : SegmentHead). entry_count x.length) s.2))
      (λ t found above. far_call t above (all_reached file segments (map (map head_of) all) loadable none number k s.0 t s.1 table' found above))

  -- after a load the loader is sound
  pub sound_begun : IsSound new.memory new.users
  sound_begun = sound_placed (record { memory = old.memory; users = middle }) new path segments id entry sound_middle begun.placed (ids_from (id + 1) (length (paths_of segments))) (length old.users) begun.id_is
      (subst (IsAdded middle (length old.users) its) (sym begun.users) added)
      (subst AreAttached (sym begun.users) (attached_made old.users (paths_of segments) all id rows first refl))
      (λ number k head h head' handle table inside. subst (λ (us : List (Option LoadedUser)). IsCall us id (target_at (bytes_at new.memory h.slot) k)) (sym begun.users) (its_calls number k head h head' handle table inside))
