-- A loader after a program was loaded with the run-time library files of its rows.
use Rattle.std.proofs.Common.{◌≡◌, ℕ, Bool, true, false, ◌+◌, ◌-◌, ◌<◌, ◌≤◌, List, [], ◌∷◌, ◌++◌, length, map, Option, Some, None, refl, sym, ap, subst, ◌∙◌, arith}
use Rattle.std.specs.Prelude.{slice_get, option_map, not, ◌&&◌}
use Rattle.std.specs.Option.{option_and_then}
use Rattle.std.proofs.lemmas.Option.{same_Some, slice_get_within}
use Rattle.std.proofs.lemmas.List.{length-map, map-append}
use Rattle.omf_format.specs.Header.{is_dynamic, is_skipped}
use Rattle.omf_format.specs.File.{Segment, segment_at}
use Rattle.omf_io.specs.Files.{FileMap}
use Rattle.load_meaning.specs.declared.table.Target.{Target}
use Rattle.load_meaning.specs.LoadTable.{is_table, targets_of}
use Rattle.iigs_meaning.specs.declared.handles.Handle.{Handle}
use Rattle.loader_machine.specs.declared.seen.SegmentHead.{SegmentHead}
use Rattle.loader_machine.specs.declared.seen.Life.TheVariants.{Running}
use Rattle.loader_machine.specs.Heads.{head_of, at_number}
use Rattle.loader_machine.specs.State.{User, Machine, Outline, absent, first_id, user_of, attached_at, handles_in, ids_from, outline_of, outlines}
use Rattle.loader_machine.specs.Presences.{presence, presence_at, active_at}
use Rattle.loader_machine.specs.Stands.{Far, far_of}
use Rattle.loader_machine.specs.Found.{HoldsLoad}
use Rattle.loader_machine.specs.Steps.{joined_users}
use Rattle.loader_machine.specs.laws.Words.{started_user, joined_user}
use Rattle.loader_machine.specs.laws.OnceLaws.{one_load}
use Rattle.loader_agrees.specs.Agrees.{LoadedUser, Loaded, outline, kept_outlines, AreAttached, LeadsFar, UserAgrees, Agrees, IsSound}
use Rattle.loader_agrees.specs.laws.Words.{EntriesLead}
use Rattle.loader_agrees.specs.Acts.{HasPlaced, started_kept, joined_kept, joined_kepts}
use Rattle.loader_agrees.specs.laws.Begun.{user_agrees, others_agree, begun_keeps}
use Rattle.loader_agrees.specs.laws.Joining.{user_stays}
use Rattle.loader_agrees.specs.laws.Keeping.{AllKept, far_kept}
use Rattle.loader_agrees.specs.laws.Rows.{IsReached, row_heads}
use Rattle.loader_agrees.specs.laws.RowUsers.{Lies, Front, Midst, After, lies, IsRow, AreRows, row_kept, user_row, id_at, id_there, without_handle, handles_same, outline_rows, user_there, stay, row_user, attached_made, attached_stays, its_attached}
use Rattle.loader_agrees.specs.laws.Seeing.{user_is}

module _ (held : FileMap) (old new : Loaded) (state : Machine) (path : List ℕ) (segments : List Segment) (paths : List (List ℕ)) (all : List (List Segment)) (id : ℕ) (entry : Option ℕ)
    (sound : IsSound old.memory old.users) (agrees : Agrees held old state) (begun : HasPlaced old.memory path segments id entry new.memory) (rows : AreRows old.users paths all id)
    (holds : HoldsLoad held path segments) (files : (j : ℕ) (p : List ℕ) (ss : List Segment) → IsRow paths all j p ss → HoldsLoad held p ss)
    (reached : (n k : ℕ) (s : Segment) (t : Target) → segment_at segments n ≡ Some s → is_table s ≡ true → slice_get (targets_of s) k ≡ Some t → 2 ≤ t.file → IsReached (map (map head_of) all) t)
    (users : new.users ≡ old.users ++ Some (record (started_kept path (map head_of segments) begun.handles) { attached = ids_from (id + 1) (length paths) }) ∷ joined_kepts paths all) where
  abbrev first : LoadedUser
  first = started_kept path (map head_of segments) begun.handles

  abbrev ids : List ℕ
  ids = ids_from (id + 1) (length paths)

  abbrev its : LoadedUser
  its = record (started_kept path (map head_of segments) begun.handles) { attached = ids }

  abbrev its_user : User
  its_user = record (started_user path (map head_of segments) begun.handles) { attached = ids }

  abbrev made : List (Option LoadedUser)
  made = old.users ++ Some its ∷ joined_kepts paths all

  no_table : (j : ℕ) (p : List ℕ) (ss : List Segment) (n : ℕ) (s : Segment) → IsRow paths all j p ss → segment_at ss n ≡ Some s → is_table s ≡ true → ⊥
  no_table j p ss n s row found table = let clash : false ≡ true = sym (rows.called j ss row.segments' n s found).2 ∙ table in cc

  entries_made : EntriesLead held made
  entries_made p n k user segs s t is holds' found table target above = go (lies old.users (Some its) (joined_kepts paths all) p (Some user) is)
    where
      lift : LeadsFar old.users (first_id + p) t → LeadsFar made (first_id + p) t
      lift leads = record {
        other = leads.other;
        named = attached_stays old.users paths all id rows first refl (first_id + p) t.file leads.other leads.named;
        kept = leads.kept;
        made = user_stays old.users made (stay old.users paths all id rows first refl) leads.other leads.kept leads.made;
        head = leads.head;
        head' = leads.head';
        inside = leads.inside;
      }

      far : segs ≡ segments → p ≡ length old.users → LeadsFar made (first_id + p) t
      far same at =
          let one = reached n k s t (ap (λ (ss : List Segment). segment_at ss n) (sym same) ∙ found) table target above in
          let within = slice_get_within (map (map head_of) all) (t.file - 2) one.heads one.row in
          let less : t.file - 2 < length paths = omega (arith, within, length-map all (map head_of), rows.long) in
          let row = row_user old.users paths all id rows first refl (t.file - 2) less in
          let at_id : id ≡ first_id + p = omega (arith, rows.id_is, at) in
          subst (λ (q : ℕ). LeadsFar made q t) at_id (record {
            other = id + 1 + (t.file - 2);
            named = its_attached old.users paths all id rows first refl t.file ∙ id_there (id + 1) (length paths) (t.file - 2) less;
            kept = joined_kept row.0 (map head_of row.1);
            made = row.3;
            head = one.head;
            head' = ap (λ (hs : List SegmentHead). at_number hs t.segment) (row_heads paths all (t.file - 2) row.0 row.1 one.heads row.2 one.row) ∙ one.head';
            inside = one.inside;
          })

      go : Lies old.users (Some its) (joined_kepts paths all) p (Some user) → LeadsFar made (first_id + p) t
      go (Front less was) = lift (agrees.entries p n k user segs s t was holds' found table target above)
      go (Midst at its') =
          let same : user ≡ its = same_Some user its its' in
          far (one_load held path segs segments (subst (λ (x : LoadedUser). HoldsLoad held x.path segs) same holds') holds) at
      go (After j at row') =
          let one = row_kept paths all j (Some user) row' in
          let same : user ≡ joined_kept one.0 (map head_of one.1) = same_Some user (joined_kept one.0 (map head_of one.1)) one.3 in
          let segs_same = one_load held one.0 segs one.1 (subst (λ (x : LoadedUser). HoldsLoad held x.path segs) same holds') (files j one.0 one.1 one.2) in
          absurd (no_table j one.0 one.1 n s one.2 (ap (λ (ss : List Segment). segment_at ss n) (sym segs_same) ∙ found) table)

  -- ---- each user agrees

  all_kept : AllKept old new.memory
  all_kept p n head h has =
      let of' = sound.each p n head h has in
      begun_keeps old.memory new.memory path segments id entry begun h of'.block of'.live of'.fixed

  -- no segment of a row's user is active
  none_active : (f n : ℕ) → far_of new.memory.slots (kept_outlines made) id f n ≡ None
  none_active f n = rw (its_attached old.users paths all id rows first refl f) (go (slice_get ids (f - 2)) refl)
    where
      row : (j m : ℕ) → j < length paths → m ≡ id + 1 + j → active_at (presence_at new.memory.slots (handles_in (kept_outlines made) m) n) ≡ None
      row j m less is =
          let one = row_user old.users paths all id rows first refl j less in
          let user : user_of made m ≡ Some (joined_kept one.0 (map head_of one.1)) = ap (user_of made) is ∙ one.3 in
          rw (user_is outline made m, user) (ap (λ (o : Option Handle). active_at (presence new.memory.slots o)) (without_handle (map head_of one.1) n))

      go : (o : Option ℕ) → slice_get ids (f - 2) ≡ o → option_and_then (λ (other : ℕ). active_at (presence_at new.memory.slots (handles_in (kept_outlines made) other) n)) o ≡ None
      go None e = refl
      go (Some m) e = let one = id_at (id + 1) (length paths) (f - 2) m e in row (f - 2) m one.0 one.1

  -- of an old user's attached ones they are active where they were
  old_far : (p : ℕ) (k : LoadedUser) → slice_get old.users p ≡ Some (Some k) → (f n : ℕ) → far_of new.memory.slots (kept_outlines made) (first_id + p) f n ≡ far_of old.memory.slots (kept_outlines old.users) (first_id + p) f n
  old_far p k is f n = step ∙ far_kept old new.memory sound all_kept (first_id + p) f n
    where
      was : user_of old.users (first_id + p) ≡ Some k
      was = user_there old.users p k is

      same_row : attached_at (kept_outlines made) (first_id + p) f ≡ attached_at (kept_outlines old.users) (first_id + p) f
      same_row = rw (user_is outline made (first_id + p), user_stays old.users made (stay old.users paths all id rows first refl) (first_id + p) k was, user_is outline old.users (first_id + p), was) refl

      other_same : (other : ℕ) → slice_get k.attached (f - 2) ≡ Some other → handles_in (kept_outlines made) other ≡ handles_in (kept_outlines old.users) other
      other_same other e =
          let one = agrees.attached.each p (f - 2) other k is e in
          rw (user_is outline made other, user_stays old.users made (stay old.users paths all id rows first refl) other one.0 one.1, user_is outline old.users other, one.1) refl

      go : (o : Option ℕ) → slice_get k.attached (f - 2) ≡ o
          → option_and_then (λ (other : ℕ). active_at (presence_at new.memory.slots (handles_in (kept_outlines made) other) n)) o
          ≡ option_and_then (λ (other : ℕ). active_at (presence_at new.memory.slots (handles_in (kept_outlines old.users) other) n)) o
      go None e = refl
      go (Some other) e = ap (λ (hs : List (Option Handle)). active_at (presence_at new.memory.slots hs n)) (other_same other e)

      row_is : attached_at (kept_outlines old.users) (first_id + p) f ≡ slice_get k.attached (f - 2)
      row_is = rw (user_is outline old.users (first_id + p), was) refl

      step : far_of new.memory.slots (kept_outlines made) (first_id + p) f n ≡ far_of new.memory.slots (kept_outlines old.users) (first_id + p) f n
      step = rw (same_row, row_is) (go (slice_get k.attached (f - 2)) refl)

  row_agrees : (j p : ℕ) (path' : List ℕ) (ss : List Segment) (far : Far) → IsRow paths all j path' ss → UserAgrees held new.memory far (first_id + p) (joined_kept path' (map head_of ss)) (joined_user path' (map head_of ss))
  row_agrees j p path' ss far row = record {
    same = ap (λ (hs : List (Option Handle)). let o : Outline = record { path = path'; life = Running; handles = hs; attached = [] } in o) (sym (handles_same (map head_of ss)));
    segments = ss;
    holds = files j path' ss row;
    heads = refl;
    count = length-map (map head_of ss) (λ (head : SegmentHead). absent) ∙ length-map ss head_of;
    unpoked = λ n s found table. absurd (no_table j path' ss n s row found table);
    statics = λ running n s found static. absurd (not_static (is_dynamic s.fields.kind) (is_skipped s.fields.kind) (rows.called j ss row.segments' n s found).0 static);
    begins = λ there n s h found has present. let clash : None ≡ Some h = sym (without_handle (map head_of ss) n) ∙ has in absurd cc;
  }
    where
      not_static : (d k : Bool) → d ≡ true → (not d && not k) ≡ true → ⊥
      not_static true k e e' = cc
      not_static false k e e' = cc

  same_count : length old.users ≡ length state.users
  same_count = sym (length-map old.users (option_map outline)) ∙ ap length agrees.users ∙ length-map state.users (option_map outline_of)

  abbrev next : Machine
  next = record { banks = state.banks; slots = new.memory.slots; users = state.users ++ Some its_user ∷ joined_users paths all }

  abbrev Agreeing : List (Option LoadedUser) → ℕ → LoadedUser → User → Type 0
  Agreeing us p k user = UserAgrees held new.memory (far_of new.memory.slots (kept_outlines us) (first_id + p)) (first_id + p) k user

  each_agrees : (p : ℕ) (k : LoadedUser) (user : User) → Lies old.users (Some its) (joined_kepts paths all) p (Some k) → Lies state.users (Some its_user) (joined_users paths all) p (Some user) → Agreeing made p k user
  each_agrees p k user (Front less is) (Front less' is') =
      others_agree held old new path segments id entry sound begun holds ids (far_of old.memory.slots (kept_outlines old.users) (first_id + p)) (far_of new.memory.slots (kept_outlines made) (first_id + p)) p k user is
      (λ f n above. old_far p k is f n) (agrees.each p k user is is')
  each_agrees p k user (Midst at is) (Midst at' is') =
      let kept_is : k ≡ its = same_Some k its is in
      let user_is' : user ≡ its_user = same_Some user its_user is' in
      let at_id : id ≡ first_id + p = omega (arith, rows.id_is, at) in
      subst (λ (q : ℕ). UserAgrees held new.memory (far_of new.memory.slots (kept_outlines made) q) q k user) at_id
      (subst (λ (u : User). UserAgrees held new.memory (far_of new.memory.slots (kept_outlines made) id) id k u) (sym user_is')
      (subst (λ (x : LoadedUser). UserAgrees held new.memory (far_of new.memory.slots (kept_outlines made) id) id x its_user) (sym kept_is)
      (user_agrees held old new path segments id entry sound begun holds ids (far_of new.memory.slots (kept_outlines made) id) none_active)))
  each_agrees p k user (After j at is) (After i at' is') =
      let one = row_kept paths all j (Some k) is in
      let kept_is : k ≡ joined_kept one.0 (map head_of one.1) = same_Some k (joined_kept one.0 (map head_of one.1)) one.3 in
      let same : i ≡ j = omega (arith, at, at', same_count) in
      let there : Some (Some user) ≡ Some (Some (joined_user one.0 (map head_of one.1))) = sym is' ∙ ap (slice_get (joined_users paths all)) same ∙ user_row paths all j one.0 one.1 one.2 in
      let user_is' : user ≡ joined_user one.0 (map head_of one.1) = two_Some user (joined_user one.0 (map head_of one.1)) there in
      subst (λ (u : User). Agreeing made p k u) (sym user_is') (subst (λ (x : LoadedUser). Agreeing made p x (joined_user one.0 (map head_of one.1))) (sym kept_is) (row_agrees j p one.0 one.1 (far_of new.memory.slots (kept_outlines made) (first_id + p)) one.2))
    where
      two_Some : (a b : User) → Some (Some a) ≡ Some (Some b) → a ≡ b
      two_Some a b e = cc
  each_agrees p k user (Front less is) (Midst at is') = absurd (omega (arith, less, at, same_count))
  each_agrees p k user (Front less is) (After j at is') = absurd (omega (arith, less, at, same_count))
  each_agrees p k user (Midst at is) (Front less is') = absurd (omega (arith, less, at, same_count))
  each_agrees p k user (Midst at is) (After j at' is') = absurd (omega (arith, at', at, same_count))
  each_agrees p k user (After j at is) (Front less is') = absurd (omega (arith, less, at, same_count))
  each_agrees p k user (After j at is) (Midst at' is') = absurd (omega (arith, at', at, same_count))

  -- after a load with its rows the loader agrees with the next state
  pub agrees_rows : Agrees held new next
  agrees_rows = record {
    banks = begun.banks ∙ agrees.banks;
    slots = refl;
    users = ap kept_outlines users ∙ map-append (option_map outline) old.users (Some its ∷ joined_kepts paths all)
        ∙ ap (λ (os : List (Option Outline)). os ++ map (option_map outline) (Some its ∷ joined_kepts paths all)) agrees.users
        ∙ ap (λ (os : List (Option Outline)). outlines state.users ++ Some (outline its) ∷ os) (outline_rows paths all)
        ∙ sym (map-append (option_map outline_of) state.users (Some its_user ∷ joined_users paths all));
    attached = subst AreAttached (sym users) (attached_made old.users paths all id rows first refl);
    entries = subst (EntriesLead held) (sym users) entries_made;
    each = λ p k user made' made''. subst (λ (us : List (Option LoadedUser)). Agreeing us p k user) (sym users)
        (each_agrees p k user (lies old.users (Some its) (joined_kepts paths all) p (Some k) (ap (λ (us : List (Option LoadedUser)). slice_get us p) (sym users) ∙ made'))
        (lies state.users (Some its_user) (joined_users paths all) p (Some user) made''));
  }
