-- A user still agrees where some of its segments are placed, removed, made active or made idle.
use Rattle.std.proofs.Common.{◌≡◌, ℕ, Bool, true, false, cond, ◌==◌, ◌^◌, ◌<◌, ◌≤◌, List, [], ◌∷◌, length, map, Option, Some, IsSome, refl, sym, ap, subst, ◌∙◌, arith}
use Rattle.std.specs.List.{AllByRecursion}
use Rattle.std.proofs.lemmas.List.{length-map}
use Rattle.omf_format.specs.Header.{is_dynamic, is_skipped}
use Rattle.omf_format.specs.File.{Segment, segment_at}
use Rattle.omf_io.specs.Counts.{IsFront}
use Rattle.omf_io.specs.Files.{FileMap}
use Rattle.load_meaning.specs.declared.table.Target.{Target}
use Rattle.load_meaning.specs.laws.CellLaws.{loadable_has}
use Rattle.load_meaning.specs.LoadTable.{is_table, entry_count, targets_of}
use Rattle.load_meaning.specs.Table.{table_bytes}
use Rattle.load_meaning.specs.Loadable.{IsSoundSegment}
use Rattle.iigs_meaning.specs.declared.handles.Handle.{Handle}
use Rattle.iigs_meaning.specs.Memory.{Memory, bytes_at}
use Rattle.loader_machine.specs.declared.seen.Life.TheVariants.{Running}
use Rattle.loader_machine.specs.Heads.{head_of, is_static}
use Rattle.loader_machine.specs.State.{User, no_pokes, held_at}
use Rattle.loader_machine.specs.Presences.{handle_at, presence_at, there_at, active_at, is_active}
use Rattle.loader_machine.specs.Stands.{Far, AddressSetting, setting_with, place_in, stands}
use Rattle.loader_machine.specs.laws.Words.{entry_for}
use Rattle.loader_machine.specs.laws.StandsLaws.{AreAlike, stands_alike}
use Rattle.loader_machine.specs.Found.{HoldsLoad}
use Rattle.loader_agrees.specs.Agrees.{LoadedUser, outline, outline_of, UserAgrees}
use Rattle.loader_agrees.specs.laws.Words.{AreThere}
use Rattle.loader_agrees.specs.laws.EntryReads.{table_stands, targets_count, number_within}
use Rattle.loader_users.specs.Renewing.{Choice, is_chosen, relinked_entries}
use Rattle.loader_users.proofs.Leads.{Leads, Own, Other}
use Rattle.loader_users.proofs.Renewed.{Follows, renewed_stands}

-- what becomes of a user's segment that is there afterwards
pub data Becomes (a b : AddressSetting) (only : Choice) (address : Option ℕ) (old new : Memory) (kept : LoadedUser) (user user' : User) (number : ℕ) (s : Segment) (h : Handle) : Type 0 where
  -- it stays where it was, with its bytes and pokes
  Stays : is_table s ≡ false → handle_at kept.handles number ≡ Some h → IsSome (there_at (presence_at old.slots kept.handles number)) → b.place number ≡ a.place number
      → (held_at user' number).pokes ≡ (held_at user number).pokes → bytes_at new h.slot ≡ bytes_at old h.slot
      → Becomes a b only address old new kept user user' number s h
  -- it is a table whose entries follow
  Turns : is_table s ≡ true → handle_at kept.handles number ≡ Some h → IsSome (there_at (presence_at old.slots kept.handles number))
      → bytes_at new h.slot ≡ relinked_entries only address (entry_count s.fields.length) (bytes_at old h.slot)
      → Becomes a b only address old new kept user user' number s h
  -- it begins with its content
  Anew : IsFront (stands b (held_at user' number).pokes s) (bytes_at new h.slot) → Becomes a b only address old new kept user user' number s h

-- what a call does to a user: where its segments are afterwards, and what becomes of them. The entries of its tables for the chosen
-- segments follow them.
pub record Turned (old new : Memory) (far now : Far) (id : ℕ) (only : Choice) (address : Option ℕ) (kept kept' : LoadedUser) (user user' : User) (segments : List Segment) : Type 0 where
  pub same : outline kept' ≡ outline_of user'
  pub path : kept'.path ≡ kept.path
  pub heads : kept'.heads ≡ kept.heads
  pub count : length user'.segments ≡ length user.segments
  pub unpoked : (number : ℕ) (s : Segment) → segment_at segments number ≡ Some s → is_table s ≡ true → (held_at user' number).pokes ≡ no_pokes
  pub statics : kept'.life ≡ Running → (number : ℕ) (s : Segment) → segment_at segments number ≡ Some s → is_static (head_of s) ≡ true
      → is_active (presence_at new.slots kept'.handles number) ≡ true
  pub were : AreThere new.slots kept'.handles segments → AreThere old.slots kept.handles segments
  pub places : AreThere new.slots kept'.handles segments → (number : ℕ) (s : Segment) → segment_at segments number ≡ Some s → is_static (head_of s) ≡ true
      → place_in new.slots kept'.handles number ≡ place_in old.slots kept.handles number
  pub chosen : (number : ℕ) (s : Segment) → segment_at segments number ≡ Some s → is_dynamic s.fields.kind ≡ true → is_skipped s.fields.kind ≡ false
      → is_chosen only 1 number ≡ true → active_at (presence_at new.slots kept'.handles number) ≡ address
  pub far_chosen : (file number : ℕ) → 2 ≤ file → is_chosen only file number ≡ true → now file number ≡ address
  pub far_others : (file number : ℕ) → 2 ≤ file → is_chosen only file number ≡ false → now file number ≡ far file number
  pub fits : (number : ℕ) (s : Segment) → segment_at segments number ≡ Some s → is_chosen only 1 number ≡ true → IsSome address → s.fields.length < 2 ^ 32
  pub others : (number : ℕ) (s : Segment) → segment_at segments number ≡ Some s → is_dynamic s.fields.kind ≡ true → is_skipped s.fields.kind ≡ false
      → is_chosen only 1 number ≡ false → active_at (presence_at new.slots kept'.handles number) ≡ active_at (presence_at old.slots kept.handles number)
  pub each : AreThere new.slots kept'.handles segments → (number : ℕ) (s : Segment) (h : Handle) → segment_at segments number ≡ Some s
      → handle_at kept'.handles number ≡ Some h → IsSome (there_at (presence_at new.slots kept'.handles number))
      → Becomes (setting_with far id old.slots kept.handles) (setting_with now id new.slots kept'.handles) only address old new kept user user' number s h

module _ (held : FileMap) (old new : Memory) (far now : Far) (id : ℕ) (only : Choice) (address : Option ℕ) (kept kept' : LoadedUser) (user user' : User) (agrees : UserAgrees held old far id kept user)
    (lead : (number : ℕ) (s : Segment) → segment_at agrees.segments number ≡ Some s → is_table s ≡ true → AllByRecursion (Leads only address agrees.segments) (targets_of s))
    (short : length kept.heads < 2 ^ 16) (turned : Turned old new far now id only address kept kept' user user' agrees.segments) where
  abbrev a : AddressSetting
  a = setting_with far id old.slots kept.handles

  abbrev b : AddressSetting
  b = setting_with now id new.slots kept'.handles

  few : length agrees.segments < 2 ^ 16
  few = omega (arith, short, ap length agrees.heads, length-map agrees.segments head_of)

  sound : (number : ℕ) (s : Segment) → segment_at agrees.segments number ≡ Some s → IsSoundSegment agrees.segments number s
  sound = loadable_has agrees.holds.file agrees.segments agrees.holds.loadable

  follows : (t : Target) → Leads only address agrees.segments t → Follows only address a b t
  follows t (Own is) = record {
    file = omega (arith, is.file');
    segment = omega (arith, few, number_within agrees.segments t.segment is.segment' is.is);
    offset = λ chosen some. let fits = turned.fits t.segment is.segment' is.is (rw (← is.file') chosen) some in omega (arith, fits, is.inside);
    chosen = λ c. rw is.file' (turned.chosen t.segment is.segment' is.is is.dynamic is.kept (rw (← is.file') c));
    others = λ c. rw is.file' (turned.others t.segment is.segment' is.is is.dynamic is.kept (rw (← is.file') c));
  }
  follows t (Other above file segment offset) = record {
    file = file;
    segment = segment;
    offset = λ chosen some. offset chosen some;
    chosen = λ c. one (t.file == 1) (grind arith) (turned.far_chosen t.file t.segment above c);
    others = λ c. two (t.file == 1) (grind arith) (turned.far_others t.file t.segment above c);
  }
    where
      one : (e : Bool) → e ≡ false → now t.file t.segment ≡ address → cond e (active_at (presence_at new.slots kept'.handles t.segment)) (now t.file t.segment) ≡ address
      one true is same = absurd cc
      one false is same = same

      two : (e : Bool) → e ≡ false → now t.file t.segment ≡ far t.file t.segment → cond e (active_at (presence_at new.slots kept'.handles t.segment)) (now t.file t.segment)
          ≡ cond e (active_at (presence_at old.slots kept.handles t.segment)) (far t.file t.segment)
      two true is same = absurd cc
      two false is same = same

  all_follow : (ts : List Target) → AllByRecursion (Leads only address agrees.segments) ts → AllByRecursion (Follows only address a b) ts
  all_follow [] all = tt
  all_follow (t ∷ ts) all = (follows t all.0, all_follow ts all.1)

  begins : AreThere new.slots kept'.handles agrees.segments → (number : ℕ) (s : Segment) (h : Handle) → segment_at agrees.segments number ≡ Some s
      → Becomes a b only address old new kept user user' number s h → IsFront (stands b (held_at user' number).pokes s) (bytes_at new h.slot)
  begins there number s h found (Stays plain handle was place pokes bytes) =
      let before = agrees.begins (turned.were there) number s h found handle was in
      let alike : AreAlike agrees.segments number s a b = record {
        id = refl;
        own = sym place;
        static = λ n t is static. sym (turned.places there n t is static);
        target = λ table n t is dynamic kept''. let clash : true ≡ false = sym table ∙ plain in absurd cc;
        far = λ table file n above. let clash : true ≡ false = sym table ∙ plain in absurd cc;
      } in
      let same = stands_alike agrees.segments number s (sound number s found) a b alike (held_at user number).pokes in
      rw (pokes, ← same, bytes) before
  begins there number s h found (Turns table handle was bytes) =
      let before = agrees.begins (turned.were there) number s h found handle was in
      let before' : IsFront (table_bytes (map (entry_for a) (targets_of s))) (bytes_at old h.slot) =
      subst (λ (l : List ℕ). IsFront l (bytes_at old h.slot)) (table_stands s a table) (rw (← agrees.unpoked number s found table) before) in
      let after = renewed_stands only address a b refl (targets_of s) (bytes_at old h.slot) (all_follow (targets_of s) (lead number s found table)) before' in
      rw (turned.unpoked number s found table, table_stands s b table, bytes, ← targets_count s) after
  begins there number s h found (Anew front) = front

  -- the user agrees still
  pub turned_agrees : UserAgrees held new now id kept' user'
  turned_agrees = record {
    same = turned.same;
    segments = agrees.segments;
    holds = subst (λ (p : List ℕ). HoldsLoad held p agrees.segments) (sym turned.path) agrees.holds;
    heads = turned.heads ∙ agrees.heads;
    count = turned.count ∙ agrees.count;
    unpoked = turned.unpoked;
    statics = turned.statics;
    begins = λ there number s h found handle present. begins there number s h found (turned.each there number s h found handle present);
  }
