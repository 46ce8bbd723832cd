-- A load is the machine's step.
use Rattle.std.proofs.Common.{◌≡◌, ℕ, true, ◌+◌, ◌≤◌, List, ◌∷◌, ◌++◌, length, map, Option, Some, None, refl, sym, ap, subst, ◌∙◌, arith}
use Rattle.std.specs.Prelude.{slice_get, option_map, nat_le}
use Rattle.std.proofs.lemmas.Option.{slice_get_within}
use Rattle.std.proofs.lemmas.List.{length-map}
use Rattle.omf_format.specs.File.{Segment}
use Rattle.omf_io.specs.Files.{FileMap}
use Rattle.load_meaning.specs.Pathnames.{paths_of}
use Rattle.iigs_meaning.specs.Puts.{PutsAll}
use Rattle.loader_machine.specs.Rule.{RoomRule}
use Rattle.loader_machine.specs.Heads.{head_of, wants_of}
use Rattle.loader_machine.specs.State.{User, Machine, first_id, max_users, ids_from, outline_of}
use Rattle.loader_machine.specs.Found.{HoldsLoad, Good, Joins, AreJoined}
use Rattle.loader_machine.specs.Commands.{Started, Load}
use Rattle.loader_machine.specs.Refusals.{rows_refusal}
use Rattle.loader_machine.specs.Steps.{PutIn, Begins, Steps, lost_refusal, joined_users}
use Rattle.loader_machine.specs.laws.Words.{started_user, LoadsFound, begun_users}
use Rattle.loader_agrees.specs.Agrees.{Loaded, outline, Agrees, IsSound, Met}
use Rattle.loader_agrees.specs.Acts.{HasBegun}
use Rattle.loader_agrees.specs.laws.Begun.{may_load}
use Rattle.loader_agrees.specs.laws.BegunRows.{agrees_rows}
use Rattle.loader_agrees.specs.laws.Rows.{few_paths, runtime_called, all_reached, runtime_load, rows_held}
use Rattle.loader_agrees.specs.laws.RowUsers.{AreCalled}
use Rattle.loader_agrees.specs.laws.Lists.{get_inside}

-- one user more, and one for each row, may be made
pub may_join : (made rows : ℕ) → made + 1 + rows ≤ max_users → rows_refusal made rows ≡ None
unfolding rows_refusal
may_join made rows few = let test : nat_le (made + 1 + rows) max_users ≡ true = grind arith in rw test refl

module _ (held : FileMap) (old new : Loaded) (state : Machine) (path : List ℕ) (segments : List Segment) (all : List (List Segment)) (id : ℕ) (entry : Option ℕ) (sound : IsSound old.memory old.users)
    (agrees : Agrees held old state) (begun : HasBegun old path segments all id entry new) (holds : HoldsLoad held path segments) (joined : AreJoined held (paths_of segments) (Joins all))
    (none : lost_refusal (map (map head_of) all) segments ≡ None) where
  abbrev its_user : User
  its_user = record (started_user path (map head_of segments) begun.placed.handles) { attached = ids_from (id + 1) (length (paths_of segments)) }

  same_count : length old.users ≡ length state.users
  same_count = sym (length-map old.users (option_map outline)) ∙ ap length agrees.users ∙ length-map state.users (option_map outline_of)

  abbrev next : Machine
  next = record { banks = state.banks; slots = new.memory.slots; users = state.users ++ Some its_user ∷ joined_users (paths_of segments) all }

  called : (j : ℕ) (other : List Segment) → slice_get all j ≡ Some other → AreCalled other
  called j other found =
      let within = slice_get_within all j other found in
      let path' = get_inside (paths_of segments) j (omega (arith, within, begun.long)) in
      let holds = rows_held held (paths_of segments) all joined j path'.0 other (record { path' = path'.1; segments' = found }) in
      runtime_called holds.file other holds.runtime

  agrees_next : Agrees held new next
  agrees_next = agrees_rows held old new state path segments (paths_of segments) all id entry sound agrees begun.placed
      (record { attached = agrees.attached; id_is = begun.id_is; few = few_paths segments; long = begun.long; called = called }) holds
      (λ j p other row. runtime_load held p other (rows_held held (paths_of segments) all joined j p other row))
      (all_reached holds.file segments (map (map head_of) all) holds.loadable none) begun.users

  puts : PutsAll RoomRule state.banks id state.slots (wants_of (map head_of segments)) begun.placed.handles new.memory.slots
  puts = rw (← agrees.banks, ← agrees.slots) (subst (PutsAll RoomRule old.memory.banks id old.memory.slots (wants_of (map head_of segments)) begun.placed.handles) (sym begun.placed.slots) begun.placed.placed.puts)

  id_is : id ≡ first_id + length state.users
  id_is = omega (arith, begun.id_is, same_count)

  begins : Begins RoomRule state state.slots path (first_id + length state.users) segments (begun_users state (paths_of segments) all) (Started id entry) next
  begins = subst (λ (n : ℕ). Begins RoomRule state state.slots path n segments
      (λ (user : User). state.users ++ Some (record user { attached = ids_from (n + 1) (length (paths_of segments)) }) ∷ joined_users (paths_of segments) all) (Started id entry) next) id_is (record {
        put = PutIn begun.placed.handles new.memory.slots;
        is_put = (rw (← agrees.slots) begun.placed.placed.enough, puts);
        lands = (ap (λ (e : Option ℕ). Started id e) begun.placed.entry_is, refl);
      })

  few : length state.users + 1 + length (paths_of segments) ≤ max_users
  few = omega (arith, begun.few, same_count)

  loads : LoadsFound RoomRule held state path (Good segments) (Started id entry) next
  loads = rw (may_join (length state.users) (length (paths_of segments)) few) (Joins all, joined, rw none begins)

  steps : Steps RoomRule held state (Load path) (Started id entry) next
  steps = rw (may_load (length state.users) (omega (arith, few))) (Good segments, holds, loads)

  -- a load is the machine's step
  pub load_met : Met RoomRule held state (Load path) (Started id entry) new
  load_met = (next, steps, agrees_next)
