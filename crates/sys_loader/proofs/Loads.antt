-- A load is the machine's step, and reads the files that this needs.
use Rattle.std.proofs.Common.{◌≡◌, inl, inr, ◌⊎◌, ℕ, true, false, ◌+◌, ◌<◌, ◌≤◌, List, [], ◌∷◌, length, map, Option, Some, None, nat_lt, Result, Ok, Err, refl, sym, ap, subst, ◌∙◌, arith}
use Rattle.std.specs.Prelude.{IsSomeAnd, nat_le}
use Rattle.std.specs.Option.{option_map}
use Rattle.std.specs.FinMap.{get}
use Rattle.std.proofs.lemmas.List.{length-map}
use Rattle.std.proofs.lemmas.Bool.Decides.{nat_tests}
use Rattle.omf_format.specs.File.{Segment}
use Rattle.omf_io.specs.Counts.{one_more, saturating_sum}
use Rattle.omf_io.specs.Files.{FileMap, StoreSeen, IsUnread, max_file}
use Rattle.load_meaning.specs.Pathnames.{paths_of}
use Rattle.iigs_meaning.specs.declared.faults.PlaceFault.{PlaceFault}
use Rattle.iigs_meaning.specs.declared.faults.PlaceFault.TheVariants as place
use Rattle.iigs_meaning.specs.Fits.{Slots}
use Rattle.iigs_meaning.specs.Puts.{IsPlaceAllRefusal}
use Rattle.loader_machine.specs.Rule.{RoomRule}
use Rattle.loader_machine.specs.declared.faults.LoaderFault.{LoaderFault}
use Rattle.loader_machine.specs.declared.faults.LoaderFault.TheVariants as fault
use Rattle.loader_machine.specs.Heads.{head_of, wants_of}
use Rattle.loader_machine.specs.State.{Machine, User, first_id, max_users}
use Rattle.loader_machine.specs.Found.{HoldsFile, HoldsLoad, HoldsFault, FileFound, Unread, Bad, Good, IsFound, Joined, Stops, Joins, AreJoined, joined_after}
use Rattle.loader_machine.specs.laws.Words.{reads_of, LoadsFound, LoadsJoined, begun_users, rows_of}
use Rattle.loader_machine.specs.Commands.{Reply, Command, Load, Refused}
use Rattle.loader_machine.specs.Refusals.{load_refusal, rows_refusal}
use Rattle.loader_machine.specs.Steps.{NoSlots, Lacks, Begins, Steps}
use Rattle.loader_machine.specs.Needs.{Needs, NeedsAfter}
use Rattle.loader_agrees.specs.Agrees.{Loaded, outline, outline_of, IsSound, Agrees, Meets, ReadsNeeded, MeetsReads}
use Rattle.loader_agrees.specs.laws.Begun.{may_load}
use Rattle.loader_agrees.specs.laws.BegunMet.{load_met}
use Rattle.loader_agrees.specs.laws.Rows.{few_paths}
use Rattle.sys_loader.specs.declared.answers.Started.{Started}
use Rattle.sys_loader.specs.Replies.{load_reply}
use Rattle.sys_loader.specs.Calls.{IsBeginRefusal, AreRowsRead, IsFileRead, HasStarted, IsRowsRefusal, IsCrowded, RowStops, IsLost, CantBegin, RowsLackMemory, IsLoadRefusal, IsFull, CantRead, LacksMemory, IsBad, CantStart, HasLoaded}

cant_load : (made : ℕ) → max_users ≤ made → load_refusal made ≡ Some fault.TooManyUsers
unfolding load_refusal
cant_load made full = let t : nat_lt made max_users ≡ false = grind (arith, nat_tests) in rw t refl

-- one user more, and one for each row, may be made, or may not
can_join : (made rows : ℕ) → made + 1 + rows ≤ max_users → rows_refusal made rows ≡ None
unfolding rows_refusal
can_join made rows few = let test : nat_le (made + 1 + rows) max_users ≡ true = grind arith in rw test refl

cant_join : (made rows : ℕ) → max_users < made + 1 + rows → rows_refusal made rows ≡ Some fault.TooManyUsers
unfolding rows_refusal
cant_join made rows full = let test : nat_le (made + 1 + rows) max_users ≡ false = grind (arith, nat_tests) in rw test refl

-- a call that reads so much is the machine's step
pub meets_of : (held : FileMap) (state : Machine) (command : Command) (reply : Reply) (new : Loaded) (before now : StoreSeen) → MeetsReads RoomRule held state command reply new before now
    → Meets RoomRule held state command reply new before.faults now.faults
meets_of held state command reply new before now (inl (met, same, needed)) = inl (met, same)
meets_of held state command reply new before now (inr (inl (is, paths, needs, some, agrees, rose, needed))) = inr (inl (is, paths, needs, some, agrees, rose))
meets_of held state command reply new before now (inr (inr (is, agrees, same, needed))) = inr (inr (is, agrees, same))

absent : (held : FileMap) (path file : List ℕ) → get held path ≡ None → HoldsFile held path file → ⊥
absent held path file none holds = let clash : None ≡ Some file = sym none ∙ holds.0 in absurd cc

too_long : (held : FileMap) (path file : List ℕ) → IsSomeAnd (get held path) (λ bytes. max_file < length bytes) → HoldsFile held path file → ⊥
too_long held path file long holds = let more : max_file < length file = rw holds.0 at long in omega (arith, more, holds.1)

-- the outcome of reading the files of rows, where files are revealed: what the machine says; or the last couldn't be read
RowsReported : FileMap → List (List ℕ) → ℕ → ℕ → Joined → Type 0
RowsReported held paths before now joined = (AreJoined held paths joined × (now ≡ before))
    ⊎ ((reads : ℕ) × (joined ≡ Stops reads fault.CannotRead) × (now ≡ one_more before) × (reads ≤ length paths))

rows_reported : (held : FileMap) (paths : List (List ℕ)) (before now : ℕ) (joined : Joined) → AreRowsRead (Some held) paths before now joined → RowsReported held paths before now joined
unfolding RowsReported
rows_reported held [] before now joined (is, same) = inl (is, same)
rows_reported held (path ∷ paths) before now joined (inl (inl none, is)) = inl ((Unread, (λ file holds. absent held path file none.0 holds), is), none.1)
rows_reported held (path ∷ paths) before now joined (inl (inr (inl long), is)) = inl ((Unread, (λ file holds. too_long held path file long.0 holds), is), long.1)
rows_reported held (path ∷ paths) before now joined (inl (inr (inr rose), is)) = inr (1, is, rose, omega arith)
rows_reported held (path ∷ paths) before now joined (inr (file, is_read, inl (bad, first, is, same))) =
    inl ((Bad bad, record { file = file; is_held = (is_read.1, is_read.0); first = first }, is), same)
rows_reported held (path ∷ paths) before now joined (inr (file, is_read, inr (segments, runtime, rest, rows, is))) = elim (rows_reported held paths before now rest rows) [
  | inl (joins, same) ↦ inl ((Good segments, record { file = file; is_held = (is_read.1, is_read.0); runtime = runtime }, (rest, joins, is)), same)
  | inr (reads, stops, rose, few) ↦ inr (reads + 1, is ∙ ap (joined_after segments) stops, rose, omega (arith, few))
]

-- where all are read
rows_all : (held : FileMap) (paths : List (List ℕ)) (before now : ℕ) (all : List (List Segment)) → RowsReported held paths before now (Joins all) → AreJoined held paths (Joins all) × (now ≡ before)
unfolding RowsReported
rows_all held paths before now all (inl joins) = joins
rows_all held paths before now all (inr (reads, stops, rose, few)) = absurd cc

module _ (held : FileMap) (old : Loaded) (state : Machine) (path : List ℕ) (agrees : Agrees held old state) (before now : StoreSeen) where
  same_count : length old.users ≡ length state.users
  same_count = sym (length-map old.users (option_map outline)) ∙ ap length agrees.users ∙ length-map state.users (option_map outline_of)

  may : length old.users < max_users → load_refusal (length state.users) ≡ None
  may few = may_load (length state.users) (omega (arith, few, same_count))

  -- ---- the reads

  first : length old.users < max_users → Needs held state (Load path) (path ∷ [])
  first few = rw (may few) refl

  needed : length old.users < max_users → (rows : List (List ℕ)) (following : ℕ) → NeedsAfter held state (Load path) rows following → (reads : ℕ) → reads ≡ 1 + following → now.asked ≡ saturating_sum reads before.asked
      → ReadsNeeded held state (Load path) 0 before.asked now.asked
  needed few rows following needs reads is count = (reads, (path ∷ [], first few, inl (refl, rows, following, needs, is)), count)

  some_needed : length old.users < max_users → (reads : ℕ) → 1 ≤ reads → reads ≤ 17 → now.asked ≡ saturating_sum reads before.asked → ReadsNeeded held state (Load path) 1 before.asked now.asked
  some_needed few reads one most count = (reads, (path ∷ [], first few, inr (omega (arith, one), omega (arith, most), omega arith)), count)

  -- the file is found, and no row after it
  found_needed : length old.users < max_users → (found : FileFound) → IsFound held path found → rows_of state found ≡ [] → (reads : ℕ) → reads ≡ 1 → now.asked ≡ saturating_sum reads before.asked
      → ReadsNeeded held state (Load path) 0 before.asked now.asked
  found_needed few found is none reads one count = needed few [] 0 (inl (may few, found, is, sym none, Joins [], refl, refl)) reads (omega (arith, one)) count

  -- the rows of a file
  rows_needed : length old.users < max_users → (segments : List Segment) → HoldsLoad held path segments → length old.users + 1 + length (paths_of segments) ≤ max_users → (joined : Joined)
      → AreJoined held (paths_of segments) joined → (reads : ℕ) → reads ≡ 1 + reads_of joined → now.asked ≡ saturating_sum reads before.asked → ReadsNeeded held state (Load path) 0 before.asked now.asked
  rows_needed few segments holds fit joined are reads is count =
      let joins = can_join (length state.users) (length (paths_of segments)) (omega (arith, fit, same_count)) in
      needed few (paths_of segments) (reads_of joined) (inl (may few, Good segments, holds, rw joins refl, joined, are, refl)) reads is count

  -- ---- refusals

  refused : (why : LoaderFault) → Steps RoomRule held state (Load path) (Refused why) state → now.faults ≡ before.faults → ReadsNeeded held state (Load path) 0 before.asked now.asked
      → MeetsReads RoomRule held state (Load path) (Refused why) old before now
  refused why steps same reads = inl ((state, steps, agrees), same, reads)

  lacks : length old.users < max_users → (reads : ℕ) → 1 ≤ reads → reads ≤ 17 → now.faults ≡ before.faults → now.asked ≡ saturating_sum reads before.asked → MeetsReads RoomRule held state (Load path) (Refused fault.Memory) old before now
  lacks few reads one most same count = inr (inr (refl, agrees, same, some_needed few reads one most count))

  unread : length old.users < max_users → (reads : ℕ) → 1 ≤ reads → reads ≤ 17 → now.faults ≡ one_more before.faults → now.asked ≡ saturating_sum reads before.asked
      → MeetsReads RoomRule held state (Load path) (Refused fault.CannotRead) old before now
  unread few reads one most rose count = inr (inl (refl, path ∷ [], first few, (λ none. absurd cc), agrees, rose, some_needed few reads one most count))

  not_found : length old.users < max_users → ((file : List ℕ) → ¬ HoldsFile held path file) → now.faults ≡ before.faults → (reads : ℕ) → reads ≡ 1 → now.asked ≡ saturating_sum reads before.asked
      → MeetsReads RoomRule held state (Load path) (Refused fault.CannotRead) old before now
  not_found few none same reads one count = refused fault.CannotRead (rw (may few) (Unread, none, (refl, refl))) same (found_needed few Unread none refl reads one count)

  cant_read : length old.users < max_users → IsUnread (Some held) path before.faults now.faults → (reads : ℕ) → reads ≡ 1 → now.asked ≡ saturating_sum reads before.asked
      → MeetsReads RoomRule held state (Load path) (Refused fault.CannotRead) old before now
  cant_read few (inl none) reads one count = not_found few (λ file holds. absent held path file none.0 holds) none.1 reads one count
  cant_read few (inr (inl long)) reads one count = not_found few (λ file holds. too_long held path file long.0 holds) long.1 reads one count
  cant_read few (inr (inr rose)) reads one count = unread few reads (omega (arith, one)) (omega (arith, one)) rose count

  begins : (segments : List Segment) (why : LoaderFault) (users : User → List (Option User)) → IsBeginRefusal old.memory (first_id + length old.users) (map head_of segments) why
      → Begins RoomRule state state.slots path (first_id + length state.users) segments users (Refused why) state
  begins segments why users is = subst (λ (n : ℕ). Begins RoomRule state state.slots path (first_id + n) segments users (Refused why) state) same_count (go is)
    where
      moved : (f : PlaceFault) → IsPlaceAllRefusal RoomRule old.memory.banks (first_id + length old.users) old.memory.slots (wants_of (map head_of segments)) f
          → IsPlaceAllRefusal RoomRule state.banks (first_id + length old.users) state.slots (wants_of (map head_of segments)) f
      moved f p =
          subst (λ (slots : Slots). IsPlaceAllRefusal RoomRule state.banks (first_id + length old.users) slots (wants_of (map head_of segments)) f) agrees.slots
          (subst (λ (banks : List ℕ). IsPlaceAllRefusal RoomRule banks (first_id + length old.users) old.memory.slots (wants_of (map head_of segments)) f) agrees.banks p)

      go : IsBeginRefusal old.memory (first_id + length old.users) (map head_of segments) why → Begins RoomRule state state.slots path (first_id + length old.users) segments users (Refused why) state
      go (inl slots) = record { put = NoSlots; is_put = moved place.NoHandle slots.1; lands = (ap (λ (f : LoaderFault). Refused f) slots.0, refl) }
      go (inr room) = record { put = Lacks room.0; is_put = moved (place.NoRoom room.0) room.2; lands = (ap (λ (f : LoaderFault). Refused f) room.1, refl) }

  -- ---- a file that was read

  module _ (segments : List Segment) (is : IsFileRead (Some held) old path segments) (reads rows : ℕ) (sum : reads ≡ 1 + rows) (count : now.asked ≡ saturating_sum reads before.asked) where
    holds : HoldsLoad held path segments
    holds = record { file = is.file; is_held = (is.is_read.1, is.is_read.0); loadable = is.loadable }

    -- its rows are read
    joining : (joined : Joined) (reply : Reply) (next : Machine) → length old.users + 1 + length (paths_of segments) ≤ max_users → AreJoined held (paths_of segments) joined
        → LoadsJoined RoomRule state path segments joined reply next → Steps RoomRule held state (Load path) reply next
    joining joined reply next fit are does =
        let joins = can_join (length state.users) (length (paths_of segments)) (omega (arith, fit, same_count)) in
        let found : LoadsFound RoomRule held state path (Good segments) reply next = rw joins (joined, are, does) in
        rw (may is.few) (Good segments, holds, found)

    stops : (why : LoaderFault) → length old.users + 1 + length (paths_of segments) ≤ max_users → RowsReported held (paths_of segments) before.faults now.faults (Stops rows why)
        → MeetsReads RoomRule held state (Load path) (Refused why) old before now
    unfolding RowsReported
    stops why fit (inl (are, same)) =
        refused why (joining (Stops rows why) (Refused why) state fit are (refl, refl)) same (rows_needed is.few segments holds fit (Stops rows why) are reads sum count)
    stops why fit (inr (last, e, rose, few)) =
        let rows_are : rows ≡ last = cc in
        let why_is : fault.CannotRead ≡ why = cc in
        subst (λ (f : LoaderFault). MeetsReads RoomRule held state (Load path) (Refused f) old before now) why_is
        (unread is.few reads (omega (arith, sum)) (omega (arith, sum, rows_are, few, few_paths segments)) rose count)

    joined : (all : List (List Segment)) (why : LoaderFault) → rows ≡ length all → length old.users + 1 + length (paths_of segments) ≤ max_users
        → AreRowsRead (Some held) (paths_of segments) before.faults now.faults (Joins all) → LoadsJoined RoomRule state path segments (Joins all) (Refused why) state
        → MeetsReads RoomRule held state (Load path) (Refused why) old before now
    joined all why many fit read does =
        let are = rows_all held (paths_of segments) before.faults now.faults all (rows_reported held (paths_of segments) before.faults now.faults (Joins all) read) in
        refused why (joining (Joins all) (Refused why) state fit are.0 does) are.1 (rows_needed is.few segments holds fit (Joins all) are.0 reads (omega (arith, sum, many)) count)

    rows_refused : (why : LoaderFault) → IsRowsRefusal (Some held) old segments before.faults now.faults rows why → MeetsReads RoomRule held state (Load path) (Refused why) old before now
    rows_refused why (IsCrowded full why_is same none) =
        let cant = cant_join (length state.users) (length (paths_of segments)) (omega (arith, full, same_count)) in
        let found : LoadsFound RoomRule held state path (Good segments) (Refused fault.TooManyUsers) state = rw cant (refl, refl) in
        subst (λ (f : LoaderFault). MeetsReads RoomRule held state (Load path) (Refused f) old before now) (sym why_is)
        (refused fault.TooManyUsers (rw (may is.few) (Good segments, holds, found)) same (found_needed is.few (Good segments) holds (rw cant refl) reads (omega (arith, sum, none)) count))
    rows_refused why (RowStops fit read) = stops why fit (rows_reported held (paths_of segments) before.faults now.faults (Stops rows why) read)
    rows_refused why (IsLost fit all read lost many) = joined all why many fit read (rw lost (refl, refl))
    rows_refused why (CantBegin fit all read none cant many) = joined all why many fit read (rw none (begins segments why (begun_users state (paths_of segments) all) cant))
    rows_refused why (RowsLackMemory why_is same few) =
        subst (λ (f : LoaderFault). MeetsReads RoomRule held state (Load path) (Refused f) old before now) (sym why_is) (lacks is.few reads (omega (arith, sum)) (omega (arith, sum, few)) same count)

    started : (user : ℕ) (entry : Option ℕ) (new : Loaded) → IsSound old.memory old.users → HasStarted (Some held) old path segments (record { user = user; entry = entry }) new before.faults now.faults rows
        → MeetsReads RoomRule held state (Load path) (load_reply (Ok (record { user = user; entry = entry }))) new before now
    started user entry new sound has =
        let are = rows_all held (paths_of segments) before.faults now.faults has.all (rows_reported held (paths_of segments) before.faults now.faults (Joins has.all) has.read) in
        inl (
          load_met held old new state path segments has.all user entry sound agrees has.begun holds are.0 has.none,
          are.1,
          rows_needed is.few segments holds has.begun.few (Joins has.all) are.0 reads (omega (arith, sum, has.rows')) count,
        )

  refuses : (why : LoaderFault) (reads : ℕ) → now.asked ≡ saturating_sum reads before.asked → IsLoadRefusal (Some held) old path before.faults now.faults reads why
      → MeetsReads RoomRule held state (Load path) (Refused why) old before now
  refuses why reads count (IsFull full why_is same none) =
      let cant = cant_load (length state.users) (omega (arith, full, same_count)) in
      let needs : Needs held state (Load path) [] = rw cant refl in
      let following : NeedsAfter held state (Load path) [] 0 = inr ((λ can. let clash : Some fault.TooManyUsers ≡ None = sym cant ∙ can in absurd cc), refl, refl) in
      subst (λ (f : LoaderFault). MeetsReads RoomRule held state (Load path) (Refused f) old before now) (sym why_is)
      (refused fault.TooManyUsers (rw cant (refl, refl)) same (reads, ([], needs, inl (refl, [], 0, following, omega (arith, none))), count))
  refuses why reads count (CantRead few none why_is one) =
      subst (λ (f : LoaderFault). MeetsReads RoomRule held state (Load path) (Refused f) old before now) (sym why_is) (cant_read few none reads one count)
  refuses why reads count (LacksMemory few why_is same one) =
      subst (λ (f : LoaderFault). MeetsReads RoomRule held state (Load path) (Refused f) old before now) (sym why_is) (lacks few reads (omega (arith, one)) (omega (arith, one)) same count)
  refuses why reads count (IsBad few file is_read bad first' why_is same one) =
      let holds' : HoldsFault held path bad = record { file = file; is_held = (is_read.1, is_read.0); first = first' } in
      subst (λ (f : LoaderFault). MeetsReads RoomRule held state (Load path) (Refused f) old before now) (sym why_is)
      (refused (fault.BadFile bad) (rw (may few) (Bad bad, holds', (refl, refl))) same (found_needed few (Bad bad) holds' refl reads one count))
  refuses why reads count (CantStart segments is rows cant sum) = rows_refused segments is reads rows sum count why cant

pub loads : (store : Option FileMap) (held : FileMap) (old new : Loaded) (state : Machine) (path : List ℕ) (result : Result Started LoaderFault) (before now : StoreSeen) → store ≡ Some held → IsSound old.memory old.users
    → (reads : ℕ) × HasLoaded store old path result new before.faults now.faults reads × (now.asked ≡ saturating_sum reads before.asked) → Agrees held old state
    → MeetsReads RoomRule held state (Load path) (load_reply result) new before now
loads store held old new state path result before now reported sound (reads, loaded, count) agrees = go result (subst (λ (s : Option FileMap). HasLoaded s old path result new before.faults now.faults reads) reported loaded)
  where
    go : (r : Result Started LoaderFault) → HasLoaded (Some held) old path r new before.faults now.faults reads → MeetsReads RoomRule held state (Load path) (load_reply r) new before now
    go (Ok begun) (segments, is, rows, has, sum) = started held old state path agrees before now segments is reads rows sum count begun.user begun.entry new sound has
    go (Err why) (refusal, same) = subst (λ (l : Loaded). MeetsReads RoomRule held state (Load path) (Refused why) l before now) (sym same) (refuses held old state path agrees before now why reads count refusal)
