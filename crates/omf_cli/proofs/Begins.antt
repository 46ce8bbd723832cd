-- A file that the linker wrote begins, or lacks what lies outside it.
use Rattle.std.proofs.Common.{◌≡◌, inl, inr, ℕ, zero, suc, Bool, true, false, cond, ◌<◌, ◌+◌, ◌-◌, List, [], ◌∷◌, length, map, Option, Some, None, nat_lt, nat_le, Result, Ok, Err, refl, sym, ap, subst, ◌∙◌, arith}
use Rattle.std.specs.Prelude.{slice_get, option_map, option_and_then, ◌||◌}
use Rattle.std.specs.List.{AllByRecursion}
use Rattle.std.specs.Option.{option_map_or}
use Rattle.std.specs.FinMap.{get}
use Rattle.std.proofs.lemmas.Bool.{lt-ltb, leb-true, leb-false}
use Rattle.std.proofs.lemmas.Option.{same_Some, slice_get-map}
use Rattle.omf_format.specs.File.{Segment, IsFile, segment_at}
use Rattle.omf_format.specs.laws.FileLaws.{file_same}
use Rattle.omf_io.specs.Files.{FileMap, max_file}
use Rattle.load_meaning.specs.declared.table.Target.{Target}
use Rattle.load_meaning.specs.Pathnames.{paths_of}
use Rattle.load_meaning.specs.LoadTable.{table_of, targets_of}
use Rattle.load_meaning.specs.Loadable.{IsLoadable}
use Rattle.link_meaning.specs.Member.{Member, RuntimeFile, LinkSetting, setting_in}
use Rattle.link_meaning.specs.Layout.{load_names}
use Rattle.link_meaning.specs.LinkedCells.{targets}
use Rattle.link_meaning.specs.LinkFaults.{LinkInput, HasBytes, AreRuntimes}
use Rattle.link_meaning.specs.LinkWritten.{images, written_file}
use Rattle.link_meaning.specs.EmitFaults.{IsLinkedTo}
use Rattle.link_meaning.specs.LinkLoadable.{NamesNoSkipped, StandFor, IsCalled}
use Rattle.link_meaning.specs.laws.EmitFaultLaws.{linkable_made, linkable_short, linkable_stands_for}
use Rattle.link_meaning.specs.laws.ValueFits.{all_sound}
use Rattle.link_meaning.specs.laws.LinkWrittenLaws.{are_images}
use Rattle.link_meaning.specs.laws.SettingLaws.{of_setting}
use Rattle.link_meaning.specs.laws.WrittenSegments.{are_written_as}
use Rattle.link_meaning.specs.laws.LoadSegmentLaws.{is_read_whole}
use Rattle.link_meaning.specs.laws.LinkLoadableLaws.{only_calls_reach_dynamic, is_loaded}
use Rattle.loader_machine.specs.Rule.{RoomRule}
use Rattle.loader_machine.specs.declared.faults.LoaderFault.{LoaderFault}
use Rattle.loader_machine.specs.declared.faults.LoaderFault.TheVariants as fault
use Rattle.loader_machine.specs.declared.seen.SegmentHead.{SegmentHead}
use Rattle.loader_machine.specs.Heads.{head_of, at_number}
use Rattle.loader_machine.specs.State.{User, Machine, max_users}
use Rattle.loader_machine.specs.Commands.{Load, Started, Refused, Reply}
use Rattle.loader_machine.specs.Refusals.{Refuse, load_refusal, rows_refusal}
use Rattle.loader_machine.specs.Found.{HoldsFile, HoldsLoad, FileFound, Unread, Good, IsFound, Joined, Stops, Joins, AreJoined, joined_after}
use Rattle.loader_machine.specs.laws.Words.{Lands, LoadsJoined, LoadsFound, is_reached}
use Rattle.loader_machine.specs.Steps.{Put, NoSlots, Lacks, PutIn, Begins, Decides, lost_from, lost_in, lost_refusal}
use Rattle.loader_machine.specs.laws.OnceLaws.{found_once, joined_once}
use Rattle.loader_agrees.specs.Agrees.{Loaded, Meets}
use Rattle.sys_loader.specs.declared.answers.Started as answers
use Rattle.sys_loader.specs.Replies.{load_reply}
use Rattle.omf_cli.specs.Loads.{LiesOutside, BeginsOrLacks, HoldsLibraries}
use Rattle.omf_cli.proofs.ReadBack.{HasTable, IsReadBack, read_back}

-- ---- replies

-- a program began, or none did for a reason outside the file
abbrev ReplyBegins : Reply → Type 0
ReplyBegins (Started user entry) = Unit {0}
ReplyBegins (Refused why) = LiesOutside why
ReplyBegins _ = ⊥

begun : (result : Result answers.Started LoaderFault) → ReplyBegins (load_reply result) → BeginsOrLacks result
begun (Ok started) begins' = tt
begun (Err why) outside = outside

refused : (reply : Reply) (why : LoaderFault) → LiesOutside why → reply ≡ Refused why → ReplyBegins reply
refused reply why outside e = subst ReplyBegins (sym e) outside

crowded : (fits : Bool) (why : LoaderFault) → cond fits None (Some fault.TooManyUsers) ≡ Some why → LiesOutside why
crowded true why e = absurd cc
crowded false why e = subst LiesOutside (same_Some fault.TooManyUsers why e) tt

full : (made : ℕ) (why : LoaderFault) → load_refusal made ≡ Some why → LiesOutside why
unfolding load_refusal
full made why e = crowded (nat_lt made max_users) why e

too_many : (made rows : ℕ) (why : LoaderFault) → rows_refusal made rows ≡ Some why → LiesOutside why
unfolding rows_refusal
too_many made rows why e = crowded (nat_le (made + 1 + rows) max_users) why e

-- ---- the files of the rows

-- they are read as they were linked, or one of them is too long to be read
abbrev Joining : List RuntimeFile → Joined → Type 0
Joining runtimes (Stops reads why) = why ≡ fault.CannotRead
Joining runtimes (Joins all) = all ≡ map (λ r. r.segments) runtimes

joining_more : (r : RuntimeFile) (runtimes : List RuntimeFile) (rest : Joined) → Joining runtimes rest → Joining (r ∷ runtimes) (joined_after r.segments rest)
joining_more r runtimes (Stops reads why) is = is
joining_more r runtimes (Joins all) is = ap (λ (l : List (List Segment)). r.segments ∷ l) is

rows_come : (held : FileMap) (files : List (List ℕ × List ℕ)) (runtimes : List RuntimeFile) → AreRuntimes files runtimes → AllByRecursion (λ file. get held file.0 ≡ Some file.1) files
    → (joined : Joined) × AreJoined held (map (λ r. r.path) runtimes) joined × Joining runtimes joined
rows_come held [] [] are there = (Joins [], refl, refl)
rows_come held [] (r ∷ runtimes) are there = absurd are
rows_come held (file ∷ files) [] are there = absurd are
rows_come held (file ∷ files) (r ∷ runtimes) are there = by_size (nat_le (length file.1) max_file) refl (rows_come held files runtimes are.2 there.1)
  where
    here : get held r.path ≡ Some file.1
    here = ap (get held) are.0 ∙ there.0

    by_size : (b : Bool) → nat_le (length file.1) max_file ≡ b → (joined : Joined) × AreJoined held (map (λ r. r.path) runtimes) joined × Joining runtimes joined
        → (joined : Joined) × AreJoined held (map (λ r. r.path) (r ∷ runtimes)) joined × Joining (r ∷ runtimes) joined
    by_size true e rest = (
      joined_after r.segments rest.0,
      (Good r.segments, record { file = file.1; is_held = (here, leb-true (length file.1) max_file e); runtime = are.1 }, (rest.0, rest.1, refl)),
      joining_more r runtimes rest.0 rest.2,
    )
    by_size false e rest = (Stops 1 fault.CannotRead, (Unread, long, refl), refl)
      where
        long : (other : List ℕ) → ¬ HoldsFile held r.path other
        long other is =
            let same : file.1 ≡ other = same_Some file.1 other (sym here ∙ is.0) in
            omega (arith, leb-false (length file.1) max_file e, ap length same, is.1)

-- ---- the entries of the table

abbrev heads_in : List RuntimeFile → List (List SegmentHead)
heads_in runtimes = map (map head_of) (map (λ r. r.segments) runtimes)

-- an offset below LENGTH of a segment
inside_segment : (segments : List Segment) (number offset : ℕ) → offset < option_map_or (λ s. s.fields.length) (segment_at segments number) 0
    → option_map_or (λ head. nat_lt offset head.length) (at_number (map head_of segments) number) false ≡ true
inside_segment segments zero offset below = absurd (omega (arith, below))
inside_segment segments (suc k) offset below =
    ap (λ (o : Option SegmentHead). option_map_or (λ (head : SegmentHead). nat_lt offset head.length) o false) (slice_get-map head_of segments k) ∙ by_segment (slice_get segments k) below
  where
    by_segment : (o : Option Segment) → offset < option_map_or (λ s. s.fields.length) o 0 → option_map_or (λ (head : SegmentHead). nat_lt offset head.length) (option_map head_of o) false ≡ true
    by_segment None below' = absurd (omega (arith, below'))
    by_segment (Some s) below' = lt-ltb offset s.fields.length below'

-- and of one of a run-time library file
inside_file : (runtimes : List RuntimeFile) (place number offset : ℕ)
    → offset < option_map_or (λ s. s.fields.length) (option_and_then (λ r. segment_at r.segments number) (slice_get runtimes place)) 0
    → option_map_or (λ heads. option_map_or (λ head. nat_lt offset head.length) (at_number heads number) false) (slice_get (heads_in runtimes) place) false ≡ true
inside_file [] place number offset below = absurd (omega (arith, below))
inside_file (r ∷ runtimes) zero number offset below = inside_segment r.segments number offset below
inside_file (r ∷ runtimes) (suc place) number offset below = inside_file runtimes place number offset below

-- what the linker calls is reached
reached : (list : List Member) (t : Target) → IsCalled list t → is_reached (heads_in (setting_in list).runtimes) t ≡ true
reached list t (form, inl here) = ap (λ (file : ℕ). is_reached (heads_in (setting_in list).runtimes) (record t { file = file })) here.file'
reached list t (form, inr there) = ap (λ (b : Bool). nat_le t.file 1 || b) (inside_file (setting_in list).runtimes (t.file - 2) t.segment t.offset there.inside) ∙ either (nat_le t.file 1)
  where
    either : (b : Bool) → (b || true) ≡ true
    either true = refl
    either false = refl

none_lost : (list : List Member) (k : ℕ) (ts : List Target) → AllByRecursion (IsCalled list) ts → lost_from (heads_in (setting_in list).runtimes) k ts ≡ None
none_lost list k [] called = refl
none_lost list k (t ∷ ts) called =
    ap (λ (b : Bool). cond b (lost_from (heads_in (setting_in list).runtimes) (k + 1) ts) (Some k)) (reached list t called.0) ∙ none_lost list (k + 1) ts called.1

none_in : (attached : List (List SegmentHead)) (segments : List Segment) (number : ℕ) (s : Segment) → segment_at segments number ≡ Some s → lost_from attached 0 (targets_of s) ≡ None
    → lost_in attached segments number ≡ None
none_in attached segments number s there none = rw there (rw none refl)

-- ---- a load

module _ (given : LinkInput) (output : List ℕ) (bytes : HasBytes given) (is : IsLinkedTo given output) (none : NamesNoSkipped is.list is.table)
    (held : FileMap) (path : List ℕ) (here : get held path ≡ Some output) (libraries : HoldsLibraries held given) (state : Machine) where
  loaded : (segments : List Segment) × IsLoadable output segments × StandFor is.list is.table segments
  loaded = is_loaded given output bytes is none

  called : AllByRecursion (IsCalled is.list) (targets is.list is.table)
  called = (only_calls_reach_dynamic given is.list is.table bytes is.linkable).1

  back : IsReadBack given is.list is.table bytes is.linkable loaded.0
  unfolding written_file
  back =
      let made = linkable_stands_for given is.list is.table bytes is.linkable in
      let emitted = is.linkable.emitted in
      let same : made.0 ≡ loaded.0 = file_same made.0 loaded.0 output (subst (IsFile made.0) (sym is.is_written) made.1) loaded.1.is_file in
      let are = are_images given is.list is.table bytes is.linkable.resolved (all_sound given is.list is.table bytes is.linkable.resolved emitted.valued) (linkable_made is.list is.table emitted) (linkable_short is.list is.table emitted) in
      subst (IsReadBack given is.list is.table bytes is.linkable) same
      (read_back given is.list is.table bytes is.linkable made.0 called (are_written_as (images is.list is.table) made.0 made.1 are.1 made.2))

  -- no entry leads nowhere
  no_lost : lost_refusal (heads_in (setting_in is.list).runtimes) loaded.0 ≡ None
  unfolding lost_refusal
  no_lost = by_table back.table'
    where
      by_table : HasTable (length (load_names is.list)) (targets is.list is.table) loaded.0
          → option_map fault.BadFile (option_and_then (lost_in (heads_in (setting_in is.list).runtimes) loaded.0) (table_of loaded.0)) ≡ None
      by_table (inl no_table) = rw no_table refl
      by_table (inr (s, there, number, leads)) =
          let entries : lost_from (heads_in (setting_in is.list).runtimes) 0 (targets_of s) ≡ None = ap (lost_from (heads_in (setting_in is.list).runtimes) 0) leads ∙ none_lost is.list 0 (targets is.list is.table) called in
          let rest = none_in (heads_in (setting_in is.list).runtimes) loaded.0 (suc (length (load_names is.list))) s there entries in
          rw number (rw rest refl)

  module _ (reply : Reply) (next : Machine) where
    lands : (put : Put) (id : ℕ) (heads : List SegmentHead) (users : User → List (Option User)) → Lands state path id heads users put reply next → ReplyBegins reply
    lands NoSlots id heads users at = refused reply fault.NoHandle tt at.0
    lands (Lacks i) id heads users at = refused reply (fault.NoRoom _) tt at.0
    lands (PutIn handles slots) id heads users at = subst ReplyBegins (sym at.0) tt

    -- by the result of reading the rows
    joins : (joined : Joined) → Joining (setting_in is.list).runtimes joined → LoadsJoined RoomRule state path loaded.0 joined reply next → ReplyBegins reply
    joins (Stops reads why) comes at = refused reply fault.CannotRead tt (at.0 ∙ ap (λ (w : LoaderFault). Refused w) comes)
    joins (Joins all) comes at = by_entries _ _ (lost_refusal (map (map head_of) all) loaded.0) (ap (λ (l : List (List Segment)). lost_refusal (map (map head_of) l) loaded.0) comes ∙ no_lost) at
      where
        by_entries : (id : ℕ) (users : User → List (Option User)) (r : Refuse) → r ≡ None → Decides r state reply next (Begins RoomRule state state.slots path id loaded.0 users reply next) → ReplyBegins reply
        by_entries id users None e begins' = lands begins'.put id (map head_of loaded.0) users begins'.lands
        by_entries id users (Some why) e begins' = absurd cc

    rows : (r : Refuse) → rows_refusal (length state.users) (length (paths_of loaded.0)) ≡ r
        → Decides r state reply next ((joined : Joined) × AreJoined held (paths_of loaded.0) joined × LoadsJoined RoomRule state path loaded.0 joined reply next) → ReplyBegins reply
    rows (Some why) e at = refused reply why (too_many (length state.users) (length (paths_of loaded.0)) why e) at.0
    rows None e at =
        let program = is.linkable.resolved.program in
        let come = of_setting given is.list program (λ (s : LinkSetting). (joined : Joined) × AreJoined held (map (λ r. r.path) s.runtimes) joined × Joining s.runtimes joined)
        (rows_come held [] [] tt tt) (rows_come held given.runtimes program.setting.runtimes program.is_setting.runtimes' libraries) in
        let same : come.0 ≡ at.0 = joined_once held (paths_of loaded.0) come.0 at.0 (subst (λ (paths : List (List ℕ)). AreJoined held paths come.0) (sym back.paths) come.1) at.1 in
        joins at.0 (subst (Joining (setting_in is.list).runtimes) same come.2) at.2

    found : (f : FileFound) → IsFound held path f → LoadsFound RoomRule held state path f reply next → ReplyBegins reply
    found f is_found at =
        let good : HoldsLoad held path loaded.0 = record { file = output; is_held = (here, is_read_whole given output is); loadable = loaded.1 } in
        rows (rows_refusal (length state.users) (length (paths_of loaded.0))) refl
        (subst (λ (g : FileFound). LoadsFound RoomRule held state path g reply next) (found_once held path f (Good loaded.0) is_found good) at)

    steps : (r : Refuse) → load_refusal (length state.users) ≡ r
        → Decides r state reply next ((f : FileFound) × IsFound held path f × LoadsFound RoomRule held state path f reply next) → ReplyBegins reply
    steps None e at = found at.0 at.1 at.2
    steps (Some why) e at = refused reply why (full (length state.users) why e) at.0

  pub begins : (result : Result answers.Started LoaderFault) (new : Loaded) (before now : ℕ) → Meets RoomRule held state (Load path) (load_reply result) new before now → BeginsOrLacks result
  begins result new before now met = begun result (by_case met)
    where
      by_case : Meets RoomRule held state (Load path) (load_reply result) new before now → ReplyBegins (load_reply result)
      by_case (inl is') = steps (load_reply result) is'.0.0 (load_refusal (length state.users)) refl is'.0.1
      by_case (inr (inl cannot)) = refused (load_reply result) fault.CannotRead tt cannot.0
      by_case (inr (inr memory)) = refused (load_reply result) fault.Memory tt memory.0
