-- Over stores whose files have the same sights, a command has the same next states and replies that are alike.
use Rattle.std.proofs.Common.{◌≡◌, ℕ, zero, suc, ◌+◌, ◌<◌, Bool, true, false, cond, List, [], ◌∷◌, ◌++◌, length, map, take, drop, Option, Some, None, refl, sym, ap, subst, ◌∙◌, arith, inl, inr}
use Rattle.std.specs.Prelude.{slice_get, option_map}
use Rattle.std.specs.Option.{option_and_then}
use Rattle.std.proofs.lemmas.Bool.{cases_Bool}
use Rattle.std.proofs.lemmas.List.{length-map}
use Rattle.std.proofs.lemmas.Option.{slice_get-map, same_Some}
use Rattle.omf_format.specs.File.{Segment, segment_at}
use Rattle.omf_io.specs.Files.{FileMap}
use Rattle.load_meaning.specs.Cells.{byte_of}
use Rattle.load_meaning.specs.declared.load.LoadCause.TheVariants as cause
use Rattle.load_meaning.specs.declared.load.LoadFault.{LoadFault}
use Rattle.load_meaning.specs.declared.table.Target.{Target}
use Rattle.load_meaning.specs.Table.{entry_start}
use Rattle.load_meaning.specs.Pathnames.{paths_of}
use Rattle.load_meaning.specs.LoadTable.{targets_of, table_from, table_of}
use Rattle.iigs_meaning.specs.Fits.{Slots}
use Rattle.iigs_meaning.specs.Puts.{MakesRoom, without_user}
use Rattle.loader_machine.specs.Rule.{RoomRule}
use Rattle.loader_machine.specs.Heads.{head_of, is_table, want_of, wants_of}
use Rattle.loader_machine.specs.declared.seen.SegmentHead.{SegmentHead}
use Rattle.loader_machine.specs.declared.faults.LoaderFault.{LoaderFault}
use Rattle.loader_machine.specs.declared.faults.LoaderFault.TheVariants.{CannotRead, BadFile}
use Rattle.loader_machine.specs.State.{User, Machine, UserSeen, Pokes, first_id, handles_of, held_at, outlines, is_attached, ids_from}
use Rattle.loader_machine.specs.Presences.{presence_at}
use Rattle.loader_machine.specs.Stands.{AddressSetting, stands}
use Rattle.loader_machine.specs.laws.Words.{entries_bytes, read_bytes, with_pokes, IsRowFound, JoinsFound, reads_of, IsPut, Lands, joined_user, begun_users, LoadsJoined, LoadsFound, Activates, EntersEntry, EntersSegment, Enters, RestartsInPlace, again_users, restart_reads, rows_if, rows_of, setting_in}
use Rattle.loader_machine.specs.Found.{FileFound, Unread, Bad, Good, IsFound, Joined, Stops, Joins, AreJoined, joined_after}
use Rattle.loader_machine.specs.Commands.{Command, Banks, Load, LoadSegment, UnloadSegment, Jsl, ShutDown, Restart, Purge, Poke, Bytes, Where, Info, Alloc, Free, Lock, Unlock, Level, StateOf, Room, Compact, Reply, Entered, SegmentIs, Refused}
use Rattle.loader_machine.specs.Refusals.{Refuse, load_refusal, rows_refusal, load_segment_refusal, restart_refusal}
use Rattle.loader_machine.specs.Steps.{Sees, IsSeen, Decides, Does, Either, Begins, joined_users, lost_from, lost_in, lost_refusal, StepsLoad, MakesActive, StandsIn, IsAt, AddressPlace, Nowhere, In, IsLocated, target_at_code, address_of, no_jsl, StepsJsl, are_there, StepsRestart, Steps}
use Rattle.loader_machine.specs.Needs.{is_read, path_if, NeedsOf, Reaches, Needs, NeedsAfter, IsReadFor}
use Rattle.loader_machine.specs.Transcript.{IsAnswered}
use Rattle.omf_compact.specs.Replaced.{IsLikeReply, SameReply, AnswersAlike}
use Rattle.omf_compact.specs.laws.Sights.{Sight, sight_of, AreAlike, Shows}

-- ---- segments that are alike

heads_seen : (segments : List Segment) → map (λ (v : Sight). v.head) (map sight_of segments) ≡ map head_of segments
heads_seen [] = refl
heads_seen (s ∷ segments) = ap (λ (l : List SegmentHead). head_of s ∷ l) (heads_seen segments)

heads_alike : (segments others : List Segment) → AreAlike segments others → map head_of segments ≡ map head_of others
heads_alike segments others alike = sym (heads_seen segments) ∙ ap (map (λ (v : Sight). v.head)) alike.sights ∙ heads_seen others

abbrev some_sight : Sight → Option Sight
some_sight v = Some v

seen_there : (o : Option Segment) (s : Segment) → some_sight (sight_of s) ≡ option_map sight_of o → (t : Segment) × (o ≡ Some t) × (sight_of s ≡ sight_of t)
seen_there None s e = absurd cc
seen_there (Some t) s e = (t, refl, same_Some (sight_of s) (sight_of t) e)

-- the segments with one number are alike
at_alike : (segments others : List Segment) (number : ℕ) (s : Segment) → AreAlike segments others → segment_at segments number ≡ Some s
    → (t : Segment) × (segment_at others number ≡ Some t) × (sight_of s ≡ sight_of t)
at_alike segments others zero s alike is = absurd cc
at_alike segments others (suc k) s alike is =
    seen_there (slice_get others k) s (ap (option_map sight_of) (sym is) ∙ sym (slice_get-map sight_of segments k) ∙ ap (λ (l : List Sight). slice_get l k) alike.sights ∙ slice_get-map sight_of others k)

head_alike : (s t : Segment) → sight_of s ≡ sight_of t → head_of s ≡ head_of t
head_alike s t e = ap (λ (v : Sight). v.head) e

-- the bytes of a segment in memory, by its sight
read_sight : AddressSetting → Sight → List ℕ
read_sight at v = cond (is_table v.head) (entries_bytes at v.targets) (map (byte_of at.place) v.cells')

read_is : (at : AddressSetting) (s : Segment) → read_bytes at s ≡ read_sight at (sight_of s)
unfolding read_sight
read_is at s = elim (cases_Bool (is_table (head_of s))) [
  | inl is ↦ rw is refl
  | inr other ↦ rw other refl
]

stands_alike : (at : AddressSetting) (pokes : Pokes) (s t : Segment) → sight_of s ≡ sight_of t → stands at pokes s ≡ stands at pokes t
unfolding stands
stands_alike at pokes s t e = ap (with_pokes pokes) (read_is at s ∙ ap (read_sight at) e ∙ sym (read_is at t))

-- ---- users

module _ (held other : FileMap) (there : Shows held other) (back : Shows other held) where
  -- the same user is seen, with segments that are alike
  abbrev too : {state : Machine} {id : ℕ} → Sees held state id → Sees other state id
  too sees =
      let g = there.good sees.user.path sees.segments sees.holds in
      record { user = sees.user; made = sees.made; segments = g.0; holds = g.1 }

  too_alike : (state : Machine) (id : ℕ) (sees : Sees held state id) → AreAlike sees.segments (too sees).segments
  too_alike state id sees = (there.good sees.user.path sees.segments sees.holds).2

  too_heads : (state : Machine) (id : ℕ) (sees : Sees held state id) → map head_of sees.segments ≡ map head_of (too sees).segments
  too_heads state id sees = heads_alike sees.segments (too sees).segments (too_alike state id sees)

  is_seen : (state : Machine) (id : ℕ) (seen : Option UserSeen) → IsSeen held state id seen → IsSeen other state id seen
  is_seen state id None is = is
  is_seen state id (Some seen) is =
      (too is.0, is.1 ∙ ap (λ (heads : List SegmentHead). seen_with is.0.user heads) (too_heads state id is.0))
    where
      seen_with : User → List SegmentHead → UserSeen
      seen_with user heads = record { life = user.life; handles = handles_of user; heads = heads }

  decides : (refusal : Refuse) (state : Machine) (reply : Reply) (next : Machine) (P Q : Type 0) → (P → Q) → Decides refusal state reply next P → Decides refusal state reply next Q
  decides None state reply next P Q f is = f is
  decides (Some fault) state reply next P Q f is = is

  -- a command on a user
  does : (state : Machine) (id : ℕ) (refusal : Option UserSeen → Refuse) (reply : Reply) (next : Machine) (P Q : User → Type 0) → ((user : User) → P user → Q user)
      → Does held state id refusal reply next P → Does other state id refusal reply next Q
  does state id refusal reply next P Q f is = record {
    seen = is.seen;
    is_seen = is_seen state id is.seen is.is_seen;
    is = decides (refusal is.seen) state reply next _ _ (λ done. (done.0, done.1, f done.0 done.2)) is.is;
  }

  either : (b : Bool) (P P' Q Q' : Type 0) → (P → P') → (Q → Q') → Either b P Q → Either b P' Q'
  either true P P' Q Q' f g is = f is
  either false P P' Q Q' f g is = g is

  -- ---- what the commands do with segments

  begins : (Makes : MakesRoom) (state : Machine) (slots : Slots) (path : List ℕ) (id : ℕ) (segments others : List Segment) (users : User → List (Option User)) (reply : Reply) (next : Machine)
      → map head_of segments ≡ map head_of others → Begins Makes state slots path id segments users reply next → Begins Makes state slots path id others users reply next
  begins Makes state slots path id segments others users reply next heads is = record {
    put = is.put;
    is_put = subst (λ (l : List SegmentHead). IsPut Makes state.banks id slots (wants_of l) is.put) heads is.is_put;
    lands = subst (λ (l : List SegmentHead). Lands state path id l users is.put reply next) heads is.lands;
  }

  makes_active : (Makes : MakesRoom) (state : Machine) (id number : ℕ) (of : ℕ → Reply) (reply : Reply) (next : Machine)
      → MakesActive Makes held state id number of reply next → MakesActive Makes other state id number of reply next
  makes_active Makes state id number of reply next is =
      let t = at_alike is.sees.segments (too is.sees).segments number is.s (too_alike state id is.sees) is.is in
      record {
        sees = too is.sees;
        s = t.0;
        is = t.1;
        outcome = is.outcome;
        activates = subst (λ (head : SegmentHead). Activates Makes state id is.sees.user number (want_of head) (presence_at state.slots (handles_of is.sees.user) number) is.outcome) (head_alike is.s t.0 t.2) is.activates;
        answers = is.answers;
      }

  stands_in : (state : Machine) (id number : ℕ) (bytes : List ℕ) → StandsIn held state id number bytes → StandsIn other state id number bytes
  stands_in state id number bytes is =
      let t = at_alike is.sees.segments (too is.sees).segments number is.s (too_alike state id is.sees) is.is in
      record {
        sees = too is.sees;
        s = t.0;
        is = t.1;
        bytes_are = is.bytes_are ∙ stands_alike (setting_in state id is.sees.user) (held_at is.sees.user number).pokes is.s t.0 t.2;
      }

  is_at : (state : Machine) (address id number offset : ℕ) → IsAt held state address id number offset → IsAt other state address id number offset
  is_at state address id number offset is =
      let t = at_alike is.sees.segments (too is.sees).segments number is.s (too_alike state id is.sees) is.is in
      record {
        sees = too is.sees;
        runs = is.runs;
        s = t.0;
        is = t.1;
        h = is.h;
        first = is.first;
        active = is.active;
        sum = is.sum;
        inside = subst (λ (head : SegmentHead). offset < head.length) (head_alike is.s t.0 t.2) is.inside;
      }

-- ---- places and entries

-- where the targets of a table lead
targets_alike : (s t : Segment) → sight_of s ≡ sight_of t → is_table (head_of s) ≡ true → targets_of s ≡ targets_of t
targets_alike s t e is =
    let is' : is_table (head_of t) ≡ true = sym (ap is_table (head_alike s t e)) ∙ is in
    sym (seen s is) ∙ ap (λ (v : Sight). v.targets) e ∙ seen t is'
  where
    seen : (u : Segment) → is_table (head_of u) ≡ true → (sight_of u).targets ≡ targets_of u
    seen u is = rw is refl

-- ---- rows

-- a reply that is alike, of which this holds
abbrev pub Alike : (Reply → Type 0) → Reply → Type 0
Alike P reply = (reply' : Reply) × P reply' × IsLikeReply reply reply'

-- the results of rows are alike: both stop at the same one, or both read files with the same headers
pub data IsLikeJoined (joined joined' : Joined) : Type 0 where
  Stopped : (reads : ℕ) (why why' : LoaderFault) → joined ≡ Stops reads why → joined' ≡ Stops reads why' → IsLikeReply (Refused why) (Refused why') → IsLikeJoined joined joined'
  AllJoin : (all others : List (List Segment)) → joined ≡ Joins all → joined' ≡ Joins others → map (map head_of) all ≡ map (map head_of) others → IsLikeJoined joined joined'

after_alike : (segments others : List Segment) → AreAlike segments others → (rest rest' : Joined) → IsLikeJoined rest rest' → IsLikeJoined (joined_after segments rest) (joined_after others rest')
after_alike segments others alike rest rest' (Stopped reads why why' is is' like) = Stopped (reads + 1) why why' (ap (joined_after segments) is) (ap (joined_after others) is') like
after_alike segments others alike rest rest' (AllJoin all all' is is' heads) = AllJoin (segments ∷ all) (others ∷ all') (ap (joined_after segments) is) (ap (joined_after others) is')
    (ap (λ (hs : List SegmentHead). hs ∷ map (map head_of) all) (heads_alike segments others alike) ∙ ap (λ (l : List (List SegmentHead)). map head_of others ∷ l) heads)

-- where headers are the same, so are the users of rows
joined_users_same : (paths : List (List ℕ)) (all others : List (List Segment)) → map (map head_of) all ≡ map (map head_of) others → joined_users paths all ≡ joined_users paths others
joined_users_same [] all others heads = refl
joined_users_same (path ∷ paths) [] [] heads = refl
joined_users_same (path ∷ paths) [] (t ∷ others) heads = absurd cc
joined_users_same (path ∷ paths) (s ∷ all) [] heads = absurd cc
joined_users_same (path ∷ paths) (s ∷ all) (t ∷ others) heads =
    let first : map head_of s ≡ map head_of t = cc in
    let rest : map (map head_of) all ≡ map (map head_of) others = cc in
    ap (λ (hs : List SegmentHead). Some (joined_user path hs) ∷ joined_users paths all) first ∙ ap (λ (us : List (Option User)). Some (joined_user path (map head_of t)) ∷ us) (joined_users_same paths all others rest)

-- the table of a file, by its headers
table_in : ℕ → List SegmentHead → Option ℕ
table_in number [] = None
table_in number (head ∷ heads) = cond (is_table head) (Some number) (table_in (number + 1) heads)

table_heads : (number : ℕ) (segments : List Segment) → table_from number segments ≡ table_in number (map head_of segments)
unfolding table_in
table_heads number [] = refl
table_heads number (s ∷ segments) = ap (λ (o : Option ℕ). cond (is_table (head_of s)) (Some number) o) (table_heads (number + 1) segments)

table_there : (number : ℕ) (segments : List Segment) (found : ℕ) → table_from number segments ≡ Some found
    → (k : ℕ) × (s : Segment) × (found ≡ number + k) × (slice_get segments k ≡ Some s) × (is_table (head_of s) ≡ true)
table_there number [] found is = absurd cc
table_there number (s ∷ segments) found is = elim (cases_Bool (is_table (head_of s))) [
  | inl table ↦ (let here : number ≡ found = same_Some number found (rw table at is) in (0, s, omega (arith, here), refl, table))
  | inr other ↦ (let rest = table_there (number + 1) segments found (rw other at is) in (suc rest.0, rest.1, omega (arith, rest.2), rest.3, rest.4))
]

-- an entry that leads nowhere is lost in both
lost_alike : (all : List (List SegmentHead)) (segments others : List Segment) → AreAlike segments others → lost_refusal all segments ≡ lost_refusal all others
unfolding lost_refusal
lost_alike all segments others alike = go (table_of segments) (table_of others) refl (table_heads 1 segments ∙ ap (table_in 1) (heads_alike segments others alike) ∙ sym (table_heads 1 others))
  where
    lost_at : (number : ℕ) → table_of segments ≡ Some number → lost_in all segments number ≡ lost_in all others number
    lost_at number is =
        let here = table_there 1 segments number is in
        let place : number ≡ suc here.0 = omega (arith, here.2) in
        let found : segment_at segments number ≡ Some here.1 = ap (segment_at segments) place ∙ here.3 in
        let t = at_alike segments others number here.1 alike found in
        rw (found, t.1) (ap (λ (ts : List Target). option_map (λ (k : ℕ). let lost : LoadFault = record { cause = cause.NoSuchTarget; segment = number; at = entry_start k } in lost) (lost_from all 0 ts))
        (targets_alike here.1 t.0 t.2 here.4))

    go : (a b : Option ℕ) → table_of segments ≡ a → a ≡ b → option_map BadFile (option_and_then (lost_in all segments) a) ≡ option_map BadFile (option_and_then (lost_in all others) b)
    go None b is same = rw (← same) refl
    go (Some number) b is same = rw (← same) (ap (option_map BadFile) (lost_at number is))

-- a decision that is alike where what it decides is
decides_alike : (refusal : Refuse) (state : Machine) (reply : Reply) (next : Machine) (P : Type 0) (Q : Reply → Type 0) → (P → Alike Q reply)
    → Decides refusal state reply next P → Alike (λ reply'. Decides refusal state reply' next (Q reply')) reply
decides_alike None state reply next P Q f is = f is
decides_alike (Some fault) state reply next P Q f is = (reply, is, SameReply refl)

module _ (held other : FileMap) (there : Shows held other) (back : Shows other held) where
  abbrev JoinedAlike : List (List ℕ) → Joined → Type 0
  JoinedAlike paths joined = (joined' : Joined) × AreJoined other paths joined' × IsLikeJoined joined joined'

  found_alike : (path : List ℕ) (paths : List (List ℕ)) (joined : Joined) (found : FileFound) → IsRowFound held path found → JoinsFound found (AreJoined held paths) joined
      → ((rest : Joined) → AreJoined held paths rest → JoinedAlike paths rest) → JoinedAlike (path ∷ paths) joined
  found_alike path paths joined Unread is joins rest =
      (Stops 1 CannotRead, (Unread, (λ file has. let here = back.readable path file has in is here.0 here.1), refl), Stopped 1 CannotRead CannotRead joins refl (SameReply refl))
  found_alike path paths joined (Bad fault) is joins rest =
      let one = there.not_runtime path fault is in
      (Stops 1 (BadFile one.0), (Bad one.0, one.1, refl), Stopped 1 (BadFile fault) (BadFile one.0) joins refl one.2)
  found_alike path paths joined (Good segments) is joins rest =
      let one = there.runtime path segments is in
      let following = rest joins.0 joins.1 in
      (joined_after one.0 following.0, (Good one.0, one.1, (following.0, following.1, refl)), subst (λ (j : Joined). IsLikeJoined j (joined_after one.0 following.0)) (sym joins.2) (after_alike segments one.0 one.2 joins.0 following.0 following.2))

  joined_alike : (paths : List (List ℕ)) (joined : Joined) → AreJoined held paths joined → JoinedAlike paths joined
  joined_alike [] joined is = (Joins [], refl, AllJoin [] [] is refl refl)
  joined_alike (path ∷ paths) joined is = found_alike path paths joined is.0 is.1 is.2 (joined_alike paths)

  module _ (Makes : MakesRoom) (state : Machine) (path : List ℕ) (segments others : List Segment) (alike : AreAlike segments others) where
    users_alike : (all all' : List (List Segment)) → map (map head_of) all ≡ map (map head_of) all' → begun_users state (paths_of segments) all ≡ begun_users state (paths_of others) all'
    users_alike all all' heads =
        ap {B = User → List (Option User)} (λ (us : List (Option User)) (user : User). state.users ++ Some (record user { attached = ids_from (first_id + length state.users + 1) (length (paths_of segments)) }) ∷ us)
        (joined_users_same (paths_of segments) all all' heads)
        ∙ ap {B = User → List (Option User)} (λ (paths : List (List ℕ)). begun_users state paths all') alike.paths

    loads_alike : (joined joined' : Joined) → IsLikeJoined joined joined' → (reply : Reply) (next : Machine) → LoadsJoined Makes state path segments joined reply next
        → Alike (λ reply'. LoadsJoined Makes state path others joined' reply' next) reply
    loads_alike joined joined' (Stopped reads why why' is is' like) reply next loads =
        let was = subst (λ (j : Joined). LoadsJoined Makes state path segments j reply next) is loads in
        (Refused why', subst (λ (j : Joined). LoadsJoined Makes state path others j (Refused why') next) (sym is') (refl, was.1), subst (λ (r : Reply). IsLikeReply r (Refused why')) (sym was.0) like)
    loads_alike joined joined' (AllJoin all all' is is' heads) reply next loads =
        let was = subst (λ (j : Joined). LoadsJoined Makes state path segments j reply next) is loads in
        let lost : lost_refusal (map (map head_of) all) segments ≡ lost_refusal (map (map head_of) all') others =
        ap (λ (l : List (List SegmentHead)). lost_refusal l segments) heads ∙ lost_alike (map (map head_of) all') segments others alike in
        let now : LoadsJoined Makes state path others (Joins all') reply next =
        subst (λ (refusal : Refuse). Decides refusal state reply next (Begins Makes state state.slots path (first_id + length state.users) others (begun_users state (paths_of others) all') reply next)) lost
        (decides held other there back (lost_refusal (map (map head_of) all) segments) state reply next _ _ (λ begun.
        begins held other there back Makes state state.slots path _ segments others (begun_users state (paths_of others) all') reply next (heads_alike segments others alike)
        (subst (λ (users : User → List (Option User)). Begins Makes state state.slots path (first_id + length state.users) segments users reply next) (users_alike all all' heads) begun)) was) in
        (reply, subst (λ (j : Joined). LoadsJoined Makes state path others j reply next) (sym is') now, SameReply refl)

    rows_alike : (reply : Reply) (next : Machine) → LoadsFound Makes held state path (Good segments) reply next → Alike (λ reply'. LoadsFound Makes other state path (Good others) reply' next) reply
    rows_alike reply next loads =
        let all : Alike (λ reply'. LoadsWith (paths_of segments) reply') reply =
        decides_alike (rows_refusal (length state.users) (length (paths_of segments))) state reply next _
        (λ reply'. (joined : Joined) × AreJoined other (paths_of segments) joined × LoadsJoined Makes state path others joined reply' next)
        (λ done.
        let joined = joined_alike (paths_of segments) done.0 done.1 in
        let one = loads_alike done.0 joined.0 joined.2 reply next done.2 in
        (one.0, (joined.0, joined.1, one.1), one.2)) loads in
        (all.0, subst (λ (paths : List (List ℕ)). LoadsWith paths all.0) alike.paths all.1, all.2)
      where
        LoadsWith : List (List ℕ) → Reply → Type 0
        LoadsWith paths reply' = Decides (rows_refusal (length state.users) (length paths)) state reply' next
            ((joined : Joined) × AreJoined other paths joined × LoadsJoined Makes state path others joined reply' next)

module _ (Makes : MakesRoom) (held other : FileMap) (there : Shows held other) (back : Shows other held) where
  located : (state : Machine) (address : ℕ) (place : AddressPlace) → IsLocated held state address place → IsLocated other state address place
  located state address Nowhere is = λ id number offset at. is id number offset (is_at other held back there state address id number offset at)
  located state address (In id number offset) is = is_at held other there back state address id number offset is

  enters_entry : (state : Machine) (id : ℕ) (t : Option Target) (reply : Reply) (next : Machine) → EntersEntry Makes held state id t reply next → EntersEntry Makes other state id t reply next
  enters_entry state id None reply next is = is
  enters_entry state id (Some t) reply next is = (is.0, is.1, makes_active held other there back Makes state is.0 t.segment _ reply next is.2)

  enters : (state : Machine) (address : ℕ) (place : AddressPlace) (reply : Reply) (next : Machine) → Enters Makes held state address place reply next → Enters Makes other state address place reply next
  enters state address Nowhere reply next is = is
  enters state address (In id number offset) reply next is =
      let sees = is.0 in
      let t = at_alike sees.segments (too held other there back sees).segments number is.1 (too_alike held other there back state id sees) is.2 in
      (too held other there back sees, t.0, t.1, by_table (is_table (head_of is.1)) refl t.0 t.2 is.3)
    where
      by_table : (b : Bool) → is_table (head_of is.1) ≡ b → (t : Segment) → sight_of is.1 ≡ sight_of t
          → EntersSegment Makes held state address id number offset is.1 reply next → EntersSegment Makes other state address id number offset t reply next
      by_table true e t alike is' =
          let e' : true ≡ is_table (head_of t) = sym e ∙ ap is_table (head_alike is.1 t alike) in
          let entry : EntersEntry Makes held state id (target_at_code (targets_of is.1) 0 offset) reply next =
          subst (λ (b : Bool). Either b (EntersEntry Makes held state id (target_at_code (targets_of is.1) 0 offset) reply next) ((reply ≡ Entered id number offset address) × (next ≡ state))) e is' in
          let other_entry = subst (λ (l : List Target). EntersEntry Makes other state id (target_at_code l 0 offset) reply next) (targets_alike is.1 t alike e) (enters_entry state id (target_at_code (targets_of is.1) 0 offset) reply next entry) in
          subst (λ (b : Bool). Either b (EntersEntry Makes other state id (target_at_code (targets_of t) 0 offset) reply next) ((reply ≡ Entered id number offset address) × (next ≡ state))) e' other_entry
      by_table false e t alike is' =
          let e' : false ≡ is_table (head_of t) = sym e ∙ ap is_table (head_alike is.1 t alike) in
          let plain = subst (λ (b : Bool). Either b (EntersEntry Makes held state id (target_at_code (targets_of is.1) 0 offset) reply next) ((reply ≡ Entered id number offset address) × (next ≡ state))) e is' in
          subst (λ (b : Bool). Either b (EntersEntry Makes other state id (target_at_code (targets_of t) 0 offset) reply next) ((reply ≡ Entered id number offset address) × (next ≡ state))) e' plain

  steps_jsl : (state : Machine) (id number at : ℕ) (reply : Reply) (next : Machine) → StepsJsl Makes held state id number at reply next → StepsJsl Makes other state id number at reply next
  steps_jsl state id number at reply next is = record {
    bytes = is.bytes;
    stands = stands_in held other there back state id number is.bytes is.stands;
    is = decides held other there back (no_jsl (take 4 (drop at is.bytes))) state reply next _ _
        (λ done. (done.0, located state (address_of (take 4 (drop at is.bytes))) done.0 done.1, enters state (address_of (take 4 (drop at is.bytes))) done.0 reply next done.2)) is.is;
  }

  steps_restart : (state : Machine) (id : ℕ) (reply : Reply) (next : Machine) → StepsRestart Makes held state id reply next → StepsRestart Makes other state id reply next
  steps_restart state id reply next is =
      let sees = is.sees in
      let sees' = too held other there back sees in
      let heads = too_heads held other there back state id sees in
      record {
        sees = sees';
        is = subst (λ (l : List SegmentHead). Either (are_there state.slots l (handles_of sees.user) 1) (RestartsInPlace state id sees.user l reply next)
            (Begins Makes state (without_user state.slots id) sees.user.path id sees'.segments (again_users state id sees.user) reply next)) heads
            (either held other there back (are_there state.slots (map head_of sees.segments) (handles_of sees.user) 1) _ _ _ _ (λ x. x)
            (begins held other there back Makes state (without_user state.slots id) sees.user.path id sees.segments sees'.segments (again_users state id sees.user) reply next heads) is.is);
      }

  -- ---- load

  finds : (state : Machine) (path : List ℕ) (found : FileFound) (reply : Reply) (next : Machine) → IsFound held path found → LoadsFound Makes held state path found reply next
      → (found' : FileFound) × IsFound other path found' × Alike (λ reply'. LoadsFound Makes other state path found' reply' next) reply
  finds state path Unread reply next is loads = (Unread, (λ file has. let here = back.readable path file has in is here.0 here.1), (reply, loads, SameReply refl))
  finds state path (Bad fault) reply next is loads = (Bad fault, there.bad path fault is, (reply, loads, SameReply refl))
  finds state path (Good segments) reply next is loads =
      let g = there.good path segments is in
      (Good g.0, g.1, rows_alike held other there back Makes state path segments g.0 g.2 reply next loads)

  steps_load : (state : Machine) (path : List ℕ) (reply : Reply) (next : Machine) → StepsLoad Makes held state path reply next
      → Alike (λ reply'. StepsLoad Makes other state path reply' next) reply
  steps_load state path reply next is = decides_alike (load_refusal (length state.users)) state reply next _
      (λ reply'. (found : FileFound) × IsFound other path found × LoadsFound Makes other state path found reply' next)
      (λ done. let one = finds state path done.0 reply next done.1 done.2 in (one.2.0, (one.0, one.1, one.2.1), one.2.2)) is

  reports : (state : Machine) (id number : ℕ) (user : User) (reply : Reply) (next : Machine)
      → (sees : Sees held state id) × (s : Segment) × (segment_at sees.segments number ≡ Some s) × (reply ≡ SegmentIs (presence_at state.slots (handles_of user) number) s.fields.length s.fields.kind) × (next ≡ state)
      → (sees : Sees other state id) × (s : Segment) × (segment_at sees.segments number ≡ Some s) × (reply ≡ SegmentIs (presence_at state.slots (handles_of user) number) s.fields.length s.fields.kind) × (next ≡ state)
  reports state id number user reply next is =
      let t = at_alike is.0.segments (too held other there back is.0).segments number is.1 (too_alike held other there back state id is.0) is.2 in (
        too held other there back is.0,
        t.0,
        t.1,
        is.3 ∙ ap (λ (head : SegmentHead). SegmentIs (presence_at state.slots (handles_of user) number) head.length head.kind) (head_alike is.1 t.0 t.2),
        is.4,
      )

  -- ---- all commands

  -- a load may differ in the place in a refusal, and every other command has the same reply
  pub steps : (state : Machine) (command : Command) (reply : Reply) (next : Machine) → Steps Makes held state command reply next → Alike (λ reply'. Steps Makes other state command reply' next) reply
  steps state (Banks banks) reply next is = (reply, is, SameReply refl)
  steps state (Load path) reply next is = steps_load state path reply next is
  steps state (LoadSegment id number) reply next is =
      (reply, does held other there back state id _ reply next _ _ (λ user. makes_active held other there back Makes state id number _ reply next) is, SameReply refl)
  steps state (UnloadSegment id number) reply next is = (reply, does held other there back state id _ reply next _ _ (λ user x. x) is, SameReply refl)
  steps state (Jsl id number at) reply next is = (reply, does held other there back state id _ reply next _ _ (λ user. steps_jsl state id number at reply next) is, SameReply refl)
  steps state (ShutDown id keep) reply next is = (reply, does held other there back state id _ reply next _ _ (λ user x. x) is, SameReply refl)
  steps state (Restart id) reply next is = (reply, does held other there back state id _ reply next _ _ (λ user. steps_restart state id reply next) is, SameReply refl)
  steps state (Purge id) reply next is = (reply, (is.0, is_seen held other there back state id is.0 is.1, is.2), SameReply refl)
  steps state (Poke id number at byte) reply next is = (reply, does held other there back state id _ reply next _ _ (λ user x. x) is, SameReply refl)
  steps state (Bytes id number at count) reply next is =
      (reply, does held other there back state id _ reply next _ _ (λ user x. (x.0, stands_in held other there back state id number x.0 x.1, x.2, x.3)) is, SameReply refl)
  steps state (Where address) reply next is = (reply, (is.0, located state address is.0 is.1, is.2, is.3), SameReply refl)
  steps state (Info id number) reply next is = (reply, does held other there back state id _ reply next _ _ (λ user. reports state id number user reply next) is, SameReply refl)
  steps state (Alloc size attributes address) reply next is = (reply, is, SameReply refl)
  steps state (Free h) reply next is = (reply, is, SameReply refl)
  steps state (Lock h) reply next is = (reply, is, SameReply refl)
  steps state (Unlock h) reply next is = (reply, is, SameReply refl)
  steps state (Level h level) reply next is = (reply, is, SameReply refl)
  steps state (StateOf h) reply next is = (reply, is, SameReply refl)
  steps state Room reply next is = (reply, is, SameReply refl)
  steps state Compact reply next is = (reply, is, SameReply refl)

-- ---- the files that a command reads

module _ (held other : FileMap) (there : Shows held other) (back : Shows other held) where
  needs_of : (state : Machine) (id : ℕ) (of : UserSeen → User → List (List ℕ)) (paths : List (List ℕ)) → NeedsOf held state id of paths → NeedsOf other state id of paths
  needs_of state id of paths (inl none) = inl none
  needs_of state id of paths (inr is) = inr (
    too held other there back is.0,
    is.1 ∙ ap (λ (heads : List SegmentHead). of (record { life = is.0.user.life; handles = handles_of is.0.user; heads = heads }) is.0.user) (too_heads held other there back state id is.0),
  )

  reaches : (state : Machine) (id number at user : ℕ) (t : Target) → Reaches held state id number at user t → Reaches other state id number at user t
  reaches state id number at user t is =
      let sees = is.is_at.sees in
      let u = at_alike sees.segments (too held other there back sees).segments is.table is.is_at.s (too_alike held other there back state is.owner sees) is.is_at.is in
      record {
        owner = is.owner;
        seen = is.seen;
        is_seen = is_seen held other there back state id is.seen is.is_seen;
        passes = is.passes;
        bytes = is.bytes;
        stands = stands_in held other there back state id number is.bytes is.stands;
        jsl = is.jsl;
        table = is.table;
        offset = is.offset;
        is_at = record {
          sees = too held other there back sees;
          runs = is.is_at.runs;
          s = u.0;
          is = u.1;
          h = is.is_at.h;
          first = is.is_at.first;
          active = is.is_at.active;
          sum = is.is_at.sum;
          inside = subst (λ (head : SegmentHead). is.offset < head.length) (head_alike is.is_at.s u.0 u.2) is.is_at.inside;
        };
        is_table = sym (ap is_table (head_alike is.is_at.s u.0 u.2)) ∙ is.is_table;
        target = ap (λ (l : List Target). target_at_code l 0 is.offset) (sym (targets_alike is.is_at.s u.0 u.2 is.is_table)) ∙ is.target;
        named = is.named;
      }

module _ (held other : FileMap) (there : Shows held other) (back : Shows other held) where
  needs : (state : Machine) (command : Command) (paths : List (List ℕ)) → Needs held state command paths → Needs other state command paths
  needs state (Banks banks) paths is = is
  needs state (Load path) paths is = is
  needs state (LoadSegment id number) paths is = needs_of held other there back state id
      (λ seen user. path_if (load_segment_refusal (Some seen) number) (is_read (presence_at state.slots (handles_of user) number)) user.path) paths is
  needs state (UnloadSegment id number) paths is = is
  needs state (Jsl id number at) paths (inl is) = inl (is.0, is.1, reaches held other there back state id number at is.0 is.1 is.2, is.3, is.4, is.5)
  needs state (Jsl id number at) paths (inr none) = inr ((λ owner t is. none.0 owner t (reaches other held back there state id number at owner t is)), none.1)
  needs state (ShutDown id keep) paths is = is
  needs state (Restart id) paths is = needs_of held other there back state id
      (λ seen user. path_if (restart_refusal (is_attached (outlines state.users) id) (Some seen)) (restart_reads state seen) user.path) paths is
  needs state (Purge id) paths is = is
  needs state (Poke id number at byte) paths is = is
  needs state (Bytes id number at count) paths is = is
  needs state (Where address) paths is = is
  needs state (Info id number) paths is = is
  needs state (Alloc size attributes address) paths is = is
  needs state (Free h) paths is = is
  needs state (Lock h) paths is = is
  needs state (Unlock h) paths is = is
  needs state (Level h level) paths is = is
  needs state (StateOf h) paths is = is
  needs state Room paths is = is
  needs state Compact paths is = is

  answered : (state : Machine) (command : Command) (reply : Reply) (others : ℕ) (next : Machine) → IsAnswered held state command reply others next
      → Alike (λ reply'. IsAnswered other state command reply' others next) reply
  answered state command reply others next (inl is) = let one = steps RoomRule held other there back state command reply next is.0 in (one.0, inl (one.1, is.1), one.2)
  answered state command reply others next (inr is) = (reply, inr (is.0, is.1, needs state command is.1 is.2, is.3, is.4, is.5), SameReply refl)

  -- the rows of a file, by what a read finds
  rows_found : (state : Machine) (path : List ℕ) (found : FileFound) → IsFound held path found → (found' : FileFound) × IsFound other path found' × (rows_of state found ≡ rows_of state found')
  rows_found state path Unread is = (Unread, (λ file has. let here = back.readable path file has in is here.0 here.1), refl)
  rows_found state path (Bad fault) is = (Bad fault, there.bad path fault is, refl)
  rows_found state path (Good segments) is =
      let g = there.good path segments is in
      (Good g.0, g.1, ap (λ (paths : List (List ℕ)). rows_if (rows_refusal (length state.users) (length paths)) paths) g.2.paths)

  reads_alike : (joined joined' : Joined) → IsLikeJoined joined joined' → reads_of joined ≡ reads_of joined'
  reads_alike joined joined' (Stopped reads why why' is is' like) = rw (is, is') refl
  reads_alike joined joined' (AllJoin all others is is' heads) = rw (is, is') (sym (length-map all (map head_of)) ∙ ap length heads ∙ length-map others (map head_of))

  following : (state : Machine) (command : Command) (rows : List (List ℕ)) (reads : ℕ) → NeedsAfter held state command rows reads → NeedsAfter other state command rows reads
  following state (Load path) rows reads (inl is) =
      let found = rows_found state path is.1 is.2 in
      let joined = joined_alike held other there back rows is.4 is.5 in
      inl (is.0, found.0, found.1, is.3 ∙ found.2, joined.0, joined.1, is.6 ∙ reads_alike is.4 joined.0 joined.2)
  following state (Load path) rows reads (inr is) = inr is
  following state (Banks banks) rows reads is = is
  following state (LoadSegment id number) rows reads is = is
  following state (UnloadSegment id number) rows reads is = is
  following state (Jsl id number at) rows reads is = is
  following state (ShutDown id keep) rows reads is = is
  following state (Restart id) rows reads is = is
  following state (Purge id) rows reads is = is
  following state (Poke id number at byte) rows reads is = is
  following state (Bytes id number at count) rows reads is = is
  following state (Where address) rows reads is = is
  following state (Info id number) rows reads is = is
  following state (Alloc size attributes address) rows reads is = is
  following state (Free h) rows reads is = is
  following state (Lock h) rows reads is = is
  following state (Unlock h) rows reads is = is
  following state (Level h level) rows reads is = is
  following state (StateOf h) rows reads is = is
  following state Room rows reads is = is
  following state Compact rows reads is = is

  reads_for : (state : Machine) (command : Command) (others reads : ℕ) → IsReadFor held state command others reads → IsReadFor other state command others reads
  reads_for state command others reads is = (
    is.0,
    needs state command is.0 is.1,
    elim is.2 [
      | inl all ↦ inl (all.0, all.1, all.2, following state command all.1 all.2 all.3, all.4)
      | inr some ↦ inr some
    ],
  )

  pub all_answered : (state : Machine) (commands : List Command) (replies : List Reply) (others reads : ℕ) (last : Machine) → AnswersAlike held other state commands replies others reads last
  all_answered state [] [] others reads last is = ([], tt, is)
  all_answered state [] (reply ∷ replies) others reads last is = absurd is
  all_answered state (command ∷ commands) [] others reads last is = absurd is
  all_answered state (command ∷ commands) (reply ∷ replies) others reads last is =
      let first = answered state command reply is.0 is.4 is.5 in
      let rest = all_answered is.4 commands replies is.1 is.3 last is.7 in (
        first.0 ∷ rest.0,
        (first.2, rest.1),
        (is.0, is.1, is.2, is.3, is.4, first.1, reads_for state command is.0 is.2 is.6, rest.2, is.8, is.9),
      )
