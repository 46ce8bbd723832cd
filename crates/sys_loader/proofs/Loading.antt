-- A load, as it is done.
use Rattle.std.proofs.Common.{◌≡◌, ◌⊎◌, inl, inr, ℕ, zero, suc, false, ◌+◌, ◌<◌, ◌≤◌, List, [], ◌∷◌, length, map, Option, Some, None, Result, Ok, Err, refl, sym, ap, subst, ◌∙◌, arith}
use Rattle.std.specs.Prelude.{IfOk, IfErr, OnErr}
use Rattle.std.specs.Option.{option_map, option_and_then}
use Rattle.omf_format.specs.File.{Segment}
use Rattle.omf_io.specs.Counts.{one_more, saturating_sum}
use Rattle.omf_io.specs.Files.{FileMap, StoreSeen, IsRead, IsUnread}
use Rattle.load_meaning.specs.declared.load.LoadFault.{LoadFault}
use Rattle.load_meaning.specs.LoadTable.{table_of}
use Rattle.load_meaning.specs.Loadable.{IsLoadable}
use Rattle.load_meaning.specs.Pathnames.{paths_of}
use Rattle.loader_machine.specs.declared.faults.LoaderFault.{LoaderFault}
use Rattle.loader_machine.specs.declared.faults.LoaderFault.TheVariants as fault
use Rattle.loader_machine.specs.declared.seen.SegmentHead.{SegmentHead}
use Rattle.loader_machine.specs.Heads.{head_of}
use Rattle.loader_machine.specs.State.{first_id, max_users, ids_from}
use Rattle.loader_machine.specs.Found.{Joined, Stops, Joins, joined_after}
use Rattle.loader_machine.specs.Steps.{lost_in, lost_refusal}
use Rattle.loader_agrees.specs.Agrees.{LoadedUser, Loaded}
use Rattle.loader_agrees.specs.Acts.{HasBegun, joined_kept, joined_kepts}
use Rattle.loader_agrees.specs.laws.Rows.{few_paths}
use Rattle.sys_loader.specs.declared.answers.Started.{Started}
use Rattle.loader_users.specs.declared.user.UserSegment as users
use Rattle.loader_users.specs.declared.user.User.{User}
use Rattle.loader_users.specs.View.{kept}
use Rattle.sys_loader.specs.Calls.{IsBeginRefusal, AreRowsRead, IsRowsRefusal, RowStops, IsLost, CantBegin, RowsLackMemory, CantRead, LacksMemory, IsBad, CantStart, HasLoaded, AreJoinedUsers, RowsStop, HasLoadedRows, HasLoadedFile}
use Rattle.loader_users.specs.Taken.{IsBadFile}
use Rattle.loader_users.specs.Users.{new_heads}

pub ids_same : (id id' n n' : ℕ) (ids : List ℕ) → ids ≡ ids_from id n → id ≡ id' → n ≡ n' → ids ≡ ids_from id' n'
ids_same id id' n n' ids is one two = is ∙ ap (λ (m : ℕ). ids_from m n) one ∙ ap (ids_from id') two

-- ---- the rows

-- where all files are read, no read failed
rows_same : (held : Option FileMap) (paths : List (List ℕ)) (before now : ℕ) (joined : Joined) (all : List (List Segment)) → joined ≡ Joins all → AreRowsRead held paths before now joined → now ≡ before
rows_same held [] before now joined all is (e, same) = same
rows_same held (path ∷ paths) before now joined all is (inl (unread, e)) = let clash : Stops 1 fault.CannotRead ≡ Joins all = sym e ∙ is in absurd cc
rows_same held (path ∷ paths) before now joined all is (inr (file, is_read, inl (bad, first, e, same))) = same
rows_same held (path ∷ paths) before now joined all is (inr (file, is_read, inr (segments, runtime, rest, read, e))) = go rest refl (λ others eq. rows_same held paths before now rest others eq read)
  where
    go : (r : Joined) → rest ≡ r → ((others : List (List Segment)) → rest ≡ Joins others → now ≡ before) → now ≡ before
    go (Stops reads why) eq later = let clash : Stops (reads + 1) why ≡ Joins all = sym (e ∙ ap (joined_after segments) eq) ∙ is in absurd cc
    go (Joins others) eq later = later others eq

-- their reads stop
pub rows_stopped : (held : Option FileMap) (old : Loaded) (segments : List Segment) (before now : StoreSeen) (why : LoaderFault) → length old.users + 1 + length (paths_of segments) ≤ max_users
    → RowsStop held (paths_of segments) before now why → (rows : ℕ) × IsRowsRefusal held old segments before.faults now.faults rows why × (now.asked ≡ saturating_sum rows before.asked)
rows_stopped held old segments before now why fit (inl (rows, read, count)) = (rows, RowStops fit read, count)
rows_stopped held old segments before now why fit (inr (is, same, rows, few, count)) = (rows, RowsLackMemory is same (omega (arith, few, few_paths segments)), count)

-- the headers of their files
heads_of_kepts : (paths : List (List ℕ)) (all : List (List Segment)) (ks : List LoadedUser) → length all ≡ length paths → map (λ (k : LoadedUser). Some k) ks ≡ joined_kepts paths all → map (λ (k : LoadedUser). k.heads) ks ≡ map (map head_of) all
heads_of_kepts [] [] [] long is = refl
heads_of_kepts [] [] (k ∷ ks) long is = absurd cc
heads_of_kepts [] (s ∷ all) ks long is = absurd (omega (arith, long))
heads_of_kepts (p ∷ paths) [] ks long is = absurd (omega (arith, long))
heads_of_kepts (p ∷ paths) (s ∷ all) [] long is = absurd cc
heads_of_kepts (p ∷ paths) (s ∷ all) (k ∷ ks) long is =
    let first : k ≡ joined_kept p (map head_of s) = cc in
    let rest : map (λ (u : LoadedUser). Some u) ks ≡ joined_kepts paths all = cc in
    ap (λ (u : LoadedUser). u.heads ∷ map (λ (x : LoadedUser). x.heads) ks) first ∙ ap (λ (l : List (List SegmentHead)). map head_of s ∷ l) (heads_of_kepts paths all ks (omega (arith, long)) rest)

new_is : (joined : List User) → new_heads joined ≡ map (λ (k : LoadedUser). k.heads) (map kept joined)
new_is [] = refl
new_is (user ∷ joined) = ap (λ (l : List (List SegmentHead)). map (λ (s : users.UserSegment). s.head) user.segments.items ∷ l) (new_is joined)

-- so what is lost by them is lost
pub lost_of : (paths : List (List ℕ)) (all : List (List Segment)) (joined : List User) (load : List Segment) (o : Option LoadFault) → AreJoinedUsers paths all (map kept joined)
    → o ≡ option_and_then (lost_in (new_heads joined) load) (table_of load) → lost_refusal (map (map head_of) all) load ≡ option_map fault.BadFile o
unfolding lost_refusal
lost_of paths all joined load o rows is =
    let heads : new_heads joined ≡ map (map head_of) all = new_is joined ∙ heads_of_kepts paths all (map kept joined) rows.long rows.users' in
    ap (λ (hs : List (List SegmentHead)). option_map fault.BadFile (option_and_then (lost_in hs load) (table_of load))) (sym heads) ∙ ap (option_map fault.BadFile) (sym is)

-- an entry is lost
pub rows_lost : (held : Option FileMap) (old : Loaded) (path : List ℕ) (segments : List Segment) (all : List (List Segment)) (before now : StoreSeen) (why : LoaderFault) → length old.users + 1 + length (paths_of segments) ≤ max_users
    → AreRowsRead held (paths_of segments) before.faults now.faults (Joins all) → lost_refusal (map (map head_of) all) segments ≡ Some why → now.asked ≡ saturating_sum (length all) before.asked
    → (more : ℕ) × HasLoadedRows held old path segments (Err why) old before.faults now.faults more × (now.asked ≡ saturating_sum more before.asked)
rows_lost held old path segments all before now why fit read lost count = (length all, (IsLost fit all read lost refl, refl), count)

-- the program begins, or can't
pub rows_started : (held : Option FileMap) (old new : Loaded) (path : List ℕ) (segments : List Segment) (all : List (List Segment)) (joined : List LoadedUser) (before now : StoreSeen) (r : Result Started LoaderFault)
    → length old.users + 1 + length (paths_of segments) ≤ max_users → AreRowsRead held (paths_of segments) before.faults now.faults (Joins all) → AreJoinedUsers (paths_of segments) all joined
    → lost_refusal (map (map head_of) all) segments ≡ None → now.asked ≡ saturating_sum (length all) before.asked
    → IfOk r (λ started. HasBegun old path segments all started.user started.entry new)
    → IfErr r (λ why. (why ≡ fault.Memory) ⊎ IsBeginRefusal old.memory (first_id + length old.users) (map head_of segments) why) → OnErr r (new ≡ old)
    → (more : ℕ) × HasLoadedRows held old path segments r new before.faults now.faults more × (now.asked ≡ saturating_sum more before.asked)
rows_started held old new path segments all joined before now (Ok started) fit read rows none count begun refused err =
    (length all, record { all = all; read = read; none = none; begun = begun; rows' = refl }, count)
rows_started held old new path segments all joined before now (Err why) fit read rows none count begun (inl is) err =
    (length all, (RowsLackMemory is (rows_same held (paths_of segments) before.faults now.faults (Joins all) all refl read) (omega (arith, rows.long, few_paths segments)), err), count)
rows_started held old new path segments all joined before now (Err why) fit read rows none count begun (inr cant) err =
    (length all, (CantBegin fit all read none cant refl, err), count)

-- ---- the file

pub file_bad : (held : Option FileMap) (old : Loaded) (path file : List ℕ) (why : LoaderFault) (before : StoreSeen) → IsBadFile false file why
    → (more : ℕ) × HasLoadedFile held old path file (Err why) old before.faults before.faults more × (before.asked ≡ saturating_sum more before.asked)
file_bad held old path file why before (inl is) = (0, (refl, inl (is, refl, refl)), refl)
file_bad held old path file why before (inr (bad, first, is)) = (0, (refl, inr (inl (bad, first, is, refl, refl))), refl)

pub file_read : (held : Option FileMap) (old new : Loaded) (path file : List ℕ) (segments : List Segment) (r : Result Started LoaderFault) (before now more : ℕ) → IsLoadable file segments
    → HasLoadedRows held old path segments r new before now more → HasLoadedFile held old path file r new before now more
file_read held old new path file segments (Ok started) before now more loadable did = (segments, loadable, did)
file_read held old new path file segments (Err why) before now more loadable (refusal, same) = (same, inr (inr (segments, loadable, refusal)))

risen_more : (more count : ℕ) → saturating_sum more (one_more count) ≡ one_more (saturating_sum more count)
risen_more zero count = refl
risen_more (suc more) count = ap one_more (risen_more more count)

pub not_read : (held : Option FileMap) (old : Loaded) (path : List ℕ) (why : LoaderFault) (before now : StoreSeen) → length old.users < max_users
    → ((why ≡ fault.CannotRead) × IsUnread held path before.faults now.faults) ⊎ ((why ≡ fault.Memory) × (now.faults ≡ before.faults)) → now.asked ≡ one_more before.asked
    → (reads : ℕ) × HasLoaded held old path (Err why) old before.faults now.faults reads × (now.asked ≡ saturating_sum reads before.asked)
not_read held old path why before now few (inl (is, unread)) count = (1, (CantRead few unread is refl, refl), count)
not_read held old path why before now few (inr (is, same)) count = (1, (LacksMemory few is same refl, refl), count)

pub was_read : (held : Option FileMap) (old new : Loaded) (path file : List ℕ) (r : Result Started LoaderFault) (before mid now : StoreSeen) (more : ℕ) → length old.users < max_users → IsRead held path file
    → mid.faults ≡ before.faults → mid.asked ≡ one_more before.asked → HasLoadedFile held old path file r new mid.faults now.faults more → now.asked ≡ saturating_sum more mid.asked
    → (reads : ℕ) × HasLoaded held old path r new before.faults now.faults reads × (now.asked ≡ saturating_sum reads before.asked)
was_read held old new path file r before mid now more few is_read same asked did count =
    let e : suc more ≡ 1 + more = omega arith in
    (1 + more, go r (subst (λ (n : ℕ). HasLoadedFile held old path file r new n now.faults more) same did), count ∙ ap (saturating_sum more) asked ∙ risen_more more before.asked ∙ ap (λ (n : ℕ). saturating_sum n before.asked) e)
  where
    go : (x : Result Started LoaderFault) → HasLoadedFile held old path file x new before.faults now.faults more → HasLoaded held old path x new before.faults now.faults (1 + more)
    go (Ok started) (segments, loadable, has) = (segments, record { few = few; file = file; is_read = is_read; loadable = loadable }, more, has, refl)
    go (Err why) (kept', inl (is, still, none)) = (LacksMemory few is still (omega (arith, none)), kept')
    go (Err why) (kept', inr (inl (bad, first, is, still, none))) = (IsBad few file is_read bad first is still (omega (arith, none)), kept')
    go (Err why) (kept', inr (inr (segments, loadable, refusal))) = (CantStart segments (record { few = few; file = file; is_read = is_read; loadable = loadable }) more refusal refl, kept')
