-- The files of rows, read one by one.
use Rattle.std.proofs.Common.{◌≡◌, ◌⊎◌, inl, inr, ℕ, zero, suc, ◌+◌, ◌<◌, ◌^◌, List, [], ◌∷◌, ◌++◌, length, map, take, Option, Some, refl, sym, ap, subst, ◌∙◌, arith}
use Rattle.std.proofs.lemmas.List.{map-append}
use Rattle.std.specs.Prelude.{slice_get}
use Rattle.std.proofs.lemmas.Option.{same_Some}
use Rattle.omf_format.specs.File.{Segment}
use Rattle.omf_io.specs.Files.{FileMap, IsRead, IsUnread}
use Rattle.load_meaning.specs.declared.load.LoadFault.{LoadFault}
use Rattle.load_meaning.specs.Runtime.{IsRuntime, IsFirstRuntimeFault}
use Rattle.loader_machine.specs.declared.faults.LoaderFault.{LoaderFault}
use Rattle.loader_machine.specs.declared.faults.LoaderFault.TheVariants as fault
use Rattle.loader_machine.specs.Heads.{head_of}
use Rattle.loader_machine.specs.Found.{Stops, Joins}
use Rattle.loader_agrees.specs.Agrees.{LoadedUser}
use Rattle.loader_agrees.specs.Acts.{joined_kept, joined_kepts}
use Rattle.sys_loader.specs.Calls.{AreRowsRead, JoinStops, AreJoinedUsers}
use Rattle.loader_users.proofs.Families.{take_more}

-- a row's file was read: a run-time library file of these segments
abbrev pub IsGood : Option FileMap → List ℕ → List Segment → Type 0
IsGood held path segments = (file : List ℕ) × IsRead held path file × IsRuntime file segments × (length segments < 2 ^ 16)

abbrev pub AreGood : Option FileMap → List (List ℕ) → List (List Segment) → Type 0
AreGood held [] [] = Unit {0}
AreGood held [] (segments ∷ all) = ⊥
AreGood held (path ∷ paths) [] = ⊥
AreGood held (path ∷ paths) (segments ∷ all) = IsGood held path segments × AreGood held paths all

module _ (held : Option FileMap) where
  pub good_all : (paths : List (List ℕ)) (all : List (List Segment)) (faults : ℕ) → AreGood held paths all → AreRowsRead held paths faults faults (Joins all)
  good_all [] [] faults good = (refl, refl)
  good_all [] (segments ∷ all) faults good = absurd good
  good_all (path ∷ paths) [] faults good = absurd good
  good_all (path ∷ paths) (segments ∷ all) faults (one, good) = inr (one.0, one.1, inr (segments, one.2, Joins all, good_all paths all faults good, refl))

  -- the call stops at the row at a place
  Stops-here : List ℕ → ℕ → ℕ → LoaderFault → Type 0
  Stops-here path before now why = ((why ≡ fault.CannotRead) × IsUnread held path before now)
      ⊎ ((file : List ℕ) × (bad : LoadFault) × IsRead held path file × IsFirstRuntimeFault file bad × (why ≡ fault.BadFile bad) × (now ≡ before))

  stop_first : (path : List ℕ) (paths : List (List ℕ)) (before now : ℕ) (why : LoaderFault) → Stops-here path before now why → AreRowsRead held (path ∷ paths) before now (Stops 1 why)
  unfolding Stops-here
  stop_first path paths before now why (inl (is, unread)) = inl (unread, ap (λ (f : LoaderFault). Stops 1 f) is)
  stop_first path paths before now why (inr (file, bad, is_read, first, is, same)) = inr (file, is_read, inl (bad, first, ap (λ (f : LoaderFault). Stops 1 f) is, same))

  stop_at : (k : ℕ) (paths : List (List ℕ)) (all : List (List Segment)) (path : List ℕ) (before now : ℕ) (why : LoaderFault) → AreGood held (take k paths) all → slice_get paths k ≡ Some path → Stops-here path before now why
      → AreRowsRead held paths before now (Stops (k + 1) why)
  stop_at k [] all path before now why good is stops = absurd cc
  stop_at zero (one ∷ paths) all path before now why good is stops =
      stop_first one paths before now why (subst (λ (p : List ℕ). Stops-here p before now why) (sym (same_Some one path is)) stops)
  stop_at (suc k) (one ∷ paths) [] path before now why good is stops = absurd good
  stop_at (suc k) (one ∷ paths) (segments ∷ all) path before now why (first, good) is stops =
      let e : suc k + 1 ≡ k + 1 + 1 = omega arith in
      inr (first.0, first.1, inr (segments, first.2, Stops (k + 1) why, stop_at k paths all path before now why good is stops, ap (λ (n : ℕ). Stops n why) e))

  -- why no user of a row is made, but for memory
  pub stops_rows : (k : ℕ) (paths : List (List ℕ)) (all : List (List Segment)) (path : List ℕ) (before now : ℕ) (why : LoaderFault) → AreGood held (take k paths) all → slice_get paths k ≡ Some path → JoinStops held path before now why
      → AreRowsRead held paths before now (Stops (k + 1) why) ⊎ ((why ≡ fault.Memory) × (now ≡ before))
  unfolding Stops-here
  stops_rows k paths all path before now why good is (inl stops) = inl (stop_at k paths all path before now why good is (inl stops))
  stops_rows k paths all path before now why good is (inr (inl stops)) = inl (stop_at k paths all path before now why good is (inr stops))
  stops_rows k paths all path before now why good is (inr (inr short)) = inr short

  -- ---- one row more

  good_after : (paths : List (List ℕ)) (all : List (List Segment)) (path : List ℕ) (segments : List Segment) → AreGood held paths all → IsGood held path segments → AreGood held (paths ++ path ∷ []) (all ++ segments ∷ [])
  good_after [] [] path segments good one = (one, tt)
  good_after [] (s ∷ all) path segments good one = absurd good
  good_after (p ∷ paths) [] path segments good one = absurd good
  good_after (p ∷ paths) (s ∷ all) path segments (first, good) one = (first, good_after paths all path segments good one)

  kepts_after : (paths : List (List ℕ)) (all : List (List Segment)) (path : List ℕ) (segments : List Segment) → AreGood held paths all
      → joined_kepts (paths ++ path ∷ []) (all ++ segments ∷ []) ≡ joined_kepts paths all ++ Some (joined_kept path (map head_of segments)) ∷ []
  kepts_after [] [] path segments good = refl
  kepts_after [] (s ∷ all) path segments good = absurd good
  kepts_after (p ∷ paths) [] path segments good = absurd good
  kepts_after (p ∷ paths) (s ∷ all) path segments (first, good) = ap (λ (l : List (Option LoadedUser)). Some (joined_kept p (map head_of s)) ∷ l) (kepts_after paths all path segments good)

  pub good_more : (paths : List (List ℕ)) (all : List (List Segment)) (k : ℕ) (path : List ℕ) (segments : List Segment) → slice_get paths k ≡ Some path → AreGood held (take k paths) all → IsGood held path segments
      → AreGood held (take (k + 1) paths) (all ++ segments ∷ [])
  good_more paths all k path segments is good one = subst (λ (ps : List (List ℕ)). AreGood held ps (all ++ segments ∷ [])) (sym (take_more paths k path is)) (good_after (take k paths) all path segments good one)

  pub users_more : (paths : List (List ℕ)) (all : List (List Segment)) (k : ℕ) (path : List ℕ) (segments : List Segment) (users : List LoadedUser) (user : LoadedUser) → slice_get paths k ≡ Some path → AreGood held (take k paths) all
      → user ≡ joined_kept path (map head_of segments) → map (λ (u : LoadedUser). Some u) users ≡ joined_kepts (take k paths) all
      → map (λ (u : LoadedUser). Some u) (users ++ user ∷ []) ≡ joined_kepts (take (k + 1) paths) (all ++ segments ∷ [])
  users_more paths all k path segments users user is good made so_far =
      map-append (λ (u : LoadedUser). Some u) users (user ∷ []) ∙ ap (λ (l : List (Option LoadedUser)). l ++ Some user ∷ []) so_far
      ∙ ap (λ (u : LoadedUser). joined_kepts (take k paths) all ++ Some u ∷ []) made ∙ sym (kepts_after (take k paths) all path segments good)
      ∙ ap (λ (ps : List (List ℕ)). joined_kepts ps (all ++ segments ∷ [])) (sym (take_more paths k path is))

  -- ---- all rows

  good_long : (paths : List (List ℕ)) (all : List (List Segment)) → AreGood held paths all → length all ≡ length paths
  good_long [] [] good = refl
  good_long [] (s ∷ all) good = absurd good
  good_long (p ∷ paths) [] good = absurd good
  good_long (p ∷ paths) (s ∷ all) (first, good) = ap suc (good_long paths all good)

  good_at : (paths : List (List ℕ)) (all : List (List Segment)) → AreGood held paths all → (j : ℕ) (segments : List Segment) → slice_get all j ≡ Some segments
      → (length segments < 2 ^ 16) × ((file : List ℕ) × IsRuntime file segments)
  good_at [] [] good j segments is = absurd cc
  good_at [] (s ∷ all) good j segments is = absurd good
  good_at (p ∷ paths) [] good j segments is = absurd good
  good_at (p ∷ paths) (s ∷ all) (first, good) zero segments is =
      subst (λ (x : List Segment). (length x < 2 ^ 16) × ((file : List ℕ) × IsRuntime file x)) (same_Some s segments is) (first.3, (first.0, first.2))
  good_at (p ∷ paths) (s ∷ all) (first, good) (suc j) segments is = good_at paths all good j segments is

  pub good_users : (paths : List (List ℕ)) (all : List (List Segment)) (users : List LoadedUser) → AreGood held paths all → map (λ (u : LoadedUser). Some u) users ≡ joined_kepts paths all → AreJoinedUsers paths all users
  good_users paths all users good made = record {
    long = good_long paths all good;
    shorts = λ j segments is. (good_at paths all good j segments is).0;
    runtimes = λ j segments is. (good_at paths all good j segments is).1;
    users' = made;
  }

  pub good_length : (paths : List (List ℕ)) (all : List (List Segment)) → AreGood held paths all → length all ≡ length paths
  good_length paths all good = good_long paths all good
