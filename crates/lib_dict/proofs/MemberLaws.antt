-- Files that are read one after another.
use Rattle.std.proofs.Common.{◌≡◌, ℕ, zero, suc, ◌+◌, ◌^◌, ◌<◌, ◌≤◌, Bool, true, false, List, [], ◌∷◌, ◌++◌, length, take, drop, get_or, map, Some, refl, sym, ap, subst, ◌∙◌, arith}
use Rattle.std.specs.Prelude.{◌||◌, slice_get}
use Rattle.std.specs.List.{list_any}
use Rattle.std.proofs.lemmas.List.{take_more, map-append, length-take, length-map}
use Rattle.omf_format.specs.File.{Segment, IsFile, segment_at}
use Rattle.omf_format.specs.laws.FileLaws.{segments_fit}
use Rattle.omf_records.specs.declared.segment.SegmentView.{SegmentView}
use Rattle.omf_records.specs.Segments.{segment_of_view}
use Rattle.omf_records.specs.SegmentLaws.{shown_at}
use Rattle.lib_dict.specs.declared.fault.LibCause.{LibCause}
use Rattle.lib_dict.specs.declared.fault.LibCause.TheVariants.{Truncated, BadHeader, Unsupported, BadRecord, TooLong, Memory}
use Rattle.lib_dict.specs.declared.fault.LibFault.{LibFault}
use Rattle.lib_dict.specs.declared.member.Member.{Member}
use Rattle.lib_dict.specs.declared.members.MemberRead.{MemberRead}
use Rattle.lib_dict.specs.Library.{LibraryInput, LibraryFile, is_dictionary, IsMember, AreMembers}
use Rattle.lib_dict.specs.Made.{given_file, library_file, FirstDictionary, HasMemberFault, IsFirstMemberFault, ByCause, IsMemberRefused, IsLibRefused}
use Rattle.lib_dict.proofs.Sets.{list_any-append, or_false}

-- ---- the first dictionary

-- the segments so far are none
pub record PassedOthers (list : List Segment) (passed : ℕ) : Type 0 where
  pub within : passed ≤ length list
  pub none : list_any is_dictionary (take passed list) ≡ false

take-at : (list : List Segment) (k : ℕ) (s : Segment) → slice_get list k ≡ Some s → take (k + 1) list ≡ take k list ++ s ∷ []
take-at [] k s is = absurd cc
take-at (t ∷ list) zero s is = let same : t ≡ s = cc in ap (λ (u : Segment). u ∷ []) same
take-at (t ∷ list) (suc k) s is = let step : suc k + 1 ≡ suc (k + 1) = omega arith in ap (λ (n : ℕ). take n (t ∷ list)) step ∙ ap (λ (l : List Segment). t ∷ l) (take-at list k s is)

parts-at : (list : List Segment) (k : ℕ) (s : Segment) → slice_get list k ≡ Some s → list ≡ take k list ++ s ∷ drop (k + 1) list
parts-at [] k s is = absurd cc
parts-at (t ∷ list) zero s is = let same : t ≡ s = cc in ap (λ (u : Segment). u ∷ list) same
parts-at (t ∷ list) (suc k) s is =
    let step : suc k + 1 ≡ suc (k + 1) = omega arith in
    ap (λ (l : List Segment). t ∷ l) (parts-at list k s is) ∙ ap (λ (n : ℕ). (t ∷ take k list) ++ s ∷ drop n (t ∷ list)) (sym step)

within-at : (list : List Segment) (k : ℕ) (s : Segment) → slice_get list k ≡ Some s → k < length list
within-at [] k s is = absurd cc
within-at (t ∷ list) zero s is = omega arith
within-at (t ∷ list) (suc k) s is = let rest = within-at list k s is in omega arith

pub passed_next : (list : List Segment) (k : ℕ) (v : SegmentView) → PassedOthers list k → Some (segment_of_view v) ≡ segment_at list (k + 1) → is_dictionary (segment_of_view v) ≡ false → PassedOthers list (k + 1)
passed_next list k v p is other =
    let here = shown_at list k v is in
    let lt = within-at list k (segment_of_view v) here in
    record {
      within = omega arith;
      none =
          ap (list_any is_dictionary) (take-at list k (segment_of_view v) here)
          ∙ list_any-append is_dictionary (take k list) (segment_of_view v ∷ [])
          ∙ ap (λ (b : Bool). b || (is_dictionary (segment_of_view v) || false)) p.none
          ∙ or_false (is_dictionary (segment_of_view v))
          ∙ other;
    }

pub passed_found : (list : List Segment) (k : ℕ) (v : SegmentView) → PassedOthers list k → Some (segment_of_view v) ≡ segment_at list (k + 1) → is_dictionary (segment_of_view v) ≡ true → FirstDictionary list (Some (k + 1, v.start))
passed_found list k v p is found =
    let here = shown_at list k v is in
    let lt = within-at list k (segment_of_view v) here in
    (take k list, segment_of_view v, drop (k + 1) list, parts-at list k (segment_of_view v) here, p.none, found, omega (arith, length-take k list), refl)

-- ---- a file

-- the segments of a file are few
pub few_in : (list : List Segment) (bytes : List ℕ) → IsFile list bytes → length bytes < 2 ^ 32 → length list + 2 < 2 ^ 32
few_in list bytes is short = omega (arith, segments_fit list 0 bytes (length bytes) is)

-- ---- all files

-- one file more
AreMembers-push : (given : List LibraryInput) (files : List LibraryFile) (g : LibraryInput) (f : LibraryFile) → AreMembers given files → IsMember g f → AreMembers (given ++ g ∷ []) (files ++ f ∷ [])
AreMembers-push [] [] g f are is = (is, tt)
AreMembers-push [] (x ∷ files) g f are is = absurd are
AreMembers-push (y ∷ given) [] g f are is = absurd are
AreMembers-push (y ∷ given) (x ∷ files) g f are is = (are.0, AreMembers-push given files g f are.1 is)

-- the files so far were read
pub record ReadSoFar (members : List Member) (i file : ℕ) (reads : List MemberRead) : Type 0 where
  pub number : file ≡ i + 1
  pub are : AreMembers (map given_file (take i members)) (map library_file reads)

pub read_more : (members : List Member) (i file : ℕ) (reads new : List MemberRead) (m : Member) (r : MemberRead) → ReadSoFar members i file reads → i < length members → m ≡ get_or members i m
    → IsMember (given_file m) (library_file r) → new ≡ reads ++ r ∷ [] → ReadSoFar members (i + 1) (file + 1) new
read_more members i file reads new m r so_far lt is one is_new =
    let front : map given_file (take (i + 1) members) ≡ map given_file (take i members) ++ given_file m ∷ [] =
    ap (map given_file) (take_more members i m lt ∙ ap (λ (x : Member). take i members ++ x ∷ []) (sym is)) ∙ map-append given_file (take i members) (m ∷ []) in
    let back : map library_file new ≡ map library_file reads ++ library_file r ∷ [] = ap (map library_file) is_new ∙ map-append library_file reads (r ∷ []) in
    record {
      number = omega (arith, so_far.number);
      are =
          subst (λ (l : List LibraryInput). AreMembers l (map library_file new)) (sym front)
          (subst (AreMembers (map given_file (take i members) ++ given_file m ∷ [])) (sym back)
          (AreMembers-push (map given_file (take i members)) (map library_file reads) (given_file m) (library_file r) so_far.are one));
    }

parts-member : (members : List Member) (i : ℕ) (m : Member) → i < length members → m ≡ get_or members i m → members ≡ take i members ++ m ∷ drop (suc i) members
parts-member [] i m lt is = absurd (omega arith)
parts-member (x ∷ members) zero m lt is = ap (λ (y : Member). y ∷ members) (sym is)
parts-member (x ∷ members) (suc i) m lt is = ap (λ (l : List Member). x ∷ l) (parts-member members i m (omega arith) is)

-- a file at fault
pub read_fails : (members : List Member) (i file : ℕ) (reads : List MemberRead) (m : Member) (fault : LibFault) → ReadSoFar members i file reads → i < length members → m ≡ get_or members i m
    → IsMemberRefused fault file m.bytes.items → IsLibRefused fault (map given_file members)
read_fails members i file reads m fault so_far lt is refused = by fault.cause _ _ refused
  where
    first : (fault.spot.file ≡ file) × HasMemberFault m.bytes.items fault.cause fault.spot.segment fault.spot.at → IsFirstMemberFault (map given_file members) fault
    first h = record {
      before = map given_file (take i members);
      file = given_file m;
      following = map given_file (drop (suc i) members);
      parts = ap (map given_file) (parts-member members i m lt is) ∙ map-append given_file (take i members) (m ∷ drop (suc i) members);
      files = map library_file reads;
      sound = so_far.are;
      number = omega (arith, h.0, so_far.number, length-map (take i members) given_file, length-take i members);
      here = h.1;
    }

    by : (cause : LibCause) (L M : Type 0) → ByCause cause ((fault.spot.file ≡ file) × HasMemberFault m.bytes.items fault.cause fault.spot.segment fault.spot.at) ⊥ M
        → ByCause cause (IsFirstMemberFault (map given_file members) fault) L M
    by Truncated L M h = first h
    by BadHeader L M h = first h
    by Unsupported L M h = first h
    by BadRecord L M h = first h
    by TooLong L M h = absurd h
    by Memory L M h = h
