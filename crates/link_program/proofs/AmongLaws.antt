-- The members and offers of inputs are from their files, and there are few of them.
use Rattle.std.proofs.Common.{◌≡◌, ◌⊎◌, inl, inr, ℕ, suc, ◌+◌, Bool, true, false, List, [], ◌∷◌, map, Option, Some, None, refl, sym, ap, subst, ◌∙◌, arith}
use Rattle.std.specs.Prelude.{slice_get, option_and_then, if◌then◌else◌}
use Rattle.std.specs.List.{filter_map, cons_option}
use Rattle.omf_format.specs.File.{Segment, segment_at}
use Rattle.link_meaning.specs.First.{IsIn}
use Rattle.link_meaning.specs.Member.{OfferedRow, Input, Member, Offer, is_library, members_from, objects_from, objects, offer_of, offers_from, library_offers, LinkSetting}
use Rattle.link_meaning.specs.LinkFaults.{segments_fault}
use Rattle.link_meaning.specs.laws.ProgressLaws.{AreSound}
use Rattle.lib_dict.specs.DictionaryLayout.{DefinesSo}
use Rattle.lib_dict.specs.Library.{row_view}
use Rattle.link_program.specs.Files.{segment_in, IsAmong, AllAmong}
use Rattle.link_program.specs.Inputs.{IsSoundInput}
use Rattle.link_program.proofs.RowLaws.{row_place, offer_is}
use Rattle.link_program.proofs.OpeningLaws.{in_either}

-- the files from a number on are the inputs' segments
abbrev After : List (List Segment) → ℕ → List Input → Type 0
After files n inputs = (k : ℕ) → slice_get files (n + k) ≡ slice_get (map (λ i. i.segments) inputs) k

after_more : (files : List (List Segment)) (n : ℕ) (i : Input) (inputs : List Input) → After files n (i ∷ inputs) → After files (n + 1) inputs
after_more files n i inputs following k = let same : n + 1 + k ≡ n + suc k = omega arith in ap (slice_get files) same ∙ following (suc k)

file_at : (files : List (List Segment)) (n : ℕ) (i : Input) (inputs : List Input) → After files n (i ∷ inputs) → slice_get files n ≡ Some i.segments
file_at files n i inputs following = let same : n ≡ n + 0 = omega arith in ap (slice_get files) same ∙ following 0

-- the segment of a file
stands : (files : List (List Segment)) (n k : ℕ) (segments : List Segment) (s : Segment) (file number : ℕ) → slice_get files n ≡ Some segments → slice_get segments k ≡ Some s → file ≡ n + 1 → number ≡ k + 1 → segment_in files file number ≡ Some s
stands files n k segments s file number there here f e =
    let is_file : file ≡ suc n = omega (arith, f) in
    let is_number : number ≡ suc k = omega (arith, e) in
    ap (λ (x : ℕ). segment_in files x number) is_file
    ∙ ap (λ (x : ℕ). segment_in files (suc n) x) is_number
    ∙ ap (λ (o : Option (List Segment)). option_and_then (λ (l : List Segment). segment_at l (suc k)) o) there
    ∙ here

-- ---- objects

record IsFrom (file n : ℕ) (list : List Segment) (m : Member) : Type 0 where
  k : ℕ
  file' : m.file ≡ file
  number : m.number ≡ n + k
  here : slice_get list k ≡ Some m.segment

member_from : (setting : LinkSetting) (file n : ℕ) (list : List Segment) (m : Member) → IsIn (members_from setting file n list) m → IsFrom file n list m
member_from setting file n [] m is = absurd is
member_from setting file n (s ∷ list) m (inl e) = record {
  k = 0;
  file' = sym (ap (λ (x : Member). x.file) e);
  number = omega (arith, sym (ap (λ (x : Member). x.number) e));
  here = ap (λ (x : Member). some x.segment) e;
}
  where
    some : Segment → Option Segment
    some x = Some x
member_from setting file n (s ∷ list) m (inr is) =
    let rest = member_from setting file (n + 1) list m is in
    record { k = suc rest.k; file' = rest.file'; number = omega (arith, rest.number); here = rest.here }

objects_among_from : (setting : LinkSetting) (files : List (List Segment)) (n : ℕ) (inputs : List Input) → After files n inputs → AllAmong files (objects_from setting (n + 1) inputs)
objects_among_from setting files n [] following m is = absurd is
objects_among_from setting files n (i ∷ inputs) following m is =
    settle (in_either (if is_library i.segments then [] else members_from setting (n + 1) 1 i.segments) (objects_from setting (n + 1 + 1) inputs) m is) (λ more. objects_among_from setting files (n + 1) inputs (after_more files n i inputs following) m more)
  where
    own : (b : Bool) → IsIn (if b then [] else members_from setting (n + 1) 1 i.segments) m → IsAmong files m
    own true is = absurd is
    own false is =
        let f = member_from setting (n + 1) 1 i.segments m is in
        stands files n f.k i.segments m.segment m.file m.number (file_at files n i inputs following) f.here f.file' (omega (arith, f.number))

    settle : IsIn (if is_library i.segments then [] else members_from setting (n + 1) 1 i.segments) m ⊎ IsIn (objects_from setting (n + 1 + 1) inputs) m → (IsIn (objects_from setting (n + 1 + 1) inputs) m → IsAmong files m) → IsAmong files m
    settle (inl a) go = own (is_library i.segments) a
    settle (inr b) go = go b

following_all : (inputs : List Input) → After (map (λ i. i.segments) inputs) 0 inputs
following_all inputs k = let same : 0 + k ≡ k = omega arith in ap (slice_get (map (λ (i : Input). i.segments) inputs)) same

pub objects_among : (setting : LinkSetting) (files : List (List Segment)) (inputs : List Input) → files ≡ map (λ i. i.segments) inputs → AllAmong files (objects setting inputs)
unfolding objects
objects_among setting files inputs are = subst (λ (l : List (List Segment)). AllAmong l (objects_from setting 1 inputs)) (sym are) (objects_among_from setting (map (λ (i : Input). i.segments) inputs) 0 inputs (following_all inputs))

-- ---- offers

abbrev AllSound : List Input → Type 0
AllSound inputs = (i : Input) → IsIn inputs i → IsSoundInput i

-- the row that offers it
record IsOffered (setting : LinkSetting) (file : ℕ) (segments : List Segment) (rows : List OfferedRow) (o : Offer) : Type 0 where
  row : OfferedRow
  among : IsIn rows row
  is : offer_of setting file segments row ≡ Some o

offered : (setting : LinkSetting) (file : ℕ) (segments : List Segment) (rows : List OfferedRow) (o : Offer) → IsIn (filter_map (offer_of setting file segments) rows) o → IsOffered setting file segments rows o
offered setting file segments [] o is = absurd is
offered setting file segments (r ∷ rows) o is = settle (offer_of setting file segments r) refl is (λ more. offered setting file segments rows o more)
  where
    settle : (x : Option Offer) → offer_of setting file segments r ≡ x → IsIn (cons_option x (filter_map (offer_of setting file segments) rows)) o → (IsIn (filter_map (offer_of setting file segments) rows) o → IsOffered setting file segments rows o) → IsOffered setting file segments (r ∷ rows) o
    settle None e is go = let rest = go is in record { row = rest.row; among = inr rest.among; is = rest.is }
    settle (Some p) e (inl same) go = record { row = r; among = inl refl; is = e ∙ ap (λ (z : Offer). Some z) same }
    settle (Some p) e (inr is) go = let rest = go is in record { row = rest.row; among = inr rest.among; is = rest.is }

-- what an offer of inputs is
record Stands (files : List (List Segment)) (o : Offer) : Type 0 where
  among : IsAmong files o.member
  defines : DefinesSo o.member.segment o.name o.private

of_row : (setting : LinkSetting) (files : List (List Segment)) (n : ℕ) (i : Input) (o : Offer) → slice_get files n ≡ Some i.segments → IsSoundInput i → IsOffered setting (n + 1) i.segments i.rows o → Stands files o
of_row setting files n i o there sound is =
    let s = sound.1 is.row is.among in
    let p = row_place i.segments is.row (row_view i.segments is.row) refl s in
    let same = offer_is setting (n + 1) i.segments is.row o p.k p.segment is.is p.number p.here in
    let segment : Some s.segment ≡ some p.segment = sym s.here ∙ ap (segment_at i.segments) p.number ∙ p.here in
    let one : s.segment ≡ p.segment = same_segment s.segment p.segment segment in
    record {
      among = stands files n p.k i.segments o.member.segment o.member.file o.member.number there (p.here ∙ ap (λ (x : Offer). some x.member.segment) (sym same)) (ap (λ (x : Offer). x.member.file) same)
          (ap (λ (x : Offer). x.member.number) same ∙ omega (arith, p.number));
      defines = subst (λ (x : Offer). DefinesSo x.member.segment x.name x.private) (sym same) (subst (λ (x : Segment). DefinesSo x is.row.name is.row.private) one s.defines);
    }
  where
    some : Segment → Option Segment
    some x = Some x

    same_segment : (a b : Segment) → Some a ≡ Some b → a ≡ b
    same_segment a b e = cc

offers_stand : (setting : LinkSetting) (files : List (List Segment)) (n : ℕ) (inputs : List Input) → After files n inputs → AllSound inputs → (o : Offer) → IsIn (offers_from setting (n + 1) inputs) o → Stands files o
offers_stand setting files n [] following sound o is = absurd is
offers_stand setting files n (i ∷ inputs) following sound o is =
    settle (in_either (filter_map (offer_of setting (n + 1) i.segments) i.rows) (offers_from setting (n + 1 + 1) inputs) o is) (λ more. offers_stand setting files (n + 1) inputs (after_more files n i inputs following) (λ j there. sound j (inr there)) o more)
  where
    settle : IsIn (filter_map (offer_of setting (n + 1) i.segments) i.rows) o ⊎ IsIn (offers_from setting (n + 1 + 1) inputs) o → (IsIn (offers_from setting (n + 1 + 1) inputs) o → Stands files o) → Stands files o
    settle (inl a) go = of_row setting files n i o (file_at files n i inputs following) (sound i (inl refl)) (offered setting (n + 1) i.segments i.rows o a)
    settle (inr b) go = go b

all_stand : (setting : LinkSetting) (files : List (List Segment)) (inputs : List Input) → files ≡ map (λ i. i.segments) inputs → AllSound inputs → (o : Offer) → IsIn (library_offers setting inputs) o → Stands files o
unfolding library_offers
all_stand setting files inputs are sound o is =
    subst (λ (l : List (List Segment)). Stands l o) (sym are) (offers_stand setting (map (λ (i : Input). i.segments) inputs) 0 inputs (following_all inputs) sound o is)

pub offers_among : (setting : LinkSetting) (files : List (List Segment)) (inputs : List Input) → files ≡ map (λ i. i.segments) inputs → AllSound inputs → (o : Offer) → IsIn (library_offers setting inputs) o → IsAmong files o.member
offers_among setting files inputs are sound o is = (all_stand setting files inputs are sound o is).among

pub offers_sound : (setting : LinkSetting) (files : List (List Segment)) (inputs : List Input) → files ≡ map (λ i. i.segments) inputs → AllSound inputs → AreSound (library_offers setting inputs)
offers_sound setting files inputs are sound o is = let d = (all_stand setting files inputs are sound o is).defines in (d.by, d.among, d.name', d.scope)

pub files_sound : (files : List (List Segment)) (inputs : List Input) → files ≡ map (λ i. i.segments) inputs → AllSound inputs → (segments : List Segment) → IsIn files segments → segments_fault 1 segments ≡ None
files_sound files inputs are sound segments is = over inputs sound (subst (λ (l : List (List Segment)). IsIn l segments) are is)
  where
    over : (inputs : List Input) → AllSound inputs → IsIn (map (λ i. i.segments) inputs) segments → segments_fault 1 segments ≡ None
    over [] sound is = absurd is
    over (i ∷ inputs) sound (inl e) = subst (λ (l : List Segment). segments_fault 1 l ≡ None) e (sound i (inl refl)).0
    over (i ∷ inputs) sound (inr is) = over inputs (λ j there. sound j (inr there)) is
