-- There is a linked list: each member that is wanted is new, and the rows are finitely many.
use Rattle.std.proofs.Common.{◌≡◌, ◌⊎◌, inl, inr, ℕ, zero, suc, ◌+◌, ◌-◌, ◌<◌, Bool, true, false, List, [], ◌∷◌, ◌++◌, length, Option, Some, None, Result, Ok, refl, sym, ap, subst, ◌∙◌, arith}
use Rattle.std.specs.Prelude.{◌&&◌, ◌==◌, not, slice_get, option_map, if◌then◌else◌}
use Rattle.std.specs.Option.{option_or}
use Rattle.std.specs.List.{filter_map, cons_option}
use Rattle.std.specs.Str.{bytes_eq}
use Rattle.omf_format.specs.File.{Segment, segment_at}
use Rattle.lib_dict.specs.DictionaryLayout.{RowsAreLaidOut, DefinesSo, AreRows, IsDictionary}
use Rattle.link_meaning.specs.declared.search.SearchKind.{SearchKind}
use Rattle.link_meaning.specs.declared.search.SearchKind.TheVariants.{Data, One, Any}
use Rattle.link_meaning.specs.First.{IsIn}
use Rattle.link_meaning.specs.laws.FirstLaws.{first_some-first}
use Rattle.link_meaning.specs.Member.{OfferedRow, Input, LinkSetting, Member, Offer, is_library, objects, offer_of, offers_from, library_offers}
use Rattle.link_meaning.specs.Dictionary.{rows_of}
use Rattle.link_meaning.specs.Search.{FoundDefinition, finds, finds_data}
use Rattle.link_meaning.specs.Uses.{Use}
use Rattle.link_meaning.specs.LinkedList.{PlacedUse, counts_for, first_offer, row_for, found_for, wanted_by, all_uses, wanted, Follow, IsLinked}
use Rattle.link_meaning.specs.LinkFaults.{IsInput, AreInputs}
use Rattle.link_meaning.specs.laws.ProgressLaws.{AreSound, fresh_name, fresh_data}
use Rattle.link_meaning.specs.laws.Steps.{unless_found}

-- ---- the rows of read libraries define their names

in_either : {A : Type 0} (xs ys : List A) (x : A) → IsIn (xs ++ ys) x → IsIn xs x ⊎ IsIn ys x
in_either [] ys x is = inr is
in_either (y ∷ xs) ys x (inl e) = inl (inl e)
in_either (y ∷ xs) ys x (inr more) = elim (in_either xs ys x more) [ inl h ↦ inl (inr h) | inr h ↦ inr h ]

-- a row, its segment and what that defines
record Stands (segments : List Segment) (row : OfferedRow) : Type 0 where
  segment : Segment
  here : slice_get segments (row.segment - 1) ≡ Some segment
  defines : DefinesSo segment row.name row.private

stands : (segments : List Segment) (numbers : List ℕ) (names : List (List ℕ)) (rows : List OfferedRow) (bytes : List ℕ) → AreRows segments numbers names rows bytes
    → (row : OfferedRow) → IsIn rows row → Stands segments row
stands segments numbers names [] bytes are row is = absurd is
stands segments numbers names (r ∷ rows) bytes are row (inl same) =
    subst (Stands segments) same (record { segment = are.4.segment; here = place r.segment are.4.here are.4.following; defines = are.4.defines })
  where
    place : (n : ℕ) → segment_at segments n ≡ Some are.4.segment → 1 < n → slice_get segments (n - 1) ≡ Some are.4.segment
    place zero here some = absurd (omega (arith, some))
    place (suc k) here some = let same : suc k - 1 ≡ k = omega arith in ap (slice_get segments) same ∙ here
stands segments numbers names (r ∷ rows) bytes are row (inr more) = stands segments numbers names rows are.1 are.5 row more

some_same : {A : Type 0} (x y : A) → Some x ≡ Some y → x ≡ y
some_same x y e = cc

record Defines (o : Offer) : Type 0 where
  is : DefinesSo o.member.segment o.name o.private

of_row : (setting : LinkSetting) (file : ℕ) (segments : List Segment) (row : OfferedRow) (o : Offer) → Stands segments row → offer_of setting file segments row ≡ Some o → Defines o
of_row setting file segments row o stands is =
    let made : Segment → Offer = λ s. record { name = row.name; private = row.private; member = record { file = file; number = row.segment; from = row.from; segment = s; setting = setting } } in
    let same : made stands.segment ≡ o = some_same (made stands.segment) o (sym (ap (λ (x : Option Segment). option_map made x) stands.here) ∙ is) in
    subst Defines same (record { is = stands.defines })

offered : (setting : LinkSetting) (file : ℕ) (segments : List Segment) (rows : List OfferedRow) (o : Offer) → ((row : OfferedRow) → IsIn rows row → Stands segments row)
    → IsIn (filter_map (offer_of setting file segments) rows) o → Defines o
offered setting file segments [] o all is = absurd is
offered setting file segments (r ∷ rows) o all is =
    settle (offer_of setting file segments r) refl is (λ more. offered setting file segments rows o (λ row there. all row (inr there)) more)
  where
    settle : (x : Option Offer) → offer_of setting file segments r ≡ x → IsIn (cons_option x (filter_map (offer_of setting file segments) rows)) o
        → (IsIn (filter_map (offer_of setting file segments) rows) o → Defines o) → Defines o
    settle None e is go = go is
    settle (Some p) e (inl same) go = of_row setting file segments r o (all r (inl refl)) (e ∙ ap (λ (z : Offer). Some z) same)
    settle (Some p) e (inr is) go = go is

abbrev read_as : List OfferedRow → Result (List OfferedRow) ℕ
read_as rows = Ok rows

rows_same : (a b : List OfferedRow) → read_as a ≡ read_as b → a ≡ b
rows_same a b e = cc

-- the rows of an input stand in its segments
rows_stand : RowsAreLaidOut → (bytes : List ℕ) (input : Input) → IsInput bytes input → (row : OfferedRow) → IsIn input.rows row → Stands input.segments row
rows_stand laid bytes input is row there = by_library (is_library input.segments) refl is.rows
  where
    by_library : (b : Bool) → is_library input.segments ≡ b → (if b then rows_of input.segments else Ok []) ≡ Ok input.rows → Stands input.segments row
    by_library true library read =
        let d : IsDictionary input.segments input.rows = laid input.segments input.rows library read in
        stands input.segments d.numbers d.names input.rows d.second d.rows' row there
    by_library false other read = absurd (subst (λ (l : List OfferedRow). IsIn l row) (sym (rows_same [] input.rows read)) there)

offers_define : RowsAreLaidOut → (setting : LinkSetting) (number : ℕ) (files : List (List ℕ)) (inputs : List Input) → AreInputs files inputs → (o : Offer) → IsIn (offers_from setting number inputs) o → Defines o
offers_define laid setting number [] [] are o is = absurd is
offers_define laid setting number [] (input ∷ inputs) are o is = absurd are
offers_define laid setting number (bytes ∷ files) [] are o is = absurd are
offers_define laid setting number (bytes ∷ files) (input ∷ inputs) are o is =
    elim (in_either (filter_map (offer_of setting number input.segments) input.rows) (offers_from setting (number + 1) inputs) o is) [
      | inl here ↦ offered setting number input.segments input.rows o (rows_stand laid bytes input are.0) here
      | inr more ↦ offers_define laid setting (number + 1) files inputs are.1 o more
    ]

offers_are_sound : RowsAreLaidOut → (setting : LinkSetting) (files : List (List ℕ)) (inputs : List Input) → AreInputs files inputs → AreSound (library_offers setting inputs)
unfolding library_offers
offers_are_sound laid setting files inputs are o is = let d = (offers_define laid setting 1 files inputs are o is).is in (d.by, d.among, d.name', d.scope)

-- ---- what is wanted is a row's member, and new

record IsOffered (offers : List Offer) (m : Member) : Type 0 where
  offer : Offer
  among : IsIn offers offer
  member : offer.member ≡ m

chosen : (test : Offer → Bool) (offers : List Offer) (m : Member) → first_offer test offers ≡ Some m → IsOffered offers m
chosen test [] m e = absurd cc
chosen test (o ∷ offers) m e = by_test (test o) e (λ rest. chosen test offers m rest)
  where
    by_test : (t : Bool) → (if t then Some o.member else first_offer test offers) ≡ Some m → (first_offer test offers ≡ Some m → IsOffered offers m) → IsOffered (o ∷ offers) m
    by_test true e go = record { offer = o; among = inl refl; member = some_same o.member m e }
    by_test false e go = let rest = go e in record { offer = rest.offer; among = inr rest.among; member = rest.member }

row_offered : (offers : List Offer) (u : Member) (use' : Use) (m : Member) → row_for offers u use' ≡ Some m → IsOffered offers m
unfolding row_for
row_offered offers u use' m e =
    settle (first_offer (λ o. counts_for use' o && (o.private && u.file == o.member.file && u.from == o.member.from)) offers) refl e
  where
    settle : (x : Option Member) → first_offer (λ o. counts_for use' o && (o.private && u.file == o.member.file && u.from == o.member.from)) offers ≡ x
        → option_or x (first_offer (λ o. counts_for use' o && not o.private) offers) ≡ Some m → IsOffered offers m
    settle (Some n) is e = chosen _ offers m (is ∙ e)
    settle None is e = chosen (λ o. counts_for use' o && not o.private) offers m e

-- a weak name has no row
abbrev weak_use : List ℕ → ℕ → Use
weak_use name at = record { want = Any; name = name; at = at }

none_counts : (more : Offer → Bool) (name : List ℕ) (at : ℕ) (offers : List Offer) → first_offer (λ o. counts_for (weak_use name at) o && more o) offers ≡ None
none_counts more name at [] = refl
none_counts more name at (o ∷ offers) = by_name (bytes_eq name o.name) (none_counts more name at offers)
  where
    by_name : (b : Bool) → first_offer (λ o. counts_for (weak_use name at) o && more o) offers ≡ None
        → (if (b && false) && more o then Some o.member else first_offer (λ o. counts_for (weak_use name at) o && more o) offers) ≡ None
    by_name true rest = rest
    by_name false rest = rest

row_of_weak : (offers : List Offer) (u : Member) (name : List ℕ) (at : ℕ) → row_for offers u (weak_use name at) ≡ None
unfolding row_for
row_of_weak offers u name at =
    ap (λ (a : Option Member). option_or a (first_offer (λ o. counts_for (weak_use name at) o && not o.private) offers))
    (none_counts (λ o. o.private && u.file == o.member.file && u.from == o.member.from) name at offers)
    ∙ none_counts (λ o. not o.private) name at offers

-- what is wanted is offered, and isn't in the list yet
record IsNew (offers : List Offer) (list : List Member) (m : Member) : Type 0 where
  offered' : IsOffered offers m
  fresh : IsIn list m → ⊥

new_by : (offers : List Offer) (list : List Member) (place : ℕ) (u m : Member) (want : SearchKind) (name : List ℕ) (at : ℕ) → AreSound offers
    → unless_found (found_for list place u (record { want = want; name = name; at = at })) (row_for offers u (record { want = want; name = name; at = at })) ≡ Some m → IsNew offers list m
new_by offers list place u m Data name at sound e = settle (finds_data list u name) refl e
  where
    settle : (f : List FoundDefinition) → finds_data list u name ≡ f → unless_found f (row_for offers u (record { want = Data; name = name; at = at })) ≡ Some m → IsNew offers list m
    settle [] none row = record { offered' = row_offered offers u (record { want = Data; name = name; at = at }) m row; fresh = fresh_data offers list u m name at none row }
    settle (f ∷ fs) some row = absurd cc
new_by offers list place u m One name at sound e = settle (finds list place u name) refl e
  where
    settle : (f : List FoundDefinition) → finds list place u name ≡ f → unless_found f (row_for offers u (record { want = One; name = name; at = at })) ≡ Some m → IsNew offers list m
    settle [] none row = record { offered' = row_offered offers u (record { want = One; name = name; at = at }) m row; fresh = fresh_name offers list place u m name at sound none row }
    settle (f ∷ fs) some row = absurd cc
new_by offers list place u m Any name at sound e = settle (finds list place u name) e
  where
    settle : (f : List FoundDefinition) → unless_found f (row_for offers u (weak_use name at)) ≡ Some m → IsNew offers list m
    settle [] row = let clash : None ≡ Some m = sym (row_of_weak offers u name at) ∙ row in absurd cc
    settle (f ∷ fs) row = absurd cc

wanted_is_new : (offers : List Offer) (list : List Member) (m : Member) → AreSound offers → wanted offers list ≡ Some m → IsNew offers list m
unfolding wanted
wanted_is_new offers list m sound is =
    let first = first_some-first (λ (a : PlacedUse). wanted_by offers list a.place a.member a.use') (all_uses list) m is in
    let a = first.item in
    new_by offers list a.place a.member m a.use'.want a.use'.name a.use'.at sound first.here

-- ---- the list ends

-- an item out of a list
record Taken {A : Type 0} (xs : List A) (x : A) : Type 0 where
  rest : List A
  shorter : length xs ≡ suc (length rest)
  others : (y : A) → IsIn xs y → (x ≡ y) ⊎ IsIn rest y

taken : {A : Type 0} (xs : List A) (x : A) → IsIn xs x → Taken xs x
taken [] x is = absurd is
taken (y ∷ xs) x (inl same) = record { rest = xs; shorter = refl; others = λ z is. elim is [ inl e ↦ inl (sym same ∙ e) | inr more ↦ inr more ] }
taken (y ∷ xs) x (inr more) =
    let t = taken xs x more in
    record {
      rest = y ∷ t.rest;
      shorter = ap suc t.shorter;
      others = λ z is. elim is [
        | inl e ↦ inr (inl e)
        | inr there ↦ elim (t.others z there) [ inl same ↦ inl same | inr rest ↦ inr (inr rest) ]
      ];
    }

in_front : {A : Type 0} (xs ys : List A) (x : A) → IsIn xs x → IsIn (xs ++ ys) x
in_front [] ys x is = absurd is
in_front (y ∷ xs) ys x (inl e) = inl e
in_front (y ∷ xs) ys x (inr more) = inr (in_front xs ys x more)

at_end : {A : Type 0} (xs : List A) (x : A) → IsIn (xs ++ x ∷ []) x
at_end [] x = inl refl
at_end (y ∷ xs) x = inr (at_end xs x)

-- each row's member is in the list, or the row is among those that are left
abbrev AreLeft : List Offer → List Member → List Offer → Type 0
AreLeft offers list left = (o : Offer) → IsIn offers o → IsIn list o.member ⊎ IsIn left o

abbrev Ends : List Offer → List Member → Type 0
Ends offers list = (added : List Member) × Follow offers list added

ends : (n : ℕ) (offers : List Offer) (list : List Member) (left : List Offer) → AreSound offers → AreLeft offers list left → length left < n → Ends offers list
ends zero offers list left sound are small = absurd (omega arith)
ends (suc n) offers list left sound are small =
    by_want (λ (m : Member) (more : List Offer) each less. ends n offers (list ++ m ∷ []) more sound each less) (wanted offers list) refl
  where
    one_less : ((m : Member) (more : List Offer) → AreLeft offers (list ++ m ∷ []) more → length more < n → Ends offers (list ++ m ∷ [])) → (m : Member) → wanted offers list ≡ Some m → (o : Offer)
        → o.member ≡ m → IsIn left o → Ends offers list
    one_less later m is o member there =
        let t = taken left o there in
        let each : AreLeft offers (list ++ m ∷ []) t.rest = λ (p : Offer) among. elim (are p among) [
          | inl in_list ↦ inl (in_front list (m ∷ []) p.member in_list)
          | inr in_left ↦ elim (t.others p in_left) [
            | inl same ↦ inl (subst (λ (x : Member). IsIn (list ++ m ∷ []) x) (sym member ∙ ap (λ (x : Offer). x.member) same) (at_end list m))
            | inr rest ↦ inr rest
          ]
        ] in
        let rest = later m t.rest each (omega (arith, t.shorter)) in
        (m ∷ rest.0, (is, rest.1))

    by_want : ((m : Member) (more : List Offer) → AreLeft offers (list ++ m ∷ []) more → length more < n → Ends offers (list ++ m ∷ [])) → (found : Option Member) → wanted offers list ≡ found → Ends offers list
    by_want later None is = ([], is)
    by_want later (Some m) is =
        let new = wanted_is_new offers list m sound is in
        let o = new.offered' in
        elim (are o.offer o.among) [
          | inl in_list ↦ absurd (new.fresh (subst (λ (x : Member). IsIn list x) o.member in_list))
          | inr in_left ↦ one_less later m is o.offer o.member in_left
        ]

-- read inputs have a linked list
pub linked_list : RowsAreLaidOut → (setting : LinkSetting) (files : List (List ℕ)) (inputs : List Input) → AreInputs files inputs → (list : List Member) × IsLinked setting inputs list
linked_list laid setting files inputs are =
    let offers = library_offers setting inputs in
    let begun = objects setting inputs in
    let end = ends (suc (length offers)) offers begun offers (offers_are_sound laid setting files inputs are) (λ (o : Offer) among. inr among) (omega arith) in
    (begun ++ end.0, record { added = end.0; parts = refl; follow = end.1 })
