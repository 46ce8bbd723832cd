-- Uses one by one.
use Rattle.std.proofs.Common.{◌≡◌, ◌⊎◌, inl, inr, ℕ, zero, suc, ◌+◌, ◌-◌, ◌≤◌, ◌<◌, List, [], ◌∷◌, ◌++◌, length, map, take, drop, Option, Some, None, refl, sym, ap, subst, ◌∙◌, arith}
use Rattle.std.specs.Prelude.{slice_get, option_map}
use Rattle.std.proofs.lemmas.Option.{slice_get-map, slice_get_within}
use Rattle.std.proofs.lemmas.List.{length-take-le, take-append-drop}
use Rattle.link_meaning.specs.declared.fault.LinkCause.{LinkCause}
use Rattle.link_meaning.specs.declared.search.SearchKind.{SearchKind}
use Rattle.link_meaning.specs.declared.search.SearchKind.TheVariants as wants
use Rattle.link_meaning.specs.First.{HasNone}
use Rattle.link_meaning.specs.laws.FirstLaws.{none_more, none_yet}
use Rattle.link_meaning.specs.Member.{Member}
use Rattle.link_meaning.specs.Uses.{Use, uses_of}
use Rattle.link_meaning.specs.Search.{FoundDefinition}
use Rattle.link_meaning.specs.LinkedList.{PlacedUse, asked_from, all_uses, found_for}
use Rattle.link_meaning.specs.LinkFaults.{use_cause}
use Rattle.link_tables.specs.declared.names.Matches.{Matches}
use Rattle.link_tables.specs.declared.uses.Use as kept
use Rattle.link_program.specs.declared.linked.Linked.{Linked}
use Rattle.link_tables.specs.Definitions.{Seen}
use Rattle.link_tables.specs.Uses.{use_of, use_view}
use Rattle.link_program.specs.Linked.{Holds}
use Rattle.link_program.specs.Resolving.{IsShape, cause_of, FailsToResolve, IsFirstUse}
use Rattle.link_tables.proofs.Lists.{drop_at}
use Rattle.link_program.proofs.LinkedLaws.{count_is}

pub shape_of : (T : FoundDefinition → ℕ → Type 0) (found : List FoundDefinition) (o : Matches) → Seen T found o → IsShape found o
shape_of T [] o e = e
shape_of T (f ∷ []) o e = (e.0, e.1)
shape_of T (f ∷ g ∷ more) o e = (e.0, e.1)

pub cause_is : (want : SearchKind) (found : List FoundDefinition) (o : Matches) → IsShape found o → use_cause want found ≡ cause_of want o
cause_is wants.Data [] o e = sym (ap (cause_of wants.Data) e)
cause_is wants.One [] o e = sym (ap (cause_of wants.One) e)
cause_is wants.Any [] o e = sym (ap (cause_of wants.Any) e)
cause_is wants.Data (f ∷ []) o e = sym (ap (cause_of wants.Data) e.1)
cause_is wants.One (f ∷ []) o e = sym (ap (cause_of wants.One) e.1)
cause_is wants.Any (f ∷ []) o e = sym (ap (cause_of wants.Any) e.1)
cause_is wants.Data (f ∷ g ∷ more) o e = sym (ap (cause_of wants.Data) e.1)
cause_is wants.One (f ∷ g ∷ more) o e = sym (ap (cause_of wants.One) e.1)
cause_is wants.Any (f ∷ g ∷ more) o e = sym (ap (cause_of wants.Any) e.1)

-- ---- where a use is

abbrev uses_at : ℕ → Member → List Use → List PlacedUse
uses_at place m uses = map (λ u. record { place = place; member = m; use' = u }) uses

some_same : (a b : PlacedUse) → Some a ≡ Some b → a ≡ b
some_same a b e = cc

-- a use of the first member, or one of the others
in_uses : (place : ℕ) (x : Member) (us : List Use) (rest : List PlacedUse) (k : ℕ) (a : PlacedUse) → slice_get (uses_at place x us ++ rest) k ≡ Some a
    → ((a.place ≡ place) × (a.member ≡ x)) ⊎ ((j : ℕ) × (slice_get rest j ≡ Some a))
in_uses place x [] rest k a e = inr (k, e)
in_uses place x (u ∷ us) rest zero a e =
    let same = some_same (record { place = place; member = x; use' = u }) a e in
    inl (sym (ap (λ (b : PlacedUse). b.place) same), sym (ap (λ (b : PlacedUse). b.member) same))
in_uses place x (u ∷ us) rest (suc k) a e = in_uses place x us rest k a e

-- the member of a use is the one at its place
pub record Stands (place : ℕ) (list : List Member) (a : PlacedUse) : Type 0 where
  pub low : place ≤ a.place
  pub at : slice_get list (a.place - place) ≡ Some a.member

stands_from : (place : ℕ) (list : List Member) (k : ℕ) (a : PlacedUse) → slice_get (asked_from place list) k ≡ Some a → Stands place list a
stands_from place [] k a e = absurd cc
stands_from place (x ∷ list) k a e = settle (in_uses place x (uses_of x.segment) (asked_from (place + 1) list) k a e) (λ j there. stands_from (place + 1) list j a there)
  where
    settle : ((a.place ≡ place) × (a.member ≡ x)) ⊎ ((j : ℕ) × (slice_get (asked_from (place + 1) list) j ≡ Some a)) → ((j : ℕ) → slice_get (asked_from (place + 1) list) j ≡ Some a → Stands (place + 1) list a)
        → Stands place (x ∷ list) a
    settle (inl here) go =
        let first : a.place - place ≡ 0 = omega (arith, here.0) in
        record { low = omega (arith, here.0); at = ap (slice_get (x ∷ list)) first ∙ ap (λ (m : Member). Some m) (sym here.1) }
    settle (inr there) go =
        let more = go there.0 there.1 in
        let next : a.place - place ≡ suc (a.place - (place + 1)) = omega (arith, more.low) in
        record { low = omega (arith, more.low); at = ap (slice_get (x ∷ list)) next ∙ more.at }

pub stands : (list : List Member) (k : ℕ) (a : PlacedUse) → slice_get (all_uses list) k ≡ Some a → Stands 1 list a
unfolding all_uses
stands list k a e = stands_from 1 list k a e

-- ---- the use with a number

pub record IsUse (list : List Member) (k : ℕ) (u : kept.Use) : Type 0 where
  pub use' : PlacedUse
  pub at : slice_get (all_uses list) k ≡ Some use'
  pub reported : use_view use' ≡ use_of u

pair_same : (a b : ℕ × Use) → Some a ≡ Some b → a ≡ b
pair_same a b e = cc

pub use_is : (list : List Member) (table : Linked) (k : ℕ) (u : kept.Use) → Holds list table → slice_get table.uses k ≡ Some (use_of u) → IsUse list k u
use_is list table k u holds there = settle (slice_get (all_uses list) k) refl
  where
    both : option_map use_view (slice_get (all_uses list) k) ≡ Some (use_of u)
    both = sym (slice_get-map use_view (all_uses list) k) ∙ sym (ap (λ (l : List (ℕ × Use)). slice_get l k) holds.uses) ∙ there

    settle : (o : Option PlacedUse) → slice_get (all_uses list) k ≡ o → IsUse list k u
    settle None e = let clash : option_map use_view None ≡ Some (use_of u) = sym (ap (option_map use_view) e) ∙ both in absurd cc
    settle (Some a) e = record { use' = a; at = e; reported = pair_same (use_view a) (use_of u) (sym (ap (option_map use_view) e) ∙ both) }

-- its member's place is one of the list
pub place_within : (list : List Member) (table : Linked) (k : ℕ) (u : kept.Use) → Holds list table → IsUse list k u → (0 < u.place) × (u.place ≤ length table.members.items)
place_within list table k u holds is =
    let s = stands list k is.use' is.at in
    let same : is.use'.place ≡ u.place = ap (λ (p : ℕ × Use). p.0) is.reported in
    let less = slice_get_within list (is.use'.place - 1) is.use'.member s.at in
    (omega (arith, s.low, same), omega (arith, less, s.low, same, count_is list table holds))

-- how it fails
pub fails_so : (list : List Member) (k : ℕ) (u : kept.Use) (o : Matches) (is : IsUse list k u) → ((m : Member) → slice_get list (u.place - 1) ≡ Some m → IsShape (found_for list u.place m (use_of u).1) o)
    → use_cause is.use'.use'.want (found_for list is.use'.place is.use'.member is.use'.use') ≡ cause_of u.want o
fails_so list k u o is shape =
    let a = is.use' in
    let s = stands list k a is.at in
    let place : a.place ≡ u.place = ap (λ (p : ℕ × Use). p.0) is.reported in
    let used : a.use' ≡ (use_of u).1 = ap (λ (p : ℕ × Use). p.1) is.reported in
    let there : slice_get list (u.place - 1) ≡ Some a.member = ap (λ (n : ℕ). slice_get list (n - 1)) (sym place) ∙ s.at in
    let found : found_for list a.place a.member a.use' ≡ found_for list u.place a.member (use_of u).1 =
    ap (λ (n : ℕ). found_for list n a.member a.use') place ∙ ap (λ (x : Use). found_for list u.place a.member x) used in
    ap (λ (x : Use). use_cause x.want (found_for list a.place a.member a.use')) used
    ∙ ap (use_cause u.want) found
    ∙ cause_is u.want (found_for list u.place a.member (use_of u).1) o (shape a.member there)

-- ---- the first

pub take_more : {A : Type 0} → (xs : List A) (k : ℕ) (x : A) → slice_get xs k ≡ Some x → take (k + 1) xs ≡ take k xs ++ x ∷ []
take_more [] k x e = absurd cc
take_more {A} (y ∷ xs) zero x e = let same : y ≡ x = cc in ap (λ (z : A). z ∷ []) same
take_more {A} (y ∷ xs) (suc k) x e =
    let next : suc k + 1 ≡ suc (k + 1) = omega arith in
    ap (λ (n : ℕ). take n (y ∷ xs)) next ∙ ap (λ (l : List A). y ∷ l) (take_more xs k x e)

pub none_before : (list : List Member) → HasNone (FailsToResolve list) (take 0 (all_uses list))
none_before list = none_yet (FailsToResolve list)

some_cause : (a : LinkCause) → None ≡ Some a → ⊥
some_cause a e = cc

pub none_next : (list : List Member) (k : ℕ) (u : kept.Use) (o : Matches) (is : IsUse list k u) → ((m : Member) → slice_get list (u.place - 1) ≡ Some m → IsShape (found_for list u.place m (use_of u).1) o)
    → cause_of u.want o ≡ None → HasNone (FailsToResolve list) (take k (all_uses list)) → HasNone (FailsToResolve list) (take (k + 1) (all_uses list))
none_next list k u o is shape fine none =
    subst (HasNone (FailsToResolve list)) (sym (take_more (all_uses list) k is.use' is.at))
    (none_more (FailsToResolve list) (take k (all_uses list)) is.use' none (λ cause fails. some_cause cause (sym fine ∙ sym (fails_so list k u o is shape) ∙ fails)))

pub first_use : (list : List Member) (k : ℕ) (u : kept.Use) (o : Matches) (cause : LinkCause) (is : IsUse list k u) → ((m : Member) → slice_get list (u.place - 1) ≡ Some m → IsShape (found_for list u.place m (use_of u).1) o)
    → cause_of u.want o ≡ Some cause → HasNone (FailsToResolve list) (take k (all_uses list)) → IsFirstUse list cause k
first_use list k u o cause is shape fails none = record {
  before = take k (all_uses list);
  use' = is.use';
  after = drop (k + 1) (all_uses list);
  parts = sym (take-append-drop k (all_uses list)) ∙ ap (λ (l : List PlacedUse). take k (all_uses list) ++ l) (drop_at (all_uses list) k is.use' is.at);
  place = length-take-le k (all_uses list) (let less = slice_get_within (all_uses list) k is.use' is.at in omega (arith, less));
  none = none;
  fails = fails_so list k u o is shape ∙ fails;
}

-- as many as there are, or more, are all
pub take_past : {A : Type 0} → (xs : List A) (n : ℕ) → length xs ≤ n → take n xs ≡ xs
take_past [] zero less = refl
take_past [] (suc n) less = refl
take_past (x ∷ xs) zero less = absurd (omega arith)
take_past {A} (x ∷ xs) (suc n) less = ap (λ (l : List A). x ∷ l) (take_past xs n (omega arith))
