-- The first use that wants a member.
use Rattle.std.proofs.Common.{◌≡◌, ℕ, ◌+◌, ◌-◌, ◌≤◌, List, [], ◌∷◌, ◌++◌, length, take, drop, Option, Some, None, refl, sym, ap, subst, ◌∙◌, arith}
use Rattle.std.specs.Prelude.{slice_get}
use Rattle.std.specs.Option.{option_or}
use Rattle.std.proofs.lemmas.List.{take-append-drop, length-map}
use Rattle.std.proofs.lemmas.Option.{slice_get_within}
use Rattle.link_meaning.specs.First.{first_some}
use Rattle.link_meaning.specs.Member.{Member, Offer}
use Rattle.link_meaning.specs.Uses.{Use}
use Rattle.link_meaning.specs.Search.{FoundDefinition}
use Rattle.link_meaning.specs.LinkedList.{PlacedUse, all_uses, row_for, found_for, wanted_by, wanted}
use Rattle.link_meaning.specs.laws.Steps.{unless_found}
use Rattle.link_tables.specs.declared.names.Matches.{Matches}
use Rattle.link_tables.specs.declared.names.Matches.TheVariants.{Nothing, One, Several}
use Rattle.link_tables.specs.declared.uses.Use as kept
use Rattle.link_program.specs.declared.linked.Linked.{Linked}
use Rattle.link_tables.specs.Uses.{use_of, use_view}
use Rattle.link_program.specs.Linked.{Holds}
use Rattle.link_tables.specs.Offers.{IsRow}
use Rattle.link_program.specs.Resolving.{IsShape}
use Rattle.link_program.specs.Wanted.{wanted_at, WantsNothing, IsWanted}
use Rattle.link_tables.proofs.Lists.{drop_at}
use Rattle.link_program.proofs.ResolvingLaws.{IsUse, stands, take_more, take_past}

pub row_unless : (found : List FoundDefinition) (o : Matches) (row : Option Member) → IsShape found o → o ≡ Nothing → unless_found found row ≡ row
row_unless [] o row shape is = refl
row_unless (f ∷ []) o row shape is = let clash : One shape.0 ≡ Nothing = sym shape.1 ∙ is in absurd cc
row_unless (f ∷ g ∷ more) o row shape is = let clash : Several shape.0 ≡ Nothing = sym shape.1 ∙ is in absurd cc

pub no_row : (found : List FoundDefinition) (o : Matches) (row : Option Member) → IsShape found o → (o ≡ Nothing → ⊥) → unless_found found row ≡ None
no_row [] o row shape some = absurd (some shape)
no_row (f ∷ []) o row shape some = refl
no_row (f ∷ g ∷ more) o row shape some = refl

-- what the use with a number wants
pub wants_so : (os : List Offer) (list : List Member) (k : ℕ) (u : kept.Use) (answer : Option ℕ) (is : IsUse list k u)
    → ((m : Member) → slice_get list (u.place - 1) ≡ Some m → IsRow os (wanted_by os list u.place m (use_of u).1) answer) → IsRow os (wanted_at os list is.use') answer
wants_so os list k u answer is row =
    let a = is.use' in
    let s = stands list k a is.at in
    let place : a.place ≡ u.place = ap (λ (p : ℕ × Use). p.0) is.reported in
    let used : a.use' ≡ (use_of u).1 = ap (λ (p : ℕ × Use). p.1) is.reported in
    let there : slice_get list (u.place - 1) ≡ Some a.member = ap (λ (n : ℕ). slice_get list (n - 1)) (sym place) ∙ s.at in
    let same : wanted_by os list u.place a.member (use_of u).1 ≡ wanted_by os list a.place a.member a.use' =
    sym (ap (λ (n : ℕ). wanted_by os list n a.member a.use') place ∙ ap (λ (x : Use). wanted_by os list u.place a.member x) used) in
    subst (λ (w : Option Member). IsRow os w answer) same (row a.member there)

first_some-append : {A B : Type 0} → (f : A → Option B) (xs ys : List A) → first_some f (xs ++ ys) ≡ option_or (first_some f xs) (first_some f ys)
first_some-append f [] ys = refl
first_some-append {A} {B} f (x ∷ xs) ys = ap (option_or (f x)) (first_some-append f xs ys) ∙ or_assoc (f x) (first_some f xs) (first_some f ys)
  where
    or_assoc : (a b c : Option B) → option_or a (option_or b c) ≡ option_or (option_or a b) c
    or_assoc None b c = refl
    or_assoc (Some x) b c = refl

pub wants_next : (os : List Offer) (list : List Member) (k : ℕ) (u : kept.Use) (is : IsUse list k u) → wanted_at os list is.use' ≡ None → WantsNothing os list k → WantsNothing os list (k + 1)
wants_next os list k u is none so_far =
    ap (first_some (wanted_at os list)) (take_more (all_uses list) k is.use' is.at)
    ∙ first_some-append (wanted_at os list) (take k (all_uses list)) (is.use' ∷ [])
    ∙ ap (λ (o : Option Member). option_or o (option_or (wanted_at os list is.use') None)) so_far
    ∙ ap (λ (o : Option Member). option_or o None) none

pub wanted_here : (os : List Offer) (list : List Member) (k : ℕ) (u : kept.Use) (number : ℕ) (is : IsUse list k u) → IsRow os (wanted_at os list is.use') (Some number) → WantsNothing os list k → IsWanted os list (Some (k, number))
unfolding wanted
wanted_here os list k u number is row so_far =
    let whole : all_uses list ≡ take k (all_uses list) ++ is.use' ∷ drop (k + 1) (all_uses list) =
    sym (take-append-drop k (all_uses list)) ∙ ap (λ (l : List PlacedUse). take k (all_uses list) ++ l) (drop_at (all_uses list) k is.use' is.at) in
    let first : wanted os list ≡ Some row.0.member =
    ap (first_some (wanted_at os list)) whole
    ∙ first_some-append (wanted_at os list) (take k (all_uses list)) (is.use' ∷ drop (k + 1) (all_uses list))
    ∙ ap (λ (o : Option Member). option_or o (option_or (wanted_at os list is.use') (first_some (wanted_at os list) (drop (k + 1) (all_uses list))))) so_far
    ∙ ap (λ (o : Option Member). option_or o (first_some (wanted_at os list) (drop (k + 1) (all_uses list)))) row.2 in
    (row.0, row.1, first, so_far, slice_get_within (all_uses list) k is.use' is.at)

pub wanted_none : (os : List Offer) (list : List Member) (table : Linked) (k : ℕ) → Holds list table → length table.uses ≤ k → WantsNothing os list k → wanted os list ≡ None
unfolding wanted
wanted_none os list table k holds past so_far =
    let size : length (all_uses list) ≡ length table.uses = sym (length-map (all_uses list) use_view) ∙ sym (ap length holds.uses) in
    sym (ap (first_some (wanted_at os list)) (take_past (all_uses list) k (omega (arith, size, past)))) ∙ so_far

-- where there are no rows, no use wants anything
nothing_found : (found : List FoundDefinition) → unless_found found None ≡ None
nothing_found [] = refl
nothing_found (f ∷ found) = refl

no_row_wanted : (list : List Member) (a : PlacedUse) → wanted_at [] list a ≡ None
unfolding row_for
no_row_wanted list a = nothing_found (found_for list a.place a.member a.use')

none_wanted : (list : List Member) (items : List PlacedUse) → first_some (wanted_at [] list) items ≡ None
none_wanted list [] = refl
none_wanted list (a ∷ items) = ap (λ (o : Option Member). option_or o (first_some (wanted_at [] list) items)) (no_row_wanted list a) ∙ none_wanted list items

pub wanted_without_rows : (os : List Offer) (list : List Member) → length os ≡ 0 → wanted os list ≡ None
unfolding wanted
wanted_without_rows [] list none = none_wanted list (all_uses list)
wanted_without_rows (o ∷ os) list none = absurd (omega (arith, none))
