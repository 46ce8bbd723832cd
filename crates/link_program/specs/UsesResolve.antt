-- Each use of the linked list of resolved files resolves.
use Rattle.std.proofs.Common.{◌≡◌, ◌⊎◌, inl, inr, ℕ, ◌+◌, List, [], ◌∷◌, ◌++◌, length, map, Option, Some, None, refl, sym, ap, subst, ◌∙◌, arith}
use Rattle.std.specs.Option.{option_or}
use Rattle.link_meaning.specs.declared.fault.LinkCause.{LinkCause}
use Rattle.link_meaning.specs.declared.fault.LinkFault.{LinkFault}
use Rattle.link_meaning.specs.declared.search.SearchKind.{SearchKind}
use Rattle.link_meaning.specs.declared.search.SearchKind.TheVariants.{One, Any}
use Rattle.link_meaning.specs.First.{IsIn, IsFirst, first_some}
use Rattle.link_meaning.specs.laws.FirstLaws.{first_some-first}
use Rattle.link_meaning.specs.Member.{Member}
use Rattle.link_meaning.specs.Uses.{Use, uses_of}
use Rattle.link_meaning.specs.Search.{finds}
use Rattle.link_meaning.specs.LinkedList.{PlacedUse, asked_from, all_uses, found_for}
use Rattle.link_meaning.specs.LinkFaults.{use_cause, HasUseFault, spot_in, Names, Reading, Objects, Layout}
use Rattle.link_program.specs.OfFiles.{IsOfFiles}

abbrev unresolved_cause : LinkCause → Option LinkCause
unresolved_cause cause = Some cause

abbrev fault_view : PlacedUse → LinkCause → LinkFault
fault_view a cause = record { cause = cause; name = Some a.use'.name; spot = spot_in a.member a.use'.at }

abbrev fault_by : PlacedUse → Option LinkCause → Option LinkFault
fault_by a None = None
fault_by a (Some cause) = Some (fault_view a cause)

abbrev use_fault : List Member → PlacedUse → Option LinkFault
use_fault list a = fault_by a (use_cause a.use'.want (found_for list a.place a.member a.use'))

same_fault : (x y : LinkFault) → Some x ≡ Some y → x ≡ y
same_fault x y e = cc

has_fault : (list : List Member) (before : List PlacedUse) (a : PlacedUse) (fault : LinkFault) → use_fault list a ≡ Some fault → HasUseFault list before a fault
has_fault list before a fault e = by_cause (use_cause a.use'.want (found_for list a.place a.member a.use')) refl e
  where
    by_cause : (o : Option LinkCause) → use_cause a.use'.want (found_for list a.place a.member a.use') ≡ o → fault_by a o ≡ Some fault → HasUseFault list before a fault
    by_cause None is e = absurd cc
    by_cause (Some cause) is e =
        let same = same_fault (fault_view a cause) fault e in
        record { cause = is ∙ ap (λ (f : LinkFault). unresolved_cause f.cause) same; name = ap (λ (f : LinkFault). f.name) (sym same); spot = ap (λ (f : LinkFault). f.spot) (sym same) }

fault_has : (list : List Member) (before : List PlacedUse) (a : PlacedUse) (fault : LinkFault) → HasUseFault list before a fault → use_fault list a ≡ Some (fault_view a fault.cause)
fault_has list before a fault has = ap (fault_by a) has.cause

none_here : (list : List Member) (xs : List PlacedUse) → first_some (use_fault list) xs ≡ None → (a : PlacedUse) → IsIn xs a → use_fault list a ≡ None
none_here list [] e a is = absurd is
none_here list (x ∷ xs) e a is = by_first (use_fault list x) refl e is (λ e' there. none_here list xs e' a there)
  where
    by_first : (o : Option LinkFault) → use_fault list x ≡ o → option_or o (first_some (use_fault list) xs) ≡ None → (x ≡ a) ⊎ IsIn xs a → (first_some (use_fault list) xs ≡ None → IsIn xs a → use_fault list a ≡ None) → use_fault list a ≡ None
    by_first (Some fault) is e there go = absurd cc
    by_first None is e (inl same) go = ap (use_fault list) (sym same) ∙ is
    by_first None is e (inr more) go = go e more

first_as : (list : List Member) (fault : LinkFault) → first_some (use_fault list) (all_uses list) ≡ Some fault → IsFirst (HasUseFault list) (all_uses list) fault
first_as list fault e =
    let first = first_some-first (use_fault list) (all_uses list) fault e in
    record {
      before = first.before;
      item = first.item;
      after = first.after;
      parts = first.parts;
      none = λ front other rest its parts has. first.none front other rest (fault_view other its.cause) parts (fault_has list front other its has);
      here = has_fault list first.before first.item fault first.here;
    }

-- each use resolves
all_resolve : (list : List Member) → IsOfFiles list → (a : PlacedUse) → IsIn (all_uses list) a → use_fault list a ≡ None
all_resolve list of a is = by_first (first_some (use_fault list) (all_uses list)) refl
  where
    by_first : (o : Option LinkFault) → first_some (use_fault list) (all_uses list) ≡ o → use_fault list a ≡ None
    by_first None e = none_here list (all_uses list) e a is
    by_first (Some fault) e = absurd (of.resolved.sound (Reading ∷ Objects ∷ []) Names (Layout ∷ []) fault refl (list, of.resolved.program, first_as list fault e))

no_cause : (a : PlacedUse) (o : Option LinkCause) → fault_by a o ≡ None → o ≡ None
no_cause a None e = refl
no_cause a (Some cause) e = absurd cc

-- no use has a cause for which it is refused
pub use_resolves : (list : List Member) → IsOfFiles list → (a : PlacedUse) → IsIn (all_uses list) a → use_cause a.use'.want (found_for list a.place a.member a.use') ≡ None
use_resolves list of a is = no_cause a (use_cause a.use'.want (found_for list a.place a.member a.use')) (all_resolve list of a is)

-- ---- the uses of a member

pub in_left : {A : Type 0} (xs ys : List A) (x : A) → IsIn xs x → IsIn (xs ++ ys) x
in_left [] ys x is = absurd is
in_left (y ∷ xs) ys x (inl e) = inl e
in_left (y ∷ xs) ys x (inr more) = inr (in_left xs ys x more)

pub in_right : {A : Type 0} (xs ys : List A) (x : A) → IsIn ys x → IsIn (xs ++ ys) x
in_right [] ys x is = is
in_right (y ∷ xs) ys x is = inr (in_right xs ys x is)

abbrev pub asked_of : ℕ → Member → Use → PlacedUse
asked_of place m u = record { place = place; member = m; use' = u }

in_mapped : {A B : Type 0} (f : A → B) (xs : List A) (x : A) → IsIn xs x → IsIn (map f xs) (f x)
in_mapped f [] x is = absurd is
in_mapped f (y ∷ xs) x (inl e) = inl (ap f e)
in_mapped f (y ∷ xs) x (inr more) = inr (in_mapped f xs x more)

pub asked_there : (place : ℕ) (front : List Member) (m : Member) (back : List Member) (u : Use) → IsIn (uses_of m.segment) u → IsIn (asked_from place (front ++ m ∷ back)) (asked_of (place + length front) m u)
asked_there place [] m back u is =
    let next : place ≡ place + length {A = Member} [] = omega arith in
    in_left (map (asked_of place m) (uses_of m.segment)) (asked_from (place + 1) back) (asked_of (place + 0) m u)
    (subst (λ (n : ℕ). IsIn (map (asked_of place m) (uses_of m.segment)) (asked_of n m u)) next (in_mapped (asked_of place m) (uses_of m.segment) u is))
asked_there place (o ∷ front) m back u is =
    let next : place + 1 + length front ≡ place + length (o ∷ front) = omega arith in
    in_right (map (asked_of place o) (uses_of o.segment)) (asked_from (place + 1) (front ++ m ∷ back)) (asked_of (place + length (o ∷ front)) m u)
    (subst (λ (n : ℕ). IsIn (asked_from (place + 1) (front ++ m ∷ back)) (asked_of n m u)) next (asked_there (place + 1) front m back u is))

-- a use of a definition looks for all that its name finds
pub found_any : (list : List Member) (place : ℕ) (m : Member) (u : Use) → (u.want ≡ Any) ⊎ (u.want ≡ One) → found_for list place m u ≡ finds list place m u.name
found_any list place m u (inl any) = ap (λ (w : SearchKind). found_for list place m (record { want = w; name = u.name; at = u.at })) any
found_any list place m u (inr one) = ap (λ (w : SearchKind). found_for list place m (record { want = w; name = u.name; at = u.at })) one
