-- The number of the first that a name finds.
use Rattle.std.proofs.Common.{◌≡◌, ◌⊎◌, inl, inr, ℕ, zero, suc, ◌-◌, ◌<◌, ◌≤◌, List, [], ◌∷◌, length, Option, Some, None, refl, sym, ap, subst, ◌∙◌, arith}
use Rattle.std.specs.Prelude.{slice_get}
use Rattle.std.proofs.lemmas.List.{length-map}
use Rattle.link_meaning.specs.Member.{Member}
use Rattle.link_meaning.specs.Search.{FoundDefinition, finds}
use Rattle.link_tables.specs.declared.names.Matches.{Matches}
use Rattle.link_tables.specs.declared.names.Matches.TheVariants.{One, Several}
use Rattle.link_program.specs.declared.linked.Linked.{Linked}
use Rattle.link_tables.specs.Definitions.{Sees}
use Rattle.link_program.specs.Linked.{origin_of, Holds}
use Rattle.link_program.specs.Finding.{IsFirstOf, finds_for, found_in}

-- an answer with this number
abbrev Reports : ℕ → Matches → Type 0
Reports n answer = (answer ≡ One n) ⊎ (answer ≡ Several n)

first_of : (all found : List FoundDefinition) (answer : Matches) (n : ℕ) → Reports n answer → Sees all found answer → IsFirstOf all found (Some n)
first_of all [] answer n (inl is) seen = absurd cc
first_of all [] answer n (inr is) seen = absurd cc
first_of all (f ∷ []) answer n (inl is) seen = let same : seen.0 ≡ n = one seen.0 n (sym seen.1 ∙ is) in subst (λ (k : ℕ). slice_get all k ≡ Some f) same seen.2
  where
    one : (a b : ℕ) → One a ≡ One b → a ≡ b
    one a b e = cc
first_of all (f ∷ []) answer n (inr is) seen = absurd (clash seen.0 n (sym seen.1 ∙ is))
  where
    clash : (a b : ℕ) → One a ≡ Several b → ⊥
    clash a b e = cc
first_of all (f ∷ g ∷ more) answer n (inl is) seen = absurd (clash seen.0 n (sym seen.1 ∙ is))
  where
    clash : (a b : ℕ) → Several a ≡ One b → ⊥
    clash a b e = cc
first_of all (f ∷ g ∷ more) answer n (inr is) seen = let same : seen.0 ≡ n = one seen.0 n (sym seen.1 ∙ is) in subst (λ (k : ℕ). slice_get all k ≡ Some f) same seen.2
  where
    one : (a b : ℕ) → Several a ≡ Several b → a ≡ b
    one a b e = cc

pub first_reported : (list : List Member) (kept : Linked) (place : ℕ) (name : List ℕ) (all : List FoundDefinition) (answer : Matches) (n : ℕ) → Holds list kept → (place ≡ 0 → ⊥) → place ≤ length kept.members.items → Reports n answer
    → ((m : Member) → slice_get list (place - 1) ≡ Some m → Sees all (finds list place m name) answer) → IsFirstOf all (found_in list place name) (Some n)
first_reported list kept zero name all answer n holds some within reports sees = absurd (some refl)
first_reported list kept (suc k) name all answer n holds some within reports sees = by_member (slice_get list k) refl
  where
    size : length kept.members.items ≡ length list
    size = ap length holds.members ∙ length-map list origin_of

    gone : (l : List Member) (i : ℕ) → i < length l → slice_get l i ≡ None → ⊥
    gone [] i less none = omega (arith, less)
    gone (m ∷ l) zero less none = absurd cc
    gone (m ∷ l) (suc i) less none = gone l i (omega (arith, less)) none

    less : suc k - 1 ≡ k
    less = omega arith

    by_member : (o : Option Member) → slice_get list k ≡ o → IsFirstOf all (finds_for list (suc k) o name) (Some n)
    by_member None none = absurd (gone list k (omega (arith, within, size)) none)
    by_member (Some m) there = first_of all (finds list (suc k) m name) answer n reports (sees m (ap (slice_get list) less ∙ there))
