-- Uses that don't resolve.
use Rattle.std.specs.Prelude.{◌≡◌, ℕ, List, [], ◌∷◌, ◌++◌, length, Option, Some, None}
use Rattle.link_meaning.specs.declared.fault.LinkCause.{LinkCause}
use Rattle.link_meaning.specs.declared.fault.LinkCause.TheVariants.{Unresolved, Duplicate}
use Rattle.link_meaning.specs.declared.search.SearchKind.{SearchKind}
use Rattle.link_meaning.specs.declared.search.SearchKind.TheVariants as wants
use Rattle.link_meaning.specs.First.{HasNone}
use Rattle.link_meaning.specs.Member.{Member}
use Rattle.link_meaning.specs.Search.{FoundDefinition}
use Rattle.link_meaning.specs.LinkedList.{PlacedUse, all_uses, found_for}
use Rattle.link_meaning.specs.LinkFaults.{use_cause}
use Rattle.link_tables.specs.declared.names.Matches.{Matches}
use Rattle.link_tables.specs.declared.names.Matches.TheVariants.{Nothing, One, Several}
use Rattle.link_program.specs.declared.linked.Linked.{Linked}
use Rattle.link_program.specs.Linked.{Holds}

-- the answer says whether nothing was found, one thing or several
abbrev pub IsShape : List FoundDefinition → Matches → Type 0
IsShape [] answer = answer ≡ Nothing
IsShape (f ∷ []) answer = (number : ℕ) × (answer ≡ One number)
IsShape (f ∷ g ∷ more) answer = (number : ℕ) × (answer ≡ Several number)

-- how a use fails that was answered so
abbrev pub cause_of : SearchKind → Matches → Option LinkCause
cause_of wants.Data Nothing = Some Unresolved
cause_of wants.One Nothing = Some Unresolved
cause_of wants.Data (Several number) = Some Duplicate
cause_of wants.One (Several number) = Some Duplicate
cause_of wants.Any (Several number) = Some Duplicate
cause_of _ _ = None

-- the first of these
abbrev pub first_found : List FoundDefinition → Option FoundDefinition
first_found [] = None
first_found (f ∷ found) = Some f

-- it is some list
abbrev pub IsHeld : Linked → Type 0
IsHeld kept = (list : List Member) × Holds list kept

-- the use doesn't resolve
abbrev pub FailsToResolve : List Member → List PlacedUse → PlacedUse → LinkCause → Type 0
FailsToResolve list before a cause = use_cause a.use'.want (found_for list a.place a.member a.use') ≡ Some cause

-- the use with this number, from 0, is the first that doesn't resolve, and this is why
pub record IsFirstUse (list : List Member) (cause : LinkCause) (number : ℕ) : Type 0 where
  pub before : List PlacedUse
  pub use' : PlacedUse
  pub after : List PlacedUse
  pub parts : all_uses list ≡ before ++ use' ∷ after
  pub place : length before ≡ number
  pub none : HasNone (FailsToResolve list) before
  pub fails : FailsToResolve list before use' cause
