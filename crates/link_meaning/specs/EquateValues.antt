-- The value of one equate, by those of the equates to which it leads.
use Rattle.std.specs.Prelude.{◌≡◌, ℕ, ◌↔◌, List, [], ◌∷◌, Result, true, Some, slice_get}
use Rattle.omf_format.specs.declared.value.Value.{Value}
use Rattle.omf_format.specs.declared.value.ValueFault.{ValueFault}
use Rattle.link_meaning.specs.First.{IsIn}
use Rattle.link_meaning.specs.Member.{Member}
use Rattle.link_meaning.specs.Search.{FoundDefinition, entries}
use Rattle.link_meaning.specs.Cycles.{is_equate, equates, LeadsTo, IsCircular}
use Rattle.link_meaning.specs.LinkValues.{EquateAnswer, value_of_definition, equate_value, IsTable}
use Rattle.link_meaning.specs.LinkFaults.{LinkInput, HasBytes, IsResolved}

-- An equate has its value, or its fault, once those to which it leads have theirs: it is that of its expression where a table gives theirs.
pub data HasValue (list : List Member) : FoundDefinition → Result Value ValueFault → Type 0 where
  ByOthers : (e : FoundDefinition) (table : List EquateAnswer) (answer : Result Value ValueFault) → answer ≡ equate_value list table e
      → ((f : FoundDefinition) → LeadsTo list e f → HasValue list f (value_of_definition table f.place f.definition.at)) → HasValue list e answer

-- each row gives the value of its equate
abbrev pub GiveValues : List Member → List FoundDefinition → List EquateAnswer → Type 0
GiveValues list [] [] = Unit {0}
GiveValues list [] (t ∷ rows) = ⊥
GiveValues list (e ∷ es) [] = ⊥
GiveValues list (e ∷ es) (t ∷ rows) = (t.place ≡ e.place) × (t.at ≡ e.definition.at) × HasValue list e t.answer × GiveValues list es rows

-- equates of one member and one displacement are one
abbrev pub AreApart : List FoundDefinition → Type 0
AreApart es = (e f : FoundDefinition) → IsIn es e → IsIn es f → e.place ≡ f.place → e.definition.at ≡ f.definition.at → e ≡ f

-- ---- laws

-- An equate has one value at most, and none where it leads back to itself.
abbrev pub OneValue : Type 0
OneValue = (list : List Member) (e : FoundDefinition) (a b : Result Value ValueFault) → HasValue list e a → HasValue list e b → a ≡ b

abbrev pub NoneOnCycle : Type 0
NoneOnCycle = (list : List Member) (e : FoundDefinition) (a : Result Value ValueFault) → HasValue list e a → IsCircular list e → ⊥

-- In resolved files the table of values is the one that gives each equate its value.
abbrev pub TableOfValues : Type 0
TableOfValues = (given : LinkInput) (list : List Member) (table : List EquateAnswer) → HasBytes given → IsResolved given list
    → GiveValues list (equates list) table ↔ IsTable list table

-- Where no equate of resolved files leads back to itself they have a table of values.
abbrev pub TableWithoutCycles : Type 0
TableWithoutCycles = (given : LinkInput) (list : List Member) → HasBytes given → IsResolved given list
    → ((e : FoundDefinition) → IsIn (equates list) e → IsCircular list e → ⊥) → (table : List EquateAnswer) × IsTable list table

-- In resolved files two numbers of definitions that are equates of one member and one displacement are one number.
abbrev pub OneNumber : Type 0
OneNumber = (given : LinkInput) (list : List Member) (i j : ℕ) (e f : FoundDefinition) → HasBytes given → IsResolved given list
    → slice_get (entries list) i ≡ Some e → slice_get (entries list) j ≡ Some f → is_equate e ≡ true → is_equate f ≡ true
    → e.place ≡ f.place → e.definition.at ≡ f.definition.at → i ≡ j
