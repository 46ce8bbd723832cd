-- What names and expressions mean once the members have their places.
use Rattle.std.specs.Prelude.{◌≡◌, ℕ, ◌+◌, Bool, ◌&&◌, pos, List, [], ◌∷◌, Option, Some, None, Result, Ok, Err, nat_le, ◌==◌, if◌then◌else◌}
use Rattle.omf_format.specs.declared.value.Value.{Value}
use Rattle.omf_format.specs.declared.value.Value.TheVariants.{Fixed, At}
use Rattle.omf_format.specs.declared.value.ValueFault.{ValueFault}
use Rattle.omf_format.specs.declared.value.ValueFault.TheVariants.{DivideByZero, NotRelocatable, Unknown}
use Rattle.omf_format.specs.Expression.{Term, Named, Tree}
use Rattle.omf_format.specs.Value.{Environment, value}
use Rattle.link_meaning.specs.First.{IsIn}
use Rattle.link_meaning.specs.Member.{Member}
use Rattle.object_meaning.specs.Terms.{tree_in, term_at}
use Rattle.link_meaning.specs.Search.{FoundDefinition, finds}
use Rattle.link_meaning.specs.Layout.{load_of, offset_of}
use Rattle.link_meaning.specs.Cycles.{equates, IsCircular}

-- the value of an equate, or its fault, by the place of its member and its record's displacement
pub record EquateAnswer : Type 0 where
  pub place : ℕ
  pub at : ℕ
  pub answer : Result Value ValueFault

abbrev pub value_of_definition : List EquateAnswer → ℕ → ℕ → Result Value ValueFault
value_of_definition [] place at = Err NotRelocatable
value_of_definition (t ∷ table) place at = if t.place == place && t.at == at then t.answer else value_of_definition table place at

-- a place of a member, counted from its start
unfoldable pub place_value : List Member → ℕ → Member → ℕ → Value
place_value list place m at = At 1 (load_of list m) (offset_of list place m + at) (pos 0)

-- a place in a run-time library file
abbrev pub outside_value : FoundDefinition → Value
outside_value f = At f.member.file f.member.number f.definition.place (pos 0)

-- a label is a place, of a member or of a run-time library file, and an equate what the table says
abbrev pub found_value : List Member → List EquateAnswer → FoundDefinition → Result Value ValueFault
found_value list table f = elim f.definition.expr [
  | None ↦ Ok (if f.place == 0 then outside_value f else place_value list f.place f.member f.definition.place)
  | Some text ↦ value_of_definition table f.place f.definition.at
]

-- the value of a name that found this; a faulty equate has none
abbrev pub label_value : List Member → List EquateAnswer → Bool → List FoundDefinition → Option Value
label_value list table weak [] = if weak then Some (Fixed 0) else None
label_value list table weak (f ∷ found) = elim (found_value list table f) [ Ok v ↦ Some v | Err fault ↦ None ]

-- what an expression meets in the member at this place of the list, where `location` of its cells are before the record: the value, and the
-- length, type and count, of what a name finds
unfoldable pub member_environment : List Member → List EquateAnswer → ℕ → Member → ℕ → Environment
member_environment list table place m location = record {
  label = λ name weak. label_value list table weak (finds list place m name);
  attribute = λ code name. elim (finds list place m name) [
    | [] ↦ if code == 0x86 then Some 0 else None
    | f ∷ found ↦ if code == 0x84 then Some f.definition.size else if code == 0x85 then Some f.definition.form else Some 1
  ];
  location = place_value list place m location;
  start = place_value list place m 0;
}

-- the fault of the equate that a name found
abbrev pub fault_named : List Member → List EquateAnswer → ℕ → Member → ValueFault → Option Term → ValueFault
fault_named list table place m fault (Some (Named code name)) =
    if nat_le code 0x83 then (elim (finds list place m name) [
      | [] ↦ fault
      | f ∷ found ↦ elim (found_value list table f) [ Ok v ↦ fault | Err of ↦ of ]
    ])
    else fault
fault_named _ _ _ _ fault _ = fault

-- a name whose equate has a fault has that fault: `Unknown` says at which term of the expression the name is
abbrev pub value_or_equate_fault : List Member → List EquateAnswer → ℕ → Member → Tree → Result Value ValueFault → Result Value ValueFault
value_or_equate_fault list table place m tree (Ok v) = Ok v
value_or_equate_fault list table place m tree (Err DivideByZero) = Err DivideByZero
value_or_equate_fault list table place m tree (Err NotRelocatable) = Err NotRelocatable
value_or_equate_fault list table place m tree (Err (Unknown at)) =
    Err (fault_named list table place m (Unknown at) (term_at m.segment.fields.lab_len at 0 tree))

-- the value in that member of the expression that the bytes spell
unfoldable pub value_in : List Member → List EquateAnswer → ℕ → Member → ℕ → List ℕ → Result Value ValueFault
value_in list table place m location text = elim (tree_in m.segment.fields.lab_len text) [
  | None ↦ Err NotRelocatable
  | Some tree ↦ value_or_equate_fault list table place m tree (value (member_environment list table place m location) m.segment.fields.lab_len 0 tree)
]

abbrev pub equate_value : List Member → List EquateAnswer → FoundDefinition → Result Value ValueFault
equate_value list table e = elim e.definition.expr [
  | None ↦ Err NotRelocatable
  | Some text ↦ value_in list table e.place e.member e.definition.place text
]

-- each row has the value, or the fault, of its equate's expression, where the names in it have theirs from the same table
abbrev pub AreReported : List Member → List EquateAnswer → List FoundDefinition → List EquateAnswer → Type 0
AreReported list table [] [] = Unit {0}
AreReported list table [] (t ∷ rows) = ⊥
AreReported list table (e ∷ es) [] = ⊥
AreReported list table (e ∷ es) (t ∷ rows) =
    (t.place ≡ e.place) × (t.at ≡ e.definition.at) × (t.answer ≡ value_of_definition table e.place e.definition.at)
    × (value_of_definition table e.place e.definition.at ≡ equate_value list table e) × AreReported list table es rows

-- the values of the equates, none of which leads back to itself
pub record IsTable (list : List Member) (table : List EquateAnswer) : Type 0 where
  pub straight : (e : FoundDefinition) → IsIn (equates list) e → IsCircular list e → ⊥
  pub rows : AreReported list table (equates list) table
