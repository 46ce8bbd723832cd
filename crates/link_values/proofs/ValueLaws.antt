-- Values of expressions, and the operands that have none.
use Rattle.std.proofs.Common.{◌≡◌, ℕ, ◌+◌, ◌≤◌, ◌<◌, Bool, true, false, eqb, cond, List, [], ◌∷◌, ◌++◌, length, Option, Some, None, Result, Ok, Err, refl, sym, ap, subst, ◌∙◌, arith}
use Rattle.std.specs.Prelude.{slice_get}
use Rattle.std.specs.Option.{option_or}
use Rattle.std.proofs.lemmas.Bool.{le-leb, lt-leb}
use Rattle.std.proofs.lemmas.List.{length-append}
use Rattle.omf_format.specs.declared.value.Value.{Value}
use Rattle.omf_format.specs.declared.value.ValueFault.{ValueFault}
use Rattle.omf_format.specs.Expression.{Expression, Term, Operator, Location, Constant, Named, Offset, Tree, Leaf, Unary, Binary, IsOperand, IsTree, terms_of, term_text, terms_text, placed_terms, terms_in, Spells}
use Rattle.omf_format.specs.laws.ExpressionLaws.{terms_are}
use Rattle.omf_format.specs.Value.{Environment, value}
use Rattle.link_meaning.specs.Member.{Member}
use Rattle.object_meaning.specs.Terms.{tree_in, term_at}
use Rattle.object_meaning.specs.laws.TreeInLaws.{tree_in-again}
use Rattle.link_meaning.specs.Search.{FoundDefinition, finds}
use Rattle.link_program.specs.Outside.{all_found}
use Rattle.link_meaning.specs.Cycles.{is_equate}
use Rattle.link_meaning.specs.LinkValues.{EquateAnswer, value_of_definition, place_value, member_environment, found_value, fault_named, value_or_equate_fault, value_in}
use Rattle.link_meaning.specs.laws.Steps.{fault_found, tree_value, has_expr}
use Rattle.link_program.specs.Linked.{member_at}
use Rattle.link_program.specs.Finding.{IsFirstOf, finds_for}
use Rattle.link_program.specs.declared.member_place.MemberPlace.{MemberPlace}
use Rattle.link_values.specs.declared.slots.ValueSlot.{ValueSlot}
use Rattle.link_values.specs.Slots.{answer_of, label_place, AreOnce, AreSlots, rows_of}
use Rattle.link_program.specs.MemberPlaces.{IsMemberPlace}
use Rattle.link_values.specs.Surroundings.{environment_in_member, Surroundings, environment_of}
use Rattle.link_values.specs.Operands.{operand, operand_in}
use Rattle.link_values.proofs.SurroundingLaws.{meets_there}
use Rattle.link_values.proofs.SlotLaws.{or_open, row_views, label_slot}

-- ---- operands by their places

or_same : {A : Type 0} (a b c : Option A) → option_or (option_or a b) c ≡ option_or a (option_or b c)
or_same None b c = refl
or_same (Some x) b c = refl

or_none : {A : Type 0} (a : Option A) → option_or a None ≡ a
or_none None = refl
or_none (Some x) = refl

operand_in-append : (at : ℕ) (xs ys : List (ℕ × Term)) → operand_in at (xs ++ ys) ≡ option_or (operand_in at xs) (operand_in at ys)
operand_in-append at [] ys = refl
operand_in-append at (x ∷ xs) ys =
    let here = cond (eqb x.0 at) (operand x.1) None in
    ap (option_or here) (operand_in-append at xs ys) ∙ sym (or_same here (operand_in at xs) (operand_in at ys))

pub placed-append : (l p : ℕ) (xs ys : List Term) → placed_terms l p (xs ++ ys) ≡ placed_terms l p xs ++ placed_terms l (p + length (terms_text l xs)) ys
placed-append l p [] ys = ap (λ (n : ℕ). placed_terms l n ys) (omega arith)
placed-append l p (x ∷ xs) ys =
    let next : p + length (term_text l x) + length (terms_text l xs) ≡ p + length (terms_text l (x ∷ xs)) = omega (arith, length-append (term_text l x) (terms_text l xs)) in
    ap (λ (r : List (ℕ × Term)). (p, x) ∷ r) (placed-append l (p + length (term_text l x)) xs ys ∙ ap (λ (n : ℕ). placed_terms l (p + length (term_text l x)) xs ++ placed_terms l n ys) next)

is_operand : (l : ℕ) (term : Term) → IsOperand l term → operand term ≡ Some term
is_operand l (Operator code) is = absurd is
is_operand l Location is = refl
is_operand l (Constant n) is = refl
is_operand l (Named code name) is = refl
is_operand l (Offset n) is = refl

no_operator : (at p code : ℕ) → operand_in at ((p, Operator code) ∷ []) ≡ None
no_operator at p code = by_test (eqb p at)
  where
    by_test : (b : Bool) → option_or (cond b (operand (Operator code)) None) None ≡ None
    by_test true = refl
    by_test false = refl

-- the operand at a place of a tree's terms is that of the tree
pub operand_tree : (l at p : ℕ) (t : Tree) → IsTree l t → operand_in at (placed_terms l p (terms_of t)) ≡ term_at l at p t
operand_tree l at p (Leaf term) is = or_none (cond (eqb p at) (operand term) None) ∙ ap (λ (o : Option Term). cond (eqb p at) o None) (is_operand l term is)
operand_tree l at p (Unary code a) is =
    ap (operand_in at) (placed-append l p (terms_of a) (Operator code ∷ []))
    ∙ operand_in-append at (placed_terms l p (terms_of a)) (placed_terms l (p + length (terms_text l (terms_of a))) (Operator code ∷ []))
    ∙ ap (option_or (operand_in at (placed_terms l p (terms_of a)))) (no_operator at (p + length (terms_text l (terms_of a))) code)
    ∙ or_none (operand_in at (placed_terms l p (terms_of a)))
    ∙ operand_tree l at p a is.2
operand_tree l at p (Binary code a b) is =
    let following = p + length (terms_text l (terms_of a)) in
    let last = following + length (terms_text l (terms_of b)) in
    ap (operand_in at) (placed-append l p (terms_of a) (terms_of b ++ Operator code ∷ []))
    ∙ operand_in-append at (placed_terms l p (terms_of a)) (placed_terms l following (terms_of b ++ Operator code ∷ []))
    ∙ ap (option_or (operand_in at (placed_terms l p (terms_of a))))
    (ap (operand_in at) (placed-append l following (terms_of b) (Operator code ∷ []))
    ∙ operand_in-append at (placed_terms l following (terms_of b)) (placed_terms l last (Operator code ∷ []))
    ∙ ap (option_or (operand_in at (placed_terms l following (terms_of b)))) (no_operator at last code)
    ∙ or_none (operand_in at (placed_terms l following (terms_of b)))
    ∙ operand_tree l at following b is.3)
    ∙ ap (λ (o : Option Term). option_or o (term_at l at following b)) (operand_tree l at p a is.2)

pub operand_is : (l at : ℕ) (text : List ℕ) (t : Tree) → Spells l text t → operand_in at (terms_in l 0 text) ≡ term_at l at 0 t
operand_is l at text t spells = ap (operand_in at) (terms_are l text t spells) ∙ operand_tree l at 0 t spells.formed

-- ---- the fault of an equate

abbrev fault_in : Result Value ValueFault → ValueFault → ValueFault
fault_in r fault = elim r [ Ok v ↦ fault | Err of ↦ of ]

-- what the slot of the first that was found says
module _ (list : List Member) (all : List FoundDefinition) (slots : List ValueSlot) (n : ℕ) (once : AreOnce all) (are : AreSlots list all slots) (fault : ValueFault) where
  equate_says : (f : FoundDefinition) (s : ValueSlot) → slice_get all n ≡ Some f → slice_get slots n ≡ Some s → is_equate f ≡ true → fault_in (found_value list (rows_of all slots) f) fault ≡ fault_in (or_open (answer_of s)) fault
  equate_says f s here there is = by_expr f.definition.expr refl
    where
      true_false : true ≡ false → ⊥
      true_false e = cc

      by_expr : (x : Option (List ℕ)) → f.definition.expr ≡ x
          → fault_in (elim x as (λ y. Result Value ValueFault) [ None ↦ Ok (label_place list f) | Some text ↦ value_of_definition (rows_of all slots) f.place f.definition.at ]) fault ≡ fault_in (or_open (answer_of s)) fault
      by_expr None e = absurd (true_false (sym is ∙ ap has_expr e))
      by_expr (Some text) e = ap (λ (r : Result Value ValueFault). fault_in r fault) (row_views all slots n f s once here there is)

  label_says : (f : FoundDefinition) (s : ValueSlot) → slice_get all n ≡ Some f → slice_get slots n ≡ Some s → is_equate f ≡ false → fault_in (found_value list (rows_of all slots) f) fault ≡ fault_in (or_open (answer_of s)) fault
  label_says f s here there is = by_expr f.definition.expr refl
    where
      true_false : true ≡ false → ⊥
      true_false e = cc

      by_expr : (x : Option (List ℕ)) → f.definition.expr ≡ x
          → fault_in (elim x as (λ y. Result Value ValueFault) [ None ↦ Ok (label_place list f) | Some text ↦ value_of_definition (rows_of all slots) f.place f.definition.at ]) fault ≡ fault_in (or_open (answer_of s)) fault
      by_expr None e = ap (λ (t : ValueSlot). fault_in (or_open (answer_of t)) fault) (sym (label_slot list all slots n f s are here there is))
      by_expr (Some text) e = absurd (true_false (sym (ap has_expr e) ∙ is))

  pub fault_says : (founds : List FoundDefinition) (s : ValueSlot) → IsFirstOf all founds (Some n) → slice_get slots n ≡ Some s → fault_in (or_open (answer_of s)) fault ≡ fault_found list (rows_of all slots) fault founds
  fault_says [] s first there = absurd first
  fault_says (f ∷ founds) s first there = sym (by_test (is_equate f) refl)
    where
      by_test : (b : Bool) → is_equate f ≡ b → fault_in (found_value list (rows_of all slots) f) fault ≡ fault_in (or_open (answer_of s)) fault
      by_test true is = equate_says f s first there is
      by_test false is = label_says f s first there is

-- ---- values

pub value_settled : (list : List Member) (slots : List ValueSlot) (member_place : MemberPlace) (m : Member) (location : ℕ) (here start : Value) (text : List ℕ) (t : Tree) (r : Result Value ValueFault) → IsMemberPlace list m member_place
    → here ≡ place_value list member_place.place m location → start ≡ place_value list member_place.place m 0 → Spells member_place.lab_len text t → r ≡ value (environment_in_member list slots member_place.place (member_at list member_place.place) here start) member_place.lab_len 0 t
    → value_or_equate_fault list (rows_of (all_found list) slots) member_place.place m t r ≡ value_in list (rows_of (all_found list) slots) member_place.place m location text
unfolding value_in
value_settled list slots member_place m location here start text t r is here_is start_is spells value_is =
    let rows = rows_of (all_found list) slots in
    let tree : tree_in m.segment.fields.lab_len text ≡ Some t = tree_in-again m.segment.fields.lab_len text t (subst (λ (l : ℕ). Spells l text t) is.lab_len' spells) in
    ap (value_or_equate_fault list rows member_place.place m t) (value_is
    ∙ ap (λ (e : Environment). value e member_place.lab_len 0 t) (meets_there list slots member_place.place m location here start is.there here_is start_is)
    ∙ ap (λ (l : ℕ). value (member_environment list rows member_place.place m location) l 0 t) is.lab_len')
    ∙ sym (ap (tree_value list rows member_place.place m location) tree)

-- the value in the environment of a place
pub evaluated : (e : Expression) (s : Surroundings) (l : ℕ) (text : List ℕ) (list : List Member) (slots : List ValueSlot) (place : ℕ) (here start : Value) (t : Tree) (r : Result Value ValueFault) → e ≡ record { text = text; lab_len = l }
    → s ≡ record { list = list; slots = slots; place = place; location = here; start = start } → ((u : Tree) → Spells e.lab_len e.text u → r ≡ value (environment_of s) e.lab_len 0 u) → Spells l text t
    → r ≡ value (environment_in_member list slots place (member_at list place) here start) l 0 t
evaluated e s l text list slots place here start t r e_is s_is go spells =
    go t (subst (λ (x : Expression). Spells x.lab_len x.text t) (sym e_is) spells)
    ∙ ap (λ (x : Expression). value (environment_of s) x.lab_len 0 t) e_is
    ∙ ap (λ (x : Surroundings). value (environment_of x) l 0 t) s_is

-- the fault of the operand at a place
pub asked_fault : (list : List Member) (rows : List EquateAnswer) (place : ℕ) (m : Member) (fault : ValueFault) (l at : ℕ) (text : List ℕ) (t : Tree) (o : Option Term) → Spells l text t → o ≡ operand_in at (terms_in l 0 text)
    → fault_named list rows place m fault o ≡ fault_named list rows place m fault (term_at l at 0 t)
asked_fault list rows place m fault l at text t o spells is = ap (fault_named list rows place m fault) (is ∙ operand_is l at text t spells)

pub named_fault : (list : List Member) (rows : List EquateAnswer) (place code : ℕ) (m : Member) (name : List ℕ) (fault : ValueFault) → member_at list place ≡ Some m → code ≤ 0x83
    → fault_found list rows fault (finds_for list place (member_at list place) name) ≡ fault_named list rows place m fault (Some (Named code name))
named_fault list rows place code m name fault there le =
    ap (λ (o : Option Member). fault_found list rows fault (finds_for list place o name)) there
    ∙ sym (ap (λ (b : Bool). cond b (fault_found list rows fault (finds list place m name)) fault) (le-leb code 0x83 le))

pub other_fault : (list : List Member) (rows : List EquateAnswer) (place code : ℕ) (m : Member) (name : List ℕ) (fault : ValueFault) → 0x83 < code → fault ≡ fault_named list rows place m fault (Some (Named code name))
other_fault list rows place code m name fault lt = sym (ap (λ (b : Bool). cond b (fault_found list rows fault (finds list place m name)) fault) (lt-leb code 0x83 lt))
