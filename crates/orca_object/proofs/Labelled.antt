-- The label of a statement.
use Rattle.std.proofs.Common.{◌≡◌, ℕ, ◌≤◌, Bool, true, false, cond, eqb, List, [], ◌∷◌, length, Ok, Err, sym, ap, subst, ◌∙◌, arith}
use Rattle.orca_meaning.specs.Characters.{is_name, folded}
use Rattle.asm_meaning.specs.declared.directives.Operation.{Operation}
use Rattle.asm_meaning.specs.declared.faults.AsmCause.TheVariants.{BadLabel, Duplicate}
use Rattle.asm_meaning.specs.Answer.{Answer}
use Rattle.asm_meaning.specs.State.{State}
use Rattle.asm_meaning.specs.Statement.{label_of, is_taken, needs_label}
use Rattle.asm_meaning.specs.laws.Steps.{free_label}
use Rattle.orca_operands.specs.OperandView as view
use Rattle.orca_object.specs.DoneView.{IsSome}
use Rattle.orca_operands.proofs.ByFormulas.{empty_list}

abbrev fault : Answer (List ℕ)
fault = Err BadLabel

abbrev label : List ℕ → Answer (List ℕ)
label text = Ok text

abbrev missing : Operation → Answer (List ℕ)
missing = view.no_label

-- none
pub no_label : (state : State) (operation : Operation) (text : List ℕ) (answer : Answer (List ℕ)) → eqb (length text) 0 ≡ true → answer ≡ missing operation → answer ≡ label_of state operation text
no_label state operation text answer none is = is ∙ sym (ap (label_of state operation) (empty_list text none))

pub no_label_some : (operation : Operation) (answer : Answer (List ℕ)) → answer ≡ missing operation → needs_label operation ≡ true → IsSome answer
no_label_some operation answer is needs = subst IsSome (sym (is ∙ ap (λ (b : Bool). cond b fault (label [])) needs)) tt

-- no name
pub bad_label : (state : State) (operation : Operation) (text : List ℕ) → eqb (length text) 0 ≡ false → is_name text ≡ false → fault ≡ label_of state operation text
bad_label state operation [] some bad = absurd cc
bad_label state operation (byte ∷ text) some bad = sym (ap (λ (b : Bool). cond b (free_label (is_taken state state.segment operation (folded (byte ∷ text))) (folded (byte ∷ text))) fault) bad)

-- a name
named : (state : State) (operation : Operation) (text : List ℕ) (taken : Bool) → eqb (length text) 0 ≡ false → is_name text ≡ true → taken ≡ is_taken state state.segment operation (folded text)
    → free_label taken (folded text) ≡ label_of state operation text
named state operation [] taken some good is = absurd cc
named state operation (byte ∷ text) taken some good is =
    ap (λ (b : Bool). free_label b (folded (byte ∷ text))) is ∙ sym (ap (λ (b : Bool). cond b (free_label (is_taken state state.segment operation (folded (byte ∷ text))) (folded (byte ∷ text))) fault) good)

pub taken_label : (state : State) (operation : Operation) (text name : List ℕ) (taken : Bool) → eqb (length text) 0 ≡ false → is_name text ≡ true → name ≡ folded text → taken ≡ is_taken state state.segment operation name → taken ≡ true
    → Rattle.std.specs.Prelude.Err Duplicate ≡ label_of state operation text
taken_label state operation text name taken some good same is test =
    sym (ap (λ (b : Bool). free_label b (folded text)) test) ∙ named state operation text taken some good (is ∙ ap (is_taken state state.segment operation) same)

pub free_label_is : (state : State) (operation : Operation) (text name : List ℕ) (taken : Bool) → eqb (length text) 0 ≡ false → is_name text ≡ true → name ≡ folded text → taken ≡ is_taken state state.segment operation name → taken ≡ false
    → label name ≡ label_of state operation text
free_label_is state operation text name taken some good same is test =
    ap label same ∙ sym (ap (λ (b : Bool). free_label b (folded text)) test) ∙ named state operation text taken some good (is ∙ ap (is_taken state state.segment operation) same)

pub some_name : (text name : List ℕ) → eqb (length text) 0 ≡ false → name ≡ folded text → 1 ≤ length name
some_name [] name some same = absurd cc
some_name (byte ∷ text) name some same = omega (arith, ap length same)
