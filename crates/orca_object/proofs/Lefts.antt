-- What directives leave, as the definition says it.
use Rattle.std.proofs.Common.{◌≡◌, ℕ, Bool, true, false, List, [], ◌∷◌, Result, Ok, Err, refl, sym, ap, subst, cond, arith, ◌∙◌}
use Rattle.omf_format.specs.declared.codes.TheConstants.{DIRECTIVE_LABEL}
use Rattle.omf_format.specs.Field.{◌>>=◌}
use Rattle.orca_meaning.specs.Line.{Line}
use Rattle.asm_meaning.specs.declared.directives.Class.{Class}
use Rattle.asm_meaning.specs.declared.directives.Switch.{Switch}
use Rattle.asm_meaning.specs.declared.directives.Directive.TheVariants as directives
use Rattle.asm_meaning.specs.declared.directives.Operation.TheVariants.{Direct}
use Rattle.asm_meaning.specs.declared.faults.AsmCause.{AsmCause}
use Rattle.asm_meaning.specs.declared.faults.AsmCause.TheVariants.{BadOperand}
use Rattle.asm_meaning.specs.Answer.{Answer, pair_or_earlier_fault, earlier}
use Rattle.asm_meaning.specs.Constant as meaning
use Rattle.asm_meaning.specs.Constant.{Constants}
use Rattle.asm_meaning.specs.State.{State, in_segment, state_after_start, within_length}
use Rattle.orca_meaning.specs.Characters.{is_name, folded}
use Rattle.asm_meaning.specs.laws.InstructionLaws.{both_ok}
use Rattle.asm_meaning.specs.Statement.{IsDone, constants_of, marking, with_equate, name_of, load_name_of}
use Rattle.asm_meaning.specs.laws.Steps.{entering, turning, beginning}
use Rattle.orca_operands.specs.declared.amount.Amount.{Amount}
use Rattle.orca_object.specs.declared.state.AsmState.{AsmState}
use Rattle.orca_operands.specs.AmountView.{AmountBytes as Amount_kept, kept_view, kept_of, kept_answer, amount_view}
use Rattle.orca_object.specs.DoneView.{IsSome, using_by, spaced_by, aligned_by, moved_by, kinded_by}
use Rattle.orca_object.specs.DoingView.{HasDistance, ending, IsEquated, IsConstant}
use Rattle.orca_object.specs.EquateView.{with_constant}
use Rattle.orca_operands.specs.NumberView.{HasNumber, HasAmount, number_found, amount_found}
use Rattle.orca_object.specs.StateView.{ShowsState, Leaves, IsLeft}

pub nothing_left : {U : Type 0} (state : State) (line : Line) (label : Answer (List ℕ)) (text : List ℕ) (done : Result U AsmCause) (k : AsmState) → Leaves done k (marking state DIRECTIVE_LABEL label (Ok [])) → IsLeft state line (Direct directives.Nothing) label text done k
unfolding IsDone
nothing_left state line label text done k leaves = record { left = marking state DIRECTIVE_LABEL label (Ok []); is = refl; leaves = leaves }

pub ignored_left : {U : Type 0} (state : State) (line : Line) (label : Answer (List ℕ)) (text : List ℕ) (done : Result U AsmCause) (k : AsmState) → Leaves done k (marking state DIRECTIVE_LABEL label (Ok [])) → IsLeft state line (Direct directives.Ignored) label text done k
unfolding IsDone
ignored_left state line label text done k leaves = record { left = marking state DIRECTIVE_LABEL label (Ok []); is = refl; leaves = leaves }

pub turn_left : {U : Type 0} (state : State) (line : Line) (switch : Switch) (label : Answer (List ℕ)) (text : List ℕ) (done : Result U AsmCause) (k : AsmState) → Leaves done k (turning state switch label text)
    → IsLeft state line (Direct (directives.Turn switch)) label text done k
unfolding IsDone
turn_left state line switch label text done k leaves = record { left = turning state switch label text; is = refl; leaves = leaves }

pub entry_left : {U : Type 0} (state : State) (line : Line) (label : Answer (List ℕ)) (text : List ℕ) (done : Result U AsmCause) (k : AsmState) → Leaves done k (entering state label) → IsLeft state line (Direct directives.Entry) label text done k
unfolding IsDone
entry_left state line label text done k leaves = record { left = entering state label; is = refl; leaves = leaves }

pub begin_left : {U : Type 0} (state : State) (line : Line) (class : Class) (label : Answer (List ℕ)) (text : List ℕ) (done : Result U AsmCause) (k : AsmState) → Leaves done k (beginning state line class label text)
    → IsLeft state line (Direct (directives.Begin class)) label text done k
unfolding IsDone
begin_left state line class label text done k leaves = record { left = beginning state line class label text; is = refl; leaves = leaves }

pub end_left : {U : Type 0} (state : State) (line : Line) (label : Answer (List ℕ)) (text : List ℕ) (done : Result U AsmCause) (k : AsmState) → Leaves done k (ending state label) → IsLeft state line (Direct directives.End) label text done k
unfolding IsDone
end_left state line label text done k leaves = record { left = ending state label; is = refl; leaves = leaves }

pub using_left : {U : Type 0} (state : State) (line : Line) (label found : Answer (List ℕ)) (text : List ℕ) (done : Result U AsmCause) (k : AsmState) → found ≡ name_of text → Leaves done k (using_by state label found)
    → IsLeft state line (Direct directives.Using) label text done k
unfolding IsDone
using_left state line label found text done k is leaves = record { left = using_by state label (name_of text); is = refl; leaves = subst (λ (n : Answer (List ℕ)). Leaves done k (using_by state label n)) is leaves }

-- ---- by a number

number_is : (state : State) (cs : Constants) (text : List ℕ) (number : Answer ℕ) (h : HasNumber cs text number) → cs ≡ constants_of state → number ≡ number_found (constants_of state) h.found
number_is state cs text number h same = h.number ∙ ap (λ (c : Constants). number_found c h.found) same

pub space_left : {U : Type 0} (state : State) (line : Line) (cs : Constants) (label : Answer (List ℕ)) (text : List ℕ) (number : Answer ℕ) (done : Result U AsmCause) (k : AsmState) → HasNumber cs text number → cs ≡ constants_of state
    → Leaves done k (spaced_by state label number) → IsLeft state line (Direct directives.Space) label text done k
unfolding IsDone
space_left state line cs label text number done k h same leaves = record {
  left = spaced_by state label (number_found (constants_of state) h.found);
  is = (h.found, h.formula, refl);
  leaves = subst (λ (n : Answer ℕ). Leaves done k (spaced_by state label n)) (number_is state cs text number h same) leaves;
}

pub align_left : {U : Type 0} (state : State) (line : Line) (cs : Constants) (label : Answer (List ℕ)) (text : List ℕ) (number : Answer ℕ) (done : Result U AsmCause) (k : AsmState) → HasNumber cs text number → cs ≡ constants_of state
    → Leaves done k (aligned_by state label number) → IsLeft state line (Direct directives.Align) label text done k
unfolding IsDone
align_left state line cs label text number done k h same leaves = record {
  left = aligned_by state label (number_found (constants_of state) h.found);
  is = (h.found, h.formula, refl);
  leaves = subst (λ (n : Answer ℕ). Leaves done k (aligned_by state label n)) (number_is state cs text number h same) leaves;
}

pub kind_left : {U : Type 0} (state : State) (line : Line) (cs : Constants) (label : Answer (List ℕ)) (text : List ℕ) (number : Answer ℕ) (done : Result U AsmCause) (k : AsmState) → HasNumber cs text number → cs ≡ constants_of state
    → Leaves done k (kinded_by state label number) → IsLeft state line (Direct directives.Kind) label text done k
unfolding IsDone
kind_left state line cs label text number done k h same leaves = record {
  left = kinded_by state label (number_found (constants_of state) h.found);
  is = (h.found, h.formula, refl);
  leaves = subst (λ (n : Answer ℕ). Leaves done k (kinded_by state label n)) (number_is state cs text number h same) leaves;
}

pub org_left : {U : Type 0} (state : State) (line : Line) (label : Answer (List ℕ)) (text : List ℕ) (number : Answer ℕ) (done : Result U AsmCause) (k : AsmState) → HasDistance state text number
    → Leaves done k (moved_by state label number) → IsLeft state line (Direct directives.Org) label text done k
unfolding IsDone
org_left state line label text number done k h leaves = record {
  left = moved_by state label (number_found (constants_of state) h.found);
  is = (h.found, h.move, refl);
  leaves = subst (λ (n : Answer ℕ). Leaves done k (moved_by state label n)) h.number' leaves;
}

-- ---- EQU and GEQU

abbrev kept_fault : AsmCause → Answer Amount_kept
kept_fault cause = Err cause

abbrev kept_ok : Amount_kept → Answer Amount_kept
kept_ok x = Ok x

abbrev code_fault : AsmCause → Answer (List ℕ × Amount)
code_fault cause = Err cause

abbrev meant_fault : AsmCause → Answer (List ℕ × meaning.Amount)
meant_fault cause = Err cause

same_cause : (c d : AsmCause) → kept_fault c ≡ kept_fault d → c ≡ d
same_cause c d e = cc

reported : (c d cause : AsmCause) → c ≡ d → code_fault c ≡ code_fault cause → meant_fault d ≡ meant_fault cause
reported c d cause same b = cc

fault_of_both : (label : Answer (List ℕ)) (a : Result Amount AsmCause) (meant : Answer meaning.Amount) (cause : AsmCause) → amount_view a ≡ kept_answer 0 meant → pair_or_earlier_fault label a ≡ Err cause → pair_or_earlier_fault label meant ≡ Err cause
fault_of_both (Ok name) (Ok x) (Ok m) cause e b = absurd cc
fault_of_both (Ok name) (Ok x) (Err d) cause e b = absurd cc
fault_of_both (Ok name) (Err c) (Ok m) cause e b = absurd cc
fault_of_both (Ok name) (Err c) (Err d) cause e b = reported c d cause (same_cause c d e) b
fault_of_both (Err other) (Ok x) (Ok m) cause e b = reported other other cause refl b
fault_of_both (Err other) (Ok x) (Err d) cause e b = absurd cc
fault_of_both (Err other) (Err c) (Ok m) cause e b = absurd cc
fault_of_both (Err other) (Err c) (Err d) cause e b = reported (earlier other c) (earlier other d) cause (ap (earlier other) (same_cause c d e)) b

pub equ_fault : (state : State) (cs : Constants) (global : Bool) (label : Answer (List ℕ)) (a : Result Amount AsmCause) (text : List ℕ) (k : AsmState) (cause : AsmCause) → HasAmount cs text a → cs ≡ constants_of state → pair_or_earlier_fault label a ≡ Err cause
    → IsEquated {U = Unit {0}} state global label text (Err cause) k
equ_fault state cs global label a text k cause h same b = record {
  found = h.found;
  formula = h.formula;
  leaves = ap (λ (x : Answer (List ℕ × meaning.Amount)). (x >>= λ (name, m). Ok (in_segment (with_equate global name m) state)) >>= within_length)
      (fault_of_both label a (amount_found (constants_of state) h.found) cause (h.amount' ∙ ap (λ (c : Constants). kept_answer 0 (amount_found c h.found)) same) b);
}

pub constant_fault : (state : State) (cs : Constants) (label : Answer (List ℕ)) (number : Answer ℕ) (text : List ℕ) (k : AsmState) (cause : AsmCause) → HasNumber cs text number → cs ≡ constants_of state → pair_or_earlier_fault label number ≡ Err cause
    → IsConstant {U = Unit {0}} state label text (Err cause) k
constant_fault state cs label number text k cause h same b = record {
  found = h.found;
  formula = h.formula;
  leaves = ap (λ (x : Answer (List ℕ × ℕ)). (x >>= λ (name, n). Ok (with_constant name n state)) >>= within_length) (sym (ap (pair_or_earlier_fault label) (number_is state cs text number h same)) ∙ b);
}

given_left : (state : State) (label : Answer (List ℕ)) (meant : meaning.Amount) (found : Answer meaning.Amount) (global : Bool) (name : List ℕ) → label ≡ Ok name → found ≡ Ok meant
    → (pair_or_earlier_fault label found >>= λ (n, m). Ok (in_segment (with_equate global n m) state)) ≡ Ok (in_segment (with_equate global name meant) state)
given_left state label meant found global name is e =
    ap (λ (l : Answer (List ℕ)). pair_or_earlier_fault l found >>= λ (n, m). Ok (in_segment (with_equate global n m) state)) is
    ∙ ap (λ (f : Answer meaning.Amount). pair_or_earlier_fault (label_ok name) f >>= λ (n, m). Ok (in_segment (with_equate global n m) state)) e
  where
    label_ok : List ℕ → Answer (List ℕ)
    label_ok n = Ok n

-- what is kept of an amount is that of one that is meant
pub meant_of : (a : Amount) (meant : Answer meaning.Amount) → amount_view (Ok a) ≡ kept_answer 0 meant → (m : meaning.Amount) × (meant ≡ Ok m) × (kept_view a ≡ kept_of 0 m)
meant_of a (Ok m) e = (m, refl, same (kept_view a) (kept_of 0 m) e)
  where
    same : (x y : Amount_kept) → kept_ok x ≡ kept_ok y → x ≡ y
    same x y e = cc
meant_of a (Err cause) e = absurd cc

pub equ_good : (state : State) (cs : Constants) (k : AsmState) (global : Bool) (label : Answer (List ℕ)) (answer : Result Amount AsmCause) (a : Amount) (text name : List ℕ) → HasAmount cs text answer → cs ≡ constants_of state
    → pair_or_earlier_fault label answer ≡ Ok (name, a) → ((meant : meaning.Amount) → kept_view a ≡ kept_of 0 meant → ShowsState (in_segment (with_equate global name meant) state) k)
    → IsEquated {U = Unit {0}} state global label text (Ok tt) k
equ_good state cs k global label answer a text name h same b shows =
    let parts = both_ok label answer (name, a) b in
    let view : amount_view (Ok a) ≡ kept_answer 0 (amount_found (constants_of state) h.found) = sym (ap amount_view parts.1) ∙ h.amount' ∙ ap (λ (c : Constants). kept_answer 0 (amount_found c h.found)) same in
    let m = meant_of a (amount_found (constants_of state) h.found) view in
    record {
      found = h.found;
      formula = h.formula;
      leaves = (
        in_segment (with_equate global name m.0) state,
        given_left state label m.0 (amount_found (constants_of state) h.found) global name parts.0 m.1,
        shows m.0 m.2,
      );
    }

-- ---- USING

pub some_named : (text : List ℕ) → IsSome (name_of text)
unfolding is_name
some_named [] = tt
some_named (byte ∷ text) = by_name (is_name (byte ∷ text))
  where
    by_name : (b : Bool) → IsSome (cond b (Ok (folded (byte ∷ text))) (Err BadOperand))
    by_name true = omega arith
    by_name false = tt

-- ---- START and its kin

pub both_of : {A B : Type 0} (a x : Answer A) (b y : Answer B) → a ≡ x → b ≡ y → pair_or_earlier_fault a b ≡ pair_or_earlier_fault x y
both_of {A = A} a x b y p q = ap (λ (t : Answer A). pair_or_earlier_fault t b) p ∙ ap (pair_or_earlier_fault x) q

pub begin_good : (state : State) (line : Line) (class : Class) (label : Answer (List ℕ)) (text name load_name : List ℕ) (k : AsmState) → label ≡ Ok name → load_name_of text ≡ Ok load_name → ShowsState (state_after_start state line class name load_name) k
    → IsLeft {U = Unit {0}} state line (Direct (directives.Begin class)) label text (Ok tt) k
begin_good state line class label text name load_name k is e shows =
    begin_left state line class label text (Ok tt) k
    (state_after_start state line class name load_name, ap (λ (x : Answer (List ℕ × List ℕ)). x >>= λ (n, l). Ok (state_after_start state line class n l)) (both_of label (Ok name) (load_name_of text) (Ok load_name) is e), shows)

pub begin_bad : (state : State) (line : Line) (class : Class) (label : Answer (List ℕ)) (text : List ℕ) (k : AsmState) (cause : AsmCause) → pair_or_earlier_fault label (load_name_of text) ≡ Err cause
    → IsLeft {U = Unit {0}} state line (Direct (directives.Begin class)) label text (Err cause) k
begin_bad state line class label text k cause e =
    begin_left state line class label text (Err cause) k (ap (λ (x : Answer (List ℕ × List ℕ)). (x >>= λ (n, l). Ok (state_after_start state line class n l)) >>= within_length) e)
