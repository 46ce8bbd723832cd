-- Two faults at once.
use Rattle.std.proofs.Common.{◌≡◌, ℕ, Bool, false, true, eqb, List, [], ◌∷◌, length, Option, Some, None, refl, sym, ap, subst, ◌∙◌}
use Rattle.std.specs.Prelude.{Result, Ok, Err, IfOk, nat_lt, is_some}
use Rattle.std.proofs.lemmas.Bool.{eqb-true}
use Rattle.orca_meaning.specs.Line.{LineFields, Line, part, three_fields, is_comment}
use Rattle.macro_meaning.specs.Symbol.{text_of, Values}
use Rattle.macro_meaning.specs.Condition.{Answer, IsCondition}
use Rattle.macro_meaning.specs.Pieces.{pieces}
use Rattle.orca_symbols.specs.Piece.{AreNotTwo}
use Rattle.orca_symbols.specs.Plain.{plain_len}
use Rattle.orca_symbols.proofs.Fronts.{plain_text}
use Rattle.macro_meaning.specs.declared.statements.Statement.{Statement}
use Rattle.macro_meaning.specs.Statements.{statement_of, target_name}
use Rattle.macro_meaning.specs.Substitution.{naming_at}
use Rattle.orca_macro.specs.declared.effect.Effect.{Effect}
use Rattle.orca_macro.specs.EffectView.{effect_view}
use Rattle.macro_meaning.specs.declared.faults.MacroCause.{MacroCause}
use Rattle.macro_meaning.specs.declared.faults.MacroCause.TheVariants.{BadSetting}
use Rattle.macro_meaning.specs.Effect as meaning
use Rattle.macro_meaning.specs.Effect.{SymbolSetting, pair_or_earlier_fault, or_bad, operation_or_anop, IsDone, IsStatement, IsEffect}
use Rattle.macro_meaning.specs.laws.Steps.{going, IsBranchIf, IsDoneBy, IsShort, IsWithTexts, substituted_line, IsWritten}

-- the second one, where the first can only be BadSetting
pub second_fault : {A B : Type 0} (found : Option A) (cause : MacroCause) → pair_or_earlier_fault {A = A} {B = B} (or_bad found) (Err cause) ≡ Err cause
second_fault None cause = refl
second_fault (Some a) cause = refl

pub some_operation : (operation : List ℕ) → eqb (length operation) 0 ≡ false → operation_or_anop operation ≡ statement_of operation
some_operation [] some = absurd cc
some_operation (byte ∷ following) some = refl

-- a line with a statement
pub statement_is : (s : SymbolSetting) (text : List ℕ) (fields : LineFields) (operation label operand : List ℕ) (found : Statement) (d : meaning.Effect) → fields ≡ three_fields text
    → operation ≡ part text fields.operation → label ≡ part text fields.label → operand ≡ part text fields.operand → eqb (length operation) 0 ≡ false → Some found ≡ statement_of operation
    → IsDone s.values found text label operand d → IsStatement s text (three_fields text) d
statement_is s text fields operation label operand found d fields_are operation_is label_is operand_is some is done =
    let by_operand : IsDone s.values found text label (part text fields.operand) d = subst (λ (o : List ℕ). IsDone s.values found text label o d) operand_is done in
    let by_label : IsDone s.values found text (part text fields.label) (part text fields.operand) d = subst (λ (l : List ℕ). IsDone s.values found text l (part text fields.operand) d) label_is by_operand in
    let which : operation_or_anop (part text fields.operation) ≡ Some found = ap operation_or_anop (sym operation_is) ∙ some_operation operation some ∙ sym is in
    subst (λ (f : LineFields). IsStatement s text f d) fields_are (subst (λ (o : Option Statement). IsDoneBy s text fields o d) (sym which) by_label)

pub statement_ok : {E : Type 0} (s : SymbolSetting) (text : List ℕ) (fields : LineFields) (operation label operand : List ℕ) (found : Statement) (r : Result Effect E) → fields ≡ three_fields text
    → operation ≡ part text fields.operation → label ≡ part text fields.label → operand ≡ part text fields.operand → eqb (length operation) 0 ≡ false → Some found ≡ statement_of operation
    → IfOk r (λ (d : Effect). IsDone s.values found text label operand (effect_view d)) → IfOk r (λ (d : Effect). IsStatement s text (three_fields text) (effect_view d))
statement_ok s text fields operation label operand found (Ok d) fields_are operation_is label_is operand_is some is done =
    statement_is s text fields operation label operand found (effect_view d) fields_are operation_is label_is operand_is some is done
statement_ok s text fields operation label operand found (Err e) fields_are operation_is label_is operand_is some is done = done

-- a line without `&`
pub plain_is : (s : SymbolSetting) (l : Line) (text : List ℕ) (d : meaning.Effect) → text ≡ l.text → is_comment text ≡ false → eqb (plain_len text) (length text) ≡ true
    → IsShort s l (nat_lt 255 (length text)) text d → IsEffect s l d
plain_is s l text d same other plain short =
    let whole_match : plain_len l.text ≡ length l.text = subst (λ (t : List ℕ). plain_len t ≡ length t) same (eqb-true (plain_len text) (length text) plain) in
    let shown_is : substituted_line s.values l ≡ Some text = plain_text (text_of s.values) (naming_at l.text l.fields) l.text whole_match ∙ ap (λ (t : List ℕ). Some t) (sym same) in
    let not_comment : is_comment l.text ≡ false = ap is_comment (sym same) ∙ other in
    subst (λ (b : Bool). IsWritten s l b d) (sym not_comment) (subst (λ (o : Option (List ℕ)). IsWithTexts s l o d) (sym shown_is) short)

pub plain_ok : {E : Type 0} (s : SymbolSetting) (l : Line) (text : List ℕ) (r : Result Effect E) → text ≡ l.text → is_comment text ≡ false → eqb (plain_len text) (length text) ≡ true
    → IfOk r (λ (d : Effect). IsShort s l (nat_lt 255 (length text)) text (effect_view d)) → IfOk r (λ (d : Effect). IsEffect s l (effect_view d))
plain_ok s l text (Ok d) same other plain short = plain_is s l text (effect_view d) same other plain short
plain_ok s l text (Err e) same other plain short = short

-- AIF with two operands, or with another number of them
pub two_branch : (values : Values) (operand asked target : List ℕ) (answer : Answer) (named : Option (List ℕ)) (d : meaning.Effect) → pieces 0x2C operand ≡ asked ∷ target ∷ [] → IsCondition values asked answer
    → named ≡ target_name target → d ≡ going (pair_or_earlier_fault answer (or_bad named)) → IsBranchIf values (pieces 0x2C operand) d
two_branch values operand asked target answer named d are condition named_is is =
    subst (λ (ps : List (List ℕ)). IsBranchIf values ps d) (sym are) (answer, condition, is ∙ ap (λ (n : Option (List ℕ)). going (pair_or_earlier_fault answer (or_bad n))) named_is)

pub not_two : (values : Values) (ps : List (List ℕ)) → AreNotTwo ps → IsBranchIf values ps (meaning.Fail BadSetting)
not_two values [] other = refl
not_two values (a ∷ []) other = refl
not_two values (a ∷ b ∷ []) other = absurd other
not_two values (a ∷ b ∷ c ∷ more) other = refl

-- the condition doesn't hold, and a branch could go to the target
pub no_branch : (values : Values) (operand asked target : List ℕ) (answer : Answer) → pieces 0x2C operand ≡ asked ∷ target ∷ [] → IsCondition values asked answer → answer ≡ Ok 0 → is_some (target_name target) ≡ true
    → IsBranchIf values (pieces 0x2C operand) meaning.NoEffect
no_branch values operand asked target answer are condition zero_is some =
    subst (λ (ps : List (List ℕ)). IsBranchIf values ps meaning.NoEffect) (sym are) (answer, condition, by_target (target_name target) some)
  where
    by_target : (named : Option (List ℕ)) → is_some named ≡ true → meaning.NoEffect ≡ going (pair_or_earlier_fault answer (or_bad named))
    by_target None none = absurd cc
    by_target (Some name) some = rw zero_is refl
