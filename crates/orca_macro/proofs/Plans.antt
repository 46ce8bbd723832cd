-- What is known of lines before they are visited.
use Rattle.std.proofs.Common.{◌≡◌, ◌≤◌, ℕ, zero, suc, Bool, true, false, cond, eqb, List, [], ◌∷◌, ◌++◌, length, Option, Some, None, refl, sym, ap, subst, ◌∙◌}
use Rattle.std.specs.Prelude.{Result, Ok, Err, IfOk, nat_lt, slice_get, codes}
use Rattle.std.proofs.lemmas.Bool.{le-ltb, eqb-true}
use Rattle.orca_meaning.specs.Line.{LineFields, Line, part, three_fields, is_comment}
use Rattle.macro_meaning.specs.Effect as meaning
use Rattle.macro_meaning.specs.Effect.{SymbolSetting, IsStatement, IsEffect, IsAfterText, without_sequence_symbol}
use Rattle.macro_meaning.specs.laws.Steps.{IsShort, IsAfterCut, IsWritten, IsWithTexts, begins_definition}
use Rattle.macro_meaning.specs.Definition.{operation_is}
use Rattle.macro_meaning.specs.Statements.{statement_of}
use Rattle.macro_meaning.specs.Substitution.{naming_at, substituted_from}
use Rattle.macro_meaning.specs.Symbol.{text_of}
use Rattle.macro_meaning.specs.Visit.{MacroProgram, line_at, body_of}
use Rattle.macro_meaning.specs.declared.statements.Statement.{Statement}
use Rattle.orca_symbols.specs.Plain.{plain_len}
use Rattle.orca_macro.specs.Plan.{known_effect, FitsDone, FitsStatement, FitsLine, IsAlways, IsPlain, Fits, FitsAt, HavePlans}
use Rattle.orca_macro.specs.EffectView.{effect_view}
use Rattle.orca_macro.specs.declared.effect.Effect.{Effect}
use Rattle.orca_macro.specs.declared.plan.KnownHead.{KnownHead}
use Rattle.orca_macro.specs.declared.plan.LinePlan.{LinePlan}
use Rattle.orca_macro.proofs.Both.{plain_is, statement_is}
use Rattle.orca_symbols.proofs.Fronts.{plain_text}

-- ---- what is known of a line does it here

pub always : (s : SymbolSetting) (l : Line) (said : Option meaning.Effect) (d : meaning.Effect) → FitsLine l said → said ≡ Some d → IsEffect s l d
always s l None d fits none = absurd cc
always s l (Some e) d fits some = subst (λ (x : Option meaning.Effect). of x) some (fits.is s)
  where
    of : Option meaning.Effect → Type 0
    of None = ⊥
    of (Some x) = IsEffect s l x

pub comment_rests : (s : SymbolSetting) (l : Line) → is_comment l.text ≡ true → IsEffect s l meaning.NoEffect
comment_rests s l comment = subst (λ (b : Bool). IsWritten s l b meaning.NoEffect) (sym comment) refl

-- a line without `&`
pub plain_does : {E : Type 0} (s : SymbolSetting) (l : Line) (text : List ℕ) (r : Result Effect E) → text ≡ l.text → IsPlain l
    → IfOk r (λ (d : Effect). IsShort s l (nat_lt 255 (length text)) text (effect_view d)) → IfOk r (λ (d : Effect). IsEffect s l (effect_view d))
plain_does s l text (Err e) same plain short = short
plain_does s l text (Ok d) same plain short =
    subst (λ (b : Bool). IsWritten s l b (effect_view d)) (sym plain.0) (subst (λ (o : Option (List ℕ)). IsWithTexts s l o (effect_view d)) (sym (shown_is l.text l.fields plain.1 ∙ ap (λ (t : List ℕ). Some t) (sym same))) short)
  where
    shown_is : (t : List ℕ) (fields : LineFields) → plain_len t ≡ length t → substituted_from (text_of s.values) (naming_at t fields) 0 0 t ≡ Some t
    shown_is t fields whole = plain_text (text_of s.values) (naming_at t fields) t whole

-- ---- what is known of a line is right

pub statement_fits : {E : Type 0} (text : List ℕ) (fields : LineFields) (operation label operand : List ℕ) (found : Statement) (r : Result KnownHead E) → fields ≡ three_fields text
    → operation ≡ part text fields.operation → label ≡ part text fields.label → operand ≡ part text fields.operand → eqb (length operation) 0 ≡ false → Some found ≡ statement_of operation
    → IfOk r (λ (p : KnownHead). FitsDone found text label operand (known_effect p)) → IfOk r (λ (p : KnownHead). FitsStatement text (known_effect p))
statement_fits text fields operation label operand found (Err e) fields_are operation_is label_is operand_is some is done = done
statement_fits text fields operation label operand found (Ok p) fields_are operation_is label_is operand_is some is done = of_effect (known_effect p) done
  where
    of_effect : (o : Option meaning.Effect) → FitsDone found text label operand o → FitsStatement text o
    of_effect None so = tt
    of_effect (Some d) so = record { is = λ s. statement_is s text fields operation label operand found d fields_are operation_is label_is operand_is some is (so.is s.values) }

-- no line of a definition begins there
none_begins : (s : SymbolSetting) (l : Line) → operation_is (codes "MACRO") l ≡ false → begins_definition s l ≡ false
none_begins s l other = by s.in_source
  where
    by : (b : Bool) → cond b (operation_is (codes "MACRO") l) false ≡ false
    by true = other
    by false = refl

short_text : (text : List ℕ) → length text ≤ 255 → nat_lt 255 (length text) ≡ false
short_text text few = le-ltb 255 (length text) few

-- what follows the sequence symbol of a line without `&`
pub after_cut : (s : SymbolSetting) (l : Line) (text : List ℕ) (d : meaning.Effect) → text ≡ l.text → length text ≤ 255 → is_comment text ≡ false → eqb (plain_len text) (length text) ≡ true
    → operation_is (codes "MACRO") l ≡ false → IsAfterCut s (is_comment (without_sequence_symbol text)) (without_sequence_symbol text) d → IsEffect s l d
after_cut s l text d same few other plain no_macro after =
    plain_is s l text d same other plain
    (subst (λ (b : Bool). IsShort s l b text d) (sym (short_text text few)) (subst (λ (b : Bool). IsAfterText s b text d) (sym (none_begins s l no_macro)) after))

pub rest_fits : (l : Line) (text rest : List ℕ) → text ≡ l.text → length text ≤ 255 → is_comment text ≡ false → eqb (plain_len text) (length text) ≡ true
    → operation_is (codes "MACRO") l ≡ false → rest ≡ without_sequence_symbol text → is_comment rest ≡ true → IsAlways l meaning.NoEffect
rest_fits l text rest same few other plain no_macro cut_is comment =
    record { is = λ s. after_cut s l text meaning.NoEffect same few other plain no_macro (subst (λ (b : Bool). IsAfterCut s b (without_sequence_symbol text) meaning.NoEffect) (sym (ap is_comment (sym cut_is) ∙ comment)) refl) }

pub line_fits : {E : Type 0} (l : Line) (text rest : List ℕ) (r : Result KnownHead E) → text ≡ l.text → length text ≤ 255 → is_comment text ≡ false → eqb (plain_len text) (length text) ≡ true
    → operation_is (codes "MACRO") l ≡ false → rest ≡ without_sequence_symbol text → is_comment rest ≡ false → IfOk r (λ (p : KnownHead). FitsStatement rest (known_effect p)) → IfOk r (λ (p : KnownHead). FitsLine l (known_effect p))
line_fits l text rest (Err e) same few other plain no_macro cut_is statement fits = fits
line_fits l text rest (Ok p) same few other plain no_macro cut_is statement fits = of_effect (known_effect p) fits
  where
    of_effect : (o : Option meaning.Effect) → FitsStatement rest o → FitsLine l o
    of_effect None so = tt
    of_effect (Some d) so =
        record {
          is = λ s. after_cut s l text d same few other plain no_macro
              (subst (λ (b : Bool). IsAfterCut s b (without_sequence_symbol text) d) (sym (ap is_comment (sym cut_is) ∙ statement)) (subst (λ (t : List ℕ). IsStatement s t (three_fields t) d) cut_is (so.is s)));
        }

pub plain_fits : (l : Line) (text : List ℕ) (p : KnownHead) → text ≡ l.text → is_comment text ≡ false → eqb (plain_len text) (length text) ≡ true → FitsLine l (known_effect p) → IsPlain l × FitsLine l (known_effect p)
plain_fits l text p same other plain fits =
    ((ap is_comment (sym same) ∙ other, subst (λ (t : List ℕ). plain_len t ≡ length t) same (eqb-true (plain_len text) (length text) plain)), fits)

-- ---- the plans of lines

pub no_plans : (lines : List Line) (plans : List LinePlan) → plans ≡ [] → HavePlans lines plans
no_plans lines plans empty = record { at = λ at plan is. none at plan (subst (λ (ps : List LinePlan). slice_get ps at ≡ Some plan) empty is) }
  where
    none : (at : ℕ) (plan : LinePlan) → slice_get {X = LinePlan} [] at ≡ Some plan → FitsAt lines at plan
    none at plan is = absurd cc

got : {A : Type 0} → A → Option A → A
got a None = a
got a (Some b) = b

get_some : {A : Type 0} (a b : A) → Some a ≡ Some b → a ≡ b
unfolding got
get_some a b e = ap (got a) e

pushed : (P : ℕ → LinePlan → Type 0) (old : List LinePlan) (p q : LinePlan) (i : ℕ) → ((k : ℕ) (r : LinePlan) → slice_get old k ≡ Some r → P k r) → P (length old) p → slice_get (old ++ p ∷ []) i ≡ Some q → P i q
pushed P [] p q zero have this is = subst (λ (r : LinePlan). P 0 r) (get_some p q is) this
pushed P [] p q (suc i) have this is = absurd cc
pushed P (x ∷ old) p q zero have this is = have zero q is
pushed P (x ∷ old) p q (suc i) have this is = pushed (λ k. P (suc k)) old p q i (λ k r e. have (suc k) r e) this is

fits_there : (lines : List Line) (at : ℕ) (l : Line) (plan : LinePlan) → slice_get lines at ≡ Some l → Fits l plan → FitsAt lines at plan
fits_there lines at l plan here fits = record { is = λ other is. subst (λ (x : Line). Fits x plan) (get_some l other (sym here ∙ is)) fits }

pub more_plans : (lines : List Line) (old new : List LinePlan) (plan : LinePlan) (l : Line) (at : ℕ) → length old ≡ at → new ≡ old ++ plan ∷ [] → slice_get lines at ≡ Some l → Fits l plan → HavePlans lines old → HavePlans lines new
more_plans lines old new plan l at size push here fits have = record {
  at = λ k p is.
      pushed (FitsAt lines) old plan p k have.at (subst (λ (n : ℕ). FitsAt lines n plan) (sym size) (fits_there lines at l plan here fits)) (subst (λ (ps : List LinePlan). slice_get ps k ≡ Some p) push is);
}

pub fits_here : (program : MacroProgram) (place : Option ℕ) (at : ℕ) (l : Line) (p : LinePlan) → line_at program place at ≡ Some l → FitsAt (body_of program place).lines at p → Fits l p
fits_here program place at l p here fits = fits.is l here

pub plan_there : (lines : List Line) (plans : List LinePlan) (at : ℕ) (p : LinePlan) → HavePlans lines plans → slice_get plans at ≡ Some p → FitsAt lines at p
plan_there lines plans at p have is = have.at at p is
