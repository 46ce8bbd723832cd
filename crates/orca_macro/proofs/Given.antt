-- Lines that are given unchanged.
use Rattle.std.proofs.Common.{◌≡◌, ◌≤◌, ℕ, Bool, true, false, eqb, List, [], ◌∷◌, ◌++◌, length, Option, Some, None, refl, sym, ap, subst, ◌∙◌}
use Rattle.std.specs.Prelude.{codes, not}
use Rattle.orca_meaning.specs.Characters.{folded}
use Rattle.orca_meaning.specs.Line.{LineFields, Line, part, three_fields, fields_of, is_comment}
use Rattle.macro_meaning.specs.Effect as meaning
use Rattle.macro_meaning.specs.Effect.{SymbolSetting, IsEffect, IsStatement, calling_at, without_sequence_symbol, operation_or_anop}
use Rattle.macro_meaning.specs.Definition.{MacroDefinition, operation_is, first_named}
use Rattle.macro_meaning.specs.Substitution.{first_passes}
use Rattle.macro_meaning.specs.Symbol.{SharedTexts}
use Rattle.macro_meaning.specs.Visit.{MacroProgram, Visit, move_of, next_line}
use Rattle.macro_meaning.specs.laws.Steps.{IsAfterCut, IsDoneBy, resting, is_operation, given_by}
use Rattle.macro_meaning.specs.declared.statements.Statement.{Statement}
use Rattle.macro_meaning.specs.declared.statements.Statement.TheVariants.{Nothing}
use Rattle.orca_symbols.specs.Plain.{plain_len}
use Rattle.orca_macro.specs.Plan.{IsGiven}
use Rattle.orca_macro.specs.Untouched.{IsUntouched}
use Rattle.orca_symbols.specs.Frame.{Frame}
use Rattle.orca_macro.specs.Stacks.{MovesTo}
use Rattle.orca_macro.specs.declared.visits.Flow.{Flow}
use Rattle.orca_symbols.proofs.Cuts.{cut_none}
use Rattle.orca_macro.proofs.Plans.{after_cut}

-- the operation of a line that is no comment is its second field
operation_same : (text : List ℕ) → is_comment text ≡ false → (fields_of text).operation ≡ (three_fields text).operation
unfolding fields_of
operation_same text other = rw other refl

-- an operation that is neither a statement nor a macro
other_operation : (s : SymbolSetting) (text operation : List ℕ) → part text (three_fields text).operation ≡ operation → operation_or_anop operation ≡ None
    → first_named (folded operation) s.definitions ≡ None → IsStatement s text (three_fields text) (meaning.Emit text)
other_operation s text operation is none unnamed =
    let which : operation_or_anop (part text (three_fields text).operation) ≡ None = ap operation_or_anop is ∙ none in
    let nowhere : first_named (folded (part text (three_fields text).operation)) s.definitions ≡ None = ap (λ (o : List ℕ). first_named (folded o) s.definitions) is ∙ unnamed in
    subst (λ (o : Option Statement). IsDoneBy s text (three_fields text) o (meaning.Emit text)) (sym which)
    (sym (ap (λ (o : Option ℕ). calling_at s.definitions s.root text o (part text (three_fields text).label) (part text (three_fields text).operand)) nowhere))

-- and its label the first one
label_same : (text : List ℕ) → is_comment text ≡ false → (fields_of text).label ≡ (three_fields text).label
unfolding fields_of
label_same text other = rw other refl

-- a comment has no operation
none_there : (text : List ℕ) → is_comment text ≡ true → (fields_of text).operation ≡ record { from = 0; to = 0 }
unfolding fields_of
none_there text comment = rw comment refl

-- so nothing is asked of it
pub comment_untouched : (l : Line) → l.fields ≡ fields_of l.text → is_comment l.text ≡ true → IsUntouched l
comment_untouched l own comment = record {
  begins_none = ap (λ (o : List ℕ). is_operation (codes "MACRO") o) (ap (λ (f : LineFields). part l.text f.operation) own ∙ ap (part l.text) (none_there l.text comment));
  given = λ other definitions unnamed. let both : true ≡ false = sym comment ∙ other in absurd cc;
}

-- a line without a dot at its start and without `&` that begins no definition
pub record IsWrittenOut (l : Line) (text : List ℕ) : Type 0 where
  pub same : text ≡ l.text
  pub few : length text ≤ 255
  pub dotless : first_passes (λ (byte : ℕ). eqb byte 0x2E) text ≡ false
  pub plain : eqb (plain_len text) (length text) ≡ true
  pub no_macro : operation_is (codes "MACRO") l ≡ false
  pub own : l.fields ≡ fields_of l.text

module _ (l : Line) (text : List ℕ) (w : IsWrittenOut l text) where
  same_comment : is_comment l.text ≡ false → is_comment text ≡ false
  same_comment other = ap is_comment w.same ∙ other

  -- its fields
  operation_is_second : is_comment text ≡ false → part text (three_fields text).operation ≡ part l.text l.fields.operation
  operation_is_second other =
      ap (part text) (sym (operation_same text other)) ∙ ap (λ (t : List ℕ). part t (fields_of t).operation) w.same ∙ ap (λ (f : LineFields). part l.text f.operation) (sym w.own)

  label_is_first : is_comment text ≡ false → part text (three_fields text).label ≡ part l.text l.fields.label
  label_is_first other =
      ap (part text) (sym (label_same text other)) ∙ ap (λ (t : List ℕ). part t (fields_of t).label) w.same ∙ ap (λ (f : LineFields). part l.text f.label) (sym w.own)

  -- what its statement does it does
  whole : (s : SymbolSetting) → is_comment text ≡ false → IsStatement s text (three_fields text) (meaning.Emit text) → IsEffect s l (meaning.Emit l.text)
  whole s other given =
      let cut_off : IsAfterCut s (is_comment text) text (meaning.Emit text) = subst (λ (b : Bool). IsAfterCut s b text (meaning.Emit text)) (sym other) given in
      after_cut s l text (meaning.Emit l.text) w.same w.few other w.plain w.no_macro
      (subst (λ (t : List ℕ). IsAfterCut s (is_comment (without_sequence_symbol text)) (without_sequence_symbol text) (meaning.Emit t)) w.same
      (subst (λ (t : List ℕ). IsAfterCut s (is_comment t) t (meaning.Emit text)) (cut_none text w.dotless) cut_off))

  -- its operation is no statement
  pub untouched : (operation : List ℕ) → operation ≡ part l.text l.fields.operation → operation_or_anop operation ≡ None → IsUntouched l
  untouched operation operation_is none = record {
    begins_none = w.no_macro;
    given = λ comment definitions unnamed. record {
      is = λ s here.
          let other = same_comment comment in
          let spelled : part text (three_fields text).operation ≡ operation = operation_is_second other ∙ sym operation_is in
          whole s other (other_operation s text operation spelled none (ap (first_named (folded operation)) here ∙ ap (λ (o : List ℕ). first_named (folded o) definitions) operation_is ∙ unnamed));
    };
  }

  -- it is ANOP, with a label
  pub resting_untouched : (operation label : List ℕ) → operation ≡ part l.text l.fields.operation → label ≡ part l.text l.fields.label → operation_or_anop operation ≡ Some Nothing → not (eqb (length label) 0) ≡ true → IsUntouched l
  resting_untouched operation label operation_is label_is anop some = record {
    begins_none = w.no_macro;
    given = λ comment definitions unnamed. record {
      is = λ s here.
          let other = same_comment comment in
          let spelled : part text (three_fields text).operation ≡ operation = operation_is_second other ∙ sym operation_is in
          let labelled : part text (three_fields text).label ≡ label = label_is_first other ∙ sym label_is in
          whole s other
          (subst (λ (o : Option Statement). IsDoneBy s text (three_fields text) o (meaning.Emit text)) (sym (ap operation_or_anop spelled ∙ anop))
          (given_labelled (part text (three_fields text).label) text (ap (λ (b : List ℕ). not (eqb (length b) 0)) labelled ∙ some)));
    };
  }
    where
      given_labelled : (label text : List ℕ) → not (eqb (length label) 0) ≡ true → meaning.Emit text ≡ resting label text
      given_labelled [] text some = absurd cc
      given_labelled (byte ∷ label) text some = refl

-- one that no macro has the name of
pub given_unnamed : (definitions : List MacroDefinition) (l : Line) (text operation : List ℕ) → text ≡ l.text → is_comment text ≡ false → IsUntouched l → operation ≡ part l.text l.fields.operation
    → first_named (folded operation) definitions ≡ None → IsGiven definitions l
given_unnamed definitions l text operation same other stays operation_is unnamed =
    stays.given (ap is_comment (sym same) ∙ other) definitions (ap (λ (o : List ℕ). first_named (folded o) definitions) (sym operation_is) ∙ unnamed)

-- a line that is given is the line itself
pub given_line : (l : Line) (old new : List Line) → l.fields ≡ fields_of l.text → new ≡ old ++ l ∷ [] → new ≡ old ++ given_by l (meaning.Emit l.text)
given_line l old new own is = is ∙ ap (λ (f : LineFields). old ++ record { file = l.file; number = l.number; text = l.text; fields = f } ∷ []) own

-- what follows a line that is given
pub moves_on : (program : MacroProgram) (before : List Visit) (v : Visit) (l : Line) (outcome : Flow) (f : Frame) (fs : List Frame) (texts : SharedTexts) (calls : ℕ)
    → MovesTo (next_line program before v) (before ++ v ∷ []) l outcome f fs texts calls → MovesTo (move_of program before v l (meaning.Emit l.text)) (before ++ v ∷ []) l outcome f fs texts calls
unfolding move_of
moves_on program before v l outcome f fs texts calls moves = moves
