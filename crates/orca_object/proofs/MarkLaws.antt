-- Statements of instructions and DC, with their labels.
use Rattle.std.proofs.Common.{◌≡◌, ℕ, ◌≤◌, Bool, List, length, Result, Ok, Err, refl, sym, ap, subst, ◌∙◌}
use Rattle.omf_format.specs.declared.codes.TheConstants.{DIRECTIVE_LABEL, INSTRUCTION_LABEL}
use Rattle.omf_format.specs.Field.{◌>>=◌}
use Rattle.orca_meaning.specs.declared.mnemonics.Mnemonic.{Mnemonic}
use Rattle.orca_meaning.specs.Line.{Line}
use Rattle.orca_meaning.specs.Operand.{Meaning}
use Rattle.asm_meaning.specs.declared.directives.Directive.TheVariants as directives
use Rattle.asm_meaning.specs.declared.directives.Operation.TheVariants.{Instruct, Direct}
use Rattle.asm_meaning.specs.declared.faults.AsmCause.{AsmCause}
use Rattle.asm_meaning.specs.declared.faults.AsmCause.TheVariants.{BadOperand, BadNumber}
use Rattle.asm_meaning.specs.Answer.{Answer}
use Rattle.asm_meaning.specs.Constant.{Constants, AreSmall}
use Rattle.asm_meaning.specs.Elements.{list_pieces}
use Rattle.asm_meaning.specs.laws.GivenLaws.{instruction_plain, list_plain}
use Rattle.asm_meaning.specs.Instruction.{Widths, instruction}
use Rattle.asm_meaning.specs.Pieces.{Piece, records_of, ArePlainPieces}
use Rattle.asm_meaning.specs.State.{State}
use Rattle.asm_meaning.specs.Statement.{IsDone, IsOperandOf, Good, Bad, Large, constants_of, marking}
use Rattle.orca_operands.specs.declared.encoding.Encoding.{Encoding}
use Rattle.orca_object.specs.declared.state.AsmState.{AsmState}
use Rattle.orca_object.specs.GivenBy.{IsByInstruction, IsByList}
use Rattle.orca_operands.specs.GivenView.{given_pieces, given_answer}
use Rattle.orca_object.specs.MarkView.{giving, IsPlainAnswer}
use Rattle.orca_object.specs.StateView.{Leaves, IsLeft}

abbrev pieces_ok : List Piece → Answer (List Piece)
pieces_ok pieces = Ok pieces

no_fault : (pieces : List Piece) (cause : AsmCause) → pieces_ok pieces ≡ Err cause → ⊥
no_fault pieces cause e = absurd cc

-- what they give can be written
pub constants_plain : (cs : Constants) (msb : Bool) (text : List ℕ) (given : Result Encoding AsmCause) → AreSmall cs → length text ≤ 255 → IsByList cs msb text (given_answer given) → IsPlainAnswer given
constants_plain cs msb text (Ok g) small short by = list_plain cs msb text by.found (given_pieces g) small short by.is (sym by.gives)
constants_plain cs msb text (Err cause) small short by = tt

pub instruct_plain : (cs : Constants) (widths : Widths) (m : Mnemonic) (text : List ℕ) (given : Result Encoding AsmCause) → AreSmall cs → length text ≤ 255 → IsByInstruction cs widths m text (given_answer given) → IsPlainAnswer given
instruct_plain cs widths m text (Ok g) small short by = by_operand by.operand by.is by.gives
  where
    by_operand : (operand : Answer Meaning) → IsOperandOf m text operand → pieces_ok (given_pieces g) ≡ (operand >>= instruction cs widths m) → ArePlainPieces (given_pieces g)
    by_operand operand (Good meaning good e) gives =
        instruction_plain cs widths m text meaning (given_pieces g) small short good (sym (gives ∙ ap (λ (o : Answer Meaning). o >>= instruction cs widths m) e))
    by_operand operand (Bad none e) gives = absurd (no_fault (given_pieces g) BadOperand (gives ∙ ap (λ (o : Answer Meaning). o >>= instruction cs widths m) e))
    by_operand operand (Large large e) gives = absurd (no_fault (given_pieces g) BadNumber (gives ∙ ap (λ (o : Answer Meaning). o >>= instruction cs widths m) e))
instruct_plain cs widths m text (Err cause) small short by = tt

-- what they leave, as the definition says it
pub constants_left : {U : Type 0} (state : State) (line : Line) (cs : Constants) (msb : Bool) (label : Answer (List ℕ)) (text : List ℕ) (given : Result Encoding AsmCause) (done : Result U AsmCause) (k : AsmState) → IsByList cs msb text (given_answer given)
    → cs ≡ constants_of state → msb ≡ state.msb → Leaves done k (giving state DIRECTIVE_LABEL label given) → IsLeft state line (Direct directives.Constants) label text done k
unfolding IsDone
constants_left state line cs msb label text given done k by same same_msb leaves = record {
  left = marking state DIRECTIVE_LABEL label (list_pieces (constants_of state) state.msb by.found >>= λ pieces. Ok (records_of pieces));
  is = (by.found, by.is, refl);
  leaves = subst (λ (a : Answer (List Piece)). Leaves done k (marking state DIRECTIVE_LABEL label (a >>= λ pieces. Ok (records_of pieces))))
      (by.gives ∙ ap (λ (c : Constants). list_pieces c msb by.found) same ∙ ap (λ (b : Bool). list_pieces (constants_of state) b by.found) same_msb) leaves;
}

pub instruct_left : {U : Type 0} (state : State) (line : Line) (cs : Constants) (widths : Widths) (m : Mnemonic) (label : Answer (List ℕ)) (text : List ℕ) (given : Result Encoding AsmCause) (done : Result U AsmCause) (k : AsmState)
    → IsByInstruction cs widths m text (given_answer given) → cs ≡ constants_of state → widths ≡ state.widths → Leaves done k (giving state INSTRUCTION_LABEL label given) → IsLeft state line (Instruct m) label text done k
unfolding IsDone
instruct_left state line cs widths m label text given done k by same same_widths leaves = record {
  left = marking state INSTRUCTION_LABEL label (by.operand >>= instruction (constants_of state) state.widths m >>= λ pieces. Ok (records_of pieces));
  is = (by.operand, by.is, refl);
  leaves = subst (λ (a : Answer (List Piece)). Leaves done k (marking state INSTRUCTION_LABEL label (a >>= λ pieces. Ok (records_of pieces))))
      (by.gives ∙ ap (λ (c : Constants). by.operand >>= instruction c widths m) same ∙ ap (λ (w : Widths). by.operand >>= instruction (constants_of state) w m) same_widths) leaves;
}
