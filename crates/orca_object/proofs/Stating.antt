-- What statements give by their operands.
use Rattle.std.proofs.Common.{◌≡◌, ℕ, ◌≤◌, Bool, List, [], ◌∷◌, ◌++◌, length, map, Option, Some, None, Ok, Err, refl, sym, ap, subst, ◌∙◌, arith}
use Rattle.std.specs.Global.{Vec}
use Rattle.std.specs.List.{flat_map}
use Rattle.std.specs.Prelude.{Result, IfSome}
use Rattle.std.proofs.lemmas.List.Concat.{flat_map-cons}
use Rattle.omf_format.specs.Expression.{Tree, Leaf, Unary, Binary, AreTerms, Term}
use Rattle.omf_format.specs.Expression as expression
use Rattle.omf_format.specs.Field.{◌>>=◌}
use Rattle.omf_format.specs.laws.TreeLaws.{tree_has_terms}
use Rattle.orca_meaning.specs.declared.lines.TextCause.{TextCause}
use Rattle.orca_meaning.specs.declared.lines.TextCause.TheVariants as text_causes
use Rattle.orca_meaning.specs.declared.lines.TextFault.{TextFault}
use Rattle.orca_meaning.specs.declared.mnemonics.Mnemonic.{Mnemonic}
use Rattle.orca_meaning.specs.Formula.{pending}
use Rattle.orca_meaning.specs.laws.FormulaLaws.{pending-one}
use Rattle.orca_meaning.specs.Operand.{Meaning, IsGoodOperand, IsBadOperand, HasBadNumber, IsRefusedFor}
use Rattle.orca_text.specs.declared.line.SourceLine.{SourceLine}
use Rattle.orca_text.specs.declared.operand.Operand.{Operand}
use Rattle.orca_text.specs.OperandView.{IsRead, IsWritten, IsOperandFault, first_terms, second_terms, line_mnemonic, line_operand}
use Rattle.asm_meaning.specs.declared.faults.AsmCause.{AsmCause}
use Rattle.asm_meaning.specs.declared.faults.AsmCause.TheVariants.{BadOperand, BadNumber}
use Rattle.asm_meaning.specs.Answer.{Answer}
use Rattle.asm_meaning.specs.Constant.{Constants}
use Rattle.asm_meaning.specs.Elements.{Element, IsElementAt, AreElements, element_pieces}
use Rattle.asm_meaning.specs.laws.Steps.{joined_pieces}
use Rattle.asm_meaning.specs.laws.GivenLaws.{fine_operand}
use Rattle.asm_meaning.specs.Instruction.{Widths, instruction}
use Rattle.asm_meaning.specs.laws.InstructionLaws.{AreFineTrees}
use Rattle.asm_meaning.specs.Pieces.{Piece}
use Rattle.asm_meaning.specs.Statement.{Good, Bad, Large}
use Rattle.asm_meaning.specs.laws.StatementLaws.{element_once}
use Rattle.orca_operands.specs.declared.encoding.RepeatedPieces.{RepeatedPieces}
use Rattle.orca_operands.specs.Chosen.{AreGoodTrees}
use Rattle.orca_operands.specs.DcView.{all_or}
use Rattle.orca_object.specs.GivenBy.{IsByInstruction, IsByList, HasElements}
use Rattle.orca_operands.specs.GivenView.{part_pieces, parts_answer}
use Rattle.orca_operands.proofs.Gathering.{AreItems, IsOnce, GathersAll}

-- ---- instructions

abbrev given : List Piece → Answer (List Piece)
given p = Ok p

depth-le : (t : Tree) → pending 1 t ≤ pending 2 t
depth-le (Leaf (expression.Operator code)) = omega arith
depth-le (Leaf expression.Location) = omega arith
depth-le (Leaf (expression.Constant n)) = omega arith
depth-le (Leaf (expression.Named code name)) = omega arith
depth-le (Leaf (expression.Offset n)) = omega arith
depth-le (Unary code a) = depth-le a
depth-le (Binary code a b) = omega (arith, depth-le a, depth-le b)

good_trees : (trees : List Tree) → AreFineTrees trees → AreGoodTrees trees
good_trees [] fine = tt
good_trees (t ∷ trees) fine = ((fine.0.0, omega (arith, fine.0.1, depth-le t, pending-one t)), good_trees trees fine.1)

-- the formulas of an operand that was read
pub read_trees : (w : Widths) (m : Mnemonic) (text : List ℕ) (o : Meaning) → length text ≤ 255 → IsGoodOperand (Some m) text o → AreGoodTrees o.trees
read_trees w m text o short good = good_trees o.trees (fine_operand w m text o short good).trees

first_fine : (trees : List Tree) → AreGoodTrees trees → AreTerms 0 (first_terms trees)
first_fine [] good = tt
first_fine (t ∷ trees) good = tree_has_terms 0 t good.0.0

abbrev IsSecond : Option (List Term) → Type 0
IsSecond o = IfSome o (λ terms. AreTerms 0 terms)

second_fine : (trees : List Tree) → AreGoodTrees trees → IsSecond (second_terms trees)
second_fine [] good = tt
second_fine (t ∷ []) good = tt
second_fine (s ∷ d ∷ trees) good = tree_has_terms 0 d good.1.0.0

good_for : (w : Widths) (line : SourceLine) (m : Mnemonic) (o : Operand) → line_mnemonic line ≡ Some m → length (line_operand line) ≤ 255 → (r : IsRead (line_mnemonic line) (line_operand line) o) → IsGoodOperand (Some m) (line_operand line) r.meaning
good_for w line m o is short r = subst (λ (x : Option Mnemonic). IsGoodOperand x (line_operand line) r.meaning) is r.good

pub first_is_fine : (w : Widths) (line : SourceLine) (m : Mnemonic) (o : Operand) → line_mnemonic line ≡ Some m → length (line_operand line) ≤ 255 → IsRead (line_mnemonic line) (line_operand line) o → AreTerms 0 o.first
first_is_fine w line m o is short r =
    subst (AreTerms 0) (sym r.written.first_is) (first_fine r.meaning.trees (read_trees w m (line_operand line) r.meaning short (good_for w line m o is short r)))

pub second_is_fine : (w : Widths) (line : SourceLine) (m : Mnemonic) (o : Operand) → line_mnemonic line ≡ Some m → length (line_operand line) ≤ 255 → IsRead (line_mnemonic line) (line_operand line) o → IsSecond o.second
second_is_fine w line m o is short r =
    subst IsSecond (sym r.written.second_is) (second_fine r.meaning.trees (read_trees w m (line_operand line) r.meaning short (good_for w line m o is short r)))

pub by_instruction : (cs : Constants) (w : Widths) (line : SourceLine) (m : Mnemonic) (o : Operand) (a : Answer (List Piece)) → line_mnemonic line ≡ Some m → length (line_operand line) ≤ 255
    → IsRead (line_mnemonic line) (line_operand line) o → ((x : Meaning) → IsWritten o x → AreGoodTrees x.trees → a ≡ instruction cs w m x) → IsByInstruction cs w m (line_operand line) a
by_instruction cs w line m o a is short r gives =
    let good = good_for w line m o is short r in
    record {
      operand = Ok r.meaning;
      is = Good r.meaning good refl;
      gives = gives r.meaning r.written (read_trees w m (line_operand line) r.meaning short good);
    }

pub bad_operand : (cs : Constants) (w : Widths) (line : SourceLine) (m : Mnemonic) (fault : TextFault) → line_mnemonic line ≡ Some m → IsOperandFault line fault → fault.cause ≡ text_causes.BadOperand
    → IsByInstruction cs w m (line_operand line) (Err BadOperand)
bad_operand cs w line m fault is f cause =
    let bad : IsBadOperand (Some m) (line_operand line) =
    subst (λ (x : Option Mnemonic). IsBadOperand x (line_operand line)) is (subst (λ (c : TextCause). IsRefusedFor c (line_mnemonic line) (line_operand line)) cause f.cause_is) in
    record { operand = Err BadOperand; is = Bad bad refl; gives = refl }

pub bad_number : (cs : Constants) (w : Widths) (line : SourceLine) (m : Mnemonic) (fault : TextFault) → line_mnemonic line ≡ Some m → IsOperandFault line fault → fault.cause ≡ text_causes.BadNumber
    → IsByInstruction cs w m (line_operand line) (Err BadNumber)
bad_number cs w line m fault is f cause =
    let large : HasBadNumber (Some m) (line_operand line) =
    subst (λ (x : Option Mnemonic). HasBadNumber x (line_operand line)) is (subst (λ (c : TextCause). IsRefusedFor c (line_mnemonic line) (line_operand line)) cause f.cause_is) in
    record { operand = Err BadNumber; is = Large large refl; gives = refl }

-- ---- elements that commas separate

pub stands_once : IsOnce IsElementAt
stands_once text a b r s p q = (element_once text a b r s p q).1

elements_are : (text : List ℕ) (elements : List Element) → AreItems IsElementAt text elements → AreElements text elements
elements_are text [] are = are
elements_are text (e ∷ []) are = are
elements_are text (e ∷ next ∷ elements) are = (are.0, are.1, elements_are are.0 (next ∷ elements) are.2)

are_elements : (text : List ℕ) (elements : List Element) → AreElements text elements → AreItems IsElementAt text elements
are_elements text [] are = are
are_elements text (e ∷ []) are = are
are_elements text (e ∷ next ∷ elements) are = (are.0, are.1, are_elements are.0 (next ∷ elements) are.2)

pub has_elements : (cs : Constants) (msb : Bool) (text : List ℕ) (answer : Answer (List (List Piece))) → GathersAll IsElementAt (element_pieces cs msb) text answer → HasElements cs msb text answer
has_elements cs msb text answer g = record { elements = g.all; are = elements_are text g.all g.are; gives = g.gives }

pub no_elements : (text : List ℕ) → ((elements : List Element) → AreItems IsElementAt text elements → ⊥) → (elements : List Element) → AreElements text elements → ⊥
no_elements text none elements are = none elements (are_elements text elements are)

pub all_parts : (fault : Option AsmCause) (v : Vec RepeatedPieces) (r : Result (Vec RepeatedPieces) AsmCause) → r ≡ all_or fault v → parts_answer r ≡ all_or fault (map part_pieces v.items)
all_parts fault v r is = ap parts_answer is ∙ by_fault fault
  where
    by_fault : (f : Option AsmCause) → parts_answer (all_or f v) ≡ all_or f (map part_pieces v.items)
    by_fault None = refl
    by_fault (Some cause) = refl

-- ---- the list

joined_is : (parts : List RepeatedPieces) → joined_pieces (map part_pieces parts) ≡ flat_map part_pieces parts
joined_is [] = refl
joined_is (p ∷ parts) =
    flat_map-cons (λ (ps : List Piece). ps) (part_pieces p) (map part_pieces parts) ∙ ap (λ (l : List Piece). part_pieces p ++ l) (joined_is parts) ∙ sym (flat_map-cons part_pieces p parts)

abbrev lists : List (List Piece) → Answer (List (List Piece))
lists x = Ok x

abbrev no_lists : AsmCause → Answer (List (List Piece))
no_lists cause = Err cause

abbrev all_joined : Answer (List (List Piece)) → Answer (List Piece)
all_joined x = x >>= λ found. Ok (joined_pieces found)

pub by_parts : (cs : Constants) (msb : Bool) (text : List ℕ) (parts : List RepeatedPieces) → HasElements cs msb text (lists (map part_pieces parts)) → IsByList cs msb text (Ok (flat_map part_pieces parts))
by_parts cs msb text parts h = record { found = Some h.elements; is = h.are; gives = ap given (sym (joined_is parts)) ∙ ap all_joined h.gives }

pub by_fault : (cs : Constants) (msb : Bool) (text : List ℕ) (cause : AsmCause) → HasElements cs msb text (no_lists cause) → IsByList cs msb text (Err cause)
by_fault cs msb text cause h = record { found = Some h.elements; is = h.are; gives = ap all_joined h.gives }

pub by_nothing : (cs : Constants) (msb : Bool) (text : List ℕ) → ((elements : List Element) → AreElements text elements → ⊥) → IsByList cs msb text (Err BadOperand)
by_nothing cs msb text none = record { found = None; is = none; gives = refl }

pub with_answer : (cs : Constants) (msb : Bool) (text : List ℕ) (r s : Result (Vec RepeatedPieces) AsmCause) → HasElements cs msb text (parts_answer r) → r ≡ s → HasElements cs msb text (parts_answer s)
with_answer cs msb text r s h is = subst (λ (x : Result (Vec RepeatedPieces) AsmCause). HasElements cs msb text (parts_answer x)) is h
