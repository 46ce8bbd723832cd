-- What an instruction gives can be written.
use Rattle.std.proofs.Common.{◌≡◌, ℕ, ◌-◌, ◌^◌, ◌<◌, ◌≤◌, Bool, true, false, cond, eqb, ltb, leb, List, [], ◌∷◌, Option, Some, None, Ok, Err, refl, ap, subst, arith}
use Rattle.std.specs.Prelude.{filter, find, IsTrue}
use Rattle.std.specs.Option.{option_map}
use Rattle.std.specs.List.{AllByRecursion}
use Rattle.omf_format.specs.Field.{◌>>=◌, written_layout, is_count}
use Rattle.omf_format.specs.laws.FieldLaws.{bind_ok}
use Rattle.omf_format.specs.Expression.{Tree, Leaf, Binary, Constant, IsTree, IsExpression, depth}
use Rattle.omf_format.specs.Record.{Formula, IsRecord}
use Rattle.orca_meaning.specs.declared.forms.Form.{Form}
use Rattle.orca_meaning.specs.declared.forms.Form.TheVariants as forms
use Rattle.orca_meaning.specs.declared.forms.Prefix.{Prefix}
use Rattle.orca_meaning.specs.declared.forms.Opening.{Opening}
use Rattle.orca_meaning.specs.declared.forms.Opening.TheVariants.{Open, Hash, Round, Square}
use Rattle.orca_meaning.specs.declared.forms.Index.{Index}
use Rattle.orca_meaning.specs.declared.forms.Index.TheVariants.{Absent, X, Y, S}
use Rattle.orca_meaning.specs.declared.mnemonics.Mnemonic.{Mnemonic}
use Rattle.orca_meaning.specs.declared.modes.Mode.{Mode}
use Rattle.orca_meaning.specs.Formula.{pending, with_location_less}
use Rattle.orca_meaning.specs.laws.FormulaLaws.{pending-two}
use Rattle.orca_meaning.specs.Length.{length_of, has_long_operand}
use Rattle.orca_meaning.specs.Operand.{form_after, plain_form, round_form, square_form, whole_index, indexes_around}
use Rattle.orca_meaning.specs.laws.Steps.{immediate_form}
use Rattle.std.proofs.lemmas.Bool.{leb-true, eqb-false, and_parts}
use Rattle.asm_meaning.specs.declared.faults.AsmCause.TheVariants.{DoesNotFit}
use Rattle.asm_meaning.specs.Answer.{Answer, pair_or_earlier_fault}
use Rattle.asm_meaning.specs.Constant.{Constants, Amount, Known, Written, amount, tree_of_amount, AreSmall}
use Rattle.asm_meaning.specs.Formulas.{expression_text}
use Rattle.asm_meaning.specs.Instruction.{Widths, operand_bytes, modes_of, OperandKind, Missing, Value, Address, Distance, Banks, Sign, kind_of, is_address, modes_of_form, address_code, is_long_jump, operand_record, with_right_shift, shift_in, with_tree, with_number, with_known, with_amount, without_amount, mode_of_number, or_first, is_operand_of_width, is_distance, bank, bank_record, banks_written, block_move_pieces, given_by}
use Rattle.asm_meaning.specs.laws.Steps.{mode_of_tree, in_modes, or_fault}
use Rattle.asm_meaning.specs.Pieces.{Piece, IsPlain, ArePlainPieces}
use Rattle.asm_meaning.specs.laws.AmountLaws.{IsFineAmount, fine_amount, is_written, tree-placed}

-- ---- lists of modes

filter_keeps : {A : Type 0} (P : A → Type 0) (test : A → Bool) (xs : List A) → AllByRecursion P xs → AllByRecursion P (filter test xs)
filter_keeps P test [] all = tt
filter_keeps P test (x ∷ xs) all = by_test (test x) (filter_keeps P test xs all.1)
  where
    by_test : (b : Bool) → AllByRecursion P (filter test xs) → AllByRecursion P (cond b (x ∷ filter test xs) (filter test xs))
    by_test true rest = (all.0, rest)
    by_test false rest = rest

-- P holds of what was found, where it holds of all
abbrev pub Holds : {A : Type 0} → (A → Type 0) → Option A → Type 0
Holds P None = Unit {0}
Holds P (Some x) = P x

found_holds : {A : Type 0} (P : A → Type 0) (test : A → Bool) (xs : List A) → AllByRecursion P xs → Holds P (find test xs)
found_holds P test [] all = tt
found_holds P test (x ∷ xs) all = by_test (test x) (found_holds P test xs all.1)
  where
    by_test : (b : Bool) → Holds P (find test xs) → Holds P (cond b (Some x) (find test xs))
    by_test true rest = all.0
    by_test false rest = rest

-- ---- operands

-- the operand of a mode has one to four bytes
abbrev pub HasBytes : Widths → Mnemonic → Mode → Type 0
HasBytes widths mnemonic mode = IsTrue (is_count (operand_bytes widths mnemonic mode))

value_bytes : (b : Bool) → IsTrue (is_count (cond b 3 2 - 1))
value_bytes true = refl
value_bytes false = refl

-- forms with one formula
abbrev pub HasFormula : Form → Type 0
HasFormula forms.Nothing = ⊥
HasFormula forms.Accumulator = ⊥
HasFormula forms.Immediate = Unit {0}
HasFormula forms.Plain = Unit {0}
HasFormula forms.IndexX = Unit {0}
HasFormula forms.IndexY = Unit {0}
HasFormula forms.IndexS = Unit {0}
HasFormula forms.Paren = Unit {0}
HasFormula forms.ParenY = Unit {0}
HasFormula forms.ParenX = Unit {0}
HasFormula forms.ParenSY = Unit {0}
HasFormula forms.Bracket = Unit {0}
HasFormula forms.BracketY = Unit {0}
HasFormula forms.Pair = Unit {0}
HasFormula forms.Other = Unit {0}

modes_have_bytes : (widths : Widths) (mnemonic : Mnemonic) (form : Form) → HasFormula form → AllByRecursion (HasBytes widths mnemonic) (modes_of form)
unfolding modes_of operand_bytes length_of
modes_have_bytes widths mnemonic forms.Nothing has = absurd has
modes_have_bytes widths mnemonic forms.Accumulator has = absurd has
modes_have_bytes widths mnemonic forms.Immediate has = (value_bytes (has_long_operand mnemonic widths.long_a widths.long_i), (refl, tt))
modes_have_bytes widths mnemonic forms.Plain has = (refl, (refl, (refl, (refl, (refl, (refl, tt))))))
modes_have_bytes widths mnemonic forms.IndexX has = (refl, (refl, (refl, tt)))
modes_have_bytes widths mnemonic forms.IndexY has = (refl, (refl, tt))
modes_have_bytes widths mnemonic forms.IndexS has = (refl, tt)
modes_have_bytes widths mnemonic forms.Paren has = (refl, (refl, tt))
modes_have_bytes widths mnemonic forms.ParenY has = (refl, tt)
modes_have_bytes widths mnemonic forms.ParenX has = (refl, (refl, tt))
modes_have_bytes widths mnemonic forms.ParenSY has = (refl, tt)
modes_have_bytes widths mnemonic forms.Bracket has = (refl, (refl, tt))
modes_have_bytes widths mnemonic forms.BracketY has = (refl, tt)
modes_have_bytes widths mnemonic forms.Pair has = (refl, tt)
modes_have_bytes widths mnemonic forms.Other has = tt

pub offered_have_bytes : (widths : Widths) (mnemonic : Mnemonic) (form : Form) (p : Prefix) → HasFormula form → AllByRecursion (HasBytes widths mnemonic) (modes_of_form mnemonic form p)
unfolding modes_of_form
offered_have_bytes widths mnemonic form p has = filter_keeps (HasBytes widths mnemonic) _ (modes_of form) (modes_have_bytes widths mnemonic form has)

plain_has : (o : Option Index) → Holds HasFormula (option_map plain_form o)
plain_has None = tt
plain_has (Some Absent) = tt
plain_has (Some X) = tt
plain_has (Some Y) = tt
plain_has (Some S) = tt

round_has : (o : Option (Index × Index)) → Holds HasFormula (option_map round_form o)
round_has None = tt
round_has (Some (Absent, Absent)) = tt
round_has (Some (Absent, X)) = tt
round_has (Some (Absent, Y)) = tt
round_has (Some (Absent, S)) = tt
round_has (Some (X, Absent)) = tt
round_has (Some (X, X)) = tt
round_has (Some (X, Y)) = tt
round_has (Some (X, S)) = tt
round_has (Some (Y, Absent)) = tt
round_has (Some (Y, X)) = tt
round_has (Some (Y, Y)) = tt
round_has (Some (Y, S)) = tt
round_has (Some (S, Absent)) = tt
round_has (Some (S, X)) = tt
round_has (Some (S, Y)) = tt
round_has (Some (S, S)) = tt

square_has : (o : Option (Index × Index)) → Holds HasFormula (option_map square_form o)
square_has None = tt
square_has (Some (Absent, Absent)) = tt
square_has (Some (Absent, X)) = tt
square_has (Some (Absent, Y)) = tt
square_has (Some (Absent, S)) = tt
square_has (Some (X, Absent)) = tt
square_has (Some (X, X)) = tt
square_has (Some (X, Y)) = tt
square_has (Some (X, S)) = tt
square_has (Some (Y, Absent)) = tt
square_has (Some (Y, X)) = tt
square_has (Some (Y, Y)) = tt
square_has (Some (Y, S)) = tt
square_has (Some (S, Absent)) = tt
square_has (Some (S, X)) = tt
square_has (Some (S, Y)) = tt
square_has (Some (S, S)) = tt

immediate_has : (text : List ℕ) → Holds HasFormula (immediate_form text)
immediate_has [] = tt
immediate_has (byte ∷ following) = tt

pub form_has : (o : Opening) (rest : List ℕ) → Holds HasFormula (form_after o rest)
form_has Open rest = plain_has (whole_index rest)
form_has Hash rest = immediate_has rest
form_has Round rest = round_has (indexes_around 0x29 rest)
form_has Square rest = square_has (indexes_around 0x5D rest)

-- ---- the record of an operand

expression_fine : (t : Tree) → IsTree 0 t → depth t ≤ 64 → IsExpression 0 (expression_text t)
expression_fine t is shallow = is_written t is shallow

-- an expression record with a count of bytes
formula_plain : (code count n : ℕ) (text : List ℕ) → IsRecord written_layout (Formula code count n text) → IsPlain (Formula code count n text)
formula_plain code count n text is = record { spelled = λ at size. is; inner = refl }

pub expr_plain : (count : ℕ) (text : List ℕ) → IsTrue (is_count count) → IsExpression 0 text → IsPlain (Formula 0xEB count 0 text)
expr_plain count text some is = formula_plain 0xEB count 0 text (refl, some, refl, is)

address_plain : (mnemonic : Mnemonic) (bytes count : ℕ) (text : List ℕ) → IsTrue (is_count count) → IsExpression 0 text → IsPlain (Formula (address_code mnemonic bytes) count 0 text)
address_plain mnemonic bytes count text some is = by_one (eqb bytes 1) (eqb bytes 2) (is_long_jump mnemonic)
  where
    by_one : (one two long : Bool) → IsPlain (Formula (cond one 0xEC (cond two 0xED (cond long 0xF3 0xEB))) count 0 text)
    by_one true two long = formula_plain 0xEC count 0 text (refl, some, refl, is)
    by_one false true long = formula_plain 0xED count 0 text (refl, some, refl, is)
    by_one false false true = formula_plain 0xF3 count 0 text (refl, some, refl, is)
    by_one false false false = formula_plain 0xEB count 0 text (refl, some, refl, is)

count-le : (n : ℕ) → IsTrue (is_count n) → n ≤ 4
count-le n is = leb-true n 4 (and_parts (leb 1 n) (leb n 4) is).1

pub operand_plain : (mnemonic : Mnemonic) (kind : OperandKind) (width : ℕ) (t : Tree) → IsTrue (is_count width) → IsTree 0 t → depth t ≤ 64 → IsPlain (operand_record mnemonic kind width t)
operand_plain mnemonic Missing width t some is shallow = expr_plain width (expression_text t) some (expression_fine t is shallow)
operand_plain mnemonic Value width t some is shallow = expr_plain width (expression_text t) some (expression_fine t is shallow)
operand_plain mnemonic (Address bytes) width t some is shallow = address_plain mnemonic bytes width (expression_text t) some (expression_fine t is shallow)
operand_plain mnemonic (Distance bytes) width t some is shallow =
    let less : width < 2 ^ 32 = omega (arith, count-le width some) in
    formula_plain 0xEE width width (expression_text t) (refl, some, less, expression_fine t is shallow)
operand_plain mnemonic Banks width t some is shallow = expr_plain width (expression_text t) some (expression_fine t is shallow)
operand_plain mnemonic Sign width t some is shallow = expr_plain width (expression_text t) some (expression_fine t is shallow)

-- a shift after an expression
shift_fine : (count : ℕ) (t : Tree) → IsTree 0 t → depth t ≤ 64 → IsTree 0 (with_right_shift count t) × (depth (with_right_shift count t) ≤ 64)
shift_fine count t is shallow = by_count (eqb count 0) refl
  where
    shift : Tree
    shift = Binary 0x07 t (Leaf (Constant (2 ^ 32 - count)))

    some : eqb count 0 ≡ false → 2 ^ 32 - count < 2 ^ 32
    some not = let more : count ≡ 0 → ⊥ = eqb-false count 0 not in omega arith

    by_count : (b : Bool) → eqb count 0 ≡ b → IsTree 0 (cond b t shift) × (depth (cond b t shift) ≤ 64)
    by_count true e = (is, shallow)
    by_count false e = ((refl, refl, is, some e), omega (arith, shallow))

fine_placed : (t : Tree) → IsTree 0 t → pending 2 t ≤ 64 → IsTree 0 (with_location_less 1 t) × (depth (with_location_less 1 t) ≤ 64)
fine_placed t is shallow = (tree-placed 1 t (omega arith) is, subst (λ (k : ℕ). k ≤ 64) (pending-two 1 t) shallow)

tree_plain : (mnemonic : Mnemonic) (mode : Mode) (p : Prefix) (width : ℕ) (t : Tree) → IsTrue (is_count width) → IsTree 0 t → pending 2 t ≤ 64 → ArePlainPieces (with_tree mnemonic mode p width t)
tree_plain mnemonic mode p width t some is shallow =
    let fine = fine_placed t is shallow in
    let shift = shift_fine (shift_in (kind_of mode) p) (with_location_less 1 t) fine.0 fine.1 in
    (tt, (operand_plain mnemonic (kind_of mode) width _ some shift.0 shift.1, tt))

abbrev given_pieces : List Piece → Answer (List Piece)
given_pieces a = Ok a

same_pieces : (a b : List Piece) → given_pieces a ≡ given_pieces b → a ≡ b
same_pieces a b e = cc

known_plain : (widths : Widths) (mnemonic : Mnemonic) (p : Prefix) (n : ℕ) (mode : Mode) → n < 2 ^ 32 → HasBytes widths mnemonic mode → ArePlainPieces (with_known widths mnemonic p n mode)
known_plain widths mnemonic p n mode less has = by_kind (is_distance (kind_of mode))
  where
    width : ℕ
    width = operand_bytes widths mnemonic mode

    by_kind : (b : Bool) → ArePlainPieces (cond b (with_tree mnemonic mode p width (Leaf (Constant n))) (with_number mnemonic mode p width n))
    by_kind true = tree_plain mnemonic mode p width (Leaf (Constant n)) has less (omega arith)
    by_kind false = (tt, tt)

-- ---- instructions

first_holds : (P : Mode → Type 0) (first : Mode) (o : Option Mode) → P first → Holds P o → P (or_first first o)
first_holds P first None p q = p
first_holds P first (Some found) p q = q

ok_mode : (P : Mode → Type 0) (o : Option Mode) (chosen : Mode) → Holds P o → or_fault o ≡ Ok chosen → P chosen
ok_mode P None chosen is_operand_of_width e = absurd cc
ok_mode P (Some found) chosen is_operand_of_width e = subst P (same found e) is_operand_of_width
  where
    same : (found : Mode) → or_fault (Some found) ≡ Ok chosen → found ≡ chosen
    same found e = cc

amount_plain : (widths : Widths) (mnemonic : Mnemonic) (p : Prefix) (mode : Mode) (modes : List Mode) (a : Amount) (pieces : List Piece) → IsFineAmount 2 a
    → AllByRecursion (HasBytes widths mnemonic) (mode ∷ modes) → with_amount widths mnemonic p mode modes a ≡ Ok pieces → ArePlainPieces pieces
unfolding with_amount
amount_plain widths mnemonic p mode modes (Known n) pieces fine have e =
    let found = bind_ok (mode_of_number widths mnemonic p n (mode ∷ modes)) (λ chosen. Ok (with_known widths mnemonic p n chosen)) pieces e in
    let has = ok_mode (HasBytes widths mnemonic) (find (λ m. is_operand_of_width p (kind_of m) (operand_bytes widths mnemonic m) n) (mode ∷ modes)) found.0
    (found_holds (HasBytes widths mnemonic) (λ m. is_operand_of_width p (kind_of m) (operand_bytes widths mnemonic m) n) (mode ∷ modes) have) found.1 in
    subst ArePlainPieces (same_pieces (with_known widths mnemonic p n found.0) pieces found.2) (known_plain widths mnemonic p n found.0 fine has)
amount_plain widths mnemonic p mode modes (Written t) pieces fine have e =
    let has = first_holds (HasBytes widths mnemonic) mode (find (λ other. is_address 2 (kind_of other)) (mode ∷ modes)) have.0 (found_holds (HasBytes widths mnemonic) (λ other. is_address 2 (kind_of other)) (mode ∷ modes) have) in
    let chosen = mode_of_tree mode modes in
    subst ArePlainPieces (same_pieces (with_tree mnemonic chosen p (operand_bytes widths mnemonic chosen) t) pieces e) (tree_plain mnemonic chosen p (operand_bytes widths mnemonic chosen) t has fine.0 fine.1)

abbrev given_amount : Amount → Answer Amount
given_amount a = Ok a

abbrev no_amount : Answer Amount
no_amount = Err DoesNotFit

-- banks
bank_keeps : (a b : Amount) → bank a ≡ Ok b → IsFineAmount 2 a → IsFineAmount 2 b
bank_keeps (Known n) b e fine = by_size (ltb n 256) e
  where
    same : (b : Amount) → given_amount (Known n) ≡ Ok b → IsFineAmount 2 b
    same b e = subst (IsFineAmount 2) (one (Known n) b e) fine
      where
        one : (x y : Amount) → given_amount x ≡ given_amount y → x ≡ y
        one x y e = cc

    by_size : (c : Bool) → cond c (given_amount (Known n)) no_amount ≡ Ok b → IsFineAmount 2 b
    by_size true e = same b e
    by_size false e = absurd cc
bank_keeps (Written t) b e fine = subst (IsFineAmount 2) (one (Written t) b e) fine
  where
    one : (x y : Amount) → given_amount x ≡ given_amount y → x ≡ y
    one x y e = cc

tree_of_fine : (a : Amount) → IsFineAmount 2 a → IsTree 0 (tree_of_amount a) × (pending 2 (tree_of_amount a) ≤ 64)
tree_of_fine (Known n) fine = (fine, omega arith)
tree_of_fine (Written t) fine = fine

bank_plain : (back : ℕ) (a : Amount) → back < 2 ^ 32 → IsFineAmount 2 a → IsPlain (bank_record back a)
bank_plain back a less fine =
    let t = tree_of_amount a in
    let is = tree_of_fine a fine in
    expr_plain 1 (expression_text (with_location_less back t)) refl (expression_fine (with_location_less back t) (tree-placed back t less is.0) (subst (λ (k : ℕ). k ≤ 64) (pending-two back t) is.1))

banks_plain : (opcode : ℕ) (source destination : Amount) → IsFineAmount 2 source → IsFineAmount 2 destination → ArePlainPieces (banks_written opcode source destination)
banks_plain opcode (Known m) (Known n) p q = (tt, tt)
banks_plain opcode (Known m) (Written t) p q = (tt, (bank_plain 1 (Written t) (omega arith) q, (bank_plain 2 (Known m) (omega arith) p, tt)))
banks_plain opcode (Written t) destination p q = (tt, (bank_plain 1 destination (omega arith) q, (bank_plain 2 (Written t) (omega arith) p, tt)))

abbrev okay : {A : Type 0} → A → Answer A
okay a = Ok a

one_of : {A : Type 0} (x y : A) → okay x ≡ okay y → x ≡ y
one_of x y e = cc

pub both_ok : {A B : Type 0} (x : Answer A) (y : Answer B) (c : A × B) → pair_or_earlier_fault x y ≡ Ok c → (x ≡ Ok c.0) × (y ≡ Ok c.1)
both_ok {A = A} {B = B} (Ok a) (Ok b) c e =
    let same : (a, b) ≡ c = one_of (a, b) c e in
    (ap (λ (z : A × B). okay z.0) same, ap (λ (z : A × B). okay z.1) same)
both_ok (Ok a) (Err cause) c e = absurd cc
both_ok (Err cause) (Ok b) c e = absurd cc
both_ok (Err cause) (Err other) c e = absurd cc

-- the formulas of an operand in a line
abbrev pub AreFineTrees : List Tree → Type 0
AreFineTrees trees = AllByRecursion (λ t. IsTree 0 t × (pending 2 t ≤ 64)) trees

moved_plain : (constants : Constants) (mnemonic : Mnemonic) (chosen : Mode) (source destination : Tree) (pieces : List Piece) → AreSmall constants → AreFineTrees (source ∷ destination ∷ [])
    → block_move_pieces constants mnemonic chosen source destination ≡ Ok pieces → ArePlainPieces pieces
moved_plain constants mnemonic chosen source destination pieces small fine e =
    let found = bind_ok (pair_or_earlier_fault (amount constants source >>= bank) (amount constants destination >>= bank)) _ pieces e in
    let halves = both_ok (amount constants source >>= bank) (amount constants destination >>= bank) found.0 found.1 in
    let s = bind_ok (amount constants source) bank found.0.0 halves.0 in
    let d = bind_ok (amount constants destination) bank found.0.1 halves.1 in
    let sf = bank_keeps s.0 found.0.0 s.2 (fine_amount constants small 2 source s.0 fine.0.0 fine.0.1 s.1) in
    let df = bank_keeps d.0 found.0.1 d.2 (fine_amount constants small 2 destination d.0 fine.1.0.0 fine.1.0.1 d.1) in
    subst ArePlainPieces (same_pieces _ pieces found.2) (banks_plain _ found.0.0 found.0.1 sf df)

given_plain : (constants : Constants) (widths : Widths) (mnemonic : Mnemonic) (p : Prefix) (chosen : Mode) (modes : List Mode) (trees : List Tree) (pieces : List Piece) → AreSmall constants
    → AreFineTrees trees → ((t : Tree) → trees ≡ t ∷ [] → AllByRecursion (HasBytes widths mnemonic) (chosen ∷ modes)) → given_by constants widths mnemonic p chosen modes trees ≡ Ok pieces → ArePlainPieces pieces
unfolding without_amount
given_plain constants widths mnemonic p chosen modes [] pieces small fine have e = subst ArePlainPieces (same_pieces _ pieces e) (tt, tt)
given_plain constants widths mnemonic p chosen modes (t ∷ []) pieces small fine have e =
    let found = bind_ok (amount constants t) (with_amount widths mnemonic p chosen modes) pieces e in
    amount_plain widths mnemonic p chosen modes found.0 pieces (fine_amount constants small 2 t found.0 fine.0.0 fine.0.1 found.1) (have t refl) found.2
given_plain constants widths mnemonic p chosen modes (source ∷ destination ∷ trees) pieces small fine have e =
    moved_plain constants mnemonic chosen source destination pieces small (fine.0, (fine.1.0, tt)) e

-- what an instruction with a good operand of a line gives can be written
pub modes_plain : (constants : Constants) (widths : Widths) (mnemonic : Mnemonic) (p : Prefix) (trees : List Tree) (modes : List Mode) (pieces : List Piece) → AreSmall constants
    → AreFineTrees trees → ((t : Tree) → trees ≡ t ∷ [] → AllByRecursion (HasBytes widths mnemonic) modes) → in_modes constants widths mnemonic p trees modes ≡ Ok pieces → ArePlainPieces pieces
modes_plain constants widths mnemonic p trees [] pieces small fine have e = absurd cc
modes_plain constants widths mnemonic p trees (mode ∷ modes) pieces small fine have e = given_plain constants widths mnemonic p mode modes trees pieces small fine have e
