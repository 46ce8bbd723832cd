-- What the operands of a line of at most 255 bytes give can be written.
use Rattle.std.proofs.Common.{◌≡◌, ℕ, ◌+◌, ◌-◌, ◌≤◌, Bool, true, false, cond, eqb, ltb, leb, List, [], ◌∷◌, length, take, drop, map, Option, Some, None, Ok, Err, refl, sym, ap, subst, ◌∙◌, arith}
use Rattle.std.specs.Prelude.{◌||◌, ◌&&◌, IsTrue}
use Rattle.std.specs.Char.{to_ascii_uppercase, is_digit}
use Rattle.std.specs.Str.Parse.{digits_value}
use Rattle.std.specs.List.{AllByRecursion, list_any, position_or_len, prefix_len}
use Rattle.std.proofs.lemmas.Bool.{ltb-false, leb-true, le-leb, and_parts}
use Rattle.std.proofs.lemmas.List.{length-drop, length-take, length-map}
use Rattle.omf_format.specs.Field.{is_count}
use Rattle.omf_format.specs.laws.FieldLaws.{bind_ok}
use Rattle.omf_format.specs.Expression.{Tree, Leaf, Named, IsTree}
use Rattle.orca_meaning.specs.declared.forms.Opening.{Opening}
use Rattle.orca_meaning.specs.declared.forms.Opening.TheVariants.{Open, Hash, Round, Square}
use Rattle.orca_meaning.specs.declared.forms.Prefix.{Prefix}
use Rattle.orca_meaning.specs.declared.forms.Prefix.TheVariants.{Bare, Less, Bar, Greater, Caret}
use Rattle.orca_meaning.specs.declared.forms.Form.{Form}
use Rattle.orca_meaning.specs.declared.mnemonics.Mnemonic.{Mnemonic}
use Rattle.orca_meaning.specs.declared.operators.Operands.TheVariants.{Labels}
use Rattle.orca_meaning.specs.Characters.{is_name_start, is_name_byte, folded}
use Rattle.orca_meaning.specs.Formula.{MeansAt, pending, has_large}
use Rattle.orca_meaning.specs.laws.FormulaLaws.{formed, pending-one}
use Rattle.orca_meaning.specs.Operand.{Meaning, opening, body, prefix, after_opening, form_after, IsOperand, IsMissing, IsInAccumulator, IsOne, IsTwo, IsGoodOperand, AreShallow}
use Rattle.orca_meaning.specs.laws.Steps.{after_prefix}
use Rattle.orca_meaning.specs.Token.{digits_at, Token, Stand, expects_following, name_at, Found}
use Rattle.orca_meaning.specs.laws.TokenLaws.{token-shorter}
use Rattle.asm_meaning.specs.declared.faults.AsmCause.TheVariants.{BadOperand, BadNumber}
use Rattle.asm_meaning.specs.Answer.{Answer, pair_or_earlier_fault, all_of}
use Rattle.asm_meaning.specs.laws.Steps.{with_first, IsRepeatBy, weak_piece, strong_piece, joined_pieces}
use Rattle.asm_meaning.specs.Constant.{Constants, Amount, Known, Written, amount, AreSmall}
use Rattle.asm_meaning.specs.Elements.{with_byte, text_at, IsList, Repeat, ElementValue, Element, ElementType, Number, Hexadecimal, Binary, Characters, References, WeakReferences, closed_at, kind_at, width_at, AreNames, IsValueAt, after_parenthesis, IsElementAt, AreElements, count_of, number_piece, piece_of_number, value_pieces, element_pieces, list_pieces}
use Rattle.asm_meaning.specs.Formulas.{AreFormulas, checked_formula, expression_text}
use Rattle.asm_meaning.specs.Instruction.{Widths, modes_of_form, instruction}
use Rattle.asm_meaning.specs.Pieces.{Piece, IsPlainPiece, ArePlainPieces}
use Rattle.asm_meaning.specs.laws.AmountLaws.{IsFineAmount, fine_amount, is_written}
use Rattle.asm_meaning.specs.laws.PieceLaws.{copies_plain, joined_plain}
use Rattle.asm_meaning.specs.laws.InstructionLaws.{AreFineTrees, both_ok, expr_plain, HasFormula, HasBytes, Holds, form_has, offered_have_bytes, modes_plain}

-- ---- formulas of a line

pub stand-le : (e : Bool) (text : List ℕ) (tokens : List Token) (rest : List ℕ) → Stand Labels e text tokens rest → length rest ≤ length text
stand-le e text [] rest is = omega (arith, ap length is)
stand-le e text (t ∷ tokens) rest is = omega (arith, token-shorter Labels e text t is.0 is.1, stand-le (expects_following t) is.0 tokens rest is.2)

pub rest-le : (text : List ℕ) (tree : Tree) (rest : List ℕ) → MeansAt Labels text tree rest → length rest ≤ length text
rest-le text tree rest is = stand-le true text _ rest is.stands.spelled

opening-le : (o : Opening) (text : List ℕ) → length (after_opening o text) ≤ length text
opening-le Open text = omega arith
opening-le Hash text = omega (arith, length-drop 1 text)
opening-le Round text = omega (arith, length-drop 1 text)
opening-le Square text = omega (arith, length-drop 1 text)

prefix-le : (p : Prefix) (text : List ℕ) → length (after_prefix p text) ≤ length text
prefix-le Bare text = omega arith
prefix-le Less text = omega (arith, length-drop 1 text)
prefix-le Bar text = omega (arith, length-drop 1 text)
prefix-le Greater text = omega (arith, length-drop 1 text)
prefix-le Caret text = omega (arith, length-drop 1 text)

body-le : (m : Option Mnemonic) (text : List ℕ) → length (body m text) ≤ length text
body-le m text = omega (arith, prefix-le (prefix m text) (after_opening (opening m text) text), opening-le (opening m text) text)

or_false : (a b : Bool) → (a || b) ≡ false → (a ≡ false) × (b ≡ false)
or_false true b e = absurd cc
or_false false b e = (refl, e)

-- ---- instructions

no_tree : (t : Tree) → [] ≡ t ∷ [] → ⊥
no_tree t e = absurd cc

no_second : (a b t : Tree) → a ∷ b ∷ [] ≡ t ∷ [] → ⊥
no_second a b t e = absurd cc

of_form : (o : Option Form) (form : Form) → Holds HasFormula o → o ≡ Some form → HasFormula form
of_form None form has e = absurd cc
of_form (Some found) form has e = subst HasFormula (same found e) has
  where
    same : (found : Form) → Some found ≡ Some form → found ≡ form
    same found e = cc

-- its formulas, and the modes for one
pub record IsFineOperand (widths : Widths) (m : Mnemonic) (operand : Meaning) : Type 0 where
  pub trees : AreFineTrees operand.trees
  pub modes : (t : Tree) → operand.trees ≡ t ∷ [] → AllByRecursion (HasBytes widths m) (modes_of_form m operand.form operand.prefix)

pub fine_operand : (widths : Widths) (m : Mnemonic) (text : List ℕ) (operand : Meaning) → length text ≤ 255 → IsGoodOperand (Some m) text operand → IsFineOperand widths m operand
fine_operand widths m text operand short good = by_form good.is good.shallow good.small
  where
    Fine : Meaning → Type 0
    Fine o = IsFineOperand widths m o

    by_form : IsOperand (Some m) text operand → AreShallow (Some m) operand.trees → list_any has_large operand.trees ≡ false → IsFineOperand widths m operand
    by_form (IsMissing none is) shallow small =
        record { trees = subst (λ (o : Meaning). AreFineTrees o.trees) (sym is) tt; modes = λ t e. absurd (no_tree t (sym (ap (λ (o : Meaning). o.trees) is) ∙ e)) }
    by_form (IsInAccumulator acc is) shallow small =
        record { trees = subst (λ (o : Meaning). AreFineTrees o.trees) (sym is) tt; modes = λ t e. absurd (no_tree t (sym (ap (λ (o : Meaning). o.trees) is) ∙ e)) }
    by_form (IsOne not_a tree rest form means following is) shallow small =
        let trees : operand.trees ≡ tree ∷ [] = ap (λ (o : Meaning). o.trees) is in
        let deep = (subst (λ (ts : List Tree). AreShallow (Some m) ts) trees shallow).0 in
        let less = (or_false (has_large tree) false (subst (λ (ts : List Tree). list_any has_large ts ≡ false) trees small)).0 in
        let is_tree = formed Labels (body (Some m) text) tree rest (omega (arith, body-le (Some m) text, short)) means less in
        let has : HasFormula operand.form = subst HasFormula (sym (ap (λ (o : Meaning). o.form) is)) (of_form (form_after (opening (Some m) text) rest) form (form_has (opening (Some m) text) rest) following) in
        record { trees = subst AreFineTrees (sym trees) ((is_tree, deep), tt); modes = λ t e. offered_have_bytes widths m operand.form operand.prefix has }
    by_form (IsTwo not_a bare first second following means index means' is) shallow small =
        let trees : operand.trees ≡ first ∷ second ∷ [] = ap (λ (o : Meaning). o.trees) is in
        let deep = subst (λ (ts : List Tree). AreShallow (Some m) ts) trees shallow in
        let less = subst (λ (ts : List Tree). list_any has_large ts ≡ false) trees small in
        let one = or_false (has_large first) (has_large second || false) less in
        let two = or_false (has_large second) false one.1 in
        let within = rest-le (body (Some m) text) first (0x2C ∷ following) means in
        let size = body-le (Some m) text in
        let is_first = formed Labels (body (Some m) text) first (0x2C ∷ following) (omega (arith, size, short)) means one.0 in
        let is_second = formed Labels following second [] (omega (arith, within, size, short)) means' two.0 in
        record { trees = subst AreFineTrees (sym trees) ((is_first, deep.0), ((is_second, deep.1.0), tt)); modes = λ t e. absurd (no_second first second t (sym trees ∙ e)) }

pub instruction_plain : (constants : Constants) (widths : Widths) (m : Mnemonic) (text : List ℕ) (operand : Meaning) (pieces : List Piece) → AreSmall constants → length text ≤ 255
    → IsGoodOperand (Some m) text operand → instruction constants widths m operand ≡ Ok pieces → ArePlainPieces pieces
unfolding instruction
instruction_plain constants widths m text operand pieces small short good e =
    let fine = fine_operand widths m text operand short good in
    modes_plain constants widths m operand.prefix operand.trees (modes_of_form m operand.form operand.prefix) pieces small fine.trees fine.modes e

-- ---- formulas on their own

abbrev good : Tree → Answer Tree
good t = Ok t

abbrev bad_number : Answer Tree
bad_number = Err BadNumber

abbrev bad_operand : Answer Tree
bad_operand = Err BadOperand

same_good : (a b : Tree) → good a ≡ good b → a ≡ b
same_good a b e = cc

judged_tree : (tree t : Tree) → checked_formula tree ≡ Ok t → (tree ≡ t) × (pending 1 tree ≤ 64) × (has_large tree ≡ false)
unfolding checked_formula
judged_tree tree t e = by_depth (ltb 64 (pending 1 tree)) refl e
  where
    by_large : (b : Bool) → has_large tree ≡ b → ltb 64 (pending 1 tree) ≡ false → cond b bad_number (good tree) ≡ Ok t → (tree ≡ t) × (pending 1 tree ≤ 64) × (has_large tree ≡ false)
    by_large true is few e = absurd cc
    by_large false is few e = (same_good tree t e, ltb-false 64 (pending 1 tree) few, is)

    by_depth : (b : Bool) → ltb 64 (pending 1 tree) ≡ b → cond b bad_operand (cond (has_large tree) bad_number (good tree)) ≡ Ok t → (tree ≡ t) × (pending 1 tree ≤ 64) × (has_large tree ≡ false)
    by_depth true is e = absurd cc
    by_depth false is e = by_large (has_large tree) refl is e

-- a formula of a text of at most 255 bytes that is judged good
pub judged_fine : (text : List ℕ) (tree t : Tree) (rest : List ℕ) → length text ≤ 255 → MeansAt Labels text tree rest → checked_formula tree ≡ Ok t → IsTree 0 t × (pending 1 t ≤ 64)
judged_fine text tree t rest short means e =
    let j = judged_tree tree t e in
    subst (λ (x : Tree). IsTree 0 x × (pending 1 x ≤ 64)) j.0 (formed Labels text tree rest short means j.2, j.1)

-- ---- each of several

abbrev list : {B : Type 0} → List B → Answer (List B)
list x = Ok x

first_is : {B : Type 0} (r : Answer (B × List B)) (ys : List B) → with_first r ≡ Ok ys → (b : B) × (bs : List B) × (r ≡ Ok (b, bs)) × (ys ≡ b ∷ bs)
first_is {B = B} (Ok (b, bs)) ys e = (b, bs, refl, sym (same (b ∷ bs) ys e))
  where
    same : (x y : List B) → list x ≡ list y → x ≡ y
    same x y e = cc
first_is (Err cause) ys e = absurd cc

-- what each of these gives, where they are so
pub all_of-gives : {A B : Type 0} (P : A → Type 0) (Q : B → Type 0) (f : A → Answer B) (xs : List A) (ys : List B) → ((a : A) (b : B) → P a → f a ≡ Ok b → Q b) → AllByRecursion P xs → all_of f xs ≡ Ok ys
    → AllByRecursion Q ys
all_of-gives {B = B} P Q f [] ys step all e = subst (AllByRecursion Q) (same [] ys e) tt
  where
    same : (x y : List B) → list x ≡ list y → x ≡ y
    same x y e = cc
all_of-gives P Q f (x ∷ xs) ys step all e =
    let found = first_is (pair_or_earlier_fault (f x) (all_of f xs)) ys e in
    let parts = both_ok (f x) (all_of f xs) (found.0, found.1) found.2 in
    subst (AllByRecursion Q) (sym found.3) (step x found.0 all.0 parts.0, all_of-gives P Q f xs found.1 step all.1 parts.1)

-- ---- elements

abbrev pub IsNameLength : List ℕ → Type 0
IsNameLength name = (1 ≤ length name) × (length name ≤ 255)

abbrev found_name : List ℕ × List ℕ → Found (List ℕ)
found_name x = Some x

abbrev found_number : ℕ × List ℕ → Found ℕ
found_number x = Some x

pub name_length : (text name rest : List ℕ) → length text ≤ 255 → name_at text ≡ Some (name, rest) → IsNameLength name × (length rest ≤ length text)
unfolding name_at
name_length [] name rest short e = absurd cc
name_length (byte ∷ following) name rest short e = by_start (is_name_start byte) e
  where
    n : ℕ
    n = prefix_len is_name_byte following

    found : List ℕ × List ℕ
    found = (folded (byte ∷ take n following), drop n following)

    same : found_name found ≡ Some (name, rest) → found ≡ (name, rest)
    same e = cc

    by_start : (b : Bool) → cond b (found_name found) None ≡ Some (name, rest) → IsNameLength name × (length rest ≤ length (byte ∷ following))
    by_start true e =
        let is = same e in
        let size : length (folded (byte ∷ take n following)) ≡ length name = ap (λ (x : List ℕ × List ℕ). length x.0) is in
        let last : length (drop n following) ≡ length rest = ap (λ (x : List ℕ × List ℕ). length x.1) is in
        ((omega (arith, size, length-map (byte ∷ take n following) to_ascii_uppercase), omega (arith, size, short, length-map (byte ∷ take n following) to_ascii_uppercase, length-take n following)), omega (arith, last, length-drop n following))
    by_start false e = absurd cc

pub names_length : (text : List ℕ) (names : List (List ℕ)) → length text ≤ 255 → AreNames text names → AllByRecursion IsNameLength names
names_length text [] short are = absurd are
names_length text (name ∷ []) short are = ((name_length text name [] short are).0, tt)
names_length text (name ∷ next ∷ names) short are =
    let first = name_length text name (0x2C ∷ are.0) short are.1 in
    (first.0, names_length are.0 (next ∷ names) (omega (arith, first.1, short)) are.2)

-- formulas of a text of at most 255 bytes
record IsOf (tree : Tree) : Type 0 where
  text : List ℕ
  rest : List ℕ
  short : length text ≤ 255
  means : MeansAt Labels text tree rest

formulas_of : (text : List ℕ) (trees : List Tree) → length text ≤ 255 → AreFormulas text trees → AllByRecursion IsOf trees
formulas_of text [] short are = absurd are
formulas_of text (tree ∷ []) short are = (record { text = text; rest = []; short = short; means = are }, tt)
formulas_of text (tree ∷ next ∷ trees) short are =
    (record { text = text; rest = 0x2C ∷ are.0; short = short; means = are.1 }, formulas_of are.0 (next ∷ trees) (omega (arith, rest-le text tree (0x2C ∷ are.0) are.1, short)) are.2)

abbrev piece : Piece → Answer Piece
piece a = Ok a

same_piece : (a b : Piece) → piece a ≡ piece b → a ≡ b
same_piece a b e = cc

number_plain : (width : ℕ) (a : Amount) → IsTrue (is_count width) → IsFineAmount 1 a → IsPlainPiece (number_piece width a)
number_plain width (Known n) some fine = tt
number_plain width (Written t) some fine = expr_plain width (expression_text t) some (is_written t fine.0 (subst (λ (k : ℕ). k ≤ 64) (pending-one t) fine.1))

numbered_plain : (constants : Constants) (width : ℕ) → AreSmall constants → IsTrue (is_count width) → (tree : Tree) (p : Piece) → IsOf tree → piece_of_number constants width tree ≡ Ok p → IsPlainPiece p
numbered_plain constants width small some tree p of e =
    let j = bind_ok (checked_formula tree) _ p e in
    let a = bind_ok (amount constants j.0) _ p j.2 in
    let fine = judged_fine of.text tree j.0 of.rest of.short of.means j.1 in
    subst IsPlainPiece (same_piece (number_piece width a.0) p a.2) (number_plain width a.0 some (fine_amount constants small 1 j.0 a.0 fine.0 fine.1 a.1))

strong_plain : (names : List (List ℕ)) → AllByRecursion IsNameLength names → ArePlainPieces (map strong_piece names)
strong_plain [] are = tt
strong_plain (name ∷ names) are = (record { spelled = λ at size. are.0; inner = refl }, strong_plain names are.1)

weak_plain : (names : List (List ℕ)) → AllByRecursion IsNameLength names → ArePlainPieces (map weak_piece names)
weak_plain [] are = tt
weak_plain (name ∷ names) are = (expr_plain 2 (expression_text (Leaf (Named 0x82 name))) refl (is_written (Leaf (Named 0x82 name)) (refl, are.0) (omega arith)), weak_plain names are.1)

-- the width of a type of numbers
abbrev pub IsWidth : ElementType → Type 0
IsWidth (Number width) = IsTrue (is_count width)
IsWidth Hexadecimal = Unit {0}
IsWidth Binary = Unit {0}
IsWidth Characters = Unit {0}
IsWidth References = Unit {0}
IsWidth WeakReferences = Unit {0}

abbrev IsWidthAt : ElementType × List ℕ → Type 0
IsWidthAt x = IsWidth x.0

width_is : (text : List ℕ) → IsWidthAt (width_at text)
width_is [] = refl
width_is (digit ∷ following) = by_digit (leb 0x31 digit && leb digit 0x34) refl
  where
    by_digit : (b : Bool) → (leb 0x31 digit && leb digit 0x34) ≡ b → IsWidthAt (cond b (Number (digit - 0x30), following) (Number 2, digit ∷ following))
    by_digit true is =
        let parts = and_parts (leb 0x31 digit) (leb digit 0x34) is in
        let low : leb 1 (digit - 0x30) ≡ true = le-leb 1 (digit - 0x30) (omega (arith, leb-true 0x31 digit parts.0)) in
        let high : leb (digit - 0x30) 4 ≡ true = le-leb (digit - 0x30) 4 (omega (arith, leb-true digit 0x34 parts.1)) in
        rw (low, high) refl
    by_digit false is = refl

-- a type that was found, and what follows it
abbrev IsFoundKind : ℕ → Found ElementType → Type 0
IsFoundKind size None = Unit {0}
IsFoundKind size (Some x) = IsWidth x.0 × (length x.1 ≤ size)

if_kind : (size : ℕ) (b : Bool) (x y : Found ElementType) → IsFoundKind size x → IsFoundKind size y → IsFoundKind size (cond b x y)
if_kind size true x y p q = p
if_kind size false x y p q = q

width-le : (text : List ℕ) → length (width_at text).1 ≤ length text
width-le [] = omega arith
width-le (digit ∷ following) = by_digit (leb 0x31 digit && leb digit 0x34)
  where
    Shorter : ElementType × List ℕ → Type 0
    Shorter x = length x.1 ≤ length (digit ∷ following)

    by_digit : (b : Bool) → Shorter (cond b (Number (digit - 0x30), following) (Number 2, digit ∷ following))
    by_digit true = omega arith
    by_digit false = omega arith

kind_found : (text : List ℕ) → IsFoundKind (length text) (kind_at text)
unfolding kind_at
kind_found [] = tt
kind_found (letter ∷ following) =
    let capital = to_ascii_uppercase letter in
    let n = length (letter ∷ following) in
    if_kind n (eqb capital 0x49 || eqb capital 0x41) (Some (width_at following)) _ (width_is following, omega (arith, width-le following)) (
    if_kind n (eqb capital 0x48) (Some (Hexadecimal, following)) _ (tt, omega arith) (
    if_kind n (eqb capital 0x42) (Some (Binary, following)) _ (tt, omega arith) (
    if_kind n (eqb capital 0x43) (Some (Characters, following)) _ (tt, omega arith) (
    if_kind n (eqb capital 0x52) (Some (References, following)) _ (tt, omega arith) (
    if_kind n (eqb capital 0x53) (Some (WeakReferences, following)) None (tt, omega arith) tt)))))

pub kind_is : (text : List ℕ) (kind : ElementType) (rest : List ℕ) → kind_at text ≡ Some (kind, rest) → IsWidth kind × (length rest ≤ length text)
kind_is text kind rest e = subst (IsFoundKind (length text)) e (kind_found text)

digits-le : (text : List ℕ) (n : ℕ) (rest : List ℕ) → digits_at 10 text ≡ Some (n, rest) → length rest ≤ length text
unfolding digits_at
digits-le text n rest e = by_none (eqb k 0) e
  where
    k : ℕ
    k = prefix_len (λ byte. is_digit byte 10) text

    found : ℕ × List ℕ
    found = (digits_value 10 (take k text), drop k text)

    same : found_number found ≡ Some (n, rest) → found ≡ (n, rest)
    same e = cc

    by_none : (b : Bool) → cond b None (found_number found) ≡ Some (n, rest) → length rest ≤ length text
    by_none true e = absurd cc
    by_none false e = omega (arith, ap (λ (x : ℕ × List ℕ). length x.1) (same e), length-drop k text)

pub closed-le : (text inner rest : List ℕ) → closed_at text ≡ Some (inner, rest) → length inner ≤ length text
unfolding closed_at
closed-le text inner rest e = by_end (ltb n (length text)) e
  where
    n : ℕ
    n = position_or_len (λ byte. eqb byte 0x27) text

    found : List ℕ × List ℕ
    found = (take n text, drop (n + 1) text)

    same : found_name found ≡ Some (inner, rest) → found ≡ (inner, rest)
    same e = cc

    by_end : (b : Bool) → cond b (found_name found) None ≡ Some (inner, rest) → length inner ≤ length text
    by_end true e = omega (arith, ap (λ (x : List ℕ × List ℕ). length x.0) (same e), length-take n text)
    by_end false e = absurd cc

following-le : (text following : List ℕ) → after_parenthesis text ≡ Some following → length following ≤ length text
following-le [] following e = absurd cc
following-le (byte ∷ rest) following e = by_byte (eqb byte 0x28) e
  where
    some : List ℕ → Option (List ℕ)
    some t = Some t

    same : Some rest ≡ Some following → rest ≡ following
    same e = cc

    by_byte : (b : Bool) → cond b (Some rest) None ≡ Some following → length following ≤ length (byte ∷ rest)
    by_byte true e = omega (arith, ap length (same e))
    by_byte false e = absurd cc

pub repeat-le : (o : Option (List ℕ)) (digits : Found ℕ) (text : List ℕ) (repeat : Repeat) (rest : List ℕ) → after_parenthesis text ≡ o → digits_at 10 text ≡ digits → IsRepeatBy o digits text repeat rest
    → length rest ≤ length text
repeat-le (Some following) digits text repeat rest o d is = omega (arith, following-le text following o, rest-le following is.0 (0x29 ∷ rest) is.1)
repeat-le None (Some found) text repeat rest o d is = omega (arith, ap length is.1, digits-le text found.0 found.1 d)
repeat-le None None text repeat rest o d is = omega (arith, ap length is.1)

same_pieces : (a b : List Piece) → list a ≡ list b → a ≡ b
same_pieces a b e = cc

values_plain : (constants : Constants) (msb : Bool) (kind : ElementType) (text : List ℕ) (value : ElementValue) (rest : List ℕ) (pieces : List Piece) → AreSmall constants → length text ≤ 255 → IsWidth kind
    → IsValueAt kind text value rest → value_pieces constants msb value ≡ Ok pieces → ArePlainPieces pieces
values_plain constants msb (Number width) text value rest pieces small short some is e =
    let inner = closed-le text is.0 rest is.2 in
    let e' = subst (λ (v : ElementValue). value_pieces constants msb v ≡ Ok pieces) is.4 e in
    all_of-gives IsOf IsPlainPiece (piece_of_number constants width) is.1 pieces (numbered_plain constants width small some) (formulas_of is.0 is.1 (omega (arith, inner, short)) is.3) e'
values_plain constants msb Hexadecimal text value rest pieces small short some is e =
    subst ArePlainPieces (same_pieces _ pieces (subst (λ (v : ElementValue). value_pieces constants msb v ≡ Ok pieces) is.4 e)) (tt, tt)
values_plain constants msb Binary text value rest pieces small short some is e =
    subst ArePlainPieces (same_pieces _ pieces (subst (λ (v : ElementValue). value_pieces constants msb v ≡ Ok pieces) is.4 e)) (tt, tt)
values_plain constants msb Characters text value rest pieces small short some is e =
    subst ArePlainPieces (same_pieces _ pieces (subst (λ (v : ElementValue). value_pieces constants msb v ≡ Ok pieces) is.2 e)) (tt, tt)
values_plain constants msb References text value rest pieces small short some is e =
    let inner = closed-le text is.0 rest is.2 in
    subst ArePlainPieces (same_pieces _ pieces (subst (λ (v : ElementValue). value_pieces constants msb v ≡ Ok pieces) is.4 e)) (strong_plain is.1 (names_length is.0 is.1 (omega (arith, inner, short)) is.3))
values_plain constants msb WeakReferences text value rest pieces small short some is e =
    let inner = closed-le text is.0 rest is.2 in
    subst ArePlainPieces (same_pieces _ pieces (subst (λ (v : ElementValue). value_pieces constants msb v ≡ Ok pieces) is.4 e)) (weak_plain is.1 (names_length is.0 is.1 (omega (arith, inner, short)) is.3))

-- an element of a text of at most 255 bytes
record IsElementOf (element : Element) : Type 0 where
  text : List ℕ
  rest : List ℕ
  short : length text ≤ 255
  stands : IsElementAt text element rest

element_plain : (constants : Constants) (msb : Bool) → AreSmall constants → (element : Element) (pieces : List Piece) → IsElementOf element → element_pieces constants msb element ≡ Ok pieces → ArePlainPieces pieces
unfolding element_pieces
element_plain constants msb small element pieces of e =
    let found = bind_ok (pair_or_earlier_fault (count_of constants element.repeat) (value_pieces constants msb element.value)) _ pieces e in
    let parts = both_ok (count_of constants element.repeat) (value_pieces constants msb element.value) found.0 found.1 in
    let is = of.stands in
    let following = repeat-le (after_parenthesis of.text) (digits_at 10 of.text) of.text element.repeat is.after_repeat refl refl is.repeat in
    let kind = kind_is is.after_repeat is.kind (0x27 ∷ is.after_quote) is.of_kind in
    let inner = values_plain constants msb is.kind is.after_quote element.value of.rest found.0.1 small (omega (arith, following, kind.1, of.short)) kind.0 is.value parts.1 in
    subst ArePlainPieces (same_pieces _ pieces found.2) (copies_plain found.0.0 found.0.1 inner)

-- ---- lists of elements

pub closed_rest-le : (text inner rest : List ℕ) → closed_at text ≡ Some (inner, rest) → length rest ≤ length text
unfolding closed_at
closed_rest-le text inner rest e = by_end (ltb n (length text)) e
  where
    n : ℕ
    n = position_or_len (λ byte. eqb byte 0x27) text

    found : List ℕ × List ℕ
    found = (take n text, drop (n + 1) text)

    same : found_name found ≡ Some (inner, rest) → found ≡ (inner, rest)
    same e = cc

    by_end : (b : Bool) → cond b (found_name found) None ≡ Some (inner, rest) → length rest ≤ length text
    by_end true e = omega (arith, ap (λ (x : List ℕ × List ℕ). length x.1) (same e), length-drop (n + 1) text)
    by_end false e = absurd cc

-- what follows something that was found
abbrev IsFollowing : ℕ → Found (List ℕ) → Type 0
IsFollowing size None = Unit {0}
IsFollowing size (Some x) = length x.1 ≤ size

after_byte-le : (size byte : ℕ) (o : Found (List ℕ)) → IsFollowing size o → IsFollowing (size + 1) (with_byte byte o)
after_byte-le size byte None is = tt
after_byte-le size byte (Some x) is = omega (arith, is)

after_more : (size more : ℕ) (o : Found (List ℕ)) → size ≤ more → IsFollowing size o → IsFollowing more o
after_more size more None less is = tt
after_more size more (Some x) less is = omega (arith, less, is)

after_if : (size : ℕ) (b : Bool) (x y : Found (List ℕ)) → IsFollowing size x → IsFollowing size y → IsFollowing size (cond b x y)
after_if size true x y p q = p
after_if size false x y p q = q

text_after : (text : List ℕ) → IsFollowing (length text) (text_at text)
unfolding text_at
text_after [] = tt
text_after (byte ∷ []) = after_if 1 (eqb byte 0x27) (Some ([], [])) None (omega arith) tt
text_after (byte ∷ next ∷ following) =
    let n = length (byte ∷ next ∷ following) in
    let first = after_byte-le (length following) 0x27 (text_at following) (text_after following) in
    let other = after_byte-le (length (next ∷ following)) byte (text_at (next ∷ following)) (text_after (next ∷ following)) in
    after_if n (eqb byte 0x27) (cond (eqb next 0x27) (with_byte 0x27 (text_at following)) (Some ([], next ∷ following))) (with_byte byte (text_at (next ∷ following)))
    (after_if n (eqb next 0x27) (with_byte 0x27 (text_at following)) (Some ([], next ∷ following)) (after_more (length following + 1) n (with_byte 0x27 (text_at following)) (omega arith) first) (omega arith))
    (after_more (length (next ∷ following) + 1) n (with_byte byte (text_at (next ∷ following))) (omega arith) other)

pub value-le : (kind : ElementType) (text : List ℕ) (value : ElementValue) (rest : List ℕ) → IsValueAt kind text value rest → length rest ≤ length text
value-le (Number width) text value rest is = closed_rest-le text is.0 rest is.2
value-le Hexadecimal text value rest is = closed_rest-le text is.0 rest is.2
value-le Binary text value rest is = closed_rest-le text is.0 rest is.2
value-le Characters text value rest is = subst (IsFollowing (length text)) is.1 (text_after text)
value-le References text value rest is = closed_rest-le text is.0 rest is.2
value-le WeakReferences text value rest is = closed_rest-le text is.0 rest is.2

pub element-le : (text : List ℕ) (element : Element) (rest : List ℕ) → IsElementAt text element rest → length rest ≤ length text
element-le text element rest is =
    let following = repeat-le (after_parenthesis text) (digits_at 10 text) text element.repeat is.after_repeat refl refl is.repeat in
    let kind = kind_is is.after_repeat is.kind (0x27 ∷ is.after_quote) is.of_kind in
    omega (arith, following, kind.1, value-le is.kind is.after_quote element.value rest is.value)

elements_of : (text : List ℕ) (elements : List Element) → length text ≤ 255 → AreElements text elements → AllByRecursion IsElementOf elements
elements_of text [] short are = absurd are
elements_of text (element ∷ []) short are = (record { text = text; rest = []; short = short; stands = are }, tt)
elements_of text (element ∷ next ∷ elements) short are =
    (record { text = text; rest = 0x2C ∷ are.0; short = short; stands = are.1 }, elements_of are.0 (next ∷ elements) (omega (arith, element-le text element (0x2C ∷ are.0) are.1, short)) are.2)

-- what the elements of an operand give can be written
pub list_plain : (constants : Constants) (msb : Bool) (text : List ℕ) (o : Option (List Element)) (pieces : List Piece) → AreSmall constants → length text ≤ 255 → IsList text o
    → list_pieces constants msb o ≡ Ok pieces → ArePlainPieces pieces
list_plain constants msb text None pieces small short is e = absurd cc
list_plain constants msb text (Some elements) pieces small short is e =
    let found = bind_ok (all_of (element_pieces constants msb) elements) _ pieces e in
    let each = all_of-gives IsElementOf ArePlainPieces (element_pieces constants msb) elements found.0 (element_plain constants msb small) (elements_of text elements short is) found.1 in
    subst ArePlainPieces (same_pieces (joined_pieces found.0) pieces found.2) (joined_plain found.0 each)
