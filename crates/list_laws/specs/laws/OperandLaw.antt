-- The operand of an instruction that is listed with a name is read again in its form, with its prefix and its tree.
use Rattle.std.proofs.Common.{◌≡◌, ℕ, ◌^◌, ◌<◌, ◌≤◌, Bool, true, false, eqb, List, [], ◌∷◌, ◌++◌, length, Some, None, refl, sym, ap, subst, ◌∙◌, arith}
use Rattle.std.specs.Prelude.{◌||◌, ◌*◌, codes, ◌&&◌, bytes_eq}
use Rattle.std.specs.Char.{to_ascii_uppercase}
use Rattle.std.proofs.lemmas.Bool.{eqb-true}
use Rattle.std.proofs.lemmas.List.{length-append}
use Rattle.orca_meaning.specs.declared.forms.Opening.{Opening}
use Rattle.orca_meaning.specs.declared.forms.Opening.TheVariants.{Open, Hash, Round, Square}
use Rattle.orca_meaning.specs.declared.forms.Prefix.{Prefix}
use Rattle.orca_meaning.specs.declared.forms.Prefix.TheVariants.{Bare}
use Rattle.orca_meaning.specs.declared.mnemonics.Mnemonic.{Mnemonic}
use Rattle.orca_meaning.specs.declared.modes.Mode.{Mode}
use Rattle.orca_meaning.specs.declared.modes.Mode.TheVariants.{Implied, Accumulator, Immediate, Direct, DirectX, DirectY, DirectIndirect, DirectIndirectY, DirectXIndirect, DirectLong, DirectLongY, Stack, StackIndirectY, Absolute, AbsoluteX, AbsoluteY, AbsoluteIndirect, AbsoluteXIndirect, AbsoluteLongIndirect, Long, LongX, Relative8, Relative16, Move, Signature}
use Rattle.orca_meaning.specs.declared.operators.Operands.TheVariants.{Labels}
use Rattle.orca_meaning.specs.Characters.{is_name_start, folded}
use Rattle.orca_meaning.specs.Formula.{MeansAt}
use Rattle.orca_meaning.specs.Operand as operands
use Rattle.orca_meaning.specs.Operand.{Meaning, IsOperand, IsOne, is_accumulator, opening, prefix, body, prefix_of, form_after}
use Rattle.orca_meaning.specs.laws.Steps.{means_accumulator, opening_of, after_prefix}
use Rattle.orca_meaning.specs.Operation.{use_of}
use Rattle.orca_meaning.specs.Token as tokens
use Rattle.orca_meaning.specs.Token.{operator_at}
use Rattle.omf_base.specs.Digits.{hexadecimal}
use Rattle.list_laws.specs.laws.Numbers.{number_means, HasNoDigit}
use Rattle.list_laws.specs.laws.FormulaLaw.{no_digit, IsPlainName, EndsName, CanWrite, formula_read}
use Rattle.list_laws.specs.Given.{tree_of}
use Rattle.list_meaning.specs.Listed as listed
use Rattle.list_meaning.specs.Listed.{Wanted, None', Number, Banks, Label, Moved, wanted_text, formula_text}
use Rattle.list_meaning.specs.laws.Steps.{operand_text, sign_text}
use Rattle.list_laws.specs.laws.ModeLaw.{form_in, prefix_in}

-- ---- an operand with a name

abbrev pub HasName : Wanted → Type 0
HasName None' = ⊥
HasName (Number bytes n) = n < 2 ^ 32
HasName (Banks source destination) = ⊥
HasName (Label name) = IsPlainName name
HasName (Moved name adds n) = IsPlainName name × (n < 2 ^ 32)

can_write : (w : Wanted) → HasName w → CanWrite (tree_of w)
can_write None' has = absurd has
can_write (Number bytes n) has = has
can_write (Banks source destination) has = absurd has
can_write (Label name) has = (refl, has)
can_write (Moved name true n) has = (refl, (refl, has.0), has.1)
can_write (Moved name false n) has = (refl, (refl, has.0), has.1)

moved_text : (name : List ℕ) (adds : Bool) (n : ℕ) → wanted_text (Moved name adds n) ≡ formula_text (tree_of (Moved name adds n))
unfolding listed.operator_text
moved_text name true n = refl
moved_text name false n = refl

no_digit_in : (rest : List ℕ) → EndsName rest → HasNoDigit rest
no_digit_in rest ends = no_digit rest ends

read_before : (w : Wanted) (rest : List ℕ) → HasName w → EndsName rest → operator_at rest ≡ None → MeansAt Labels (wanted_text w ++ rest) (tree_of w) rest
read_before None' rest has ends none = absurd has
read_before (Number bytes n) rest has ends none = number_means (2 * bytes) n rest has (no_digit_in rest ends) none
read_before (Banks source destination) rest has ends none = absurd has
read_before (Label name) rest has ends none = formula_read (tree_of (Label name)) rest (can_write (Label name) has) ends none
read_before (Moved name adds n) rest has ends none =
    subst (λ (l : List ℕ). MeansAt Labels (l ++ rest) (tree_of (Moved name adds n)) rest) (sym (moved_text name adds n)) (formula_read (tree_of (Moved name adds n)) rest (can_write (Moved name adds n) has) ends none)

-- a name or a number begins with this byte
abbrev starts : ℕ → Bool
starts byte = is_name_start byte || eqb byte 0x24

starts_name : (byte : ℕ) → is_name_start byte ≡ true → starts byte ≡ true
starts_name byte is = rw is refl

-- a byte with which no name begins
differs : (byte k : ℕ) → starts byte ≡ true → starts k ≡ false → eqb byte k ≡ false
differs byte k is none = by (eqb byte k) refl
  where
    by : (b : Bool) → eqb byte k ≡ b → eqb byte k ≡ false
    by true e = let clash : true ≡ false = sym is ∙ ap starts (eqb-true byte k e) ∙ none in absurd cc
    by false e = e

-- the text begins with a name
record BeginsName (text : List ℕ) : Type 0 where
  byte : ℕ
  following : List ℕ
  whole : text ≡ byte ∷ following
  start : starts byte ≡ true

begins : (w : Wanted) (rest : List ℕ) → HasName w → BeginsName (wanted_text w ++ rest)
begins None' rest has = absurd has
begins (Number bytes n) rest has = record { byte = 0x24; following = hexadecimal (2 * bytes) n ++ rest; whole = refl; start = refl }
begins (Banks source destination) rest has = absurd has
begins (Label []) rest has = absurd has
begins (Label (byte ∷ name)) rest has = record { byte = byte; following = name ++ rest; whole = refl; start = starts_name byte has.0 }
begins (Moved [] adds n) rest has = absurd has.0
begins (Moved (byte ∷ name) adds n) rest has = record { byte = byte; following = (name ++ (sign_text adds ++ listed.number_text 8 n)) ++ rest; whole = refl; start = starts_name byte has.0.0 }

no_prefix : (o : Opening) (text : List ℕ) → BeginsName text → prefix_of o text ≡ Bare
no_prefix o text is = ap (prefix_of o) is.whole ∙ by o
  where
    by : (o : Opening) → prefix_of o (is.byte ∷ is.following) ≡ Bare
    by Open = rw (differs is.byte 0x3C is.start refl, differs is.byte 0x3E is.start refl, differs is.byte 0x7C is.start refl, differs is.byte 0x21 is.start refl) refl
    by Hash = rw (differs is.byte 0x3C is.start refl, differs is.byte 0x3E is.start refl, differs is.byte 0x5E is.start refl) refl
    by Round = rw (differs is.byte 0x3C is.start refl, differs is.byte 0x3E is.start refl, differs is.byte 0x7C is.start refl, differs is.byte 0x21 is.start refl) refl
    by Square = rw (differs is.byte 0x3C is.start refl, differs is.byte 0x3E is.start refl, differs is.byte 0x7C is.start refl, differs is.byte 0x21 is.start refl) refl

no_opening : (text : List ℕ) → BeginsName text → opening_of true text ≡ Open
no_opening text is = ap (opening_of true) is.whole ∙ rw (differs is.byte 0x23 is.start refl, differs is.byte 0x28 is.start refl, differs is.byte 0x5B is.start refl) refl

and_false : (b : Bool) → (b && false) ≡ false
and_false true = refl
and_false false = refl

-- ---- its modes

-- which modes have such an operand
abbrev pub TakesName : Mode → Type 0
TakesName Implied = ⊥
TakesName Accumulator = ⊥
TakesName Move = ⊥
TakesName _ = Unit {0}

abbrev pub meaning_in : Mode → Wanted → Meaning
meaning_in way w = record { form = form_in way; prefix = prefix_in way; trees = tree_of w ∷ [] }

-- the text before the name opens the operand and says the prefix
after_prefix_is : (m : Mnemonic) (w : Wanted) (way : Mode) (rest : List ℕ) → HasName w → form_after (opening (Some m) (operand_text way w)) rest ≡ Some (form_in way)
    → is_accumulator (Some m) (operand_text way w) ≡ false → body (Some m) (operand_text way w) ≡ wanted_text w ++ rest → prefix (Some m) (operand_text way w) ≡ prefix_in way
    → EndsName rest → operator_at rest ≡ None → IsOperand (Some m) (operand_text way w) (meaning_in way w)
after_prefix_is m w way rest has form other body_is prefix_is ends none =
    IsOne other (tree_of w) rest (form_in way) (subst (λ (l : List ℕ). MeansAt Labels l (tree_of w) rest) (sym body_is) (read_before w rest has ends none)) form
    (ap (λ (p : Prefix). record { form = form_in way; prefix = p; trees = tree_of w ∷ [] }) (sym prefix_is))

opened_with : (m : Mnemonic) (byte : ℕ) (following : List ℕ) → eqb (to_ascii_uppercase byte) 0x41 ≡ false → is_accumulator (Some m) (byte ∷ following) ≡ false
opened_with m byte following other = rw other (and_false (means_accumulator (use_of m)))

not_alone : (text : List ℕ) → 2 ≤ length text → bytes_eq (folded text) (codes "A") ≡ false
not_alone [] two = absurd (omega arith)
not_alone (x ∷ []) two = absurd (omega arith)
not_alone (x ∷ y ∷ rest) two = and_false (eqb (to_ascii_uppercase x) 0x41)

stack_other : (m : Mnemonic) (w : Wanted) → is_accumulator (Some m) (operand_text Stack w) ≡ false
unfolding listed.shape_of
stack_other m w = rw (not_alone (wanted_text w ++ codes ",S") (omega (arith, length-append (wanted_text w) (codes ",S")))) (and_false (means_accumulator (use_of m)))

-- a branch and a signature aren't in the accumulator
abbrev pub IsOther : Mode → Mnemonic → Type 0
IsOther Relative8 m = means_accumulator (use_of m) ≡ false
IsOther Relative16 m = means_accumulator (use_of m) ≡ false
IsOther Signature m = means_accumulator (use_of m) ≡ false
IsOther _ m = Unit {0}

plain_open : (m : Mnemonic) (w : Wanted) (rest : List ℕ) → HasName w → opening (Some m) (wanted_text w ++ rest) ≡ Open
plain_open m w rest has = no_opening (wanted_text w ++ rest) (begins w rest has)

plain_prefix : (m : Mnemonic) (w : Wanted) (rest : List ℕ) → HasName w → prefix (Some m) (wanted_text w ++ rest) ≡ Bare
plain_prefix m w rest has = ap (λ (o : Opening). prefix_of o (operands.after_opening o (wanted_text w ++ rest))) (plain_open m w rest has) ∙ no_prefix Open (wanted_text w ++ rest) (begins w rest has)

plain_body : (m : Mnemonic) (w : Wanted) (rest : List ℕ) → HasName w → body (Some m) (wanted_text w ++ rest) ≡ wanted_text w ++ rest
plain_body m w rest has =
    ap (λ (p : Prefix). after_prefix p (operands.after_opening (opening (Some m) (wanted_text w ++ rest)) (wanted_text w ++ rest))) (plain_prefix m w rest has)
    ∙ ap (λ (o : Opening). operands.after_opening o (wanted_text w ++ rest)) (plain_open m w rest has)

-- without a byte before the name
plain_read : (m : Mnemonic) (w : Wanted) (way : Mode) (rest : List ℕ) → HasName w → operand_text way w ≡ wanted_text w ++ rest → prefix_in way ≡ Bare → form_after Open rest ≡ Some (form_in way)
    → is_accumulator (Some m) (operand_text way w) ≡ false → EndsName rest → operator_at rest ≡ None → IsOperand (Some m) (operand_text way w) (meaning_in way w)
plain_read m w way rest has text bare form other ends none =
    after_prefix_is m w way rest has
    (ap (λ (l : List ℕ). form_after (opening (Some m) l) rest) text ∙ ap (λ (o : Opening). form_after o rest) (plain_open m w rest has) ∙ form) other
    (ap (body (Some m)) text ∙ plain_body m w rest has) (ap (prefix (Some m)) text ∙ plain_prefix m w rest has ∙ sym bare) ends none

-- after `#`, or after `(`, without a prefix
bare_prefix : (o : Opening) (w : Wanted) (rest : List ℕ) → HasName w → prefix_of o (wanted_text w ++ rest) ≡ Bare
bare_prefix o w rest has = no_prefix o (wanted_text w ++ rest) (begins w rest has)

bare_body : (o : Opening) (w : Wanted) (rest : List ℕ) → HasName w → after_prefix (prefix_of o (wanted_text w ++ rest)) (wanted_text w ++ rest) ≡ wanted_text w ++ rest
bare_body o w rest has = ap (λ (p : Prefix). after_prefix p (wanted_text w ++ rest)) (bare_prefix o w rest has)

pub operand_read : (m : Mnemonic) (way : Mode) (w : Wanted) → TakesName way → HasName w → IsOther way m → IsOperand (Some m) (operand_text way w) (meaning_in way w)
unfolding listed.shape_of operands.whole_index operands.index_at operands.indexes_around tokens.operator_at tokens.spelled_at
operand_read m Implied w takes has other = absurd takes
operand_read m Accumulator w takes has other = absurd takes
operand_read m Move w takes has other = absurd takes
operand_read m Immediate w takes has other = after_prefix_is m w Immediate [] has refl (opened_with m 0x23 (wanted_text w ++ []) refl) (bare_body Hash w [] has) (bare_prefix Hash w [] has) tt refl
operand_read m Direct w takes has other = after_prefix_is m w Direct ([]) has refl (opened_with m 0x3C (wanted_text w ++ []) refl) refl refl tt refl
operand_read m DirectX w takes has other = after_prefix_is m w DirectX (codes ",X") has refl (opened_with m 0x3C (wanted_text w ++ codes ",X") refl) refl refl (refl, refl) refl
operand_read m DirectY w takes has other = after_prefix_is m w DirectY (codes ",Y") has refl (opened_with m 0x3C (wanted_text w ++ codes ",Y") refl) refl refl (refl, refl) refl
operand_read m DirectIndirect w takes has other = after_prefix_is m w DirectIndirect (codes ")") has refl (opened_with m 0x28 (0x3C ∷ wanted_text w ++ codes ")") refl) refl refl (refl, refl) refl
operand_read m DirectIndirectY w takes has other = after_prefix_is m w DirectIndirectY (codes "),Y") has refl (opened_with m 0x28 (0x3C ∷ wanted_text w ++ codes "),Y") refl) refl refl (refl, refl) refl
operand_read m DirectXIndirect w takes has other = after_prefix_is m w DirectXIndirect (codes ",X)") has refl (opened_with m 0x28 (0x3C ∷ wanted_text w ++ codes ",X)") refl) refl refl (refl, refl) refl
operand_read m DirectLong w takes has other = after_prefix_is m w DirectLong (codes "]") has refl (opened_with m 0x5B (0x3C ∷ wanted_text w ++ codes "]") refl) refl refl (refl, refl) refl
operand_read m DirectLongY w takes has other = after_prefix_is m w DirectLongY (codes "],Y") has refl (opened_with m 0x5B (0x3C ∷ wanted_text w ++ codes "],Y") refl) refl refl (refl, refl) refl
operand_read m Absolute w takes has other = after_prefix_is m w Absolute ([]) has refl (opened_with m 0x7C (wanted_text w ++ []) refl) refl refl tt refl
operand_read m AbsoluteX w takes has other = after_prefix_is m w AbsoluteX (codes ",X") has refl (opened_with m 0x7C (wanted_text w ++ codes ",X") refl) refl refl (refl, refl) refl
operand_read m AbsoluteY w takes has other = after_prefix_is m w AbsoluteY (codes ",Y") has refl (opened_with m 0x7C (wanted_text w ++ codes ",Y") refl) refl refl (refl, refl) refl
operand_read m AbsoluteIndirect w takes has other = after_prefix_is m w AbsoluteIndirect (codes ")") has refl (opened_with m 0x28 (0x7C ∷ wanted_text w ++ codes ")") refl) refl refl (refl, refl) refl
operand_read m AbsoluteXIndirect w takes has other = after_prefix_is m w AbsoluteXIndirect (codes ",X)") has refl (opened_with m 0x28 (0x7C ∷ wanted_text w ++ codes ",X)") refl) refl refl (refl, refl) refl
operand_read m AbsoluteLongIndirect w takes has other = after_prefix_is m w AbsoluteLongIndirect (codes "]") has refl (opened_with m 0x5B (0x7C ∷ wanted_text w ++ codes "]") refl) refl refl (refl, refl) refl
operand_read m Long w takes has other = after_prefix_is m w Long ([]) has refl (opened_with m 0x3E (wanted_text w ++ []) refl) refl refl tt refl
operand_read m LongX w takes has other = after_prefix_is m w LongX (codes ",X") has refl (opened_with m 0x3E (wanted_text w ++ codes ",X") refl) refl refl (refl, refl) refl
operand_read m StackIndirectY w takes has other = after_prefix_is m w StackIndirectY (codes ",S),Y") has refl (opened_with m 0x28 (wanted_text w ++ codes ",S),Y") refl) (bare_body Round w (codes ",S),Y") has) (bare_prefix Round w (codes ",S),Y") has) (refl, refl) refl
operand_read m Stack w takes has other = plain_read m w Stack (codes ",S") has refl refl refl (stack_other m w) (refl, refl) refl
operand_read m Relative8 w takes has other = plain_read m w Relative8 [] has refl refl refl (ap (λ (b : Bool). b && bytes_eq (folded (wanted_text w ++ [])) (codes "A")) other) tt refl
operand_read m Relative16 w takes has other = plain_read m w Relative16 [] has refl refl refl (ap (λ (b : Bool). b && bytes_eq (folded (wanted_text w ++ [])) (codes "A")) other) tt refl
operand_read m Signature w takes has other = plain_read m w Signature [] has refl refl refl (ap (λ (b : Bool). b && bytes_eq (folded (wanted_text w ++ [])) (codes "A")) other) tt refl
