-- Each line of a listing is a line of source for the assembler: it is short, no comment and no statement of conditional assembly,
-- and no line end and no `&` is in it.
use Rattle.std.proofs.Common.{◌≡◌, ℕ, ◌*◌, ◌^◌, ◌<◌, ◌≤◌, Bool, true, false, eqb, List, [], ◌∷◌, ◌++◌, length, Some, None, refl, sym, ap, subst, ◌∙◌, arith}
use Rattle.std.specs.Prelude.{codes, ◌==◌, ◌||◌, not}
use Rattle.std.specs.List.{AllByRecursion, list_all}
use Rattle.std.specs.Char.{digit_value}
use Rattle.std.proofs.lemmas.Bool.{eqb-true, leb-true, and_parts, or_parts, not-true}
use Rattle.std.proofs.lemmas.List.Concat.{flat_map-cons}
use Rattle.omf_base.specs.Digits.{hexadecimal}
use Rattle.omf_format.specs.Expression as expression
use Rattle.omf_format.specs.Lines.{HasNoEnd}
use Rattle.orca_meaning.specs.declared.modes.Mode.{Mode}
use Rattle.orca_meaning.specs.declared.modes.Mode.TheVariants as modes
use Rattle.orca_meaning.specs.declared.mnemonics.Mnemonic.{Mnemonic}
use Rattle.orca_meaning.specs.declared.operators.Operator.{Operator}
use Rattle.orca_meaning.specs.declared.operators.Operator.TheVariants.{LessOrEqual, GreaterOrEqual, NotEqual, And, Or, Eor}
use Rattle.orca_meaning.specs.Characters.{is_blank, is_name_byte}
use Rattle.orca_meaning.specs.Formula.{operator_code}
use Rattle.orca_meaning.specs.Line.{part, three_fields}
use Rattle.orca_meaning.specs.Operation as operations
use Rattle.macro_meaning.specs.declared.statements.Statement.TheVariants.{Nothing}
use Rattle.macro_meaning.specs.Effect.{operation_or_anop}
use Rattle.macro_meaning.specs.Statements as statements
use Rattle.macro_meaning.specs.laws.Steps.{is_operation}
use Rattle.asm_meaning.specs.declared.directives.Switch.TheVariants.{LongA, LongI, Msb}
use Rattle.asm_meaning.specs.Instruction.{Widths}
use Rattle.asm_meaning.specs.State.{no_constants}
use Rattle.list_meaning.specs.Listed as listed
use Rattle.list_meaning.specs.Listed.{ListedStatement, NextAlignIs, NextOrg, StartIs, KindIs, SwitchIs, Ds, Aligns, OrgIs, UsingIs, StrongIs, Labels, Equates, Instructs, Bytes, WeakIs, FormulaIs, EndIs, Wanted, None', Number, Banks, Label, Moved, said_text, statement_text, number_text, wanted_text, quoted_value, formula_text, spelling_of}
use Rattle.list_meaning.specs.laws.Steps.{operand_text, on_text, with_leading_space}
use Rattle.list_meaning.specs.Listing.{is_short}
use Rattle.list_laws.specs.laws.LineText.{HasNoBlank, IsOperation, IsLabelFront, laid_three, no_comment}
use Rattle.list_laws.specs.laws.Expands.{IsPlainLine, IsOfAssembler, Other, Labelled, HasNoSymbol, HasNoDot}
use Rattle.list_laws.specs.laws.Numbers.{hexadecimal_is}
use Rattle.list_laws.specs.laws.Spelled.{spelled}
use Rattle.list_laws.specs.laws.FormulaLaw.{CanWrite, IsPlainName}
use Rattle.list_laws.specs.laws.HeldLaw.{byte_ink}
use Rattle.list_laws.specs.laws.LineLaw.{ink_of}
use Rattle.list_laws.specs.laws.ConstantLines.{in_name, in_digits, in_formula}
use Rattle.list_laws.specs.laws.BytesLine.{AreBytes, digits_of}
use Rattle.list_laws.specs.laws.MoreLines.{IsLoadName, front_is}
use Rattle.list_laws.specs.laws.LineGives.{FitsOperand}
use Rattle.list_laws.specs.laws.After.{IsFine}
use Rattle.list_laws.specs.laws.WholeLaw.{IsSaidLine}

-- ---- bytes that no field has

-- a blank, a line end or `&`
abbrev spoils : ℕ → Bool
spoils byte = is_blank byte || ((byte == 0x0A || byte == 0x0D) || byte == 0x26)

abbrev AreClean : List ℕ → Type 0
AreClean text = AllByRecursion (λ byte. spoils byte ≡ false) text

no_special : (byte : ℕ) → eqb byte 0x0A ≡ false → eqb byte 0x0D ≡ false → eqb byte 0x26 ≡ false → ((byte == 0x0A || byte == 0x0D) || byte == 0x26) ≡ false
no_special byte a b c = rw (a, b, c) refl

not_byte : (byte k : ℕ) → is_name_byte byte ≡ true → is_name_byte k ≡ false → eqb byte k ≡ false
not_byte byte k is none = by (eqb byte k) refl
  where
    by : (b : Bool) → eqb byte k ≡ b → eqb byte k ≡ false
    by true e = let clash : true ≡ false = sym is ∙ ap is_name_byte (eqb-true byte k e) ∙ none in absurd cc
    by false e = e

named_clean : (byte : ℕ) → is_name_byte byte ≡ true → spoils byte ≡ false
named_clean byte is = rw (byte_ink byte is) (no_special byte (not_byte byte 0x0A is refl) (not_byte byte 0x0D is refl) (not_byte byte 0x26 is refl))

not_digit : (byte k : ℕ) → digit_value byte < 16 → (digit_value k < 16 → ⊥) → eqb byte k ≡ false
not_digit byte k is none = by (eqb byte k) refl
  where
    by : (b : Bool) → eqb byte k ≡ b → eqb byte k ≡ false
    by true e = absurd (none (subst (λ (x : ℕ). digit_value x < 16) (eqb-true byte k e) is))
    by false e = e

digit_clean : (byte : ℕ) → digit_value byte < 16 → spoils byte ≡ false
digit_clean byte is =
    rw (ink_of byte is) (no_special byte (not_digit byte 0x0A is (λ h. no_line_feed h)) (not_digit byte 0x0D is (λ h. no_return h)) (not_digit byte 0x26 is (λ h. no_ampersand h)))
  where
    no_line_feed : digit_value 0x0A < 16 → ⊥
    no_line_feed h = omega (arith, h)

    no_return : digit_value 0x0D < 16 → ⊥
    no_return h = omega (arith, h)

    no_ampersand : digit_value 0x26 < 16 → ⊥
    no_ampersand h = omega (arith, h)

operator_clean : (o : Operator) → AreClean (listed.operator_text (operator_code o))
unfolding listed.operator_text
operator_clean And = (refl, (refl, (refl, (refl, (refl, tt)))))
operator_clean Or = (refl, (refl, (refl, (refl, tt))))
operator_clean Eor = (refl, (refl, (refl, (refl, (refl, tt)))))
operator_clean LessOrEqual = (refl, (refl, tt))
operator_clean GreaterOrEqual = (refl, (refl, tt))
operator_clean NotEqual = (refl, (refl, tt))
operator_clean _ = (refl, tt)

special_clean : AreClean (codes "$*()")
special_clean = (refl, (refl, (refl, (refl, tt))))

negate_clean : AreClean (listed.operator_text 0x06)
unfolding listed.operator_text
negate_clean = (refl, tt)

no_clean : AreClean (listed.operator_text 0x0B)
unfolding listed.operator_text
no_clean = (refl, (refl, (refl, (refl, (refl, tt)))))

name_clean : (name : List ℕ) → IsPlainName name → AreClean name
name_clean name is = in_name spoils named_clean digit_clean special_clean operator_clean negate_clean no_clean name is

number_clean : (places n : ℕ) → n < 2 ^ 32 → AreClean (number_text places n)
number_clean places n fits = (refl, in_digits spoils named_clean digit_clean special_clean operator_clean negate_clean no_clean (hexadecimal places n) (hexadecimal_is places n fits).0.1)

hexadecimal_clean : (places n : ℕ) → n < 2 ^ 32 → AreClean (hexadecimal places n)
hexadecimal_clean places n fits = in_digits spoils named_clean digit_clean special_clean operator_clean negate_clean no_clean (hexadecimal places n) (hexadecimal_is places n fits).0.1

formula_clean : (t : expression.Tree) → CanWrite t → AreClean (formula_text t)
formula_clean t can = in_formula spoils named_clean digit_clean special_clean operator_clean negate_clean no_clean t can

push : (a b : List ℕ) → AreClean a → AreClean b → AreClean (a ++ b)
push [] b p q = q
push (byte ∷ a) b p q = (p.0, push a b p.1 q)

digits_clean : (bytes : List ℕ) → AreBytes bytes → AreClean (digits_of bytes)
digits_clean [] are = tt
digits_clean (byte ∷ bytes) are =
    subst AreClean (sym (flat_map-cons (hexadecimal 2) byte bytes)) (push (hexadecimal 2 byte) (digits_of bytes) (hexadecimal_clean 2 byte (omega (arith, are.0))) (digits_clean bytes are.1))

abbrev tidy : List ℕ → Bool
tidy text = list_all (λ byte. not (spoils byte)) text

tidy_clean : (text : List ℕ) → tidy text ≡ true → AreClean text
tidy_clean [] e = tt
tidy_clean (byte ∷ text) e = let both = and_parts (not (spoils byte)) (tidy text) e in (not-true (spoils byte) both.0, tidy_clean text both.1)

shape_clean : (way : Mode) → (tidy (listed.shape_of way).0 ≡ true) × (tidy (listed.shape_of way).1 ≡ true)
unfolding listed.shape_of
shape_clean modes.Implied = (refl, refl)
shape_clean _ = (refl, refl)

-- what an operand's text needs
abbrev IsText : Wanted → Type 0
IsText None' = Unit {0}
IsText (Number bytes n) = n < 2 ^ 32
IsText (Banks source destination) = (source < 2 ^ 32) × (destination < 2 ^ 32)
IsText (Label name) = IsPlainName name
IsText (Moved name adds n) = IsPlainName name × (n < 2 ^ 32)

wanted_clean : (w : Wanted) → IsText w → AreClean (wanted_text w)
wanted_clean None' is = tt
wanted_clean (Number bytes n) is = number_clean (2 * bytes) n is
wanted_clean (Banks source destination) is = push (number_text 2 source) (codes "," ++ number_text 2 destination) (number_clean 2 source is.0) (refl, number_clean 2 destination is.1)
wanted_clean (Label name) is = name_clean name is
wanted_clean (Moved name true n) is = push name (codes "+" ++ number_text 8 n) (name_clean name is.0) (refl, number_clean 8 n is.1)
wanted_clean (Moved name false n) is = push name (codes "-" ++ number_text 8 n) (name_clean name is.0) (refl, number_clean 8 n is.1)

operand_clean : (way : Mode) (w : Wanted) → IsText w → AreClean (operand_text way w)
operand_clean way w is =
    push (listed.shape_of way).0 (wanted_text w ++ (listed.shape_of way).1) (tidy_clean (listed.shape_of way).0 (shape_clean way).0)
    (push (wanted_text w) (listed.shape_of way).1 (wanted_clean w is) (tidy_clean (listed.shape_of way).1 (shape_clean way).1))

fits_text : (w : Widths) (m : Mnemonic) (way : Mode) (operand : Wanted) → FitsOperand no_constants w m way operand → IsText operand
fits_text w m way None' fits = tt
fits_text w m way (Number bytes n) fits = fits.3
fits_text w m modes.Move (Banks source destination) fits = (omega (arith, fits.0), omega (arith, fits.1))
fits_text w m _ (Banks source destination) fits = absurd fits
fits_text w m way (Label name) fits = fits.1
fits_text w m way (Moved name adds n) fits = fits.1

quoted_clean : (form value : List ℕ) → AreClean form → AreClean value → AreClean (quoted_value form value)
quoted_clean form value p q = push form (codes "'" ++ (value ++ codes "'")) p (refl, push value (codes "'") q (refl, tt))

-- ---- a line of three fields

-- the fields of a line, and that the assembler gets it unchanged
record Shape (said : ListedStatement) : Type 0 where
  label : List ℕ
  operation : List ℕ
  operand : List ℕ
  text : said_text said ≡ statement_text label operation operand
  front : IsLabelFront label
  named : IsOperation operation
  label_clean : AreClean label
  operation_clean : AreClean operation
  operand_clean' : AreClean operand
  no_macro : is_operation (codes "MACRO") operation ≡ false
  assembles : IsOfAssembler label (operation_or_anop operation)

ink : (text : List ℕ) → AreClean text → HasNoBlank text
ink [] are = tt
ink (byte ∷ text) are = ((or_parts (is_blank byte) ((byte == 0x0A || byte == 0x0D) || byte == 0x26) are.0).0, ink text are.1)

ends : (text : List ℕ) → AreClean text → HasNoEnd text
ends [] are = tt
ends (byte ∷ text) are =
    let rest = (or_parts (is_blank byte) ((byte == 0x0A || byte == 0x0D) || byte == 0x26) are.0).1 in
    ((or_parts (byte == 0x0A || byte == 0x0D) (byte == 0x26) rest).0, ends text are.1)

symbols : (text : List ℕ) → AreClean text → HasNoSymbol text
symbols [] are = tt
symbols (byte ∷ text) are =
    let rest = (or_parts (is_blank byte) ((byte == 0x0A || byte == 0x0D) || byte == 0x26) are.0).1 in
    ((or_parts (byte == 0x0A || byte == 0x0D) (byte == 0x26) rest).1, symbols text are.1)

onto : (P : ℕ → Type 0) (a b : List ℕ) → AllByRecursion P a → AllByRecursion P b → AllByRecursion P (a ++ b)
onto P [] b p q = q
onto P (byte ∷ a) b p q = (p.0, onto P a b p.1 q)

spaced_all : (P : ℕ → Type 0) → P 0x20 → (operand : List ℕ) → AllByRecursion P operand → AllByRecursion P (with_leading_space operand)
spaced_all P blank [] are = tt
spaced_all P blank (byte ∷ operand) are = (blank, are)

whole_all : (P : ℕ → Type 0) → P 0x20 → (label operation operand : List ℕ) → AllByRecursion P label → AllByRecursion P operation → AllByRecursion P operand → AllByRecursion P (statement_text label operation operand)
whole_all P blank label operation operand p q r = onto P label (0x20 ∷ (operation ++ with_leading_space operand)) p (blank, onto P operation (with_leading_space operand) q (spaced_all P blank operand r))

dotless : (label operation operand : List ℕ) → IsLabelFront label → HasNoDot (statement_text label operation operand)
dotless [] operation operand front = refl
dotless (byte ∷ label) operation operand front = front.3

shaped : (said : ListedStatement) → is_short said ≡ true → Shape said → IsSaidLine said
shaped said short s =
    let text = statement_text s.label s.operation s.operand in
    let laid = laid_three s.label s.operation s.operand s.front s.named (ink s.operand s.operand_clean') in
    let plain : IsPlainLine text = record {
      short = subst (λ (l : List ℕ). length l ≤ 255) s.text (leb-true (length (said_text said)) 255 short);
      no_comment = no_comment s.label s.operation s.operand s.front s.named;
      no_dot = dotless s.label s.operation s.operand s.front;
      no_symbol = whole_all (λ byte. (byte == 0x26) ≡ false) refl s.label s.operation s.operand (symbols s.label s.label_clean) (symbols s.operation s.operation_clean) (symbols s.operand s.operand_clean');
      no_macro = ap (is_operation (codes "MACRO")) laid.operation_is ∙ s.no_macro;
      assembles = subst (λ (l : List ℕ). IsOfAssembler l (operation_or_anop (part text (three_fields text).operation))) (sym laid.label_is)
          (subst (λ (o : List ℕ). IsOfAssembler s.label (operation_or_anop o)) (sym laid.operation_is) s.assembles);
    } in
    record {
      no_end = subst HasNoEnd (sym s.text) (whole_all (λ byte. Rattle.omf_format.specs.laws.Steps.is_end_byte byte ≡ false) refl s.label s.operation s.operand (ends s.label s.label_clean) (ends s.operation s.operation_clean) (ends s.operand s.operand_clean'));
      plain = subst IsPlainLine (sym s.text) plain;
    }

-- ---- directives

-- an operation that is none of conditional assembly, and that a line can have
record IsDirective (operation : List ℕ) : Type 0 where
  named : IsOperation operation
  clean : AreClean operation
  no_macro : is_operation (codes "MACRO") operation ≡ false
  other : operation_or_anop operation ≡ None

directive_shape : (said : ListedStatement) (label operation operand : List ℕ) → said_text said ≡ statement_text label operation operand → IsDirective operation → IsLabelFront label → AreClean label → AreClean operand → Shape said
directive_shape said label operation operand text is front label_is operand_is = record {
  label = label;
  operation = operation;
  operand = operand;
  text = text;
  front = front;
  named = is.named;
  label_clean = label_is;
  operation_clean = is.clean;
  operand_clean' = operand_is;
  no_macro = is.no_macro;
  assembles = Other is.other;
}

on_clean : (on : Bool) → AreClean (on_text on)
on_clean true = (refl, (refl, tt))
on_clean false = (refl, (refl, (refl, tt)))

load_clean : (name : List ℕ) → IsLoadName name → AreClean name
load_clean [] is = tt
load_clean (byte ∷ name) is = name_clean (byte ∷ name) is.0

name_some : (name : List ℕ) → IsPlainName name → IsOfAssembler name (Some Nothing)
name_some [] is = absurd is
name_some (byte ∷ name) is = Labelled refl byte name refl

letters_clean : (text : List ℕ) → AllByRecursion (λ b. is_name_byte b ≡ true) text → AreClean text
letters_clean [] are = tt
letters_clean (byte ∷ text) are = (named_clean byte are.0, letters_clean text are.1)

align_is : IsDirective (codes "ALIGN")
unfolding operations.value_of_spelling statements.statement_of statements.statements statements.other_statements
align_is = record { named = (refl, (refl, (refl, (refl, (refl, tt))))); clean = (refl, (refl, (refl, (refl, (refl, tt))))); no_macro = refl; other = refl }

org_is : IsDirective (codes "ORG")
unfolding operations.value_of_spelling statements.statement_of statements.statements statements.other_statements
org_is = record { named = (refl, (refl, (refl, tt))); clean = (refl, (refl, (refl, tt))); no_macro = refl; other = refl }

start_is : IsDirective (codes "START")
unfolding operations.value_of_spelling statements.statement_of statements.statements statements.other_statements
start_is = record { named = (refl, (refl, (refl, (refl, (refl, tt))))); clean = (refl, (refl, (refl, (refl, (refl, tt))))); no_macro = refl; other = refl }

data_is : IsDirective (codes "DATA")
unfolding operations.value_of_spelling statements.statement_of statements.statements statements.other_statements
data_is = record { named = (refl, (refl, (refl, (refl, tt)))); clean = (refl, (refl, (refl, (refl, tt)))); no_macro = refl; other = refl }

kind_is : IsDirective (codes "KIND")
unfolding operations.value_of_spelling statements.statement_of statements.statements statements.other_statements
kind_is = record { named = (refl, (refl, (refl, (refl, tt)))); clean = (refl, (refl, (refl, (refl, tt)))); no_macro = refl; other = refl }

long_a_is : IsDirective (codes "LONGA")
unfolding operations.value_of_spelling statements.statement_of statements.statements statements.other_statements
long_a_is = record { named = (refl, (refl, (refl, (refl, (refl, tt))))); clean = (refl, (refl, (refl, (refl, (refl, tt))))); no_macro = refl; other = refl }

long_i_is : IsDirective (codes "LONGI")
unfolding operations.value_of_spelling statements.statement_of statements.statements statements.other_statements
long_i_is = record { named = (refl, (refl, (refl, (refl, (refl, tt))))); clean = (refl, (refl, (refl, (refl, (refl, tt))))); no_macro = refl; other = refl }

msb_is : IsDirective (codes "MSB")
unfolding operations.value_of_spelling statements.statement_of statements.statements statements.other_statements
msb_is = record { named = (refl, (refl, (refl, tt))); clean = (refl, (refl, (refl, tt))); no_macro = refl; other = refl }

ds_is : IsDirective (codes "DS")
unfolding operations.value_of_spelling statements.statement_of statements.statements statements.other_statements
ds_is = record { named = (refl, (refl, tt)); clean = (refl, (refl, tt)); no_macro = refl; other = refl }

using_is : IsDirective (codes "USING")
unfolding operations.value_of_spelling statements.statement_of statements.statements statements.other_statements
using_is = record { named = (refl, (refl, (refl, (refl, (refl, tt))))); clean = (refl, (refl, (refl, (refl, (refl, tt))))); no_macro = refl; other = refl }

dc_is : IsDirective (codes "DC")
unfolding operations.value_of_spelling statements.statement_of statements.statements statements.other_statements
dc_is = record { named = (refl, (refl, tt)); clean = (refl, (refl, tt)); no_macro = refl; other = refl }

entry_is : IsDirective (codes "ENTRY")
unfolding operations.value_of_spelling statements.statement_of statements.statements statements.other_statements
entry_is = record { named = (refl, (refl, (refl, (refl, (refl, tt))))); clean = (refl, (refl, (refl, (refl, (refl, tt))))); no_macro = refl; other = refl }

equ_is : IsDirective (codes "EQU")
unfolding operations.value_of_spelling statements.statement_of statements.statements statements.other_statements
equ_is = record { named = (refl, (refl, (refl, tt))); clean = (refl, (refl, (refl, tt))); no_macro = refl; other = refl }

gequ_is : IsDirective (codes "GEQU")
unfolding operations.value_of_spelling statements.statement_of statements.statements statements.other_statements
gequ_is = record { named = (refl, (refl, (refl, (refl, tt)))); clean = (refl, (refl, (refl, (refl, tt)))); no_macro = refl; other = refl }

end_is : IsDirective (codes "END")
unfolding operations.value_of_spelling statements.statement_of statements.statements statements.other_statements
end_is = record { named = (refl, (refl, (refl, tt))); clean = (refl, (refl, (refl, tt))); no_macro = refl; other = refl }

-- ---- the lines

local_shape : (name : List ℕ) → IsPlainName name → Shape (Labels false name)
unfolding said_text operations.value_of_spelling statements.statement_of statements.statements statements.other_statements
local_shape name is = record {
  label = name;
  operation = codes "ANOP";
  operand = [];
  text = refl;
  front = front_is name is;
  named = (refl, (refl, (refl, (refl, tt))));
  label_clean = name_clean name is;
  operation_clean = (refl, (refl, (refl, (refl, tt))));
  operand_clean' = tt;
  no_macro = refl;
  assembles = name_some name is;
}

instruction_shape : (m : Mnemonic) (way : Mode) (operand : Wanted) → IsText operand → Shape (Instructs m way operand)
unfolding said_text
instruction_shape m way operand is = record {
  label = [];
  operation = spelling_of m;
  operand = operand_text way operand;
  text = refl;
  front = tt;
  named = (spelled m).named;
  label_clean = tt;
  operation_clean = letters_clean (spelling_of m) (spelled m).letters;
  operand_clean' = operand_clean way operand is;
  no_macro = (spelled m).no_macro;
  assembles = Other (spelled m).statement;
}

-- the lines before a segment's records, and the last line
pub front_line : (n : ℕ) → n < 2 ^ 32 → is_short (NextAlignIs n) ≡ true → IsSaidLine (NextAlignIs n)
unfolding said_text
front_line n fits short = shaped (NextAlignIs n) short (directive_shape (NextAlignIs n) [] (codes "ALIGN") (number_text 8 n) refl align_is tt tt (number_clean 8 n fits))

pub origin_line : (n : ℕ) → n < 2 ^ 32 → is_short (NextOrg n) ≡ true → IsSaidLine (NextOrg n)
unfolding said_text
origin_line n fits short = shaped (NextOrg n) short (directive_shape (NextOrg n) [] (codes "ORG") (number_text 8 n) refl org_is tt tt (number_clean 8 n fits))

pub begins_line : (crosses : Bool) (name load_name : List ℕ) → IsPlainName name → IsLoadName load_name → is_short (StartIs crosses name load_name) ≡ true → IsSaidLine (StartIs crosses name load_name)
unfolding said_text
begins_line true name load_name is load short =
    shaped (StartIs true name load_name) short (directive_shape (StartIs true name load_name) name (codes "DATA") load_name refl data_is (front_is name is) (name_clean name is) (load_clean load_name load))
begins_line false name load_name is load short =
    shaped (StartIs false name load_name) short (directive_shape (StartIs false name load_name) name (codes "START") load_name refl start_is (front_is name is) (name_clean name is) (load_clean load_name load))

pub kind_line : (n : ℕ) → n < 2 ^ 32 → is_short (KindIs n) ≡ true → IsSaidLine (KindIs n)
unfolding said_text
kind_line n fits short = shaped (KindIs n) short (directive_shape (KindIs n) [] (codes "KIND") (number_text 4 n) refl kind_is tt tt (number_clean 4 n fits))

pub end_line : is_short EndIs ≡ true → IsSaidLine EndIs
unfolding said_text
end_line short = shaped EndIs short (directive_shape EndIs [] (codes "END") [] refl end_is tt tt tt)

-- the lines inside a segment
fine_shape : (equates : List (List ℕ)) (align : ℕ) (names : List (List ℕ)) (w : Widths) (said : ListedStatement) → IsFine equates align names w said → Shape said
unfolding said_text
fine_shape equates align names w (NextAlignIs n) fine = absurd fine
fine_shape equates align names w (NextOrg n) fine = absurd fine
fine_shape equates align names w (StartIs crosses name load_name) fine = absurd fine
fine_shape equates align names w (KindIs n) fine = absurd fine
fine_shape equates align names w (SwitchIs LongA on) fine = directive_shape (SwitchIs LongA on) [] (codes "LONGA") (on_text on) refl long_a_is tt tt (on_clean on)
fine_shape equates align names w (SwitchIs LongI on) fine = directive_shape (SwitchIs LongI on) [] (codes "LONGI") (on_text on) refl long_i_is tt tt (on_clean on)
fine_shape equates align names w (SwitchIs Msb on) fine = directive_shape (SwitchIs Msb on) [] (codes "MSB") (on_text on) refl msb_is tt tt (on_clean on)
fine_shape equates align names w (Ds n) fine = directive_shape (Ds n) [] (codes "DS") (number_text 8 n) refl ds_is tt tt (number_clean 8 n fine)
fine_shape equates align names w (Aligns n) fine = directive_shape (Aligns n) [] (codes "ALIGN") (number_text 8 n) refl align_is tt tt (number_clean 8 n fine.0)
fine_shape equates align names w (OrgIs n) fine = directive_shape (OrgIs n) [] (codes "ORG") (codes "*+" ++ number_text 8 n) refl org_is tt tt (refl, (refl, number_clean 8 n (omega (arith, fine))))
fine_shape equates align names w (UsingIs name) fine = directive_shape (UsingIs name) [] (codes "USING") name refl using_is tt tt (name_clean name fine)
fine_shape equates align names w (StrongIs name) fine = directive_shape (StrongIs name) [] (codes "DC") (quoted_value (codes "R") name) refl dc_is tt tt (quoted_clean (codes "R") name (refl, tt) (name_clean name fine))
fine_shape equates align names w (Labels true name) fine = directive_shape (Labels true name) name (codes "ENTRY") [] refl entry_is (front_is name fine.0) (name_clean name fine.0) tt
fine_shape equates align names w (Labels false name) fine = local_shape name fine.0
fine_shape equates align names w (Equates true name n) fine =
    directive_shape (Equates true name n) name (codes "GEQU") (number_text 8 n) refl gequ_is (front_is name fine.0.0) (name_clean name fine.0.0) (number_clean 8 n fine.1)
fine_shape equates align names w (Equates false name n) fine =
    directive_shape (Equates false name n) name (codes "EQU") (number_text 8 n) refl equ_is (front_is name fine.0.0) (name_clean name fine.0.0) (number_clean 8 n fine.1)
fine_shape equates align names w (Instructs m way operand) fine = instruction_shape m way operand (fits_text w m way operand (fine no_constants (λ name other. refl)).1)
fine_shape equates align names w (Bytes bytes) fine =
    directive_shape (Bytes bytes) [] (codes "DC") (quoted_value (codes "H") (digits_of bytes)) refl dc_is tt tt (quoted_clean (codes "H") (digits_of bytes) (refl, tt) (digits_clean bytes fine.1))
fine_shape equates align names w (WeakIs name) fine = directive_shape (WeakIs name) [] (codes "DC") (quoted_value (codes "S") name) refl dc_is tt tt (quoted_clean (codes "S") name (refl, tt) (name_clean name fine))
fine_shape equates align names w (FormulaIs count tree) fine =
    directive_shape (FormulaIs count tree) [] (codes "DC") (quoted_value (codes "A" ++ hexadecimal 1 count) (formula_text tree)) refl dc_is tt tt
    (quoted_clean (codes "A" ++ hexadecimal 1 count) (formula_text tree) (refl, hexadecimal_clean 1 count (omega (arith, fine.0.1))) (formula_clean tree fine.1))
fine_shape equates align names w EndIs fine = absurd fine

pub fine_line : (equates : List (List ℕ)) (align : ℕ) (names : List (List ℕ)) (w : Widths) (said : ListedStatement) → IsFine equates align names w said → is_short said ≡ true → IsSaidLine said
fine_line equates align names w said fine short = shaped said short (fine_shape equates align names w said fine)
