-- The elements of DC (ORCA/M reference manual, "Declare Constant").
use Rattle.std.specs.Prelude.{◌≡◌, ℕ, ◌+◌, ◌-◌, ◌/◌, ◌^◌, zero, suc, Bool, not, ◌||◌, ◌&&◌, ◌==◌, nat_lt, nat_le, bit_or, List, [], ◌∷◌, ◌++◌, length, take, drop, map, filter, replicate, Option, Some, None, Ok, Err, if◌then◌else◌}
use Rattle.std.specs.Char.{is_digit, to_ascii_uppercase}
use Rattle.std.specs.List.{position_or_len, list_all, flat_map}
use Rattle.std.specs.Str.Parse.{digits_value}
use Rattle.omf_format.specs.declared.codes.TheConstants.{EXPR}
use Rattle.omf_format.specs.Ascii as ascii
use Rattle.byteorder.specs.Endian.{little_bytes}
use Rattle.omf_format.specs.Field.{◌>>=◌}
use Rattle.omf_format.specs.Expression.{Tree, Leaf, Named}
use Rattle.omf_format.specs.Record.{Formula, Strong}
use Rattle.orca_meaning.specs.declared.operators.Operands.TheVariants.{Labels}
use Rattle.orca_meaning.specs.Formula.{MeansAt}
use Rattle.orca_meaning.specs.Token.{Found, digits_at, name_at}
use Rattle.asm_meaning.specs.declared.faults.AsmCause.TheVariants.{BadOperand, BadNumber}
use Rattle.asm_meaning.specs.Answer.{Answer, pair_or_earlier_fault, all_of}
use Rattle.asm_meaning.specs.Constant.{Constants, Amount, Known, Written, amount}
use Rattle.asm_meaning.specs.Formulas.{AreFormulas, checked_formula, number_of, expression_text}
use Rattle.asm_meaning.specs.Pieces.{Piece, Bytes, Whole, copies}

-- ---- elements

-- the repeat count of an element: 1, or what decimal digits or a formula in parentheses say
pub data Repeat : Type 0 where
  Once : Repeat
  Digits : (n : ℕ) → Repeat
  Computed : (tree : Tree) → Repeat

-- the value of an element: numbers of a given number of bytes, constant bytes, a text, names that are asked for, or names that may be missing
pub data ElementValue : Type 0 where
  Numbers : (width : ℕ) (trees : List Tree) → ElementValue
  Fixed : (bytes : List ℕ) → ElementValue
  Text : (bytes : List ℕ) → ElementValue
  Asked : (names : List (List ℕ)) → ElementValue
  Weak : (names : List (List ℕ)) → ElementValue

-- an element: its value, and how often it is repeated
pub record Element : Type 0 where
  pub repeat : Repeat
  pub value : ElementValue

-- ---- digits

-- the bytes of digits, a given number of digits to a byte with the first of them highest; missing ones are 0
unfoldable pub bytes_of_group_digits : ℕ → ℕ → ℕ → List ℕ → List ℕ
bytes_of_group_digits base each zero digits = []
bytes_of_group_digits base each (suc n) digits = digits_value base (take each (digits ++ replicate each ascii.digit_0)) ∷ bytes_of_group_digits base each n (drop each digits)

-- the bytes of digits without spaces, a given number of digits to a byte; none where one isn't a digit of this base
abbrev pub packed_digits : ℕ → ℕ → List ℕ → Option (List ℕ)
packed_digits base each [] = None
packed_digits base each (digit ∷ digits) =
    if list_all (λ byte. is_digit byte base) (digit ∷ digits)
    then Some (bytes_of_group_digits base each ((length (digit ∷ digits) + (each - 1)) / each) (digit ∷ digits)) else None

-- the bytes of digits, of which there is one at least, with spaces between them: two hexadecimal ones a byte, or eight binary ones
unfoldable pub bytes_of_digits : ℕ → ℕ → List ℕ → Option (List ℕ)
bytes_of_digits base each text = packed_digits base each (filter (λ byte. not (byte == ascii.space)) text)

-- ---- values

-- the text up to the next `'`, and what follows that
unfoldable pub closed_at : List ℕ → Found (List ℕ)
closed_at text =
    let n = position_or_len (λ byte. byte == ascii.apostrophe) text in
    if nat_lt n (length text) then Some (take n text, drop (n + 1) text) else None

-- what was found, with a byte before it
abbrev pub with_byte : ℕ → Found (List ℕ) → Found (List ℕ)
with_byte byte None = None
with_byte byte (Some (text, rest)) = Some (byte ∷ text, rest)

-- the text of C up to the next `'` that no other one follows, and what follows it; two of them are one quote of the text
unfoldable pub text_at : List ℕ → Found (List ℕ)
text_at [] = None
text_at (byte ∷ []) = if byte == ascii.apostrophe then Some ([], []) else None
text_at (byte ∷ next ∷ following) =
    if byte == ascii.apostrophe then (if next == ascii.apostrophe then with_byte ascii.apostrophe (text_at following) else Some ([], next ∷ following))
    else with_byte byte (text_at (next ∷ following))

-- the names, one at least, that commas separate in a text
abbrev pub AreNames : List ℕ → List (List ℕ) → Type 0
AreNames text [] = ⊥
AreNames text (name ∷ []) = name_at text ≡ Some (name, [])
AreNames text (name ∷ next ∷ names) = (following : List ℕ) × (name_at text ≡ Some (name, ascii.comma ∷ following)) × AreNames following (next ∷ names)

-- the types of elements: I and A with the bytes of each number, H, B, C, R, S
pub data ElementType : Type 0 where
  Number : (width : ℕ) → ElementType
  Hexadecimal : ElementType
  Binary : ElementType
  Characters : ElementType
  References : ElementType
  WeakReferences : ElementType

-- the number of bytes that is given after I and A, which is 2 where none is given
abbrev pub width_at : List ℕ → ElementType × List ℕ
width_at [] = (Number 2, [])
width_at (digit ∷ following) = if nat_le ascii.digit_1 digit && nat_le digit ascii.digit_4 then (Number (digit - ascii.digit_0), following) else (Number 2, digit ∷ following)

-- the type at the start, in upper or lower case
unfoldable pub kind_at : List ℕ → Found ElementType
kind_at [] = None
kind_at (letter ∷ following) =
    let capital = to_ascii_uppercase letter in
    if capital == ascii.capital_i || capital == ascii.capital_a then Some (width_at following)
    else if capital == ascii.capital_h then Some (Hexadecimal, following)
    else if capital == ascii.capital_b then Some (Binary, following)
    else if capital == ascii.capital_c then Some (Characters, following)
    else if capital == ascii.capital_r then Some (References, following)
    else if capital == ascii.capital_s then Some (WeakReferences, following)
    else None

-- the value of a type is at the start, after its opening quote and with its closing one
abbrev pub IsValueAt : ElementType → List ℕ → ElementValue → List ℕ → Type 0
IsValueAt (Number width) text value rest =
    (inner : List ℕ) × (trees : List Tree) × (closed_at text ≡ Some (inner, rest)) × AreFormulas inner trees × (value ≡ Numbers width trees)
IsValueAt Hexadecimal text value rest =
    (inner bytes : List ℕ) × (closed_at text ≡ Some (inner, rest)) × (bytes_of_digits 16 2 inner ≡ Some bytes) × (value ≡ Fixed bytes)
IsValueAt Binary text value rest =
    (inner bytes : List ℕ) × (closed_at text ≡ Some (inner, rest)) × (bytes_of_digits 2 8 inner ≡ Some bytes) × (value ≡ Fixed bytes)
IsValueAt Characters text value rest = (bytes : List ℕ) × (text_at text ≡ Some (bytes, rest)) × (value ≡ Text bytes)
IsValueAt References text value rest =
    (inner : List ℕ) × (names : List (List ℕ)) × (closed_at text ≡ Some (inner, rest)) × AreNames inner names × (value ≡ Asked names)
IsValueAt WeakReferences text value rest =
    (inner : List ℕ) × (names : List (List ℕ)) × (closed_at text ≡ Some (inner, rest)) × AreNames inner names × (value ≡ Weak names)

-- what follows a parenthesis that opens at the start
abbrev pub after_parenthesis : List ℕ → Option (List ℕ)
after_parenthesis [] = None
after_parenthesis (byte ∷ following) = if byte == ascii.opening_round then Some following else None

-- the repeat count of an element, at the start: a formula in parentheses, decimal digits, or nothing
abbrev pub IsRepeatAt : List ℕ → Repeat → List ℕ → Type 0
IsRepeatAt text repeat rest = elim (after_parenthesis text) [
  | Some following ↦ (tree : Tree) × MeansAt Labels following tree (ascii.closing_round ∷ rest) × (repeat ≡ Computed tree)
  | None ↦ elim (digits_at 10 text) [ Some found ↦ (repeat ≡ Digits found.0) × (rest ≡ found.1) | None ↦ (repeat ≡ Once) × (rest ≡ text) ]
]

-- an element is at the start: its repeat count, its type, and its value in quotes
pub record IsElementAt (text : List ℕ) (element : Element) (rest : List ℕ) : Type 0 where
  pub after_repeat : List ℕ
  pub kind : ElementType
  pub after_quote : List ℕ
  pub repeat : IsRepeatAt text element.repeat after_repeat
  pub of_kind : kind_at after_repeat ≡ Some (kind, ascii.apostrophe ∷ after_quote)
  pub value : IsValueAt kind after_quote element.value rest

-- the elements, one at least, that commas separate in an operand
abbrev pub AreElements : List ℕ → List Element → Type 0
AreElements text [] = ⊥
AreElements text (element ∷ []) = IsElementAt text element []
AreElements text (element ∷ next ∷ elements) =
    (following : List ℕ) × IsElementAt text element (ascii.comma ∷ following) × AreElements following (next ∷ elements)

-- ---- what they give

-- a count is 1 to 65,535
abbrev pub in_range : ℕ → Answer ℕ
in_range n = if nat_le 1 n && nat_le n 65535 then Ok n else Err BadOperand

-- the count that a repeat is
abbrev pub count_of : Constants → Repeat → Answer ℕ
count_of constants Once = Ok 1
count_of constants (Digits n) = if nat_le (2 ^ 32) n then Err BadNumber else in_range n
count_of constants (Computed tree) = number_of constants tree >>= in_range

-- a number of a given number of bytes: a constant is cut to them, and EXPR ($EB) represents any other
abbrev pub number_piece : ℕ → Amount → Piece
number_piece width (Known n) = Bytes (little_bytes width n)
number_piece width (Written tree) = Whole (Formula EXPR width 0 (expression_text tree))

-- what a formula gives as a number of this many bytes
abbrev pub piece_of_number : Constants → ℕ → Tree → Answer Piece
piece_of_number constants width tree = checked_formula tree >>= λ t. amount constants t >>= λ a. Ok (number_piece width a)

-- what a value gives: a text has its high bits set where MSB is on, R gives STRONG, and S an EXPR of two bytes with the weak name ($82)
abbrev pub value_pieces : Constants → Bool → ElementValue → Answer (List Piece)
value_pieces constants msb (Numbers width trees) = all_of (piece_of_number constants width) trees
value_pieces constants msb (Fixed bytes) = Ok (Bytes bytes ∷ [])
value_pieces constants msb (Text bytes) = Ok (Bytes (map (λ byte. if msb then bit_or byte 0x80 else byte) bytes) ∷ [])
value_pieces constants msb (Asked names) = Ok (map (λ name. Whole (Strong name)) names)
value_pieces constants msb (Weak names) = Ok (map (λ name. Whole (Formula EXPR 2 0 (expression_text (Leaf (Named 0x82 name))))) names)

-- what an element gives: its value, repeated by its count
unfoldable pub element_pieces : Constants → Bool → Element → Answer (List Piece)
element_pieces constants msb element =
    pair_or_earlier_fault (count_of constants element.repeat) (value_pieces constants msb element.value) >>= λ found. Ok (copies found.0 found.1)

-- the elements that an operand is, if it is a list of them
abbrev pub IsList : List ℕ → Option (List Element) → Type 0
IsList text None = (elements : List Element) → AreElements text elements → ⊥
IsList text (Some elements) = AreElements text elements

-- what a list of elements gives, one after another
abbrev pub list_pieces : Constants → Bool → Option (List Element) → Answer (List Piece)
list_pieces constants msb None = Err BadOperand
list_pieces constants msb (Some elements) = all_of (element_pieces constants msb) elements >>= λ found. Ok (flat_map (λ pieces. pieces) found)
