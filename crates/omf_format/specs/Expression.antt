-- Expressions in postfix form (GS/OS Reference, appendix F, "Expressions").
use Rattle.std.specs.Prelude.{◌≡◌, ℕ, zero, suc, ◌+◌, ◌-◌, ◌^◌, ◌<◌, ◌≤◌, max, Bool, ◌||◌, ◌&&◌, List, [], ◌∷◌, ◌++◌, length, take, Option, Some, None, Result, Ok, Err, nat_lt, nat_le, ◌==◌, if◌then◌else◌, IsTrue}
use Rattle.byteorder.specs.Endian.{little_bytes}
use Rattle.omf_format.specs.declared.fault.Flaw.{Flaw}
use Rattle.omf_format.specs.declared.fault.Flaw.TheVariants.{Cut, Unread, Broken}
use Rattle.omf_format.specs.declared.expression.ExprFault.{ExprFault}
use Rattle.omf_format.specs.declared.expression.ExprFault.TheVariants.{Truncated, BadTerm, Shape, TooDeep}
use Rattle.omf_format.specs.Field.{◌>>=◌, number_field, name_field, name_text, IsName}

-- ---- terms

-- a term: an operator, the location counter ($80), a constant ($81), a name or what is asked of it ($82 to $86),
-- or an offset from the segment's start ($87)
pub data Term : Type 0 where
  Operator : (code : ℕ) → Term
  Location : Term
  Constant : (n : ℕ) → Term
  Named : (code : ℕ) (name : List ℕ) → Term
  Offset : (n : ℕ) → Term

-- the operators are $01 to $15
abbrev pub is_operator : ℕ → Bool
is_operator code = nat_le 0x01 code && nat_le code 0x15

-- negate ($06), logical NOT ($0B) and bit NOT ($15) have one operand, the others two
abbrev pub operand_count : ℕ → ℕ
operand_count code = if code == 0x06 || code == 0x0B || code == 0x15 then 1 else 2

-- $82 is a weak name, $83 a name, $84 its length, $85 its type and $86 its count
abbrev pub is_named : ℕ → Bool
is_named code = nat_le 0x82 code && nat_le code 0x86

-- which terms there are under a LABLEN
abbrev pub IsTerm : ℕ → Term → Type 0
IsTerm lab_len (Operator code) = IsTrue (is_operator code)
IsTerm lab_len Location = Unit {0}
IsTerm lab_len (Constant n) = n < 2 ^ 32
IsTerm lab_len (Named code name) = IsTrue (is_named code) × IsName lab_len name
IsTerm lab_len (Offset n) = n < 2 ^ 32

-- the bytes of a term: its code, then its number or name
unfoldable pub term_text : ℕ → Term → List ℕ
term_text lab_len (Operator code) = code ∷ []
term_text lab_len Location = 0x80 ∷ []
term_text lab_len (Constant n) = 0x81 ∷ little_bytes 4 n
term_text lab_len (Named code name) = code ∷ name_text lab_len name
term_text lab_len (Offset n) = 0x87 ∷ little_bytes 4 n

-- the same for terms one after another
abbrev pub AreTerms : ℕ → List Term → Type 0
AreTerms lab_len [] = Unit {0}
AreTerms lab_len (term ∷ terms) = IsTerm lab_len term × AreTerms lab_len terms

abbrev pub terms_text : ℕ → List Term → List ℕ
terms_text lab_len [] = []
terms_text lab_len (term ∷ terms) = term_text lab_len term ++ terms_text lab_len terms

-- ---- trees

-- an expression: an operand, or an operator over its operands
pub data Tree : Type 0 where
  Leaf : (term : Term) → Tree
  Unary : (code : ℕ) (operand : Tree) → Tree
  Binary : (code : ℕ) (left right : Tree) → Tree

-- an operand is a term that isn't an operator
abbrev pub IsOperand : ℕ → Term → Type 0
IsOperand lab_len (Operator code) = ⊥
IsOperand lab_len Location = IsTerm lab_len Location
IsOperand lab_len (Constant n) = IsTerm lab_len (Constant n)
IsOperand lab_len (Named code name) = IsTerm lab_len (Named code name)
IsOperand lab_len (Offset n) = IsTerm lab_len (Offset n)

-- which trees there are under a LABLEN
abbrev pub IsTree : ℕ → Tree → Type 0
IsTree lab_len (Leaf term) = IsOperand lab_len term
IsTree lab_len (Unary code operand) = IsTerm lab_len (Operator code) × (operand_count code ≡ 1) × IsTree lab_len operand
IsTree lab_len (Binary code left right) = IsTerm lab_len (Operator code) × (operand_count code ≡ 2) × IsTree lab_len left × IsTree lab_len right

-- postfix: the terms of the left operand, those of the right one, then the operator
abbrev pub terms_of : Tree → List Term
terms_of (Leaf term) = term ∷ []
terms_of (Unary code operand) = terms_of operand ++ Operator code ∷ []
terms_of (Binary code left right) = terms_of left ++ (terms_of right ++ Operator code ∷ [])

-- the most values that are pending at once while it is evaluated: the left operand's value waits for the right one
abbrev pub depth : Tree → ℕ
depth (Leaf term) = 1
depth (Unary code operand) = depth operand
depth (Binary code left right) = max (depth left) (depth right + 1)

-- the bytes are the tree's terms in postfix order, and then $00
pub record Spells (lab_len : ℕ) (text : List ℕ) (tree : Tree) : Type 0 where
  pub formed : IsTree lab_len tree
  pub shallow : depth tree ≤ 64
  pub spelled : text ≡ terms_text lab_len (terms_of tree) ++ 0x00 ∷ []

-- the bytes spell an expression
pub record IsExpression (lab_len : ℕ) (text : List ℕ) : Type 0 where
  pub tree : Tree
  pub spells : Spells lab_len text tree

-- an expression's bytes, with the LABLEN of its names
pub record Expression : Type 0 where
  pub text : List ℕ
  pub lab_len : ℕ

-- ---- reading terms

-- what follows each code: a term or, at $00, the end; and the bytes after it
unfoldable pub term_field : ℕ → List ℕ → Result (Option Term × List ℕ) Flaw
term_field lab_len [] = Err Cut
term_field lab_len (code ∷ rest) =
    if code == 0x00 then Ok (None, rest)
    else if is_operator code then Ok (Some (Operator code), rest)
    else if code == 0x80 then Ok (Some Location, rest)
    else if code == 0x81 then number_field 4 rest >>= (λ n. Ok (Some (Constant n.0), n.1))
    else if is_named code then name_field lab_len rest >>= (λ name. Ok (Some (Named code name.0), name.1))
    else if code == 0x87 then number_field 4 rest >>= (λ n. Ok (Some (Offset n.0), n.1))
    else Err Broken

-- terms with their displacements, of which the first has this one
abbrev pub placed_terms : ℕ → ℕ → List Term → List (ℕ × Term)
placed_terms lab_len at [] = []
placed_terms lab_len at (term ∷ terms) = (at, term) ∷ placed_terms lab_len (at + length (term_text lab_len term)) terms

-- the terms at the start, n at most, with their displacements, of which the first has this one
unfoldable pub first_terms : ℕ → ℕ → ℕ → List ℕ → List (ℕ × Term)
first_terms zero lab_len at bytes = []
first_terms (suc n) lab_len at bytes =
    elim (term_field lab_len bytes) [
      | Err flaw ↦ []
      | Ok (None, rest) ↦ []
      | Ok (Some term, rest) ↦ (at, term) ∷ first_terms n lab_len (at + (length bytes - length rest)) rest
    ]

-- all terms up to the end: no more than there are bytes, since each term has one at least
unfoldable pub terms_in : ℕ → ℕ → List ℕ → List (ℕ × Term)
terms_in lab_len at bytes = first_terms (length bytes) lab_len at bytes

-- ---- the first faulty term

-- how many pending values a term takes; it leaves one
abbrev pub operands_of : Term → ℕ
operands_of (Operator code) = operand_count code
operands_of _ = 0

-- how many values are pending after a term where `pending` are pending before it
abbrev pub pending_after : ℕ → Term → ℕ
pending_after pending term = pending - operands_of term + 1

-- each of these terms, one after another, finds its operands, and no 65th value is ever pending: the first finds `pending` values pending,
-- and the last leaves `last`
abbrev pub Lead : ℕ → List Term → ℕ → Type 0
Lead pending [] last = pending ≡ last
Lead pending (term ∷ terms) last =
    (operands_of term ≤ pending) × (pending_after pending term ≤ 64) × Lead (pending_after pending term) terms last

-- a term, or the end, where `pending` values are pending: how many are pending after it, or what is wrong with it first
abbrev pub pending_after_term : ℕ → ℕ → Option Term → Result (Option ℕ) ExprFault
pending_after_term at pending None = if pending == 1 then Ok None else Err (Shape at)
pending_after_term at pending (Some term) =
    if nat_lt pending (operands_of term) then Err (Shape at)
    else if nat_lt 64 (pending_after pending term) then Err (TooDeep at)
    else Ok (Some (pending_after pending term))

-- how many values are pending after what is read at the start of the bytes, or what is wrong with it first; and the bytes after it
unfoldable pub term_step : ℕ → ℕ → ℕ → List ℕ → Result (Option ℕ × List ℕ) ExprFault
term_step lab_len at pending bytes = elim (term_field lab_len bytes) [
  | Err Cut ↦ Err (Truncated at)
  | Err Unread ↦ Err (BadTerm at)
  | Err Broken ↦ Err (BadTerm at)
  | Ok found ↦ pending_after_term at pending found.0 >>= λ following. Ok (following, found.1)
]

-- terms with which nothing is wrong are at the start, and the fault is that of what follows them
pub record IsFirstFault (lab_len : ℕ) (bytes : List ℕ) (fault : ExprFault) : Type 0 where
  pub terms : List Term
  pub rest : List ℕ
  pub pending : ℕ
  pub before : bytes ≡ terms_text lab_len terms ++ rest
  pub formed : AreTerms lab_len terms
  pub leads : Lead 0 terms pending
  pub wrong : term_step lab_len (length (terms_text lab_len terms)) pending rest ≡ Err fault

-- the bytes begin with these bytes, which spell an expression
pub record BeginsWith (lab_len : ℕ) (bytes text : List ℕ) : Type 0 where
  pub expression : IsExpression lab_len text
  pub rest : List ℕ
  pub parts : bytes ≡ text ++ rest

-- ---- an expression as a field of a record

-- reading term after term, at most n of them, where `pending` values are pending: the bytes after the end, or the first fault
unfoldable pub read_from : ℕ → ℕ → ℕ → ℕ → List ℕ → Result (List ℕ) ExprFault
read_from zero lab_len at pending bytes = Err (Truncated at)
read_from (suc n) lab_len at pending bytes =
    term_step lab_len at pending bytes >>= λ found. elim found.0 [
      | None ↦ Ok found.1
      | Some following ↦ read_from n lab_len (at + (length bytes - length found.1)) following found.1
    ]

-- in a record the bytes that end too early are a cut, and every other fault is a bad value
abbrev pub flaw_of : ExprFault → Flaw
flaw_of (Truncated at) = Cut
flaw_of (BadTerm at) = Broken
flaw_of (Shape at) = Broken
flaw_of (TooDeep at) = Broken

-- the bytes of the expression at the start, and the bytes after it; a term takes a byte at least, so that many are enough
unfoldable pub expression_field : ℕ → List ℕ → Result (List ℕ × List ℕ) Flaw
expression_field lab_len bytes = elim (read_from (length bytes + 1) lab_len 0 0 bytes) [
  | Ok rest ↦ Ok (take (length bytes - length rest) bytes, rest)
  | Err fault ↦ Err (flaw_of fault)
]
