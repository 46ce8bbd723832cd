-- What the laws of expressions say.
use Rattle.std.specs.Prelude.{◌≡◌, ℕ, List, ◌++◌, Some, Ok, Err}
use Rattle.omf_format.specs.declared.expression.ExprFault.{ExprFault}
use Rattle.omf_format.specs.Number.{IsBytes}
use Rattle.omf_format.specs.Expression.{Term, IsTerm, term_text, term_field, Tree, Spells, IsExpression, IsFirstFault, BeginsWith, flaw_of, expression_field}

-- bytes that spell an expression spell one tree
abbrev pub SpellsOneTree : Type 0
SpellsOneTree = (lab_len : ℕ) (text : List ℕ) (t u : Tree) → Spells lab_len text t → Spells lab_len text u → t ≡ u

-- no expression begins another: where bytes begin with one it is the only one, and the same bytes are after it
abbrev pub NoneBeginsAnother : Type 0
NoneBeginsAnother =
    (lab_len : ℕ) (a b x y : List ℕ) → IsExpression lab_len a → IsExpression lab_len b → a ++ x ≡ b ++ y → (a ≡ b) × (x ≡ y)

-- what is read is a term, and its bytes were at the start
abbrev pub ReadIsTerm : Type 0
ReadIsTerm =
    (lab_len : ℕ) (bytes rest : List ℕ) (term : Term) → IsBytes bytes → term_field lab_len bytes ≡ Ok (Some term, rest)
    → IsTerm lab_len term × (bytes ≡ term_text lab_len term ++ rest)

-- a term is read, whatever follows its bytes
abbrev pub TermIsRead : Type 0
TermIsRead = (lab_len : ℕ) (term : Term) (rest : List ℕ) → IsTerm lab_len term → term_field lab_len (term_text lab_len term ++ rest) ≡ Ok (Some term, rest)

-- bytes have one first fault at most
abbrev pub HasOneFault : Type 0
HasOneFault = (lab_len : ℕ) (bytes : List ℕ) (f g : ExprFault) → IsFirstFault lab_len bytes f → IsFirstFault lab_len bytes g → f ≡ g

-- bytes that begin with an expression have none
abbrev pub HasNoFault : Type 0
HasNoFault = (lab_len : ℕ) (bytes text : List ℕ) (f : ExprFault) → BeginsWith lab_len bytes text → IsFirstFault lab_len bytes f → ⊥

-- what is read as a field is an expression, and it was at the start
abbrev pub FieldIsExpression : Type 0
FieldIsExpression =
    (lab_len : ℕ) (bytes text rest : List ℕ) → IsBytes bytes → expression_field lab_len bytes ≡ Ok (text, rest)
    → IsExpression lab_len text × (bytes ≡ text ++ rest)

-- an expression is read as a field, whatever follows it
abbrev pub ExpressionIsRead : Type 0
ExpressionIsRead = (lab_len : ℕ) (text rest : List ℕ) → IsExpression lab_len text → expression_field lab_len (text ++ rest) ≡ Ok (text, rest)

-- where there is no expression, the first fault says what is wrong with the field
abbrev pub FaultDecides : Type 0
FaultDecides = (lab_len : ℕ) (bytes : List ℕ) (f : ExprFault) → IsFirstFault lab_len bytes f → expression_field lab_len bytes ≡ Err (flaw_of f)
