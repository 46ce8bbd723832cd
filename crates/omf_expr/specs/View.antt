-- How terms and what a reader takes are seen.
use Rattle.std.specs.Prelude.{◌≡◌, ◌≤◌, ◌++◌, [], ◌∷◌, List, ℕ, length, drop, Option, Some, None, Result, Ok, Err}
use Rattle.omf_format.specs.declared.fault.Flaw.{Flaw}
use Rattle.omf_format.specs.declared.expression.ExprFault.{ExprFault}
use Rattle.omf_format.specs.Expression.{Term, Expression, AreTerms, terms_text, flaw_of}
use Rattle.omf_format.specs.Expression as format
use Rattle.omf_expr.specs.declared.term.Term as declared
use Rattle.omf_expr.specs.declared.term.Term.TheVariants as term

-- a term without where its name lies
abbrev pub view : declared.Term → Term
view (term.Operator code) = format.Operator code
view term.Location = format.Location
view (term.Constant n) = format.Constant n
view (term.Named code name) = format.Named code name.now
view (term.Offset n) = format.Offset n

-- a term, or the end
abbrev pub view_next : Option declared.Term → Option Term
view_next None = None
view_next (Some term) = Some (view term)

-- what `Expr::of` answered, as a record takes it: the expression's bytes and the bytes after it, or what is wrong
abbrev pub as_field : List ℕ → Result Expression ExprFault → Result (List ℕ × List ℕ) Flaw
as_field bytes (Ok e) = Ok (e.text, drop (length e.text) bytes)
as_field bytes (Err fault) = Err (flaw_of fault)

-- a term with its displacement
abbrev pub view_placed : ℕ × declared.Term → ℕ × Term
view_placed placed = (placed.0, view placed.1)

-- what is left of an expression's bytes: terms, and the end
pub record AreLeft (lab_len : ℕ) (text left : List ℕ) : Type 0 where
  pub terms : List Term
  pub formed : AreTerms lab_len terms
  pub parts : left ≡ terms_text lab_len terms ++ 0x00 ∷ []
  pub within : length left ≤ length text
