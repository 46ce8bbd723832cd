-- What is asked of a definition, and operands of an expression by their places.
use Rattle.std.specs.Prelude.{ℕ, List, [], ◌∷◌, Option, Some, None, ◌==◌, if◌then◌else◌}
use Rattle.std.specs.Option.{option_or}
use Rattle.omf_format.specs.Expression.{Term, Operator, Location, Constant, Named, Offset}
use Rattle.link_program.specs.Programs.{SymbolView}

-- its length ($84), type ($85) or count
abbrev pub attribute_in_view : ℕ → SymbolView → ℕ
attribute_in_view code d = if code == 0x84 then d.length else if code == 0x85 then d.form else 1

-- a term that isn't an operator
abbrev pub operand : Term → Option Term
operand (Operator code) = None
operand Location = Some Location
operand (Constant n) = Some (Constant n)
operand (Named code name) = Some (Named code name)
operand (Offset n) = Some (Offset n)

-- the operand at a place among terms with their places
abbrev pub operand_in : ℕ → List (ℕ × Term) → Option Term
operand_in at [] = None
operand_in at (placed ∷ more) = option_or (if placed.0 == at then operand placed.1 else None) (operand_in at more)
