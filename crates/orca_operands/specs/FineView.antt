-- Amounts whose expressions can be written.
use Rattle.std.specs.Prelude.{◌≡◌, ◌≤◌}
use Rattle.omf_format.specs.Expression.{Tree, IsTree, depth, terms_of, terms_text}
use Rattle.orca_operands.specs.declared.amount.Amount.{Amount}
use Rattle.orca_operands.specs.declared.amount.Amount.TheVariants as amounts

-- the bytes of an amount that is written are the terms of an expression with at most 64 pending values
abbrev pub IsFineAmount : Amount → Type 0
IsFineAmount (amounts.Known n) = Unit {0}
IsFineAmount (amounts.Written text) = (tree : Tree) × IsTree 0 tree × (depth tree ≤ 64) × (text.items ≡ terms_text 0 (terms_of tree))
