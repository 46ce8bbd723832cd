-- What an instruction with one formula gives, where the modes that it is offered are known with the first of them.
use Rattle.std.specs.Prelude.{◌<◌, ◌≤◌, List, [], ◌∷◌, find, Ok}
use Rattle.std.specs.List.{AllByRecursion}
use Rattle.omf_format.specs.Expression.{Tree, IsTree, depth}
use Rattle.omf_format.specs.Field.{◌>>=◌}
use Rattle.orca_meaning.specs.declared.forms.Prefix.{Prefix}
use Rattle.orca_meaning.specs.declared.mnemonics.Mnemonic.{Mnemonic}
use Rattle.orca_meaning.specs.declared.modes.Mode.{Mode}
use Rattle.asm_meaning.specs.Answer.{Answer}
use Rattle.asm_meaning.specs.Constant.{Constants, Amount, Known, Written, amount}
use Rattle.asm_meaning.specs.Instruction.{Widths, operand_bytes, mode_of_number, or_first, with_known, with_tree, bank, without_amount, block_move_pieces}
use Rattle.asm_meaning.specs.Pieces.{Piece}
use Rattle.orca_operands.specs.declared.amount.Amount as amount_type
use Rattle.orca_operands.specs.declared.amount.Amount.TheVariants as amounts
use Rattle.orca_operands.specs.ModeView.{two_test}

-- an instruction with one formula, whose mode is chosen among these
abbrev pub chosen_amount : Widths → Mnemonic → Prefix → Mode → List Mode → Amount → Answer (List Piece)
chosen_amount widths mnemonic prefix first modes (Known n) = mode_of_number widths mnemonic prefix n modes >>= λ chosen. Ok (with_known widths mnemonic prefix n chosen)
chosen_amount widths mnemonic prefix first modes (Written tree) =
    let chosen = or_first first (find two_test modes) in Ok (with_tree mnemonic chosen prefix (operand_bytes widths mnemonic chosen) tree)

-- a bank that is a byte, or isn't known
abbrev pub IsByteAmount : amount_type.Amount → Type 0
IsByteAmount (amounts.Known n) = n < 256
IsByteAmount (amounts.Written text) = Unit {0}

-- a bank of an amount
abbrev pub bank_of_amount : Answer Amount → Answer Amount
bank_of_amount meant = meant >>= bank

-- what the formulas of an operand give, where these modes are offered, and this one first
abbrev pub by_trees : Constants → Widths → Mnemonic → Prefix → Mode → List Mode → List Tree → Answer (List Piece)
by_trees constants widths mnemonic prefix first modes [] = without_amount widths mnemonic first
by_trees constants widths mnemonic prefix first modes (tree ∷ []) = amount constants tree >>= chosen_amount widths mnemonic prefix first modes
by_trees constants widths mnemonic prefix first modes (source ∷ destination ∷ trees) = block_move_pieces constants mnemonic first source destination

-- the formulas of an operand can be written
abbrev pub AreGoodTrees : List Tree → Type 0
AreGoodTrees trees = AllByRecursion (λ t. IsTree 0 t × (depth t ≤ 64)) trees
