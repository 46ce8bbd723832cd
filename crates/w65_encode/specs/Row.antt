-- The opcodes of a mnemonic. No public clause cites this module.
use Rattle.std.specs.Prelude.{ℕ, suc, Bool, true, false, not, ◌==◌, ◌&&◌, ◌||◌, List, [], ◌∷◌, get_or, Option, Some, None}
use denote.Enum.Bare.{sameb}
use denote.Enum.Declared.{tag_of}
use Rattle.orca_meaning.specs.contracts.mnemonics.Mnemonic as mnemonic_type
use Rattle.orca_meaning.specs.contracts.modes.Mode as mode_type
use Rattle.orca_meaning.specs.declared.mnemonics.Mnemonic.{Mnemonic}
use Rattle.orca_meaning.specs.declared.modes.Mode.{Mode}
use Rattle.orca_meaning.specs.Matrix.{Instruction}

-- whether an opcode was answered
unfoldable pub is_answer : Option ℕ → ℕ → Bool
is_answer None opcode = false
is_answer (Some answer) opcode = answer == opcode

-- what a row has for a mode: its first opcode where it ends before
abbrev pub in_row : List ℕ → Mode → ℕ
in_row row mode = get_or row (tag_of mode_type.the_type mode) (get_or row 0 0)

-- whether each opcode of a mnemonic, from the instruction with the opcode k on, is what the row has for its mode
unfoldable pub are_in : Mnemonic → List ℕ → ℕ → List Instruction → Bool
are_in mnemonic row k [] = true
are_in mnemonic row k ((m, n) ∷ rest) = (not (sameb mnemonic_type.the_type m mnemonic) || in_row row n == k) && are_in mnemonic row (suc k) rest
