-- What holds of the opcode matrix.
use Rattle.std.specs.Prelude.{◌≡◌, ◌≢◌, ℕ, ◌↔◌, Some, slice_get, AllPairs}
use Rattle.orca_meaning.specs.declared.mnemonics.Mnemonic.{Mnemonic}
use Rattle.orca_meaning.specs.declared.modes.Mode.{Mode}
use Rattle.orca_meaning.specs.Matrix.{matrix, opcode_of}

-- no instruction is in the matrix twice
abbrev pub NoneTwice : Type 0
NoneTwice = AllPairs (λ earlier later. earlier ≢ later) matrix

-- a number is the opcode of a mnemonic in a mode exactly where that instruction is at that place in the matrix
abbrev pub OpcodeIsPlace : Type 0
OpcodeIsPlace = (mnemonic : Mnemonic) (mode : Mode) (opcode : ℕ) →
    (opcode_of mnemonic mode ≡ Some opcode) ↔ (slice_get matrix opcode ≡ Some (mnemonic, mode))
