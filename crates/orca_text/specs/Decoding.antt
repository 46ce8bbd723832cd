-- How operations are decoded.
use Rattle.std.specs.Prelude.{◌≡◌, ℕ, List}
use Rattle.orca_meaning.specs.Operation.{mnemonic_of, operation_use}
use Rattle.orca_text.specs.declared.operation.DecodedOperation.{DecodedOperation}

-- the mnemonic that an operation is, and what it does with its operand
abbrev pub IsDecoded : List ℕ → DecodedOperation → Type 0
IsDecoded operation decoded = (decoded.mnemonic ≡ mnemonic_of operation) × (decoded.operand_use ≡ operation_use operation)
