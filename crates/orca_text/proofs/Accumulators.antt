-- The accumulator as an operand, of an operation that is decoded.
use Rattle.std.proofs.Common.{◌≡◌, ℕ, Bool, true, false, List, Option, Some, None, refl, sym, subst}
use Rattle.std.specs.Prelude.{◌&&◌, bytes_eq, codes, if◌then◌else◌}
use Rattle.std.specs.List.{list_any}
use Rattle.orca_meaning.specs.declared.forms.OperandUse.{OperandUse}
use Rattle.orca_meaning.specs.declared.forms.OperandUse.TheVariants.{Never, Always}
use Rattle.orca_meaning.specs.declared.mnemonics.Mnemonic.{Mnemonic}
use Rattle.orca_meaning.specs.Characters.{folded}
use Rattle.orca_meaning.specs.Operand.{is_accumulator}
use Rattle.orca_meaning.specs.Operation.{mnemonic_of, operation_use, use_of, without_operand}
use Rattle.orca_meaning.specs.laws.Steps.{means_accumulator}
use Rattle.orca_text.specs.declared.operation.DecodedOperation.{DecodedOperation}
use Rattle.orca_text.specs.Decoding.{IsDecoded}

-- what an operation that is no mnemonic does with its operand
abbrev use_of_other : Bool → OperandUse
use_of_other is_without = if is_without then Never else Always

abbrev use_by : Option Mnemonic → List ℕ → OperandUse
use_by m word = elim m [ Some mnemonic ↦ use_of mnemonic | None ↦ use_of_other (list_any (bytes_eq word) without_operand) ]

-- an operation that is no mnemonic doesn't mean the accumulator
no_accumulator : (is_without is : Bool) → (means_accumulator (use_of_other is_without) && is) ≡ false
no_accumulator true is = refl
no_accumulator false is = refl

by_mnemonic : (m : Option Mnemonic) (word text : List ℕ) → (means_accumulator (use_by m word) && bytes_eq (folded text) (codes "A")) ≡ is_accumulator m text
by_mnemonic (Some m) word text = refl
by_mnemonic None word text = no_accumulator (list_any (bytes_eq word) without_operand) (bytes_eq (folded text) (codes "A"))

pub accumulator_is : (operation text : List ℕ) (decoded : DecodedOperation) → IsDecoded operation decoded → (means_accumulator decoded.operand_use && bytes_eq (folded text) (codes "A")) ≡ is_accumulator decoded.mnemonic text
unfolding operation_use
accumulator_is operation text decoded is =
    subst (λ (u : OperandUse). (means_accumulator u && bytes_eq (folded text) (codes "A")) ≡ is_accumulator decoded.mnemonic text) (sym is.1)
    (subst (λ (m : Option Mnemonic). (means_accumulator (use_by (mnemonic_of operation) (folded operation)) && bytes_eq (folded text) (codes "A")) ≡ is_accumulator m text) (sym is.0)
    (by_mnemonic (mnemonic_of operation) (folded operation) text))
