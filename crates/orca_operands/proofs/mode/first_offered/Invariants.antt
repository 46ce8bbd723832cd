use Rattle.std.proofs.Common.{◌≡◌, true, drop}
use Rattle.std.specs.Prelude.{filter, find}
use Rattle.orca_operands.specs.ModeView.{offered_test}
use Rattle.orca_operands.proofs.mode.first_offered.Given as goal

abbrev pub invariant-modes : goal.invariant-modes
invariant-modes l = find (λ m. true) (filter (offered_test l.mnemonic l.prefix) (drop l.mode-index l.modes)) ≡ find (λ m. true) (filter (offered_test l.mnemonic l.prefix) l.modes)
