use Rattle.std.proofs.Common.{◌≡◌, drop}
use Rattle.std.specs.Prelude.{filter, find}
use Rattle.orca_operands.specs.ModeView.{widths, offered_test, number_test}
use Rattle.orca_operands.proofs.mode.first_holding.Given as goal

abbrev pub invariant-modes : goal.invariant-modes
invariant-modes l = find (number_test (widths l.of) l.mnemonic l.prefix l.n) (filter (offered_test l.mnemonic l.prefix) (drop l.mode-index l.modes)) ≡ find (number_test (widths l.of) l.mnemonic l.prefix l.n) (filter (offered_test l.mnemonic l.prefix) l.modes)
