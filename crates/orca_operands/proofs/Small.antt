-- The values of known constants have 32 bits.
use Rattle.std.proofs.Common.{◌≡◌, ℕ, ◌^◌, ◌<◌, List, Option, Some, None}
use Rattle.std.specs.Prelude.{option_copied}
use Rattle.std.specs.Option.{option_or}
use Rattle.asm_meaning.specs.Constant.{AreSmall}
use Rattle.asm_meaning.specs.Statement.{value_in}
use Rattle.orca_operands.specs.declared.names.DefinedNames.{DefinedNames}
use Rattle.orca_operands.specs.declared.names.OutsideConstants.{OutsideConstants}
use Rattle.orca_operands.specs.declared.names.KnownConstants.{KnownConstants}
use Rattle.orca_operands.specs.NamesView.{names_of, outside_of, value_in_names, constants}

abbrev number : ℕ → Option ℕ
number n = Some n

by_value : (found : Option (Option ℕ)) (other : Option ℕ) (n : ℕ) → ((m : ℕ) → found ≡ Some (Some m) → m < 2 ^ 32) → ((m : ℕ) → other ≡ Some m → m < 2 ^ 32) → option_or (value_in found) other ≡ Some n → n < 2 ^ 32
by_value None other n small fits e = fits n e
by_value (Some None) other n small fits e = fits n e
by_value (Some (Some m)) other n small fits e = small n (same m n e)
  where
    same : (x y : ℕ) → number x ≡ number y → Some (number x) ≡ Some (Some y)
    same x y e = cc

by_names : (names : Option DefinedNames) (outside : OutsideConstants) (name : List ℕ) (n : ℕ) → option_or (value_in_names names name) (outside_of outside name) ≡ Some n → n < 2 ^ 32
by_names None outside name n e = outside.small name n e
by_names (Some names) outside name n e = by_value (names_of names name) (outside_of outside name) n (names.small name) (outside.small name) e

pub known_small : (known : KnownConstants) → AreSmall (constants known)
known_small known name n e = by_names (option_copied known.names) known.outside.now name n e
