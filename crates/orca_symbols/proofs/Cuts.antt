-- Lines that begin with no sequence symbol.
use Rattle.std.proofs.Common.{◌≡◌, ℕ, zero, suc, ◌-◌, Bool, false, cond, take, eqb, List, [], ◌∷◌, None, refl, ap}
use Rattle.orca_meaning.specs.Line.{three_fields}
use Rattle.orca_meaning.specs.Token.{name_at}
use Rattle.macro_meaning.specs.laws.Steps.{after_dot}
use Rattle.macro_meaning.specs.Substitution.{first_passes}
use Rattle.macro_meaning.specs.Effect.{without_sequence_symbol}

-- a line without a dot at its start has no sequence symbol
no_dot : (n : ℕ) (text : List ℕ) → first_passes (λ (byte : ℕ). eqb byte 0x2E) text ≡ false → after_dot (take n text) ≡ None
no_dot zero [] other = refl
no_dot (suc n) [] other = refl
no_dot zero (byte ∷ following) other = refl
no_dot (suc n) (byte ∷ following) other = ap (λ (b : Bool). cond b (name_at (take n following)) None) other

pub cut_none : (text : List ℕ) → first_passes (λ (byte : ℕ). eqb byte 0x2E) text ≡ false → text ≡ without_sequence_symbol text
unfolding without_sequence_symbol three_fields
cut_none text other = rw (no_dot ((three_fields text).label.to - 0) text other) refl
