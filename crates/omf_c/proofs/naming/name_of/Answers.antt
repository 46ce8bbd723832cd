use Rattle.std.proofs.Common.{inl, inr, refl}
use Rattle.omf_c.proofs.Faults.{no_name}
use Rattle.omf_c.proofs.naming.name_of.Goals as goal

pub returns-then-number-eq0 : goal.returns-then-number-eq0
returns-then-number-eq0 c = elim c.then-number-eq0.either [
  | inl none ↦ rw (none) refl
  | inr more ↦ rw (no_name c.args.number more.1) refl
]
