-- Numbers that no cause has.
use Rattle.std.proofs.Common.{◌≡◌, ℕ, zero, suc, ◌<◌, None, refl, arith}
use Rattle.std.proofs.lemmas.Option.{slice_get_past}
use Rattle.omf_c_files.specs.Causes.{cause_names, name_of}

pub no_name : (number : ℕ) → 50 < number → name_of number ≡ None
no_name zero more = refl
no_name (suc k) more = slice_get_past cause_names k (omega (arith, more))
