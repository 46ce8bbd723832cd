-- Each item of a list of zeros is 0.
use Rattle.std.proofs.Common.{◌≡◌, ℕ, zero, suc, replicate, slice_index, refl}

pub all_zeros : (n i : ℕ) → slice_index (replicate n 0) i ≡ 0
all_zeros zero i = refl
all_zeros (suc n) zero = refl
all_zeros (suc n) (suc i) = all_zeros n i
