use Rattle.std.proofs.Common.{◌≡◌, ◌<◌, ℕ, vec_len, slice_index}
use Rattle.iigs_places.specs.Offsets.{bytes_below}
use Rattle.iigs_places.proofs.bank_map.starts_of.Given as goal

-- the sums so far
abbrev pub invariant-loop-bank : goal.invariant-loop-bank
invariant-loop-bank l = (vec_len l.starts ≡ l.bank) × (l.start ≡ bytes_below l.banks l.bank)
    × ((k : ℕ) → k < l.bank → slice_index l.starts.items k ≡ bytes_below l.banks k)
