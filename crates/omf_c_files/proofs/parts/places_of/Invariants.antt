use Rattle.std.proofs.Common.{◌≡◌, length, map, take, Some}
use Rattle.omf_c_files.proofs.parts.places_of.Given as goal

-- the addresses so far
abbrev pub invariant-loop-k : goal.invariant-loop-k
invariant-loop-k l = (length l.places ≡ length l.addresses) × (take l.k l.places ≡ map (λ a. Some a) (take l.k l.addresses))
