use Rattle.std.proofs.Common.{◌≡◌, ◌≤◌, ◌*◌}
use Rattle.iigs_places.specs.Sizes.{free_below}
use Rattle.iigs_places.proofs.bank_map.BankMap.free_bytes.Given as goal

-- the free bytes of the banks so far
abbrev pub invariant-loop-bank : goal.invariant-loop-bank
invariant-loop-bank l = (l.total ≡ free_below l.self-inside.numbers.items l.bank) × (l.total ≤ 0x10000 * l.bank)
