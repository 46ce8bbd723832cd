use Rattle.std.proofs.Common.{arith, sym}
use Rattle.iigs_places.proofs.Counts.{free_below-zero}
use Rattle.iigs_places.proofs.bank_map.BankMap.free_bytes.Goals as goal

pub loop-bank-init : goal.loop-bank-init
loop-bank-init c = (sym (free_below-zero c.self.inside.numbers.items), omega arith)
