use Rattle.std.proofs.Common.{sym, arith}
use Rattle.iigs_places.proofs.Counts.{bytes_below-zero}
use Rattle.iigs_places.proofs.bank_map.starts_of.Goals as goal

pub loop-bank-init : goal.loop-bank-init
loop-bank-init c = (c.in_ok-starts.ensures.len, sym (bytes_below-zero c.args.banks.now), λ k less. absurd (omega arith))
