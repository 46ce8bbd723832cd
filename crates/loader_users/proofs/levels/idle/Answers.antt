use Rattle.std.proofs.Common.{false, refl}
use Rattle.loader_users.proofs.Turning.{changes_twice}
use Rattle.loader_users.proofs.levels.idle.Goals as goal

pub returns : goal.returns
returns c = changes_twice c.args.h (λ block. record block { locked = false }) (λ block. record block { level = 3 }) c.args.banks.now c.unlock.new.self c.set_level.new.banks c.in-Ok.ensures.changed c.set_level.ensures (λ x. refl)
