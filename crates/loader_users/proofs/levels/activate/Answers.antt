use Rattle.std.proofs.Common.{true, refl}
use Rattle.loader_users.proofs.Turning.{changes_twice}
use Rattle.loader_users.proofs.levels.activate.Goals as goal

pub returns : goal.returns
returns c = changes_twice c.args.h (λ block. record block { locked = true }) (λ block. record block { level = 0 }) c.args.banks.now c.lock.new.self c.set_level.new.banks c.in-Ok.ensures.changed c.set_level.ensures (λ x. refl)
