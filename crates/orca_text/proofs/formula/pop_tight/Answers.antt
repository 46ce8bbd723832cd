use Rattle.std.proofs.Common.{refl}
use Rattle.orca_text.proofs.Steps.{bracket_tight}
use Rattle.orca_text.proofs.formula.pop_tight.Goals as goal

pub returns-in-Bracket : goal.returns-in-Bracket
returns-in-Bracket c =
    let e = rw c.in-Bracket.is at c.in-Some.ensures in
    (refl, λ out. bracket_tight c.args.tight out c.args.waiting.now e.0 e.1)
