use Rattle.std.proofs.Common.{◌≡◌, length, Some, sym, ap, ◌∙◌, ℕ}
use Rattle.std.specs.Prelude.{slice_get}
use Rattle.std.proofs.lemmas.Bool.{ltb-false}
use Rattle.std.proofs.lemmas.Option.{slice_get-get_or}
use Rattle.cycles.proofs.Lists.{at_some, at_none}
use Rattle.cycles.proofs.cycle.rank_of.Goals as goal

pub returns-in-Some : goal.returns-in-Some
returns-in-Some c =
    let ranks = c.args.ranks.now in
    let n = c.in-Some.rank.now in
    let there : slice_get ranks c.args.vertex ≡ Some n = slice_get-get_or ranks c.args.vertex n c.in-Some.ensures.lookup.3.0 ∙ ap (λ (s : ℕ). Some s) (sym c.in-Some.ensures.lookup.1) in
    sym (at_some 0 ranks c.args.vertex n there)

pub returns-in-None : goal.returns-in-None
returns-in-None c =
    let ranks = c.args.ranks.now in
    sym (at_none 0 ranks c.args.vertex (ltb-false c.args.vertex (length ranks) (sym c.in-None.ensures.lookup.0)))
