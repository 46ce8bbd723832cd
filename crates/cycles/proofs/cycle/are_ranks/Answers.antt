use Rattle.std.proofs.Common.{◌⊎◌, inl, inr, ◌<◌, ◌≤◌, ℕ, [], arith}
use Rattle.std.proofs.lemmas.Bool.{cases_lt}
use Rattle.cycles.specs.Ranks.{Falls}
use Rattle.cycles.proofs.Lists.{at_none}
use Rattle.cycles.proofs.CycleLaws.{none_outside}
use Rattle.cycles.proofs.cycle.are_ranks.Goals as goal

pub returns : goal.returns
returns c = λ from. by_place from (cases_lt from c.vertices.vertex)
  where
    by_place : (from : ℕ) → (from < c.vertices.vertex) ⊎ (c.vertices.vertex ≤ from) → Falls c.args.edges.now c.args.ranks.now from
    by_place from (inl lt) = c.vertices.invariant from lt
    by_place from (inr le) = none_outside c.args.edges.now c.args.ranks.now from (at_none [] c.args.edges.now from (omega (arith, le, c.vertices-test.false, c.count.ensures)))
