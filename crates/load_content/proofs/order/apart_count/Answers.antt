use Rattle.std.proofs.Common.{arith, inl, inr}
use Rattle.std.proofs.lemmas.Bool.{cases_lt}
use Rattle.load_content.proofs.RunLists.{front_rises}
use Rattle.load_content.proofs.order.apart_count.Goals as goal

pub returns-then-from-end-clause-some : goal.returns-then-from-end-clause-some
returns-then-from-end-clause-some c = λ some. elim (cases_lt 0 c.spots.spot-index) [
  | inl more ↦ omega (arith, more, c.spots.invariant.count)
  | inr none ↦ absurd (omega (arith, c.spots.invariant.start (omega (arith, none)), c.if-from-end.true))
]

pub returns-then-from-end-clause-rise : goal.returns-then-from-end-clause-rise
returns-then-from-end-clause-rise c =
    front_rises c.args.spots.now c.spots.count (λ i j s t lt inside. c.spots.invariant.apart i j s t lt (omega (arith, inside, c.spots.invariant.count)))

pub returns-clause-rise : goal.returns-clause-rise
returns-clause-rise c =
    front_rises c.args.spots.now c.spots.count (λ i j s t lt inside. c.spots.invariant.apart i j s t lt (omega (arith, inside, c.spots.invariant.count)))
