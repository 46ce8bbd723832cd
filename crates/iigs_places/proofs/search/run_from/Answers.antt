use Rattle.std.proofs.Common.{arith, inl, inr}
use Rattle.std.proofs.lemmas.Bool.{cases_lt}
use Rattle.std.proofs.lemmas.Grind.{common_steps}
use Rattle.iigs_places.proofs.Beside.{none_beside, past_first, past_next}
use Rattle.iigs_places.proofs.search.run_from.Goals.{then-limit-spot+else-end-size, else-limit-spot}
use Rattle.iigs_places.proofs.search.run_from.Goals as goal

pub loop-place-init : goal.loop-place-init
loop-place-init c = (
  grind (arith, common_steps),
  grind (arith, common_steps),
  λ d address from to. grind (arith, common_steps),
  past_first c.args.spots.now c.args.limit _ c.args.first (grind (arith, common_steps)),
)

pub loop-place-preserved : goal.loop-place-preserved
loop-place-preserved c = elim c.if-limit-spot.branch [
  | then-limit-spot+else-end-size w ↦ (
    λ d. rw w.end-is (omega (arith, c.loop-place.invariant.0 d, w.max-end.ensures)),
    rw w.end-is (grind (arith, common_steps)),
    λ d address from to. elim (cases_lt address c.loop-place.end) [
      | inl lt ↦ c.loop-place.invariant.2 d address from lt
      | inr ge ↦ none_beside c.args.spots.now c.args.limit c.args.size address c.loop-place.place d c.loop-place-test.true (grind (arith, common_steps)) (grind (arith, common_steps)) (grind (arith, common_steps))
    ],
    rw w.end-is (past_next c.args.spots.now c.args.limit c.loop-place.end w.max-end.result c.args.first c.loop-place.place (omega (arith, w.max-end.ensures)) c.loop-place.invariant.3 (λ d. inr (grind (arith, common_steps)))),
  )
  | else-limit-spot w ↦ rw w.end-is (
    c.loop-place.invariant.0,
    c.loop-place.invariant.1,
    c.loop-place.invariant.2,
    past_next c.args.spots.now c.args.limit c.loop-place.end c.loop-place.end c.args.first c.loop-place.place (omega arith) c.loop-place.invariant.3 (λ d. inl (grind (arith, common_steps))),
  )
]
