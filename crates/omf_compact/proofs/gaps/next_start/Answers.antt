use Rattle.std.proofs.Common.{◌+◌, take, drop, get_or, sym, subst, arith}
use Rattle.load_content.specs.Content.{AreRising, AreRuns}
use Rattle.load_content.proofs.RunLists.{next_run, last_run}
use Rattle.omf_compact.specs.laws.Walk.{NoneBegins}
use Rattle.omf_compact.proofs.PartGaps.{none_joined, none_lower}
use Rattle.omf_compact.proofs.gaps.next_start.Goals as goal

pub split_at-requires : goal.split_at-requires
split_at-requires c = (next_run c.args.runs.now c.runs.count-index c.runs.left.now c.runs-test.true c.runs.invariant.are).0

pub start_in-next-requires : goal.start_in-next-requires
start_in-next-requires c = subst AreRising (sym c.split_at.ensures.front) (next_run c.args.runs.now c.runs.count-index c.runs.left.now c.runs-test.true c.runs.invariant.are).1

pub runs-init : goal.runs-init
runs-init c = record { are = c.requires; whole = λ high le none. none; bound = omega arith }

pub runs-preserved : goal.runs-preserved
runs-preserved c =
    let left = c.runs.left.now in
    let at = c.args.at in
    let n = get_or c.args.runs.now c.runs.count-index 0 in
    record {
      are = subst (AreRuns (drop (c.runs.count-index + 1) c.args.runs.now)) (sym c.split_at.ensures.back) (next_run c.args.runs.now c.runs.count-index left c.runs-test.true c.runs.invariant.are).2;
      whole = λ high le none.
          let front = subst (NoneBegins at c.start_in-next.result) c.split_at.ensures.front c.start_in-next.ensures.none in
          let back = subst (NoneBegins at high) c.split_at.ensures.back none in
          c.runs.invariant.whole high (omega (arith, le, c.start_in-next.ensures.bound)) (none_joined n at high left (none_lower at c.start_in-next.result high (take n left) le front) back);
      bound = omega (arith, c.start_in-next.ensures.bound, c.runs.invariant.bound);
    }

pub returns-clause-none : goal.returns-clause-none
returns-clause-none c =
    let none = last_run c.args.runs.now c.runs.count-index c.runs.left.now c.runs-test.false c.runs.invariant.are in
    c.runs.invariant.whole c.runs.next (omega arith) (subst (NoneBegins c.args.at c.runs.next) (sym none) tt)
