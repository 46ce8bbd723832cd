use Rattle.std.proofs.Common.{List, subst}
use Rattle.load_content.specs.declared.spots.PatchSpot.{PatchSpot}
use Rattle.omf_compact.specs.laws.Walk.{NoneBegins}
use Rattle.omf_compact.proofs.PartGaps.{gap_passed, no_gap, next_alone}
use Rattle.omf_compact.proofs.gaps.after_gap.Goals as goal

pub returns-in-None-clause-none : goal.returns-in-None-clause-none
returns-in-None-clause-none c = no_gap c.args.load.now c.args.number c.args.at c.args.end c.in-None.ensures

pub returns-then-next-at-clause-none : goal.returns-then-next-at-clause-none
returns-then-next-at-clause-none c =
    gap_passed c.args.load.now c.args.number c.args.at c.next_start-next.result c.in-Some.found.0.now c.in-Some.found.1.now c.in-Some.ensures c.requires.none
    (subst (λ (l : List PatchSpot). NoneBegins c.args.at c.next_start-next.result l) c.deref.ensures.value c.next_start-next.ensures.none)

pub returns-else-next-at-clause-none : goal.returns-else-next-at-clause-none
returns-else-next-at-clause-none c = next_alone c.args.load.now c.args.number c.args.at c.requires.none
