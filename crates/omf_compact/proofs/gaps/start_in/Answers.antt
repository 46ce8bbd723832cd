use Rattle.std.proofs.Common.{get_or, pos, arith}
use Rattle.load_content.specs.declared.spots.PatchSpot.{PatchSpot}
use Rattle.load_content.proofs.Splits.{get_there}
use Rattle.omf_compact.proofs.PartGaps.{none_before, none_later, none_lower}
use Rattle.omf_compact.proofs.gaps.start_in.Goals as goal

abbrev no_spot : PatchSpot
no_spot = record { at = 0; offset = 0; segment = 0; shift = pos 0; first = 0; end = 0 }

pub returns-then-count-spots-clause-none : goal.returns-then-count-spots-clause-none
returns-then-count-spots-clause-none c =
    let spots = c.args.spots.now in
    let count = c.count_up_to-count.result in
    let s = get_or spots count no_spot in
    none_lower c.args.at s.at c.min.result spots (omega (arith, c.min.ensures))
    (none_before spots c.args.at count s c.requires.starts c.count_up_to-count.ensures.split (get_there spots count no_spot (omega (arith, c.if-count-spots.true))))

pub returns-else-count-spots-clause-none : goal.returns-else-count-spots-clause-none
returns-else-count-spots-clause-none c =
    none_later c.args.spots.now c.args.at c.args.end c.count_up_to-count.result c.count_up_to-count.ensures.split (omega (arith, c.if-count-spots.false))
