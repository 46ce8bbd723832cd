use Rattle.std.proofs.Common.{◌≡◌, map, ◌∙◌, arith}
use Rattle.load_writer.specs.WrittenParts.{seen}
use Rattle.omf_compact.proofs.KnownLaws.{written_there}
use Rattle.omf_compact.proofs.PartWalks.{walked_more, walked_broken, walked_all}
use Rattle.omf_compact.proofs.PartGaps.{walked_gap}
use Rattle.omf_compact.proofs.parting.part_cells.Goals as goal

pub part_at-requires : goal.part_at-requires
part_at-requires c = written_there c.args.load.now c.args.number c.cells.at c.requires

pub returns-then-not-branch : goal.returns-then-not-branch
returns-then-not-branch c = λ s at.
    walked_broken c.args.load.now c.args.number c.cells.at (map seen c.cells.patches.items) c.in-Some.part s at c.cells.invariant.walked c.in-Some.ensures
    (c.in_ok-append_part-in-Some.ensures.broken c.if-not-branch.true)

pub cells-preserved-in-Some : goal.cells-preserved-in-Some
cells-preserved-in-Some c = record {
  walked = walked_more c.args.load.now c.args.number c.cells.at (map seen c.cells.patches.items) (map seen c.append_part.new.patches.items) c.in-Some.part c.cells.invariant.walked c.in-Some.ensures
      (c.in_ok-append_part-in-Some.ensures.put c.if-not-branch.false);
  inside = omega (arith, c.cells-test.true);
}

pub cells-preserved : goal.cells-preserved
cells-preserved c = record {
  walked = walked_gap c.args.load.now c.args.number c.cells.at c.after_gap-at.result (map seen c.cells.patches.items) (omega (arith, c.after_gap-at.ensures.after)) c.cells.invariant.walked c.after_gap-at.ensures.none;
  inside = c.after_gap-at.ensures.bound;
}

pub returns : goal.returns
returns c = λ s at.
    let end : c.cells.at ≡ c.front-end.result = omega (arith, c.cells-test.false, c.cells.invariant.inside) in
    walked_all c.args.load.now c.args.number c.cells.at (map seen c.cells.patches.items) s at c.cells.invariant.walked (end ∙ c.front-end.ensures)
