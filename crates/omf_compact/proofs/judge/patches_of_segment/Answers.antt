use Rattle.std.proofs.Common.{map}
use Rattle.std.specs.Prelude.{Vec}
use Rattle.std.specs.declared.alloc.Global.{Global}
use Rattle.load_writer.specs.declared.written.Patch.{Patch}
use Rattle.load_writer.specs.WrittenParts.{seen}
use Rattle.omf_cells.specs.Whole.{HasWhole}
use Rattle.omf_compact.proofs.KnownLaws.{known_written}
use Rattle.omf_compact.proofs.JudgeLaws.{whole_parted, of_some}
use Rattle.omf_compact.proofs.judge.patches_of_segment.Goals as goal

pub part_cells-requires : goal.part_cells-requires
part_cells-requires c = λ s at. known_written c.args.load.now c.args.number s c.requires at

pub returns-in-Some : goal.returns-in-Some
returns-in-Some c = λ s at.
    whole_parted c.args.load.now c.args.number s (map seen c.in-Some.patches.items) c.requires at
    (of_some (λ (v : Vec Patch Global). HasWhole c.args.load.now c.args.number (map seen v.items)) c.in_ok-patches.field-0 c.in-Some.patches c.in-Some.is c.in_ok-patches.ensures)
