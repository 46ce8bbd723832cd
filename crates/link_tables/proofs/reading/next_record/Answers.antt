use Rattle.std.proofs.Common.{sym}
use Rattle.link_tables.proofs.ComingLaws.{coming_fault, walked, layout_kept}
use Rattle.link_tables.proofs.reading.next_record.Goals as goal

pub unreachable-requires : goal.unreachable-requires
unreachable-requires c = coming_fault c.args.records.now c.in-Err.field-0 c.requires (sym c.in-Err.ensures.answer)

pub returns-clause-walk : goal.returns-clause-walk
returns-clause-walk c = walked c.args.records.now c.next.new.self c.in-Ok.found c.in-Ok.ensures.answer c.in-Ok.ensures.after

pub returns-clause-layout : goal.returns-clause-layout
returns-clause-layout c = layout_kept c.args.records.now c.next.new.self c.in-Ok.found c.in-Ok.ensures.answer c.in-Ok.ensures.after
