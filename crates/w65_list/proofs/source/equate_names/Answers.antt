use Rattle.std.proofs.Common.{ℕ, sym}
use Rattle.omf_format.specs.Record.{Record}
use Rattle.omf_records.specs.View.{view}
use Rattle.omf_records.specs.WalkLaws.{walk_fails}
use Rattle.w65_list.proofs.SourceLaws.{equates_on, equates_end}
use Rattle.w65_list.proofs.source.equate_names.Goals as goal

pub returns-in-Ok-None : goal.returns-in-Ok-None
returns-in-Ok-None c =
    let end = sym (rw c.in-Ok-None.field-0-is at c.in-Ok-None.ensures.answer) in
    equates_end c.args.records c.records.records c.records.names c.requires c.records.invariant end

pub records-preserved : goal.records-preserved
records-preserved c =
    let found : ℕ × Record = (c.in-Ok-Some.field-0-0-0, view c.in-Ok-Some.rec) in
    let next = sym (rw c.in-Ok-Some.field-0-is at c.in-Ok-Some.ensures.answer) in
    equates_on c.args.records c.records.records c.next.new.self c.records.names c.add_equate.new.names found c.records.invariant next c.in-Ok-Some.ensures.after c.in_ok-add_equate-in-Ok-Some.ensures

pub unreachable-requires : goal.unreachable-requires
unreachable-requires c = walk_fails c.args.records c.records.records c.records.invariant.before c.in-Err.field-0 c.requires c.records.invariant.run (sym c.in-Err.ensures.answer)
