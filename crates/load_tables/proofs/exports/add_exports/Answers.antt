use Rattle.std.proofs.Common.{ℕ, ◌++◌, List, map, sym, subst, arith}
use Rattle.omf_format.specs.Record.{Record}
use Rattle.omf_format.specs.Reading.{Reader}
use Rattle.load_meaning.specs.Exports.{Export, exports_of_record}
use Rattle.omf_records.specs.View.{view}
use Rattle.load_tables.specs.View.{seen_export}
use Rattle.load_tables.proofs.ExportWalks.{Exported, exported_none, exported_more, exported_whole, exported_fault}
use Rattle.load_tables.proofs.exports.add_exports.Goals as goal

pub records-init : goal.records-init
records-init c = record { added = exported_none c.args.holder c.args.records (map seen_export c.args.exports.now.items) c.requires; few = omega arith }

pub returns-in-Ok-None-clause-value : goal.returns-in-Ok-None-clause-value
returns-in-Ok-None-clause-value c =
    exported_whole c.args.holder c.args.records c.records.records (map seen_export c.args.exports.now.items) (map seen_export c.records.exports.items) c.records.invariant.added
    (sym (rw c.in-Ok-None.field-0-is at c.in-Ok-None.ensures.answer))

pub records-preserved : goal.records-preserved
records-preserved c =
    let found : ℕ × Record = (c.in-Ok-Some.found.0, view c.in-Ok-Some.found.1) in
    let front = map seen_export c.args.exports.now.items in
    let old = map seen_export c.records.exports.items in
    let more = exported_more c.args.holder c.args.records c.records.records found front old c.records.invariant.added (sym (rw c.in-Ok-Some.field-0-is at c.in-Ok-Some.ensures.answer)) in
    record {
      added = subst (λ (l : List Export). Exported c.args.holder c.args.records c.next.new.self front l) (sym c.in_ok-add_export-in-Ok-Some.ensures.value)
          (subst (λ (r : Reader). Exported c.args.holder c.args.records r front (old ++ exports_of_record c.args.holder found.1)) (sym c.in-Ok-Some.ensures.after) more);
      few = omega (arith, c.records.invariant.few, c.in_ok-add_export-in-Ok-Some.ensures.one, rw c.in-Ok-Some.field-0-is at c.in-Ok-Some.ensures.shorter);
    }

pub unreachable-requires : goal.unreachable-requires
unreachable-requires c =
    exported_fault c.args.holder c.args.records c.records.records (map seen_export c.args.exports.now.items) (map seen_export c.records.exports.items) c.in-Err.field-0 c.records.invariant.added (sym c.in-Err.ensures.answer)
