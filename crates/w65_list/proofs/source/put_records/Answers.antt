use Rattle.std.proofs.Common.{◌≡◌, ℕ, Err, sym, ap}
use Rattle.omf_format.specs.Reading.{records_of}
use Rattle.omf_format.specs.Record.{Record}
use Rattle.omf_header.specs.View.{fields}
use Rattle.omf_records.specs.View.{view}
use Rattle.omf_records.specs.WalkLaws.{walk_fails}
use Rattle.list_meaning.specs.Listing.{said_from}
use Rattle.w65_list.proofs.SourceLaws.{expression_here, records_begin, records_on, records_end, records_stop, failed, refusal_of}
use Rattle.w65_list.proofs.source.put_records.Goals as goal

pub records-init : goal.records-init
records-init c = records_begin (fields c.args.header.now) c.args.names.now c.args.records c.args.before c.args.out.now c.requires.line

pub returns-in-Ok-None-clause-wrote : goal.returns-in-Ok-None-clause-wrote
returns-in-Ok-None-clause-wrote c =
    let end = sym (rw c.in-Ok-None.field-0-is at c.in-Ok-None.ensures.answer) in
    records_end (fields c.args.header.now) c.args.names.now c.args.records c.records.records c.args.before c.records.before c.args.out.now c.records.out c.requires.body c.records.invariant end

pub put_record-requires-clause-spelled : goal.put_record-requires-clause-spelled
put_record-requires-clause-spelled c =
    expression_here (fields c.args.header.now) c.args.names.now c.args.records c.records.records c.args.before c.records.before c.args.out.now c.records.out (view c.in-Ok-Some.rec) c.records.invariant c.requires.layout
    (rw c.in-Ok-Some.field-0-is at c.in-Ok-Some.ensures.formed)

pub records-preserved : goal.records-preserved
records-preserved c =
    let found : ℕ × Record = (c.in-Ok-Some.place, view c.in-Ok-Some.rec) in
    let next = sym (rw c.in-Ok-Some.field-0-is at c.in-Ok-Some.ensures.answer) in
    let known = c.requires.known in
    records_on (fields c.args.header.now) c.args.names.now c.args.records c.records.records c.next.new.self c.args.before c.records.before c.put_record.new.self c.args.out.now c.records.out c.put_record.new.out found
    c.records.invariant next c.in-Ok-Some.ensures.after c.in-Ok.ensures.given known.0 known.1 known.2 known.3

pub returns-in-Err-put_record-clause-refused : goal.returns-in-Err-put_record-clause-refused
returns-in-Err-put_record-clause-refused c =
    let f = fields c.args.header.now in
    let found : ℕ × Record = (c.in-Ok-Some.place, view c.in-Ok-Some.rec) in
    let next = sym (rw c.in-Ok-Some.field-0-is at c.in-Ok-Some.ensures.answer) in
    λ b all is are. refusal_of c.in-Err-put_record.stop c.refusal_at.result c.in-Ok-Some.place (λ at. said_from f all b (records_of c.args.records) ≡ Err at) c.refusal_at.ensures
    (λ stops. records_stop f c.args.names.now c.args.records c.records.records c.args.before c.records.before c.args.out.now c.records.out found c.requires.body c.records.invariant next (c.in-Err-put_record.ensures.refused (ap failed stops)) b all is are)

pub unreachable-requires : goal.unreachable-requires
unreachable-requires c = walk_fails c.args.records c.records.records c.records.invariant.so_far c.in-Err.field-0 c.requires.body c.records.invariant.run (sym c.in-Err.ensures.answer)
