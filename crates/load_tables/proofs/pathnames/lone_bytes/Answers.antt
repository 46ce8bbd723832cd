use Rattle.std.proofs.Common.{ℕ, sym}
use Rattle.omf_format.specs.Record.{Record}
use Rattle.omf_format.specs.Reading.{records_of}
use Rattle.omf_records.specs.View.{view}
use Rattle.load_tables.proofs.PathSegments.{lone_some, lone_more}
use Rattle.load_tables.proofs.pathnames.lone_bytes.Goals as goal

pub returns-then-takes_last : goal.returns-then-takes_last
returns-then-takes_last c =
    let found : ℕ × Record = (c.in-Ok-Some.found.0, view c.in-Ok-Some.found.1) in
    sym (lone_some c.args.records c.next.new.self c.requires.last found c.in_ok-bytes-in-Ok-Some.bytes.now (records_of c.args.records) c.requires.run c.requires.ended (sym (rw c.in-Ok-Some.field-0-is at c.in-Ok-Some.ensures.answer))
    (sym c.in_ok-bytes-in-Ok-Some.ensures) c.in-Ok-Some.ensures.after c.if-takes_last.ensures)

pub returns-else-takes_last : goal.returns-else-takes_last
returns-else-takes_last c = sym (lone_more c.args.records c.next.new.self c.requires.last (records_of c.args.records) c.requires.run c.requires.ended c.in-Ok-Some.ensures.after c.if-takes_last.ensures)
