use Rattle.std.proofs.Common.{◌≡◌, ◌≤◌, ap, arith, ◌∙◌}
use Rattle.asm_meaning.specs.Object.{records_text}
use Rattle.asm_meaning.specs.Pieces.{length_at}
use Rattle.asm_meaning.specs.State.{cells_of}
use Rattle.orca_operands.specs.GivenView.{given_records}
use Rattle.orca_operands.specs.declared.writer.RecordWriter.{RecordWriter}
use Rattle.orca_operands.specs.TextView.{kept_text}
use Rattle.orca_object.proofs.Growing.{marked_grown, marked_long, grown_same}
use Rattle.orca_object.proofs.state.OpenSegment.mark_given.Goals as goal

pub returns-in_ok-put-in-Ok : goal.returns-in_ok-put-in-Ok
returns-in_ok-put-in-Ok c = λ s shows.
    let records = given_records c.args.given.now in
    let shown = c.in_ok-mark.ensures.segment s shows in
    let size : c.from-size.result ≡ length_at (cells_of s) records = omega (arith, c.from-size.ensures, c.cells.ensures (cells_of s), c.in-Ok.ensures.cells, c.grow.new.self.short) in
    record {
      file = shown.file;
      line = shown.line;
      class = shown.class;
      header = shown.header;
      names = shown.names;
      body = marked_grown c.args.label.now c.args.form c.from-size.result records s c.mark.new.self _ shown (c.in_ok-mark.ensures.cells ∙ shows.body.cells) size c.in-Ok.ensures.cells
          (grown_same _ _ _ (records_text records) (ap (λ (w : RecordWriter). kept_text w.text) c.in-Ok.ensures.writer) c.in_ok-put-in-Ok.ensures);
    }

pub returns-in-Err : goal.returns-in-Err
returns-in-Err c = λ s shows.
    let records = given_records c.args.given.now in
    let size : c.from-size.result ≤ length_at (cells_of s) records = omega (arith, c.from-size.ensures, c.cells.ensures (cells_of s)) in
    (c.in-Err.ensures.cause, marked_long c.args.label.now c.args.form c.from-size.result c.mark.new.self.body.cells records s (c.in_ok-mark.ensures.cells ∙ shows.body.cells) size c.in-Err.ensures.long)
