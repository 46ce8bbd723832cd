use Rattle.std.proofs.Common.{◌∷◌, [], ap, arith, ◌∙◌}
use Rattle.omf_format.specs.declared.codes.TheConstants.{DIRECTIVE_LABEL}
use Rattle.omf_records.specs.View.{view}
use Rattle.orca_operands.specs.declared.writer.RecordWriter.{RecordWriter}
use Rattle.orca_operands.specs.TextView.{kept_text}
use Rattle.orca_object.proofs.Growing.{marked_grown, marked_long, one_size, grown_one}
use Rattle.orca_object.proofs.state.OpenSegment.give_record.Goals as goal

pub returns-in_ok-put-in-Ok : goal.returns-in_ok-put-in-Ok
returns-in_ok-put-in-Ok c = λ s shows.
    let shown = c.in_ok-mark.ensures.segment s shows in
    let size = one_size c.args.size c.args.self.now.body.cells (view c.args.rec.now) s c.requires.size shows.body.cells in
    record {
      file = shown.file;
      line = shown.line;
      class = shown.class;
      header = shown.header;
      names = shown.names;
      body = marked_grown c.args.label.now DIRECTIVE_LABEL c.args.size (view c.args.rec.now ∷ []) s c.mark.new.self _ shown (c.in_ok-mark.ensures.cells ∙ shows.body.cells) size c.in-Ok.ensures.cells
          (grown_one _ _ _ (view c.args.rec.now) (ap (λ (w : RecordWriter). kept_text w.text) c.in-Ok.ensures.writer) c.in_ok-put-in-Ok.ensures);
    }

pub returns-in-Err : goal.returns-in-Err
returns-in-Err c = λ s shows. (
  c.in-Err.ensures.cause,
  marked_long c.args.label.now DIRECTIVE_LABEL c.args.size c.mark.new.self.body.cells (view c.args.rec.now ∷ []) s (c.in_ok-mark.ensures.cells ∙ shows.body.cells)
      (omega (arith, one_size c.args.size c.args.self.now.body.cells (view c.args.rec.now) s c.requires.size shows.body.cells)) c.in-Err.ensures.long,
)
