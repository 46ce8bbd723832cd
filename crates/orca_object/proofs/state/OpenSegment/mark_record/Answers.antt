use Rattle.std.proofs.Common.{sym}
use Rattle.omf_format.specs.declared.codes.TheConstants.{DIRECTIVE_LABEL}
use Rattle.omf_records.specs.View.{view}
use Rattle.orca_object.specs.StateView.{with_local_label}
use Rattle.orca_operands.proofs.After.{then_ok}
use Rattle.orca_object.proofs.OpenLaws.{marked_one}
use Rattle.orca_object.proofs.state.OpenSegment.mark_record.Goals as goal

pub returns : goal.returns
returns c =
    then_ok c.put.result (λ k s shows. marked_one c.args.label.now DIRECTIVE_LABEL 0 (view c.args.rec.now) s c.args.self.now c.put.new.self shows (sym c.requires.none) (k (with_local_label c.args.label.now DIRECTIVE_LABEL 0 s) (c.in_ok-mark.ensures.segment s shows))) c.put.ensures.segment
