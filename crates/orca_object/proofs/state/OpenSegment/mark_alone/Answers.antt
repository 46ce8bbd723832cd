use Rattle.omf_format.specs.declared.codes.TheConstants.{DIRECTIVE_LABEL}
use Rattle.orca_operands.proofs.After.{then_ok}
use Rattle.orca_object.proofs.OpenLaws.{marked_none}
use Rattle.orca_object.proofs.state.OpenSegment.mark_alone.Goals as goal

pub returns : goal.returns
returns c = then_ok c.mark.result (λ k s shows. marked_none c.args.label.now DIRECTIVE_LABEL s c.mark.new.self (k s shows)) c.mark.ensures.segment
