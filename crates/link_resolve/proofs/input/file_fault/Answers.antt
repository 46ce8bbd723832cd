use Rattle.omf_format.specs.declared.fault.FileCause.TheVariants as causes
use Rattle.link_resolve.proofs.FileRefusals.{of_file, truncated_other, header_other, unsupported_other, record_other}
use Rattle.link_resolve.proofs.input.file_fault.Goals as goal

pub returns-in-Truncated-clause-reported : goal.returns-in-Truncated-clause-reported
returns-in-Truncated-clause-reported c = λ bytes refused. of_file c.args.fault causes.Truncated c.args.file bytes c.fault_in.result c.in-Truncated.is truncated_other c.fault_in.ensures refused

pub returns-in-BadHeader-clause-reported : goal.returns-in-BadHeader-clause-reported
returns-in-BadHeader-clause-reported c = λ bytes refused. of_file c.args.fault causes.BadHeader c.args.file bytes c.fault_in-in-BadHeader.result c.in-BadHeader.is header_other c.fault_in-in-BadHeader.ensures refused

pub returns-in-Unsupported-clause-reported : goal.returns-in-Unsupported-clause-reported
returns-in-Unsupported-clause-reported c = λ bytes refused. of_file c.args.fault causes.Unsupported c.args.file bytes c.fault_in-in-Unsupported.result c.in-Unsupported.is unsupported_other c.fault_in-in-Unsupported.ensures refused

pub returns-in-BadRecord-clause-reported : goal.returns-in-BadRecord-clause-reported
returns-in-BadRecord-clause-reported c = λ bytes refused. of_file c.args.fault causes.BadRecord c.args.file bytes c.fault_in-in-BadRecord.result c.in-BadRecord.is record_other c.fault_in-in-BadRecord.ensures refused
