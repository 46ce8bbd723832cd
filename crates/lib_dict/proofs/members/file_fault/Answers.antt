use Rattle.std.proofs.Common.{refl, sym, ap, subst}
use Rattle.omf_format.specs.declared.fault.FileCause.{FileCause}
use Rattle.omf_format.specs.File.{IsFirstFault}
use Rattle.omf_records.specs.Segments.{UnlessMemory}
use Rattle.lib_dict.specs.declared.fault.LibFault.{LibFault}
use Rattle.lib_dict.specs.Made.{lib_cause, InFile, IsMemberRefused}
use Rattle.lib_dict.proofs.members.file_fault.Goals as goal

pub returns-in-Truncated-clause-reported : goal.returns-in-Truncated-clause-reported
returns-in-Truncated-clause-reported c = λ bytes refused.
    let first : IsFirstFault bytes c.args.fault = subst (λ (k : FileCause). UnlessMemory k c.args.fault (IsFirstFault bytes c.args.fault)) c.in-Truncated.is refused in
    subst (λ (t : LibFault). IsMemberRefused t c.args.file bytes) (sym c.fault_in.ensures) (refl, InFile c.args.fault first (sym (ap lib_cause c.in-Truncated.is)) refl refl)

pub returns-in-BadHeader-clause-reported : goal.returns-in-BadHeader-clause-reported
returns-in-BadHeader-clause-reported c = λ bytes refused.
    let first : IsFirstFault bytes c.args.fault = subst (λ (k : FileCause). UnlessMemory k c.args.fault (IsFirstFault bytes c.args.fault)) c.in-BadHeader.is refused in
    subst (λ (t : LibFault). IsMemberRefused t c.args.file bytes) (sym c.fault_in-in-BadHeader.ensures) (refl, InFile c.args.fault first (sym (ap lib_cause c.in-BadHeader.is)) refl refl)

pub returns-in-Unsupported-clause-reported : goal.returns-in-Unsupported-clause-reported
returns-in-Unsupported-clause-reported c = λ bytes refused.
    let first : IsFirstFault bytes c.args.fault = subst (λ (k : FileCause). UnlessMemory k c.args.fault (IsFirstFault bytes c.args.fault)) c.in-Unsupported.is refused in
    subst (λ (t : LibFault). IsMemberRefused t c.args.file bytes) (sym c.fault_in-in-Unsupported.ensures) (refl, InFile c.args.fault first (sym (ap lib_cause c.in-Unsupported.is)) refl refl)

pub returns-in-BadRecord-clause-reported : goal.returns-in-BadRecord-clause-reported
returns-in-BadRecord-clause-reported c = λ bytes refused.
    let first : IsFirstFault bytes c.args.fault = subst (λ (k : FileCause). UnlessMemory k c.args.fault (IsFirstFault bytes c.args.fault)) c.in-BadRecord.is refused in
    subst (λ (t : LibFault). IsMemberRefused t c.args.file bytes) (sym c.fault_in-in-BadRecord.ensures) (refl, InFile c.args.fault first (sym (ap lib_cause c.in-BadRecord.is)) refl refl)
