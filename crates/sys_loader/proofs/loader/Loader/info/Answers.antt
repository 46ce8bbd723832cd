use Rattle.std.proofs.Common.{◌≡◌, ℕ, Some}
use Rattle.std.specs.Prelude.{IfErr}
use Rattle.loader_machine.specs.Rule.{RoomRule}
use Rattle.loader_machine.specs.Refusals.{info_refusal}
use Rattle.loader_agrees.specs.Agrees.{Loaded, Agrees, seen_by}
use Rattle.std.specs.Prelude.{Result, Ok, Err, IfOk}
use Rattle.omf_io.specs.Files.{FileMap}
use Rattle.loader_machine.specs.declared.faults.LoaderFault.{LoaderFault}
use Rattle.loader_machine.specs.State.{Machine}
use Rattle.loader_machine.specs.Commands as commands
use Rattle.loader_agrees.specs.Agrees.{Met}
use Rattle.loader_agrees.specs.Acts.{HasReported}
use Rattle.loader_agrees.specs.laws.Reads.{reported_met, reported_refused}
use Rattle.sys_loader.specs.declared.answers.Info.{Info}
use Rattle.sys_loader.specs.Replies.{info_reply}
use Rattle.sys_loader.proofs.loader.Loader.info.Goals as goal

meets : (loader : Loaded) (id number : ℕ) (result : Result Info LoaderFault) → IfOk result (λ info. HasReported loader id number info.presence info.length info.kind)
    → IfErr result (λ fault. info_refusal (seen_by loader id) number ≡ Some fault) → (held : FileMap) (state : Machine) → Agrees held loader state
    → Met RoomRule held state (commands.Info id number) (info_reply result) loader
meets loader id number (Ok info) reported refused held state agrees = reported_met held loader state agrees RoomRule id number info.presence info.length info.kind reported
meets loader id number (Err fault) reported refused held state agrees = reported_refused held loader state agrees RoomRule id number fault refused

pub returns-clause-meets : goal.returns-clause-meets
returns-clause-meets c = meets c.args.self.now c.args.user c.args.segment c.report_segment.result c.report_segment.ensures.reported c.report_segment.ensures.refused
