use Rattle.loader_machine.specs.Rule.{RoomRule}
use Rattle.sys_loader.proofs.Script.{if_ok, if_err}
use Rattle.loader_agrees.specs.laws.Reads.{borrowed_met, borrowed_refused}
use Rattle.sys_loader.proofs.loader.Loader.bytes.Goals as goal

pub returns-clause-shows : goal.returns-clause-shows
returns-clause-shows c = if_ok c.borrow_bytes.result _ _ c.borrow_bytes.ensures.borrowed
    (λ bytes borrowed held state agrees. borrowed_met held c.args.self.now state agrees RoomRule c.args.user c.args.segment c.args.at c.args.length bytes.now borrowed)

pub returns-clause-refuses : goal.returns-clause-refuses
returns-clause-refuses c = if_err c.borrow_bytes.result _ _ c.borrow_bytes.ensures.refused
    (λ fault refused held state agrees. borrowed_refused held c.args.self.now state agrees RoomRule c.args.user c.args.segment c.args.at c.args.length fault refused)
