use Rattle.std.proofs.Common.{subst, List, ℕ}
use Rattle.iigs_meaning.specs.declared.faults.BanksFault.TheVariants.{BankTwice}
use Rattle.iigs_meaning.specs.Banks.{IsBanksRefusal}
use Rattle.loader_replies.proofs.ScriptWords.{not_twice}
use Rattle.loader_replies.proofs.command.loader_of.Goals as goal

pub unreachable-requires-in-Err-BankTwice : goal.unreachable-requires-in-Err-BankTwice
unreachable-requires-in-Err-BankTwice c =
    let twice = rw c.in-Err-BankTwice.field-0-is at c.in-Err-BankTwice.ensures.refused in
    not_twice c.args.list.now c.in-Err-BankTwice.field-0-0 c.requires.4
    (subst (λ (banks : List ℕ). IsBanksRefusal banks (BankTwice c.in-Err-BankTwice.field-0-0)) c.bytes.ensures.value twice)
