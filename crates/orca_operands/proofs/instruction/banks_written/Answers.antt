use Rattle.std.proofs.Common.{sym, ap, ◌∙◌}
use Rattle.orca_operands.specs.AmountView.{kept_view}
use Rattle.orca_operands.specs.GivenView.{given_pieces}
use Rattle.orca_operands.proofs.Instructed.{to_written, from_written}
use Rattle.orca_operands.proofs.instruction.banks_written.Goals as goal

pub returns-in_ok-given-in-Written-destination : goal.returns-in_ok-given-in-Written-destination
returns-in_ok-given-in-Written-destination c = λ s d p q.
    let a = sym (ap kept_view c.in-Known.is) ∙ p in
    let b = sym (ap kept_view c.in-Written-destination.is) ∙ q in
    to_written c.args.opcode c.in-Known.s c.in-Written-destination.d.items s d (given_pieces c.in_ok-given-in-Written-destination.given) a b (c.in_ok-given-in-Written-destination.ensures s d a b)

pub returns-in_ok-given-in-Written : goal.returns-in_ok-given-in-Written
returns-in_ok-given-in-Written c = λ s d p q.
    let a = sym (ap kept_view c.in-Written.is) ∙ p in
    from_written c.args.opcode c.in-Written.s.items s d (given_pieces c.in_ok-given-in-Written.given) a (c.in_ok-given-in-Written.ensures s d a q)
