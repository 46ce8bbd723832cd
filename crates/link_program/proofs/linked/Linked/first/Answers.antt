use Rattle.std.proofs.Common.{inl, inr, arith}
use Rattle.link_program.specs.Outside.{all_found}
use Rattle.link_program.proofs.FirstFound.{first_reported}
use Rattle.link_program.proofs.linked.Linked.first.Goals as goal

pub returns-in-One : goal.returns-in-One
returns-in-One c = λ list holds outside.
    first_reported list c.args.self.now c.args.place c.args.name.now (all_found list) c.find.result c.in-One.number holds c.if-place-eq0.false (omega (arith, c.if-place-as_slice.false, c.as_slice.ensures.len, c.args.self.now.members.ok)) (inl c.in-One.is)
    (λ m there. c.find.ensures list m holds outside there)

pub returns-in-Several : goal.returns-in-Several
returns-in-Several c = λ list holds outside.
    first_reported list c.args.self.now c.args.place c.args.name.now (all_found list) c.find.result c.in-Several.number holds c.if-place-eq0.false (omega (arith, c.if-place-as_slice.false, c.as_slice.ensures.len, c.args.self.now.members.ok)) (inr c.in-Several.is)
    (λ m there. c.find.ensures list m holds outside there)
