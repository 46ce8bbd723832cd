use Rattle.std.proofs.Common.{inl, sym, ap, ◌∙◌}
use Rattle.link_meaning.specs.declared.fault.LinkFault.{LinkFault}
use Rattle.link_resolve.proofs.RuntimeLaws.{file_refused, not_memory, untold}
use Rattle.link_resolve.proofs.runtimes.file_fault.Goals as goal

pub returns-in-Some-clause-reported : goal.returns-in-Some-clause-reported
returns-in-Some-clause-reported c = λ bytes refused. file_refused c.args.fault c.args.file bytes c.in-Some.cause c.fault_in.result (sym c.to_link_cause.ensures ∙ c.in-Some.is) c.fault_in.ensures refused

pub returns-in-Some-clause-memory : goal.returns-in-Some-clause-memory
returns-in-Some-clause-memory c = λ memory.
    absurd (not_memory c.args.fault.cause c.in-Some.cause (sym c.to_link_cause.ensures ∙ c.in-Some.is) (sym (ap (λ (f : LinkFault). f.cause) c.fault_in.ensures) ∙ memory))

pub returns-in-None-clause-reported : goal.returns-in-None-clause-reported
returns-in-None-clause-reported c = λ bytes refused. inl c.memory_fault.ensures

pub returns-in-None-clause-memory : goal.returns-in-None-clause-memory
returns-in-None-clause-memory c = λ memory. untold c.args.fault.cause (sym c.to_link_cause.ensures ∙ c.in-None.is)
