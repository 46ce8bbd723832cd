use Rattle.std.proofs.Common.{List, sym, subst, arith}
use Rattle.std.specs.Prelude.{IfOk, IfErr}
use Rattle.lib_dict.specs.declared.member.Member.{Member}
use Rattle.link_meaning.specs.declared.form.LinkForm.TheVariants.{Program}
use Rattle.link_meaning.specs.EmitFaults.{IsLinkedTo}
use Rattle.link_resolve.specs.Resolved.{given_of, FewGiven, HavePaths}
use Rattle.link_file.specs.Answers.{IsLinkRefused}
use Rattle.link_emit.proofs.linking.link.Goals as goal

pub link_with-requires-clause-few : goal.link_with-requires-clause-few
link_with-requires-clause-few c =
    subst (λ (ms : List Member). FewGiven (given_of c.args.inputs.now.items ms Program)) (sym c.new-none.ensures.items)
    (record { files = omega (arith, c.requires.0); bytes = omega (arith, c.requires.1) })

pub link_with-requires-clause-paths : goal.link_with-requires-clause-paths
link_with-requires-clause-paths c = subst (λ (ms : List Member). HavePaths (given_of c.args.inputs.now.items ms Program)) (sym c.new-none.ensures.items) (tt, omega arith)

pub returns-clause-linked : goal.returns-clause-linked
returns-clause-linked c =
    subst (λ (ms : List Member). IfOk c.link_with.result (λ output. IsLinkedTo (given_of c.args.inputs.now.items ms Program) output.items)) c.new-none.ensures.items c.link_with.ensures.linked

pub returns-clause-refused : goal.returns-clause-refused
returns-clause-refused c =
    subst (λ (ms : List Member). IfErr c.link_with.result (λ fault. IsLinkRefused (given_of c.args.inputs.now.items ms Program) fault)) c.new-none.ensures.items c.link_with.ensures.refused
