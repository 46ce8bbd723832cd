use Rattle.std.proofs.Common.{sym, subst, ◌∙◌}
use Rattle.std.proofs.lemmas.Bool.{false≢true}
use Rattle.link_meaning.specs.LinkFaults.{LinkInput}
use Rattle.link_meaning.specs.EmitFaults.{IsLinkedTo}
use Rattle.link_resolve.specs.Resolved.{FewGiven, HavePaths}
use Rattle.link_file.specs.Answers.{IsLinkRefused}
use Rattle.omf_c_making.specs.Making.{Links, contents, link_given}
use Rattle.omf_c_making.proofs.Faults.{link_first}
use Rattle.omf_c_making.proofs.Files.{reported_makes, given_same, named_paths}
use Rattle.omf_c_making.proofs.making.link_to_answer.Goals as goal

pub returns-then-not-have_names : goal.returns-then-not-have_names
returns-then-not-have_names c = λ can.
    let named = c.have_names.ensures.1 (named_paths c.args.form (contents c.args.inputs.now) c.args.runtimes.now can.1) in
    false≢true (sym c.if-not-have_names.true ∙ named)

pub returns-then-not-may_resolve : goal.returns-then-not-may_resolve
returns-then-not-may_resolve c = λ can.
    let same = given_same c.args.form c.in-Ok.inputs.items c.in-Ok-members.runtimes.items (contents c.args.inputs.now) c.args.runtimes.now c.in-Ok.ensures c.in-Ok-members.ensures in
    c.may_resolve.ensures.other c.if-not-may_resolve.true (subst FewGiven (sym same) can.0) (subst HavePaths (sym same) can.1)

pub returns-in-Ok-link_with : goal.returns-in-Ok-link_with
returns-in-Ok-link_with c =
    let same = given_same c.args.form c.in-Ok.inputs.items c.in-Ok-members.runtimes.items (contents c.args.inputs.now) c.args.runtimes.now c.in-Ok.ensures c.in-Ok-members.ensures in (
      (subst FewGiven same c.if-not-may_resolve.ensures.few, subst HavePaths same c.if-not-may_resolve.ensures.paths),
      subst (λ (g : LinkInput). IsLinkedTo g c.in-Ok-link_with.output.items) same c.in-Ok-link_with.ensures.linked,
    )

pub returns : goal.returns
returns c =
    let given = link_given c.args.form (contents c.args.inputs.now) c.args.runtimes.now in
    let same = given_same c.args.form c.in-Ok.inputs.items c.in-Ok-members.runtimes.items (contents c.args.inputs.now) c.args.runtimes.now c.in-Ok.ensures c.in-Ok-members.ensures in
    let refused : IsLinkRefused given c.in-Err.fault = subst (λ (g : LinkInput). IsLinkRefused g c.in-Err.fault) same c.in-Err.ensures.refused in
    subst (Links given) (sym c.answer_of_fault.ensures)
    (reported_makes _ _ _ _ c.in-Err.fault c.link_fault.result _ _ (subst FewGiven same c.if-not-may_resolve.ensures.few, subst HavePaths same c.if-not-may_resolve.ensures.paths)
    (λ other. link_first given c.in-Err.fault other refused) c.link_fault.ensures)
