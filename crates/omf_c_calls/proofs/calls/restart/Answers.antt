use Rattle.std.proofs.Common.{Some, refl, sym, ap, ◌∙◌}
use Rattle.loader_agrees.specs.Agrees.{Loaded}
use Rattle.omf_c_loader.specs.Store.{held_of}
use Rattle.omf_c_calls.specs.Calls.{Restarts}
use Rattle.omf_c_calls.specs.Answers.{started_view}
use Rattle.omf_c_calls.proofs.Answering.{some_answers}
use Rattle.omf_c_calls.proofs.calls.restart.Goals as goal

pub returns : goal.returns
returns c =
    let was = c.in-Some.ensures.taken ∙ ap (λ (l : Loaded). Some l) (sym c.deref_mut.ensures.value) in
    some_answers started_view (Restarts c.args.files.now c.args.user) _ _ c.deref_mut.result.now c.restart-begun.new.self c.restart-begun.result c.answer_started.result
    c.args.started.now c.answer_started.new.reported c.args.refusal.now c.answer_started.new.refusal was c.put.ensures ((λ state agrees. c.restart-begun.ensures.meets (held_of c.args.files.now) state refl agrees), c.restart-begun.ensures.did) c.answer_started.ensures
