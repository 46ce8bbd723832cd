use Rattle.std.proofs.Common.{Some, refl, sym, ap, ◌∙◌}
use Rattle.loader_agrees.specs.Agrees.{Loaded}
use Rattle.omf_c_loader.specs.Store.{held_of}
use Rattle.omf_c_calls.specs.Calls.{Follows}
use Rattle.omf_c_calls.specs.Answers.{entered_view}
use Rattle.omf_c_calls.proofs.Answering.{some_answers}
use Rattle.omf_c_calls.proofs.calls.jsl.Goals as goal

pub returns : goal.returns
returns c =
    let was = c.in-Some.ensures.taken ∙ ap (λ (l : Loaded). Some l) (sym c.deref_mut.ensures.value) in
    some_answers entered_view (Follows c.args.files.now c.args.user c.args.segment c.args.at) _ _ c.deref_mut.result.now c.jsl-place.new.self c.jsl-place.result c.answer_entered.result
    c.args.entered.now c.answer_entered.new.reported c.args.refusal.now c.answer_entered.new.refusal was c.put.ensures ((λ state agrees. c.jsl-place.ensures.meets (held_of c.args.files.now) state refl agrees), c.jsl-place.ensures.did) c.answer_entered.ensures
