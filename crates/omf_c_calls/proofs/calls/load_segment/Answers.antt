use Rattle.std.proofs.Common.{Some, refl, sym, ap, ◌∙◌}
use Rattle.loader_agrees.specs.Agrees.{Loaded}
use Rattle.omf_c_loader.specs.Store.{held_of}
use Rattle.omf_c_calls.specs.Calls.{LoadsSegment}
use Rattle.omf_c_calls.proofs.Answering.{some_answers}
use Rattle.omf_c_calls.proofs.calls.load_segment.Goals as goal

pub returns : goal.returns
returns c =
    let was = c.in-Some.ensures.taken ∙ ap (λ (l : Loaded). Some l) (sym c.deref_mut.ensures.value) in
    some_answers (λ n. n) (LoadsSegment c.args.files.now c.args.user c.args.segment) _ _ c.deref_mut.result.now c.load_segment-made.new.self c.load_segment-made.result c.answer_number.result
    c.args.address.now c.answer_number.new.reported c.args.refusal.now c.answer_number.new.refusal was c.put.ensures ((λ state agrees. c.load_segment-made.ensures.meets (held_of c.args.files.now) state refl agrees), c.load_segment-made.ensures.did) c.answer_number.ensures
