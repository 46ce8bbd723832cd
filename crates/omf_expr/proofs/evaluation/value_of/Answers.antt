use Rattle.std.proofs.lemmas.Result.{err_from_is_err_and}
use Rattle.omf_expr.proofs.Evaluating.{going_begin, going_some, going_room, going_more, going_fault, going_end, going_last, going_cut}
use Rattle.omf_expr.proofs.evaluation.value_of.Goals as goal

pub terms-init : goal.terms-init
terms-init g c = rw c.new-pending.ensures (going_begin (g.E.Env.meaning c.args.env.now) c.args.lab_len c.args.bytes.now c.requires)

pub step-requires-clause-some : goal.step-requires-clause-some
step-requires-clause-some g c =
    let read = rw c.in-Ok-Some-default.field-0-0-is at c.in-Ok-Some-default.ensures.gives in
    going_some (g.E.Env.meaning c.args.env.now) _ _ _ _ _ _ c.terms.invariant read

pub step-requires-clause-room : goal.step-requires-clause-room
step-requires-clause-room g c =
    let read = rw c.in-Ok-Some-default.field-0-0-is at c.in-Ok-Some-default.ensures.gives in
    going_room (g.E.Env.meaning c.args.env.now) _ _ _ _ _ _ c.terms.invariant read

pub terms-preserved : goal.terms-preserved
terms-preserved g c =
    let read = rw c.in-Ok-Some-default.field-0-0-is at c.in-Ok-Some-default.ensures.gives in
    going_more (g.E.Env.meaning c.args.env.now) _ _ _ _ _ _ _ c.terms.invariant read c.in_ok-step-in-Ok-Some-default.ensures.ok

pub returns-in_err-step-in-Ok-Some-default : goal.returns-in_err-step-in-Ok-Some-default
returns-in_err-step-in-Ok-Some-default g c = λ tree is.
    let read = rw c.in-Ok-Some-default.field-0-0-is at c.in-Ok-Some-default.ensures.gives in
    let p = err_from_is_err_and c.from_residual.result c.from_residual.ensures.1 in
    rw (p.1, p.2)
    (going_fault (g.E.Env.meaning c.args.env.now) _ _ _ _ _ _ _ tree c.terms.invariant read c.in_err-step-in-Ok-Some-default.ensures.err is)

pub pop-requires : goal.pop-requires
pop-requires g c =
    let read = rw c.in-Ok-None-default.field-0-0-is at c.in-Ok-None-default.ensures.gives in
    going_last (g.E.Env.meaning c.args.env.now) _ _ _ _ _ c.terms.invariant read

pub returns-in-Ok-None-default : goal.returns-in-Ok-None-default
returns-in-Ok-None-default g c = λ tree is.
    let read = rw c.in-Ok-None-default.field-0-0-is at c.in-Ok-None-default.ensures.gives in
    going_end (g.E.Env.meaning c.args.env.now) _ _ _ _ _ _ _ tree c.terms.invariant read c.pop.ensures is

pub unreachable-requires : goal.unreachable-requires
unreachable-requires g c = going_cut (g.E.Env.meaning c.args.env.now) _ _ _ _ _ c.terms.invariant c.in-Err.ensures.gives
