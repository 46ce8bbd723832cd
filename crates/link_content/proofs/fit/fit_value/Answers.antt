use mir.Val.{to_z, of_z}
use Rattle.std.proofs.Common.{◌≡◌, w8, Bool, false, cond, sym, ap, ◌∙◌, arith}
use Rattle.std.proofs.lemmas.Int.{to_z-of_z}
use Rattle.link_meaning.specs.Member.{setting_in}
use Rattle.link_meaning.specs.Fitting.{place_fit, call_fit, fit_value}
use Rattle.link_meaning.specs.laws.Steps.{is_far, target_of, or_does_not_fit, is_call}
use Rattle.link_content.specs.Fits.{shown_frame}
use Rattle.link_content.proofs.FitLaws.{reported_answer, place_plain}
use Rattle.link_content.proofs.fit.fit_value.Goals as goal

pub returns-else-is_far : goal.returns-else-is_far
returns-else-is_far c = λ headers targets before loads jsl.
    let setting = setting_in c.args.context.now.program.now in
    let frame = shown_frame setting c.args.frame in
    let formula = c.args.formula in
    let file = c.in-At.file in
    let segment = c.in-At.segment in
    let offset = c.in-At.offset in
    let shift = c.in-At.shift in
    let same : to_z w8 (of_z w8 shift) ≡ shift = grind (arith, to_z-of_z) in
    let placed = place_fit frame formula.code formula.count formula.n segment offset shift in
    let far : is_far headers c.args.frame.own file segment ≡ false = sym (c.is_far.ensures headers loads) ∙ c.if-is_far.false in
    ap (fit_value headers frame targets before formula.code formula.count formula.n) c.in-At.is
    ∙ ap (λ (b : Bool). cond b (call_fit headers setting targets (is_call formula.code formula.count shift before) (target_of file segment offset)) (or_does_not_fit placed)) far
    ∙ sym (reported_answer targets c.or_does_not_fit-in-At.result placed (c.or_does_not_fit-in-At.ensures ∙ ap or_does_not_fit (c.place_fit.ensures setting ∙ ap (place_fit frame formula.code formula.count formula.n segment offset) same))
    (λ t. place_plain frame formula.code formula.count formula.n segment offset shift t))
