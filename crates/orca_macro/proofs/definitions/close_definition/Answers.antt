use Rattle.std.proofs.Common.{ap, sym, ◌∙◌, arith}
use Rattle.macro_meaning.specs.Definition.{model_of}
use Rattle.orca_text.specs.View.{line}
use Rattle.orca_symbols.specs.ModelView.{model}
use Rattle.orca_macro.proofs.Scans.{judged_good, judged_bad}
use Rattle.orca_macro.proofs.definitions.close_definition.Goals as goal

pub returns-in_ok-d-in-Some-2 : goal.returns-in_ok-d-in-Some-2
returns-in_ok-d-in-Some-2 c = λ m e first end.
    judged_good c.args.following m e (line c.in-Some.model.now) c.args.lines.now c.args.begins c.args.mend (model c.in-Some-2.found) c.in_ok-d-in-Some-2.d c.in-Some.ensures.line end
    (omega (arith, c.requires.order, c.if-begins-mend.false)) c.requires.within (ap model_of (sym c.bytes.ensures.value) ∙ rw c.in-Some-2.is at c.in_ok-found.ensures) c.in_ok-d-in-Some-2.ensures

pub returns-in-None : goal.returns-in-None
returns-in-None c = λ m e first end.
    judged_bad c.args.following m e (line c.in-Some.model.now) c.args.lines.now c.args.begins c.args.mend c.fault_at-in-None.result c.in-Some.ensures.line
    (omega (arith, c.requires.order, c.if-begins-mend.false)) (ap model_of (sym c.bytes.ensures.value) ∙ rw c.in-None.is at c.in_ok-found.ensures) c.fault_at-in-None.ensures
