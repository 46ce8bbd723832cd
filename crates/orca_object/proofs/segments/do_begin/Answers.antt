use Rattle.std.proofs.Common.{Ok, Err, sym, ap, ◌∙◌}
use Rattle.asm_meaning.specs.Statement.{load_name_of}
use Rattle.orca_object.proofs.Lefts.{both_of, begin_good, begin_bad}
use Rattle.orca_object.proofs.segments.do_begin.Goals as goal

pub returns-in_ok-begin-in-Ok-label : goal.returns-in_ok-begin-in-Ok-label
returns-in_ok-begin-in-Ok-label c = λ state line shows f n.
    begin_good state line c.args.class c.args.label c.args.text.now c.in-Ok-label.name c.in-Ok.load_name c.begin.new.self c.in-Ok-label.is (sym c.load_name_of.ensures ∙ c.in-Ok.is) (c.in_ok-begin-in-Ok-label.ensures state line shows f n)

pub returns-in-Err-label : goal.returns-in-Err-label
returns-in-Err-label c = λ state line shows f n.
    begin_bad state line c.args.class c.args.label c.args.text.now c.args.kept.now c.in-Err-label.cause
    (both_of c.args.label (Err c.in-Err-label.cause) (load_name_of c.args.text.now) (Ok c.in-Ok.load_name) c.in-Err-label.is (sym c.load_name_of.ensures ∙ c.in-Ok.is))

pub returns-in-Ok-label-2 : goal.returns-in-Ok-label-2
returns-in-Ok-label-2 c = λ state line shows f n.
    begin_bad state line c.args.class c.args.label c.args.text.now c.args.kept.now c.in-Err.other
    (both_of c.args.label (Ok c.in-Ok-label-2._name) (load_name_of c.args.text.now) (Err c.in-Err.other) c.in-Ok-label-2.is (sym c.load_name_of.ensures ∙ c.in-Err.is))

pub returns-in-Err-label-2 : goal.returns-in-Err-label-2
returns-in-Err-label-2 c = λ state line shows f n.
    begin_bad state line c.args.class c.args.label c.args.text.now c.args.kept.now c.earlier.result
    (both_of c.args.label (Err c.in-Err-label-2.cause) (load_name_of c.args.text.now) (Err c.in-Err.other) c.in-Err-label-2.is (sym c.load_name_of.ensures ∙ c.in-Err.is) ∙ ap Err (sym c.earlier.ensures))
