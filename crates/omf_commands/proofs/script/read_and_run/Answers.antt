use Rattle.std.proofs.Common.{inr, refl, List, ℕ, ap, subst, Vec, ◌∙◌}
use Rattle.std.specs.declared.alloc.Global.{Global}
use Rattle.omf_io.specs.Sinks.{SinkSeen}
use Rattle.omf_io.specs.Outside.{outside}
use Rattle.omf_making.specs.declared.status.Status.TheVariants.{CannotRead, Refused}
use Rattle.omf_making.specs.Words.{words_of}
use Rattle.omf_making.specs.Made.{all_bytes, first_of}
use Rattle.omf_making.specs.Lines.{cannot_read_line, script_line}
use Rattle.omf_making.specs.ScriptCauses.{script_cause_name}
use Rattle.omf_making.specs.Printing.{IsPut}
use Rattle.omf_commands.specs.Script.{ScriptSays}
use Rattle.omf_making.proofs.Runs.{put_line}
use Rattle.omf_commands.proofs.Runs.{script_says, begun, bad_script}
use Rattle.omf_commands.proofs.script.read_and_run.Goals as goal

pub returns-in-Unread : goal.returns-in-Unread
returns-in-Unread g c =
    let o = outside (g.F.Files.seen c.args.files.now) (g.F.Files.seen c.read_all.new.files) (g.S.Sink.seen c.args.out.now) (g.S.Sink.seen c.print.new.out) in
    let text = cannot_read_line c.in-Unread.path.now in
    let says : ScriptSays CannotRead (words_of c.args.inputs.now) o text = (c.in-Unread.path.now, c.in-Unread.ensures, refl) in
    script_says (words_of c.args.inputs.now) o CannotRead c.print.result text says (λ now. (text, says, now)) (put_line _ text CannotRead _ _ _ c.path_line.ensures c.print.ensures) c.args.last.now c.requires

pub returns-in-Done : goal.returns-in-Done
returns-in-Done g c =
    let o = outside (g.F.Files.seen c.args.files.now) (g.F.Files.seen c.run_script.new.files) (g.S.Sink.seen c.args.out.now) (g.S.Sink.seen c.run_script.new.out) in
    let text = c.first_of.ensures.value ∙ ap (λ (files : List (Vec ℕ Global)). first_of (all_bytes files)) c.deref.ensures.value in
    inr (begun (words_of c.args.inputs.now) _ _ _ (g.F.Files.seen c.read_all.new.files) o c.in-All.ensures text c.in-Done.ensures)

pub returns-in-CannotPrint : goal.returns-in-CannotPrint
returns-in-CannotPrint g c =
    let o = outside (g.F.Files.seen c.args.files.now) (g.F.Files.seen c.run_script.new.files) (g.S.Sink.seen c.args.out.now) (g.S.Sink.seen c.run_script.new.out) in
    let text = c.first_of.ensures.value ∙ ap (λ (files : List (Vec ℕ Global)). first_of (all_bytes files)) c.deref.ensures.value in
    inr (begun (words_of c.args.inputs.now) _ _ _ (g.F.Files.seen c.read_all.new.files) o c.in-All.ensures text c.in-CannotPrint.ensures, c.requires)

pub returns-in-Refused : goal.returns-in-Refused
returns-in-Refused g c =
    let o = outside (g.F.Files.seen c.args.files.now) (g.F.Files.seen c.run_script.new.files) (g.S.Sink.seen c.args.out.now) (g.S.Sink.seen c.print-in-Refused.new.out) in
    let text_is = c.first_of.ensures.value ∙ ap (λ (files : List (Vec ℕ Global)). first_of (all_bytes files)) c.deref.ensures.value in
    let fault = c.in-Refused.fault in
    let ended = c.in-Refused.ensures in
    let text = script_line (script_cause_name fault.cause) fault.line in
    let says : ScriptSays Refused (words_of c.args.inputs.now) o text = (fault, bad_script (words_of c.args.inputs.now) _ _ fault (g.F.Files.seen c.read_all.new.files) o c.in-All.ensures text_is ended.0 ended.1.0, refl) in
    script_says (words_of c.args.inputs.now) o Refused c.print-in-Refused.result text says (λ now. (text, says, now))
    (subst (λ (s : SinkSeen). IsPut text Refused c.print-in-Refused.result s (g.S.Sink.seen c.print-in-Refused.new.out)) ended.1.1
    (put_line _ text Refused _ _ _ (rw c.script_cause_name.ensures at c.script_line-line.ensures) c.print-in-Refused.ensures)) c.args.last.now c.requires
