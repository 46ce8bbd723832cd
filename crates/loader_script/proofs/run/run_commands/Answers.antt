use Rattle.std.proofs.Common.{Result, subst, arith}
use Rattle.std.proofs.lemmas.Result.{err_from_is_err_and}
use Rattle.omf_io.specs.Outside.{outside}
use Rattle.loader_machine.specs.Replies.{reply_line}
use Rattle.loader_machine.specs.Commands as step
use Rattle.script_text.specs.View as view
use Rattle.loader_replies.specs.declared.command.ReplyStop.{ReplyStop}
use Rattle.loader_replies.specs.Answered.{HasAnswered}
use Rattle.loader_script.proofs.UnderWay.{no_loader, nothing_yet, first_answered, goes_past, stops_at, later_command, first_command, ended, ended_empty, no_memory}
use Rattle.loader_script.proofs.run.run_commands.Goals as goal

pub returns-in-None : goal.returns-in-None
returns-in-None g c = ended_empty c.args.script.now (g.F.Files.seen c.args.files.now) (g.S.Sink.seen c.args.out.now) c.in-None.ensures

pub first_loader-requires : goal.first_loader-requires
first_loader-requires g c = first_command c.args.script.now (view.command c.in-Some.first.now) c.requires c.in-Some.ensures

pub returns-in-Err : goal.returns-in-Err
returns-in-Err g c =
    let first = first_command c.args.script.now (view.command c.in-Some.first.now) c.requires c.in-Some.ensures in
    no_memory c.args.script.now (view.command c.in-Some.first.now) (g.F.Files.seen c.args.files.now) (g.S.Sink.seen c.args.out.now) first c.in-Some.ensures

pub returns-in_err-print : goal.returns-in_err-print
returns-in_err-print g c =
    let p = err_from_is_err_and c.from_residual.result c.from_residual.ensures.1 in
    let store = g.F.Files.seen c.args.files.now in
    let sink = g.S.Sink.seen c.args.out.now in
    let now = g.S.Sink.seen c.print.new.out in
    let command = view.command c.in-Some.first.now in
    let first = first_answered store sink now command c.in-Ok.loader c.print.result c.in-Ok.ensures (c.print.ensures.printed (reply_line step.Okay) c.okay_line.ensures) in
    rw (p.1, p.2) (stops_at store store store sink sink now c.args.script.now 0 command no_loader c.in-Ok.loader (nothing_yet store sink) c.in-Some.ensures c.in_err-print.field-0.0
    (subst (λ (r : Result (Unit {0}) ReplyStop). HasAnswered r command no_loader c.in-Ok.loader (outside store store sink now)) c.in_err-print.was first))

pub commands-init : goal.commands-init
commands-init g c =
    let store = g.F.Files.seen c.args.files.now in
    let sink = g.S.Sink.seen c.args.out.now in
    let now = g.S.Sink.seen c.print.new.out in
    let command = view.command c.in-Some.first.now in
    let first = first_answered store sink now command c.in-Ok.loader c.print.result c.in-Ok.ensures (c.print.ensures.printed (reply_line step.Okay) c.okay_line.ensures) in
    goes_past store store store sink sink now c.args.script.now 0 command no_loader c.in-Ok.loader (nothing_yet store sink) c.in-Some.ensures
    (subst (λ (r : Result (Unit {0}) ReplyStop). HasAnswered r command no_loader c.in-Ok.loader (outside store store sink now)) c.in_ok-print.was first)

pub run_command-requires : goal.run_command-requires
run_command-requires g c = later_command c.args.script.now c.commands.place (view.command c.in-Some-get.command.now) c.requires c.commands.auto.place c.in-Some-get.ensures

pub returns-in_err-run_command : goal.returns-in_err-run_command
returns-in_err-run_command g c =
    let p = err_from_is_err_and c.from_residual-in_err-run_command.result c.from_residual-in_err-run_command.ensures.1 in
    let mid = g.F.Files.seen c.commands.files in
    let now = g.F.Files.seen c.run_command.new.files in
    let sink = g.S.Sink.seen c.commands.out in
    let new = g.S.Sink.seen c.run_command.new.out in
    let command = view.command c.in-Some-get.command.now in
    rw (p.1, p.2) (stops_at (g.F.Files.seen c.args.files.now) mid now (g.S.Sink.seen c.args.out.now) sink new c.args.script.now c.commands.place command c.commands.loader c.run_command.new.loader
    c.commands.invariant c.in-Some-get.ensures c.in_err-run_command.field-0.0
    (subst (λ (r : Result (Unit {0}) ReplyStop). HasAnswered r command c.commands.loader c.run_command.new.loader (outside mid now sink new)) c.in_err-run_command.was c.run_command.ensures))

pub commands-preserved : goal.commands-preserved
commands-preserved g c =
    let mid = g.F.Files.seen c.commands.files in
    let now = g.F.Files.seen c.run_command.new.files in
    let sink = g.S.Sink.seen c.commands.out in
    let new = g.S.Sink.seen c.run_command.new.out in
    let command = view.command c.in-Some-get.command.now in
    goes_past (g.F.Files.seen c.args.files.now) mid now (g.S.Sink.seen c.args.out.now) sink new c.args.script.now c.commands.place command c.commands.loader c.run_command.new.loader
    c.commands.invariant c.in-Some-get.ensures
    (subst (λ (r : Result (Unit {0}) ReplyStop). HasAnswered r command c.commands.loader c.run_command.new.loader (outside mid now sink new)) c.in_ok-run_command.was c.run_command.ensures)

pub returns : goal.returns
returns g c =
    ended c.args.script.now c.commands.place (view.command c.in-Some.first.now) c.commands.loader
    (outside (g.F.Files.seen c.args.files.now) (g.F.Files.seen c.commands.files) (g.S.Sink.seen c.args.out.now) (g.S.Sink.seen c.commands.out))
    (omega (arith, c.commands-test.false, c.count-place-end.ensures)) c.in-Some.ensures c.commands.invariant
