use Rattle.omf_io.specs.Outside.{outside}
use Rattle.script_text.specs.View as view
use Rattle.loader_replies.proofs.OneCommand.{line_answered}
use Rattle.loader_replies.proofs.command.run_command.Goals as goal

pub returns : goal.returns
returns g c =
    line_answered c.reply-line.result c.print.result (view.command c.args.command.now) c.args.loader.now c.reply-line.new.loader
    (outside (g.F.Files.seen c.args.files.now) (g.F.Files.seen c.reply-line.new.files) (g.S.Sink.seen c.args.out.now) (g.S.Sink.seen c.print.new.out)) c.reply-line.ensures c.print.ensures.printed c.print.ensures.short
