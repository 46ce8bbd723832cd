use Rattle.std.proofs.Common.{◌≡◌, ◌<◌, ◌∷◌, ◌++◌, [], false, List, map, Ok, sym, ap, ◌∙◌, arith}
use Rattle.std.proofs.lemmas.List.{map-append}
use Rattle.loader_machine.specs.Script.{is_skipped, most_lines, line_command, is_start}
use Rattle.script_text.specs.declared.command.Command.{Command}
use Rattle.script_text.specs.View.{command}
use Rattle.script_text.specs.Lines.{Gave}
use Rattle.script_text.proofs.script.take_line.Goals as goal

pub returns-clause-ok : goal.returns-clause-ok
returns-clause-ok c =
    let less : c.args.before < most_lines = omega arith in
    let is : is_skipped c.args.line.now ≡ false = sym c.is_skipped.ensures ∙ c.if-is_skipped.false in
    let start : c.is_start.result ≡ is_start (map command c.args.commands.now.items) =
    c.is_start.ensures ∙ ap (λ (cs : List Command). is_start (map command cs)) c.as_slice.ensures.value in
    let gives : line_command (is_start (map command c.args.commands.now.items)) c.args.line.now ≡ Ok (command c.in_ok-found.found) =
    rw (← start) c.in_ok-found.ensures in
    let same : map command c.push.new.self.items ≡ map command c.args.commands.now.items ++ command c.in_ok-found.found ∷ [] =
    ap (map command) c.in_ok-push.ensures.items ∙ map-append command c.args.commands.now.items (c.in_ok-found.found ∷ []) in
    Gave less is (command c.in_ok-found.found) gives same
