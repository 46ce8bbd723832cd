use Rattle.std.proofs.Common.{map, arith, sym, ◌∙◌}
use Rattle.std.proofs.lemmas.Bool.{eqb-true}
use Rattle.std.proofs.lemmas.List.{length-map}
use Rattle.loader_machine.specs.laws.ScriptLaws.{AreGood-few}
use Rattle.script_text.specs.View.{command}
use Rattle.script_text.proofs.Come.{come_on, come_through}
use Rattle.script_text.proofs.script.read_script.Goals as goal

pub lines-preserved : goal.lines-preserved
lines-preserved c =
    come_on c.args.text.now c.lines.rest.now c.split_line.result.0.now c.split_line.result.1.now c.lines.before
    (map command c.lines.commands.items) (map command c.take_line.new.commands.items) c.lines.invariant c.split_line.ensures.lines c.in-Ok.ensures.ok

pub invariant_of-result : goal.invariant_of-result
invariant_of-result c =
    let come = c.lines.invariant in
    omega (arith, length-map c.lines.commands.items command, AreGood-few come.done (map command c.lines.commands.items) come.good)

pub returns-clause-commands : goal.returns-clause-commands
returns-clause-commands c =
    come_through c.args.text.now c.lines.rest.now c.lines.before (map command c.lines.commands.items) c.lines.invariant
    (eqb-true _ _ (sym c.is_empty.ensures ∙ c.lines-test.false))
