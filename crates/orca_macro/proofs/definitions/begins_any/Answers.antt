use Rattle.std.proofs.Common.{sym, ◌∙◌, arith}
use Rattle.orca_text.specs.View.{line}
use Rattle.orca_macro.proofs.Scans.{any_here, any_later, any_nowhere}
use Rattle.orca_macro.proofs.definitions.begins_any.Goals as goal

pub returns-then-operation_is : goal.returns-then-operation_is
returns-then-operation_is c =
    any_here c.args.lines.now c.lines.at (line c.in-Some.line.now) c.in-Some.ensures.line (sym c.operation_is.ensures ∙ c.if-operation_is.true) c.lines.invariant

pub lines-preserved : goal.lines-preserved
lines-preserved c =
    any_later c.args.lines.now c.lines.at (line c.in-Some.line.now) c.in-Some.ensures.line (sym c.operation_is.ensures ∙ c.if-operation_is.false) c.lines.invariant

pub returns : goal.returns
returns c = any_nowhere c.args.lines.now c.lines.at (omega (arith, c.count.ensures, c.lines-test.false)) c.lines.invariant
