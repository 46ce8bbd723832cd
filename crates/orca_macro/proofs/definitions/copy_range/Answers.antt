use Rattle.std.proofs.Common.{[], ◌∷◌, length, ap, length-append, arith}
use Rattle.orca_text.specs.View.{line}
use Rattle.orca_macro.proofs.Scans.{copy_more}
use Rattle.orca_macro.proofs.definitions.copy_range.Goals as goal

pub copy_line-requires-clause-own : goal.copy_line-requires-clause-own
copy_line-requires-clause-own c = c.requires.own c.lines.at (line c.in-Some.line.now) c.in-Some.ensures.line

pub lines-preserved : goal.lines-preserved
lines-preserved c =
    let inv = c.lines.invariant in (
      copy_more c.args.lines.now c.args.from c.lines.at (line c.in-Some.line.now) c.lines.found c.copy_line.new.to inv.1 c.in-Some.ensures.line inv.0 c.in_ok-copy_line.ensures,
      omega (arith, inv.1),
      omega (arith, c.lines-test.true),
      omega (arith, inv.3, ap length c.in_ok-copy_line.ensures, length-append c.lines.found (line c.in-Some.line.now ∷ [])),
    )
