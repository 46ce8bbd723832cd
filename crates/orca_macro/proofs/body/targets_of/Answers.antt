use Rattle.std.proofs.Common.{◌≡◌, length, take, arith}
use Rattle.std.proofs.lemmas.List.{length-take}
use Rattle.orca_text.specs.View.{line}
use Rattle.name_map.specs.Held.{value_of_name}
use Rattle.name_map.proofs.Maps.{empty_held}
use Rattle.orca_macro.proofs.Targets.{more_places, no_places}
use Rattle.orca_macro.proofs.body.targets_of.Goals as goal

pub lines-init : goal.lines-init
lines-init c = (λ q. no_places q (value_of_name c.new-targets.result q) (empty_held c.new-targets.result c.new-targets.ensures.empty q), omega arith)

pub lines-preserved : goal.lines-preserved
lines-preserved c =
    let inv = c.lines.invariant in
    let size : length (take c.lines.at c.args.lines.now) ≡ c.lines.at = omega (arith, length-take c.lines.at c.args.lines.now, c.lines-test.true, c.requires) in (
      λ q. more_places q c.args.lines.now (line c.in-Some.line.now) c.lines.at (value_of_name c.lines.targets q) (value_of_name c.add_line.new.targets q) c.in-Some.ensures.line size (inv.0 q) (c.in_ok-add_line.ensures q),
      omega (arith, c.lines-test.true),
    )
