use Rattle.std.proofs.Common.{◌≤◌, ◌+◌, map, length, arith}
use Rattle.std.proofs.lemmas.List.{length-map}
use Rattle.name_map.specs.Held.{value_of_name}
use Rattle.orca_macro.specs.Parts.{definition}
use Rattle.orca_macro.proofs.Firsts.{no_first, next_name}
use Rattle.name_map.proofs.Maps.{empty_held}
use Rattle.orca_symbols.proofs.Parted.{get_inside}
use Rattle.orca_macro.proofs.program.names_of.Goals as goal

pub definitions-init : goal.definitions-init
definitions-init c = (λ q. no_first q (value_of_name c.new-names.result q) (empty_held c.new-names.result c.new-names.ensures.empty q), omega arith)

pub definitions-smaller : goal.definitions-smaller
definitions-smaller c =
    let inside : c.definitions.at + 1 ≤ length (map definition c.args.definitions.now) = get_inside (map definition c.args.definitions.now) c.definitions.at (definition c.in-Some.found.now) c.in-Some.ensures in
    omega (arith, inside, length-map c.args.definitions.now definition)

pub definitions-preserved : goal.definitions-preserved
definitions-preserved c =
    let inside : c.definitions.at + 1 ≤ length (map definition c.args.definitions.now) = get_inside (map definition c.args.definitions.now) c.definitions.at (definition c.in-Some.found.now) c.in-Some.ensures in (
      λ q. next_name q (map definition c.args.definitions.now) c.definitions.at (definition c.in-Some.found.now) (value_of_name c.definitions.names q) (value_of_name c.add_name.new.names q) c.in-Some.ensures
          (omega (arith, inside)) (c.definitions.invariant.0 q) (rw c.bytes.ensures.value at (c.in_ok-add_name.ensures q)),
      omega (arith, inside, length-map c.args.definitions.now definition),
    )
