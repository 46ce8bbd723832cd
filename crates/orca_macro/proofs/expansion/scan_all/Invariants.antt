use Rattle.std.proofs.Common.{◌≡◌, ◌++◌, drop, map}
use Rattle.orca_macro.specs.Parts.{definition}
use Rattle.orca_macro.specs.Files.{AllOwn, first_part_in, definitions_of}
use Rattle.orca_macro.proofs.expansion.scan_all.Given as goal

abbrev pub invariant-files : goal.invariant-files
invariant-files l =
    let left = drop l.lines-index l.macros in
    record {
      definitions : map definition l.definitions.items ++ definitions_of left ≡ map definition l.fn.definitions.items ++ definitions_of l.macros;
      good : first_part_in left ≡ first_part_in l.macros;
      own : AllOwn left;
    }
