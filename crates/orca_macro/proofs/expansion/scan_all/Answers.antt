use Rattle.std.proofs.Common.{◌+◌, ◌++◌, drop, map, subst}
use Rattle.orca_symbols.proofs.Parted.{drop_read}
use Rattle.orca_macro.specs.Parts.{definition}
use Rattle.orca_macro.specs.Files.{AllOwn, first_part_in, definitions_of}
use Rattle.orca_macro.proofs.Whole.{scan_more, scan_good, scan_bad, scan_end, scan_all_good}
use Rattle.orca_macro.proofs.expansion.scan_all.Goals as goal

pub scan_file-requires : goal.scan_file-requires
scan_file-requires c =
    let first = drop_read c.args.macros.now c.files.lines-index c.lines-item.result c.files-test.true c.lines-item.is in
    record { own = (subst AllOwn first.1 c.files.invariant.own).0 }

pub returns-in-Err : goal.returns-in-Err
returns-in-Err c =
    let macros = c.args.macros.now in
    let i = c.files.lines-index in
    let lines = c.lines-item.result in
    let first = drop_read macros i lines c.files-test.true c.lines-item.is in
    scan_bad lines (drop (i + 1) macros) (drop i macros) (first_part_in macros) c.in-Err.fault first.1 c.files.invariant.good (rw c.in-Err.is at c.in_ok-fault.ensures)

pub files-preserved : goal.files-preserved
files-preserved c =
    let macros = c.args.macros.now in
    let i = c.files.lines-index in
    let lines = c.lines-item.result in
    let first = drop_read macros i lines c.files-test.true c.lines-item.is in
    let s = rw c.in-Ok.is at c.in_ok-fault.ensures in
    record {
      definitions = scan_more (map definition c.files.definitions.items) (map definition c.scan_file.new.definitions.items) lines (drop (i + 1) macros) (drop i macros)
          (map definition c.args.definitions.now.items ++ definitions_of macros) first.1 c.files.invariant.definitions s.2;
      good = scan_good lines (drop (i + 1) macros) (drop i macros) (first_part_in macros) first.1 c.files.invariant.good s.0;
      own = (subst AllOwn first.1 c.files.invariant.own).1;
    }

pub returns : goal.returns
returns c =
    let macros = c.args.macros.now in
    let i = c.files.lines-index in (
      scan_all_good macros i (first_part_in macros) c.files-test.false c.files.invariant.good,
      scan_end (map definition c.files.definitions.items) macros i (map definition c.args.definitions.now.items ++ definitions_of macros) c.files-test.false c.files.invariant.definitions,
    )
