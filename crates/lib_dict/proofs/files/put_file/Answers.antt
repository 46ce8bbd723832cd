use Rattle.std.proofs.Common.{map, arith}
use Rattle.omf_format.specs.laws.FileLaws.{header_lies}
use Rattle.omf_header.specs.View.{fields}
use Rattle.lib_dict.specs.View.{outer_row}
use Rattle.lib_dict.proofs.FileLaws.{file_next, file_all}
use Rattle.lib_dict.proofs.files.put_file.Goals as goal

pub put_rows-requires-clause-fits : goal.put_rows-requires-clause-fits
put_rows-requires-clause-fits c =
    let v = c.in-Some.view.now in
    let lies = header_lies v.start (fields v.header) v.file.now c.in-Some.ensures.sound.placed'.header in
    omega (arith, lies.within, c.in-Some.ensures.sound.placed'.short, c.requires.fits)

pub returns-in-None : goal.returns-in-None
returns-in-None c =
    file_all c.args.file c.args.front c.args.list.now c.segments.passed (map outer_row c.args.rows.now.items) (map outer_row c.segments.rows.items) c.segments.invariant c.in-None.ensures.value

pub segments-preserved : goal.segments-preserved
segments-preserved c =
    file_next c.args.file c.args.front c.args.list.now c.segments.passed c.in-Some.view.now (map outer_row c.args.rows.now.items) (map outer_row c.segments.rows.items) (map outer_row c.put_rows.new.rows.items) c.segments.invariant c.in-Some.ensures.value c.in_ok-put_rows-in-Some.ensures
