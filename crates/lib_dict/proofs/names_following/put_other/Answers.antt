use Rattle.std.proofs.Common.{arith}
use Rattle.omf_format.specs.laws.FileLaws.{header_lies}
use Rattle.omf_header.specs.View.{fields}
use Rattle.lib_dict.proofs.names_following.put_other.Goals as goal

pub put_rows-requires-clause-fits : goal.put_rows-requires-clause-fits
put_rows-requires-clause-fits c =
    let v = c.args.view.now in
    let lies = header_lies v.start (fields v.header) v.file.now c.requires.placed'.header in
    omega (arith, lies.within, c.requires.placed'.short)
