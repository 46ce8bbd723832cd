use Rattle.std.proofs.Common.{◌∙◌, arith}
use Rattle.omf_header.specs.View.{fields}
use Rattle.omf_format.specs.laws.FileLaws.{header_lies}
use Rattle.link_tables.proofs.SegmentName.{load_name_lies}
use Rattle.link_tables.proofs.segname.load_name.Goals as goal

pub bytes_at-requires : goal.bytes_at-requires
bytes_at-requires c =
    let v = c.args.segment.now in
    let inside = header_lies v.start (fields v.header) v.file.now c.requires.header in
    let lies = load_name_lies v.start (fields v.header) v.file.now c.requires.header (omega (arith, inside.within)) in
    lies.1

pub returns : goal.returns
returns c =
    let v = c.args.segment.now in
    let inside = header_lies v.start (fields v.header) v.file.now c.requires.header in
    let lies = load_name_lies v.start (fields v.header) v.file.now c.requires.header (omega (arith, inside.within)) in
    c.bytes_at.ensures ∙ lies.0
