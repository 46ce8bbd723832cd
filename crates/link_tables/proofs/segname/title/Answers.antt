use Rattle.std.proofs.Common.{◌+◌, ℕ, length, take, drop, ap, ◌∙◌, arith}
use Rattle.omf_header.specs.View.{fields}
use Rattle.omf_format.specs.laws.FileLaws.{header_lies}
use Rattle.link_tables.proofs.SegmentName.{name_lies}
use Rattle.link_tables.proofs.segname.title.Goals as goal

pub bytes_at-requires : goal.bytes_at-requires
bytes_at-requires c =
    let v = c.args.segment.now in
    let inside = header_lies v.start (fields v.header) v.file.now c.requires.header in
    let lies = name_lies v.start (fields v.header) v.file.now c.requires.header (omega (arith, inside.within)) in
    omega (arith, lies.within, c.name_start-names.ensures, ap length c.bytes-size.ensures.value)

pub returns : goal.returns
returns c =
    let v = c.args.segment.now in
    let inside = header_lies v.start (fields v.header) v.file.now c.requires.header in
    let lies = name_lies v.start (fields v.header) v.file.now c.requires.header (omega (arith, inside.within)) in
    c.bytes_at.ensures
    ∙ ap (λ (n : ℕ). take n (drop (v.start + c.name_start-names.result) v.file.now)) (ap length c.bytes-size.ensures.value)
    ∙ ap (λ (n : ℕ). take (length v.header.name) (drop (v.start + n) v.file.now)) c.name_start-names.ensures
    ∙ lies.text
