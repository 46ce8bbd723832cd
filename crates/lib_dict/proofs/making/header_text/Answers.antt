use Rattle.std.proofs.Common.{◌+◌, refl, sym, ap, subst, ◌∙◌, length, arith}
use Rattle.omf_format.specs.Header.{HeaderFields, header_bytes, IsWritable}
use Rattle.lib_dict.proofs.making.header_text.Goals as goal

pub write_header-requires : goal.write_header-requires
write_header-requires c = subst IsWritable (sym c.in_ok-header.ensures) (record { version = refl; banks = omega arith; listed = refl; spaced = omega arith })

pub unreachable-requires : goal.unreachable-requires
unreachable-requires c =
    let long = (rw c.in-Err-TooLong.field-0-is at c.in-Err-TooLong.ensures.too_long).0 refl in
    omega (arith, long, ap (λ (f : HeaderFields). length f.name) c.in_ok-header.ensures, c.requires)

pub returns-in-Ok : goal.returns-in-Ok
returns-in-Ok c = c.in-Ok.ensures.bytes ∙ ap (λ (f : HeaderFields). header_bytes f (16 + c.args.length)) c.in_ok-header.ensures
