use Rattle.std.proofs.Common.{◌≡◌, ◌++◌, take}
use Rattle.std.specs.Prelude.{codes}
use Rattle.std.specs.List.{flat_map}
use Rattle.omf_base.specs.Digits.{hexadecimal}
use Rattle.list_lines.specs.OutputView.{finished_lines, open_line}
use Rattle.list_lines.proofs.lines.put_dc_bytes.Given as goal

-- the digits of the bytes so far are written
abbrev pub invariant-bytes : goal.invariant-bytes
invariant-bytes l = (open_line l.out ≡ codes " DC H'" ++ flat_map (hexadecimal 2) (take l.place l.bytes)) × (finished_lines l.out ≡ finished_lines l.fn.out)
