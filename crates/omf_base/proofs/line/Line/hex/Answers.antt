use Rattle.std.proofs.lemmas.List.{take_rest}
use Rattle.omf_base.proofs.Hex.{hexadecimal-places}
use Rattle.omf_base.proofs.line.Line.hex.Goals as goal

pub returns-clause-ok : goal.returns-clause-ok
returns-clause-ok c =
    let made = c.hex_places-from.ensures in
    let printed = hexadecimal-places c.hex_places-from.result.0 c.hex_places-from.result.1 c.min-first.result c.args.digits c.args.value made.eight made.shown made.zeros c.min-first.ensures made.within c.requires in
    rw (← printed, ← take_rest c.hex_places-from.result.0 c.min-first.result, made.eight) c.put.ensures.ok
