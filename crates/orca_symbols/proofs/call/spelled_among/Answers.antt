use Rattle.std.proofs.Common.{sym, ap, ◌∙◌, bytes_eq}
use Rattle.orca_meaning.specs.Characters.{folded}
use Rattle.orca_symbols.proofs.Binds.{is_here}
use Rattle.orca_symbols.proofs.call.spelled_among.Goals as goal

pub returns-then-is_spelled : goal.returns-then-is_spelled
returns-then-is_spelled c =
    let name = folded c.args.text.now in
    let same = ap (bytes_eq name) (sym c.bytes.ensures.value) ∙ sym c.is_spelled.ensures ∙ c.if-is_spelled.true in
    let here = is_here c.args.names.now c.names.name-index c.name-item.result name c.names-test.true c.name-item.is same in
    (here.0, c.bytes-then-is_spelled.ensures.value ∙ here.1)
