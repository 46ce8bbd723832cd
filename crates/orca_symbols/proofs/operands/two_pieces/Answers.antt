use Rattle.std.proofs.Common.{sym, ◌∙◌}
use Rattle.orca_symbols.proofs.Parted.{three_are}
use Rattle.orca_symbols.proofs.operands.two_pieces.Goals as goal

pub returns-then-piece_len-rest : goal.returns-then-piece_len-rest
returns-then-piece_len-rest c =
    three_are c.args.separator c.args.text.bytes.now c.split_at.result.0.now c.in-Some.rest.now c.in-Some.field-0-0.now c.piece_len.result c.piece_len-2.result c.piece_len.ensures.value c.split_at.ensures.front
    (sym c.split_at.ensures.back ∙ c.in-Some.ensures.cases.0) c.piece_len-2.ensures.value c.if-piece_len-rest.true
