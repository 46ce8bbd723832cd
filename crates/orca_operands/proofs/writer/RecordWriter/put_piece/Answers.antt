use Rattle.std.proofs.Common.{◌++◌, ap, ◌∙◌}
use Rattle.orca_operands.specs.TextView.{kept_text}
use Rattle.orca_operands.proofs.Putting.{piece_bytes, piece_formula, piece_strong, plain_piece, wrote_bytes, wrote_same}
use Rattle.orca_operands.proofs.writer.RecordWriter.put_piece.Goals as goal

pub put_formula-requires : goal.put_formula-requires
put_formula-requires c =
    plain_piece _ _ (piece_formula c.args.of.now c.in-Formula.code c.in-Formula.count c.in-Formula.n c.in-Formula.expr c.as_slice-in-Formula.result.now c.in-Formula.is c.as_slice-in-Formula.ensures.value) c.requires

pub put_strong-requires : goal.put_strong-requires
put_strong-requires c = plain_piece _ _ (piece_strong c.args.of.now c.in-Strong.name c.bytes.result.now c.in-Strong.is c.bytes.ensures.value) c.requires

pub returns-in_ok-extend_from_slice-in-Bytes : goal.returns-in_ok-extend_from_slice-in-Bytes
returns-in_ok-extend_from_slice-in-Bytes c = λ whole rest w.
    wrote_bytes whole (kept_text c.args.self.now.text) c.args.self.now.waiting.items c.in-Bytes.bytes.items c.extend_from_slice.new.self.items rest
    (c.in_ok-extend_from_slice-in-Bytes.ensures.items ∙ ap (λ l. c.args.self.now.waiting.items ++ l) c.as_slice.ensures.value) (wrote_same whole (kept_text c.args.self.now.text) c.args.self.now.waiting.items _ _ rest (piece_bytes c.args.of.now c.in-Bytes.bytes c.in-Bytes.is) w)

pub returns-in_ok-put_formula-in-Formula : goal.returns-in_ok-put_formula-in-Formula
returns-in_ok-put_formula-in-Formula c = λ whole rest w.
    c.in_ok-put_formula-in-Formula.ensures whole rest (wrote_same whole (kept_text c.args.self.now.text) c.args.self.now.waiting.items _ _ rest
    (piece_formula c.args.of.now c.in-Formula.code c.in-Formula.count c.in-Formula.n c.in-Formula.expr c.as_slice-in-Formula.result.now c.in-Formula.is c.as_slice-in-Formula.ensures.value) w)

pub returns-in_ok-put_strong-in-Strong : goal.returns-in_ok-put_strong-in-Strong
returns-in_ok-put_strong-in-Strong c = λ whole rest w.
    c.in_ok-put_strong-in-Strong.ensures whole rest (wrote_same whole (kept_text c.args.self.now.text) c.args.self.now.waiting.items _ _ rest
    (piece_strong c.args.of.now c.in-Strong.name c.bytes.result.now c.in-Strong.is c.bytes.ensures.value) w)
