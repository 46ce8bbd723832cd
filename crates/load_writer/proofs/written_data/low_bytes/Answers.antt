use Rattle.std.proofs.Common.{sym, ◌∙◌, arith}
use Rattle.load_writer.specs.WrittenParts.{seen}
use Rattle.load_meaning.specs.laws.FormLaws.{type_two, stored_two}
use Rattle.load_writer.proofs.written_data.low_bytes.Goals as goal

pub overflow_cast-result : goal.overflow_cast-result
overflow_cast-result c =
    let two = type_two c.args.own (seen c.args.patch.now) (sym c.is_far.ensures ∙ c.if-is_far.true) in
    omega (arith, two.0)

pub returns-then-is_far : goal.returns-then-is_far
returns-then-is_far c =
    stored_two c.args.own (seen c.args.patch.now) c.to_le_bytes.result c.to_le_bytes.ensures (sym c.is_far.ensures ∙ c.if-is_far.true)
