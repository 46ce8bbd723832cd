use Rattle.std.proofs.Common.{◌≡◌, length, sym, ◌∙◌, arith}
use Rattle.std.proofs.lemmas.Bool.{eqb-true}
use Rattle.orca_operands.specs.TextView.{kept_text}
use Rattle.orca_operands.proofs.Putting.{flush_nothing}
use Rattle.orca_operands.proofs.Quoted.{nothing}
use Rattle.orca_operands.proofs.writer.RecordWriter.flush.Goals as goal

pub returns-then-is_empty-clause-text : goal.returns-then-is_empty-clause-text
returns-then-is_empty-clause-text c =
    let none = eqb-true _ 0 (sym c.is_empty.ensures ∙ c.if-is_empty.true) in
    let empty : length c.args.self.now.waiting.items ≡ 0 = omega (arith, none, c.args.self.now.waiting.ok) in
    flush_nothing c.args.self.now.waiting.items (kept_text c.args.self.now.text) (nothing c.args.self.now.waiting.items empty)
