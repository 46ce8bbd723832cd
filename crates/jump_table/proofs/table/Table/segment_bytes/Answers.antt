use Rattle.jump_table.proofs.Places.{laid_out_in}
use Rattle.jump_table.proofs.table.Table.segment_bytes.Goals as goal

pub returns-clause-laid_out : goal.returns-clause-laid_out
returns-clause-laid_out c = laid_out_in (λ bytes. bytes.items) c.args.self.now c.body_bytes.result c.body_bytes.ensures.fit c.body_bytes.ensures.bytes
