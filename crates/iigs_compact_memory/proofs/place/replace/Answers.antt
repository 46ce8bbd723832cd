use Rattle.std.proofs.Common.{◌∙◌, ap, sym}
use Rattle.iigs_meaning.specs.Memory.{Memory}
use Rattle.iigs_compact_memory.proofs.Making.{none_at_all}
use Rattle.iigs_compact_memory.proofs.Placing.{replaced_at_once, replaced_settled, same_settled}
use Rattle.iigs_compact_memory.proofs.place.replace.Goals as goal

pub returns-in-Ok-clause-replaced : goal.returns-in-Ok-clause-replaced
returns-in-Ok-clause-replaced c = replaced_at_once c.args.banks.now c.replace.new.self c.args.want.now c.args.h c.in-Ok.ensures.replaced

pub returns-in-Ok-clause-settled : goal.returns-in-Ok-clause-settled
returns-in-Ok-clause-settled c = replaced_settled c.args.banks.now c.replace.new.self c.args.want.now c.args.h c.requires.want c.requires.settled c.in-Ok.ensures.replaced

pub returns-in-Ok-clause-banks : goal.returns-in-Ok-clause-banks
returns-in-Ok-clause-banks c = c.requires.banks ∙ sym c.in-Ok.ensures.replaced.kept.banks

pub slide_and_replace-requires-clause-banks : goal.slide_and_replace-requires-clause-banks
slide_and_replace-requires-clause-banks c = c.requires.banks ∙ ap (λ (m : Memory). m.banks) (sym c.in-Err-NoRoom.ensures.err)

pub slide_and_replace-requires-clause-settled : goal.slide_and_replace-requires-clause-settled
slide_and_replace-requires-clause-settled c = same_settled c.args.banks.now c.replace.new.self c.in-Err-NoRoom.ensures.err c.requires.settled

pub slide_and_replace-requires-clause-none : goal.slide_and_replace-requires-clause-none
slide_and_replace-requires-clause-none c = rw c.in-Err-NoRoom.ensures.err (none_at_all c.args.banks.now.banks c.args.banks.now.slots c.args.want.now (rw c.in-Err-NoRoom.field-0-is at c.in-Err-NoRoom.ensures.refused).2)

pub slide_and_replace-requires-clause-empty : goal.slide_and_replace-requires-clause-empty
slide_and_replace-requires-clause-empty c = rw c.in-Err-NoRoom.ensures.err (rw c.in-Err-NoRoom.field-0-is at c.in-Err-NoRoom.ensures.refused).1
