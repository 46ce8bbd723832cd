use Rattle.std.proofs.Common.{◌∙◌, ap, sym}
use Rattle.iigs_meaning.specs.Memory.{Memory}
use Rattle.iigs_compact_memory.proofs.Making.{none_at_all}
use Rattle.iigs_compact_memory.proofs.Placing.{placed_at_once, placed_settled, same_settled}
use Rattle.iigs_compact_memory.proofs.place.place.Goals as goal

pub returns-in-Ok-clause-placed : goal.returns-in-Ok-clause-placed
returns-in-Ok-clause-placed c = placed_at_once c.args.banks.now c.put.new.self c.args.want.now c.args.user c.args.locked c.args.level c.args.movable c.in-Ok.h c.in-Ok.ensures.placed

pub returns-in-Ok-clause-settled : goal.returns-in-Ok-clause-settled
returns-in-Ok-clause-settled c = placed_settled c.args.banks.now c.put.new.self c.args.want.now c.args.user c.args.locked c.args.level c.args.movable c.in-Ok.h c.requires.want c.requires.settled c.in-Ok.ensures.placed

pub returns-in-Ok-clause-banks : goal.returns-in-Ok-clause-banks
returns-in-Ok-clause-banks c = c.requires.banks ∙ sym c.in-Ok.ensures.placed.kept.banks

pub slide_and_place-requires-clause-banks : goal.slide_and_place-requires-clause-banks
slide_and_place-requires-clause-banks c = c.requires.banks ∙ ap (λ (m : Memory). m.banks) (sym c.in-Err-NoRoom.ensures.err)

pub slide_and_place-requires-clause-settled : goal.slide_and_place-requires-clause-settled
slide_and_place-requires-clause-settled c = same_settled c.args.banks.now c.put.new.self c.in-Err-NoRoom.ensures.err c.requires.settled

pub slide_and_place-requires-clause-none : goal.slide_and_place-requires-clause-none
slide_and_place-requires-clause-none c = rw c.in-Err-NoRoom.ensures.err (none_at_all c.args.banks.now.banks c.args.banks.now.slots c.args.want.now (rw c.in-Err-NoRoom.field-0-is at c.in-Err-NoRoom.ensures.refused).2)

pub slide_and_place-requires-clause-handle : goal.slide_and_place-requires-clause-handle
slide_and_place-requires-clause-handle c = rw c.in-Err-NoRoom.ensures.err (rw c.in-Err-NoRoom.field-0-is at c.in-Err-NoRoom.ensures.refused).1
