use Rattle.std.proofs.Common.{refl}
use Rattle.iigs_compact_memory.proofs.Making.{lacks_by_slides, has_handle}
use Rattle.iigs_compact_memory.proofs.Placing.{room_found, placed_after, placed_settled}
use Rattle.iigs_compact_memory.proofs.place.slide_and_place.Goals as goal

pub returns-then-not-make_room-clause-refused : goal.returns-then-not-make_room-clause-refused
returns-then-not-make_room-clause-refused c = (refl, c.requires.handle, lacks_by_slides c.args.banks.now.banks c.args.banks.now.slots c.args.want.now c.requires.none (c.make_room.ensures.no c.if-not-make_room.true))

pub returns-then-not-make_room-clause-settled : goal.returns-then-not-make_room-clause-settled
returns-then-not-make_room-clause-settled c = c.make_room.ensures.settled

pub unreachable-requires-in-Err-NoHandle : goal.unreachable-requires-in-Err-NoHandle
unreachable-requires-in-Err-NoHandle c =
    let needs = c.make_room.ensures.yes c.if-not-make_room.false in
    has_handle c.args.banks.now.banks c.args.banks.now.slots c.make_room.new.banks.slots c.args.want.now needs.0 c.requires.none needs.1 c.requires.handle
    (rw c.in-Err-NoHandle.field-0-is at c.in-Err-NoHandle.ensures.refused)

pub unreachable-requires-in-Err-NoRoom : goal.unreachable-requires-in-Err-NoRoom
unreachable-requires-in-Err-NoRoom c =
    let needs = c.make_room.ensures.yes c.if-not-make_room.false in
    let refused = rw c.in-Err-NoRoom.field-0-is at c.in-Err-NoRoom.ensures.refused in
    room_found c.args.banks.now c.make_room.new.banks c.args.want.now needs.0 c.requires.none needs.1 (c.make_room.ensures.kept c.if-not-make_room.false) refused.2

pub returns-clause-placed : goal.returns-clause-placed
returns-clause-placed c =
    let needs = c.make_room.ensures.yes c.if-not-make_room.false in
    placed_after c.args.banks.now c.make_room.new.banks c.args.want.now needs.0 c.requires.none needs.1 (c.make_room.ensures.kept c.if-not-make_room.false)
    c.put.new.self c.args.user c.args.locked c.args.level c.args.movable c.in-Ok.h c.in-Ok.ensures.placed

pub returns-clause-settled : goal.returns-clause-settled
returns-clause-settled c = placed_settled c.make_room.new.banks c.put.new.self c.args.want.now c.args.user c.args.locked c.args.level c.args.movable c.in-Ok.h c.requires.want c.make_room.ensures.settled c.in-Ok.ensures.placed
