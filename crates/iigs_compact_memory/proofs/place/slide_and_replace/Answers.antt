use Rattle.std.proofs.Common.{◌≡◌, Option, Some, None, IsSomeAnd, refl}
use Rattle.iigs_meaning.specs.declared.wants.Block.{Block}
use Rattle.iigs_compact_memory.proofs.Making.{lacks_by_slides}
use Rattle.iigs_compact_memory.proofs.Placing.{room_found, room_live, room_empty, replaced_after, replaced_settled}
use Rattle.iigs_compact_memory.proofs.place.slide_and_replace.Goals as goal

-- the empty block
found : (o : Option Block) → IsSomeAnd o (λ block. block.at ≡ None) → (block : Block) × (o ≡ Some block) × (block.at ≡ None)
found None empty = absurd empty
found (Some block) empty = (block, refl, empty)

pub returns-then-not-make_room-clause-refused : goal.returns-then-not-make_room-clause-refused
returns-then-not-make_room-clause-refused c = (refl, c.requires.empty, lacks_by_slides c.args.banks.now.banks c.args.banks.now.slots c.args.want.now c.requires.none (c.make_room.ensures.no c.if-not-make_room.true))

pub unreachable-requires : goal.unreachable-requires
unreachable-requires c =
    let needs = c.make_room.ensures.yes c.if-not-make_room.false in
    let block = found _ c.requires.empty in
    room_live c.args.banks.now c.make_room.new.banks c.args.want.now needs.0 c.requires.none needs.1 (c.make_room.ensures.kept c.if-not-make_room.false) c.args.h block.0 block.1 block.2
    (rw c.in-Err-Stale.field-0-is at c.in-Err-Stale.ensures.refused)

pub unreachable-requires-in-Err-NotEmpty : goal.unreachable-requires-in-Err-NotEmpty
unreachable-requires-in-Err-NotEmpty c =
    let needs = c.make_room.ensures.yes c.if-not-make_room.false in
    let block = found _ c.requires.empty in
    room_empty c.args.banks.now c.make_room.new.banks c.args.want.now needs.0 c.requires.none needs.1 (c.make_room.ensures.kept c.if-not-make_room.false) c.args.h block.0 block.1 block.2
    (rw c.in-Err-NotEmpty.field-0-is at c.in-Err-NotEmpty.ensures.refused)

pub unreachable-requires-in-Err-NoRoom : goal.unreachable-requires-in-Err-NoRoom
unreachable-requires-in-Err-NoRoom c =
    let needs = c.make_room.ensures.yes c.if-not-make_room.false in
    let refused = rw c.in-Err-NoRoom.field-0-is at c.in-Err-NoRoom.ensures.refused in
    room_found c.args.banks.now c.make_room.new.banks c.args.want.now needs.0 c.requires.none needs.1 (c.make_room.ensures.kept c.if-not-make_room.false) refused.2

pub returns-clause-replaced : goal.returns-clause-replaced
returns-clause-replaced c =
    let needs = c.make_room.ensures.yes c.if-not-make_room.false in
    let block = found _ c.requires.empty in
    replaced_after c.args.banks.now c.make_room.new.banks c.args.want.now needs.0 c.requires.none needs.1 (c.make_room.ensures.kept c.if-not-make_room.false)
    c.replace.new.self c.args.h block.0 block.1 block.2 c.in-Ok.ensures.replaced

pub returns-clause-settled : goal.returns-clause-settled
returns-clause-settled c = replaced_settled c.make_room.new.banks c.replace.new.self c.args.want.now c.args.h c.requires.want c.make_room.ensures.settled c.in-Ok.ensures.replaced
