use Rattle.std.proofs.Common.{◌≡◌, ◌∙◌, sym, refl, None, false, arith}
use Rattle.iigs_meaning.specs.laws.PlacementLaws.{lacks_room}
use Rattle.iigs_places.proofs.Marked.{marks_sized}
use Rattle.iigs_places.proofs.Puts.{arranged_reput, free_limit, is_none}
use Rattle.iigs_places.proofs.Quick.{reput_done, have_reput}
use Rattle.iigs_places.proofs.table.replace_block.Goals as goal

pub returns-in_default-clause-refused : goal.returns-in_default-clause-refused
returns-in_default-clause-refused c = (refl, rw (← c.in-Ok.ensures) (is_none c.in-Ok.block.now.at (sym c.is_some.ensures ∙ c.if-is_some.false)), lacks_room c.args.map.now c.args.table.now c.args.want.now c.in_default.ensures.found)

pub overflow_add-end : goal.overflow_add-end
overflow_add-end c = omega (arith, free_limit c.args.map.now c.in-Some.found.at c.args.want.now.size c.requires.arranged.small c.requires.want.some c.in-Some.ensures.found.goes.fits.free)

pub lay_put-requires-clause-sized : goal.lay_put-requires-clause-sized
lay_put-requires-clause-sized c = (omega (arith, c.requires.want.some), free_limit c.args.map.now c.in-Some.found.at c.args.want.now.size c.requires.arranged.small c.requires.want.some c.in-Some.ensures.found.goes.fits.free)

pub lay_put-requires-clause-bounded : goal.lay_put-requires-clause-bounded
lay_put-requires-clause-bounded c = (arranged_reput c.args.map.now c.args.table.now c.set.new.table c.args.h c.args.want.now c.in-Some.found.at c.requires.arranged c.requires.want
    (reput_done c.args.map.now c.args.table.now c.args.want.now c.in-Some.found c.in-Some.ensures.found c.args.h c.in-Ok.block.now c.set.new.table (sym c.in-Ok.ensures)
    (is_none c.in-Ok.block.now.at (sym c.is_some.ensures ∙ c.if-is_some.false)) (rw c.empty_below.ensures at c.set.ensures))).bounded

pub lay_put-requires-clause-more : goal.lay_put-requires-clause-more
lay_put-requires-clause-more c none =
    let empty : c.in-Ok.block.now.at ≡ None = is_none c.in-Ok.block.now.at (sym c.is_some.ensures ∙ c.if-is_some.false) in
    rw (c.set.ensures, c.empty_below.ensures, c.join.ensures.marks)
    (have_reput c.args.table.now c.in-Some.found.limit none c.args.layout.now.marks.items c.requires.laid.have c.args.want.now c.in-Some.found.at c.in-Ok.block.now.user c.in-Ok.block.now.locked c.in-Ok.block.now.level false c.args.h c.in-Ok.block.now (sym c.in-Ok.ensures) empty)

pub returns-clause-arranged : goal.returns-clause-arranged
returns-clause-arranged c = arranged_reput c.args.map.now c.args.table.now c.set.new.table c.args.h c.args.want.now c.in-Some.found.at c.requires.arranged c.requires.want
    (reput_done c.args.map.now c.args.table.now c.args.want.now c.in-Some.found c.in-Some.ensures.found c.args.h c.in-Ok.block.now c.set.new.table (sym c.in-Ok.ensures)
    (is_none c.in-Ok.block.now.at (sym c.is_some.ensures ∙ c.if-is_some.false)) (rw c.empty_below.ensures at c.set.ensures))

pub join-requires-clause-sized : goal.join-requires-clause-sized
join-requires-clause-sized c = marks_sized c.args.table.now c.args.layout.now.marks.items c.requires.arranged.bounded c.requires.laid.have
