use Rattle.std.proofs.Common.{◌≡◌, ◌∙◌, sym, refl, nat_lt, None, IsSome, arith}
use Rattle.iigs_meaning.specs.declared.handles.Handle.{Handle}
use Rattle.iigs_meaning.specs.laws.PlacementLaws.{lacks_room}
use Rattle.iigs_meaning.specs.Slots.{new_handle}
use Rattle.iigs_places.specs.Spots.{turn_of}
use Rattle.iigs_places.proofs.Marked.{marks_sized}
use Rattle.iigs_places.proofs.Puts.{arranged_put, free_limit}
use Rattle.iigs_places.proofs.Quick.{put_done, have_taken}
use Rattle.iigs_places.proofs.Takes.{no_handle, some_handle, emptied_handle}
use Rattle.iigs_places.proofs.table.put_block.Goals as goal

pub returns-then-left-eq0-clause-refused : goal.returns-then-left-eq0-clause-refused
returns-then-left-eq0-clause-refused c = no_handle c.args.table.now (sym c.left.ensures ∙ c.if-left-eq0.true)

pub returns-in_default-clause-refused : goal.returns-in_default-clause-refused
returns-in_default-clause-refused c = (
  refl,
  some_handle c.args.table.now (λ none. c.if-left-eq0.false (c.left.ensures ∙ none)),
  lacks_room c.args.map.now c.args.table.now c.args.want.now c.in_default.ensures.found,
)

pub unreachable-requires : goal.unreachable-requires
unreachable-requires c =
    let some : IsSome (new_handle c.args.table.now) = some_handle c.args.table.now (λ none. c.if-left-eq0.false (c.left.ensures ∙ none)) in
    let none : None ≡ new_handle c.args.table.now = c.in-Err.ensures.handle ∙ rw c.empty_below.ensures (emptied_handle (λ block. nat_lt (turn_of block) c.in-Some.found.limit) c.args.table.now) in
    let no : IsSome {T = Handle} None = rw (← none) at some in
    cc

pub overflow_add-end : goal.overflow_add-end
overflow_add-end c = omega (arith, free_limit c.args.map.now c.in-Some.found.at c.args.want.now.size c.requires.arranged.small c.requires.want.some c.in-Some.ensures.found.goes.fits.free)

pub lay_put-requires-clause-sized : goal.lay_put-requires-clause-sized
lay_put-requires-clause-sized c = (omega (arith, c.requires.want.some), free_limit c.args.map.now c.in-Some.found.at c.args.want.now.size c.requires.arranged.small c.requires.want.some c.in-Some.ensures.found.goes.fits.free)

pub lay_put-requires-clause-bounded : goal.lay_put-requires-clause-bounded
lay_put-requires-clause-bounded c = (arranged_put c.args.map.now c.args.table.now c.take.new.self c.args.want.now c.args.user c.args.locked c.args.level c.args.movable
    (record { handle = c.in-Ok.handle; at = c.in-Some.found.at }) c.requires.arranged c.requires.want c.ranges.level.fits
    (put_done c.args.map.now c.args.table.now c.args.want.now c.in-Some.found c.in-Some.ensures.found c.args.user c.args.locked c.args.level c.args.movable c.in-Ok.handle c.take.new.self
    (rw c.empty_below.ensures at c.in-Ok.ensures.handle) (rw c.empty_below.ensures at c.take.ensures.after))).bounded

pub lay_put-requires-clause-more : goal.lay_put-requires-clause-more
lay_put-requires-clause-more c none = rw (c.take.ensures.after, c.empty_below.ensures, c.join.ensures.marks)
    (have_taken c.args.table.now c.in-Some.found.limit none c.args.layout.now.marks.items c.requires.laid.have c.args.want.now c.in-Some.found.at c.args.user c.args.locked c.args.level c.args.movable c.in-Ok.handle
    (sym (c.in-Ok.ensures.handle ∙ rw c.empty_below.ensures (emptied_handle (λ block. nat_lt (turn_of block) c.in-Some.found.limit) c.args.table.now))))

pub returns-clause-put : goal.returns-clause-put
returns-clause-put c = put_done c.args.map.now c.args.table.now c.args.want.now c.in-Some.found c.in-Some.ensures.found c.args.user c.args.locked c.args.level c.args.movable c.in-Ok.handle c.take.new.self
    (rw c.empty_below.ensures at c.in-Ok.ensures.handle) (rw c.empty_below.ensures at c.take.ensures.after)

pub returns-clause-arranged : goal.returns-clause-arranged
returns-clause-arranged c = arranged_put c.args.map.now c.args.table.now c.take.new.self c.args.want.now c.args.user c.args.locked c.args.level c.args.movable
    (record { handle = c.in-Ok.handle; at = c.in-Some.found.at }) c.requires.arranged c.requires.want c.ranges.level.fits
    (put_done c.args.map.now c.args.table.now c.args.want.now c.in-Some.found c.in-Some.ensures.found c.args.user c.args.locked c.args.level c.args.movable c.in-Ok.handle c.take.new.self
    (rw c.empty_below.ensures at c.in-Ok.ensures.handle) (rw c.empty_below.ensures at c.take.ensures.after))

pub join-requires-clause-sized : goal.join-requires-clause-sized
join-requires-clause-sized c = marks_sized c.args.table.now c.args.layout.now.marks.items c.requires.arranged.bounded c.requires.laid.have
