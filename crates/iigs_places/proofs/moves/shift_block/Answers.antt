use Rattle.std.proofs.Common.{◌≡◌, ◌≤◌, false, IsSomeAnd, sym, arith}
use Rattle.iigs_meaning.specs.Slots.{get}
use Rattle.iigs_meaning.specs.Moves.{without_block}
use Rattle.iigs_meaning.specs.Fits.{Fits}
use Rattle.iigs_places.proofs.Marked.{marks_sized, is_marked}
use Rattle.iigs_places.proofs.Counting.{marks_apart}
use Rattle.iigs_places.proofs.Moved.{some_and, block_bounded, beside_apart, fits_others, fits_not, arranged_moved}
use Rattle.iigs_places.proofs.moves.shift_block.Goals as goal

pub fits_beside-requires-clause-want : goal.fits_beside-requires-clause-want
fits_beside-requires-clause-want c = (block_bounded c.args.table.now c.args.h c.in-Ok.block.now (sym c.in-Ok.ensures) c.requires.arranged.bounded).want

pub fits_beside-requires-clause-to : goal.fits_beside-requires-clause-to
fits_beside-requires-clause-to c = omega (arith, c.if-at-to.false, rw c.in-Some.is at (block_bounded c.args.table.now c.args.h c.in-Ok.block.now (sym c.in-Ok.ensures) c.requires.arranged.bounded).ends)

pub fits_beside-requires-clause-small : goal.fits_beside-requires-clause-small
fits_beside-requires-clause-small c = omega (arith, rw c.in-Some.is at (block_bounded c.args.table.now c.args.h c.in-Ok.block.now (sym c.in-Ok.ensures) c.requires.arranged.bounded).ends)

pub fits_beside-requires-clause-order : goal.fits_beside-requires-clause-order
fits_beside-requires-clause-order c = rw c.deref.ensures.value c.requires.laid.laid.order

pub fits_beside-requires-clause-once : goal.fits_beside-requires-clause-once
fits_beside-requires-clause-once c = rw c.deref.ensures.value c.requires.laid.have.once

pub fits_beside-requires-clause-sized : goal.fits_beside-requires-clause-sized
fits_beside-requires-clause-sized c = rw c.deref.ensures.value (marks_sized c.args.table.now c.args.layout.now.marks.items c.requires.arranged.bounded c.requires.laid.have)

pub fits_beside-requires-clause-apart : goal.fits_beside-requires-clause-apart
fits_beside-requires-clause-apart c = rw c.deref.ensures.value (marks_apart c.args.table.now c.args.layout.now.marks.items (is_marked c.args.map.now c.args.table.now c.args.layout.now c.requires.arranged c.requires.laid) c.requires.laid.have)

pub returns-then-not-fits_beside-clause-refused : goal.returns-then-not-fits_beside-clause-refused
returns-then-not-fits_beside-clause-refused c =
    let bounded = block_bounded c.args.table.now c.args.h c.in-Ok.block.now (sym c.in-Ok.ensures) c.requires.arranged.bounded in
    some_and (get c.args.table.now c.args.h) c.in-Ok.block.now
    (λ block. (block.locked ≡ false) × IsSomeAnd block.at (λ at. c.args.to ≤ at) × ¬ Fits c.args.map.now (without_block c.args.table.now c.args.h block) block.want c.args.to) (sym c.in-Ok.ensures) (
      c.if-block.false,
      rw c.in-Some.is (omega (arith, c.if-at-to.false)),
      fits_not c.args.table.now c.args.h c.in-Ok.block.now (sym c.in-Ok.ensures) c.args.layout.now.marks.items c.requires.laid.have
          (marks_sized c.args.table.now c.args.layout.now.marks.items c.requires.arranged.bounded c.requires.laid.have)
          c.args.map.now c.in-Ok.block.now.want c.args.to bounded.some (rw c.deref.ensures.value at c.fits_beside.ensures.no c.if-not-fits_beside.true),
    )

pub move_to-requires-clause-live : goal.move_to-requires-clause-live
move_to-requires-clause-live c = sym c.in-Ok.ensures

pub move_to-requires-clause-small : goal.move_to-requires-clause-small
move_to-requires-clause-small c = omega (arith, c.if-at-to.false, rw c.in-Some.is at (block_bounded c.args.table.now c.args.h c.in-Ok.block.now (sym c.in-Ok.ensures) c.requires.arranged.bounded).ends)

pub returns-clause-shifted : goal.returns-clause-shifted
returns-clause-shifted c =
    let both = rw c.deref.ensures.value at c.fits_beside.ensures.yes c.if-not-fits_beside.false in
    record {
      block = c.in-Ok.block.now;
      was = sym c.in-Ok.ensures;
      unlocked = c.if-block.false;
      lower = rw c.in-Some.is (omega (arith, c.if-at-to.false));
      fits = fits_others c.args.table.now c.args.h c.in-Ok.block.now (sym c.in-Ok.ensures) c.args.map.now c.in-Ok.block.now.want c.args.to both.0
          (beside_apart c.args.table.now c.args.layout.now.marks.items c.requires.laid.have c.args.h.slot c.args.to c.in-Ok.block.now.want.size both.1);
      next_is = c.move_to.ensures.table;
    }

pub returns-clause-arranged : goal.returns-clause-arranged
returns-clause-arranged c =
    let both = rw c.deref.ensures.value at c.fits_beside.ensures.yes c.if-not-fits_beside.false in
    rw c.move_to.ensures.table (arranged_moved c.args.table.now c.args.h c.in-Ok.block.now (sym c.in-Ok.ensures) c.args.to c.args.map.now c.requires.arranged (fits_others c.args.table.now c.args.h c.in-Ok.block.now (sym c.in-Ok.ensures) c.args.map.now c.in-Ok.block.now.want c.args.to both.0
    (beside_apart c.args.table.now c.args.layout.now.marks.items c.requires.laid.have c.args.h.slot c.args.to c.in-Ok.block.now.want.size both.1)))
