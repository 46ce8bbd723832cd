use Rattle.std.proofs.Common.{◌≡◌, ◌∙◌, arith, vec_capacity}
use Rattle.std.proofs.lemmas.Result.{err_from_is_err_and}
use Rattle.iigs_places.specs.Offsets.{offset_of}
use Rattle.iigs_places.proofs.Moved.{block_bounded}
use Rattle.iigs_memory.proofs.Parts.{part, overlay}
use Rattle.iigs_memory.proofs.Shifted.{copied_overlay, shift_facts, shift_low, from_within, to_within, moved_store, moved_keeps}
use Rattle.iigs_memory.proofs.banks.Banks.shift.Goals as goal

pub offset-from-requires : goal.offset-from-requires
offset-from-requires c =
    let bounded = block_bounded c.self.inside.places.slots c.args.h c.in_ok-block.block c.in_ok-block.ensures.was c.know_arranged.ensures.bounded in
    omega (arith, bounded.some, rw c.in-Some.is at bounded.ends)

pub offset-start-requires : goal.offset-start-requires
offset-start-requires c =
    let bounded = block_bounded c.self.inside.places.slots c.args.h c.in_ok-block.block c.in_ok-block.ensures.was c.know_arranged.ensures.bounded in
    omega (
      arith,
      bounded.some,
      rw c.in-Some.is at bounded.ends,
      shift_low c.self.inside.places.banks c.self.inside.places.slots c.shift.new.self.slots c.args.h c.args.to c.in_ok-block.ensures.shifted c.in_ok-block.block c.in_ok-block.ensures.was c.in-Some.at c.in-Some.is,
    )

pub copy_bytes-requires-clause-from : goal.copy_bytes-requires-clause-from
copy_bytes-requires-clause-from c =
    let facts = shift_facts c.self.inside.places.banks c.self.inside.places.slots c.shift.new.self.slots c.args.h c.args.to c.in_ok-block.ensures.shifted c.in_ok-block.block c.in_ok-block.ensures.was in
    rw (c.offset-from.ensures.value, c.in_ok-block.ensures.banks) (from_within c.self.inside.places.banks c.self.inside.bytes.items c.self.inside.places.slots c.know_arranged.ensures (vec_capacity c.self.inside.made) c.self.invariant.0
    c.args.h c.in_ok-block.block c.in_ok-block.ensures.was c.in-Some.at c.in-Some.is c.args.to facts.0)

pub copy_bytes-requires-clause-to : goal.copy_bytes-requires-clause-to
copy_bytes-requires-clause-to c =
    let facts = shift_facts c.self.inside.places.banks c.self.inside.places.slots c.shift.new.self.slots c.args.h c.args.to c.in_ok-block.ensures.shifted c.in_ok-block.block c.in_ok-block.ensures.was in
    rw (c.offset-start.ensures.value, c.in_ok-block.ensures.banks) (to_within c.self.inside.places.banks c.self.inside.bytes.items c.self.inside.places.slots c.know_arranged.ensures (vec_capacity c.self.inside.made) c.self.invariant.0
    c.args.h c.in_ok-block.block c.in_ok-block.ensures.was c.in-Some.at c.in-Some.is c.args.to facts.0)

-- its bytes lie at the new address
written : (c : goal.After-copy_bytes) → c.copy_bytes.new.bytes.items
    ≡ overlay (offset_of c.self.inside.places.banks c.args.to) (part (offset_of c.self.inside.places.banks c.in-Some.at) c.in_ok-block.block.want.size c.self.inside.bytes.items) c.self.inside.bytes.items
written c =
    let facts = shift_facts c.self.inside.places.banks c.self.inside.places.slots c.shift.new.self.slots c.args.h c.args.to c.in_ok-block.ensures.shifted c.in_ok-block.block c.in_ok-block.ensures.was in
    rw (c.offset-from.ensures.value, c.offset-start.ensures.value, c.in_ok-block.ensures.banks) at c.copy_bytes.ensures.value
    ∙ copied_overlay (offset_of c.self.inside.places.banks c.in-Some.at) c.in_ok-block.block.want.size (offset_of c.self.inside.places.banks c.args.to) c.self.inside.bytes.items
    (from_within c.self.inside.places.banks c.self.inside.bytes.items c.self.inside.places.slots c.know_arranged.ensures (vec_capacity c.self.inside.made) c.self.invariant.0
    c.args.h c.in_ok-block.block c.in_ok-block.ensures.was c.in-Some.at c.in-Some.is c.args.to facts.0)

pub invariant_of-self-2 : goal.invariant_of-self-2
invariant_of-self-2 c =
    let facts = shift_facts c.self.inside.places.banks c.self.inside.places.slots c.shift.new.self.slots c.args.h c.args.to c.in_ok-block.ensures.shifted c.in_ok-block.block c.in_ok-block.ensures.was in
    rw (written c, c.in_ok-block.ensures.banks) (
      moved_store c.self.inside.places.banks c.self.inside.bytes.items c.self.inside.places.slots c.know_arranged.ensures (vec_capacity c.self.inside.made) c.self.invariant.0
          c.args.h c.in_ok-block.block c.in_ok-block.ensures.was c.in-Some.at c.in-Some.is c.args.to facts.0,
      c.self.invariant.1,
      rw (written c) at c.copy_bytes.ensures.blank,
    )

pub returns-clause-shifted : goal.returns-clause-shifted
returns-clause-shifted c =
    let facts = shift_facts c.self.inside.places.banks c.self.inside.places.slots c.shift.new.self.slots c.args.h c.args.to c.in_ok-block.ensures.shifted c.in_ok-block.block c.in_ok-block.ensures.was in
    rw (← c.self.view_is, written c, c.in_ok-block.ensures.banks) (record {
      shifts = c.in_ok-block.ensures.shifted;
      kept = rw facts.1 (moved_keeps c.self.inside.places.banks c.self.inside.bytes.items c.self.inside.places.slots c.know_arranged.ensures (vec_capacity c.self.inside.made) c.self.invariant.0
          c.args.h c.in_ok-block.block c.in_ok-block.ensures.was c.in-Some.at c.in-Some.is c.args.to facts.0);
    })

pub returns-in_err-block-clause-refused : goal.returns-in_err-block-clause-refused
returns-in_err-block-clause-refused c =
    let p = err_from_is_err_and c.from_residual.result c.from_residual.ensures.1 in
    rw (p.1, p.2, ← c.self.view_is) c.in_err-block.ensures.refused
