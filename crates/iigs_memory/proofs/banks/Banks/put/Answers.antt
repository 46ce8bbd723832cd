use Rattle.std.proofs.Common.{vec_capacity}
use Rattle.std.proofs.lemmas.Result.{err_from_is_err_and}
use Rattle.iigs_places.proofs.Puts.{PutFacts, put_facts, put_is}
use Rattle.iigs_memory.proofs.Puts.{put_within, put_store, put_zeros, put_keeps, clear_overlay}
use Rattle.iigs_memory.proofs.banks.Banks.put.Goals as goal

pub clear-requires-clause-within : goal.clear-requires-clause-within
clear-requires-clause-within c =
    let f : PutFacts c.self.inside.places.banks c.self.inside.places.slots c.args.want.now c.in_ok-put.put c.place.new.self.slots =
    put_facts c.self.inside.places.banks c.self.inside.places.slots c.place.new.self.slots c.args.want.now c.args.user c.args.locked c.args.level c.args.movable c.in_ok-put.put
    c.know_arranged.ensures.small c.requires.want c.know_arranged.ensures.bounded c.know_arranged.ensures.sound c.ranges.level.fits c.in_ok-put.ensures.put in
    rw (c.offset.ensures.value, c.in_ok-put.ensures.banks) (put_within c.self.inside.places.banks c.self.inside.bytes.items c.self.inside.places.slots c.place.new.self.slots (vec_capacity c.self.inside.made) c.self.invariant.0
    c.in_ok-put.put.handle.slot (c.in_ok-put.put.at, c.args.want.now.size) f.bounded f.sound f.others f.is)

pub invariant_of-self-2 : goal.invariant_of-self-2
invariant_of-self-2 c =
    let f : PutFacts c.self.inside.places.banks c.self.inside.places.slots c.args.want.now c.in_ok-put.put c.place.new.self.slots =
    put_facts c.self.inside.places.banks c.self.inside.places.slots c.place.new.self.slots c.args.want.now c.args.user c.args.locked c.args.level c.args.movable c.in_ok-put.put
    c.know_arranged.ensures.small c.requires.want c.know_arranged.ensures.bounded c.know_arranged.ensures.sound c.ranges.level.fits c.in_ok-put.ensures.put in
    rw (c.clear.ensures.value, c.offset.ensures.value, c.in_ok-put.ensures.banks, clear_overlay) (
      put_store c.self.inside.places.banks c.self.inside.bytes.items c.self.inside.places.slots c.place.new.self.slots (vec_capacity c.self.inside.made) c.self.invariant.0
          c.in_ok-put.put.handle.slot (c.in_ok-put.put.at, c.args.want.now.size) f.bounded f.sound f.others f.is,
      c.self.invariant.1,
      rw (c.clear.ensures.value, c.offset.ensures.value, c.in_ok-put.ensures.banks, clear_overlay) at c.clear.ensures.blank,
    )

pub returns-clause-placed : goal.returns-clause-placed
returns-clause-placed c =
    let f : PutFacts c.self.inside.places.banks c.self.inside.places.slots c.args.want.now c.in_ok-put.put c.place.new.self.slots =
    put_facts c.self.inside.places.banks c.self.inside.places.slots c.place.new.self.slots c.args.want.now c.args.user c.args.locked c.args.level c.args.movable c.in_ok-put.put
    c.know_arranged.ensures.small c.requires.want c.know_arranged.ensures.bounded c.know_arranged.ensures.sound c.ranges.level.fits c.in_ok-put.ensures.put in
    rw (← c.self.view_is, c.clear.ensures.value, c.offset.ensures.value, c.in_ok-put.ensures.banks, clear_overlay) (record {
      puts = put_is c.self.inside.places.banks c.self.inside.places.slots c.place.new.self.slots c.args.want.now c.args.user c.args.locked c.args.level c.args.movable c.in_ok-put.put c.in_ok-put.ensures.put;
      zeros = put_zeros c.self.inside.places.banks c.self.inside.bytes.items c.self.inside.places.slots c.place.new.self.slots (vec_capacity c.self.inside.made) c.self.invariant.0
          c.in_ok-put.put.handle.slot (c.in_ok-put.put.at, c.args.want.now.size) f.bounded f.sound f.others f.is;
      kept = put_keeps c.self.inside.places.banks c.self.inside.bytes.items c.self.inside.places.slots c.place.new.self.slots (vec_capacity c.self.inside.made) c.self.invariant.0
          c.in_ok-put.put.handle.slot (c.in_ok-put.put.at, c.args.want.now.size) f.bounded f.sound f.others f.is;
    })

pub returns-in_err-put-clause-refused : goal.returns-in_err-put-clause-refused
returns-in_err-put-clause-refused c =
    let p = err_from_is_err_and c.from_residual.result c.from_residual.ensures.1 in
    rw (p.1, p.2, ← c.self.view_is) c.in_err-put.ensures.refused
