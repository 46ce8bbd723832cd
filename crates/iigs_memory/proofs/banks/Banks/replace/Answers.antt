use Rattle.std.proofs.Common.{vec_capacity}
use Rattle.std.proofs.lemmas.Result.{err_from_is_err_and}
use Rattle.iigs_places.proofs.Puts.{PutFacts, reput_facts, reput_is}
use Rattle.iigs_memory.proofs.Puts.{put_within, put_store, put_zeros, put_keeps, clear_overlay}
use Rattle.iigs_memory.proofs.banks.Banks.replace.Goals as goal

pub clear-requires-clause-within : goal.clear-requires-clause-within
clear-requires-clause-within c =
    let f : PutFacts c.self.inside.places.banks c.self.inside.places.slots c.args.want.now (record { handle = c.args.h; at = c.in_ok-at.at }) c.replace.new.self.slots =
    reput_facts c.self.inside.places.banks c.self.inside.places.slots c.replace.new.self.slots c.args.h c.args.want.now c.in_ok-at.at
    c.know_arranged.ensures.small c.requires.want c.know_arranged.ensures.bounded c.know_arranged.ensures.sound c.in_ok-at.ensures.put in
    rw (c.offset.ensures.value, c.in_ok-at.ensures.banks) (put_within c.self.inside.places.banks c.self.inside.bytes.items c.self.inside.places.slots c.replace.new.self.slots (vec_capacity c.self.inside.made) c.self.invariant.0
    c.args.h.slot (c.in_ok-at.at, c.args.want.now.size) f.bounded f.sound f.others f.is)

pub invariant_of-self-2 : goal.invariant_of-self-2
invariant_of-self-2 c =
    let f : PutFacts c.self.inside.places.banks c.self.inside.places.slots c.args.want.now (record { handle = c.args.h; at = c.in_ok-at.at }) c.replace.new.self.slots =
    reput_facts c.self.inside.places.banks c.self.inside.places.slots c.replace.new.self.slots c.args.h c.args.want.now c.in_ok-at.at
    c.know_arranged.ensures.small c.requires.want c.know_arranged.ensures.bounded c.know_arranged.ensures.sound c.in_ok-at.ensures.put in
    rw (c.clear.ensures.value, c.offset.ensures.value, c.in_ok-at.ensures.banks, clear_overlay) (
      put_store c.self.inside.places.banks c.self.inside.bytes.items c.self.inside.places.slots c.replace.new.self.slots (vec_capacity c.self.inside.made) c.self.invariant.0
          c.args.h.slot (c.in_ok-at.at, c.args.want.now.size) f.bounded f.sound f.others f.is,
      c.self.invariant.1,
      rw (c.clear.ensures.value, c.offset.ensures.value, c.in_ok-at.ensures.banks, clear_overlay) at c.clear.ensures.blank,
    )

pub returns-clause-replaced : goal.returns-clause-replaced
returns-clause-replaced c =
    let f : PutFacts c.self.inside.places.banks c.self.inside.places.slots c.args.want.now (record { handle = c.args.h; at = c.in_ok-at.at }) c.replace.new.self.slots =
    reput_facts c.self.inside.places.banks c.self.inside.places.slots c.replace.new.self.slots c.args.h c.args.want.now c.in_ok-at.at
    c.know_arranged.ensures.small c.requires.want c.know_arranged.ensures.bounded c.know_arranged.ensures.sound c.in_ok-at.ensures.put in
    rw (← c.self.view_is, c.clear.ensures.value, c.offset.ensures.value, c.in_ok-at.ensures.banks, clear_overlay) (record {
      puts = reput_is c.self.inside.places.banks c.self.inside.places.slots c.replace.new.self.slots c.args.h c.args.want.now c.in_ok-at.at c.in_ok-at.ensures.put;
      zeros = put_zeros c.self.inside.places.banks c.self.inside.bytes.items c.self.inside.places.slots c.replace.new.self.slots (vec_capacity c.self.inside.made) c.self.invariant.0
          c.args.h.slot (c.in_ok-at.at, c.args.want.now.size) f.bounded f.sound f.others f.is;
      kept = put_keeps c.self.inside.places.banks c.self.inside.bytes.items c.self.inside.places.slots c.replace.new.self.slots (vec_capacity c.self.inside.made) c.self.invariant.0
          c.args.h.slot (c.in_ok-at.at, c.args.want.now.size) f.bounded f.sound f.others f.is;
    })

pub returns-in_err-at-clause-refused : goal.returns-in_err-at-clause-refused
returns-in_err-at-clause-refused c =
    let p = err_from_is_err_and c.from_residual.result c.from_residual.ensures.1 in
    rw (p.1, p.2, ← c.self.view_is) c.in_err-at.ensures.refused
