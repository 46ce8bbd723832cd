use Rattle.std.proofs.Common.{◌∙◌, sym}
use Rattle.iigs_compact_memory.proofs.Placing.{planned, purged_settled, room_needs, room_kept, room_settled}
use Rattle.iigs_compact_memory.proofs.place.make_room.Goals as goal

pub least_purges-requires-clause-banks : goal.least_purges-requires-clause-banks
least_purges-requires-clause-banks c = rw c.places.ensures c.requires.banks

pub least_purges-requires-clause-settled : goal.least_purges-requires-clause-settled
least_purges-requires-clause-settled c = rw c.places.ensures c.requires.settled

pub returns-in_default-clause-no : goal.returns-in_default-clause-no
returns-in_default-clause-no c = λ no. rw c.places.ensures at c.in_default.ensures.needs

pub returns-in_default-clause-banks : goal.returns-in_default-clause-banks
returns-in_default-clause-banks c = c.in_default.ensures.banks ∙ c.requires.banks

pub carry_out-requires-clause-settled : goal.carry_out-requires-clause-settled
carry_out-requires-clause-settled c = purged_settled c.args.banks.now c.purge_first.new.self c.least_purges.new.trial.slots c.args.want.now c.in-Some.count (rw c.places.ensures at c.in-Some.ensures.needs)
    c.purge_first.ensures.slots c.purge_first.ensures.kept c.requires.settled

pub carry_out-requires-clause-planned : goal.carry_out-requires-clause-planned
carry_out-requires-clause-planned c = planned c.args.banks.now c.purge_first.new.self c.least_purges.new.trial.slots c.args.want.now c.in-Some.count (rw c.places.ensures at c.in-Some.ensures.needs)
    c.purge_first.ensures.slots c.purge_first.ensures.kept

pub returns-clause-yes : goal.returns-clause-yes
returns-clause-yes c = λ yes. (
  c.in-Some.count,
  room_needs c.args.banks.now c.purge_first.new.self c.least_purges.new.trial.slots c.args.want.now c.in-Some.count (rw c.places.ensures at c.in-Some.ensures.needs)
      c.purge_first.ensures.slots c.purge_first.ensures.kept c.carry_out.new.banks c.carry_out.ensures.slots c.carry_out.ensures.kept,
)

pub returns-clause-kept : goal.returns-clause-kept
returns-clause-kept c = λ yes. room_kept c.args.banks.now c.purge_first.new.self c.least_purges.new.trial.slots c.args.want.now c.in-Some.count (rw c.places.ensures at c.in-Some.ensures.needs)
    c.purge_first.ensures.slots c.purge_first.ensures.kept c.carry_out.new.banks c.carry_out.ensures.slots c.carry_out.ensures.kept

pub returns-clause-settled : goal.returns-clause-settled
returns-clause-settled c = room_settled c.args.banks.now c.purge_first.new.self c.least_purges.new.trial.slots c.args.want.now c.in-Some.count (rw c.places.ensures at c.in-Some.ensures.needs)
    c.purge_first.ensures.slots c.purge_first.ensures.kept c.carry_out.new.banks c.carry_out.ensures.slots c.carry_out.ensures.kept c.requires.settled

pub returns-clause-banks : goal.returns-clause-banks
returns-clause-banks c = c.in-Some.ensures.banks ∙ c.requires.banks ∙ sym c.purge_first.ensures.kept.banks ∙ sym c.carry_out.ensures.kept.banks
