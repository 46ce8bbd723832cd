use Rattle.iigs_compact_memory.proofs.Making.{none_at_all, lacks_by_slides, has_handle, has_room}
use Rattle.iigs_compact_memory.proofs.Planning.{plan_at_once, plan_settled, plan_after, needs_settled}
use Rattle.iigs_compact_memory.proofs.alls.plan_one.Goals as goal

pub returns-in-Ok-clause-yes : goal.returns-in-Ok-clause-yes
returns-in-Ok-clause-yes c = λ yes. plan_at_once c.args.plan.now.banks c.args.plan.now.slots c.place.new.self.slots c.args.want.now c.args.user c.in-Ok.field-0 c.in-Ok.ensures.put

pub returns-in-Ok-clause-settled : goal.returns-in-Ok-clause-settled
returns-in-Ok-clause-settled c = rw c.in-Ok.ensures.banks (plan_settled c.args.plan.now.banks c.args.plan.now.slots c.place.new.self.slots c.args.want.now c.args.user c.in-Ok.field-0 c.requires.want c.requires.settled c.in-Ok.ensures.put)

pub returns-in_default-clause-no : goal.returns-in_default-clause-no
returns-in_default-clause-no c = λ no.
    let refused = rw c.in-Err-NoRoom.field-0-is at c.in-Err-NoRoom.ensures.refused in
    lacks_by_slides c.args.plan.now.banks c.args.plan.now.slots c.args.want.now (none_at_all c.args.plan.now.banks c.args.plan.now.slots c.args.want.now refused.2)
    (rw c.in-Err-NoRoom.ensures.err at c.in_default.ensures.needs)

pub unreachable-requires-in-Err-NoHandle-place : goal.unreachable-requires-in-Err-NoHandle-place
unreachable-requires-in-Err-NoHandle-place c =
    let refused = rw c.in-Err-NoRoom.field-0-is at c.in-Err-NoRoom.ensures.refused in
    let needs = rw c.in-Err-NoRoom.ensures.err at c.in-Some.ensures.needs in
    let out = rw c.in-Err-NoHandle-place.field-0-is at c.in-Err-NoHandle-place.ensures.refused in
    has_handle c.args.plan.now.banks c.args.plan.now.slots c.least_purges.new.trial.slots c.args.want.now c.in-Some.field-0 (none_at_all c.args.plan.now.banks c.args.plan.now.slots c.args.want.now refused.2) needs
    c.requires.handle (rw c.swap.ensures.x_after at out)

pub unreachable-requires-in-Err-NoRoom-place : goal.unreachable-requires-in-Err-NoRoom-place
unreachable-requires-in-Err-NoRoom-place c =
    let refused = rw c.in-Err-NoRoom.field-0-is at c.in-Err-NoRoom.ensures.refused in
    let needs = rw c.in-Err-NoRoom.ensures.err at c.in-Some.ensures.needs in
    let again = rw c.in-Err-NoRoom-place.field-0-is at c.in-Err-NoRoom-place.ensures.refused in
    has_room c.args.plan.now.banks c.args.plan.now.slots c.least_purges.new.trial.slots c.args.want.now c.in-Some.field-0 (none_at_all c.args.plan.now.banks c.args.plan.now.slots c.args.want.now refused.2) needs
    (rw (c.swap.ensures.x_after, c.in-Some.ensures.banks, c.requires.banks) at again.2)

pub returns-clause-yes : goal.returns-clause-yes
returns-clause-yes c = λ yes.
    let refused = rw c.in-Err-NoRoom.field-0-is at c.in-Err-NoRoom.ensures.refused in
    let needs = rw c.in-Err-NoRoom.ensures.err at c.in-Some.ensures.needs in
    plan_after c.args.plan.now.banks c.args.plan.now.slots c.least_purges.new.trial.slots c.args.want.now c.in-Some.field-0 needs (none_at_all c.args.plan.now.banks c.args.plan.now.slots c.args.want.now refused.2)
    c.place-2.new.self.slots c.args.user c.in-Ok-place.field-0 (rw (c.swap.ensures.x_after, c.in-Some.ensures.banks, c.requires.banks) at c.in-Ok-place.ensures.put)

pub returns-clause-settled : goal.returns-clause-settled
returns-clause-settled c =
    let needs = rw c.in-Err-NoRoom.ensures.err at c.in-Some.ensures.needs in
    rw (c.in-Ok-place.ensures.banks, c.swap.ensures.x_after, c.in-Some.ensures.banks, c.requires.banks) (plan_settled c.args.plan.now.banks c.least_purges.new.trial.slots c.place-2.new.self.slots c.args.want.now c.args.user c.in-Ok-place.field-0 c.requires.want
    (needs_settled c.args.plan.now.banks c.args.plan.now.slots c.least_purges.new.trial.slots c.args.want.now c.in-Some.field-0 needs c.requires.settled)
    (rw (c.swap.ensures.x_after, c.in-Some.ensures.banks, c.requires.banks) at c.in-Ok-place.ensures.put))
