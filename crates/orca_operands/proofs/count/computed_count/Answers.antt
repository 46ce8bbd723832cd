use Rattle.orca_operands.proofs.Counting.{no_computed, not_closed}
use Rattle.orca_operands.proofs.Judging.{fine_terms}
use Rattle.orca_operands.proofs.count.computed_count.Goals as goal

pub returns-in_default-clause-none : goal.returns-in_default-clause-none
returns-in_default-clause-none c = no_computed c.args.following.bytes.now (rw c.in_default.is at c.in_ok-found.ensures.none)

pub returns-in_default-after_byte-clause-none : goal.returns-in_default-after_byte-clause-none
returns-in_default-after_byte-clause-none c =
    not_closed c.args.following.bytes.now c.in-Some.found.formula c.in-Some.found.large c.in-Some.found.rest.now (rw c.in-Some.is at c.in_ok-found.ensures.found) c.in_default-after_byte.ensures

pub number_of-requires : goal.number_of-requires
number_of-requires c =
    fine_terms c.args.following.bytes.now c.in-Some.found.formula c.in-Some.found.large c.in-Some.found.rest.now c.args.following.short (rw c.in-Some.is at c.in_ok-found.ensures.found)
