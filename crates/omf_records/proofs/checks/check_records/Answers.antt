use Rattle.std.proofs.Common.{◌+◌, ◌<◌, ◌≤◌, length, sym, ap, subst, arith}
use Rattle.omf_format.specs.Reading.{Reader, after_next}
use Rattle.omf_records.proofs.Runs.{Ran, ran_more, comes_to_end}
use Rattle.omf_records.specs.View.{view}
use Rattle.omf_records.proofs.checks.check_records.Goals as goal

pub returns-in-Ok-None-clause-ok : goal.returns-in-Ok-None-clause-ok
returns-in-Ok-None-clause-ok c =
    comes_to_end c.args.records c.records.records c.records.invariant (sym (rw c.in-Ok-None.field-0-is at c.in-Ok-None.ensures.answer))

pub records-preserved : goal.records-preserved
records-preserved c =
    let found = c.in-Ok-Some.field-0-0 in
    let at = c.records.records in
    let shorter : length c.next.new.self.left < length at.left = rw c.in-Ok-Some.field-0-is at c.in-Ok-Some.ensures.shorter in
    let less : length (after_next at).left + 1 ≤ length at.left = omega (arith, shorter, ap (λ (r : Reader). length r.left) c.in-Ok-Some.ensures.after) in
    let more = ran_more c.args.records at (found.0, view found.1) c.records.invariant (sym (rw c.in-Ok-Some.field-0-is at c.in-Ok-Some.ensures.answer)) less in
    subst (λ (r : Reader). Ran c.args.records r) (sym c.in-Ok-Some.ensures.after) more
