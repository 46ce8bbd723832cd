use Rattle.std.proofs.Common.{ℕ, ◌+◌, sym, ap, ◌∙◌, arith}
use Rattle.omf_format.specs.Record.{Record}
use Rattle.omf_records.specs.View.{view}
use Rattle.omf_records.specs.WalkLaws.{walk_fails}
use Rattle.w65_list.proofs.FrontLaws.{counted_on, counted_end, counted_lost, counted_over}
use Rattle.w65_list.proofs.front.cells.Goals as goal

pub returns-in-Ok-None : goal.returns-in-Ok-None
returns-in-Ok-None c =
    let end = sym (rw c.in-Ok-None.field-0-is at c.in-Ok-None.ensures.answer) in
    counted_end c.args.records c.records.records c.args.most c.records.place c.requires c.records.invariant end

pub returns-then-is_lost : goal.returns-then-is_lost
returns-then-is_lost c =
    let found : ℕ × Record = (c.in-Ok-Some.field-0-0-0, view c.in-Ok-Some.rec) in
    let next = sym (rw c.in-Ok-Some.field-0-is at c.in-Ok-Some.ensures.answer) in
    counted_lost c.args.records c.records.records c.args.most c.records.place found c.requires c.records.invariant next (sym c.is_lost.ensures ∙ c.if-is_lost.true)

pub returns-then-following-from : goal.returns-then-following-from
returns-then-following-from c =
    let found : ℕ × Record = (c.in-Ok-Some.field-0-0-0, view c.in-Ok-Some.rec) in
    let next = sym (rw c.in-Ok-Some.field-0-is at c.in-Ok-Some.ensures.answer) in
    counted_over c.args.records c.records.records c.args.most c.records.place (c.from.result + c.size_at.result) found c.requires c.records.invariant next
    (ap (λ (n : ℕ). n + c.size_at.result) c.from.ensures ∙ ap (λ (n : ℕ). c.records.place + n) c.size_at.ensures.value) (omega (arith, c.if-following-from.true, c.from-in-Ok-Some.ensures))

pub records-preserved : goal.records-preserved
records-preserved c =
    let found : ℕ × Record = (c.in-Ok-Some.field-0-0-0, view c.in-Ok-Some.rec) in
    let next = sym (rw c.in-Ok-Some.field-0-is at c.in-Ok-Some.ensures.answer) in
    counted_on c.args.records c.records.records c.next.new.self c.args.most c.records.place (c.from.result + c.size_at.result) found c.records.invariant next c.in-Ok-Some.ensures.after (sym c.is_lost.ensures ∙ c.if-is_lost.false)
    (ap (λ (n : ℕ). n + c.size_at.result) c.from.ensures ∙ ap (λ (n : ℕ). c.records.place + n) c.size_at.ensures.value) (omega (arith, c.if-following-from.false, c.from-in-Ok-Some.ensures))

pub unreachable-requires : goal.unreachable-requires
unreachable-requires c = walk_fails c.args.records c.records.records c.records.invariant.before c.in-Err.field-0 c.requires c.records.invariant.run (sym c.in-Err.ensures.answer)
