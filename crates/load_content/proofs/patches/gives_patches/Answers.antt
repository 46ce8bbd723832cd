use Rattle.std.proofs.Common.{ℕ, Bool, List, sym, ap, subst, ◌∙◌}
use Rattle.std.specs.Prelude.{◌||◌}
use Rattle.std.specs.List.{list_any}
use Rattle.omf_format.specs.Record.{Record}
use Rattle.omf_format.specs.Reading.{Reader}
use Rattle.omf_records.specs.View.{view}
use Rattle.load_content.specs.Walk.{gives_patch}
use Rattle.load_content.proofs.Searches.{Same, same_next, same_more, same_none, same_fault}
use Rattle.load_content.proofs.patches.gives_patches.Goals as goal

abbrev any : List (ℕ × Record) → Bool
any founds = list_any (λ found. gives_patch found.1) founds

pub returns-in-Ok-None : goal.returns-in-Ok-None
returns-in-Ok-None c = sym (same_none any c.args.records c.records.records c.records.invariant (sym (rw c.in-Ok-None.field-0-is at c.in-Ok-None.ensures.answer)))

pub gives_patch-requires : goal.gives_patch-requires
gives_patch-requires c = (c.records.records.layout, rw c.in-Ok-Some.field-0-is at c.in-Ok-Some.ensures.formed)

pub returns-then-gives_patch : goal.returns-then-gives_patch
returns-then-gives_patch c =
    let found : ℕ × Record = (c.in-Ok-Some.found.0, view c.in-Ok-Some.found.1) in
    let next = same_next any c.args.records c.records.records found c.records.invariant (sym (rw c.in-Ok-Some.field-0-is at c.in-Ok-Some.ensures.answer)) in
    sym (next.4 ∙ ap (λ (b : Bool). b || any next.0) (sym c.gives_patch.ensures ∙ c.if-gives_patch.true))

pub records-preserved : goal.records-preserved
records-preserved c =
    let found : ℕ × Record = (c.in-Ok-Some.found.0, view c.in-Ok-Some.found.1) in
    let more = same_more any c.args.records c.records.records found c.records.invariant (sym (rw c.in-Ok-Some.field-0-is at c.in-Ok-Some.ensures.answer))
    (λ rest. ap (λ (b : Bool). b || any rest) (sym c.gives_patch.ensures ∙ c.if-gives_patch.false)) in
    subst (λ (r : Reader). Same any c.args.records r) (sym c.in-Ok-Some.ensures.after) more

pub unreachable-requires : goal.unreachable-requires
unreachable-requires c = same_fault any c.args.records c.records.records c.in-Err.field-0 c.records.invariant (sym c.in-Err.ensures.answer)
