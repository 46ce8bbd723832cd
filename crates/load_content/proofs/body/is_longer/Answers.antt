use Rattle.std.proofs.Common.{ℕ, ◌≤◌, ◌<◌, ◌++◌, [], length, refl, sym, ap, subst, arith}
use Rattle.std.proofs.lemmas.Bool.{le-ltb, lt-ltb}
use Rattle.std.proofs.lemmas.List.{length-append}
use Rattle.omf_format.specs.Record.{Record, content_of}
use Rattle.omf_format.specs.Reading.{Reader}
use Rattle.omf_records.specs.View.{view}
use Rattle.load_content.specs.Walk.{content}
use Rattle.load_content.proofs.Walks.{Left, left_all, left_more, left_none, left_fault, left_within}
use Rattle.load_content.proofs.body.is_longer.Goals as goal

pub records-init : goal.records-init
records-init c = record { so_far = ([], left_all c.args.records c.requires, refl); within = omega arith }

pub returns-in-Ok-None : goal.returns-in-Ok-None
returns-in-Ok-None c =
    let so_far = c.records.invariant.so_far in
    let whole = left_none c.args.records c.records.records so_far.0 so_far.1 (sym (rw c.in-Ok-None.field-0-is at c.in-Ok-None.ensures.answer)) in
    let fits : length (content c.args.records) ≤ c.args.most = omega (arith, ap length whole, so_far.2, c.records.invariant.within) in
    sym (le-ltb c.args.most (length (content c.args.records)) fits)

pub returns-then-size-from : goal.returns-then-size-from
returns-then-size-from c =
    let so_far = c.records.invariant.so_far in
    let found : ℕ × Record = (c.in-Ok-Some.found.0, view c.in-Ok-Some.found.1) in
    let more = left_more c.args.records c.records.records found so_far.0 so_far.1 (sym (rw c.in-Ok-Some.field-0-is at c.in-Ok-Some.ensures.answer)) in
    let within = left_within c.args.records _ (so_far.0 ++ content_of found.1) more in
    let past : c.args.most < length (content c.args.records) =
    omega (arith, within, length-append so_far.0 (content_of found.1), so_far.2, c.content_size-size.ensures.value, c.if-size-from.true) in
    sym (lt-ltb c.args.most (length (content c.args.records)) past)

pub records-preserved : goal.records-preserved
records-preserved c =
    let so_far = c.records.invariant.so_far in
    let found : ℕ × Record = (c.in-Ok-Some.found.0, view c.in-Ok-Some.found.1) in
    let more = left_more c.args.records c.records.records found so_far.0 so_far.1 (sym (rw c.in-Ok-Some.field-0-is at c.in-Ok-Some.ensures.answer)) in
    let bytes = so_far.0 ++ content_of found.1 in
    record {
      so_far = (
        bytes,
        subst (λ (r : Reader). Left c.args.records r bytes) (sym c.in-Ok-Some.ensures.after) more,
        omega (arith, length-append so_far.0 (content_of found.1), so_far.2, c.content_size-size.ensures.value),
      );
      within = omega (arith, c.if-size-from.false);
    }

pub unreachable-requires : goal.unreachable-requires
unreachable-requires c =
    let so_far = c.records.invariant.so_far in
    left_fault c.args.records c.records.records so_far.0 c.in-Err.field-0 so_far.1 (sym c.in-Err.ensures.answer)
