use Rattle.std.proofs.Common.{ℕ, ◌++◌, List, Option, Ok, map, sym, ap, subst, ◌∙◌}
use Rattle.std.specs.Prelude.{option_map}
use Rattle.std.specs.Option.{option_or}
use Rattle.load_meaning.specs.declared.load.LoadCause.{LoadCause}
use Rattle.omf_format.specs.Record.{Record}
use Rattle.omf_format.specs.Reading.{Reader}
use Rattle.load_meaning.specs.Cells.{Cell, patches_in}
use Rattle.load_meaning.specs.Loadable.{Fault, first_target_fault}
use Rattle.load_meaning.specs.laws.Steps.{in_segment}
use Rattle.omf_records.specs.View.{view}
use Rattle.omf_records.specs.Segments.{segment_of_view}
use Rattle.load_content.specs.Content.{shown_spots, spread_all}
use Rattle.load_content.proofs.Searches.{Same, same_all, same_next, same_more, same_none, same_fault}
use Rattle.load_content.proofs.PatchWalks.{Given, given_all, given_more, given_none}
use Rattle.load_content.proofs.targets.take_records.Goals as goal

-- a record's refusal, and then the first of the others
abbrev refused : ℕ → Option LoadCause → Option Fault → Option Fault
refused at refusal others = option_or (option_map (λ cause. (cause, at)) refusal) others

pub records-init : goal.records-init
records-init c =
    let s = segment_of_view c.args.view.now in
    record {
      same = same_all (first_target_fault (map segment_of_view c.args.views.now.items) s) c.args.records c.requires.body;
      given = given_all s c.args.records (shown_spots c.args.spots.now.items) c.requires.body;
    }

pub returns-in-Ok-None-clause-value : goal.returns-in-Ok-None-clause-value
returns-in-Ok-None-clause-value c =
    let find = first_target_fault (map segment_of_view c.args.views.now.items) (segment_of_view c.args.view.now) in
    sym (ap (option_map (in_segment c.args.number)) (same_none find c.args.records c.records.records c.records.invariant.same (sym (rw c.in-Ok-None.field-0-is at c.in-Ok-None.ensures.answer))))

pub returns-in-Ok-None-clause-spots : goal.returns-in-Ok-None-clause-spots
returns-in-Ok-None-clause-spots c = λ ok.
    given_none (segment_of_view c.args.view.now) c.args.records c.records.records (shown_spots c.args.spots.now.items) (shown_spots c.records.spots.items) c.records.invariant.given
    (sym (rw c.in-Ok-None.field-0-is at c.in-Ok-None.ensures.answer))

pub take_record-requires-clause-spelled : goal.take_record-requires-clause-spelled
take_record-requires-clause-spelled c = (c.records.records.layout, rw c.in-Ok-Some.field-0-is at c.in-Ok-Some.ensures.formed)

pub returns-in-Some-clause-value : goal.returns-in-Some-clause-value
returns-in-Some-clause-value c =
    let find = first_target_fault (map segment_of_view c.args.views.now.items) (segment_of_view c.args.view.now) in
    let found : ℕ × Record = (c.in-Ok-Some.found.0, view c.in-Ok-Some.found.1) in
    let next = same_next find c.args.records c.records.records found c.records.invariant.same (sym (rw c.in-Ok-Some.field-0-is at c.in-Ok-Some.ensures.answer)) in
    sym (ap (option_map (in_segment c.args.number)) (next.4 ∙ ap (λ (o : Option LoadCause). refused found.0 o (find next.0)) (sym c.in_ok-cause-in-Ok-Some.ensures.value ∙ c.in-Some.is)))

pub records-preserved : goal.records-preserved
records-preserved c =
    let s = segment_of_view c.args.view.now in
    let find = first_target_fault (map segment_of_view c.args.views.now.items) s in
    let found : ℕ × Record = (c.in-Ok-Some.found.0, view c.in-Ok-Some.found.1) in
    let is = sym (rw c.in-Ok-Some.field-0-is at c.in-Ok-Some.ensures.answer) in
    let more = same_more find c.args.records c.records.records found c.records.invariant.same is
    (λ rest. ap (λ (o : Option LoadCause). refused found.0 o (find rest)) (sym c.in_ok-cause-in-Ok-Some.ensures.value ∙ c.in-None.is)) in
    let old = shown_spots c.records.spots.items in
    let front = shown_spots c.args.spots.now.items in
    let given = given_more s c.args.records c.records.records found front old c.records.invariant.given is in
    let added = c.in_ok-cause-in-Ok-Some.ensures.spots (ap (λ o. Ok o) c.in-None.is) in
    record {
      same = subst (λ (r : Reader). Same find c.args.records r) (sym c.in-Ok-Some.ensures.after) more;
      given = subst (λ (l : List (ℕ × Cell)). Given s c.args.records c.next.new.self front l) (sym added) (subst (λ (r : Reader). Given s c.args.records r front (old ++ spread_all (patches_in s found.1))) (sym c.in-Ok-Some.ensures.after) given);
    }

pub unreachable-requires : goal.unreachable-requires
unreachable-requires c =
    same_fault (first_target_fault (map segment_of_view c.args.views.now.items) (segment_of_view c.args.view.now)) c.args.records c.records.records c.in-Err.field-0 c.records.invariant.same (sym c.in-Err.ensures.answer)
