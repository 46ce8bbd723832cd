use Rattle.std.proofs.Common.{map, Ok, sym, ap, ◌∙◌}
use Rattle.omf_records.specs.Segments.{segment_of_view}
use Rattle.load_content.specs.Content.{shown_spots}
use Rattle.load_content.proofs.SuperPatches.{refusal_next, spread_more}
use Rattle.load_content.proofs.targets.take_super.Goals as goal

pub locations-preserved : goal.locations-preserved
locations-preserved c =
    let segments = map segment_of_view c.args.views.now.items in
    let s = segment_of_view c.args.view.now in
    let is = sym c.next.ensures.answer ∙ c.in-Some.is in
    record {
      same =
          c.locations.invariant.same
          ∙ refusal_next segments s c.args.form c.in-Some.location c.locations.locations c.next.new.self is c.next.ensures.after (sym c.in_ok-cause-in-Some.ensures.value ∙ c.in-None-2.is);
      whole =
          spread_more segments s c.args.form c.in-Some.location c.locations.locations c.next.new.self (shown_spots c.locations.spots.items) (shown_spots c.take_at.new.spots.items) is c.next.ensures.after
          (c.in_ok-cause-in-Some.ensures.spots (ap (λ o. Ok o) c.in-None-2.is))
          ∙ c.locations.invariant.whole;
    }
