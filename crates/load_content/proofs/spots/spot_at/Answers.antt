use Rattle.std.proofs.Common.{◌≡◌, ◌+◌, List, Option, take, drop, get_or, sym, ap, subst, ◌∙◌}
use Rattle.std.specs.Prelude.{option_map}
use Rattle.std.specs.Option.{option_or}
use Rattle.load_content.specs.declared.spots.PatchSpot.{PatchSpot}
use Rattle.load_content.specs.Content.{part_of, shown_spots, last_at, AreRising, AreRuns}
use Rattle.load_content.proofs.RunLists.{next_run, last_run, run_passed}
use Rattle.load_content.proofs.spots.spot_at.Goals as goal

pub split_at-requires : goal.split_at-requires
split_at-requires c = (next_run c.args.runs.now c.runs.count-index c.runs.left.now c.runs-test.true c.runs.invariant.are).0

pub spot_in-requires : goal.spot_in-requires
spot_in-requires c = subst AreRising (sym c.split_at.ensures.front) (next_run c.args.runs.now c.runs.count-index c.runs.left.now c.runs-test.true c.runs.invariant.are).1

pub runs-preserved : goal.runs-preserved
runs-preserved c =
    let left = c.runs.left.now in
    let at = c.args.at in
    let n = get_or c.args.runs.now c.runs.count-index 0 in
    let whole = last_at (shown_spots c.args.spots.now) at in
    let here : option_map part_of c.spot_in.result ≡ last_at (shown_spots (take n left)) at = c.spot_in.ensures ∙ ap (λ (l : List PatchSpot). last_at (shown_spots l) at) c.split_at.ensures.front in
    record {
      are = subst (AreRuns (drop (c.runs.count-index + 1) c.args.runs.now)) (sym c.split_at.ensures.back) (next_run c.args.runs.now c.runs.count-index left c.runs-test.true c.runs.invariant.are).2;
      whole =
          ap (λ (l : List PatchSpot). option_or (last_at (shown_spots l) at) (option_map part_of c.or-found.result)) c.split_at.ensures.back
          ∙ ap (λ (o : Option PatchSpot). option_or (last_at (shown_spots (drop n left)) at) (option_map part_of o)) c.or-found.ensures
          ∙ run_passed left n at c.runs.found c.spot_in.result here
          ∙ c.runs.invariant.whole;
    }

pub returns : goal.returns
returns c =
    let none = last_run c.args.runs.now c.runs.count-index c.runs.left.now c.runs-test.false c.runs.invariant.are in
    sym (ap (λ (l : List PatchSpot). option_or (last_at (shown_spots l) c.args.at) (option_map part_of c.runs.found)) none) ∙ c.runs.invariant.whole
