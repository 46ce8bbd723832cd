use Rattle.std.proofs.Common.{◌≡◌, ℕ, ◌<◌, ◌≤◌, Some}
use Rattle.std.specs.Prelude.{slice_get}
use Rattle.load_content.specs.declared.spots.PatchSpot.{PatchSpot}
use Rattle.load_content.specs.Content.{end_of}
use Rattle.load_content.proofs.order.apart_count.Given as goal

-- the spots so far lie apart, and none ends after `end`
abbrev pub invariant-spots : goal.invariant-spots
invariant-spots l = record {
  count : l.count ≡ l.spot-index;
  start : l.spot-index ≡ 0 → l.end ≡ 0;
  apart : (i j : ℕ) (s t : PatchSpot) → i < j → j < l.spot-index → slice_get l.spots i ≡ Some s → slice_get l.spots j ≡ Some t → end_of s ≤ t.at;
  most : (i : ℕ) (s : PatchSpot) → i < l.spot-index → slice_get l.spots i ≡ Some s → end_of s ≤ l.end;
}
