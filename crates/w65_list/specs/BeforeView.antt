-- What the lines so far leave, as it is kept.
use Rattle.std.specs.Prelude.{◌≡◌}
use Rattle.list_meaning.specs.Listing as listing
use Rattle.w65_list.specs.declared.records.PendingRun.{PendingRun}
use Rattle.list_lines.specs.NamesView.{AreNames}
use Rattle.w65_list.specs.RunView.{widths_view}

-- what is kept between records is this
pub record IsBefore (before : PendingRun) (b : listing.PendingRun) : Type 0 where
  pub widths : widths_view before.widths ≡ b.widths
  pub run : before.run.items ≡ b.run
  pub names : AreNames before.names b.names
