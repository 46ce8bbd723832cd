-- How the emitter's types are seen.
use Rattle.std.specs.Prelude.{not, ◌||◌, List, length, Result, Ok, Err, nat_lt, if◌then◌else◌}
use Rattle.std.specs.List.{list_any}
use Rattle.omf_format.specs.Header.{HeaderFields, is_dynamic}
use Rattle.load_meaning.specs.declared.table.Target.{Target}
use Rattle.load_meaning.specs.Table.{most_entries, is_same}
use Rattle.link_meaning.specs.declared.fault.LinkCause.{LinkCause}
use Rattle.link_meaning.specs.declared.fault.LinkCause.TheVariants.{TooManyEntries}
use Rattle.link_meaning.specs.Member.{LinkSetting}
use Rattle.link_meaning.specs.Fitting as meaning
use Rattle.link_content.specs.declared.fit.FitOutcome.{FitOutcome}
use Rattle.link_content.specs.declared.fit.FitOutcome.TheVariants.{Number, Place, Entry}
use Rattle.link_content.specs.declared.context.LoadLimits.{LoadLimits}
use Rattle.link_content.specs.declared.fit.PatchPlace.{PatchPlace}

abbrev pub to_fit_meaning : FitOutcome → meaning.Fit
to_fit_meaning (Number n) = meaning.Number n
to_fit_meaning (Place segment offset shift) = meaning.Place segment offset shift
to_fit_meaning (Entry target) = meaning.Entry target

-- a frame in what is linked so
abbrev pub shown_frame : LinkSetting → PatchPlace → meaning.PatchPlace
shown_frame setting f = record { own = f.own; bank_size = f.bank_size; place = f.place; setting = setting }

-- what becomes of a value, or why it doesn't fit
abbrev pub to_fit : Result FitOutcome LinkCause → Result meaning.Fit LinkCause
to_fit (Ok fit) = Ok (to_fit_meaning fit)
to_fit (Err cause) = Err cause

-- what is kept of a load segment's header
abbrev pub to_load_limits : HeaderFields → LoadLimits
to_load_limits f = record { dynamic = is_dynamic f.kind; length = f.length; bank_size = f.bank_size }

-- an entry needs room for its target
abbrev pub with_room : List Target → meaning.Fit → Result meaning.Fit LinkCause
with_room targets (meaning.Number n) = Ok (meaning.Number n)
with_room targets (meaning.Place segment offset shift) = Ok (meaning.Place segment offset shift)
with_room targets (meaning.Entry target) =
    if not (list_any (is_same target) targets || nat_lt (length targets) most_entries) then Err TooManyEntries else Ok (meaning.Entry target)

-- what becomes of a value once its target has room
abbrev pub fit_with_room : List Target → Result FitOutcome LinkCause → Result meaning.Fit LinkCause
fit_with_room targets (Ok fit) = with_room targets (to_fit_meaning fit)
fit_with_room targets (Err cause) = Err cause
