-- What directives may do to what lines leave.
use Rattle.std.specs.Prelude.{ℕ, ◌<◌, ◌^◌, Option, Some, None}
use Rattle.orca_object.specs.declared.state.OpenSegment.{OpenSegment}

-- in a segment ORG goes less than 2^31 forward
abbrev pub IsNear : Option OpenSegment → ℕ → Type 0
IsNear None n = Unit {0}
IsNear (Some o) n = n < 2 ^ 31
