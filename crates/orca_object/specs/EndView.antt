-- The header of a segment that ends.
use Rattle.omf_format.specs.Header.{HeaderFields}
use Rattle.orca_object.specs.declared.state.OpenSegment.{OpenSegment}
use Rattle.orca_object.specs.StateView.{header_view}

-- LENGTH is the number of its cells
abbrev pub ended_header : OpenSegment → HeaderFields
ended_header o = record (header_view o) { length = o.body.cells }
