-- A load file behind a pointer of C's, or none.
use Rattle.std.specs.Prelude.{List, Option}
use Rattle.omf_format.specs.File.{Segment}
use Rattle.omf_c_files.specs.declared.holder.OmfFileView.{OmfFileView}

-- the segments of the file that is open, if one is
abbrev pub inside : OmfFileView → Option (List Segment)
inside view = view.pointer.value
