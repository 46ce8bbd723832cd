use Rattle.std.proofs.Common.{take}
use Rattle.load_content.specs.Content.{shown_spots}
use Rattle.omf_cells.specs.Ends.{IsEnd}
use Rattle.omf_cells.proofs.ends.last_end.Given as goal

-- those so far end there
abbrev pub invariant-spots : goal.invariant-spots
invariant-spots l = IsEnd (shown_spots (take l.spot-index l.spots)) l.end
