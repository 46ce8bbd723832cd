use Rattle.std.proofs.Common.{◌≡◌, length, map, take, drop}
use Rattle.omf_cells.specs.Load.{table_targets}
use Rattle.omf_c_files.specs.Views.{target_view}
use Rattle.omf_c_files.proofs.parts.put_targets.Given as goal

-- the targets so far, and after them what was there before
abbrev pub invariant-loop-k : goal.invariant-loop-k
invariant-loop-k l = (length l.room ≡ length l.fn.room) × (take l.k l.room ≡ map target_view (take l.k (table_targets l.load))) × (drop l.k l.room ≡ drop l.k l.fn.room)
