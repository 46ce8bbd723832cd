use Rattle.std.proofs.Common.{map, drop}
use Rattle.load_writer.specs.WrittenParts.{seen}
use Rattle.omf_cells.specs.Whole.{AreSpaced}
use Rattle.omf_cells.proofs.whole.are_spaced.Given as goal

-- they all lie apart where those that are left do, from the end on
abbrev pub invariant-patches : goal.invariant-patches
invariant-patches l = AreSpaced l.size l.end (map seen (drop l.patch-index l.patches)) → AreSpaced l.size 0 (map seen l.patches)
