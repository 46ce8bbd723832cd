use Rattle.std.proofs.Common.{◌≡◌, map, drop}
use Rattle.load_writer.specs.WrittenParts.{seen, end_after}
use Rattle.load_writer.proofs.written_data.end_of.Given as goal

abbrev pub invariant-patches : goal.invariant-patches
invariant-patches l = end_after l.end (map seen (drop l.patch-index l.patches)) ≡ end_after 0 (map seen l.patches)
