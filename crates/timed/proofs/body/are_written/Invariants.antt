use Rattle.std.proofs.Common.{map, drop}
use Rattle.load_writer.specs.WrittenParts.{seen}
use Rattle.load_meaning.specs.WrittenBody.{AreWritten}
use Rattle.timed.proofs.body.are_written.Given as goal

-- where those that are left can be written, all can
abbrev pub invariant-patches : goal.invariant-patches
invariant-patches l = AreWritten l.size l.from (map seen (drop l.patch-index l.patches)) → AreWritten l.size 0 (map seen l.patches)
