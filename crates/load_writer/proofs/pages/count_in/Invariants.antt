use Rattle.std.proofs.Common.{◌≡◌, ◌+◌, drop}
use Rattle.load_writer.specs.WrittenParts.{run}
use Rattle.load_writer.proofs.pages.count_in.Given as goal

-- those so far and those at the start of what is left
abbrev pub invariant-front : goal.invariant-front
invariant-front l = (run l.page l.locations ≡ l.count + run l.page (drop l.at-index l.locations)) × (l.count ≡ l.at-index)
