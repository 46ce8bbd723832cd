use Rattle.std.proofs.Common.{◌≡◌, ◌%◌, ◌++◌, map, take}
use Rattle.load_writer.proofs.pages.put_lows.Given as goal

abbrev pub invariant-loop-at : goal.invariant-loop-at
invariant-loop-at l = l.out.items ≡ l.initial.out.items ++ map (λ at. at % 256) (take l.at-index l.locations)
