use Rattle.std.proofs.Common.{◌≡◌, replicate, false}
use Rattle.link_program.proofs.growing.flags.Given as goal

abbrev pub invariant-loop : goal.invariant-loop
invariant-loop l = l.flags.items ≡ replicate l.counter false
