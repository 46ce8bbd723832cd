use Rattle.sys_loader.proofs.Static.{AgainSought}
use Rattle.sys_loader.proofs.restart.some_read_again.Given as goal

-- no segment so far is read again
abbrev pub invariant-segments : goal.invariant-segments
invariant-segments l = AgainSought l.segments.items l.segment-index
