use Rattle.sys_loader.proofs.Static.{AllSought}
use Rattle.sys_loader.proofs.restart.are_there.Given as goal

-- all segments so far are there
abbrev pub invariant-segments : goal.invariant-segments
invariant-segments l = AllSought l.banks.slots l.segments.items l.segment-index
