use Rattle.std.proofs.Common.{◌≡◌, true, take}
use Rattle.std.specs.List.{list_all}
use Rattle.omf_c_files.specs.Opened.{is_callable}
use Rattle.omf_c_files.proofs.parts.is_runtime.Given as goal

-- the segments so far are dynamic, and none is skipped
abbrev pub invariant-loop-k : goal.invariant-loop-k
invariant-loop-k l = list_all is_callable (take l.k l.load) ≡ true
