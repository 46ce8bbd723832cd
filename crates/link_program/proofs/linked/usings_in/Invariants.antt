use Rattle.std.proofs.Common.{◌≡◌, ◌++◌}
use Rattle.link_program.specs.Linked.{names_of, usings_from}
use Rattle.link_program.proofs.linked.usings_in.Given as goal

-- the names so far, and those of the uses that are left
abbrev pub invariant-loop-number : goal.invariant-loop-number
invariant-loop-number l = names_of l.names.items ++ usings_from l.uses l.number ≡ usings_from l.uses l.from
