use Rattle.std.proofs.Common.{◌≡◌, ◌++◌, map, replicate}
use Rattle.std.specs.List.{flat_map}
use Rattle.load_meaning.specs.Table.{entry_bytes, file_entry}
use Rattle.jump_table.proofs.table.Table.body_bytes.Given as goal

-- 8 zeros and the entries so far
abbrev pub invariant-loop-target : goal.invariant-loop-target
invariant-loop-target l = l.bytes.items ≡ replicate 8 0 ++ flat_map entry_bytes (map (λ target. file_entry target.now) l.yielded)
