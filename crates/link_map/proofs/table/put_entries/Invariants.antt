use Rattle.std.proofs.Common.{◌≡◌, ◌-◌, ◌++◌, length, take}
use Rattle.link_map.specs.MapText.{numbered_texts, entry_line}
use Rattle.link_map.proofs.table.put_entries.Given as goal

-- the lines of the first `place` entries
abbrev pub invariant-entries : goal.invariant-entries
invariant-entries l = l.line ≡ l.initial.line ++ numbered_texts (entry_line l.number) 0 (take l.place l.table)

abbrev pub decreases-entries : goal.decreases-entries
decreases-entries l = length l.table - l.place
