use Rattle.std.proofs.Common.{◌≡◌, ◌-◌, ◌++◌, length, take}
use Rattle.link_meaning.specs.Layout.{load_headers}
use Rattle.link_map.specs.MapText.{numbered_texts, load_text}
use Rattle.link_map.proofs.members.put_loads.Given as goal

-- the lines of the first `number` load segments
abbrev pub invariant-loads : goal.invariant-loads
invariant-loads l = l.line ≡ l.initial.line ++ numbered_texts (load_text l.values.list l.values.table) 1 (take l.number (load_headers l.values.list))

abbrev pub decreases-loads : goal.decreases-loads
decreases-loads l = length (load_headers l.values.list) - l.number
