use Rattle.std.proofs.Common.{◌-◌, length}
use Rattle.link_program.specs.Outside.{all_found}
use Rattle.link_values.specs.Slots.{rows_of}
use Rattle.link_file.specs.Exported.{ExportsTo}
use Rattle.link_file.proofs.exports.exports_text.Given as goal

-- the members so far have their ENTRY records
abbrev pub invariant-members : goal.invariant-members
invariant-members l = ExportsTo l.context.link.program.now (rows_of (all_found l.context.link.program.now) l.context.slots.now) l.place l.number l.out.items

abbrev pub decreases-members : goal.decreases-members
decreases-members l = length l.context.link.program.now - l.place
