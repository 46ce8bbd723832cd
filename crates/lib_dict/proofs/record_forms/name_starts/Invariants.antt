use Rattle.std.proofs.Common.{◌-◌, length}
use Rattle.lib_dict.proofs.Forms.{ReadNames}
use Rattle.lib_dict.proofs.record_forms.name_starts.Given as goal

-- the names before the displacement were read
abbrev pub invariant-names : goal.invariant-names
invariant-names l = ReadNames l.bytes l.at l.starts.keys

abbrev pub decreases-names : goal.decreases-names
decreases-names l = length l.bytes - l.at
