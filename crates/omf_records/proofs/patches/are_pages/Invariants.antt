use Rattle.std.proofs.Common.{◌≡◌, ◌≤◌, drop}
use Rattle.omf_format.specs.Super.{end_pages}
use Rattle.omf_records.proofs.patches.are_pages.Given as goal

-- what is left ends with a subrecord exactly where the whole does
abbrev pub invariant-bytes : goal.invariant-bytes
invariant-bytes l = (end_pages l.lows (drop l.place l.bytes) ≡ end_pages 0 l.bytes) × (l.lows ≤ 128)
