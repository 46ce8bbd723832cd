use Rattle.std.proofs.Common.{◌≡◌, ◌-◌, length, take, drop}
use Rattle.std.specs.Prelude.{replicate}
use Rattle.orca_meaning.specs.Characters.{folded}
use Rattle.orca_object.proofs.segments.pad_load_name.Given as goal

abbrev pub invariant-bytes : goal.invariant-bytes
invariant-bytes l = (length l.name ≡ 10) × (take l.i l.name ≡ folded (take l.i l.text)) × (drop l.i l.name ≡ replicate (10 - l.i) 0x20)
