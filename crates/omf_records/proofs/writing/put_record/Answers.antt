use Rattle.std.proofs.Common.{◌≡◌, true}
use Rattle.omf_format.specs.Field.{is_shift}
use Rattle.omf_format.specs.laws.FieldLaws.{shift_back}
use Rattle.omf_format.specs.Record.{spelling}
use Rattle.omf_records.proofs.writing.put_record.Goals as goal

pub returns-in-Reloc-clause-ok : goal.returns-in-Reloc-clause-ok
unfolding spelling
returns-in-Reloc-clause-ok c =
    let is : is_shift c.in-Reloc.shift ≡ true = (rw c.in-Reloc.is at c.requires).0.1 in
    rw c.in-Reloc.is (rw (c.patch.ensures, shift_back c.in-Reloc.shift is) at c.put_reloc.ensures.ok)

pub returns-in-InterSeg-clause-ok : goal.returns-in-InterSeg-clause-ok
unfolding spelling
returns-in-InterSeg-clause-ok c =
    let is : is_shift c.in-InterSeg.shift ≡ true = (rw c.in-InterSeg.is at c.requires).0.1 in
    rw c.in-InterSeg.is (rw (c.patch-front.ensures, shift_back c.in-InterSeg.shift is) at c.put_interseg.ensures.ok)
