use Rattle.omf_records.proofs.writing.put_interseg.Goals as goal

pub returns-clause-ok : goal.returns-clause-ok
returns-clause-ok c = rw (c.four_bytes.ensures, c.words.ensures, c.four_bytes-2.ensures) at c.put_all.ensures.ok
