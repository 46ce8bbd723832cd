use Rattle.std.proofs.Common.{length, ap, arith}
use Rattle.workload.proofs.Parts.{content_made, content_short}
use Rattle.workload.proofs.objects.content.Goals as goal

pub returns-clause-records : goal.returns-clause-records
returns-clause-records c =
    content_made c.args.i c.args.size c.args.name.now c.new-body.result.items c.put_value.new.body.items c.put_bytes.new.body.items c.append_record.new.body.items
    c.new-body.ensures.items c.in_ok-put_value.ensures c.in_ok-put_bytes.ensures c.in_ok-append_record.ensures

pub returns-clause-short : goal.returns-clause-short
returns-clause-short c = omega (arith, ap length (returns-clause-records c), content_short c.args.i c.args.size c.args.name.now c.requires.short c.requires.small)
