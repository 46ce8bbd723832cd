use Rattle.omf_format.specs.laws.WrittenHeaderLaws.{written_reads}
use Rattle.omf_header.specs.View.{fields}
use Rattle.omf_header.proofs.writing.write_header.Goals as goal

pub returns-clause-fields : goal.returns-clause-fields
returns-clause-fields c body =
    written_reads (fields c.args.header.now) c.args.body_length c.in_ok-written.written.items body c.in_ok-written.ensures c.know_widths.ensures
