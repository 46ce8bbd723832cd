use Rattle.std.proofs.Common.{◌∙◌}
use Rattle.link_file.proofs.FileLaws.{table_named}
use Rattle.link_file.proofs.file.table_header.Goals as goal

pub returns-clause-ok : goal.returns-clause-ok
returns-clause-ok c = c.written.ensures ∙ table_named c.args.number c.args.size c.in-Ok.name c.in-Ok.ensures.ok
