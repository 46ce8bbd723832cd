use Rattle.std.proofs.Common.{◌∙◌}
use Rattle.link_file.proofs.PathLaws.{pathnames_named}
use Rattle.link_file.proofs.pathnames.pathnames_header.Goals as goal

pub returns-clause-ok : goal.returns-clause-ok
returns-clause-ok c = c.written.ensures ∙ pathnames_named c.args.number c.args.size c.in-Ok.name c.in-Ok.ensures.ok
