use Rattle.std.proofs.Common.{sym, subst}
use Rattle.orca_meaning.specs.Line.{HaveFields}
use Rattle.orca_meaning.specs.laws.LineLaws.{have_fields}
use Rattle.orca_text.proofs.decoded_line.DecodedLine.of_line.Goals as goal

pub part-requires : goal.part-requires
part-requires c = (subst (HaveFields c.args.of.now.text) (sym c.requires) (have_fields c.args.of.now.text)).operation
