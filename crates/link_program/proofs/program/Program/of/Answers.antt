use Rattle.std.proofs.Common.{List, sym, subst}
use Rattle.link_meaning.specs.Member.{Member}
use Rattle.link_program.specs.Programs.{IsKept}
use Rattle.link_program.proofs.ProgramLaws.{list_is}
use Rattle.link_program.proofs.program.Program.of.Goals as goal

pub invariant_of-result : goal.invariant_of-result
invariant_of-result c = subst (λ (l : List Member). IsKept l c.args.kept) (sym (list_is c.requires.0 c.args.kept c.requires.1)) c.requires.1

pub returns : goal.returns
returns c = λ list is. list_is list c.args.kept is
