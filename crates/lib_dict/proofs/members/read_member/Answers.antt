use Rattle.std.proofs.Common.{length, ap, arith}
use Rattle.lib_dict.proofs.MemberLaws.{few_in}
use Rattle.lib_dict.proofs.members.read_member.Goals as goal

pub dictionary_in-requires : goal.dictionary_in-requires
dictionary_in-requires c = few_in c.in-Ok.list c.deref.result.now c.in-Ok.ensures.found (omega (arith, ap length c.deref.ensures.value, c.requires))
