use Rattle.lib_dict.proofs.MemberLaws.{ReadSoFar}
use Rattle.lib_dict.proofs.members.read_members.Given as goal

-- the files so far were read
abbrev pub invariant-members : goal.invariant-members
invariant-members l = ReadSoFar l.members.items l.member-index l.file l.reads.items
