use Rattle.std.proofs.Common.{◌<◌, ◌^◌, length, All, sym, subst}
use Rattle.std.proofs.lemmas.List.Elements.{All-nil, All-push}
use Rattle.lib_dict.specs.declared.member.Member.{Member}
use Rattle.base_tests.proofs.dictionaries.made.Goals as goal

abbrev IsShort : Member → Type 0
IsShort m = length m.bytes.items < 2 ^ 32

pub make_library-requires-clause-short : goal.make_library-requires-clause-short
make_library-requires-clause-short c =
    subst (All IsShort) (sym c.in_ok-push-2.ensures.items)
    (All-push IsShort c.push.new.self.items c.args.second (subst (All IsShort) (sym c.in_ok-push.ensures.items) (All-push IsShort c.new-members.result.items c.args.first (subst (All IsShort) (sym c.new-members.ensures.items) (All-nil IsShort)) c.requires.first)) c.requires.second)
