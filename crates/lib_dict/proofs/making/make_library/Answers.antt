use Rattle.std.proofs.Common.{◌<◌, ◌^◌, length, map, arith}
use Rattle.std.proofs.lemmas.List.{length-map}
use Rattle.std.proofs.lemmas.List.Elements.{recursion_from_All}
use Rattle.lib_dict.specs.declared.member.Member.{Member}
use Rattle.lib_dict.specs.Made.{library_file}
use Rattle.lib_dict.proofs.SizeLaws.{members_fit, members_count}
use Rattle.lib_dict.proofs.making.make_library.Goals as goal

pub library_from-requires-clause-few : goal.library_from-requires-clause-few
library_from-requires-clause-few c =
    omega (arith, members_count c.args.members.now.items (map library_file c.in_ok-reads.reads.items) c.in_ok-reads.ensures.ok, length-map c.in_ok-reads.reads.items library_file, c.requires.few)

pub library_from-requires-clause-files : goal.library_from-requires-clause-files
library_from-requires-clause-files c =
    let files = map library_file c.in_ok-reads.reads.items in
    let count = members_count c.args.members.now.items files c.in_ok-reads.ensures.ok in
    record {
      few = omega (arith, count, c.requires.few);
      each = members_fit c.args.members.now.items files c.in_ok-reads.ensures.ok (recursion_from_All (λ (m : Member). length m.bytes.items < 2 ^ 32) c.args.members.now.items c.requires.short);
    }
