use Rattle.std.proofs.Common.{◌≤◌, List, length, sym, subst, arith}
use Rattle.std.specs.Prelude.{Vec, ℕ}
use Rattle.std.specs.declared.alloc.Global.{Global}
use Rattle.std.proofs.lemmas.List.{length-map}
use Rattle.lib_dict.specs.declared.member.Member.{Member}
use Rattle.link_resolve.specs.Resolved.{FewGiven, given_of}
use Rattle.omf_making.specs.Made.{all_bytes}
use Rattle.omf_cli.proofs.Linking.{few_alone}
use Rattle.omf_map.proofs.making.make_alone.Goals as goal

pub make_of-requires-clause-few : goal.make_of-requires-clause-few
make_of-requires-clause-few c =
    let files = c.args.files.now.items in
    let few : length (all_bytes files) ≤ 255 = omega (arith, length-map files (λ (file : Vec ℕ Global). file.items), c.requires.few) in
    subst (λ (l : List Member). FewGiven (given_of files l c.args.form)) (sym c.new-runtimes.ensures.items) (few_alone c.args.form (all_bytes files) c.requires.short few)
