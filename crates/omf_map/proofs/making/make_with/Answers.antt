use Rattle.std.proofs.Common.{◌≤◌, length, sym, subst, arith}
use Rattle.std.specs.Prelude.{Vec, ℕ, IfOk}
use Rattle.std.specs.declared.alloc.Global.{Global}
use Rattle.std.proofs.lemmas.List.{length-map}
use Rattle.link_meaning.specs.LinkFaults.{LinkInput}
use Rattle.link_resolve.specs.Resolved.{FewGiven, HavePaths}
use Rattle.omf_making.specs.Words.{words_of}
use Rattle.omf_making.specs.Made.{all_bytes, made_of}
use Rattle.omf_map.specs.Mapped.{MapMakes}
use Rattle.omf_cli.proofs.Linking.{few_with, paths_with, given_parted}
use Rattle.omf_map.proofs.making.make_with.Goals as goal

pub make_of-requires-clause-few : goal.make_of-requires-clause-few
make_of-requires-clause-few c =
    let files = c.args.files.items in
    let paths = c.args.paths.now in
    let few : length (all_bytes files) ≤ 255 = omega (arith, length-map files (λ (file : Vec ℕ Global). file.items), c.requires.few) in
    let given = given_parted paths files c.in_ok-inputs.inputs.items c.in_ok-inputs.following.items c.in_ok-runtimes.runtimes.items c.in_ok-inputs.ensures.front c.in_ok-inputs.ensures.following c.in_ok-runtimes.ensures in
    subst FewGiven (sym given) (few_with (words_of paths) (all_bytes files) c.requires.short few)

pub make_of-requires-clause-paths : goal.make_of-requires-clause-paths
make_of-requires-clause-paths c =
    let files = c.args.files.items in
    let paths = c.args.paths.now in
    let given = given_parted paths files c.in_ok-inputs.inputs.items c.in_ok-inputs.following.items c.in_ok-runtimes.runtimes.items c.in_ok-inputs.ensures.front c.in_ok-inputs.ensures.following c.in_ok-runtimes.ensures in
    subst HavePaths (sym given) (paths_with (words_of paths) (all_bytes files) c.requires.paths c.requires.printing)

pub returns : goal.returns
returns c =
    let files = c.args.files.items in
    let paths = c.args.paths.now in
    let given = given_parted paths files c.in_ok-inputs.inputs.items c.in_ok-inputs.following.items c.in_ok-runtimes.runtimes.items c.in_ok-inputs.ensures.front c.in_ok-inputs.ensures.following c.in_ok-runtimes.ensures in
    subst (λ (g : LinkInput). IfOk c.make_of.result (λ made. MapMakes g (made_of made))) given c.make_of.ensures
