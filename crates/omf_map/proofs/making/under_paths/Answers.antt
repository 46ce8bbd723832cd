use Rattle.std.proofs.Common.{◌<◌, ◌∙◌, length, ap, arith, rules}
use Rattle.std.proofs.lemmas.Bool.{false≢true}
use Rattle.omf_commands.proofs.Libraries.{short_path}
use Rattle.omf_map.proofs.Passing.{passed_more, no_file_left, nothing_left}
use Rattle.omf_map.proofs.making.under_paths.Goals as goal

pub under_path-requires : goal.under_path-requires
under_path-requires c =
    let lt : c.paths.path-index < length c.args.paths.now = omega (arith, c.paths-test.true) in
    omega (arith, short_path 1 16 c.args.paths.now c.paths.path-index c.path-item.result c.requires lt c.path-item.is, ap length c.as_str.ensures.value)

pub returns-in-None : goal.returns-in-None
returns-in-None c = no_file_left c.args.paths.now c.args.files.items c.paths.path-index c.paths.members.items c.paths.files.rest.items c.paths.invariant (nothing_left c.paths.files.rest.items c.paths.files.rest.len _ c.in-None.ensures.variant (λ some. false≢true some) (omega (arith, c.paths.files.rest.ok.0)))

pub paths-preserved : goal.paths-preserved
paths-preserved c =
    let lt : c.paths.path-index < length c.args.paths.now = omega (arith, c.paths-test.true) in
    passed_more c.args.paths.now c.args.files.items c.paths.path-index c.paths.members.items c.push.new.self.items c.next.new.self.rest.items c.paths.files.rest.items c.path-item.result c.in-Some.bytes
    c.in_ok-under_path-in-Some.field-0 c.paths.invariant (search (c.in-Some.ensures.items, rules)) lt c.path-item.is (c.in_ok-under_path-in-Some.ensures.name ∙ c.as_str.ensures.value) c.in_ok-under_path-in-Some.ensures.bytes c.in_ok-push-in-Some.ensures.items
