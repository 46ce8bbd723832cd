use Rattle.std.proofs.Common.{◌≡◌, ◌<◌, ◌≤◌, ℕ, Some, length, refl, sym, subst, ◌∙◌, ap, arith}
use Rattle.std.specs.Prelude.{slice_get}
use Rattle.std.proofs.lemmas.Bool.{ltb-false}
use Rattle.std.proofs.lemmas.Option.{slice_get_read, slice_get_past}
use Rattle.omf_commands.proofs.Libraries.{short_path, gathered_more, gathered_files}
use Rattle.omf_commands.proofs.library.members_of.Goals as goal

pub member_of-requires : goal.member_of-requires
member_of-requires c =
    let path = c.path-item.result in
    let lt : c.paths.path-index < length c.args.paths.now = omega (arith, c.paths-test.true) in
    omega (arith, short_path 1 255 c.args.paths.now c.paths.path-index path c.requires.paths lt c.path-item.is, ap length c.as_str.ensures.value)

pub returns-in-None-clause-are : goal.returns-in-None-clause-are
returns-in-None-clause-are c =
    let files = c.args.files.now in
    let count : c.len.result ≡ length c.paths.members.items = omega (arith, c.len.ensures, c.paths.members.ok.0) in
    let past : length files ≤ c.len.result = ltb-false c.len.result (length files) (sym c.in-None.ensures.lookup.0) in
    gathered_files c.args.paths.now files c.paths.path-index c.paths.members.items c.paths.invariant (slice_get_past files (length c.paths.members.items) (omega arith))

pub paths-preserved : goal.paths-preserved
paths-preserved c =
    let files = c.args.files.now in
    let file = c.in-Some.file.now in
    let path = c.path-item.result in
    let lt : c.paths.path-index < length c.args.paths.now = omega (arith, c.paths-test.true) in
    let count : c.len.result ≡ length c.paths.members.items = omega (arith, c.len.ensures, c.paths.members.ok.0) in
    let within : c.len.result < length files = omega (arith, c.in-Some.ensures.lookup.3.0) in
    let found : slice_get files c.len.result ≡ Some file = slice_get_read files (length files) c.len.result file refl within c.in-Some.ensures.lookup.1 in
    let there : slice_get files (length c.paths.members.items) ≡ Some file = subst (λ (n : ℕ). slice_get files n ≡ Some file) count found in
    gathered_more c.args.paths.now files c.paths.path-index c.paths.members.items c.push.new.self.items path file c.in_ok-member_of-in-Some.field-0 c.paths.invariant c.requires.short lt c.path-item.is there
    (c.in_ok-member_of-in-Some.ensures.name ∙ c.as_str.ensures.value) (c.in_ok-member_of-in-Some.ensures.bytes ∙ c.as_slice.ensures.value) c.in_ok-push-in-Some.ensures.items
