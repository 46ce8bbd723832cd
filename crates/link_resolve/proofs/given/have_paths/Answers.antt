use Rattle.std.proofs.Common.{ℕ, List}
use Rattle.load_meaning.specs.Pathnames.{IsPath}
use Rattle.link_resolve.specs.Runtimes.{files_of}
use Rattle.link_resolve.proofs.RuntimeLaws.{file_at}
use Rattle.link_resolve.proofs.GivenLaws.{all_more, all_at, member_there, on_true}
use Rattle.link_resolve.proofs.given.have_paths.Goals as goal

abbrev HasPath : List ℕ × List ℕ → Type 0
HasPath file = IsPath file.0

pub files-preserved : goal.files-preserved
files-preserved c =
    let items = c.args.runtimes.now.items in
    let m = c.member-item.result in
    let at = file_at items c.files.member-index m (member_there c.deref-member-items.result.now items c.files.member-index m c.deref-member-items.ensures.value c.files-test.true c.member-item.is) in
    all_more HasPath (files_of items) c.files.member-index (m.name, m.bytes.items) at (on_true c.is_path.result (IsPath m.name) c.if-not-is_path.false c.is_path.ensures.path) c.files.invariant

pub returns-then-not-is_path-clause-others : goal.returns-then-not-is_path-clause-others
returns-then-not-is_path-clause-others c = λ is all.
    let items = c.args.runtimes.now.items in
    let m = c.member-item.result in
    let at = file_at items c.files.member-index m (member_there c.deref-member-items.result.now items c.files.member-index m c.deref-member-items.ensures.value c.files-test.true c.member-item.is) in
    c.is_path.ensures.other c.if-not-is_path.true (all_at HasPath (files_of items) c.files.member-index (m.name, m.bytes.items) at all)
