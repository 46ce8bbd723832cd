use Rattle.std.proofs.Common.{true, false, sym, ◌∙◌}
use Rattle.omf_c_loader.proofs.Finding.{next_of, none_left, held_first}
use Rattle.omf_c_loader.proofs.store.content_of.Goals as goal

pub files-preserved : goal.files-preserved
files-preserved c =
    c.files.invariant ∙ next_of c.args.path.now c.args.files.now c.files.file-index _ false c.files-test.true (sym c.eq.ensures ∙ c.if-eq.false)

pub returns-then-eq : goal.returns-then-eq
returns-then-eq c =
    sym (held_first c.args.path.now c.args.files.now ∙ c.files.invariant
    ∙ next_of c.args.path.now c.args.files.now c.files.file-index _ true c.files-test.true (sym c.eq.ensures ∙ c.if-eq.true))

pub returns : goal.returns
returns c = sym (held_first c.args.path.now c.args.files.now ∙ c.files.invariant ∙ none_left c.args.path.now c.args.files.now c.files.file-index c.files-test.false)
