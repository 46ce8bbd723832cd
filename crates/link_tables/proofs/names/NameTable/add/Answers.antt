use Rattle.std.proofs.Common.{◌≡◌, refl, sym, ap, ◌∙◌}
use Rattle.link_tables.specs.declared.names.Matches.TheVariants.{Nothing, One, Several}
use Rattle.link_tables.specs.Names.{key_of, with_one_more, outcome}
use Rattle.link_tables.proofs.NameTables.{added_row, keeps_again, one_more}
use Rattle.link_tables.proofs.names.NameTable.add.Goals.{in-One, in-One-2}
use Rattle.link_tables.proofs.names.NameTable.add.Goals as goal

pub returns-in-Nothing : goal.returns-in-Nothing
returns-in-Nothing c = λ rows ix.
    let k = key_of c.args.key in
    let seen : Nothing ≡ outcome rows k = sym c.in-Nothing.is ∙ c.in_ok-keep.ensures.before ∙ ix k in
    added_row rows c.args.self.now c.keep.new.self k c.args.number Nothing (One c.args.number) ix seen refl c.in_ok-keep.ensures.kept

pub returns : goal.returns
returns c = λ rows ix.
    let k = key_of c.args.key in
    let before = c.in_ok-keep.field-0 in
    let now = Several c.match-branch-2.first in
    let seen : before ≡ outcome rows k = c.in_ok-keep.ensures.before ∙ ix k in
    let is : now ≡ with_one_more before c.args.number = elim c.match-branch-2.branch [
      | in-One w ↦ ap Several w.first-is ∙ one_more before w.in-One.first c.args.number w.in-One.is
      | in-One-2 w ↦ ap Several w.first-is ∙ one_more before w.in-One.first c.args.number w.in-One.is
    ] in
    added_row rows c.args.self.now c.keep-2.new.self k c.args.number before now ix seen is
    (keeps_again c.args.self.now c.keep.new.self c.keep-2.new.self k (One c.args.number) now c.in_ok-keep.ensures.kept c.in_ok-keep-2.ensures.kept)
