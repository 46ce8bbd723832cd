use Rattle.std.proofs.Common.{ℕ, length, ap, sym, subst, ◌∙◌, arith, List}
use Rattle.std.proofs.lemmas.List.{length-map}
use Rattle.load_meaning.specs.declared.table.Target.{Target}
use Rattle.link_program.specs.Outside.{all_found}
use Rattle.link_meaning.specs.Layout.{load_headers}
use Rattle.link_content.specs.Fits.{to_load_limits}
use Rattle.link_values.specs.Slots.{rows_of}
use Rattle.link_file.specs.Walks.{IsWalkedTo, AreEmpty}
use Rattle.link_file.proofs.LoadLaws.{loads_size}
use Rattle.link_file.proofs.WalkedLaws.{walked_none, walked_all}
use Rattle.link_file.proofs.walk.fill.Goals as goal

pub members-init : goal.members-init
members-init c =
    let list = c.args.context.now.link.program.now in
    let reported = rows_of (all_found list) c.args.context.now.slots.now in
    let size = ap length c.requires.whole.loads' ∙ length-map (load_headers list) to_load_limits ∙ loads_size list in
    subst (λ (t : List Target). IsWalkedTo list reported 0 t c.in-Ok.contents.items) (sym c.requires.empty) (walked_none list reported c.in-Ok.contents.items (subst (λ (n : ℕ). AreEmpty n c.in-Ok.contents.items) size c.in-Ok.ensures))

pub returns-clause-ok : goal.returns-clause-ok
returns-clause-ok c =
    let list = c.args.context.now.link.program.now in
    walked_all list (rows_of (all_found list) c.args.context.now.slots.now) c.members.place c.members.table c.members.contents.items c.members.invariant (omega (arith, c.members-test.false, c.members-in-members.ensures))
