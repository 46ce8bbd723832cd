use Rattle.std.proofs.Common.{◌≡◌, ◌<◌, ◌≤◌, List, None, length, get_or, refl, sym, ap, ◌∙◌, arith}
use Rattle.std.specs.Prelude.{slice_get, option_map}
use Rattle.std.proofs.lemmas.Bool.{ltb-false}
use Rattle.std.proofs.lemmas.Option.{slice_get_read, slice_get_past}
use Rattle.link_tables.specs.declared.listed.DefinitionMark.{DefinitionMark}
use Rattle.link_tables.specs.Listed.{expr_at}
use Rattle.link_tables.proofs.ListedLaws.{got_row, gone_row}
use Rattle.link_tables.proofs.listed.Listed.get.Goals as goal

pub returns-in-Some : goal.returns-in-Some
returns-in-Some c =
    let mark = c.in-Some.mark.now in
    let items = c.self.inside.marks.items in
    let k = c.args.number in
    let lt : k < length items = omega (arith, c.in-Some.ensures.lookup.3.0, ap length c.deref.ensures.value) in
    let item : mark ≡ get_or items k mark = c.in-Some.ensures.lookup.1 ∙ ap (λ (l : List DefinitionMark). get_or l k mark) c.deref.ensures.value in
    got_row (expr_at c.self.inside.exprs) items k mark (option_map (λ text. text.now) c.expr_of.result) c.args.self.now (slice_get_read items (length items) k mark refl lt item) c.expr_of.ensures c.self.view_is

pub returns-in-None : goal.returns-in-None
returns-in-None c =
    let items = c.self.inside.marks.items in
    let k = c.args.number in
    let past : length c.deref.result.now ≤ k = ltb-false k (length c.deref.result.now) (sym c.in-None.ensures.lookup.0) in
    let none : slice_get items k ≡ None = slice_get_past items k (omega (arith, past, ap length c.deref.ensures.value)) in
    gone_row (expr_at c.self.inside.exprs) items k c.args.self.now none c.self.view_is
