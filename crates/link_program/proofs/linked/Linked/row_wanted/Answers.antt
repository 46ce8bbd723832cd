use Rattle.std.proofs.Common.{◌-◌, ◌<◌, length, Option, refl, sym, subst, ◌∙◌, arith}
use Rattle.std.proofs.lemmas.Option.{slice_get_read}
use Rattle.link_meaning.specs.Member.{Member}
use Rattle.link_meaning.specs.LinkedList.{found_for, row_for}
use Rattle.link_tables.specs.Offers.{IsRow}
use Rattle.link_tables.specs.Uses.{use_of}
use Rattle.link_program.proofs.LinkedLaws.{member_is}
use Rattle.link_program.proofs.SearchLaws.{one_some, several_some}
use Rattle.link_program.proofs.WantedLaws.{row_unless, no_row}
use Rattle.link_program.proofs.linked.Linked.row_wanted.Goals as goal

pub returns-in-Nothing : goal.returns-in-Nothing
returns-in-Nothing c = λ list os m holds far are at.
    let used = c.args.used.now in
    let items = c.args.self.now.members.items in
    let k = used.place - 1 in
    let less : k < length items = omega (arith, c.requires.positive, c.requires.within) in
    let there = slice_get_read items (length items) k c.index-origin.result.now refl less c.index-origin.ensures in
    let of = member_is list c.args.self.now k m c.index-origin.result.now holds at there in
    let found = found_for list used.place m (use_of used).1 in
    let row = row_for os m (use_of used).1 in
    let same = row_unless found c.found_for.result row (c.found_for.ensures list m holds far at) c.in-Nothing.is in
    subst (λ (w : Option Member). IsRow os w c.row_for.result) (sym same) (c.row_for.ensures os m used.at are of)

pub returns-in-One : goal.returns-in-One
returns-in-One c = λ list os m holds far are at.
    let used = c.args.used.now in
    no_row (found_for list used.place m (use_of used).1) c.found_for.result (row_for os m (use_of used).1) (c.found_for.ensures list m holds far at) (λ e. one_some _ (sym c.in-One.is ∙ e))

pub returns-in-Several : goal.returns-in-Several
returns-in-Several c = λ list os m holds far are at.
    let used = c.args.used.now in
    no_row (found_for list used.place m (use_of used).1) c.found_for.result (row_for os m (use_of used).1) (c.found_for.ensures list m holds far at) (λ e. several_some _ (sym c.in-Several.is ∙ e))
