use Rattle.std.proofs.Common.{◌≡◌, None, sym, subst}
use Rattle.link_meaning.specs.declared.search.SearchKind.{SearchKind}
use Rattle.link_meaning.specs.LinkedList.{row_for}
use Rattle.link_tables.specs.Offers.{offer_rows, titled_rows, IsRow}
use Rattle.link_tables.proofs.OfferLaws.{row_one, row_data, row_any}
use Rattle.link_tables.proofs.offers.Offers.row_for.Goals as goal

pub returns-in-Data : goal.returns-in-Data
returns-in-Data c = λ os m at are is.
    let P : SearchKind → Type 0 = λ w. IsRow os (row_for os m (record { want = w; name = c.args.name.now; at = at })) c.first_row.result in
    subst P (sym c.in-Data.is) (row_data os m c.args.user c.args.name.now at c.first_row.result is (c.first_row.ensures (titled_rows 0 os) are.titles))

pub returns-in-One : goal.returns-in-One
returns-in-One c = λ os m at are is.
    let P : SearchKind → Type 0 = λ w. IsRow os (row_for os m (record { want = w; name = c.args.name.now; at = at })) c.first_row-in-One.result in
    subst P (sym c.in-One.is) (row_one os m c.args.user c.args.name.now at c.first_row-in-One.result is (c.first_row-in-One.ensures (offer_rows 0 os) are.names))

pub returns-in-Any : goal.returns-in-Any
returns-in-Any c = λ os m at are is.
    let P : SearchKind → Type 0 = λ w. row_for os m (record { want = w; name = c.args.name.now; at = at }) ≡ None in
    subst P (sym c.in-Any.is) (row_any os m c.args.name.now at)
