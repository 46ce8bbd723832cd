use Rattle.std.proofs.Common.{List, sym, subst, append-nil, arith}
use Rattle.lib_dict.specs.Rows.{seen_row}
use Rattle.link_meaning.specs.Member.{Offer}
use Rattle.link_tables.specs.Offers.{AreOffers}
use Rattle.link_resolve.proofs.LibraryLaws.{row_at, rows_next, rows_all}
use Rattle.link_resolve.proofs.library.add_rows.Goals as goal

pub add_row-requires-clause-reported : goal.add_row-requires-clause-reported
add_row-requires-clause-reported c =
    let r = row_at c.args.segments.now c.args.dictionary.now c.requires.reported.0 c.rows.place (seen_row c.in-Some.row) c.requires.reported.1 c.in-Some.ensures in
    (r.row, r.reported', c.requires.reported.2 r.row r.among)

pub rows-init : goal.rows-init
rows-init c = (omega arith, λ setting os rows reported stand are. subst (λ (l : List Offer). AreOffers l c.reserve.new.self) (sym (append-nil os)) (c.reserve.ensures os are))

pub rows-preserved : goal.rows-preserved
rows-preserved c = (
  omega (arith, c.rows-test.true, c.count.ensures),
  λ setting os rows reported stand are.
      let r = row_at c.args.segments.now c.args.dictionary.now rows c.rows.place (seen_row c.in-Some.row) reported c.in-Some.ensures in
      rows_next setting c.args.file c.args.segments.now os rows c.rows.place (seen_row c.in-Some.row) r stand c.rows.offers c.add_row.new.offers (c.rows.invariant.1 setting os rows reported stand are)
      (λ os' row o reported' stands offer are'. c.in_ok-add_row.ensures setting os' row o reported' stands offer are'),
)

pub returns : goal.returns
returns c = λ setting os rows reported stand are.
    rows_all setting c.args.file c.args.segments.now c.args.dictionary.now os rows c.rows.place c.rows.offers reported (omega (arith, c.rows-test.false, c.count.ensures)) (c.rows.invariant.1 setting os rows reported stand are)
