use Rattle.std.proofs.Common.{ℕ, List, Some, None, take, subst}
use Rattle.lib_dict.specs.Rows.{seen_row}
use Rattle.lib_dict.specs.Tables.{IsRowAnswer}
use Rattle.lib_dict.proofs.RowLoops.{rows_next, rows_false, rows_all}
use Rattle.lib_dict.proofs.rows.rows_of.Goals as goal

pub returns-in-None-clause-err : goal.returns-in-None-clause-err
returns-in-None-clause-err c =
    let t = c.args.tables.now in
    let answer : IsRowAnswer t (take 12 c.rows.rest.now) None = subst (λ (l : List ℕ). IsRowAnswer t l None) c.first_items.ensures c.in-None.ensures in
    rows_false t c.args.at c.args.second.now c.rows.place c.rows.rest.now c.rows.rows.items c.rows.invariant c.rows-test.true answer

pub rows-preserved : goal.rows-preserved
rows-preserved c =
    let t = c.args.tables.now in
    let answer : IsRowAnswer t (take 12 c.rows.rest.now) (Some (seen_row c.in-Some.row)) = subst (λ (l : List ℕ). IsRowAnswer t l (Some (seen_row c.in-Some.row))) c.first_items.ensures c.in-Some.ensures in
    rows_next t c.args.at c.args.second.now c.rows.place c.rows.rest.now c.items_after-rest.result.now c.rows.rows.items c.push.new.self.items c.in-Some.row c.rows.invariant c.rows-test.true answer c.in_ok-push-in-Some.ensures.items c.items_after-rest.ensures

pub returns-clause-ok : goal.returns-clause-ok
returns-clause-ok c = rows_all c.args.tables.now c.args.at c.args.second.now c.rows.place c.rows.rest.now c.rows.rows.items c.rows.invariant c.rows-test.false
