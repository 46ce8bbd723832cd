use Rattle.std.proofs.Common.{Some, None, drop, IfOk, IfErr, sym, subst, arith}
use Rattle.lib_dict.specs.Tables.{AreNumbers, AreStarts, AreRowsIn, IsRowFault}
use Rattle.lib_dict.proofs.ReadLaws.{Answer, no_numbers, no_rows, no_names, all_forms, numbers_fit, names_named, starts_fit, few_segments}
use Rattle.lib_dict.proofs.reading.rows_in.Goals as goal

pub returns-in-None-clause-err : goal.returns-in-None-clause-err
returns-in-None-clause-err c =
    let p = c.args.parts in
    let none : AreNumbers None p.first.now = rw c.in-None.is at c.in_ok-numbers.ensures in
    no_numbers c.args.start p.at p.first.now p.second.now p.third.now (drop 1 c.args.list.now) none

pub returns-then-parts-ne0-clause-err : goal.returns-then-parts-ne0-clause-err
returns-then-parts-ne0-clause-err c =
    let p = c.args.parts in
    let numbers : AreNumbers (Some c.in-Some.numbers.keys) p.first.now = rw c.in-Some.is at c.in_ok-numbers.ensures in
    no_rows c.args.start p.at p.first.now p.second.now p.third.now (drop 1 c.args.list.now) numbers.0 numbers.1 (λ e. absurd (omega (arith, c.if-parts-ne0.true)))

pub name_starts-requires : goal.name_starts-requires
name_starts-requires c = c.requires.place.third'

pub returns-in-Ok-None-clause-err : goal.returns-in-Ok-None-clause-err
returns-in-Ok-None-clause-err c =
    let p = c.args.parts in
    let numbers : AreNumbers (Some c.in-Some.numbers.keys) p.first.now = rw c.in-Some.is at c.in_ok-numbers.ensures in
    let none : AreStarts None p.third.now = rw c.in-Ok-None.field-0-is at c.in-Ok-None.ensures in
    no_names c.args.start p.at p.first.now p.second.now p.third.now (drop 1 c.args.list.now) numbers.0 numbers.1 (omega (arith, c.if-parts-ne0.false)) none

pub known_in-requires : goal.known_in-requires
known_in-requires c = few_segments c.args.list.now c.requires.file

pub rows_of-rows-requires-clause-fits : goal.rows_of-rows-requires-clause-fits
rows_of-rows-requires-clause-fits c =
    let p = c.args.parts in
    let numbers : AreNumbers (Some c.in-Some.numbers.keys) p.first.now = rw c.in-Some.is at c.in_ok-numbers.ensures in
    let starts : AreStarts (Some c.in-Ok-Some.starts.keys) p.third.now = rw c.in-Ok-Some.field-0-is at c.in-Ok-Some.ensures in
    record {
      numbers = numbers_fit c.in-Some.numbers.keys p.first.now numbers;
      starts = starts_fit c.in-Ok-Some.starts.keys p.third.now starts;
      named = names_named c.in-Ok-Some.starts.keys p.third.now starts;
      known = c.in-Ok.ensures;
      file = c.requires.file;
    }

pub returns-clause-ok : goal.returns-clause-ok
returns-clause-ok c =
    let p = c.args.parts in
    let numbers : AreNumbers (Some c.in-Some.numbers.keys) p.first.now = rw c.in-Some.is at c.in_ok-numbers.ensures in
    let starts : AreStarts (Some c.in-Ok-Some.starts.keys) p.third.now = rw c.in-Ok-Some.field-0-is at c.in-Ok-Some.ensures in
    let same = all_forms c.args.start p.at p.first.now p.second.now p.third.now (drop 1 c.args.list.now) numbers.0 starts.0 numbers.1 (omega (arith, c.if-parts-ne0.false)) starts.1 in
    subst (λ (a : Answer). IfOk c.rows_of-rows.result (λ rows. AreRowsIn c.args.list.now a rows.items)) (sym same) c.rows_of-rows.ensures.ok

pub returns-clause-err : goal.returns-clause-err
returns-clause-err c =
    let p = c.args.parts in
    let numbers : AreNumbers (Some c.in-Some.numbers.keys) p.first.now = rw c.in-Some.is at c.in_ok-numbers.ensures in
    let starts : AreStarts (Some c.in-Ok-Some.starts.keys) p.third.now = rw c.in-Ok-Some.field-0-is at c.in-Ok-Some.ensures in
    let same = all_forms c.args.start p.at p.first.now p.second.now p.third.now (drop 1 c.args.list.now) numbers.0 starts.0 numbers.1 (omega (arith, c.if-parts-ne0.false)) starts.1 in
    subst (λ (a : Answer). IfErr c.rows_of-rows.result (λ fault. IsRowFault fault a)) (sym same) c.rows_of-rows.ensures.err
