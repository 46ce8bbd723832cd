use Rattle.orca_text.proofs.Lookup.{row_found, row_missing}
use Rattle.orca_text.proofs.operation.row_of.Goals as goal

pub returns-in-Ok : goal.returns-in-Ok
returns-in-Ok c =
    row_found c.args.operation.now c.in-Some.key c.in-Ok.place c.spellings.result.now c.rows.result.now _ c.in-Some.ensures.0 c.in-Some.ensures.1
    c.spellings.ensures c.rows.ensures c.in-Ok.ensures.position

pub returns-in-Err : goal.returns-in-Err
returns-in-Err c =
    row_missing c.args.operation.now c.in-Some.key _ c.spellings.result.now c.in-Some.ensures.1 c.spellings.ensures c.in-Err.ensures.position
