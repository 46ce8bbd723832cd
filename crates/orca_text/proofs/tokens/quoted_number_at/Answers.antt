use Rattle.std.proofs.Common.{arith, sym, ◌≤◌}
use Rattle.orca_text.proofs.Texts.{text_found, text_bounds}
use Rattle.orca_text.proofs.tokens.quoted_number_at.Goals as goal

pub returns : goal.returns
returns c =
    let bounds : (1 ≤ c.in-Some.close) × (c.in-Some.close ≤ 4) = text_bounds c.in-Some.close _ c.in-Some-little_number.ensures.none.1 in
    (text_found c.args.quote c.in-Some.close _ _ _ (sym c.in-Some.ensures) bounds.0 bounds.1 c.in-Some-little_number.ensures.value c.from.ensures, omega arith)
