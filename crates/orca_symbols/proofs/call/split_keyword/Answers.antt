use Rattle.std.proofs.Common.{sym, ◌∙◌}
use Rattle.orca_symbols.proofs.Binds.{has_name, no_start, no_equals}
use Rattle.orca_symbols.proofs.call.split_keyword.Goals as goal

pub returns-then-not-is_name_start-clause-found : goal.returns-then-not-is_name_start-clause-found
returns-then-not-is_name_start-clause-found c = λ parameters place.
    no_start parameters place c.args.piece.now c.in-Some.following.now c.in-Some.first.now c.in-Some.ensures.cases.0 (sym c.is_name_start.ensures ∙ c.if-not-is_name_start.true)

pub returns-in-Some-after_byte-clause-found : goal.returns-in-Some-after_byte-clause-found
returns-in-Some-after_byte-clause-found c =
    has_name c.args.piece.now c.in-Some.following.now c.split_at.result.0.now c.split_at.result.1.now c.in-Some-after_byte.text.now c.in-Some.first.now c.name_len.result
    c.in-Some.ensures.cases.0 (sym c.is_name_start.ensures ∙ c.if-not-is_name_start.false) c.name_len.ensures.value c.split_at.ensures.front c.split_at.ensures.back c.in-Some-after_byte.ensures

pub returns-in-None-clause-found : goal.returns-in-None-clause-found
returns-in-None-clause-found c = λ parameters place.
    no_equals parameters place c.args.piece.now c.in-Some.following.now c.split_at.result.0.now c.split_at.result.1.now c.in-Some.first.now c.name_len.result
    c.in-Some.ensures.cases.0 (sym c.is_name_start.ensures ∙ c.if-not-is_name_start.false) c.name_len.ensures.value c.split_at.ensures.front c.split_at.ensures.back c.in-None.ensures
