use Rattle.std.proofs.Common.{sym, ◌∙◌}
use Rattle.orca_symbols.proofs.Letters.{a_found, s_found, l_found, m_found, g_found, none_found}
use Rattle.orca_symbols.proofs.names.statement_of.Goals as goal

pub returns-then-letter-eq65 : goal.returns-then-letter-eq65
returns-then-letter-eq65 c =
    c.with_a.ensures ∙ a_found c.in-Some.first.now c.in-Some.field-0-1.now c.args.operation.now c.in-Some.ensures.cases.0 (sym c.to_ascii_uppercase-letter.ensures.value ∙ c.if-letter-eq65.true)

pub returns-then-letter-eq83 : goal.returns-then-letter-eq83
returns-then-letter-eq83 c =
    c.with_s.ensures ∙ s_found c.in-Some.first.now c.in-Some.field-0-1.now c.args.operation.now c.in-Some.ensures.cases.0 (sym c.to_ascii_uppercase-letter.ensures.value ∙ c.if-letter-eq83.true)

pub returns-then-letter-eq76 : goal.returns-then-letter-eq76
returns-then-letter-eq76 c =
    c.with_l.ensures ∙ l_found c.in-Some.first.now c.in-Some.field-0-1.now c.args.operation.now c.in-Some.ensures.cases.0 (sym c.to_ascii_uppercase-letter.ensures.value ∙ c.if-letter-eq76.true)

pub returns-then-letter-eq77 : goal.returns-then-letter-eq77
returns-then-letter-eq77 c =
    c.with_m.ensures ∙ m_found c.in-Some.first.now c.in-Some.field-0-1.now c.args.operation.now c.in-Some.ensures.cases.0 (sym c.to_ascii_uppercase-letter.ensures.value ∙ c.if-letter-eq77.true)

pub returns-then-letter-eq71 : goal.returns-then-letter-eq71
returns-then-letter-eq71 c =
    c.with_g.ensures ∙ g_found c.in-Some.first.now c.in-Some.field-0-1.now c.args.operation.now c.in-Some.ensures.cases.0 (sym c.to_ascii_uppercase-letter.ensures.value ∙ c.if-letter-eq71.true)

pub returns : goal.returns
returns c =
    none_found c.in-Some.first.now c.in-Some.field-0-1.now c.args.operation.now c.in-Some.ensures.cases.0 (λ is. c.if-letter-eq65.false (c.to_ascii_uppercase-letter.ensures.value ∙ is)) (λ is. c.if-letter-eq83.false (c.to_ascii_uppercase-letter.ensures.value ∙ is)) (λ is. c.if-letter-eq76.false (c.to_ascii_uppercase-letter.ensures.value ∙ is)) (λ is. c.if-letter-eq77.false (c.to_ascii_uppercase-letter.ensures.value ∙ is)) (λ is. c.if-letter-eq71.false (c.to_ascii_uppercase-letter.ensures.value ∙ is))
