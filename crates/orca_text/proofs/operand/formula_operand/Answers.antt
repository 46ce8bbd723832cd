use Rattle.orca_text.proofs.OperandIs.{is_one, one_read, one_refused, is_two, two_read, two_refused, no_first, no_form, not_hash, not_round, not_square}
use Rattle.orca_text.proofs.operand.formula_operand.Goals as goal

pub returns-in-Ok-None-clause-refused : goal.returns-in-Ok-None-clause-refused
returns-in-Ok-None-clause-refused c =
    no_first _ _ _ c.requires.some c.requires.other c.front_of-opening.ensures.body (rw c.in-Ok-None.field-0-is at c.in-Ok-None.ensures.none)

pub returns-in-Some-clause-ok : goal.returns-in-Some-clause-ok
returns-in-Some-clause-ok c =
    let front = c.front_of-opening.ensures in
    let found = rw c.in-Ok-Some.field-0-is at c.in-Ok-Some.ensures.found in
    one_read _ _ _ _ _ _ _ _ c.values_here-here.ensures.value (is_one _ _ _ _ _ _ _ _ _ c.requires.other front.opening front.prefix front.body found c.in-Some.ensures)
    c.one_formula.ensures.ok

pub returns-in-Some-clause-refused : goal.returns-in-Some-clause-refused
returns-in-Some-clause-refused c =
    let front = c.front_of-opening.ensures in
    let found = rw c.in-Ok-Some.field-0-is at c.in-Ok-Some.ensures.found in
    one_refused _ _ _ _ _ _ _ _ c.values_here-here.ensures.value (is_one _ _ _ _ _ _ _ _ _ c.requires.other front.opening front.prefix front.body found c.in-Some.ensures)
    c.one_formula.ensures.refused

pub returns-in-Ok-Some-second_formula-clause-ok : goal.returns-in-Ok-Some-second_formula-clause-ok
returns-in-Ok-Some-second_formula-clause-ok c =
    let front = c.front_of-opening.ensures in
    let found = rw c.in-Ok-Some.field-0-is at c.in-Ok-Some.ensures.found in
    let second = rw c.in-Ok-Some-second_formula.field-0-is at c.in-Ok-Some-second_formula.ensures.found in
    two_read _ _ _ _ _ _ _ _ _ c.values_here-here.ensures.value
    (is_two _ _ _ _ _ _ _ _ _ _ c.requires.other front.opening front.prefix front.body found c.in_default.ensures c.in-Open.is second) c.two_formulas.ensures.ok

pub returns-in-Ok-Some-second_formula-clause-refused : goal.returns-in-Ok-Some-second_formula-clause-refused
returns-in-Ok-Some-second_formula-clause-refused c =
    let front = c.front_of-opening.ensures in
    let found = rw c.in-Ok-Some.field-0-is at c.in-Ok-Some.ensures.found in
    let second = rw c.in-Ok-Some-second_formula.field-0-is at c.in-Ok-Some-second_formula.ensures.found in
    two_refused _ _ _ _ _ _ _ _ _ c.values_here-here.ensures.value
    (is_two _ _ _ _ _ _ _ _ _ _ c.requires.other front.opening front.prefix front.body found c.in_default.ensures c.in-Open.is second) c.two_formulas.ensures.refused

pub returns-in-Ok-None-second_formula-clause-refused : goal.returns-in-Ok-None-second_formula-clause-refused
returns-in-Ok-None-second_formula-clause-refused c =
    let front = c.front_of-opening.ensures in
    let found = rw c.in-Ok-Some.field-0-is at c.in-Ok-Some.ensures.found in
    let none = rw c.in-Ok-None-second_formula.field-0-is at c.in-Ok-None-second_formula.ensures.none in
    no_form _ _ _ _ _ _ _ c.requires.some c.requires.other front.opening front.body found c.in_default.ensures (λ is. none)

pub returns-in-Hash-clause-refused : goal.returns-in-Hash-clause-refused
returns-in-Hash-clause-refused c =
    let front = c.front_of-opening.ensures in
    let found = rw c.in-Ok-Some.field-0-is at c.in-Ok-Some.ensures.found in
    no_form _ _ _ _ _ _ _ c.requires.some c.requires.other front.opening front.body found c.in_default.ensures (not_hash _ _ c.in-Hash.is)

pub returns-in-Round-clause-refused : goal.returns-in-Round-clause-refused
returns-in-Round-clause-refused c =
    let front = c.front_of-opening.ensures in
    let found = rw c.in-Ok-Some.field-0-is at c.in-Ok-Some.ensures.found in
    no_form _ _ _ _ _ _ _ c.requires.some c.requires.other front.opening front.body found c.in_default.ensures (not_round _ _ c.in-Round.is)

pub returns-in-Square-clause-refused : goal.returns-in-Square-clause-refused
returns-in-Square-clause-refused c =
    let front = c.front_of-opening.ensures in
    let found = rw c.in-Ok-Some.field-0-is at c.in-Ok-Some.ensures.found in
    no_form _ _ _ _ _ _ _ c.requires.some c.requires.other front.opening front.body found c.in_default.ensures (not_square _ _ c.in-Square.is)
