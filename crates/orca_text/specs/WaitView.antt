-- How what waits is seen, the last first.
use Rattle.std.proofs.Common.{◌≡◌, List, [], ◌∷◌, ◌++◌, map, ap, ◌∙◌}
use Rattle.std.specs.Prelude.{reverse}
use Rattle.std.proofs.lemmas.List.{reverse-append, map-append}
use Rattle.orca_meaning.specs.Formula.{sign_code, operator_code, operator_level}
use Rattle.orca_meaning.specs.laws.Machine as machine
use Rattle.orca_text.specs.declared.waiting.Wait.{Wait}
use Rattle.orca_text.specs.declared.waiting.Wait.TheVariants.{Bracket, Before, Between}

-- what waits for its right operand or its closing parenthesis
abbrev pub wait : Wait → machine.Wait
wait Bracket = machine.Bracket
wait (Before sign) = machine.Pending 1 (sign_code sign)
wait (Between operator) = machine.Pending (operator_level operator) (operator_code operator)

pub pushed : (old new : List Wait) (x : Wait) → new ≡ old ++ x ∷ [] → reverse (map wait new) ≡ wait x ∷ reverse (map wait old)
pushed old new x e =
    ap (λ (l : List Wait). reverse (map wait l)) e ∙ ap reverse (map-append wait old (x ∷ [])) ∙ reverse-append (map wait old) (map wait (x ∷ []))

pub popped : (old new : List Wait) (x : Wait) → old ≡ new ++ x ∷ [] → reverse (map wait old) ≡ wait x ∷ reverse (map wait new)
popped old new x e = pushed new old x e
