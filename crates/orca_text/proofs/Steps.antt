-- What is closed, by what waits on top.
use Rattle.std.proofs.Common.{◌≡◌, ℕ, ◌<◌, ◌≤◌, List, [], ◌∷◌, ◌++◌, Bool, true, false, Some, None, map, refl, sym, ap, subst, ◌∙◌}
use Rattle.std.specs.Prelude.{◌||◌}
use Rattle.std.proofs.lemmas.Bool.{le-leb}
use Rattle.std.proofs.lemmas.List.{map-append}
use Rattle.omf_format.specs.Expression.{Term, Operator}
use Rattle.orca_meaning.specs.declared.operators.Operator as operators
use Rattle.orca_meaning.specs.Formula.{operator_code, operator_level}
use Rattle.orca_meaning.specs.declared.operators.Operands.{Operands}
use Rattle.orca_meaning.specs.Token.{Between, Closes, operator_token_at}
use Rattle.orca_meaning.specs.laws.Machine.{Wait, Bracket, Pending, state, reduced, closed, step, ended}
use Rattle.orca_meaning.specs.laws.Complete.{stuck}
use Rattle.orca_text.specs.declared.formula_term.FormulaTerm.{FormulaTerm}
use Rattle.orca_text.specs.declared.formula_term.FormulaTerm.TheVariants as coded
use Rattle.orca_text.specs.Next.{Steps, IsEnd, Unmatched, IsStuck, NotWhole}
use Rattle.orca_text.specs.View.{term}

pub none_tight : (level : ℕ) (out : List Term) (ws : List Wait) → ws ≡ [] → reduced level out ws ≡ (out, ws)
none_tight level out ws e = subst (λ (w : List Wait). reduced level out w ≡ (out, w)) (sym e) (stuck level out [] tt)

pub bracket_tight : (level : ℕ) (out : List Term) (ws rest : List Wait) → ws ≡ Bracket ∷ rest → reduced level out ws ≡ (out, ws)
bracket_tight level out ws rest e = subst (λ (w : List Wait). reduced level out w ≡ (out, w)) (sym e) (stuck level out (Bracket ∷ rest) tt)

pub not_tight : (level m code : ℕ) (out : List Term) (ws rest : List Wait) → ws ≡ Pending m code ∷ rest → level < m → reduced level out ws ≡ (out, ws)
not_tight level m code out ws rest e less = subst (λ (w : List Wait). reduced level out w ≡ (out, w)) (sym e) (stuck level out (Pending m code ∷ rest) less)

pub tight : (level m code : ℕ) (out : List Term) (ws rest : List Wait) → ws ≡ Pending m code ∷ rest → m ≤ level → reduced level out ws ≡ reduced level (out ++ Operator code ∷ []) rest
unfolding reduced
tight level m code out ws rest e le = rw (e, le-leb m level le) refl

-- one operator goes out
pub one_closed : (level m code : ℕ) (out next : List FormulaTerm) (ws rest : List Wait) → ws ≡ Pending m code ∷ rest → m ≤ level → next ≡ out ++ coded.Operator code ∷ []
    → reduced level (map term next) rest ≡ reduced level (map term out) ws
one_closed level m code out next ws rest e le more =
    ap (λ (o : List FormulaTerm). reduced level (map term o) rest) more ∙ ap (λ (o : List Term). reduced level o rest) (map-append term out (coded.Operator code ∷ []))
    ∙ sym (tight level m code (map term out) ws rest e le)

pub map_push : (old new : List FormulaTerm) (x : FormulaTerm) → new ≡ old ++ x ∷ [] → map term new ≡ map term old ++ term x ∷ []
map_push old new x e = ap (map term) e ∙ map-append term old (x ∷ [])

-- ---- closing

abbrev Pair : Type 0
Pair = List Term × List Wait

pub closed_bracket : (x : Pair) (out : List Term) (ws rest : List Wait) → (out, ws) ≡ x → ws ≡ Bracket ∷ rest → (closed x ≡ Some (state out rest false)) × (ended x ≡ None)
unfolding closed ended
closed_bracket x out ws rest e is = rw (← e, is) (refl, refl)

pub closed_pending : (x : Pair) (out : List Term) (ws rest : List Wait) (level code : ℕ) → (out, ws) ≡ x → ws ≡ Pending level code ∷ rest → (closed x ≡ None) × (ended x ≡ None)
unfolding closed ended
closed_pending x out ws rest level code e is = rw (← e, is) (refl, refl)

pub closed_nothing : (x : Pair) (out : List Term) (ws : List Wait) → (out, ws) ≡ x → ws ≡ [] → (closed x ≡ None) × (ended x ≡ Some out)
unfolding closed ended
closed_nothing x out ws e is = rw (← e, is) (refl, refl)

-- ---- an operator

operator_step : (operator : operators.Operator) (out out' : List Term) (ws ws' : List Wait) → (out', ws') ≡ reduced (operator_level operator) out ws
    → step (state out ws false) (Between operator) ≡ Some (state out' (Pending (operator_level operator) (operator_code operator) ∷ ws') true)
unfolding step
operator_step operator out out' ws ws' e =
    ap (λ (x : Pair). Some (state x.0 (Pending (operator_level operator) (operator_code operator) ∷ x.1) true)) (sym e)

pub operator_pushed : (operator : operators.Operator) (tight : ℕ) (out out' : List Term) (ws ws' new : List Wait) → tight ≡ operator_level operator → (out', ws') ≡ reduced tight out ws
    → new ≡ Pending (operator_level operator) (operator_code operator) ∷ ws' → step (state out ws false) (Between operator) ≡ Some (state out' new true)
operator_pushed operator tight out out' ws ws' new level e pushed =
    operator_step operator out out' ws ws' (e ∙ ap (λ (n : ℕ). reduced n out ws) level) ∙ ap (λ (w : List Wait). Some (state out' w true)) (sym pushed)

-- ---- a closing parenthesis

or_false : (b : Bool) → b ≡ (b || false)
or_false true = refl
or_false false = refl

pub shut_steps : (o : Operands) (large : Bool) (left following : List ℕ) (out out' : List Term) (ws ws' : List Wait) → operator_token_at left ≡ Some (Closes, following)
    → closed (reduced 6 out ws) ≡ Some (state out' ws' false) → Steps o (state out ws false) (state out' ws' false) large large left following
unfolding step
shut_steps o large left following out out' ws ws' found shut = record { token = Closes; found = found; steps = shut; grows = or_false large }

pub whole_end : (left following : List ℕ) (out out' : List Term) (ws : List Wait) → operator_token_at left ≡ Some (Closes, following)
    → (closed (reduced 6 out ws) ≡ None) × (ended (reduced 6 out ws) ≡ Some out') → IsEnd (state out ws false) left out'
whole_end left following out out' ws found both = record { expects = refl; stops = Unmatched following found both.0; whole = both.1 }

pub open_stuck : (o : Operands) (left following : List ℕ) (out : List Term) (ws : List Wait) → operator_token_at left ≡ Some (Closes, following)
    → (closed (reduced 6 out ws) ≡ None) × (ended (reduced 6 out ws) ≡ None) → IsStuck o (state out ws false) left
open_stuck o left following out ws found both = NotWhole refl (Unmatched following found both.0) both.1
