-- A formula read token by token is a formula of the text.
use Rattle.std.proofs.Common.{◌≡◌, ℕ, Bool, true, false, cond, ltb, leb, List, [], ◌∷◌, ◌++◌, Some, None, refl, sym, ap, subst, ◌∙◌, append-nil}
use Rattle.std.specs.Prelude.{◌||◌, ◌^◌}
use Rattle.std.specs.List.{list_any}
use Rattle.std.specs.Option.{option_or}
use Rattle.std.proofs.lemmas.Bool.{ltb-true, ltb-false, lt-leb, le-leb}
use Rattle.std.proofs.lemmas.List.{map-append}
use Rattle.std.proofs.lemmas.List.Folds.{list_any-append}
use Rattle.omf_format.specs.Expression as expression
use Rattle.omf_format.specs.Expression.{Term, terms_of}
use Rattle.orca_meaning.specs.declared.operators.Operands.{Operands}
use Rattle.orca_meaning.specs.declared.operators.Operator as operators
use Rattle.orca_meaning.specs.Token.{Found, seen_as, byte_at, operator_at, spelled_at, Operand, Here, Number, Label, LengthOf, CountOf, Token, Value, Before, Between, Opens, Closes, token_at, operand_token_at, operator_token_at, Stand}
use Rattle.orca_meaning.specs.Formula.{Formula, tokens_of, tree_of, term_of, sign_code, operator_code, operator_level}
use Rattle.orca_meaning.specs.laws.Steps.{is_large}
use Rattle.orca_meaning.specs.laws.Machine.{Wait, Bracket, Pending, State, state, reduced, closed, step, run, ended, finish, start, postfix}
use Rattle.orca_meaning.specs.laws.Complete.{complete}
use Rattle.orca_meaning.specs.laws.Sound.{sound}
use Rattle.orca_meaning.specs.laws.Front.{expects_after, stand_push, run-push, run-fails, runs_expect, byte-found, Compared, Longer, Shorter, compared, Taken, taken, formula_ends}
use Rattle.orca_text.specs.Kept.{kept_number, kept_value, kept_token, kept_term, kept_terms}
use Rattle.orca_text.specs.FormulaAt.{IsFormulaAt, HasNoFormula}
use Rattle.orca_text.specs.Next.{Steps, Stops, NoToken, Unmatched, IsEnd, IsStuck, NoOperand, NotWhole}

-- ---- what is kept of a state

abbrev pub kept_state : State → State
kept_state s = state (kept_terms s.out) s.waiting s.expects

kept-append : (a b : List Term) → kept_terms (a ++ b) ≡ kept_terms a ++ kept_terms b
kept-append a b = map-append kept_term a b

reduced-kept : (level : ℕ) (out : List Term) (ws : List Wait)
    → reduced level (kept_terms out) ws ≡ (kept_terms (reduced level out ws).0, (reduced level out ws).1)
unfolding reduced
reduced-kept level out [] = refl
reduced-kept level out (Bracket ∷ ws) = refl
reduced-kept level out (Pending m code ∷ ws) = by_test (leb m level) (reduced-kept level (out ++ expression.Operator code ∷ []) ws)
  where
    more : List Term
    more = out ++ expression.Operator code ∷ []

    by_test : (b : Bool) → reduced level (kept_terms more) ws ≡ (kept_terms (reduced level more ws).0, (reduced level more ws).1)
        → cond b (reduced level (kept_terms out ++ expression.Operator code ∷ []) ws) (kept_terms out, Pending m code ∷ ws)
        ≡ (kept_terms (cond b (reduced level more ws) (out, Pending m code ∷ ws)).0, (cond b (reduced level more ws) (out, Pending m code ∷ ws)).1)
    by_test true is = ap (λ (o : List Term). reduced level o ws) (sym (kept-append out (expression.Operator code ∷ []))) ∙ is
    by_test false is = refl

-- operators are no numbers
reduced-large : (level : ℕ) (out : List Term) (ws : List Wait) → list_any is_large (reduced level out ws).0 ≡ list_any is_large out
unfolding reduced
reduced-large level out [] = refl
reduced-large level out (Bracket ∷ ws) = refl
reduced-large level out (Pending m code ∷ ws) = by_test (leb m level) (reduced-large level (out ++ expression.Operator code ∷ []) ws)
  where
    or_false : (b : Bool) → (b || false) ≡ b
    or_false true = refl
    or_false false = refl

    by_test : (b : Bool) → list_any is_large (reduced level (out ++ expression.Operator code ∷ []) ws).0 ≡ list_any is_large (out ++ expression.Operator code ∷ [])
        → list_any is_large (cond b (reduced level (out ++ expression.Operator code ∷ []) ws) (out, Pending m code ∷ ws)).0 ≡ list_any is_large out
    by_test true is = is ∙ list_any-append is_large out (expression.Operator code ∷ []) ∙ or_false (list_any is_large out)
    by_test false is = refl

-- a step of what is kept is one of what is real
pub record Stepped (s : State) (t : Token) (new : State) : Type 0 where
  pub next : State
  pub steps : step s t ≡ Some next
  pub same : new ≡ kept_state next
  pub grows : list_any is_large next.out ≡ (list_any is_large s.out || (kept_token t).1)

same_state : (a b : State) → Some a ≡ Some b → a ≡ b
same_state a b e = cc

or_false : (b : Bool) → b ≡ (b || false)
or_false true = refl
or_false false = refl

-- an operand
abbrev value_state : State → Operand → State
value_state s operand = state (s.out ++ term_of operand ∷ []) s.waiting false

value_stepped : (s : State) (operand kept : Operand) (large : Bool) (new : State) → term_of kept ≡ kept_term (term_of operand) → large ≡ is_large (term_of operand)
    → cond s.expects (Some (state (kept_terms s.out ++ term_of kept ∷ []) s.waiting false)) None ≡ Some new
    → (step s (Value operand) ≡ Some (value_state s operand)) × (new ≡ kept_state (value_state s operand)) × (list_any is_large (value_state s operand).out ≡ (list_any is_large s.out || large))
unfolding step
value_stepped s operand kept large new same large_is is = by_expects s.expects is
  where
    terms : kept_terms s.out ++ term_of kept ∷ [] ≡ kept_terms (s.out ++ term_of operand ∷ [])
    terms = ap (λ (t : Term). kept_terms s.out ++ t ∷ []) same ∙ sym (kept-append s.out (term_of operand ∷ []))

    grows : list_any is_large (s.out ++ term_of operand ∷ []) ≡ (list_any is_large s.out || large)
    grows = list_any-append is_large s.out (term_of operand ∷ []) ∙ ap (λ (b : Bool). list_any is_large s.out || b) (sym (or_false (is_large (term_of operand))) ∙ sym large_is)

    by_expects : (e : Bool) → cond e (Some (state (kept_terms s.out ++ term_of kept ∷ []) s.waiting false)) None ≡ Some new
        → (cond e (Some (value_state s operand)) None ≡ Some (value_state s operand)) × (new ≡ kept_state (value_state s operand)) × (list_any is_large (value_state s operand).out ≡ (list_any is_large s.out || large))
    by_expects true is = (refl, sym (same_state _ new is) ∙ ap (λ (o : List Term). state o s.waiting false) terms, grows)
    by_expects false is = absurd cc

as_stepped : (s : State) (operand : Operand) (new : State)
    → (step s (Value operand) ≡ Some (value_state s operand)) × (new ≡ kept_state (value_state s operand)) × (list_any is_large (value_state s operand).out ≡ (list_any is_large s.out || (kept_token (Value operand)).1))
    → Stepped s (Value operand) new
as_stepped s operand new all = record { next = value_state s operand; steps = all.0; same = all.1; grows = all.2 }

number_stepped : (s : State) (n : ℕ) (new : State) → step (kept_state s) (kept_token (Value (Number n))).0 ≡ Some new → Stepped s (Value (Number n)) new
unfolding step
number_stepped s n new is = as_stepped s (Number n) new (by_test (ltb n (2 ^ 32)) refl is)
  where
    by_test : (b : Bool) → ltb n (2 ^ 32) ≡ b
        → step (kept_state s) (kept_value (cond b (Number n, false) (Number 0, true))).0 ≡ Some new
        → (step s (Value (Number n)) ≡ Some (value_state s (Number n))) × (new ≡ kept_state (value_state s (Number n)))
        × (list_any is_large (value_state s (Number n)).out ≡ (list_any is_large s.out || (kept_value (cond b (Number n, false) (Number 0, true))).1))
    by_test true test is =
        let number : n ≡ kept_number n = rw test refl in
        let small : false ≡ leb (2 ^ 32) n = sym (lt-leb (2 ^ 32) n (ltb-true n (2 ^ 32) test)) in
        value_stepped s (Number n) (Number n) false new (ap expression.Constant number) small is
    by_test false test is =
        let number : 0 ≡ kept_number n = rw test refl in
        let large : true ≡ leb (2 ^ 32) n = sym (le-leb (2 ^ 32) n (ltb-false n (2 ^ 32) test)) in
        value_stepped s (Number n) (Number 0) true new (ap expression.Constant number) large is

-- a closing parenthesis
closed_stepped : (s : State) (out : List Term) (ws : List Wait) (new : State) → s.expects ≡ false → reduced 6 s.out s.waiting ≡ (out, ws) → closed (kept_terms out, ws) ≡ Some new → Stepped s Closes new
unfolding step closed
closed_stepped s out [] new test at is = absurd cc
closed_stepped s out (Pending level code ∷ ws) new test at is = absurd cc
closed_stepped s out (Bracket ∷ ws) new test at is = record {
  next = state out ws false;
  steps = rw (test, at) refl;
  same = sym (same_state _ new is);
  grows = ap (λ (x : List Term × List Wait). list_any is_large x.0) (sym at) ∙ reduced-large 6 s.out s.waiting ∙ or_false (list_any is_large s.out);
}

pub stepped : (s : State) (t : Token) (new : State) → step (kept_state s) (kept_token t).0 ≡ Some new → Stepped s t new
unfolding step
stepped s (Value Here) new is = as_stepped s Here new (value_stepped s Here Here false new refl refl is)
stepped s (Value (Number n)) new is = number_stepped s n new is
stepped s (Value (Label name)) new is = as_stepped s (Label name) new (value_stepped s (Label name) (Label name) false new refl refl is)
stepped s (Value (LengthOf name)) new is = as_stepped s (LengthOf name) new (value_stepped s (LengthOf name) (LengthOf name) false new refl refl is)
stepped s (Value (CountOf name)) new is = as_stepped s (CountOf name) new (value_stepped s (CountOf name) (CountOf name) false new refl refl is)
stepped s (Before sign) new is = by_expects s.expects refl is
  where
    by_expects : (e : Bool) → s.expects ≡ e → cond e (Some (state (kept_terms s.out) (Pending 1 (sign_code sign) ∷ s.waiting) true)) None ≡ Some new → Stepped s (Before sign) new
    by_expects true test is = record { next = state s.out (Pending 1 (sign_code sign) ∷ s.waiting) true; steps = rw test refl; same = sym (same_state _ new is); grows = or_false (list_any is_large s.out) }
    by_expects false test is = absurd cc
stepped s Opens new is = by_expects s.expects refl is
  where
    by_expects : (e : Bool) → s.expects ≡ e → cond e (Some (state (kept_terms s.out) (Bracket ∷ s.waiting) true)) None ≡ Some new → Stepped s Opens new
    by_expects true test is = record { next = state s.out (Bracket ∷ s.waiting) true; steps = rw test refl; same = sym (same_state _ new is); grows = or_false (list_any is_large s.out) }
    by_expects false test is = absurd cc
stepped s (Between operator) new is = by_expects s.expects refl is
  where
    by_expects : (e : Bool) → s.expects ≡ e
        → cond e None (Some (state (reduced (operator_level operator) (kept_terms s.out) s.waiting).0 (Pending (operator_level operator) (operator_code operator) ∷ (reduced (operator_level operator) (kept_terms s.out) s.waiting).1) true)) ≡ Some new
        → Stepped s (Between operator) new
    by_expects true test is = absurd cc
    by_expects false test is = record {
      next = state (reduced (operator_level operator) s.out s.waiting).0 (Pending (operator_level operator) (operator_code operator) ∷ (reduced (operator_level operator) s.out s.waiting).1) true;
      steps = rw test refl;
      same = sym (same_state _ new is)
          ∙ ap (λ (x : List Term × List Wait). state x.0 (Pending (operator_level operator) (operator_code operator) ∷ x.1) true) (reduced-kept (operator_level operator) s.out s.waiting);
      grows = reduced-large (operator_level operator) s.out s.waiting ∙ or_false (list_any is_large s.out);
    }
stepped s Closes new is = by_expects s.expects refl is
  where
    by_expects : (e : Bool) → s.expects ≡ e → cond e None (closed (reduced 6 (kept_terms s.out) s.waiting)) ≡ Some new → Stepped s Closes new
    by_expects true test is = absurd cc
    by_expects false test is =
        closed_stepped s (reduced 6 s.out s.waiting).0 (reduced 6 s.out s.waiting).1 new test refl
        (subst (λ (x : List Term × List Wait). closed x ≡ Some new) (reduced-kept 6 s.out s.waiting) is)

-- ---- a formula that is being read

-- these tokens precede what is left, and lead to this state
pub record UnderWay (o : Operands) (text left : List ℕ) (kept : State) (large : Bool) : Type 0 where
  pub done : List Token
  pub real : State
  pub stands : Stand o true text done left
  pub ran : run start done ≡ Some real
  pub kept_is : kept ≡ kept_state real
  pub large_is : large ≡ list_any is_large real.out

run-nil : (s : State) → run s [] ≡ Some s
unfolding run
run-nil s = refl

pub under_way : (o : Operands) (text : List ℕ) (out : List Term) (waiting : List Wait) → out ≡ [] → waiting ≡ [] → UnderWay o text text (state out waiting true) false
under_way o text out waiting none nothing = record {
  done = [];
  real = start;
  stands = refl;
  ran = run-nil start;
  kept_is = ap (λ (l : List Term). state l waiting true) none ∙ ap (λ (w : List Wait). state [] w true) nothing;
  large_is = refl;
}

-- what is expected is what is expected after the tokens
expects_is : (o : Operands) (text left : List ℕ) (kept : State) (large : Bool) (u : UnderWay o text left kept large) → kept.expects ≡ expects_after true u.done
expects_is o text left kept large u = ap (λ (s : State). s.expects) u.kept_is ∙ runs_expect start u.real u.done refl u.ran

pub goes_on : (o : Operands) (text left following : List ℕ) (kept new : State) (large larger : Bool) → UnderWay o text left kept large → Steps o kept new large larger left following
    → UnderWay o text following new larger
goes_on o text left following kept new large larger u s =
    let real = stepped u.real s.token new (subst (λ (k : State). step k (kept_token s.token).0 ≡ Some new) u.kept_is s.steps) in
    record {
      done = u.done ++ s.token ∷ [];
      real = real.next;
      stands = stand_push o true text u.done left following s.token u.stands (subst (λ (e : Bool). token_at o e left ≡ Some (s.token, following)) (expects_is o text left kept large u) s.found);
      ran = run-push start u.real u.done s.token u.ran ∙ real.steps;
      kept_is = real.same;
      large_is = s.grows ∙ ap (λ (b : Bool). b || (kept_token s.token).1) u.large_is ∙ sym real.grows;
    }

-- ---- the end of a formula

step_fails : (s : State) (t : Token) → t ≡ Closes → s.expects ≡ false → closed (reduced 6 s.out s.waiting) ≡ None → step s t ≡ None
unfolding step
step_fails s t is expects none = rw (is, expects) none

ended-kept : (out kept : List Term) (ws : List Wait) → ended (kept_terms out, ws) ≡ Some kept → (ended (out, ws) ≡ Some out) × (kept ≡ kept_terms out)
unfolding ended
ended-kept out kept [] is = (refl, cc)
ended-kept out kept (w ∷ ws) is = absurd cc

ended-kept_none : (out : List Term) (ws : List Wait) → ended (kept_terms out, ws) ≡ None → ended (out, ws) ≡ None
unfolding ended
ended-kept_none out [] is = absurd cc
ended-kept_none out (w ∷ ws) is = refl

closed-kept_none : (out : List Term) (ws : List Wait) → closed (kept_terms out, ws) ≡ None → closed (out, ws) ≡ None
unfolding closed
closed-kept_none out [] is = refl
closed-kept_none out (Bracket ∷ ws) is = absurd cc
closed-kept_none out (Pending level code ∷ ws) is = refl

-- a parenthesis is no operator
no_operator : (following : List ℕ) → operator_at (0x29 ∷ following) ≡ None
unfolding operator_at spelled_at
no_operator following = refl

no_operator_at : (text : List ℕ) (following : List ℕ) → operator_token_at text ≡ Some (Closes, following) → operator_at text ≡ None
unfolding operator_token_at
no_operator_at text following is = by_byte (byte_at 0x29 Closes text) refl is
  where
    by_byte : (f : Found Token) → byte_at 0x29 Closes text ≡ f → option_or f (seen_as Between (operator_at text)) ≡ Some (Closes, following) → operator_at text ≡ None
    by_byte (Some x) found is = rw (byte-found 0x29 Closes text x found) (no_operator x.1)
    by_byte None found is = absurd (no_closes (operator_at text) is)
      where
        no_closes : (f : Found operators.Operator) → seen_as Between f ≡ Some (Closes, following) → ⊥
        no_closes None e = absurd cc
        no_closes (Some y) e =
            let pair : (Between y.0, y.1) ≡ (Closes, following) = cc in
            let token : Between y.0 ≡ Closes = ap (λ (z : Token × List ℕ). z.0) pair in
            absurd cc

no_token_at : (text : List ℕ) → operator_token_at text ≡ None → operator_at text ≡ None
unfolding operator_token_at
no_token_at text is = by_byte (byte_at 0x29 Closes text) (operator_at text) is
  where
    by_byte : (f : Found Token) (g : Found operators.Operator) → option_or f (seen_as Between g) ≡ None → g ≡ None
    by_byte (Some x) g is = absurd cc
    by_byte None None is = refl
    by_byte None (Some y) is = absurd cc

stops_end : (s : State) (left : List ℕ) → Stops s left → operator_at left ≡ None
stops_end s left (NoToken none) = no_token_at left none
stops_end s left (Unmatched following found not_closed) = no_operator_at left following found

postfix_is : (done : List Token) (s : State) (terms : List Term) → run start done ≡ Some s → s.expects ≡ false → ended (reduced 6 s.out s.waiting) ≡ Some terms → postfix done ≡ Some terms
unfolding postfix finish
postfix_is done s terms ran expects is = ap finish ran ∙ ap (λ (e : Bool). cond e None (ended (reduced 6 s.out s.waiting))) expects ∙ is

-- where a formula ends, what was read is one
found : (o : Operands) (text left : List ℕ) (kept : State) (large : Bool) (out : List Term) → UnderWay o text left kept large → IsEnd kept left out → IsFormulaAt o text out large left
found o text left kept large out u end =
    let r = reduced 6 u.real.out u.real.waiting in
    let expects : u.real.expects ≡ false = sym (ap (λ (s : State). s.expects) u.kept_is) ∙ end.expects in
    let whole : ended (kept_terms r.0, r.1) ≡ Some out =
    ap ended (sym (reduced-kept 6 u.real.out u.real.waiting)) ∙ ap (λ (s : State). ended (reduced 6 s.out s.waiting)) (sym u.kept_is) ∙ end.whole in
    let both = ended-kept r.0 out r.1 whole in
    let f = sound u.done r.0 (postfix_is u.done u.real r.0 u.ran expects both.0) in
    record {
      tree = tree_of f.f;
      means = record {
        formula = f.f;
        stands = record { formed = f.formed; spelled = subst (λ (l : List Token). Stand o true text l left) (sym f.written) u.stands; ends = stops_end kept left end.stops };
        means = refl;
      };
      kept = both.1 ∙ ap kept_terms (sym f.postfix_is);
      large_is = u.large_is ∙ sym (reduced-large 6 u.real.out u.real.waiting) ∙ ap (list_any is_large) (sym f.postfix_is);
    }

pub found_as : (o : Operands) (text left : List ℕ) (kept : State) (large larger : Bool) (out terms : List Term) → UnderWay o text left kept large → IsEnd kept left out × (larger ≡ large)
    → terms ≡ out → IsFormulaAt o text terms larger left
found_as o text left kept large larger out terms u end same =
    let f = found o text left kept large out u end.0 in
    record { tree = f.tree; means = f.means; kept = same ∙ f.kept; large_is = end.1 ∙ f.large_is }

-- where no formula can end, there is none
pub no_formula : (o : Operands) (text left : List ℕ) (kept : State) (large : Bool) → UnderWay o text left kept large → IsStuck o kept left → HasNoFormula o text
no_formula o text left kept large u stuck tree rest means =
    by_order u.done refl (compared o true text u.done (tokens_of means.formula) left rest u.stands means.stands.spelled)
  where
    f : Formula
    f = means.formula

    all : Taken (tokens_of means.formula) (terms_of (tree_of means.formula))
    all = taken (tokens_of means.formula) (terms_of (tree_of means.formula)) (complete means.formula means.stands.formed)

    clash_expects : u.real.expects ≡ false → kept.expects ≡ true → ⊥
    clash_expects p q = let e : true ≡ false = sym q ∙ ap (λ (s : State). s.expects) u.kept_is ∙ p in absurd cc

    kept_ended : ended (reduced 6 kept.out kept.waiting) ≡ None → ended (reduced 6 u.real.out u.real.waiting) ≡ None
    kept_ended none =
        ended-kept_none (reduced 6 u.real.out u.real.waiting).0 (reduced 6 u.real.out u.real.waiting).1
        (ap ended (sym (reduced-kept 6 u.real.out u.real.waiting)) ∙ ap (λ (s : State). ended (reduced 6 s.out s.waiting)) (sym u.kept_is) ∙ none)

    kept_closed : closed (reduced 6 kept.out kept.waiting) ≡ None → closed (reduced 6 u.real.out u.real.waiting) ≡ None
    kept_closed none =
        closed-kept_none (reduced 6 u.real.out u.real.waiting).0 (reduced 6 u.real.out u.real.waiting).1
        (ap closed (sym (reduced-kept 6 u.real.out u.real.waiting)) ∙ ap (λ (s : State). closed (reduced 6 s.out s.waiting)) (sym u.kept_is) ∙ none)

    -- the whole formula was taken
    at_end : tokens_of means.formula ≡ u.done → IsStuck o kept left → ⊥
    at_end same stuck =
        let last : all.last ≡ u.real = same_state all.last u.real (sym all.ran ∙ ap (run start) same ∙ u.ran) in
        by_stuck last stuck
      where
        by_stuck : all.last ≡ u.real → IsStuck o kept left → ⊥
        by_stuck last (NoOperand expects none) = clash_expects (sym (ap (λ (s : State). s.expects) last) ∙ all.expects) expects
        by_stuck last (NotWhole expects stops none) =
            let some : ended (reduced 6 u.real.out u.real.waiting) ≡ Some (terms_of (tree_of means.formula)) =
            ap (λ (s : State). ended (reduced 6 s.out s.waiting)) (sym last) ∙ all.done in
            let e : Some (terms_of (tree_of means.formula)) ≡ None = sym some ∙ kept_ended none in
            absurd cc

    -- another token of it is there
    at_token : (t : Token) (more : List Token) → tokens_of means.formula ≡ u.done ++ t ∷ more → (following : List ℕ) → token_at o (expects_after true u.done) left ≡ Some (t, following) → IsStuck o kept left → ⊥
    at_token t more is following found stuck = by_stuck (subst (λ (e : Bool). token_at o e left ≡ Some (t, following)) (sym (expects_is o text left kept large u)) found) stuck
      where
        no_token : (x : Found Token) → x ≡ None → x ≡ Some (t, following) → ⊥
        no_token x p q = let e : None ≡ Some (t, following) = sym p ∙ q in absurd cc

        by_stops : operator_token_at left ≡ Some (t, following) → u.real.expects ≡ false → Stops kept left → ⊥
        by_stops found expects (NoToken none) = no_token (operator_token_at left) none found
        by_stops found expects (Unmatched other closes not_closed) =
            let pair : (t, following) ≡ (Closes, other) = cc in
            let token : t ≡ Closes = ap (λ (z : Token × List ℕ). z.0) pair in
            let fails : step u.real t ≡ None = step_fails u.real t token expects (kept_closed not_closed) in
            let none : run start (tokens_of means.formula) ≡ None = ap (run start) is ∙ run-fails start u.real u.done more t u.ran fails in
            let e : None ≡ Some all.last = sym none ∙ all.ran in
            absurd cc

        by_stuck : token_at o kept.expects left ≡ Some (t, following) → IsStuck o kept left → ⊥
        by_stuck found (NoOperand expects none) = no_token (operand_token_at o left) none (subst (λ (e : Bool). token_at o e left ≡ Some (t, following)) expects found)
        by_stuck found (NotWhole expects stops none) =
            by_stops (subst (λ (e : Bool). token_at o e left ≡ Some (t, following)) expects found) (sym (ap (λ (s : State). s.expects) u.kept_is) ∙ expects) stops

    by_order : (done : List Token) → u.done ≡ done → Compared o true u.done (tokens_of means.formula) left rest → ⊥
    by_order done same (Longer [] is stand) = at_end (is ∙ append-nil u.done) stuck
    by_order done same (Longer (t ∷ more) is stand) = at_token t more is stand.0 stand.1 stuck
    by_order done same (Shorter t more is stand) = formula_ends o text means.formula rest u.real u.done t more left means.stands is stand u.ran
