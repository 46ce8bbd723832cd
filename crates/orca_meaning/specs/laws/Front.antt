-- Where a formula at the start of a text ends: the tokens there are compared with those of a formula.
use Rattle.std.proofs.Common.{◌≡◌, ℕ, Bool, true, false, cond, List, [], ◌∷◌, ◌++◌, Option, Some, None, refl, sym, ap, subst, ◌∙◌, eqb}
use Rattle.std.proofs.lemmas.Bool.{eqb-true}
use Rattle.std.specs.Option.{option_or}
use Rattle.omf_format.specs.Expression.{Term, terms_of}
use Rattle.orca_meaning.specs.declared.operators.Operator as operators
use Rattle.orca_meaning.specs.declared.operators.Operands.{Operands}
use Rattle.orca_meaning.specs.Token.{Token, Value, Before, Between, Opens, Closes, Found, seen_as, byte_at, operator_at, operator_token_at, token_at, expects_following, Stand}
use Rattle.orca_meaning.specs.Formula.{Formula, tokens_of, tree_of, StandsAt}
use Rattle.orca_meaning.specs.laws.Machine.{Wait, Bracket, Pending, State, state, reduced, closed, step, and_then, run, ended, finish, start, postfix}
use Rattle.orca_meaning.specs.laws.Complete.{complete}

-- ---- tokens one after another

-- what is expected after tokens
abbrev pub expects_after : Bool → List Token → Bool
expects_after expects [] = expects
expects_after expects (token ∷ tokens) = expects_after (expects_following token) tokens

-- one more token
pub stand_push : (o : Operands) (e : Bool) (text : List ℕ) (done : List Token) (left following : List ℕ) (t : Token) → Stand o e text done left
    → token_at o (expects_after e done) left ≡ Some (t, following) → Stand o e text (done ++ t ∷ []) following
stand_push o e text [] left following t stand is = (following, subst (λ (x : List ℕ). token_at o e x ≡ Some (t, following)) stand is, refl)
stand_push o e text (x ∷ done) left following t stand is = (stand.0, stand.1, stand_push o (expects_following x) stand.0 done left following t stand.2 is)

-- of two lists of tokens at the start of one text, one begins the other
pub data Compared (o : Operands) (e : Bool) (a b : List Token) (r s : List ℕ) : Type 0 where
  Longer : (more : List Token) → b ≡ a ++ more → Stand o (expects_after e a) r more s → Compared o e a b r s
  Shorter : (t : Token) (more : List Token) → a ≡ b ++ t ∷ more → Stand o (expects_after e b) s (t ∷ more) r → Compared o e a b r s

same_token : (x y : Token × List ℕ) (f : Found Token) → f ≡ Some x → f ≡ Some y → x ≡ y
same_token x y f p q = cc

pub compared : (o : Operands) (e : Bool) (text : List ℕ) (a b : List Token) (r s : List ℕ) → Stand o e text a r → Stand o e text b s → Compared o e a b r s
compared o e text [] b r s p q = Longer b refl (subst (λ (x : List ℕ). Stand o e x b s) (sym p) q)
compared o e text (x ∷ a) [] r s p q = Shorter x a refl (subst (λ (y : List ℕ). Stand o e y (x ∷ a) r) (sym q) p)
compared o e text (x ∷ a) (y ∷ b) r s p q =
    let same : (x, p.0) ≡ (y, q.0) = same_token (x, p.0) (y, q.0) (token_at o e text) p.1 q.1 in
    let head : x ≡ y = ap (λ (z : Token × List ℕ). z.0) same in
    let following : p.0 ≡ q.0 = ap (λ (z : Token × List ℕ). z.1) same in
    let rest : Stand o (expects_following x) p.0 b s = subst (λ (z : Token). Stand o (expects_following z) p.0 b s) (sym head) (subst (λ (z : List ℕ). Stand o (expects_following y) z b s) (sym following) q.2) in
    onto x y head (compared o (expects_following x) p.0 a b r s p.2 rest)
  where
    onto : (x y : Token) → x ≡ y → Compared o (expects_following x) a b r s → Compared o e (x ∷ a) (y ∷ b) r s
    onto x y head (Longer more is stand) = Longer more (ap (λ (l : List Token). y ∷ l) is ∙ ap (λ (z : Token). z ∷ (a ++ more)) (sym head)) stand
    onto x y head (Shorter t more is stand) =
        Shorter t more (ap (λ (l : List Token). x ∷ l) is ∙ ap (λ (z : Token). z ∷ (b ++ t ∷ more)) head)
        (subst (λ (z : Token). Stand o (expects_after (expects_following z) b) s (t ∷ more) r) head stand)

-- ---- running

pub run-append : (s : State) (a b : List Token) → run s (a ++ b) ≡ and_then (run s a) (λ m. run m b)
unfolding run and_then
run-append s [] b = refl
run-append s (t ∷ a) b = by_step (step s t) (λ m. run-append m a b)
  where
    by_step : (r : Option State) → ((m : State) → run m (a ++ b) ≡ and_then (run m a) (λ x. run x b))
        → and_then r (λ m. run m (a ++ b)) ≡ and_then (and_then r (λ m. run m a)) (λ m. run m b)
    by_step None others = refl
    by_step (Some m) others = others m

pub run-push : (s m : State) (a : List Token) (t : Token) → run s a ≡ Some m → run s (a ++ t ∷ []) ≡ step m t
unfolding run and_then
run-push s m a t is = run-append s a (t ∷ []) ∙ ap (λ (r : Option State). and_then r (λ x. run x (t ∷ []))) is ∙ by_step (step m t)
  where
    by_step : (r : Option State) → and_then r (λ x. Some x) ≡ r
    by_step None = refl
    by_step (Some x) = refl

pub run-fails : (s m : State) (a more : List Token) (t : Token) → run s a ≡ Some m → step m t ≡ None → run s (a ++ t ∷ more) ≡ None
unfolding run and_then
run-fails s m a more t is none =
    run-append s a (t ∷ more) ∙ ap (λ (r : Option State). and_then r (λ x. run x (t ∷ more))) is ∙ ap (λ (r : Option State). and_then r (λ x. run x more)) none

some_first : (e : Bool) (x m : State) → cond e (Some x) None ≡ Some m → x ≡ m
some_first true x m is = cc
some_first false x m is = absurd cc

some_second : (e : Bool) (x m : State) → cond e None (Some x) ≡ Some m → x ≡ m
some_second true x m is = absurd cc
some_second false x m is = cc

closed-expects : (x : List Term × List Wait) (m : State) → closed x ≡ Some m → m.expects ≡ false
unfolding closed
closed-expects (out, []) m is = absurd cc
closed-expects (out, Bracket ∷ ws) m is = ap (λ (s : State). s.expects) (sym (some_first true (state out ws false) m is))
closed-expects (out, Pending level code ∷ ws) m is = absurd cc

-- what is expected in a state is what is expected after its tokens
pub step-expects : (s m : State) (t : Token) → step s t ≡ Some m → m.expects ≡ expects_following t
unfolding step
step-expects s m (Value operand) is = ap (λ (x : State). x.expects) (sym (some_first s.expects _ m is))
step-expects s m (Before sign) is = ap (λ (x : State). x.expects) (sym (some_first s.expects _ m is))
step-expects s m Opens is = ap (λ (x : State). x.expects) (sym (some_first s.expects _ m is))
step-expects s m (Between operator) is = ap (λ (x : State). x.expects) (sym (some_second s.expects _ m is))
step-expects s m Closes is = by_expects s.expects is
  where
    by_expects : (e : Bool) → cond e None (closed (reduced 6 s.out s.waiting)) ≡ Some m → m.expects ≡ false
    by_expects true is = absurd cc
    by_expects false is = closed-expects (reduced 6 s.out s.waiting) m is

pub runs_expect : (s m : State) (tokens : List Token) → expects_after s.expects [] ≡ s.expects → run s tokens ≡ Some m → m.expects ≡ expects_after s.expects tokens
unfolding run and_then
runs_expect s m [] same is = ap (λ (x : State). x.expects) (sym (some_first true s m is))
runs_expect s m (t ∷ tokens) same is = by_step (step s t) refl is (λ x. runs_expect x m tokens refl)
  where
    by_step : (r : Option State) → step s t ≡ r → and_then r (λ x. run x tokens) ≡ Some m
        → ((x : State) → run x tokens ≡ Some m → m.expects ≡ expects_after x.expects tokens) → m.expects ≡ expects_after (expects_following t) tokens
    by_step None at is others = absurd cc
    by_step (Some x) at is others = others x is ∙ ap (λ (e : Bool). expects_after e tokens) (step-expects s x t at)

-- ---- a formula among tokens

-- what is left when all tokens of a formula were taken
pub record Taken (tokens : List Token) (terms : List Term) : Type 0 where
  pub last : State
  pub ran : run start tokens ≡ Some last
  pub expects : last.expects ≡ false
  pub done : ended (reduced 6 last.out last.waiting) ≡ Some terms

pub taken : (tokens : List Token) (terms : List Term) → postfix tokens ≡ Some terms → Taken tokens terms
unfolding postfix finish
taken tokens terms is = by_run (run start tokens) refl is
  where
    by_run : (r : Option State) → run start tokens ≡ r → finish r ≡ Some terms → Taken tokens terms
    by_run None ran is = absurd cc
    by_run (Some s) ran is = by_expects s.expects refl is
      where
        by_expects : (e : Bool) → s.expects ≡ e → cond e None (ended (reduced 6 s.out s.waiting)) ≡ Some terms → Taken tokens terms
        by_expects true test is = absurd cc
        by_expects false test is = record { last = s; ran = ran; expects = test; done = is }

ended-not_closed : (x : List Term × List Wait) (terms : List Term) → ended x ≡ Some terms → closed x ≡ None
unfolding ended closed
ended-not_closed (out, []) terms is = refl
ended-not_closed (out, w ∷ ws) terms is = absurd cc

-- where the token of a byte is found, the text begins with that byte
pub byte-found : (wanted : ℕ) (t : Token) (text : List ℕ) (x : Token × List ℕ) → byte_at wanted t text ≡ Some x → text ≡ wanted ∷ x.1
unfolding byte_at
byte-found wanted t [] x is = absurd cc
byte-found wanted t (byte ∷ following) x is = by_test (eqb byte wanted) refl is
  where
    by_test : (b : Bool) → eqb byte wanted ≡ b → cond b (Some (t, following)) None ≡ Some x → byte ∷ following ≡ wanted ∷ x.1
    by_test true test is =
        let same : byte ≡ wanted = eqb-true byte wanted test in
        let pair : (t, following) ≡ x = cc in
        let rest : following ≡ x.1 = ap (λ (z : Token × List ℕ). z.1) pair in
        cc
    by_test false test is = absurd cc

byte-token : (wanted : ℕ) (t : Token) (text : List ℕ) (x : Token × List ℕ) → byte_at wanted t text ≡ Some x → x.0 ≡ t
unfolding byte_at
byte-token wanted t [] x is = absurd cc
byte-token wanted t (byte ∷ following) x is = by_test (eqb byte wanted) is
  where
    by_test : (b : Bool) → cond b (Some (t, following)) None ≡ Some x → x.0 ≡ t
    by_test true is = let pair : (t, following) ≡ x = cc in ap (λ (z : Token × List ℕ). z.0) (sym pair)
    by_test false is = absurd cc

-- where there is no operator, only a closing parenthesis can follow
pub only_closes : (o : Operands) (text : List ℕ) (t : Token) (following : List ℕ) → operator_at text ≡ None → token_at o false text ≡ Some (t, following) → t ≡ Closes
unfolding operator_token_at
only_closes o text t following none is = by_byte (byte_at 0x29 Closes text) refl is
  where
    by_byte : (f : Found Token) → byte_at 0x29 Closes text ≡ f → option_or f (seen_as Between (operator_at text)) ≡ Some (t, following) → t ≡ Closes
    by_byte (Some x) found is = let pair : x ≡ (t, following) = cc in ap (λ (z : Token × List ℕ). z.0) (sym pair) ∙ byte-token 0x29 Closes text x found
    by_byte None found is =
        let clash : seen_as Between None ≡ Some (t, following) = subst (λ (f : Found operators.Operator). seen_as Between f ≡ Some (t, following)) none is in
        absurd cc

-- after the tokens of a formula, where no operator follows, no token can be taken
pub formula_ends : (o : Operands) (text : List ℕ) (f : Formula) (rest : List ℕ) (s : State) (done : List Token) (t : Token) (more : List Token) (left : List ℕ)
    → StandsAt o text f rest → done ≡ tokens_of f ++ t ∷ more → Stand o (expects_after true (tokens_of f)) rest (t ∷ more) left → run start done ≡ Some s → ⊥
unfolding step
formula_ends o text f rest s done t more left stands is stand ran =
    let all = taken (tokens_of f) (terms_of (tree_of f)) (complete f stands.formed) in
    let false_is : expects_after true (tokens_of f) ≡ false = sym (runs_expect start all.last (tokens_of f) refl all.ran) ∙ all.expects in
    let token : token_at o false rest ≡ Some (t, stand.0) = subst (λ (e : Bool). token_at o e rest ≡ Some (t, stand.0)) false_is stand.1 in
    let closes : t ≡ Closes = only_closes o rest t stand.0 stands.ends token in
    let not_closed : closed (reduced 6 all.last.out all.last.waiting) ≡ None = ended-not_closed (reduced 6 all.last.out all.last.waiting) _ all.done in
    let fails : step all.last Closes ≡ None = rw all.expects not_closed in
    let none : run start (tokens_of f ++ t ∷ more) ≡ None = run-fails start all.last (tokens_of f) more t all.ran (subst (λ (x : Token). step all.last x ≡ None) (sym closes) fails) in
    let clash : Some s ≡ None = sym ran ∙ ap (run start) is ∙ none in
    absurd cc
