-- What is read to a postfix form is the tokens of a formula.
use Rattle.std.proofs.Common.{◌≡◌, ℕ, ◌<◌, ◌≤◌, Bool, true, false, cond, leb, List, [], ◌∷◌, ◌++◌, Option, Some, None, refl, sym, ap, subst, ◌∙◌, append_assoc, append-nil, arith}
use Rattle.std.proofs.lemmas.Bool.{leb-true, leb-false, le-leb}
use Rattle.omf_format.specs.Expression.{Term, Operator, terms_of}
use Rattle.orca_meaning.specs.declared.operators.Operator as operators
use Rattle.orca_meaning.specs.declared.operators.Sign as signs
use Rattle.orca_meaning.specs.Token.{Token, Value, Before, Between, Opens, Closes}
use Rattle.orca_meaning.specs.Formula.{sign_code, operator_code, operator_level, term_of, Formula, Single, Group, Signed, Joined, level_of, BindsByLevel, tokens_of, tree_of}
use Rattle.orca_meaning.specs.laws.Machine.{Wait, Bracket, Pending, State, state, reduced, closed, step, and_then, run, ended, finish, start, postfix}
use Rattle.orca_meaning.specs.laws.Complete.{IsLooser, operator_levels}

-- what encloses a formula that is being read, the innermost first
pub data Frame : Type 0 where
  InGroup : Frame
  AtSign : (sign : signs.Sign) → Frame
  AtRight : (operator : operators.Operator) (left : Formula) → Frame

abbrev pub waits : List Frame → List Wait
waits [] = []
waits (InGroup ∷ fs) = Bracket ∷ waits fs
waits (AtSign sign ∷ fs) = Pending 1 (sign_code sign) ∷ waits fs
waits (AtRight operator left ∷ fs) = Pending (operator_level operator) (operator_code operator) ∷ waits fs

abbrev pub outs : List Frame → List Term
outs [] = []
outs (InGroup ∷ fs) = outs fs
outs (AtSign sign ∷ fs) = outs fs
outs (AtRight operator left ∷ fs) = outs fs ++ terms_of (tree_of left)

abbrev pub toks : List Frame → List Token
toks [] = []
toks (InGroup ∷ fs) = toks fs ++ Opens ∷ []
toks (AtSign sign ∷ fs) = toks fs ++ Before sign ∷ []
toks (AtRight operator left ∷ fs) = toks fs ++ (tokens_of left ++ Between operator ∷ [])

abbrev pub AreFrames : List Frame → Type 0
AreFrames [] = Unit {0}
AreFrames (InGroup ∷ fs) = AreFrames fs
AreFrames (AtSign sign ∷ fs) = AreFrames fs
AreFrames (AtRight operator left ∷ fs) =
    (level_of left ≤ operator_level operator) × IsLooser (operator_level operator) (waits fs) × BindsByLevel left × AreFrames fs

-- a formula of this level may be the operand that is read
abbrev pub HasPlace : ℕ → List Frame → Type 0
HasPlace n [] = Unit {0}
HasPlace n (InGroup ∷ fs) = Unit {0}
HasPlace n (AtSign sign ∷ fs) = n ≤ 1
HasPlace n (AtRight operator left ∷ fs) = n < operator_level operator

pub record Reading (out : List Term) (ws : List Wait) (read : List Token) (fs : List Frame) : Type 0 where
  pub frames : AreFrames fs
  pub waiting : ws ≡ waits fs
  pub gone : out ≡ outs fs
  pub written : read ≡ toks fs

pub record Holding (out : List Term) (ws : List Wait) (read : List Token) (fs : List Frame) (f : Formula) : Type 0 where
  pub frames : AreFrames fs
  pub formed : BindsByLevel f
  pub place : HasPlace (level_of f) fs
  pub waiting : ws ≡ waits fs
  pub gone : out ≡ outs fs ++ terms_of (tree_of f)
  pub written : read ≡ toks fs ++ tokens_of f

-- a frame that is as tight is closed
pub record Closed (level : ℕ) (read : List Token) (result : List Term × List Wait) : Type 0 where
  pub fs : List Frame
  pub f : Formula
  pub holds : Holding result.0 result.1 read fs f
  pub tight : level_of f ≤ level
  pub looser : IsLooser level (waits fs)

looser_has_place : (m : ℕ) (fs : List Frame) → 2 ≤ m → IsLooser m (waits fs) → HasPlace m fs
looser_has_place m [] two is = tt
looser_has_place m (InGroup ∷ fs) two is = tt
looser_has_place m (AtSign sign ∷ fs) two is = absurd (omega (arith, is))
looser_has_place m (AtRight operator left ∷ fs) two is = is

sign_has_place : (fs : List Frame) → AreFrames fs → HasPlace 1 fs
sign_has_place [] is = tt
sign_has_place (InGroup ∷ fs) is = tt
sign_has_place (AtSign sign ∷ fs) is = omega arith
sign_has_place (AtRight operator left ∷ fs) is = omega (arith, (operator_levels operator).0)

close_all : (level : ℕ) (fs : List Frame) (f : Formula) → 1 ≤ level → AreFrames fs → BindsByLevel f → HasPlace (level_of f) fs → level_of f ≤ level
    → Closed level (toks fs ++ tokens_of f) (reduced level (outs fs ++ terms_of (tree_of f)) (waits fs))
unfolding reduced
close_all level [] f one are is place tight = record { fs = []; f = f; holds = record { frames = tt; formed = is; place = tt; waiting = refl; gone = refl; written = refl }; tight = tight; looser = tt }
close_all level (InGroup ∷ fs) f one are is place tight = record { fs = InGroup ∷ fs; f = f; holds = record { frames = are; formed = is; place = tt; waiting = refl; gone = refl; written = refl }; tight = tight; looser = tt }
close_all level (AtSign sign ∷ fs) f one are is place tight =
    let code = sign_code sign in
    let more = close_all level fs (Signed sign f) one are (place, is) (sign_has_place fs are) one in
    let out : (outs fs ++ terms_of (tree_of f)) ++ Operator code ∷ [] ≡ outs fs ++ terms_of (tree_of (Signed sign f)) =
    append_assoc (outs fs) (terms_of (tree_of f)) (Operator code ∷ []) in
    let text : (toks fs ++ Before sign ∷ []) ++ tokens_of f ≡ toks fs ++ tokens_of (Signed sign f) = append_assoc (toks fs) (Before sign ∷ []) (tokens_of f) in
    rw (le-leb 1 level one, out, text) more
close_all level (AtRight operator left ∷ fs) f one are is place tight =
    let m = operator_level operator in
    by_test (leb m level) refl (λ le. close_all level fs (Joined operator left f) one are.3 (are.0, place, are.2, is) (looser_has_place m fs (operator_levels operator).0 are.1) le)
  where
    by_test : (b : Bool) → leb (operator_level operator) level ≡ b
        → (operator_level operator ≤ level → Closed level (toks fs ++ tokens_of (Joined operator left f)) (reduced level (outs fs ++ terms_of (tree_of (Joined operator left f))) (waits fs)))
        → Closed level (toks (AtRight operator left ∷ fs) ++ tokens_of f)
        (cond b (reduced level ((outs (AtRight operator left ∷ fs) ++ terms_of (tree_of f)) ++ Operator (operator_code operator) ∷ []) (waits fs)) (outs (AtRight operator left ∷ fs) ++ terms_of (tree_of f), waits (AtRight operator left ∷ fs)))
    by_test false test closes = record { fs = AtRight operator left ∷ fs; f = f; holds = record { frames = are; formed = is; place = place; waiting = refl; gone = refl; written = refl }; tight = tight; looser = leb-false (operator_level operator) level test }
    by_test true test closes =
        let out : ((outs fs ++ terms_of (tree_of left)) ++ terms_of (tree_of f)) ++ Operator (operator_code operator) ∷ [] ≡ outs fs ++ terms_of (tree_of (Joined operator left f)) = simp append_assoc in
        let text : (toks fs ++ (tokens_of left ++ Between operator ∷ [])) ++ tokens_of f ≡ toks fs ++ tokens_of (Joined operator left f) = simp append_assoc in
        rw (out, text) (closes (leb-true (operator_level operator) level test))

-- what was read so far, and the formula at its end where one ends there
pub data Stands (s : State) (read : List Token) : Type 0 where
  Expects : (fs : List Frame) → s.expects ≡ true → Reading s.out s.waiting read fs → Stands s read
  Holds : (fs : List Frame) (f : Formula) → level_of f ≡ 0 → s.expects ≡ false → Holding s.out s.waiting read fs f → Stands s read

some_is : (a b : State) → Some a ≡ Some b → a ≡ b
some_is a b e = cc

no_place : (fs : List Frame) → AreFrames fs → HasPlace 0 fs
no_place [] is = tt
no_place (InGroup ∷ fs) is = tt
no_place (AtSign sign ∷ fs) is = omega arith
no_place (AtRight operator left ∷ fs) is = omega (arith, (operator_levels operator).0)

closes_group : (out : List Term) (fs : List Frame) (f : Formula) (read : List Token) (s' : State) → AreFrames fs → BindsByLevel f → IsLooser 6 (waits fs)
    → read ≡ toks fs ++ tokens_of f → out ≡ outs fs ++ terms_of (tree_of f) → closed (out, waits fs) ≡ Some s' → Stands s' (read ++ Closes ∷ [])
unfolding closed
closes_group out [] f read s' are is looser written gone e = absurd cc
closes_group out (AtSign sign ∷ fs) f read s' are is looser written gone e = absurd cc
closes_group out (AtRight operator left ∷ fs) f read s' are is looser written gone e = absurd cc
closes_group out (InGroup ∷ fs) f read s' are is looser written gone e =
    let text : read ++ Closes ∷ [] ≡ toks fs ++ tokens_of (Group f) = ap (λ (r : List Token). r ++ Closes ∷ []) written ∙ simp append_assoc in
    let here : Stands (state out (waits fs) false) (read ++ Closes ∷ []) =
    Holds fs (Group f) refl refl (record { frames = are; formed = is; place = no_place fs are; waiting = refl; gone = gone; written = text }) in
    subst (λ (s : State). Stands s (read ++ Closes ∷ [])) (some_is (state out (waits fs) false) s' e) here

-- the formula that is held, once as much is closed as the level says
closed_at : (level : ℕ) (out : List Term) (ws : List Wait) (read : List Token) (fs : List Frame) (f : Formula) → 1 ≤ level → level_of f ≤ level
    → Holding out ws read fs f → Closed level read (reduced level out ws)
closed_at level out ws read fs f one tight h =
    rw (h.waiting, h.gone, h.written) (close_all level fs f one h.frames h.formed h.place tight)

-- one more token
stands_more : (s : State) (t : Token) (read : List Token) (s' : State) → Stands s read → step s t ≡ Some s' → Stands s' (read ++ t ∷ [])
unfolding step
stands_more s (Value operand) read s' (Expects fs test r) e =
    let found : step s (Value operand) ≡ Some (state (s.out ++ term_of operand ∷ []) s.waiting false) = rw test refl in
    let here : Stands (state (s.out ++ term_of operand ∷ []) s.waiting false) (read ++ Value operand ∷ []) =
    Holds fs (Single operand) refl refl (record { frames = r.frames; formed = tt; place = no_place fs r.frames; waiting = r.waiting; gone = ap (λ (o : List Term). o ++ term_of operand ∷ []) r.gone; written = ap (λ (o : List Token). o ++ Value operand ∷ []) r.written }) in
    subst (λ (x : State). Stands x (read ++ Value operand ∷ [])) (some_is _ s' (sym found ∙ e)) here
stands_more s (Before sign) read s' (Expects fs test r) e =
    let found : step s (Before sign) ≡ Some (state s.out (Pending 1 (sign_code sign) ∷ s.waiting) true) = rw test refl in
    let here : Stands (state s.out (Pending 1 (sign_code sign) ∷ s.waiting) true) (read ++ Before sign ∷ []) =
    Expects (AtSign sign ∷ fs) refl (record { frames = r.frames; waiting = ap (λ (w : List Wait). Pending 1 (sign_code sign) ∷ w) r.waiting; gone = r.gone; written = ap (λ (o : List Token). o ++ Before sign ∷ []) r.written }) in
    subst (λ (x : State). Stands x (read ++ Before sign ∷ [])) (some_is _ s' (sym found ∙ e)) here
stands_more s Opens read s' (Expects fs test r) e =
    let found : step s Opens ≡ Some (state s.out (Bracket ∷ s.waiting) true) = rw test refl in
    let here : Stands (state s.out (Bracket ∷ s.waiting) true) (read ++ Opens ∷ []) =
    Expects (InGroup ∷ fs) refl (record { frames = r.frames; waiting = ap (λ (w : List Wait). Bracket ∷ w) r.waiting; gone = r.gone; written = ap (λ (o : List Token). o ++ Opens ∷ []) r.written }) in
    subst (λ (x : State). Stands x (read ++ Opens ∷ [])) (some_is _ s' (sym found ∙ e)) here
stands_more s (Between operator) read s' (Expects fs test r) e =
    let none : step s (Between operator) ≡ None = rw test refl in
    absurd cc
stands_more s Closes read s' (Expects fs test r) e =
    let none : step s Closes ≡ None = rw test refl in
    absurd cc
stands_more s (Value operand) read s' (Holds fs f zero test h) e =
    let none : step s (Value operand) ≡ None = rw test refl in
    absurd cc
stands_more s (Before sign) read s' (Holds fs f zero test h) e =
    let none : step s (Before sign) ≡ None = rw test refl in
    absurd cc
stands_more s Opens read s' (Holds fs f zero test h) e =
    let none : step s Opens ≡ None = rw test refl in
    absurd cc
stands_more s (Between operator) read s' (Holds fs f zero test h) e =
    let level = operator_level operator in
    let code = operator_code operator in
    let x = reduced level s.out s.waiting in
    let found : step s (Between operator) ≡ Some (state x.0 (Pending level code ∷ x.1) true) = rw test refl in
    let c = closed_at level s.out s.waiting read fs f (omega (arith, (operator_levels operator).0)) (omega (arith, zero)) h in
    let here : Stands (state x.0 (Pending level code ∷ x.1) true) (read ++ Between operator ∷ []) =
    Expects (AtRight operator c.f ∷ c.fs) refl (record {
      frames = (c.tight, c.looser, c.holds.formed, c.holds.frames);
      waiting = ap (λ (w : List Wait). Pending level code ∷ w) c.holds.waiting;
      gone = c.holds.gone;
      written = ap (λ (o : List Token). o ++ Between operator ∷ []) c.holds.written ∙ append_assoc (toks c.fs) (tokens_of c.f) (Between operator ∷ []);
    }) in
    subst (λ (x : State). Stands x (read ++ Between operator ∷ [])) (some_is _ s' (sym found ∙ e)) here
stands_more s Closes read s' (Holds fs f zero test h) e =
    let c = closed_at 6 s.out s.waiting read fs f (omega arith) (omega (arith, zero)) h in
    let found : closed (reduced 6 s.out s.waiting) ≡ Some s' = rw test at e in
    let at : closed ((reduced 6 s.out s.waiting).0, waits c.fs) ≡ Some s' = subst (λ (w : List Wait). closed ((reduced 6 s.out s.waiting).0, w) ≡ Some s') c.holds.waiting found in
    closes_group _ c.fs c.f read s' c.holds.frames c.holds.formed c.looser c.holds.written c.holds.gone at

stands_through : (ts : List Token) (s : State) (read : List Token) (s' : State) → Stands s read → run s ts ≡ Some s' → Stands s' (read ++ ts)
unfolding run and_then
stands_through [] s read s' st e = rw (append-nil read) (subst (λ (x : State). Stands x read) (some_is s s' e) st)
stands_through (t ∷ ts) s read s' st e =
    by_step (step s t) refl e (λ m is on. rw (← append_assoc read (t ∷ []) ts) (stands_through ts m (read ++ t ∷ []) s' (stands_more s t read m st is) on))
  where
    by_step : (r : Option State) → step s t ≡ r → and_then r (λ m. run m ts) ≡ Some s' → ((m : State) → step s t ≡ Some m → run m ts ≡ Some s' → Stands s' (read ++ t ∷ ts)) → Stands s' (read ++ t ∷ ts)
    by_step None is e go = absurd cc
    by_step (Some m) is e go = go m is e

-- the formula whose tokens were read
pub record FormulaOf (tokens : List Token) (items : List Term) : Type 0 where
  pub f : Formula
  pub formed : BindsByLevel f
  pub written : tokens_of f ≡ tokens
  pub postfix_is : terms_of (tree_of f) ≡ items

ends_with : (out : List Term) (fs : List Frame) (f : Formula) (tokens : List Token) (items : List Term) → IsLooser 6 (waits fs) → AreFrames fs → BindsByLevel f
    → tokens ≡ toks fs ++ tokens_of f → out ≡ outs fs ++ terms_of (tree_of f) → ended (out, waits fs) ≡ Some items → FormulaOf tokens items
unfolding ended
ends_with out [] f tokens items looser are is written gone e = record { f = f; formed = is; written = sym written; postfix_is = sym gone ∙ items_same out items e }
  where
    items_same : (a b : List Term) → Some a ≡ Some b → a ≡ b
    items_same a b e = cc
ends_with out (InGroup ∷ fs) f tokens items looser are is written gone e = absurd cc
ends_with out (AtSign sign ∷ fs) f tokens items looser are is written gone e = absurd cc
ends_with out (AtRight operator left ∷ fs) f tokens items looser are is written gone e = absurd cc

-- what is read to a postfix form is the tokens of a formula with that form
pub sound : (tokens : List Token) (items : List Term) → postfix tokens ≡ Some items → FormulaOf tokens items
unfolding postfix finish
sound tokens items e = by_end (run start tokens) refl e
  where
    by_state : (s : State) → Stands s tokens → cond s.expects None (ended (reduced 6 s.out s.waiting)) ≡ Some items → FormulaOf tokens items
    by_state s (Expects fs test r) e =
        let none : cond s.expects None (ended (reduced 6 s.out s.waiting)) ≡ None = rw test refl in
        absurd cc
    by_state s (Holds fs f zero test h) e =
        let c = closed_at 6 s.out s.waiting tokens fs f (omega arith) (omega (arith, zero)) h in
        let found : ended (reduced 6 s.out s.waiting) ≡ Some items = rw test at e in
        let at : ended ((reduced 6 s.out s.waiting).0, waits c.fs) ≡ Some items = subst (λ (w : List Wait). ended ((reduced 6 s.out s.waiting).0, w) ≡ Some items) c.holds.waiting found in
        ends_with _ c.fs c.f tokens items c.looser c.holds.frames c.holds.formed c.holds.written c.holds.gone at

    by_end : (r : Option State) → run start tokens ≡ r → finish r ≡ Some items → FormulaOf tokens items
    by_end None is e = absurd cc
    by_end (Some s) is e = by_state s (stands_through tokens start [] s (Expects [] refl (record { frames = tt; waiting = refl; gone = refl; written = refl })) is) e
