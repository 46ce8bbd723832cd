-- The laws of terms: what is read is spelled so, what is spelled so is read, whatever follows, and terms up to $00 are read
-- in one way.
use Rattle.std.proofs.Common.{◌≡◌, ℕ, ◌≤◌, Bool, true, false, cond, ltb, leb, eqb, List, [], ◌∷◌, ◌++◌, length, Option, Some, None, Result, Ok, Err, refl, sym, ap, subst, ◌∙◌, append_assoc, arith, inl, inr}
use Rattle.std.proofs.lemmas.Bool.{ltb-false, le-ltb, leb-true, lt-leb, eqb-true, ne_eqb, and_parts, and_right}
use Rattle.std.proofs.lemmas.List.{length-append}
use Rattle.omf_format.specs.declared.fault.Flaw.{Flaw}
use Rattle.omf_format.specs.declared.fault.Flaw.TheVariants.{Cut, Unread, Broken}
use Rattle.omf_format.specs.declared.expression.ExprFault.{ExprFault}
use Rattle.omf_format.specs.declared.expression.ExprFault.TheVariants.{Shape, TooDeep}
use Rattle.omf_format.specs.Number.{IsBytes}
use Rattle.omf_format.specs.Field.{◌>>=◌, number_field, name_field, name_text, IsName}
use Rattle.omf_format.specs.laws.FieldLaws.{IsBytes-rest, bind_ok, done, ok_is, chosen, Takes, Takes-code, number_takes, number_again, name_takes, name_again}
use Rattle.omf_format.specs.Expression.{Term, Operator, Location, Constant, Named, Offset, is_operator, is_named, IsTerm, term_text, AreTerms, terms_text, term_field, operands_of, pending_after, pending_after_term, term_step}
use Rattle.omf_format.specs.laws.TermSteps.{step_of}

-- ---- one term

-- what was taken is the spelling of a term or, at the end, $00
abbrev pub IsFound : ℕ → Option Term → Type 0
IsFound l None = Unit {0}
IsFound l (Some term) = IsTerm l term

abbrev pub found_text : ℕ → Option Term → List ℕ
found_text l None = 0x00 ∷ []
found_text l (Some term) = term_text l term

pub record TakesTerm (lab_len : ℕ) (bytes : List ℕ) (found : Option Term × List ℕ) : Type 0 where
  pub term' : IsFound lab_len found.0
  pub taken : Takes bytes (found_text lab_len found.0) found.1

-- two answers to one reading
pub both_read : (l : ℕ) (bytes bytes' : List ℕ) (a b : Option Term) (x y : List ℕ) → bytes ≡ bytes' → term_field l bytes ≡ Ok (a, x) → term_field l bytes' ≡ Ok (b, y) → (a ≡ b) × (x ≡ y)
both_read l bytes bytes' a b x y same p q =
    let pair : (a, x) ≡ (b, y) = ok_is (a, x) (b, y) (sym p ∙ ap (term_field l) same ∙ q) in
    (ap (λ (f : Option Term × List ℕ). f.0) pair, ap (λ (f : Option Term × List ℕ). f.1) pair)

end_takes : (l code : ℕ) (rest : List ℕ) (found : Option Term × List ℕ) → IsBytes rest → code ≡ 0 → done (None, rest) ≡ Ok found → TakesTerm l (code ∷ rest) found
end_takes l code rest found fits is e =
    let at_end : TakesTerm l (0 ∷ rest) (None, rest) = record { term' = tt; taken = record { parts = refl; rest_fits = fits } } in
    let at_found : TakesTerm l (0 ∷ rest) found = subst (TakesTerm l (0 ∷ rest)) (ok_is (None, rest) found e) at_end in
    subst (λ (c : ℕ). TakesTerm l (c ∷ rest) found) (sym is) at_found

operator_takes : (l code : ℕ) (rest : List ℕ) (found : Option Term × List ℕ) → IsBytes rest → is_operator code ≡ true → done (Some (Operator code), rest) ≡ Ok found → TakesTerm l (code ∷ rest) found
unfolding term_text
operator_takes l code rest found fits is e =
    let made : TakesTerm l (code ∷ rest) (Some (Operator code), rest) = record { term' = is; taken = record { parts = refl; rest_fits = fits } } in
    subst (TakesTerm l (code ∷ rest)) (ok_is (Some (Operator code), rest) found e) made

location_takes : (l code : ℕ) (rest : List ℕ) (found : Option Term × List ℕ) → IsBytes rest → code ≡ 0x80 → done (Some Location, rest) ≡ Ok found → TakesTerm l (code ∷ rest) found
unfolding term_text
location_takes l code rest found fits is e =
    let made : TakesTerm l (0x80 ∷ rest) (Some Location, rest) = record { term' = tt; taken = record { parts = refl; rest_fits = fits } } in
    let at_found : TakesTerm l (0x80 ∷ rest) found = subst (TakesTerm l (0x80 ∷ rest)) (ok_is (Some Location, rest) found e) made in
    subst (λ (c : ℕ). TakesTerm l (c ∷ rest) found) (sym is) at_found

constant_takes : (l code : ℕ) (rest : List ℕ) (found : Option Term × List ℕ) → IsBytes rest → code ≡ 0x81 → (number_field 4 rest >>= (λ n. Ok (Some (Constant n.0), n.1))) ≡ Ok found → TakesTerm l (code ∷ rest) found
unfolding term_text
constant_takes l code rest found fits is e =
    let b = bind_ok (number_field 4 rest) (λ n. Ok (Some (Constant n.0), n.1)) found e in
    let t = number_takes 4 rest b.0.0 b.0.1 fits b.1 in
    let made : TakesTerm l (0x81 ∷ rest) (Some (Constant b.0.0), b.0.1) = record { term' = t.1; taken = Takes-code 0x81 rest _ _ t.0 } in
    let at_found : TakesTerm l (0x81 ∷ rest) found = subst (TakesTerm l (0x81 ∷ rest)) (ok_is (Some (Constant b.0.0), b.0.1) found b.2) made in
    subst (λ (c : ℕ). TakesTerm l (c ∷ rest) found) (sym is) at_found

offset_takes : (l code : ℕ) (rest : List ℕ) (found : Option Term × List ℕ) → IsBytes rest → code ≡ 0x87 → (number_field 4 rest >>= (λ n. Ok (Some (Offset n.0), n.1))) ≡ Ok found → TakesTerm l (code ∷ rest) found
unfolding term_text
offset_takes l code rest found fits is e =
    let b = bind_ok (number_field 4 rest) (λ n. Ok (Some (Offset n.0), n.1)) found e in
    let t = number_takes 4 rest b.0.0 b.0.1 fits b.1 in
    let made : TakesTerm l (0x87 ∷ rest) (Some (Offset b.0.0), b.0.1) = record { term' = t.1; taken = Takes-code 0x87 rest _ _ t.0 } in
    let at_found : TakesTerm l (0x87 ∷ rest) found = subst (TakesTerm l (0x87 ∷ rest)) (ok_is (Some (Offset b.0.0), b.0.1) found b.2) made in
    subst (λ (c : ℕ). TakesTerm l (c ∷ rest) found) (sym is) at_found

named_takes : (l code : ℕ) (rest : List ℕ) (found : Option Term × List ℕ) → IsBytes rest → is_named code ≡ true → (name_field l rest >>= (λ name. Ok (Some (Named code name.0), name.1))) ≡ Ok found → TakesTerm l (code ∷ rest) found
unfolding term_text
named_takes l code rest found fits is e =
    let b = bind_ok (name_field l rest) (λ name. Ok (Some (Named code name.0), name.1)) found e in
    let t = name_takes l rest b.0 fits b.1 in
    let made : TakesTerm l (code ∷ rest) (Some (Named code b.0.0), b.0.1) = record { term' = (is, t.name'); taken = Takes-code code rest _ _ t.taken } in
    subst (TakesTerm l (code ∷ rest)) (ok_is (Some (Named code b.0.0), b.0.1) found b.2) made

-- what is read is spelled so
pub term-takes : (l : ℕ) (bytes : List ℕ) (found : Option Term × List ℕ) → IsBytes bytes → term_field l bytes ≡ Ok found → TakesTerm l bytes found
unfolding term_field
term-takes l [] found fits e = absurd cc
term-takes l (code ∷ rest) found fits e =
    let rest_fits = IsBytes-rest code rest fits in
    elim (chosen (eqb code 0x00) _ _ (Ok found) e) [
      | inl p ↦ end_takes l code rest found rest_fits (eqb-true _ _ p.0) p.1
      | inr p ↦ elim (chosen (is_operator code) _ _ (Ok found) p.1) [
        | inl q ↦ operator_takes l code rest found rest_fits q.0 q.1
        | inr q ↦ elim (chosen (eqb code 0x80) _ _ (Ok found) q.1) [
          | inl r ↦ location_takes l code rest found rest_fits (eqb-true _ _ r.0) r.1
          | inr r ↦ elim (chosen (eqb code 0x81) _ _ (Ok found) r.1) [
            | inl s ↦ constant_takes l code rest found rest_fits (eqb-true _ _ s.0) s.1
            | inr s ↦ elim (chosen (is_named code) _ _ (Ok found) s.1) [
              | inl t ↦ named_takes l code rest found rest_fits t.0 t.1
              | inr t ↦ elim (chosen (eqb code 0x87) _ _ (Ok found) t.1) [
                | inl u ↦ offset_takes l code rest found rest_fits (eqb-true _ _ u.0) u.1
                | inr u ↦ let e' : Err Broken ≡ Ok found = u.1 in absurd cc
              ]
            ]
          ]
        ]
      ]
    ]

-- what is spelled so is read, whatever follows
operator-again : (l code : ℕ) (rest : List ℕ) → is_operator code ≡ true → term_field l (code ∷ rest) ≡ Ok (Some (Operator code), rest)
unfolding term_field
operator-again l code rest is =
    let low = leb-true 1 code (and_parts (leb 1 code) (leb code 0x15) is).0 in
    let some : eqb code 0 ≡ false = ne_eqb _ _ (λ e. absurd (omega arith)) in
    rw (some, is) refl

named-again : (l code : ℕ) (name rest : List ℕ) → is_named code ≡ true → IsName l name → term_field l (code ∷ name_text l name ++ rest) ≡ Ok (Some (Named code name), rest)
unfolding term_field
named-again l code name rest is name' =
    let low = leb-true 0x82 code (and_parts (leb 0x82 code) (leb code 0x86) is).0 in
    let some : eqb code 0 ≡ false = ne_eqb _ _ (λ e. absurd (omega arith)) in
    let other : is_operator code ≡ false = and_right (leb 1 code) (leb code 0x15) (lt-leb _ _ (omega arith)) in
    let not_location : eqb code 0x80 ≡ false = ne_eqb _ _ (λ e. absurd (omega arith)) in
    let not_constant : eqb code 0x81 ≡ false = ne_eqb _ _ (λ e. absurd (omega arith)) in
    rw (some, other, not_location, not_constant, is, name_again l name rest name') refl

pub term-again : (l : ℕ) (term : Term) (rest : List ℕ) → IsTerm l term → term_field l (term_text l term ++ rest) ≡ Ok (Some term, rest)
unfolding term_field term_text
term-again l (Operator code) rest is = operator-again l code rest is
term-again l Location rest is = refl
term-again l (Constant n) rest is = rw (number_again 4 n rest is) refl
term-again l (Named code name) rest is = named-again l code name rest is.0 is.1
term-again l (Offset n) rest is = rw (number_again 4 n rest is) refl

pub end-again : (l : ℕ) (rest : List ℕ) → term_field l (0x00 ∷ rest) ≡ Ok (None, rest)
unfolding term_field
end-again l rest = refl

-- a term takes a byte at least
pub term_takes_some : (l : ℕ) (term : Term) → 1 ≤ length (term_text l term)
unfolding term_text
term_takes_some l (Operator code) = omega arith
term_takes_some l Location = omega arith
term_takes_some l (Constant n) = omega arith
term_takes_some l (Named code name) = omega arith
term_takes_some l (Offset n) = omega arith

-- ---- terms one after another

pub AreTerms-append : (l : ℕ) (a b : List Term) → AreTerms l a → AreTerms l b → AreTerms l (a ++ b)
AreTerms-append l [] b p q = q
AreTerms-append l (t ∷ a) b p q = (p.0, AreTerms-append l a b p.1 q)

pub terms_text-append : (l : ℕ) (a b : List Term) → terms_text l (a ++ b) ≡ terms_text l a ++ terms_text l b
terms_text-append l [] b = refl
terms_text-append l (t ∷ a) b = rw (terms_text-append l a b) (sym (append_assoc (term_text l t) (terms_text l a) (terms_text l b)))

pub terms_take_some : (l : ℕ) (terms : List Term) → length terms ≤ length (terms_text l terms)
terms_take_some l [] = omega arith
terms_take_some l (t ∷ terms) = omega (arith, terms_take_some l terms, term_takes_some l t, length-append (term_text l t) (terms_text l terms))

-- terms that end at $00 are these terms and no others
pub terms-same : (l : ℕ) (a b : List Term) (x y : List ℕ) → AreTerms l a → AreTerms l b → terms_text l a ++ 0x00 ∷ x ≡ terms_text l b ++ 0x00 ∷ y → (a ≡ b) × (x ≡ y)
terms-same l [] [] x y p q e = (refl, cc)
terms-same l [] (u ∷ b) x y p q e =
    let read : term_field l (term_text l u ++ (terms_text l b ++ 0x00 ∷ y)) ≡ Ok (Some u, terms_text l b ++ 0x00 ∷ y) = term-again l u _ q.0 in
    let same : 0x00 ∷ x ≡ term_text l u ++ (terms_text l b ++ 0x00 ∷ y) = e ∙ append_assoc (term_text l u) (terms_text l b) (0x00 ∷ y) in
    let both = both_read l _ _ None (Some u) x _ same (end-again l x) read in
    let apart : None ≡ Some u = both.0 in
    absurd cc
terms-same l (t ∷ a) [] x y p q e =
    let read : term_field l (term_text l t ++ (terms_text l a ++ 0x00 ∷ x)) ≡ Ok (Some t, terms_text l a ++ 0x00 ∷ x) = term-again l t _ p.0 in
    let same : term_text l t ++ (terms_text l a ++ 0x00 ∷ x) ≡ 0x00 ∷ y = sym (append_assoc (term_text l t) (terms_text l a) (0x00 ∷ x)) ∙ e in
    let both = both_read l _ _ (Some t) None _ y same read (end-again l y) in
    let apart : Some t ≡ None = both.0 in
    absurd cc
terms-same l (t ∷ a) (u ∷ b) x y p q e =
    let first : term_field l (term_text l t ++ (terms_text l a ++ 0x00 ∷ x)) ≡ Ok (Some t, terms_text l a ++ 0x00 ∷ x) = term-again l t _ p.0 in
    let second : term_field l (term_text l u ++ (terms_text l b ++ 0x00 ∷ y)) ≡ Ok (Some u, terms_text l b ++ 0x00 ∷ y) = term-again l u _ q.0 in
    let same : term_text l t ++ (terms_text l a ++ 0x00 ∷ x) ≡ term_text l u ++ (terms_text l b ++ 0x00 ∷ y) =
    sym (append_assoc (term_text l t) (terms_text l a) (0x00 ∷ x)) ∙ e ∙ append_assoc (term_text l u) (terms_text l b) (0x00 ∷ y) in
    let both = both_read l _ _ (Some t) (Some u) _ _ same first second in
    let head : Some t ≡ Some u = both.0 in
    let more = terms-same l a b x y p.1 q.1 both.1 in
    (let tail : a ≡ b = more.0 in cc, more.1)

-- ---- reading step by step

-- what a step that did not fail has found
abbrev pub StepIs : ℕ → ℕ → List ℕ → Option ℕ → List ℕ → Type 0
StepIs l pending bytes None rest = (term_field l bytes ≡ Ok (None, rest)) × (pending ≡ 1)
StepIs l pending bytes (Some following) rest =
    (term : Term) × (term_field l bytes ≡ Ok (Some term, rest)) × (operands_of term ≤ pending) × (following ≡ pending_after pending term) × (following ≤ 64)

judged_end : (at pending : ℕ) (following : Option ℕ) → pending_after_term at pending None ≡ Ok following → (following ≡ None) × (pending ≡ 1)
judged_end at pending following e = by_cases (eqb pending 1) refl e
  where
    by_cases : (b : Bool) → eqb pending 1 ≡ b → cond b (Ok None) (Err (Shape at)) ≡ Ok following → (following ≡ None) × (pending ≡ 1)
    by_cases true is e = (cc, eqb-true _ _ is)
    by_cases false is e = absurd cc

judged_term : (at pending : ℕ) (term : Term) (following : Option ℕ) → pending_after_term at pending (Some term) ≡ Ok following
    → (following ≡ Some (pending_after pending term)) × (operands_of term ≤ pending) × (pending_after pending term ≤ 64)
judged_term at pending term following e = by_cases (ltb pending (operands_of term)) (ltb 64 (pending_after pending term)) refl refl e
  where
    by_cases : (b c : Bool) → ltb pending (operands_of term) ≡ b → ltb 64 (pending_after pending term) ≡ c
        → cond b (Err (Shape at)) (cond c (Err (TooDeep at)) (Ok (Some (pending_after pending term)))) ≡ Ok following
        → (following ≡ Some (pending_after pending term)) × (operands_of term ≤ pending) × (pending_after pending term ≤ 64)
    by_cases true c p q e = absurd cc
    by_cases false true p q e = absurd cc
    by_cases false false p q e = (cc, ltb-false _ _ p, ltb-false _ _ q)

abbrev pub right : {A : Type 0} → A → Result A ExprFault
right x = Ok x

pub right_is : {A : Type 0} (x y : A) → right x ≡ right y → x ≡ y
right_is x y e = cc

step_found : (l at pending : ℕ) (bytes : List ℕ) (field : Result (Option Term × List ℕ) Flaw) (found : Option ℕ × List ℕ) → term_field l bytes ≡ field → step_of at pending field ≡ Ok found → StepIs l pending bytes found.0 found.1
step_found l at pending bytes (Err Cut) found is e = absurd cc
step_found l at pending bytes (Err Unread) found is e = absurd cc
step_found l at pending bytes (Err Broken) found is e = absurd cc
step_found l at pending bytes (Ok (None, rest)) found is e =
    let b = bind_ok (pending_after_term at pending None) (λ following. Ok (following, rest)) found e in
    let j = judged_end at pending b.0 b.1 in
    let made : StepIs l pending bytes None rest = (is, j.1) in
    let same : (b.0, rest) ≡ found = right_is (b.0, rest) found b.2 in
    subst (λ (f : Option ℕ × List ℕ). StepIs l pending bytes f.0 f.1) same (subst (λ (o : Option ℕ). StepIs l pending bytes o rest) (sym j.0) made)
step_found l at pending bytes (Ok (Some term, rest)) found is e =
    let b = bind_ok (pending_after_term at pending (Some term)) (λ following. Ok (following, rest)) found e in
    let j = judged_term at pending term b.0 b.1 in
    let made : StepIs l pending bytes (Some (pending_after pending term)) rest = (term, is, j.1, refl, j.2) in
    let same : (b.0, rest) ≡ found = right_is (b.0, rest) found b.2 in
    subst (λ (f : Option ℕ × List ℕ). StepIs l pending bytes f.0 f.1) same (subst (λ (o : Option ℕ). StepIs l pending bytes o rest) (sym j.0) made)

pub step-found : (l at pending : ℕ) (bytes : List ℕ) (found : Option ℕ × List ℕ) → term_step l at pending bytes ≡ Ok found → StepIs l pending bytes found.0 found.1
unfolding term_step
step-found l at pending bytes found e = step_found l at pending bytes (term_field l bytes) found refl e

pub step-end : (l at : ℕ) (rest : List ℕ) → term_step l at 1 (0x00 ∷ rest) ≡ Ok (None, rest)
unfolding term_step
step-end l at rest = ap (step_of at 1) (end-again l rest)

pub step-term : (l at pending : ℕ) (term : Term) (rest : List ℕ) → IsTerm l term → operands_of term ≤ pending → pending_after pending term ≤ 64
    → term_step l at pending (term_text l term ++ rest) ≡ Ok (Some (pending_after pending term), rest)
unfolding term_step
step-term l at pending term rest is some fits =
    let enough = le-ltb pending (operands_of term) some in
    let room = le-ltb 64 (pending_after pending term) fits in
    let judged : step_of at pending (Ok (Some term, rest)) ≡ Ok (Some (pending_after pending term), rest) = rw (enough, room) refl in
    ap (step_of at pending) (term-again l term rest is) ∙ judged
