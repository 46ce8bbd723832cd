-- Evaluating the terms of a tree, and more terms after them: the tree's value is pending when the others follow.
use Rattle.std.proofs.Common.{◌≡◌, ℕ, ◌+◌, true, false, eqb, List, [], ◌∷◌, ◌++◌, length, Result, Ok, Err, refl, sym, ap, ◌∙◌, append_assoc, append-nil, arith}
use Rattle.std.proofs.lemmas.Bool.{eq-eqb, ne_eqb}
use Rattle.std.proofs.lemmas.List.{length-append}
use Rattle.omf_format.specs.declared.value.Value.{Value}
use Rattle.omf_format.specs.declared.value.ValueFault.{ValueFault}
use Rattle.omf_format.specs.Field.{◌>>=◌}
use Rattle.omf_format.specs.Expression.{Term, Operator, Location, Constant, Named, Offset, operand_count, term_text, terms_text, Tree, Leaf, Unary, Binary, IsOperand, IsTree, terms_of}
use Rattle.omf_format.specs.laws.TermLaws.{terms_text-append}
use Rattle.omf_format.specs.Value.{Environment, operand_value, apply_one, apply_two, size_of, value}
use Rattle.omf_expr.specs.Machine.{step_operand, step, run_terms}

bind_same : {A B : Type 0} (r : Result A ValueFault) (f g : A → Result B ValueFault) → ((x : A) → f x ≡ g x) → (r >>= f) ≡ (r >>= g)
bind_same (Ok x) f g same = same x
bind_same (Err e) f g same = refl

bind-bind : {A B C : Type 0} (r : Result A ValueFault) (f : A → Result B ValueFault) (g : B → Result C ValueFault) → ((r >>= f) >>= g) ≡ (r >>= λ x. (f x >>= g))
bind-bind (Ok x) f g = refl
bind-bind (Err e) f g = refl

step-operand : (env : Environment) (l at : ℕ) (term : Term) (pending : List Value) → IsOperand l term → step env at term pending ≡ step_operand env at term pending
step-operand env l at (Operator code) pending is = absurd is
step-operand env l at Location pending is = refl
step-operand env l at (Constant n) pending is = refl
step-operand env l at (Named code name) pending is = refl
step-operand env l at (Offset n) pending is = refl

-- how many bytes a tree and its operator take
size-unary : (l at code : ℕ) (t : Tree) → at + size_of l t + length (term_text l (Operator code)) ≡ at + size_of l (Unary code t)
size-unary l at code t =
    omega (arith, ap length (terms_text-append l (terms_of t) (Operator code ∷ [])), length-append (terms_text l (terms_of t)) (term_text l (Operator code) ++ []), ap length (append-nil (term_text l (Operator code))))

size-binary : (l at code : ℕ) (t u : Tree) → at + size_of l t + size_of l u + length (term_text l (Operator code)) ≡ at + size_of l (Binary code t u)
size-binary l at code t u =
    omega (arith, ap length (terms_text-append l (terms_of t) (terms_of u ++ Operator code ∷ [])), length-append (terms_text l (terms_of t)) (terms_text l (terms_of u ++ Operator code ∷ [])), size-unary l 0 code u)

-- an operator after its operand or operands
run-unary : (env : Environment) (l at code : ℕ) (v : Value) (more : List Term) (pending : List Value) → operand_count code ≡ 1
    → run_terms env l at (Operator code ∷ more) (v ∷ pending) ≡ (apply_one code v >>= λ x. run_terms env l (at + length (term_text l (Operator code))) more (x ∷ pending))
run-unary env l at code v more pending one =
    let is : eqb (operand_count code) 1 ≡ true = eq-eqb _ _ one in
    rw is (bind-bind (apply_one code v) (λ x. Ok (x ∷ pending)) (λ after. run_terms env l (at + length (term_text l (Operator code))) more after))

run-binary : (env : Environment) (l at code : ℕ) (a b : Value) (more : List Term) (pending : List Value) → operand_count code ≡ 2
    → run_terms env l at (Operator code ∷ more) (b ∷ a ∷ pending) ≡ (apply_two code a b >>= λ x. run_terms env l (at + length (term_text l (Operator code))) more (x ∷ pending))
run-binary env l at code a b more pending two =
    let is : eqb (operand_count code) 1 ≡ false = ne_eqb _ _ (λ e. absurd (omega arith)) in
    rw is (bind-bind (apply_two code a b) (λ x. Ok (x ∷ pending)) (λ after. run_terms env l (at + length (term_text l (Operator code))) more after))

pub run-tree : (env : Environment) (l at : ℕ) (t : Tree) (more : List Term) (pending : List Value) → IsTree l t
    → run_terms env l at (terms_of t ++ more) pending ≡ (value env l at t >>= λ v. run_terms env l (at + size_of l t) more (v ∷ pending))
run-tree env l at (Leaf term) more pending is =
    let size : length (term_text l term) ≡ size_of l (Leaf term) = ap length (sym (append-nil (term_text l term))) in
    rw (step-operand env l at term pending is, ← size)
    (bind-bind (operand_value env at term) (λ v. Ok (v ∷ pending)) (λ after. run_terms env l (at + length (term_text l term)) more after))
run-tree env l at (Unary code t) more pending is =
    let following = at + size_of l t in
    let whole : run_terms env l at (terms_of t ++ (Operator code ∷ more)) pending ≡ (value env l at (Unary code t) >>= λ v. run_terms env l (at + size_of l (Unary code t)) more (v ∷ pending)) =
    run-tree env l at t (Operator code ∷ more) pending is.2
    ∙ bind_same (value env l at t) _ _ (λ v. run-unary env l following code v more pending is.1 ∙ ap (λ (k : ℕ). apply_one code v >>= λ x. run_terms env l k more (x ∷ pending)) (size-unary l at code t))
    ∙ sym (bind-bind (value env l at t) (λ v. apply_one code v) (λ x. run_terms env l (at + size_of l (Unary code t)) more (x ∷ pending))) in
    rw (append_assoc (terms_of t) (Operator code ∷ []) more) whole
run-tree env l at (Binary code t u) more pending is =
    let middle = at + size_of l t in
    let following = middle + size_of l u in
    let last : (x : Value) → Result (List Value) ValueFault = λ x. run_terms env l (at + size_of l (Binary code t u)) more (x ∷ pending) in
    let right : (a : Value) → run_terms env l middle (terms_of u ++ (Operator code ∷ more)) (a ∷ pending) ≡ ((value env l middle u >>= λ b. apply_two code a b) >>= last) = λ a.
    run-tree env l middle u (Operator code ∷ more) (a ∷ pending) is.3
    ∙ bind_same (value env l middle u) _ _ (λ b. run-binary env l following code a b more pending is.1 ∙ ap (λ (k : ℕ). apply_two code a b >>= λ x. run_terms env l k more (x ∷ pending)) (size-binary l at code t u))
    ∙ sym (bind-bind (value env l middle u) (λ b. apply_two code a b) last) in
    let whole : run_terms env l at (terms_of t ++ (terms_of u ++ (Operator code ∷ more))) pending ≡ (value env l at (Binary code t u) >>= last) =
    run-tree env l at t (terms_of u ++ (Operator code ∷ more)) pending is.2
    ∙ bind_same (value env l at t) _ _ right
    ∙ sym (bind-bind (value env l at t) (λ a. value env l middle u >>= λ b. apply_two code a b) last) in
    rw (append_assoc (terms_of t) (terms_of u ++ Operator code ∷ []) more, append_assoc (terms_of u) (Operator code ∷ []) more) whole
