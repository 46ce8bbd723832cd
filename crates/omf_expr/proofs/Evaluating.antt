-- The terms that are left, on the values that are pending, have the value of the whole expression.
use Rattle.std.proofs.Common.{◌≡◌, ℕ, ◌+◌, ◌-◌, ◌<◌, ◌≤◌, true, false, eqb, List, [], ◌∷◌, ◌++◌, length, Some, None, Result, Ok, Err, sym, ap, subst, ◌∙◌, append_assoc, append-nil, arith, inl, inr}
use Rattle.std.proofs.lemmas.Bool.{eq-eqb, ne_eqb, cases_eq}
use Rattle.std.proofs.lemmas.List.{length-append}
use Rattle.omf_format.specs.declared.fault.Flaw.{Flaw}
use Rattle.omf_format.specs.declared.value.Value.{Value}
use Rattle.omf_format.specs.declared.value.ValueFault.{ValueFault}
use Rattle.omf_format.specs.Field.{◌>>=◌}
use Rattle.omf_format.specs.Expression.{Term, Operator, Location, Constant, Named, Offset, operand_count, operands_of, pending_after, AreTerms, term_text, terms_text, Tree, terms_of, Spells, IsExpression, term_field, Lead}
use Rattle.omf_format.specs.laws.TermLaws.{term_takes_some}
use Rattle.omf_format.specs.laws.TreeLaws.{tree_has_terms, operand_counts}
use Rattle.omf_format.specs.laws.ExpressionLaws.{tree_leads_to_one, one-tree}
use Rattle.omf_format.specs.Value.{Environment, operand_value, apply_one, apply_two, value}
use Rattle.omf_expr.specs.Machine.{step_one, step_two, step, run_terms}
use Rattle.omf_expr.proofs.TreeRuns.{run-tree}
use Rattle.omf_expr.proofs.TermRuns.{First, first_is, no_terms, never_cut}

pub record Going (env : Environment) (l : ℕ) (text left : List ℕ) (pending : List Value) : Type 0 where
  pub tree : Tree
  pub spells : Spells l text tree
  pub terms : List Term
  pub formed : AreTerms l terms
  pub parts : left ≡ terms_text l terms ++ 0x00 ∷ []
  pub within : length left ≤ length text
  pub room : length pending ≤ 64
  pub leads : Lead (length pending) terms 1
  pub same : run_terms env l (length text - length left) terms pending ≡ (value env l 0 tree >>= λ v. Ok (v ∷ []))

pub going_begin : (env : Environment) (l : ℕ) (text : List ℕ) → IsExpression l text → Going env l text text []
going_begin env l text is =
    let place : length text - length text ≡ 0 = omega arith in
    let runs : run_terms env l 0 (terms_of is.tree ++ []) [] ≡ (value env l 0 is.tree >>= λ v. Ok (v ∷ [])) = run-tree env l 0 is.tree [] [] is.spells.formed in
    record {
      tree = is.tree;
      spells = is.spells;
      terms = terms_of is.tree;
      formed = tree_has_terms l is.tree is.spells.formed;
      parts = is.spells.spelled;
      within = omega arith;
      room = omega arith;
      leads = tree_leads_to_one l is.tree is.spells.formed is.spells.shallow;
      same = rw (place, ← append-nil (terms_of is.tree)) runs;
    }

-- ---- the height of what is pending

bind_value : (r : Result Value ValueFault) (pending after : List Value) → (r >>= λ v. Ok (v ∷ pending)) ≡ Ok after → length after ≡ length pending + 1
bind_value (Ok v) pending after e = let same : v ∷ pending ≡ after = cc in omega (arith, ap length same)
bind_value (Err fault) pending after e = absurd cc

one_height : (code : ℕ) (pending after : List Value) → 1 ≤ length pending → step_one code pending ≡ Ok after → length after ≡ length pending - 1 + 1
one_height code [] after some e = absurd (omega arith)
one_height code (a ∷ pending) after some e = omega (arith, bind_value (apply_one code a) pending after e)

two_height : (code : ℕ) (pending after : List Value) → 2 ≤ length pending → step_two code pending ≡ Ok after → length after ≡ length pending - 2 + 1
two_height code [] after some e = absurd (omega arith)
two_height code (b ∷ []) after some e = absurd (omega arith)
two_height code (b ∷ a ∷ pending) after some e = omega (arith, bind_value (apply_two code a b) pending after e)

operator_height : (env : Environment) (at code : ℕ) (pending after : List Value) → operand_count code ≤ length pending → step env at (Operator code) pending ≡ Ok after → length after ≡ length pending - operand_count code + 1
operator_height env at code pending after some e =
    elim (cases_eq (operand_count code) 1) [
      | inl one ↦ let is : eqb (operand_count code) 1 ≡ true = eq-eqb _ _ one in omega (arith, one_height code pending after (omega (arith, one)) (rw is at e), one)
      | inr other ↦
          let two = operand_counts code other in
          let is : eqb (operand_count code) 1 ≡ false = ne_eqb _ _ other in
          omega (arith, two_height code pending after (omega (arith, two)) (rw is at e), two)
    ]

step_height : (env : Environment) (at : ℕ) (term : Term) (pending after : List Value) → operands_of term ≤ length pending → step env at term pending ≡ Ok after → length after ≡ pending_after (length pending) term
step_height env at (Operator code) pending after some e = operator_height env at code pending after some e
step_height env at Location pending after some e = omega (arith, bind_value (operand_value env at Location) pending after e)
step_height env at (Constant n) pending after some e = omega (arith, bind_value (operand_value env at (Constant n)) pending after e)
step_height env at (Named code name) pending after some e = omega (arith, bind_value (operand_value env at (Named code name)) pending after e)
step_height env at (Offset n) pending after some e = omega (arith, bind_value (operand_value env at (Offset n)) pending after e)

-- ---- the loop

pub going_cut : (env : Environment) (l : ℕ) (text left : List ℕ) (pending : List Value) (flaw : Flaw) → Going env l text left pending → term_field l left ≡ Err flaw → ⊥
going_cut env l text left pending flaw g read = never_cut l left g.terms flaw g.formed g.parts read

-- what is known of the terms that are left, the first of them apart
pub record Splits (env : Environment) (l : ℕ) (text left : List ℕ) (pending : List Value) (term : Term) (rest : List ℕ) : Type 0 where
  pub tree : Tree
  pub spells : Spells l text tree
  pub others : List Term
  pub formed : AreTerms l others
  pub following : rest ≡ terms_text l others ++ 0x00 ∷ []
  pub size : length left ≡ length (term_text l term) + length rest
  pub some : operands_of term ≤ length pending
  pub room : pending_after (length pending) term ≤ 64
  pub leads : Lead (pending_after (length pending) term) others 1
  pub same : (step env (length text - length left) term pending >>= λ after. run_terms env l (length text - length left + length (term_text l term)) others after) ≡ (value env l 0 tree >>= λ v. Ok (v ∷ []))

pub splits : (env : Environment) (l : ℕ) (text left : List ℕ) (pending : List Value) (term : Term) (rest : List ℕ) → Going env l text left pending → term_field l left ≡ Ok (Some term, rest) → Splits env l text left pending term rest
splits env l text left pending term rest g read = at_first (first_is l left rest g.terms term g.formed g.parts read)
  where
    at_first : First l g.terms term rest → Splits env l text left pending term rest
    at_first f =
        let formed : AreTerms l (term ∷ f.others) = subst (AreTerms l) f.split g.formed in
        let leads : Lead (length pending) (term ∷ f.others) 1 = subst (λ (ts : List Term). Lead (length pending) ts 1) f.split g.leads in
        let parts : left ≡ term_text l term ++ rest = g.parts ∙ ap (λ (ts : List Term). terms_text l ts ++ 0x00 ∷ []) f.split ∙ append_assoc (term_text l term) (terms_text l f.others) (0x00 ∷ []) ∙ ap (λ (b : List ℕ). term_text l term ++ b) (sym f.following) in
        record {
          tree = g.tree;
          spells = g.spells;
          others = f.others;
          formed = formed.1;
          following = f.following;
          size = ap length parts ∙ length-append (term_text l term) rest;
          some = leads.0;
          room = leads.1;
          leads = leads.2;
          same = subst (λ (ts : List Term). run_terms env l (length text - length left) ts pending ≡ (value env l 0 g.tree >>= λ v. Ok (v ∷ []))) f.split g.same;
        }

pub going_some : (env : Environment) (l : ℕ) (text left : List ℕ) (pending : List Value) (term : Term) (rest : List ℕ) → Going env l text left pending → term_field l left ≡ Ok (Some term, rest) → operands_of term ≤ length pending
going_some env l text left pending term rest g read = (splits env l text left pending term rest g read).some

pub going_room : (env : Environment) (l : ℕ) (text left : List ℕ) (pending : List Value) (term : Term) (rest : List ℕ) → Going env l text left pending → term_field l left ≡ Ok (Some term, rest) → pending_after (length pending) term ≤ 64
going_room env l text left pending term rest g read = (splits env l text left pending term rest g read).room

pub going_more : (env : Environment) (l : ℕ) (text left : List ℕ) (pending after : List Value) (term : Term) (rest : List ℕ) → Going env l text left pending → term_field l left ≡ Ok (Some term, rest)
    → step env (length text - length left) term pending ≡ Ok after → Going env l text rest after
going_more env l text left pending after term rest g read e =
    let s = splits env l text left pending term rest g read in
    let height : length after ≡ pending_after (length pending) term = step_height env (length text - length left) term pending after s.some e in
    let within : length left ≤ length text = g.within in
    let some = term_takes_some l term in
    let place : length text - length left + length (term_text l term) ≡ length text - length rest = omega (arith, s.size) in
    let on : run_terms env l (length text - length left + length (term_text l term)) s.others after ≡ (value env l 0 s.tree >>= λ v. Ok (v ∷ [])) =
    sym (ap (λ (r : Result (List Value) ValueFault). r >>= λ x. run_terms env l (length text - length left + length (term_text l term)) s.others x) e) ∙ s.same in
    record {
      tree = s.tree;
      spells = s.spells;
      terms = s.others;
      formed = s.formed;
      parts = s.following;
      within = omega (arith, s.size);
      room = omega (arith, s.room, height);
      leads = subst (λ (p : ℕ). Lead p s.others 1) (sym height) s.leads;
      same = subst (λ (k : ℕ). run_terms env l k s.others after ≡ (value env l 0 s.tree >>= λ v. Ok (v ∷ []))) place on;
    }

bind_fault : (r : Result Value ValueFault) (fault : ValueFault) → Err fault ≡ (r >>= λ v. Ok (v ∷ [])) → Err fault ≡ r
bind_fault (Ok v) fault e = absurd cc
bind_fault (Err other) fault e = cc

bind_last : (r : Result Value ValueFault) (v : Value) (below : List Value) → Ok (v ∷ below) ≡ (r >>= λ x. Ok (x ∷ [])) → Ok v ≡ r
bind_last (Ok x) v below e = let lists : v ∷ below ≡ x ∷ [] = cc in cc
bind_last (Err fault) v below e = absurd cc

pub going_fault : (env : Environment) (l : ℕ) (text left : List ℕ) (pending : List Value) (term : Term) (rest : List ℕ) (fault : ValueFault) (tree : Tree) → Going env l text left pending → term_field l left ≡ Ok (Some term, rest)
    → step env (length text - length left) term pending ≡ Err fault → Spells l text tree → Err fault ≡ value env l 0 tree
going_fault env l text left pending term rest fault tree g read e is =
    let s = splits env l text left pending term rest g read in
    let failed : Err fault ≡ (value env l 0 s.tree >>= λ v. Ok (v ∷ [])) =
    sym (ap (λ (r : Result (List Value) ValueFault). r >>= λ x. run_terms env l (length text - length left + length (term_text l term)) s.others x) e) ∙ s.same in
    bind_fault (value env l 0 s.tree) fault failed ∙ ap (value env l 0) (one-tree l text s.tree tree s.spells is)

pub going_end : (env : Environment) (l : ℕ) (text left : List ℕ) (pending below : List Value) (v : Value) (rest : List ℕ) (tree : Tree) → Going env l text left pending → term_field l left ≡ Ok (None, rest)
    → pending ≡ v ∷ below → Spells l text tree → Ok v ≡ value env l 0 tree
going_end env l text left pending below v rest tree g read e is =
    let none : g.terms ≡ [] = no_terms l left rest g.terms g.formed g.parts read in
    let ended : Ok pending ≡ (value env l 0 g.tree >>= λ x. Ok (x ∷ [])) = ap (λ (ts : List Term). run_terms env l (length text - length left) ts pending) (sym none) ∙ g.same in
    bind_last (value env l 0 g.tree) v below (ap some_list (sym e) ∙ ended) ∙ ap (value env l 0) (one-tree l text g.tree tree g.spells is)
  where
    some_list : List Value → Result (List Value) ValueFault
    some_list x = Ok x

pub going_last : (env : Environment) (l : ℕ) (text left : List ℕ) (pending : List Value) (rest : List ℕ) → Going env l text left pending → term_field l left ≡ Ok (None, rest) → 0 < length pending
going_last env l text left pending rest g read =
    let none : g.terms ≡ [] = no_terms l left rest g.terms g.formed g.parts read in
    let one : length pending ≡ 1 = subst (λ (ts : List Term). Lead (length pending) ts 1) none g.leads in
    omega arith
