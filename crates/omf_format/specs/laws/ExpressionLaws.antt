-- The laws of expressions: each is the spelling of one tree, none begins another, an expression is read exactly where there is one, and
-- otherwise there is exactly one first fault.
use Rattle.std.proofs.Common.{◌≡◌, ℕ, zero, suc, ◌+◌, ◌-◌, ◌<◌, ◌≤◌, List, [], ◌∷◌, ◌++◌, length, take, drop, Option, Some, None, Result, Ok, Err, refl, sym, ap, subst, ◌∙◌, append_assoc, append-nil, arith}
use Rattle.std.proofs.lemmas.List.{take_at, drop_at, append_cancel_right, length-append}
use Rattle.omf_format.specs.declared.expression.ExprFault.{ExprFault}
use Rattle.omf_format.specs.declared.expression.ExprFault.TheVariants.{Truncated}
use Rattle.omf_format.specs.Number.{IsBytes}
use Rattle.omf_format.specs.laws.FieldLaws.{ok_is, Takes, IsBytes-drop}
use Rattle.omf_format.specs.Expression.{Term, AreTerms, term_text, terms_text, Tree, IsTree, terms_of, depth, Spells, IsExpression, pending_after, Lead, term_step, IsFirstFault, BeginsWith, placed_terms, first_terms, terms_in, read_from, flaw_of, expression_field}
use Rattle.omf_format.specs.laws.TermSteps.{split_of, read_all}
use Rattle.omf_format.specs.laws.TermLaws.{term_takes_some, term-takes, term-again, end-again, terms_take_some, terms-same, StepIs, step-found, step-end, step-term}
use Rattle.omf_format.specs.laws.TreeLaws.{tree_has_terms, tree_leads, tree_of, tree-same}

-- ---- one tree, and none begins another

pub tree_leads_to_one : (l : ℕ) (t : Tree) → IsTree l t → depth t ≤ 64 → Lead 0 (terms_of t) 1
tree_leads_to_one l t is room = rw (← append-nil (terms_of t)) (tree_leads l t 0 1 [] is (omega arith) (omega arith))

-- each expression is the spelling of one tree
pub one-tree : (l : ℕ) (text : List ℕ) (t u : Tree) → Spells l text t → Spells l text u → t ≡ u
one-tree l text t u p q =
    let same = terms-same l (terms_of t) (terms_of u) [] [] (tree_has_terms l t p.formed) (tree_has_terms l u q.formed) (sym p.spelled ∙ q.spelled) in
    tree-same l t u p.formed q.formed same.0

-- no expression begins another
pub none-begins : (l : ℕ) (a b x y : List ℕ) → IsExpression l a → IsExpression l b → a ++ x ≡ b ++ y → (a ≡ b) × (x ≡ y)
none-begins l a b x y p q e =
    let left : a ++ x ≡ terms_text l (terms_of p.tree) ++ 0x00 ∷ x = ap (λ (s : List ℕ). s ++ x) p.spells.spelled ∙ append_assoc (terms_text l (terms_of p.tree)) (0x00 ∷ []) x in
    let right : b ++ y ≡ terms_text l (terms_of q.tree) ++ 0x00 ∷ y = ap (λ (s : List ℕ). s ++ y) q.spells.spelled ∙ append_assoc (terms_text l (terms_of q.tree)) (0x00 ∷ []) y in
    let same = terms-same l (terms_of p.tree) (terms_of q.tree) x y (tree_has_terms l p.tree p.spells.formed) (tree_has_terms l q.tree q.spells.formed) (sym left ∙ e ∙ right) in
    (append_cancel_right a b x (e ∙ ap (λ (s : List ℕ). b ++ s) (sym same.1)), same.1)

-- ---- reading terms

pub read-term : (l n at pending following : ℕ) (bytes rest : List ℕ) → term_step l at pending bytes ≡ Ok (Some following, rest) → read_from (suc n) l at pending bytes ≡ read_from n l (at + (length bytes - length rest)) following rest
unfolding read_from
read-term l n at pending following bytes rest e = rw e refl

pub read-end : (l n at pending : ℕ) (bytes rest : List ℕ) → term_step l at pending bytes ≡ Ok (None, rest) → read_from (suc n) l at pending bytes ≡ Ok rest
unfolding read_from
read-end l n at pending bytes rest e = rw e refl

pub read-wrong : (l n at pending : ℕ) (bytes : List ℕ) (fault : ExprFault) → term_step l at pending bytes ≡ Err fault → read_from (suc n) l at pending bytes ≡ Err fault
unfolding read_from
read-wrong l n at pending bytes fault e = rw e refl

pub read-none : (l at pending : ℕ) (bytes : List ℕ) → read_from 0 l at pending bytes ≡ Err (Truncated at)
unfolding read_from
read-none l at pending bytes = refl

-- terms with which nothing is wrong are read
read-through : (l n at pending last : ℕ) (terms : List Term) (rest : List ℕ) → AreTerms l terms → Lead pending terms last
    → read_from (length terms + n) l at pending (terms_text l terms ++ rest) ≡ read_from n l (at + length (terms_text l terms)) last rest
read-through l n at pending last [] rest are leads =
    let fuel : 0 + n ≡ n = omega arith in
    let place : at + 0 ≡ at = omega arith in
    rw (fuel, place, leads) refl
read-through l n at pending last (term ∷ terms) rest are leads =
    let more = terms_text l terms ++ rest in
    let text = term_text l term in
    let fuel : suc (length terms) + n ≡ suc (length terms + n) = omega arith in
    let place : at + (length (text ++ more) - length more) ≡ at + length text = omega (arith, length-append text more) in
    let sum : at + length text + length (terms_text l terms) ≡ at + length (text ++ terms_text l terms) = omega (arith, length-append text (terms_text l terms)) in
    let first = read-term l (length terms + n) at pending (pending_after pending term) (text ++ more) more (step-term l at pending term more are.0 leads.0 leads.1) in
    let others = read-through l n (at + length text) (pending_after pending term) last terms rest are.1 leads.2 in
    let whole : read_from (suc (length terms + n)) l at pending (text ++ more) ≡ read_from n l (at + length (text ++ terms_text l terms)) last rest =
    first ∙ ap (λ (k : ℕ). read_from (length terms + n) l k (pending_after pending term) more) place ∙ others ∙ ap (λ (k : ℕ). read_from n l k last rest) sum in
    rw (fuel, append_assoc text (terms_text l terms) rest) whole

-- the terms, and what follows them
pub record Runs (l pending : ℕ) (bytes : List ℕ) (last : ℕ) (rest : List ℕ) : Type 0 where
  pub terms : List Term
  pub parts : bytes ≡ terms_text l terms ++ rest
  pub formed : AreTerms l terms
  pub leads : Lead pending terms last

runs_none : (l pending : ℕ) (bytes : List ℕ) → Runs l pending bytes pending bytes
runs_none l pending bytes = record { terms = []; parts = refl; formed = tt; leads = refl }

runs_shorter : (l pending : ℕ) (bytes : List ℕ) (last : ℕ) (rest : List ℕ) → Runs l pending bytes last rest → length rest ≤ length bytes
runs_shorter l pending bytes last rest runs = omega (arith, ap length runs.parts, length-append (terms_text l runs.terms) rest)

-- one more term before them
runs_more : (l pending following last : ℕ) (bytes more rest : List ℕ) → IsBytes bytes → StepIs l pending bytes (Some following) more → (IsBytes more → Runs l following more last rest) → Runs l pending bytes last rest
runs_more l pending following last bytes more rest fits step next =
    let took = term-takes l bytes (Some step.0, more) fits step.1 in
    let runs = next took.taken.rest_fits in
    record {
      terms = step.0 ∷ runs.terms;
      parts = took.taken.parts ∙ ap (λ (b : List ℕ). term_text l step.0 ++ b) runs.parts ∙ sym (append_assoc (term_text l step.0) (terms_text l runs.terms) rest);
      formed = (took.term', runs.formed);
      leads = (step.2, let room : pending_after pending step.0 ≤ 64 = omega (arith, step.3, step.4) in room, subst (λ (p : ℕ). Lead p runs.terms last) step.3 runs.leads);
    }

-- what is read to its end
read_runs : (l n at pending : ℕ) (bytes rest : List ℕ) → IsBytes bytes → read_from n l at pending bytes ≡ Ok rest → Runs l pending bytes 1 (0x00 ∷ rest)
read_runs l zero at pending bytes rest fits e =
    let none = read-none l at pending bytes in
    absurd cc
read_runs l (suc n) at pending bytes rest fits e = by_step (term_step l at pending bytes) refl (λ k p b fits' e'. read_runs l n k p b rest fits' e')
  where
    by_step : (step : Result (Option ℕ × List ℕ) ExprFault) → term_step l at pending bytes ≡ step
        → ((k p : ℕ) (b : List ℕ) → IsBytes b → read_from n l k p b ≡ Ok rest → Runs l p b 1 (0x00 ∷ rest)) → Runs l pending bytes 1 (0x00 ∷ rest)
    by_step (Err fault) is next =
        let wrong = read-wrong l n at pending bytes fault is in
        absurd cc
    by_step (Ok (None, more)) is next =
        let ends = read-end l n at pending bytes more is in
        let same : more ≡ rest = cc in
        let found = step-found l at pending bytes (None, more) is in
        let took = term-takes l bytes (None, more) fits found.0 in
        let here : Runs l 1 bytes 1 bytes = runs_none l 1 bytes in
        let at_one : Runs l pending bytes 1 bytes = subst (λ (p : ℕ). Runs l p bytes 1 bytes) (sym found.1) here in
        subst (λ (b : List ℕ). Runs l pending bytes 1 b) (took.taken.parts ∙ ap (λ (b : List ℕ). 0x00 ∷ b) same) at_one
    by_step (Ok (Some following, more)) is next =
        let on = read-term l n at pending following bytes more is in
        let found = step-found l at pending bytes (Some following, more) is in
        runs_more l pending following 1 bytes more (0x00 ∷ rest) fits found (λ fits'. next (at + (length bytes - length more)) following more fits' (sym on ∙ e))

shorter_after : (text bytes more : List ℕ) → bytes ≡ text ++ more → 1 ≤ length text → length more < length bytes
shorter_after text bytes more parts some = omega (arith, ap length parts, length-append text more)

-- the terms before the first fault
pub record Stops (l at pending : ℕ) (bytes : List ℕ) (fault : ExprFault) : Type 0 where
  pub last : ℕ
  pub rest : List ℕ
  pub runs : Runs l pending bytes last rest
  pub wrong : term_step l (at + (length bytes - length rest)) last rest ≡ Err fault

read_stops : (l n at pending : ℕ) (bytes : List ℕ) (fault : ExprFault) → IsBytes bytes → length bytes < n → read_from n l at pending bytes ≡ Err fault → Stops l at pending bytes fault
read_stops l zero at pending bytes fault fits enough e = absurd (omega arith)
read_stops l (suc n) at pending bytes fault fits enough e = by_step (term_step l at pending bytes) refl (λ k p b fits' enough' e'. read_stops l n k p b fault fits' enough' e')
  where
    by_step : (step : Result (Option ℕ × List ℕ) ExprFault) → term_step l at pending bytes ≡ step
        → ((k p : ℕ) (b : List ℕ) → IsBytes b → length b < n → read_from n l k p b ≡ Err fault → Stops l k p b fault) → Stops l at pending bytes fault
    by_step (Err fault') is next =
        let wrong = read-wrong l n at pending bytes fault' is in
        let same : fault' ≡ fault = cc in
        let place : at + (length bytes - length bytes) ≡ at = omega arith in
        record { last = pending; rest = bytes; runs = runs_none l pending bytes; wrong = rw (place, ← same) is }
    by_step (Ok (None, more)) is next =
        let ends = read-end l n at pending bytes more is in
        absurd cc
    by_step (Ok (Some following, more)) is next =
        let on = read-term l n at pending following bytes more is in
        let found = step-found l at pending bytes (Some following, more) is in
        let took = term-takes l bytes (Some found.0, more) fits found.1 in
        let fewer : length more < length bytes = shorter_after (term_text l found.0) bytes more took.taken.parts (term_takes_some l found.0) in
        let stops = next (at + (length bytes - length more)) following more took.taken.rest_fits (omega arith) (sym on ∙ e) in
        let shorter : length stops.rest ≤ length more = runs_shorter l following more stops.last stops.rest stops.runs in
        let place : at + (length bytes - length more) + (length more - length stops.rest) ≡ at + (length bytes - length stops.rest) = omega arith in
        record {
          last = stops.last;
          rest = stops.rest;
          runs = runs_more l pending following stops.last bytes more stops.rest fits found (λ fits'. stops.runs);
          wrong = rw (← place) stops.wrong;
        }

-- ---- an expression at the start

-- what is read to its end is an expression
pub read-all-takes : (l : ℕ) (bytes rest : List ℕ) → IsBytes bytes → read_all l bytes ≡ Ok rest → (text : List ℕ) × IsExpression l text × (bytes ≡ text ++ rest)
read-all-takes l bytes rest fits e =
    let runs = read_runs l (length bytes + 1) 0 0 bytes rest fits e in
    let t = tree_of l runs.terms runs.formed runs.leads in
    let text = terms_text l runs.terms ++ 0x00 ∷ [] in
    let spelled : text ≡ terms_text l (terms_of t.tree) ++ 0x00 ∷ [] = ap (λ (x : List Term). terms_text l x ++ 0x00 ∷ []) (sym t.same) in (
      text,
      record { tree = t.tree; spells = record { formed = t.formed; shallow = t.shallow; spelled = spelled } },
      runs.parts ∙ sym (append_assoc (terms_text l runs.terms) (0x00 ∷ []) rest),
    )

-- an expression is read to its end, whatever follows
pub read-all-again : (l : ℕ) (text rest : List ℕ) → IsExpression l text → read_all l (text ++ rest) ≡ Ok rest
read-all-again l text rest is =
    let terms = terms_of is.tree in
    let formed = tree_has_terms l is.tree is.spells.formed in
    let leads = tree_leads_to_one l is.tree is.spells.formed is.spells.shallow in
    let whole : text ++ rest ≡ terms_text l terms ++ 0x00 ∷ rest = ap (λ (s : List ℕ). s ++ rest) is.spells.spelled ∙ append_assoc (terms_text l terms) (0x00 ∷ []) rest in
    read_at l (length (text ++ rest) + 1) terms (text ++ rest) rest whole formed leads refl
  where
    read_at : (l n : ℕ) (terms : List Term) (bytes rest : List ℕ) → bytes ≡ terms_text l terms ++ 0x00 ∷ rest → AreTerms l terms → Lead 0 terms 1 → n ≡ length bytes + 1 → read_from n l 0 0 bytes ≡ Ok rest
    read_at l n terms bytes rest whole formed leads is =
        let few = terms_take_some l terms in
        let fuel : n ≡ length terms + suc (n - length terms - 1) = omega (arith, ap length whole, length-append (terms_text l terms) (0x00 ∷ rest)) in
        rw (fuel, whole) (read-through l (suc (n - length terms - 1)) 0 0 1 terms (0x00 ∷ rest) formed leads
        ∙ read-end l (n - length terms - 1) (0 + length (terms_text l terms)) 1 (0x00 ∷ rest) rest (step-end l (0 + length (terms_text l terms)) rest))

-- what isn't read to its end has this first fault
pub read-all-fault : (l : ℕ) (bytes : List ℕ) (fault : ExprFault) → IsBytes bytes → read_all l bytes ≡ Err fault → IsFirstFault l bytes fault
read-all-fault l bytes fault fits e =
    let stops = read_stops l (length bytes + 1) 0 0 bytes fault fits (omega arith) e in
    let place : 0 + (length bytes - length stops.rest) ≡ length (terms_text l stops.runs.terms) = omega (arith, ap length stops.runs.parts, length-append (terms_text l stops.runs.terms) stops.rest) in
    record {
      terms = stops.runs.terms;
      rest = stops.rest;
      pending = stops.last;
      before = stops.runs.parts;
      formed = stops.runs.formed;
      leads = stops.runs.leads;
      wrong = rw (← place) stops.wrong;
    }

-- what has a first fault isn't read to its end
pub read-all-fault-again : (l : ℕ) (bytes : List ℕ) (fault : ExprFault) → IsFirstFault l bytes fault → read_all l bytes ≡ Err fault
read-all-fault-again l bytes fault is = stops_at l (length bytes + 1) bytes fault is (omega arith)
  where
    stops_at : (l n : ℕ) (bytes : List ℕ) (fault : ExprFault) (is : IsFirstFault l bytes fault) → length bytes < n → read_from n l 0 0 bytes ≡ Err fault
    stops_at l n bytes fault is enough =
        let few = terms_take_some l is.terms in
        let size : length (terms_text l is.terms) ≤ length bytes = omega (arith, ap length is.before, length-append (terms_text l is.terms) is.rest) in
        let fuel : n ≡ length is.terms + suc (n - length is.terms - 1) = omega arith in
        let place : 0 + length (terms_text l is.terms) ≡ length (terms_text l is.terms) = omega arith in
        rw (fuel, is.before) (read-through l (suc (n - length is.terms - 1)) 0 0 is.pending is.terms is.rest is.formed is.leads
        ∙ read-wrong l (n - length is.terms - 1) (0 + length (terms_text l is.terms)) is.pending is.rest fault (rw place is.wrong))

-- bytes have one first fault, or begin with an expression and have none
pub one-fault : (l : ℕ) (bytes : List ℕ) (f g : ExprFault) → IsFirstFault l bytes f → IsFirstFault l bytes g → f ≡ g
one-fault l bytes f g p q =
    let first = read-all-fault-again l bytes f p in
    let second = read-all-fault-again l bytes g q in
    cc

pub no-fault : (l : ℕ) (bytes text : List ℕ) (f : ExprFault) → BeginsWith l bytes text → IsFirstFault l bytes f → ⊥
no-fault l bytes text f p q =
    let first : read_all l bytes ≡ Ok p.rest = ap (read_all l) p.parts ∙ read-all-again l text p.rest p.expression in
    let second = read-all-fault-again l bytes f q in
    absurd cc

-- ---- the terms of an expression

-- terms up to the end are read with their displacements
pub first_terms-again : (n l at : ℕ) (terms : List Term) (rest : List ℕ) → AreTerms l terms → length terms < n
    → first_terms n l at (terms_text l terms ++ 0x00 ∷ rest) ≡ placed_terms l at terms
unfolding first_terms
first_terms-again zero l at terms rest are less = absurd (omega arith)
first_terms-again (suc n) l at [] rest are less = let end = end-again l rest in rw (first_terms, end) refl
first_terms-again (suc n) l at (term ∷ terms) rest are less =
    let text = term_text l term in
    let more = terms_text l terms ++ 0x00 ∷ rest in
    let whole : (text ++ terms_text l terms) ++ 0x00 ∷ rest ≡ text ++ more = append_assoc text (terms_text l terms) (0x00 ∷ rest) in
    let read = term-again l term more are.0 in
    let place : at + (length (text ++ more) - length more) ≡ at + length text = omega (arith, length-append text more) in
    rw (first_terms, whole, read, whole, place) (ap (λ (ts : List (ℕ × Term)). (at, term) ∷ ts) (first_terms-again n l (at + length text) terms rest are.1 (omega arith)))

pub terms_in-again : (l at : ℕ) (terms : List Term) (rest : List ℕ) → AreTerms l terms → terms_in l at (terms_text l terms ++ 0x00 ∷ rest) ≡ placed_terms l at terms
unfolding terms_in
terms_in-again l at terms rest are =
    first_terms-again (length (terms_text l terms ++ 0x00 ∷ rest)) l at terms rest are (omega (arith, terms_take_some l terms, length-append (terms_text l terms) (0x00 ∷ rest)))

-- the terms of an expression's bytes are those of its tree
pub terms_are : (l : ℕ) (text : List ℕ) (tree : Tree) → Spells l text tree → terms_in l 0 text ≡ placed_terms l 0 (terms_of tree)
terms_are l text tree is = ap (terms_in l 0) is.spelled ∙ terms_in-again l 0 (terms_of tree) [] (tree_has_terms l tree is.formed)

-- ---- an expression as a field

-- what is read is an expression
pub record TakesExpression (lab_len : ℕ) (bytes : List ℕ) (found : List ℕ × List ℕ) : Type 0 where
  pub expression : IsExpression lab_len found.0
  pub taken : Takes bytes found.0 found.1

-- the text before the rest
pub text_before : (bytes text rest : List ℕ) → bytes ≡ text ++ rest → take (length bytes - length rest) bytes ≡ text
text_before bytes text rest parts =
    let size : length text ≡ length bytes - length rest = omega (arith, ap length parts, length-append text rest) in
    rw parts (take_at text rest (length (text ++ rest) - length rest) (omega (arith, length-append text rest)))

pub expression-takes : (l : ℕ) (bytes : List ℕ) (found : List ℕ × List ℕ) → IsBytes bytes → expression_field l bytes ≡ Ok found → TakesExpression l bytes found
unfolding expression_field
expression-takes l bytes found fits e = by_read (read_all l bytes) refl e
  where
    by_read : (read : Result (List ℕ) ExprFault) → read_all l bytes ≡ read → split_of bytes read ≡ Ok found → TakesExpression l bytes found
    by_read (Err fault) is e = absurd cc
    by_read (Ok rest) is e =
        let t = read-all-takes l bytes rest fits is in
        let text_is : take (length bytes - length rest) bytes ≡ t.0 = text_before bytes t.0 rest t.2 in
        let fits' : IsBytes rest = subst IsBytes (drop_at t.0 rest (length t.0) refl) (subst (λ (b : List ℕ). IsBytes (drop (length t.0) b)) t.2 (IsBytes-drop (length t.0) bytes fits)) in
        let made : TakesExpression l bytes (take (length bytes - length rest) bytes, rest) = record { expression = rw text_is t.1; taken = record { parts = rw text_is t.2; rest_fits = fits' } } in
        subst (TakesExpression l bytes) (ok_is (take (length bytes - length rest) bytes, rest) found e) made

-- an expression is read, whatever follows
pub expression-again : (l : ℕ) (text rest : List ℕ) → IsExpression l text → expression_field l (text ++ rest) ≡ Ok (text, rest)
unfolding expression_field
expression-again l text rest is =
    let text_is = text_before (text ++ rest) text rest refl in
    let split : split_of (text ++ rest) (Ok rest) ≡ Ok (text, rest) = rw text_is refl in
    ap (split_of (text ++ rest)) (read-all-again l text rest is) ∙ split

-- where there is no expression, the first fault decides
pub expression-flaw : (l : ℕ) (bytes : List ℕ) (fault : ExprFault) → IsFirstFault l bytes fault → expression_field l bytes ≡ Err (flaw_of fault)
unfolding expression_field
expression-flaw l bytes fault is = ap (split_of bytes) (read-all-fault-again l bytes fault is)
