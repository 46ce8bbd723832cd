-- Going over the terms of an expression.
use Rattle.std.proofs.Common.{◌≡◌, ℕ, ◌+◌, ◌-◌, ◌≤◌, List, [], ◌∷◌, ◌++◌, length, Some, None, Err, Ok, refl, sym, ap, subst, ◌∙◌, append_assoc, arith}
use Rattle.std.proofs.lemmas.List.{length-append}
use Rattle.omf_format.specs.declared.fault.Flaw.{Flaw}
use Rattle.omf_format.specs.Expression.{Term, AreTerms, term_text, terms_text, terms_of, IsExpression, placed_terms, terms_in, term_field}
use Rattle.omf_format.specs.laws.TermLaws.{term-again, end-again, both_read}
use Rattle.omf_format.specs.laws.TreeLaws.{tree_has_terms}
use Rattle.omf_format.specs.laws.ExpressionLaws.{terms_in-again}
use Rattle.omf_expr.specs.View.{AreLeft}

-- the term that is read is the first that is left
pub record First (l : ℕ) (terms : List Term) (term : Term) (rest : List ℕ) : Type 0 where
  pub others : List Term
  pub split : terms ≡ term ∷ others
  pub following : rest ≡ terms_text l others ++ 0x00 ∷ []

some_same : (t u : Term) → Some t ≡ Some u → t ≡ u
some_same t u e = cc

pub first_is : (l : ℕ) (left rest : List ℕ) (terms : List Term) (term : Term) → AreTerms l terms → left ≡ terms_text l terms ++ 0x00 ∷ [] → term_field l left ≡ Ok (Some term, rest) → First l terms term rest
first_is l left rest [] term formed parts read =
    let both = both_read l left (0x00 ∷ []) (Some term) None rest [] parts read (end-again l []) in
    let apart : Some term ≡ None = both.0 in
    absurd cc
first_is l left rest (t ∷ terms) term formed parts read =
    let more = terms_text l terms ++ 0x00 ∷ [] in
    let both = both_read l left (term_text l t ++ more) (Some term) (Some t) rest more (parts ∙ append_assoc (term_text l t) (terms_text l terms) (0x00 ∷ [])) read (term-again l t more formed.0) in
    record { others = terms; split = ap (λ (x : Term). x ∷ terms) (sym (some_same term t both.0)); following = both.1 }

pub no_terms : (l : ℕ) (left rest : List ℕ) (terms : List Term) → AreTerms l terms → left ≡ terms_text l terms ++ 0x00 ∷ [] → term_field l left ≡ Ok (None, rest) → terms ≡ []
no_terms l left rest [] formed parts read = refl
no_terms l left rest (t ∷ terms) formed parts read =
    let more = terms_text l terms ++ 0x00 ∷ [] in
    let both = both_read l left (term_text l t ++ more) None (Some t) rest more (parts ∙ append_assoc (term_text l t) (terms_text l terms) (0x00 ∷ [])) read (term-again l t more formed.0) in
    let apart : None ≡ Some t = both.0 in
    absurd cc

pub never_cut : (l : ℕ) (left : List ℕ) (terms : List Term) (flaw : Flaw) → AreTerms l terms → left ≡ terms_text l terms ++ 0x00 ∷ [] → term_field l left ≡ Err flaw → ⊥
never_cut l left [] flaw formed parts read =
    let ends = end-again l [] in
    let same : term_field l left ≡ term_field l (0x00 ∷ []) = ap (term_field l) parts in
    absurd cc
never_cut l left (t ∷ terms) flaw formed parts read =
    let more = terms_text l terms ++ 0x00 ∷ [] in
    let again = term-again l t more formed.0 in
    let same : term_field l left ≡ term_field l (term_text l t ++ more) = ap (term_field l) (parts ∙ append_assoc (term_text l t) (terms_text l terms) (0x00 ∷ [])) in
    absurd cc

-- ---- term by term

pub left_all : (l : ℕ) (text : List ℕ) → IsExpression l text → AreLeft l text text
left_all l text is = record { terms = terms_of is.tree; formed = tree_has_terms l is.tree is.spells.formed; parts = is.spells.spelled; within = omega arith }

-- the first term, and what is left after it
pub record Taken (l : ℕ) (text left : List ℕ) (term : Term) (rest : List ℕ) : Type 0 where
  pub others : AreLeft l text rest
  pub first : terms_in l (length text - length left) left ≡ (length text - length left, term) ∷ terms_in l (length text - length rest) rest

pub left_more : (l : ℕ) (text left : List ℕ) (term : Term) (rest : List ℕ) → AreLeft l text left → term_field l left ≡ Ok (Some term, rest) → Taken l text left term rest
left_more l text left term rest a read =
    let f = first_is l left rest a.terms term a.formed a.parts read in
    let at = length text - length left in
    let formed : AreTerms l (term ∷ f.others) = subst (AreTerms l) f.split a.formed in
    let parts : left ≡ term_text l term ++ rest =
    a.parts ∙ ap (λ (ts : List Term). terms_text l ts ++ 0x00 ∷ []) f.split
    ∙ append_assoc (term_text l term) (terms_text l f.others) (0x00 ∷ []) ∙ ap (λ (b : List ℕ). term_text l term ++ b) (sym f.following) in
    let size : length left ≡ length (term_text l term) + length rest = ap length parts ∙ length-append (term_text l term) rest in
    let within : length left ≤ length text = a.within in
    let place : at + length (term_text l term) ≡ length text - length rest = omega arith in
    let following : terms_in l (length text - length rest) rest ≡ placed_terms l (length text - length rest) f.others =
    ap (terms_in l (length text - length rest)) f.following ∙ terms_in-again l (length text - length rest) f.others [] formed.1 in
    record {
      others = record { terms = f.others; formed = formed.1; parts = f.following; within = omega arith };
      first =
          ap (terms_in l at) a.parts ∙ terms_in-again l at a.terms [] a.formed
          ∙ ap (placed_terms l at) f.split
          ∙ ap (λ (n : ℕ). (at, term) ∷ placed_terms l n f.others) place
          ∙ ap (λ (ts : List (ℕ × Term)). (at, term) ∷ ts) (sym following);
    }

pub left_none : (l at : ℕ) (text left rest : List ℕ) → AreLeft l text left → term_field l left ≡ Ok (None, rest) → terms_in l at left ≡ []
left_none l at text left rest a read =
    ap (terms_in l at) a.parts ∙ terms_in-again l at a.terms [] a.formed ∙ ap (placed_terms l at) (no_terms l left rest a.terms a.formed a.parts read)

pub left_cut : (l : ℕ) (text left : List ℕ) (flaw : Flaw) → AreLeft l text left → term_field l left ≡ Err flaw → ⊥
left_cut l text left flaw a read = never_cut l left a.terms flaw a.formed a.parts read
