-- What is written of formulas.
use Rattle.std.proofs.Common.{◌≡◌, ℕ, List, [], ◌∷◌, ◌++◌, refl, sym, ap, ◌∙◌, append_assoc, append-nil}
use Rattle.omf_format.specs.Expression.{Term, Operator, Location, Constant, term_text, terms_text}
use Rattle.std.proofs.lemmas.List.Concat.{flat_map-cons}
use Rattle.asm_meaning.specs.Constant.{Constants}
use Rattle.orca_operands.specs.AmountView.{less_location, written_term, written_terms, all_written}

-- three terms one after another
pub location_put : (old one two three : List ℕ) (back : ℕ) → one ≡ old ++ term_text 0 Location → two ≡ one ++ term_text 0 (Constant back) → three ≡ two ++ term_text 0 (Operator 0x02)
    → three ≡ old ++ terms_text 0 (less_location back)
location_put old one two three back a b c =
    let x = term_text 0 Location in
    let y = term_text 0 (Constant back) in
    let z = term_text 0 (Operator 0x02) in
    c ∙ ap (λ (l : List ℕ). l ++ z) (b ∙ ap (λ (l : List ℕ). l ++ y) a)
    ∙ append_assoc (old ++ x) y z ∙ append_assoc old x (y ++ z) ∙ ap (λ (l : List ℕ). old ++ (x ++ (y ++ l))) (sym (append-nil z))

pub terms_text-append : (a b : List Term) → terms_text 0 (a ++ b) ≡ terms_text 0 a ++ terms_text 0 b
terms_text-append [] b = refl
terms_text-append (t ∷ a) b = ap (λ (l : List ℕ). term_text 0 t ++ l) (terms_text-append a b) ∙ sym (append_assoc (term_text 0 t) (terms_text 0 a) (terms_text 0 b))

-- one more term
pub terms_put : (constants : Constants) (back : ℕ) (old new : List ℕ) (first : Term) (others : List Term) (whole : List ℕ) → old ++ terms_text 0 (all_written constants back (first ∷ others)) ≡ whole
    → new ≡ old ++ terms_text 0 (written_terms back (written_term constants first)) → new ++ terms_text 0 (all_written constants back others) ≡ whole
terms_put constants back old new first others whole is put =
    let one = written_terms back (written_term constants first) in
    let rest = all_written constants back others in
    let parts : terms_text 0 (all_written constants back (first ∷ others)) ≡ terms_text 0 one ++ terms_text 0 rest =
    ap (terms_text 0) (flat_map-cons (λ t. written_terms back (written_term constants t)) first others) ∙ terms_text-append one rest in
    ap (λ (l : List ℕ). l ++ terms_text 0 rest) put ∙ append_assoc old (terms_text 0 one) (terms_text 0 rest) ∙ ap (λ (l : List ℕ). old ++ l) (sym parts) ∙ is

pub terms_end : (out whole : List ℕ) → out ++ [] ≡ whole → out ≡ whole
terms_end out whole is = sym (append-nil out) ∙ is
