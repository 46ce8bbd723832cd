-- The end of a written expression.
use Rattle.std.proofs.Common.{◌≡◌, ◌≢◌, zero, suc, ℕ, ◌-◌, ◌^◌, ◌<◌, ◌≤◌, Bool, true, false, cond, eqb, List, [], ◌∷◌, ◌++◌, take, refl, sym, ap, ◌∙◌, append_assoc, append-nil, arith}
use Rattle.std.proofs.lemmas.Bool.{eqb-true}
use Rattle.byteorder.specs.Endian.{little_bytes}
use Rattle.omf_format.specs.Expression.{Operator, Constant, Tree, Leaf, Binary, term_text, terms_text, terms_of}
use Rattle.asm_meaning.specs.Formulas.{expression_text}
use Rattle.asm_meaning.specs.Instruction.{with_right_shift}
use Rattle.orca_operands.proofs.Amounts.{terms_text-append}

pub one_term : (v : List ℕ) (n : ℕ) → v ≡ [] ++ term_text 0 (Constant n) → v ≡ terms_text 0 (terms_of (Leaf (Constant n)))
one_term v n is = is ∙ sym (append-nil (term_text 0 (Constant n)))

pub end_plain : (text out : List ℕ) (shift : ℕ) → shift ≡ 0 → out ≡ text ++ 0x00 ∷ [] → (tree : Tree) → text ≡ terms_text 0 (terms_of tree) → out ≡ expression_text (with_right_shift shift tree)
unfolding expression_text
end_plain text out shift none is tree spelled =
    is ∙ ap (λ (l : List ℕ). l ++ 0x00 ∷ []) spelled ∙ ap (λ (k : ℕ). terms_text 0 (terms_of (with_right_shift k tree)) ++ 0x00 ∷ []) (sym none)

shifted_is : (shift : ℕ) (tree : Tree) → 0 < shift → with_right_shift shift tree ≡ Binary 0x07 tree (Leaf (Constant (2 ^ 32 - shift)))
shifted_is shift tree some = by_zero (eqb shift 0) refl
  where
    by_zero : (b : Bool) → eqb shift 0 ≡ b → cond b tree (Binary 0x07 tree (Leaf (Constant (2 ^ 32 - shift)))) ≡ Binary 0x07 tree (Leaf (Constant (2 ^ 32 - shift)))
    by_zero true is = let none : shift ≡ 0 = eqb-true shift 0 is in absurd (omega (arith, none, some))
    by_zero false is = refl

pub end_shifted : (text one two out : List ℕ) (shift n : ℕ) → shift ≢ 0 → n ≡ 2 ^ 32 - shift → one ≡ text ++ term_text 0 (Constant n) → two ≡ one ++ term_text 0 (Operator 0x07) → out ≡ two ++ 0x00 ∷ []
    → (tree : Tree) → text ≡ terms_text 0 (terms_of tree) → out ≡ expression_text (with_right_shift shift tree)
unfolding expression_text
end_shifted text one two out shift n some is a b c tree spelled =
    let x = term_text 0 (Constant n) in
    let y = term_text 0 (Operator 0x07) in
    let m : ℕ = 2 ^ 32 - shift in
    let last : terms_text 0 (Constant n ∷ Operator 0x07 ∷ []) ≡ x ++ y = ap (λ (l : List ℕ). x ++ l) (append-nil y) in
    let both : two ≡ text ++ (x ++ y) = b ∙ ap (λ (l : List ℕ). l ++ y) a ∙ append_assoc text x y in
    let terms : terms_text 0 (terms_of tree ++ (Constant n ∷ Operator 0x07 ∷ [])) ≡ text ++ (x ++ y) =
    terms_text-append (terms_of tree) (Constant n ∷ Operator 0x07 ∷ []) ∙ ap (λ (l : List ℕ). terms_text 0 (terms_of tree) ++ l) last ∙ ap (λ (l : List ℕ). l ++ (x ++ y)) (sym spelled) in
    let whole : terms_of tree ++ (Constant n ∷ Operator 0x07 ∷ []) ≡ terms_of (with_right_shift shift tree) =
    ap (λ (k : ℕ). terms_of tree ++ (Constant k ∷ Operator 0x07 ∷ [])) is ∙ sym (ap terms_of (shifted_is shift tree (omega (arith, some)))) in
    c ∙ ap (λ (l : List ℕ). l ++ 0x00 ∷ []) (both ∙ sym terms ∙ ap (terms_text 0) whole)

pub take_little : (w n : ℕ) → w ≤ 4 → take w (little_bytes 4 n) ≡ little_bytes w n
take_little zero n few = refl
take_little (suc zero) n few = refl
take_little (suc (suc zero)) n few = refl
take_little (suc (suc (suc zero))) n few = refl
take_little (suc (suc (suc (suc zero)))) n few = refl
take_little (suc (suc (suc (suc (suc w))))) n few = absurd (omega (arith, few))
