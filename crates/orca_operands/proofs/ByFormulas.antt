-- What the formulas of an operand give.
use Rattle.std.proofs.Common.{◌≡◌, ℕ, true, eqb, List, [], ◌∷◌, ◌++◌, length, Option, Some, None, Ok, Err, refl, sym, ap, ◌∙◌, arith}
use Rattle.std.specs.Prelude.{find}
use Rattle.std.proofs.lemmas.Bool.{eqb-true}
use Rattle.std.proofs.lemmas.List.{length-append}
use Rattle.omf_format.specs.Field.{◌>>=◌}
use Rattle.omf_format.specs.Expression.{Term, Tree, Leaf, Unary, Binary, terms_of}
use Rattle.orca_meaning.specs.declared.forms.Form.{Form}
use Rattle.orca_meaning.specs.declared.forms.Prefix.{Prefix}
use Rattle.orca_meaning.specs.declared.forms.Prefix.TheVariants.{Bare}
use Rattle.orca_meaning.specs.declared.mnemonics.Mnemonic.{Mnemonic}
use Rattle.orca_meaning.specs.declared.modes.Mode.{Mode}
use Rattle.orca_meaning.specs.Operand.{Meaning}
use Rattle.asm_meaning.specs.declared.faults.AsmCause.{AsmCause}
use Rattle.asm_meaning.specs.declared.faults.AsmCause.TheVariants.{BadMode}
use Rattle.asm_meaning.specs.Answer.{Answer}
use Rattle.asm_meaning.specs.Constant as meaning
use Rattle.asm_meaning.specs.Constant.{Constants, amount}
use Rattle.asm_meaning.specs.Instruction.{Widths, operand_bytes, with_number, with_amount, without_amount, modes_of_form, instruction}
use Rattle.asm_meaning.specs.laws.Steps.{in_modes}
use Rattle.asm_meaning.specs.Pieces.{Piece}
use Rattle.orca_text.specs.declared.operand.Operand.{Operand}
use Rattle.orca_text.specs.OperandView.{IsWritten, first_terms, second_terms}
use Rattle.orca_operands.specs.Chosen.{chosen_amount, by_trees}

not_empty : (a : List Term) (t : Term) → a ++ t ∷ [] ≡ [] → ⊥
not_empty a t e = let size : length (a ++ t ∷ []) ≡ 0 = ap length e in omega (arith, size, length-append a (t ∷ []))

no_end : (a b : List Term) (t : Term) → a ++ (b ++ t ∷ []) ≡ [] → ⊥
no_end a b t e = let size : length (a ++ (b ++ t ∷ [])) ≡ 0 = ap length e in omega (arith, size, length-append a (b ++ t ∷ []), length-append b (t ∷ []))

-- a tree has terms
some_terms : (t : Tree) → terms_of t ≡ [] → ⊥
some_terms (Leaf term) e = absurd cc
some_terms (Unary code a) e = not_empty (terms_of a) _ e
some_terms (Binary code a b) e = no_end (terms_of a) (terms_of b) _ e

abbrev none : Option (List Term)
none = None

no_some : (x : List Term) → none ≡ Some x → ⊥
no_some x e = absurd cc

-- none
pub bare_case : (o : Operand) (mn : Meaning) (cs : Constants) (w : Widths) (m : Mnemonic) (first : Mode) (modes : List Mode) (r : Answer (List Piece)) → o.second ≡ None → o.first ≡ []
    → r ≡ Ok (with_number m first Bare (operand_bytes w m first) 0) → IsWritten o mn → r ≡ by_trees cs w m mn.prefix first modes mn.trees
unfolding without_amount
bare_case o mn cs w m first modes r second empty is written = by_count mn.trees (sym second ∙ written.second_is) (sym empty ∙ written.first_is)
  where
    by_count : (trees : List Tree) → None ≡ second_terms trees → [] ≡ first_terms trees → r ≡ by_trees cs w m mn.prefix first modes trees
    by_count [] e f = is
    by_count (t ∷ []) e f = absurd (some_terms t (sym f))
    by_count (s ∷ d ∷ trees) e f = absurd (no_some (terms_of d) e)

abbrev refused : AsmCause → Answer (List Piece)
refused cause = Err cause

-- ---- the modes

abbrev amount_same : Widths → Mnemonic → Prefix → Mode → List Mode → meaning.Amount → Type 0
amount_same w m p first rest a = with_amount w m p first rest a ≡ chosen_amount w m p first (first ∷ rest) a

with_is : (w : Widths) (m : Mnemonic) (p : Prefix) (first : Mode) (rest : List Mode) (a : meaning.Amount) → amount_same w m p first rest a
unfolding with_amount
with_is w m p first rest (meaning.Known n) = refl
with_is w m p first rest (meaning.Written t) = refl

bound_same : (x : Answer meaning.Amount) (f g : meaning.Amount → Answer (List Piece)) → ((a : meaning.Amount) → f a ≡ g a) → (x >>= f) ≡ (x >>= g)
bound_same (Ok a) f g same = same a
bound_same (Err cause) f g same = refl

modes_is : (cs : Constants) (w : Widths) (m : Mnemonic) (p : Prefix) (first : Mode) (rest : List Mode) (trees : List Tree) → in_modes cs w m p trees (first ∷ rest) ≡ by_trees cs w m p first (first ∷ rest) trees
modes_is cs w m p first rest [] = refl
modes_is cs w m p first rest (t ∷ []) = bound_same (amount cs t) (with_amount w m p first rest) (chosen_amount w m p first (first ∷ rest)) (with_is w m p first rest)
modes_is cs w m p first rest (s ∷ d ∷ trees) = refl

pub first_is : (cs : Constants) (w : Widths) (m : Mnemonic) (mn : Meaning) (first : Mode) (r : Answer (List Piece)) → find (λ x. true) (modes_of_form m mn.form mn.prefix) ≡ Some first
    → r ≡ by_trees cs w m mn.prefix first (modes_of_form m mn.form mn.prefix) mn.trees → r ≡ instruction cs w m mn
unfolding instruction
first_is cs w m mn first r found is = by_modes (modes_of_form m mn.form mn.prefix) found is
  where
    same : (x y : Mode) → Some x ≡ Some y → x ≡ y
    same x y e = cc

    by_modes : (modes : List Mode) → find (λ x. true) modes ≡ Some first → r ≡ by_trees cs w m mn.prefix first modes mn.trees → r ≡ in_modes cs w m mn.prefix mn.trees modes
    by_modes [] e is = absurd cc
    by_modes (x ∷ rest) e is =
        let one : x ≡ first = same x first e in
        is ∙ ap (λ (y : Mode). by_trees cs w m mn.prefix y (x ∷ rest) mn.trees) (sym one) ∙ sym (modes_is cs w m mn.prefix x rest mn.trees)

pub none_is : (cs : Constants) (w : Widths) (m : Mnemonic) (mn : Meaning) → find (λ x. true) (modes_of_form m mn.form mn.prefix) ≡ None → refused BadMode ≡ instruction cs w m mn
unfolding instruction
none_is cs w m mn none' = by_modes (modes_of_form m mn.form mn.prefix) none'
  where
    by_modes : (modes : List Mode) → find (λ x. true) modes ≡ None → refused BadMode ≡ in_modes cs w m mn.prefix mn.trees modes
    by_modes [] e = refl
    by_modes (x ∷ rest) e = absurd cc

pub empty_list : {A : Type 0} (l : List A) → eqb (length l) 0 ≡ true → l ≡ []
empty_list [] none = refl
empty_list (x ∷ l) none = let zero_is : length (x ∷ l) ≡ 0 = eqb-true (length (x ∷ l)) 0 none in absurd (omega (arith, zero_is))

-- the search for the first mode goes by the operand's form and prefix, which are those that are meant
pub first_for : (m : Mnemonic) (o : Operand) (mn : Meaning) (r s : Option Mode) → IsWritten o mn → r ≡ find (λ x. true) (modes_of_form m o.form o.prefix) → r ≡ s → find (λ x. true) (modes_of_form m mn.form mn.prefix) ≡ s
first_for m o mn r s written is found =
    sym (ap (λ (f : Form). find (λ x. true) (modes_of_form m f o.prefix)) written.form_is ∙ ap (λ (p : Prefix). find (λ x. true) (modes_of_form m mn.form p)) written.prefix_is) ∙ sym is ∙ found

abbrev bytes_answer : Mnemonic → Mode → ℕ → Answer (List Piece)
bytes_answer m first width = Ok (with_number m first Bare width 0)

abbrev pieces_are : List Piece → Answer (List Piece)
pieces_are r = Ok r

pub bare_is : (m : Mnemonic) (first : Mode) (r : List Piece) (width bytes : ℕ) → r ≡ with_number m first Bare width 0 → width ≡ bytes → pieces_are r ≡ bytes_answer m first bytes
bare_is m first r width bytes is same = ap pieces_are is ∙ ap (bytes_answer m first) same
