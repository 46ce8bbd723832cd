-- The modes that a mnemonic offers.
use Rattle.std.proofs.Common.{◌≡◌, ℕ, Bool, true, false, cond, List, [], ◌∷◌, Some, None, Ok, refl, sym, ap, ◌∙◌}
use Rattle.std.specs.Prelude.{filter, find}
use Rattle.orca_meaning.specs.declared.forms.Form.{Form}
use Rattle.orca_meaning.specs.declared.forms.Prefix.{Prefix}
use Rattle.orca_meaning.specs.declared.mnemonics.Mnemonic.{Mnemonic}
use Rattle.orca_meaning.specs.declared.modes.Mode.{Mode}
use Rattle.asm_meaning.specs.Answer.{Answer}
use Rattle.asm_meaning.specs.Instruction.{Widths, OperandKind, kind_of, operand_bytes, is_operand_of_width, mode_of_number, or_first, modes_of, modes_of_form}
use Rattle.asm_meaning.specs.laws.Steps.{or_fault}
use Rattle.orca_operands.specs.ModeView.{number_test, offered_test, two_test}

same : (x y : Mode) → Some x ≡ Some y → x ≡ y
same x y e = cc

-- where the first one passes a test, it is the first that does
first_found : (test : Mode → Bool) (first : Mode) (modes : List Mode) → find (λ m. true) modes ≡ Some first → test first ≡ true → find test modes ≡ Some first
first_found test first [] found passes = absurd cc
first_found test first (x ∷ modes) found passes =
    let one : x ≡ first = same x first found in
    ap (λ (b : Bool). cond b (Some x) (find test modes)) (ap test one ∙ passes) ∙ found

abbrev chosen : Mode → Answer Mode
chosen mode = Ok mode

-- the first mode that is offered holds the number
pub first_holds : (w : Widths) (m : Mnemonic) (p : Prefix) (n : ℕ) (first : Mode) (modes : List Mode) (k : OperandKind) (width : ℕ) (b : Bool) → find (λ x. true) modes ≡ Some first → k ≡ kind_of first
    → width ≡ operand_bytes w m first → b ≡ is_operand_of_width p k width n → b ≡ true → chosen first ≡ mode_of_number w m p n modes
first_holds w m p n first modes k width b found kind_is width_is is passes =
    let test : number_test w m p n first ≡ true =
    sym (is ∙ ap (λ (x : OperandKind). is_operand_of_width p x width n) kind_is ∙ ap (λ (x : ℕ). is_operand_of_width p (kind_of first) x n) width_is) ∙ passes in
    sym (ap or_fault (first_found (number_test w m p n) first modes found test))

-- two searches, one after the other, in either order
found_either : (test other : Mode → Bool) (modes : List Mode) → find test (filter other modes) ≡ find other (filter test modes)
found_either test other [] = refl
found_either test other (x ∷ modes) = by (test x) (other x) refl refl (found_either test other modes)
  where
    by : (t o : Bool) → test x ≡ t → other x ≡ o → find test (filter other modes) ≡ find other (filter test modes)
        → find test (cond o (x ∷ filter other modes) (filter other modes)) ≡ find other (cond t (x ∷ filter test modes) (filter test modes))
    by true true is is' rest = ap (λ (b : Bool). cond b (Some x) (find test (filter other modes))) is ∙ sym (ap (λ (b : Bool). cond b (Some x) (find other (filter test modes))) is')
    by true false is is' rest = rest ∙ sym (ap (λ (b : Bool). cond b (Some x) (find other (filter test modes))) is')
    by false true is is' rest = ap (λ (b : Bool). cond b (Some x) (find test (filter other modes))) is ∙ rest
    by false false is is' rest = rest

-- where one mode at most passes a test, it is found if it passes the other too
two_found : (test other : Mode → Bool) (modes : List Mode) (mode : Mode) → filter test modes ≡ mode ∷ [] → find test (filter other modes) ≡ cond (other mode) (Some mode) None
two_found test other modes mode is = found_either test other modes ∙ ap (find other) is

two_missing : (test other : Mode → Bool) (modes : List Mode) → filter test modes ≡ [] → find test (filter other modes) ≡ None
two_missing test other modes is = found_either test other modes ∙ ap (find other) is

-- the mode of an operand that is no constant
pub tree_mode_found : (m : Mnemonic) (form : Form) (p : Prefix) (first mode : Mode) (b : Bool) → filter two_test (modes_of form) ≡ mode ∷ [] → b ≡ offered_test m p mode → or_first first (cond b (Some mode) None) ≡ or_first first (find two_test (modes_of_form m form p))
unfolding modes_of_form
tree_mode_found m form p first mode b one is =
    ap (or_first first) (ap (λ (x : Bool). cond x (Some mode) None) is ∙ sym (two_found two_test (offered_test m p) (modes_of form) mode one))

pub tree_mode_missing : (m : Mnemonic) (form : Form) (p : Prefix) (first : Mode) → filter two_test (modes_of form) ≡ [] → first ≡ or_first first (find two_test (modes_of_form m form p))
unfolding modes_of_form
tree_mode_missing m form p first none = ap (or_first first) (sym (two_missing two_test (offered_test m p) (modes_of form) none))
