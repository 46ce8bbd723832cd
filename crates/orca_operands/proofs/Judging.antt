-- Formulas of a line that are judged.
use Rattle.std.proofs.Common.{◌≡◌, ℕ, ◌<◌, ◌≤◌, Bool, true, false, ltb, List, [], ◌∷◌, length, map, Option, Some, None, Ok, Err, refl, sym, ap, subst, ◌∙◌}
use Rattle.std.specs.Prelude.{Result, IsTrue, ◌↔◌}
use Rattle.std.proofs.lemmas.Bool.{lt-ltb, le-ltb, ltb-true, ltb-false}
use Rattle.omf_format.specs.Field.{◌>>=◌}
use Rattle.omf_format.specs.Expression.{Term, Tree, AreTerms}
use Rattle.omf_format.specs.laws.TreeLaws.{tree_has_terms}
use Rattle.orca_meaning.specs.declared.operators.Operands.TheVariants.{Labels}
use Rattle.orca_meaning.specs.Formula.{MeansAt, pending, has_large}
use Rattle.orca_meaning.specs.laws.FormulaLaws.{formed, one_tree, pending-one}
use Rattle.orca_text.specs.FormulaAt.{IsFormulaAt}
use Rattle.orca_text.specs.Peak.{peak}
use Rattle.orca_text.proofs.OperandIs.{peak_is, terms_are}
use Rattle.asm_meaning.specs.declared.faults.AsmCause.{AsmCause}
use Rattle.asm_meaning.specs.declared.faults.AsmCause.TheVariants.{BadOperand, BadNumber, UnknownConstant}
use Rattle.asm_meaning.specs.Answer.{Answer}
use Rattle.asm_meaning.specs.Constant as meaning
use Rattle.asm_meaning.specs.Constant.{Constants, Known, Written, Number, Open, Divided, KnownValue, known_value, amount, required_number, with_values}
use Rattle.asm_meaning.specs.laws.Steps.{amount_by}
use Rattle.asm_meaning.specs.Elements.{number_piece, piece_of_number}
use Rattle.asm_meaning.specs.Formulas.{AreFormulas, checked_formula, number_of}
use Rattle.asm_meaning.specs.Pieces.{Piece}
use Rattle.orca_operands.specs.AmountView.{IsFormulaOf, AmountBytes, kept_of, kept_answer}
use Rattle.orca_operands.specs.DcView.{IsKeptOf, HasNumbers, all_or}
use Rattle.orca_operands.specs.PieceView.{piece, pieces_answer}
use Rattle.orca_operands.specs.declared.piece.Piece as piece_type
use Rattle.std.specs.Global.{Vec}
use Rattle.orca_operands.specs.JudgedView.{judged_amount, needed_kept}
use Rattle.orca_operands.proofs.Gathering.{AreItems, IsOnce, Gathers, gathers_nothing, GathersAll}

-- what was kept of a formula at the start of a text
pub kept_from : (text : List ℕ) (terms : List Term) (large : Bool) (rest : List ℕ) → length text ≤ 255 → (f : IsFormulaAt Labels text terms large rest) → IsKeptOf terms large f.tree
kept_from text terms large rest short f = record { text = text; rest = rest; short = short; means = f.means; kept = f.kept; large_is = f.large_is }

formula_from : (terms : List Term) (large : Bool) (tree : Tree) (k : IsKeptOf terms large tree) → IsFormulaAt Labels k.text terms large k.rest
formula_from terms large tree k = record { tree = tree; means = k.means; kept = k.kept; large_is = k.large_is }

-- its terms can be written
pub fine_terms : (text : List ℕ) (terms : List Term) (large : Bool) (rest : List ℕ) → length text ≤ 255 → IsFormulaAt Labels text terms large rest → large ≡ false → AreTerms 0 terms
fine_terms text terms large rest short f is =
    let small : has_large f.tree ≡ false = sym f.large_is ∙ is in
    subst (AreTerms 0) (sym (terms_are text terms large rest f is)) (tree_has_terms 0 f.tree (formed Labels text f.tree rest short f.means small))

judged_deep : (tree : Tree) → 64 < pending 1 tree → checked_formula tree ≡ Err BadOperand
unfolding checked_formula
judged_deep tree much = let test : ltb 64 (pending 1 tree) ≡ true = lt-ltb 64 (pending 1 tree) much in rw test refl

judged_large : (tree : Tree) → pending 1 tree ≤ 64 → has_large tree ≡ true → checked_formula tree ≡ Err BadNumber
unfolding checked_formula
judged_large tree few large = let test : ltb 64 (pending 1 tree) ≡ false = le-ltb 64 (pending 1 tree) few in rw (test, large) refl

judged_good : (tree : Tree) → pending 1 tree ≤ 64 → has_large tree ≡ false → checked_formula tree ≡ Ok tree
unfolding checked_formula
judged_good tree few small = let test : ltb 64 (pending 1 tree) ≡ false = le-ltb 64 (pending 1 tree) few in rw (test, small) refl

abbrev refused : AsmCause → Answer AmountBytes
refused cause = Err cause

peak_of : (terms : List Term) (large : Bool) (tree : Tree) → IsKeptOf terms large tree → peak 1 0 0 terms ≡ pending 1 tree
unfolding formula_from
peak_of terms large tree k = peak_is 1 k.text terms large k.rest (formula_from terms large tree k)

pub too_deep : (cs : Constants) (terms : List Term) (large : Bool) (tree : Tree) → 64 < peak 1 0 0 terms → IsKeptOf terms large tree → refused BadOperand ≡ kept_answer 0 (judged_amount cs tree)
too_deep cs terms large tree much k =
    sym (ap (λ (j : Answer Tree). kept_answer 0 (j >>= amount cs)) (judged_deep tree (subst (λ (n : ℕ). 64 < n) (peak_of terms large tree k) much)))

pub too_large : (cs : Constants) (terms : List Term) (large : Bool) (tree : Tree) → peak 1 0 0 terms ≤ 64 → large ≡ true → IsKeptOf terms large tree → refused BadNumber ≡ kept_answer 0 (judged_amount cs tree)
too_large cs terms large tree few is k =
    sym (ap (λ (j : Answer Tree). kept_answer 0 (j >>= amount cs)) (judged_large tree (subst (λ (n : ℕ). n ≤ 64) (peak_of terms large tree k) few) (sym k.large_is ∙ is)))

pub well_judged : (cs : Constants) (terms : List Term) (large : Bool) (tree : Tree) (a : Answer AmountBytes) → peak 1 0 0 terms ≤ 64 → large ≡ false
    → ((t : Tree) → IsFormulaOf terms t → a ≡ kept_answer 0 (amount cs t)) → IsKeptOf terms large tree → a ≡ kept_answer 0 (judged_amount cs tree)
unfolding formula_from
well_judged cs terms large tree a few is amount_is k =
    let small : has_large tree ≡ false = sym k.large_is ∙ is in
    let shallow : pending 1 tree ≤ 64 = subst (λ (n : ℕ). n ≤ 64) (peak_of terms large tree k) few in
    let whole : IsFormulaOf terms tree = record {
      terms_are = terms_are k.text terms large k.rest (formula_from terms large tree k) is;
      formed = formed Labels k.text tree k.rest k.short k.means small;
      shallow = subst (λ (n : ℕ). n ≤ 64) (pending-one tree) shallow;
    } in
    amount_is tree whole ∙ sym (ap (λ (j : Answer Tree). kept_answer 0 (j >>= amount cs)) (judged_good tree shallow small))

pub more_than : (b : Bool) (n : ℕ) → (IsTrue b ↔ (64 < n)) → b ≡ true → 64 < n
more_than b n is e = is.0 e

pub at_most : (b : Bool) (n : ℕ) → (IsTrue b ↔ (64 < n)) → b ≡ false → n ≤ 64
at_most b n is none = by_order (ltb 64 n) refl
  where
    no_true : (b : Bool) → b ≡ false → IsTrue b → ⊥
    no_true true e t = absurd cc
    no_true false e t = absurd cc

    by_order : (t : Bool) → ltb 64 n ≡ t → n ≤ 64
    by_order true e = absurd (no_true b none (is.1 (ltb-true 64 n e)))
    by_order false e = ltb-false 64 n e

-- ---- the number that a formula is

needed_of : Answer meaning.Amount → Answer ℕ
needed_of (Ok (Known n)) = Ok n
needed_of (Ok (Written tree)) = Err UnknownConstant
needed_of (Err cause) = Err cause

needed_amount : (cs : Constants) (tree : Tree) → required_number (known_value cs tree) ≡ needed_of (amount cs tree)
unfolding amount needed_of
needed_amount cs tree = by_worth (known_value cs tree)
  where
    by_worth : (w : KnownValue) → required_number w ≡ needed_of (amount_by (with_values cs tree) w)
    by_worth (Number n) = refl
    by_worth Open = refl
    by_worth Divided = refl

number_is : (cs : Constants) (tree : Tree) → number_of cs tree ≡ needed_of (judged_amount cs tree)
unfolding needed_of
number_is cs tree = by_judged (checked_formula tree)
  where
    by_judged : (j : Answer Tree) → (j >>= λ t. required_number (known_value cs t)) ≡ needed_of (j >>= amount cs)
    by_judged (Ok t) = needed_amount cs t
    by_judged (Err cause) = refl

abbrev no_number : AsmCause → Answer ℕ
no_number cause = Err cause

abbrev kept : AmountBytes → Answer AmountBytes
kept k = Ok k

kept_by : (k : AmountBytes) (a : Answer meaning.Amount) → kept k ≡ kept_answer 0 a → needed_kept k ≡ needed_of a
unfolding needed_of
kept_by k (Ok meant) e = ap needed_kept (same k (kept_of 0 meant) e) ∙ by_amount meant
  where
    same : (x y : AmountBytes) → kept x ≡ kept y → x ≡ y
    same x y e = cc

    by_amount : (m : meaning.Amount) → needed_kept (kept_of 0 m) ≡ needed_of (Ok m)
    by_amount (Known n) = refl
    by_amount (Written tree) = refl
kept_by k (Err cause) e = absurd cc

refused_by : (cause : AsmCause) (a : Answer meaning.Amount) → refused cause ≡ kept_answer 0 a → no_number cause ≡ needed_of a
unfolding needed_of
refused_by cause (Ok meant) e = absurd cc
refused_by cause (Err other) e = ap no_number (same cause other e)
  where
    same : (x y : AsmCause) → refused x ≡ refused y → x ≡ y
    same x y e = cc

pub kept_number : (cs : Constants) (k : AmountBytes) (r : Answer ℕ) (tree : Tree) → kept k ≡ kept_answer 0 (judged_amount cs tree) → r ≡ needed_kept k → r ≡ number_of cs tree
kept_number cs k r tree e is = is ∙ kept_by k (judged_amount cs tree) e ∙ sym (number_is cs tree)

pub refused_number : (cs : Constants) (cause : AsmCause) (tree : Tree) → refused cause ≡ kept_answer 0 (judged_amount cs tree) → no_number cause ≡ number_of cs tree
refused_number cs cause tree e = refused_by cause (judged_amount cs tree) e ∙ sym (number_is cs tree)

-- ---- numbers of a given number of bytes

numbered_is : (cs : Constants) (width : ℕ) (tree : Tree) → piece_of_number cs width tree ≡ (judged_amount cs tree >>= λ a. Ok (number_piece width a))
numbered_is cs width tree = by_judged (checked_formula tree)
  where
    by_judged : (j : Answer Tree) → (j >>= λ t. amount cs t >>= λ a. Ok (number_piece width a)) ≡ ((j >>= amount cs) >>= λ a. Ok (number_piece width a))
    by_judged (Ok t) = refl
    by_judged (Err cause) = refl

abbrev one : Piece → Answer Piece
one p = Ok p

abbrev none : AsmCause → Answer Piece
none cause = Err cause

given_by : (width : ℕ) (k : AmountBytes) (p : Piece) (a : Answer meaning.Amount) → kept k ≡ kept_answer 0 a → ((meant : meaning.Amount) → k ≡ kept_of 0 meant → p ≡ number_piece width meant)
    → one p ≡ (a >>= λ x. Ok (number_piece width x))
given_by width k p (Ok meant) e is = ap one (is meant (same k (kept_of 0 meant) e))
  where
    same : (x y : AmountBytes) → kept x ≡ kept y → x ≡ y
    same x y e = cc
given_by width k p (Err cause) e is = absurd cc

pub numbered_good : (cs : Constants) (width : ℕ) (k : AmountBytes) (p : Piece) (tree : Tree) → kept k ≡ kept_answer 0 (judged_amount cs tree) → ((meant : meaning.Amount) → k ≡ kept_of 0 meant → p ≡ number_piece width meant)
    → one p ≡ piece_of_number cs width tree
numbered_good cs width k p tree e is = given_by width k p (judged_amount cs tree) e is ∙ sym (numbered_is cs width tree)

fault_by : (width : ℕ) (cause : AsmCause) (a : Answer meaning.Amount) → refused cause ≡ kept_answer 0 a → none cause ≡ (a >>= λ x. Ok (number_piece width x))
fault_by width cause (Ok meant) e = absurd cc
fault_by width cause (Err other) e = ap none (same cause other e)
  where
    same : (x y : AsmCause) → refused x ≡ refused y → x ≡ y
    same x y e = cc

pub numbered_fault : (cs : Constants) (width : ℕ) (cause : AsmCause) (tree : Tree) → refused cause ≡ kept_answer 0 (judged_amount cs tree) → none cause ≡ piece_of_number cs width tree
numbered_fault cs width cause tree e = fault_by width cause (judged_amount cs tree) e ∙ sym (numbered_is cs width tree)

-- ---- formulas that commas separate

abbrev pub FormulaStands : List ℕ → Tree → List ℕ → Type 0
FormulaStands text tree rest = MeansAt Labels text tree rest

pub formula_once : IsOnce FormulaStands
formula_once text a b r s p q = (one_tree Labels text a b r s p q).1

formulas_are : (text : List ℕ) (trees : List Tree) → AreItems FormulaStands text trees → AreFormulas text trees
formulas_are text [] are = are
formulas_are text (t ∷ []) are = are
formulas_are text (t ∷ next ∷ trees) are = (are.0, are.1, formulas_are are.0 (next ∷ trees) are.2)

are_formulas : (text : List ℕ) (trees : List Tree) → AreFormulas text trees → AreItems FormulaStands text trees
are_formulas text [] are = are
are_formulas text (t ∷ []) are = are
are_formulas text (t ∷ next ∷ trees) are = (are.0, are.1, are_formulas are.0 (next ∷ trees) are.2)

pub has_numbers : (cs : Constants) (width : ℕ) (text : List ℕ) (answer : Answer (List Piece)) → GathersAll FormulaStands (piece_of_number cs width) text answer → HasNumbers cs width text answer
has_numbers cs width text answer g = record { trees = g.all; are = formulas_are text g.all g.are; gives = g.gives }

pub no_formulas : (text : List ℕ) → ((trees : List Tree) → AreItems FormulaStands text trees → ⊥) → (trees : List Tree) → AreFormulas text trees → ⊥
no_formulas text none trees are = none trees (are_formulas text trees are)

-- terms that are the same
pub same_formula : (a b : List Term) (t : Tree) → a ≡ b → IsFormulaOf b t → IsFormulaOf a t
same_formula a b t same is = record { terms_are = same ∙ is.terms_are; formed = is.formed; shallow = is.shallow }

-- all pieces that were given, unless there is a fault
pub all_pieces : (fault : Option AsmCause) (v : Vec piece_type.Piece) (r : Result (Vec piece_type.Piece) AsmCause) → r ≡ all_or fault v → pieces_answer r ≡ all_or fault (map piece v.items)
all_pieces fault v r is = ap pieces_answer is ∙ by_fault fault
  where
    by_fault : (f : Option AsmCause) → pieces_answer (all_or f v) ≡ all_or f (map piece v.items)
    by_fault None = refl
    by_fault (Some cause) = refl

pub nothing_yet : {A B U : Type 0} (At : List ℕ → A → List ℕ → Type 0) (f : A → Answer B) (v : U → B) (text : List ℕ) (out : List U) → out ≡ [] → Gathers At f text None (map v out) text
nothing_yet At f v text out none = subst (λ l. Gathers At f text None (map v l) text) (sym none) (gathers_nothing At f text)
