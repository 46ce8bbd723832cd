-- Operands after a space, and formulas of which the first 256 bytes are written.
use Rattle.std.proofs.Common.{◌≡◌, ℕ, zero, suc, ◌*◌, ◌<◌, ◌≤◌, Bool, true, false, List, [], ◌∷◌, ◌++◌, length, take, refl, sym, ap, ◌∙◌, arith, append_assoc, append-nil, length-append}
use Rattle.std.specs.Prelude.{codes, Result, Ok, Err, OnOk}
use Rattle.std.proofs.lemmas.Bool.{lt-leb}
use Rattle.std.proofs.lemmas.List.{length-take}
use Rattle.omf_base.specs.Digits.{hexadecimal}
use Rattle.omf_format.specs.Expression.{Tree}
use Rattle.list_meaning.specs.Listed.{FormulaIs, Wanted, None', Number, Banks, Label, Moved, said_text, formula_text, number_text, wanted_text}
use Rattle.list_meaning.specs.laws.Steps.{sign_text, with_leading_space}
use Rattle.list_meaning.specs.Listing.{is_short}
use Rattle.list_lines.specs.declared.output.ListingText.{ListingText}
use Rattle.list_lines.specs.Kept.{with_line}
use Rattle.list_lines.specs.LineView.{Wrote, has_no_text}
use Rattle.list_lines.specs.OutputView.{finished_lines, open_line}
use Rattle.list_lines.proofs.Written.{wrote_of}

-- ---- a space before an operand

no_text : (w : Wanted) → has_no_text w ≡ true → wanted_text w ≡ []
no_text None' e = refl
no_text (Number bytes n) e = absurd cc
no_text (Banks source destination) e = absurd cc
no_text (Label []) e = refl
no_text (Label (byte ∷ name)) e = absurd cc
no_text (Moved name adds n) e = absurd cc

pub spaced_none : (line front back : List ℕ) (w : Wanted) → front ≡ [] → has_no_text w ≡ true → back ≡ [] → line ≡ line ++ with_leading_space (front ++ (wanted_text w ++ back))
spaced_none line [] [] w p q r = sym (append-nil line) ∙ ap (λ (text : List ℕ). line ++ with_leading_space (text ++ [])) (sym (no_text w q))
spaced_none line [] (byte ∷ back) w p q r = absurd cc
spaced_none line (byte ∷ front) back w p q r = absurd cc

-- it has a text
record HasFirst (text : List ℕ) : Type 0 where
  byte : ℕ
  following : List ℕ
  whole : text ≡ byte ∷ following

some_text : (w : Wanted) (back : List ℕ) → has_no_text w ≡ false → HasFirst (wanted_text w ++ back)
some_text None' back e = absurd cc
some_text (Number bytes n) back e = record { byte = 0x24; following = hexadecimal (2 * bytes) n ++ back; whole = refl }
some_text (Banks source destination) back e = record { byte = 0x24; following = (hexadecimal 2 source ++ (codes "," ++ number_text 2 destination)) ++ back; whole = refl }
some_text (Label []) back e = absurd cc
some_text (Label (byte ∷ name)) back e = record { byte = byte; following = name ++ back; whole = refl }
some_text (Moved [] true n) back e = record { byte = 0x2B; following = number_text 8 n ++ back; whole = refl }
some_text (Moved [] false n) back e = record { byte = 0x2D; following = number_text 8 n ++ back; whole = refl }
some_text (Moved (byte ∷ name) adds n) back e = record { byte = byte; following = (name ++ (sign_text adds ++ number_text 8 n)) ++ back; whole = refl }

with_space : (line : List ℕ) (text : List ℕ) → HasFirst text → (line ++ 0x20 ∷ []) ++ text ≡ line ++ with_leading_space text
with_space line text has =
    ap (λ (l : List ℕ). (line ++ 0x20 ∷ []) ++ l) has.whole ∙ append_assoc line (0x20 ∷ []) (has.byte ∷ has.following) ∙ ap (λ (l : List ℕ). line ++ with_leading_space l) (sym has.whole)

first_before : (byte : ℕ) (front text : List ℕ) → HasFirst ((byte ∷ front) ++ text)
first_before byte front text = record { byte = byte; following = front ++ text; whole = refl }

pub spaced_some : (line front back : List ℕ) (w : Wanted) → (front ≡ [] → has_no_text w ≡ true → back ≡ [] → ⊥) → (line ++ 0x20 ∷ []) ++ (front ++ (wanted_text w ++ back)) ≡ line ++ with_leading_space (front ++ (wanted_text w ++ back))
spaced_some line (byte ∷ front) back w some = with_space line ((byte ∷ front) ++ (wanted_text w ++ back)) (first_before byte front (wanted_text w ++ back))
spaced_some line [] back w some = by (has_no_text w) refl
  where
    by : (b : Bool) → has_no_text w ≡ b → (line ++ 0x20 ∷ []) ++ (wanted_text w ++ back) ≡ line ++ with_leading_space (wanted_text w ++ back)
    by false e = with_space line (wanted_text w ++ back) (some_text w back e)
    by true e = by_back back (some refl e)
      where
        by_back : (back : List ℕ) → (back ≡ [] → ⊥) → (line ++ 0x20 ∷ []) ++ (wanted_text w ++ back) ≡ line ++ with_leading_space (wanted_text w ++ back)
        by_back [] some = absurd (some refl)
        by_back (byte ∷ back) some =
            ap (λ (text : List ℕ). (line ++ 0x20 ∷ []) ++ (text ++ byte ∷ back)) (no_text w e) ∙ append_assoc line (0x20 ∷ []) (byte ∷ back)
            ∙ ap (λ (text : List ℕ). line ++ with_leading_space (text ++ byte ∷ back)) (sym (no_text w e))

-- ---- DC A

abbrev pub sum_line : ℕ → List ℕ → List ℕ
sum_line count formula = ((((0x20 ∷ codes "DC A") ++ hexadecimal 1 count) ++ codes "'") ++ formula) ++ codes "'"

sum_text : (count : ℕ) (t : Tree) → said_text (FormulaIs count t) ≡ sum_line count (formula_text t)
unfolding said_text
sum_text count t =
    let front = (0x20 ∷ codes "DC A") ++ hexadecimal 1 count in
    sym (append_assoc (front ++ codes "'") (formula_text t) (codes "'") ∙ append_assoc front (codes "'") (formula_text t ++ codes "'"))

cut_short : (n : ℕ) (text : List ℕ) → length (take n text) < n → take n text ≡ text
cut_short zero text less = absurd (omega arith)
cut_short (suc n) [] less = refl
cut_short (suc n) (byte ∷ text) less = ap (λ (l : List ℕ). byte ∷ l) (cut_short n text (omega (arith, less)))

sum_size : (count : ℕ) (formula : List ℕ) → length formula ≤ length (sum_line count formula)
sum_size count formula =
    let a = ((0x20 ∷ codes "DC A") ++ hexadecimal 1 count) ++ codes "'" in
    omega (arith, length-append (a ++ formula) (codes "'"), length-append a formula)

sum_same : (count : ℕ) (a b : List ℕ) → length a ≤ length b → length (sum_line count a) ≤ length (sum_line count b)
sum_same count a b less =
    let front = ((0x20 ∷ codes "DC A") ++ hexadecimal 1 count) ++ codes "'" in
    omega (arith, length-append (front ++ a) (codes "'"), length-append front a, length-append (front ++ b) (codes "'"), length-append front b)

-- a short line has the whole formula
pub sum_wrote : (count : ℕ) (t : Tree) (formula : List ℕ) (a b c : ListingText) → formula ≡ take 256 (formula_text t) → open_line b ≡ sum_line count formula → finished_lines b ≡ finished_lines a → finished_lines c ≡ with_line (open_line b) (finished_lines b)
    → open_line c ≡ [] → length (open_line b) ≤ 255 → Wrote (FormulaIs count t) a c
sum_wrote count t formula a b c is line same whole end short =
    let few : length formula ≤ 255 = omega (arith, sum_size count formula, ap length line, short) in
    let all : take 256 (formula_text t) ≡ formula_text t = cut_short 256 (formula_text t) (omega (arith, ap length is, few)) in
    wrote_of (FormulaIs count t) a b c (line ∙ ap (sum_line count) (is ∙ all) ∙ sym (sum_text count t)) same whole end short

-- and a long line is long with the whole formula
pub sum_long : (count : ℕ) (t : Tree) (formula : List ℕ) (b : ListingText) → formula ≡ take 256 (formula_text t) → open_line b ≡ sum_line count formula → 255 < length (open_line b) → is_short (FormulaIs count t) ≡ false
sum_long count t formula b is line long =
    let size : length formula ≤ length (formula_text t) = omega (arith, ap length is, length-take 256 (formula_text t)) in
    lt-leb (length (said_text (FormulaIs count t))) 255 (omega (arith, ap length (sum_text count t), sum_same count formula (formula_text t) size, ap length line, long))

-- `sum_wrote` for a line whose end may fail
pub sum_answer : {U E : Type 0} (r : Result U E) (count : ℕ) (formula : List ℕ) (a b c : ListingText) → open_line b ≡ sum_line count formula → finished_lines b ≡ finished_lines a → OnOk r (finished_lines c ≡ with_line (open_line b) (finished_lines b)) → OnOk r (open_line c ≡ [])
    → OnOk r (length (open_line b) ≤ 255) → OnOk r ((t : Tree) → formula ≡ take 256 (formula_text t) → Wrote (FormulaIs count t) a c)
sum_answer (Ok u) count formula a b c line same whole end short = λ t is. sum_wrote count t formula a b c is line same whole end short
sum_answer (Err e) count formula a b c line same whole end short = tt
