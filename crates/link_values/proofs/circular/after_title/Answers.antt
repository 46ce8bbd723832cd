use Rattle.std.proofs.Common.{◌≡◌, ℕ, zero, suc, ◌+◌, ◌-◌, true, false, List, [], ◌∷◌, length, refl, sym, ap, ◌∙◌, arith}
use Rattle.std.proofs.lemmas.Bool.{eqb-true, eq-eqb}
use Rattle.omf_records.specs.Segments.{segment_of_view}
use Rattle.link_values.proofs.CircularLaws.{untitled, titled}
use Rattle.link_values.proofs.circular.after_title.Goals as goal

empty : (l : List ℕ) → length l ≡ 0 → l ≡ []
empty [] e = refl
empty (x ∷ l) e = absurd (omega (arith, e))

true_false : true ≡ false → ⊥
true_false e = cc

less : (n : ℕ) → (n ≡ 0 → ⊥) → n ≡ n - 1 + 1
less zero some = absurd (some refl)
less (suc n) some = omega arith

pub returns-then-is_empty : goal.returns-then-is_empty
returns-then-is_empty c =
    untitled (segment_of_view c.args.segment.now) c.args.number (sym c.bytes.ensures.value ∙ empty c.bytes.result.now (eqb-true (length c.bytes.result.now) 0 (sym c.if-is_empty.ensures)))

pub returns : goal.returns
returns c = titled (segment_of_view c.args.segment.now) c.args.number (c.args.number - 1)
    (λ none. true_false (sym (eq-eqb (length c.bytes.result.now) 0 (ap length (c.bytes.ensures.value ∙ none))) ∙ sym c.if-is_empty.ensures)) (less c.args.number c.if-number-eq0.false)
