use Rattle.std.proofs.Common.{◌≡◌, ◌≤◌, ℕ, Some, List, [], ◌∷◌, true, false, not, length, refl, sym, ap, subst, ◌∙◌, arith}
use Rattle.std.proofs.lemmas.Bool.{eqb-true, eq-eqb}
use Rattle.omf_records.specs.Segments.{segment_of_view}
use Rattle.object_meaning.specs.Defines.{title_of}
use Rattle.link_file.specs.Exported.{DefinesSeen}
use Rattle.link_values.proofs.CircularLaws.{title_empty}
use Rattle.link_file.proofs.ExportLaws.{title_named}
use Rattle.link_file.proofs.exports.title_seen.Goals as goal

empty : (l : List ℕ) → length l ≡ 0 → l ≡ []
empty [] e = refl
empty (x ∷ l) e = absurd (omega (arith, e))

some : (l : List ℕ) → (l ≡ [] → ⊥) → 1 ≤ length l
some [] e = absurd (e refl)
some (x ∷ l) e = omega arith

true_false : true ≡ false → ⊥
true_false e = cc

pub returns-then-is_empty-clause-seen : goal.returns-then-is_empty-clause-seen
returns-then-is_empty-clause-seen c =
    title_empty (segment_of_view c.args.segment.now) (sym c.bytes-name.ensures.value ∙ empty c.bytes-name.result.now (eqb-true (length c.bytes-name.result.now) 0 (sym c.if-is_empty.ensures)))

pub returns-clause-seen : goal.returns-clause-seen
returns-clause-seen c =
    let s = segment_of_view c.args.segment.now in
    let full : (c.args.segment.now.header.name ≡ []) → ⊥ =
    λ none. true_false (sym (eq-eqb (length c.bytes-name.result.now) 0 (ap length (c.bytes-name.ensures.value ∙ none))) ∙ sym c.if-is_empty.ensures) in
    subst (λ (n : List ℕ). DefinesSeen (title_of s) (Some (record { name = n; public = not c.is_private.result }))) (sym c.bytes-name.ensures.value) (title_named s (not c.is_private.result) full (ap not c.is_private.ensures))

pub returns-clause-named : goal.returns-clause-named
returns-clause-named c =
    let full : (c.bytes-name.result.now ≡ []) → ⊥ = λ none. true_false (sym (eq-eqb (length c.bytes-name.result.now) 0 (ap length none)) ∙ sym c.if-is_empty.ensures) in
    (some c.bytes-name.result.now full, omega (arith, c.bytes-name.ensures.short, ap length c.bytes-name.ensures.value))
