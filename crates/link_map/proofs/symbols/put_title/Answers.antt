use Rattle.std.proofs.Common.{◌≡◌, ◌++◌, ℕ, true, false, List, [], ◌∷◌, length, refl, sym, ap, ◌∙◌, arith}
use Rattle.std.proofs.lemmas.Bool.{eqb-true, eq-eqb}
use Rattle.std.proofs.lemmas.Result.{on_ok_weaker}
use Rattle.omf_records.specs.Segments.{segment_of_view}
use Rattle.object_meaning.specs.Defines.{outer_scope, title_of}
use Rattle.link_map.specs.Listings.{scope_as}
use Rattle.link_map.proofs.TextLaws.{nothing}
use Rattle.link_map.proofs.SymbolLaws.{lines_of, title_none, title_line}
use Rattle.link_map.proofs.symbols.put_title.Goals as goal

empty : (l : List ℕ) → length l ≡ 0 → l ≡ []
empty [] e = refl
empty (x ∷ l) e = absurd (omega (arith, e))

true_false : true ≡ false → ⊥
true_false e = cc

pub returns-then-is_empty : goal.returns-then-is_empty
returns-then-is_empty c = λ m there.
    let s = segment_of_view c.args.segment.now in
    let none = sym c.bytes-name.ensures.value ∙ empty c.bytes-name.result.now (eqb-true (length c.bytes-name.result.now) 0 (sym c.if-is_empty.ensures)) in
    nothing c.args.line.now (lines_of c.args.listed c.args.values.now c.args.place m (title_of s)) (title_none c.args.listed c.args.values.now c.args.place m s none)

pub returns : goal.returns
returns c =
    on_ok_weaker c.put_value_line.result
    (λ is m there.
    is
    ∙ ap (λ (l : List ℕ). c.args.line.now ++ l)
    (title_line c.args.listed c.args.values.now c.args.place m (segment_of_view c.args.segment.now) (scope_as c.title_seen_by-seen.result) c.bytes-name.result.now c.place_in.result (c.title_seen_by-seen.ensures ∙ ap outer_scope c.is_private.ensures) c.bytes-name.ensures.value
    (λ none. true_false (sym (eq-eqb (length c.bytes-name.result.now) 0 (ap length none)) ∙ sym c.if-is_empty.ensures)) (c.place_in.ensures m there)))
    c.put_value_line.ensures
