-- Lines with the fields of their own bytes.
use Rattle.std.proofs.Common.{◌≡◌, ℕ, zero, suc, Bool, true, false, cond, List, [], ◌∷◌, map, slice_get, Some, refl, sym, ap, subst, ◌∙◌}
use Rattle.std.specs.Prelude.{not}
use Rattle.std.specs.List.{filter}
use Rattle.orca_meaning.specs.Line.{Line, is_comment, HaveFields}
use Rattle.orca_meaning.specs.laws.LineLaws.{have_fields}
use Rattle.orca_text.specs.OwnFields.{HasOwnFields, HaveOwnFields}
use Rattle.orca_text.specs.DecodedView.{decoded_line}
use Rattle.orca_text.specs.declared.decoded_line.DecodedLine.{DecodedLine}

some_line : (a b : Line) → Some a ≡ Some b → a ≡ b
some_line a b e = cc

pub own_at : (lines : List Line) (i : ℕ) (l : Line) → HaveOwnFields lines → slice_get lines i ≡ Some l → HasOwnFields l
own_at [] i l own e = absurd cc
own_at (x ∷ lines) zero l own e = subst HasOwnFields (some_line x l e) own.0
own_at (x ∷ lines) (suc i) l own e = own_at lines i l own.1 e

pub fields_at : (lines : List Line) (i : ℕ) (l : Line) → HaveOwnFields lines → slice_get lines i ≡ Some l → HaveFields l.text l.fields
fields_at lines i l own e = rw (own_at lines i l own e).0 (have_fields l.text)

-- ---- lines without comments

own_filtered : (test : Line → Bool) (lines : List Line) → HaveOwnFields lines → HaveOwnFields (filter test lines)
own_filtered test [] own = tt
own_filtered test (l ∷ lines) own = by (test l) (own_filtered test lines own.1)
  where
    by : (b : Bool) → HaveOwnFields (filter test lines) → HaveOwnFields (cond b (l ∷ filter test lines) (filter test lines))
    by true rest = (own.0, rest)
    by false rest = rest

map_filtered : (test : Line → Bool) (lines : List DecodedLine) → map decoded_line (filter (λ (l : DecodedLine). test (decoded_line l)) lines) ≡ filter test (map decoded_line lines)
map_filtered test [] = refl
map_filtered test (l ∷ lines) = by (filter (λ (x : DecodedLine). test (decoded_line x)) lines) (filter test (map decoded_line lines)) (test (decoded_line l)) (map_filtered test lines)
  where
    by : (left : List DecodedLine) (found : List Line) (b : Bool) → map decoded_line left ≡ found → map decoded_line (cond b (l ∷ left) left) ≡ cond b (decoded_line l ∷ found) found
    by left found true rest = ap (λ (ls : List Line). decoded_line l ∷ ls) rest
    by left found false rest = rest

pub dropped : (old new : List DecodedLine) → new ≡ filter (λ (l : DecodedLine). not (is_comment l.line.text)) old → map decoded_line new ≡ filter (λ (l : Line). not (is_comment l.text)) (map decoded_line old)
dropped old new is = ap (map decoded_line) is ∙ map_filtered (λ (l : Line). not (is_comment l.text)) old

pub own_left : (old new : List DecodedLine) → new ≡ filter (λ (l : DecodedLine). not (is_comment l.line.text)) old → HaveOwnFields (map decoded_line old) → HaveOwnFields (map decoded_line new)
own_left old new is own = subst HaveOwnFields (sym (dropped old new is)) (own_filtered (λ (l : Line). not (is_comment l.text)) (map decoded_line old) own)
