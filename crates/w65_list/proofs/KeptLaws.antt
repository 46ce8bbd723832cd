-- What is kept of all lines is their text, unless they are too many.
use Rattle.std.proofs.Common.{◌≡◌, ℕ, ◌+◌, Bool, true, false, cond, ltb, leb, List, [], ◌∷◌, ◌++◌, length, Some, None, refl, sym, ap, ◌∙◌, arith, append_assoc, append-nil, length-append}
use Rattle.std.specs.Prelude.{◌&&◌}
use Rattle.std.specs.List.{flat_map}
use Rattle.std.proofs.lemmas.Bool.{le-leb, lt-leb, leb-false, ltb-true, ltb-false}
use Rattle.std.proofs.lemmas.List.Concat.{flat_map-cons, flat_map-append}
use Rattle.list_meaning.specs.Listed.{ListedStatement, said_text, listing_text}
use Rattle.list_meaning.specs.laws.Steps.{line_text}
use Rattle.list_lines.specs.Kept.{Kept, so_far, with_line, with_lines}

same_test : (a b : ℕ) → ltb a b ≡ leb (a + 1) b
same_test a b = by (ltb a b) refl
  where
    by : (x : Bool) → ltb a b ≡ x → x ≡ leb (a + 1) b
    by true e = sym (le-leb (a + 1) b (omega (arith, ltb-true a b e)))
    by false e = sym (lt-leb (a + 1) b (omega (arith, ltb-false a b e)))

stays : (a k b : ℕ) → leb a b ≡ false → leb (a + k) b ≡ false
stays a k b e = lt-leb (a + k) b (omega (arith, leb-false a b e))

one_more : (all : List ListedStatement) (said : ListedStatement) → listing_text (all ++ said ∷ []) ≡ listing_text all ++ (said_text said ++ 0x0A ∷ [])
unfolding listing_text
one_more all said =
    flat_map-append line_text all (said ∷ []) ∙ ap (λ (l : List ℕ). flat_map line_text all ++ l) (flat_map-cons line_text said [] ∙ append-nil (line_text said))

more_lines : (all : List ListedStatement) (said : ListedStatement) → length (all ++ said ∷ []) ≡ length all + 1
more_lines all said = length-append all (said ∷ [])

more_bytes : (all : List ListedStatement) (said : ListedStatement) → length (listing_text (all ++ said ∷ [])) ≡ length (listing_text all) + length (said_text said) + 1
more_bytes all said = ap length (one_more all said) ∙ omega (arith, length-append (listing_text all) (said_text said ++ 0x0A ∷ []), length-append (said_text said) (0x0A ∷ []))

abbrev whole : List ℕ → ℕ → Kept
whole text n = Some (text, n)

abbrev none : Kept
none = None

pub line_kept : (all : List ListedStatement) (said : ListedStatement) → with_line (said_text said) (so_far all) ≡ so_far (all ++ said ∷ [])
unfolding with_line
line_kept all said = by (leb (length all) 65536) (leb (length (listing_text all)) 16777216) refl refl
  where
    large : (b : Bool) → b ≡ false → cond b (whole (listing_text (all ++ said ∷ [])) (length (all ++ said ∷ []))) none ≡ none
    large true e = absurd cc
    large false e = refl

    by : (a b : Bool) → leb (length all) 65536 ≡ a → leb (length (listing_text all)) 16777216 ≡ b → with_line (said_text said) (cond (a && b) (whole (listing_text all) (length all)) none) ≡ so_far (all ++ said ∷ [])
    by true true p q =
        let lines : ltb (length all) 65536 ≡ leb (length (all ++ said ∷ [])) 65536 = same_test (length all) 65536 ∙ ap (λ (n : ℕ). leb n 65536) (sym (more_lines all said)) in
        let bytes : ltb (length (listing_text all) + length (said_text said)) 16777216 ≡ leb (length (listing_text (all ++ said ∷ []))) 16777216 =
        same_test (length (listing_text all) + length (said_text said)) 16777216 ∙ ap (λ (n : ℕ). leb n 16777216) (sym (more_bytes all said)) in
        ap (λ (x : Bool). cond (x && ltb (length (listing_text all) + length (said_text said)) 16777216) (whole (listing_text all ++ (said_text said ++ 0x0A ∷ [])) (length all + 1)) none) lines
        ∙ ap (λ (x : Bool). cond (leb (length (all ++ said ∷ [])) 65536 && x) (whole (listing_text all ++ (said_text said ++ 0x0A ∷ [])) (length all + 1)) none) bytes
        ∙ ap (λ (l : List ℕ). cond (leb (length (all ++ said ∷ [])) 65536 && leb (length (listing_text (all ++ said ∷ []))) 16777216) (whole l (length all + 1)) none) (sym (one_more all said))
        ∙ ap (λ (n : ℕ). cond (leb (length (all ++ said ∷ [])) 65536 && leb (length (listing_text (all ++ said ∷ []))) 16777216) (whole (listing_text (all ++ said ∷ [])) n) none) (sym (more_lines all said))
    by true false p q =
        let long : leb (length (listing_text (all ++ said ∷ []))) 16777216 ≡ false =
        ap (λ (n : ℕ). leb n 16777216) (more_bytes all said ∙ omega arith) ∙ stays (length (listing_text all)) (length (said_text said) + 1) 16777216 q in
        sym (large (leb (length (all ++ said ∷ [])) 65536 && leb (length (listing_text (all ++ said ∷ []))) 16777216) (ap (λ (x : Bool). leb (length (all ++ said ∷ [])) 65536 && x) long ∙ both (leb (length (all ++ said ∷ [])) 65536)))
      where
        both : (x : Bool) → (x && false) ≡ false
        both true = refl
        both false = refl
    by false b p q =
        let many : leb (length (all ++ said ∷ [])) 65536 ≡ false = ap (λ (n : ℕ). leb n 65536) (more_lines all said) ∙ stays (length all) 1 65536 p in
        sym (large (leb (length (all ++ said ∷ [])) 65536 && leb (length (listing_text (all ++ said ∷ []))) 16777216) (ap (λ (x : Bool). x && leb (length (listing_text (all ++ said ∷ []))) 16777216) many))

kept_from : (before all : List ListedStatement) → with_lines all (so_far before) ≡ so_far (before ++ all)
kept_from before [] = ap so_far (sym (append-nil before))
kept_from before (said ∷ all) = ap (with_lines all) (line_kept before said) ∙ kept_from (before ++ said ∷ []) all ∙ ap so_far (append_assoc before (said ∷ []) all)

-- all lines, from nothing on
pub kept_all : (all : List ListedStatement) → with_lines all (Some ([], 0)) ≡ so_far all
unfolding listing_text
kept_all all = kept_from [] all
