-- Pieces from the start on, and quotes that close.
use Rattle.std.proofs.Common.{◌≡◌, ℕ, zero, suc, ◌+◌, ◌<◌, ◌≤◌, Bool, true, false, cond, eqb, ltb, List, [], ◌∷◌, ◌++◌, length, get_or, take, drop, Option, Some, None, refl, sym, ap, subst, ◌∙◌, append_assoc, append-nil, length-drop, arith}
use Rattle.std.specs.Prelude.{position, slice_get}
use Rattle.std.specs.List.{position_or_len}
use Rattle.std.proofs.lemmas.List.{drop_more}
use Rattle.orca_meaning.specs.Quotes.{quote_following}
use Rattle.macro_meaning.specs.Pieces.{parts, open_after, pieces_from, pieces, closed_at, unquoted_text, joined_texts}
use Rattle.macro_meaning.specs.laws.Steps.{with_byte, appended_texts}
use Rattle.orca_symbols.specs.Piece.{piece_len, AreNotTwo}

-- ---- elements from a place on

pub drop_next : {A : Type 0} (l : List A) (i : ℕ) (x : A) → slice_get l i ≡ Some x → drop i l ≡ x ∷ drop (i + 1) l
drop_next {A = A} [] i x is = absurd cc
drop_next {A = A} (y ∷ l) zero x is = let same : y ≡ x = cc in ap (λ (z : A). z ∷ l) same
drop_next {A = A} (y ∷ l) (suc i) x is = let more : suc i + 1 ≡ suc (i + 1) = omega arith in rw more (drop_next l i x is)

pub drop_all : {A : Type 0} (l : List A) (i : ℕ) → length l ≤ i → drop i l ≡ []
drop_all [] zero end = refl
drop_all [] (suc i) end = refl
drop_all (y ∷ l) zero end = absurd (omega (arith, end))
drop_all (y ∷ l) (suc i) end = drop_all l i (omega (arith, end))

-- an element that was read; the first part shows `grind` the call to match
pub drop_read : {A : Type 0} (l : List A) (i : ℕ) (x : A) → i < length l → x ≡ get_or l i x → (get_or l i x ≡ get_or l i x) × (drop i l ≡ x ∷ drop (i + 1) l)
drop_read {A = A} l i x less is = (refl, drop_more l i x less ∙ ap (λ (y : A). y ∷ drop (i + 1) l) (sym is))

-- the first piece, and the pieces of what follows its separator
after_first : ℕ → List ℕ → List (List ℕ)
after_first separator [] = []
after_first separator (byte ∷ following) = pieces separator following

front : (separator : ℕ) (quote : Option ℕ) (count : ℕ) (text : List ℕ)
    → pieces_from separator quote count text ≡ take (piece_len separator quote count text) text ∷ after_first separator (drop (piece_len separator quote count text) text)
unfolding pieces_from piece_len after_first
front separator quote count [] = refl
front separator quote count (byte ∷ following) = by_test (parts separator quote count byte) (front separator (quote_following quote byte) (open_after quote count byte) following)
  where
    n : ℕ
    n = piece_len separator (quote_following quote byte) (open_after quote count byte) following

    more : (k : ℕ) → k ≡ suc n → pieces_from separator (quote_following quote byte) (open_after quote count byte) following ≡ take n following ∷ after_first separator (drop n following)
        → with_byte byte (pieces_from separator (quote_following quote byte) (open_after quote count byte) following) ≡ take k (byte ∷ following) ∷ after_first separator (drop k (byte ∷ following))
    more k e is = rw e (ap (with_byte byte) is)

    by_test : (b : Bool) → pieces_from separator (quote_following quote byte) (open_after quote count byte) following ≡ take n following ∷ after_first separator (drop n following)
        → cond b ([] ∷ pieces separator following) (with_byte byte (pieces_from separator (quote_following quote byte) (open_after quote count byte) following))
        ≡ take (cond b 0 (n + 1)) (byte ∷ following) ∷ after_first separator (drop (cond b 0 (n + 1)) (byte ∷ following))
    by_test true is = refl
    by_test false is = more (n + 1) (omega arith) is

-- what was found, and the pieces of what is left
pub last_piece : (separator : ℕ) (text left : List ℕ) (old new : List (List ℕ)) (p : List ℕ) (k : ℕ) → old ++ pieces separator left ≡ pieces separator text
    → k ≡ piece_len separator None 0 left → p ≡ take k left → length (drop k left) ≡ 0 → new ≡ old ++ p ∷ [] → new ≡ pieces separator text
unfolding after_first
last_piece separator text left old new p k is k_is p_is end push =
    push ∙ ap (λ (l : List (List ℕ)). old ++ l) (sym whole) ∙ is
  where
    none : (l : List ℕ) → length l ≡ 0 → after_first separator l ≡ []
    none [] e = refl
    none (x ∷ l) e = absurd (omega (arith, e))

    whole : pieces separator left ≡ p ∷ []
    whole = front separator None 0 left ∙ ap (λ (j : ℕ). take j left ∷ after_first separator (drop j left)) (sym k_is) ∙ ap (λ (l : List (List ℕ)). take k left ∷ l) (none (drop k left) end) ∙ ap (λ (l : List ℕ). l ∷ []) (sym p_is)

pub next_piece : (separator : ℕ) (text left others : List ℕ) (byte : ℕ) (old new : List (List ℕ)) (p : List ℕ) (k : ℕ) → old ++ pieces separator left ≡ pieces separator text
    → k ≡ piece_len separator None 0 left → p ≡ take k left → drop k left ≡ byte ∷ others → new ≡ old ++ p ∷ [] → new ++ pieces separator others ≡ pieces separator text
unfolding after_first
next_piece separator text left others byte old new p k is k_is p_is rest push =
    ap (λ (l : List (List ℕ)). l ++ pieces separator others) push
    ∙ append_assoc old (p ∷ []) (pieces separator others) ∙ ap (λ (l : List (List ℕ)). old ++ l) (sym whole) ∙ is
  where
    whole : pieces separator left ≡ p ∷ pieces separator others
    whole = front separator None 0 left ∙ ap (λ (j : ℕ). take j left ∷ after_first separator (drop j left)) (sym k_is) ∙ ap (λ (l : List ℕ). take k left ∷ after_first separator l) rest ∙ ap (λ (l : List ℕ). l ∷ pieces separator others) (sym p_is)

-- ---- quotes

by_found : (b : Bool) (n i : ℕ) → cond b (Some n) None ≡ Some i → (b ≡ true) × (n ≡ i)
by_found true n i e = (refl, cc)
by_found false n i e = absurd cc

none_found : (b : Bool) (n : ℕ) → cond b (Some n) None ≡ None → b ≡ false
none_found true n e = absurd cc
none_found false n e = refl

-- the quote is at a place
pub closes : (quote : ℕ) (following text others : List ℕ) (close : ℕ) → position (λ b. eqb b quote) following ≡ Some close → text ≡ take close following → others ≡ drop (close + 1) following
    → closed_at quote following ≡ Some (text, others)
unfolding closed_at
closes quote following text others close at text_is rest_is =
    let n = position_or_len (λ b. eqb b quote) following in
    let found = by_found (ltb n (length following)) n close at in
    rw found.0 (ap (λ (t : List ℕ). Some (t, drop (n + 1) following)) (ap (λ (k : ℕ). take k following) found.1 ∙ sym text_is)
    ∙ ap (λ (r : List ℕ). Some (text, r)) (ap (λ (k : ℕ). drop (k + 1) following) found.1 ∙ sym rest_is))

pub never_closes : (quote : ℕ) (following : List ℕ) → position (λ b. eqb b quote) following ≡ None → closed_at quote following ≡ None
unfolding closed_at
never_closes quote following none = rw (none_found (ltb (position_or_len (λ b. eqb b quote) following) (length following)) (position_or_len (λ b. eqb b quote) following) none) refl

-- ---- joined texts

pub join_start : (pieces out : List (List ℕ)) (first : List ℕ) → first ≡ [] → appended_texts (Some first) (joined_texts (drop 0 pieces)) ≡ joined_texts pieces
join_start pieces out first e = ap (λ (o : List ℕ). appended_texts (Some o) (joined_texts pieces)) e ∙ same (joined_texts pieces)
  where
    same : (rest : Option (List ℕ)) → appended_texts (Some []) rest ≡ rest
    same None = refl
    same (Some text) = refl

pub join_next : (pieces : List (List ℕ)) (at : ℕ) (piece text old new : List ℕ) (whole : Option (List ℕ)) → slice_get pieces at ≡ Some piece → unquoted_text piece ≡ Some text → new ≡ old ++ text
    → appended_texts (Some old) (joined_texts (drop at pieces)) ≡ whole → appended_texts (Some new) (joined_texts (drop (at + 1) pieces)) ≡ whole
unfolding joined_texts
join_next pieces at piece text old new whole is found push so =
    ap (λ (n : List ℕ). appended_texts (Some n) (joined_texts (drop (at + 1) pieces))) push ∙ more old text (joined_texts (drop (at + 1) pieces))
    ∙ ap (λ (t : Option (List ℕ)). appended_texts (Some old) (appended_texts t (joined_texts (drop (at + 1) pieces)))) (sym found)
    ∙ ap (λ (l : List (List ℕ)). appended_texts (Some old) (joined_texts l)) (sym (drop_next pieces at piece is)) ∙ so
  where
    more : (a b : List ℕ) (rest : Option (List ℕ)) → appended_texts (Some (a ++ b)) rest ≡ appended_texts (Some a) (appended_texts (Some b) rest)
    more a b None = refl
    more a b (Some t) = ap (λ (t : List ℕ). Some t) (append_assoc a b t)

pub join_none : (pieces : List (List ℕ)) (at : ℕ) (piece old : List ℕ) (whole : Option (List ℕ)) → slice_get pieces at ≡ Some piece → unquoted_text piece ≡ None
    → appended_texts (Some old) (joined_texts (drop at pieces)) ≡ whole → whole ≡ None
unfolding joined_texts
join_none pieces at piece old whole is none so =
    sym so ∙ ap (λ (l : List (List ℕ)). appended_texts (Some old) (joined_texts l)) (drop_next pieces at piece is) ∙ ap (λ (t : Option (List ℕ)). appended_texts (Some old) (appended_texts t (joined_texts (drop (at + 1) pieces)))) none

pub join_end : (pieces : List (List ℕ)) (at : ℕ) (out : List ℕ) (whole : Option (List ℕ)) → length pieces ≤ at → appended_texts (Some out) (joined_texts (drop at pieces)) ≡ whole → whole ≡ Some out
unfolding joined_texts
join_end pieces at out whole end so =
    sym so ∙ ap (λ (l : List (List ℕ)). appended_texts (Some out) (joined_texts l)) (drop_all pieces at end) ∙ ap (λ (t : List ℕ). Some t) (append-nil out)

-- a place that holds an element
pub get_inside : {A : Type 0} (l : List A) (i : ℕ) (x : A) → slice_get l i ≡ Some x → i + 1 ≤ length l
get_inside [] i x is = absurd cc
get_inside (y ∷ l) zero x is = omega arith
get_inside (y ∷ l) (suc i) x is = omega (arith, get_inside l i x is)

-- ---- two pieces

take_all : (l : List ℕ) (i : ℕ) → length l ≤ i → take i l ≡ l
take_all [] zero end = refl
take_all [] (suc i) end = refl
take_all (y ∷ l) zero end = absurd (omega (arith, end))
take_all (y ∷ l) (suc i) end = ap (λ (r : List ℕ). y ∷ r) (take_all l i (omega (arith, end)))

first_piece : (separator k : ℕ) (text : List ℕ) → k ≡ piece_len separator None 0 text → pieces separator text ≡ take k text ∷ after_first separator (drop k text)
first_piece separator k text k_is = front separator None 0 text ∙ ap (λ (j : ℕ). take j text ∷ after_first separator (drop j text)) (sym k_is)

pub and_more : (separator : ℕ) (text first second : List ℕ) (byte k : ℕ) → k ≡ piece_len separator None 0 text → first ≡ take k text → drop k text ≡ byte ∷ second
    → pieces separator text ≡ first ∷ pieces separator second
unfolding after_first
and_more separator text first second byte k k_is first_is rest =
    first_piece separator k text k_is ∙ ap (λ (l : List ℕ). take k text ∷ after_first separator l) rest ∙ ap (λ (l : List ℕ). l ∷ pieces separator second) (sym first_is)

pub two_are : (separator : ℕ) (text first second : List ℕ) (byte k j : ℕ) → k ≡ piece_len separator None 0 text → first ≡ take k text → drop k text ≡ byte ∷ second
    → j ≡ piece_len separator None 0 second → length second ≤ j → pieces separator text ≡ first ∷ second ∷ []
unfolding after_first
two_are separator text first second byte k j k_is first_is rest j_is all =
    let single : pieces separator second ≡ second ∷ [] =
    first_piece separator j second j_is ∙ ap (λ (l : List ℕ). take j second ∷ after_first separator l) (drop_all second j all) ∙ ap (λ (l : List ℕ). l ∷ []) (take_all second j all) in
    and_more separator text first second byte k k_is first_is rest ∙ ap (λ (l : List (List ℕ)). first ∷ l) single

pub alone : (separator : ℕ) (text first : List ℕ) (k : ℕ) → k ≡ piece_len separator None 0 text → first ≡ take k text → length (drop k text) ≡ 0 → pieces separator text ≡ first ∷ []
unfolding after_first
alone separator text first k k_is first_is none =
    first_piece separator k text k_is ∙ ap (λ (l : List ℕ). take k text ∷ after_first separator l) (nothing (drop k text) none) ∙ ap (λ (l : List ℕ). l ∷ []) (sym first_is)
  where
    nothing : (l : List ℕ) → length l ≡ 0 → l ≡ []
    nothing [] e = refl
    nothing (x ∷ l) e = absurd (omega (arith, e))

pub one_alone : (separator : ℕ) (text : List ℕ) (k : ℕ) → k ≡ piece_len separator None 0 text → length (drop k text) ≡ 0 → AreNotTwo (pieces separator text)
one_alone separator text k k_is none = subst AreNotTwo (sym (alone separator text (take k text) k k_is refl none)) tt

pub three_are : (separator : ℕ) (text first second : List ℕ) (byte k j : ℕ) → k ≡ piece_len separator None 0 text → first ≡ take k text → drop k text ≡ byte ∷ second
    → j ≡ piece_len separator None 0 second → j < length second → AreNotTwo (pieces separator text)
unfolding after_first
three_are separator text first second byte k j k_is first_is rest j_is less = by_rest (drop j second) refl
  where
    by_rest : (l : List ℕ) → drop j second ≡ l → AreNotTwo (pieces separator text)
    by_rest [] e = absurd (omega (arith, less, length-drop j second, ap length e))
    by_rest (b ∷ others) e =
        let whole : pieces separator text ≡ first ∷ take j second ∷ take (piece_len separator None 0 others) others ∷ after_first separator (drop (piece_len separator None 0 others) others) =
        and_more separator text first second byte k k_is first_is rest
        ∙ ap (λ (l : List (List ℕ)). first ∷ l) (first_piece separator j second j_is ∙ ap (λ (l : List ℕ). take j second ∷ after_first separator l) e)
        ∙ ap (λ (l : List (List ℕ)). first ∷ take j second ∷ l) (front separator None 0 others) in
        subst AreNotTwo (sym whole) tt
