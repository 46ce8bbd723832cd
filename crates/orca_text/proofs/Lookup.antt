-- A mnemonic is found by its number.
use Rattle.std.proofs.Common.{◌≡◌, ℕ, zero, suc, ◌<◌, ◌≤◌, Bool, true, false, ltb, List, [], ◌∷◌, length, map, get_or, slice_get, Some, None, refl, sym, ap, subst, ◌∙◌, arith, ◌⊎◌, inl, inr}
use Rattle.std.specs.Prelude.{◌&&◌, ◌≢◌, bytes_eq, Ok, Err}
use Rattle.std.specs.List.{list_all}
use Rattle.std.specs.List.Sorted.{IsBinarySearchResult}
use Rattle.std.specs.Ordering.{nat_cmp}
use Rattle.std.proofs.lemmas.Bool.{ltb-true, cases_eq, and_parts}
use Rattle.std.proofs.lemmas.List.{length-map}
use Rattle.std.proofs.lemmas.List.Sorted.{searched}
use Rattle.std.proofs.lemmas.Slice.Eq.{bytes_eq-Decides}
use Rattle.orca_meaning.specs.declared.mnemonics.Mnemonic.{Mnemonic}
use Rattle.orca_meaning.specs.declared.forms.OperandUse.{OperandUse}
use Rattle.orca_meaning.specs.Characters.{folded}
use Rattle.orca_meaning.specs.Operation.{value_of_spelling, mnemonics, mnemonic_of, use_of}
use Rattle.orca_text.specs.Spelling.{key_of, is_three}

-- three bytes are known by their number
three_same : (v w : List ℕ) → is_three v ≡ true → is_three w ≡ true → key_of v ≡ key_of w → v ≡ w
three_same (a ∷ b ∷ c ∷ []) (d ∷ e ∷ f ∷ []) p q same =
    let a' : a < 256 = ltb-true a 256 (and_parts (ltb a 256) (ltb b 256) (and_parts (ltb a 256 && ltb b 256) (ltb c 256) p).0).0 in
    let b' : b < 256 = ltb-true b 256 (and_parts (ltb a 256) (ltb b 256) (and_parts (ltb a 256 && ltb b 256) (ltb c 256) p).0).1 in
    let c' : c < 256 = ltb-true c 256 (and_parts (ltb a 256 && ltb b 256) (ltb c 256) p).1 in
    let d' : d < 256 = ltb-true d 256 (and_parts (ltb d 256) (ltb e 256) (and_parts (ltb d 256 && ltb e 256) (ltb f 256) q).0).0 in
    let e' : e < 256 = ltb-true e 256 (and_parts (ltb d 256) (ltb e 256) (and_parts (ltb d 256 && ltb e 256) (ltb f 256) q).0).1 in
    let f' : f < 256 = ltb-true f 256 (and_parts (ltb d 256 && ltb e 256) (ltb f 256) q).1 in
    let x : a ≡ d = omega arith in
    let y : b ≡ e = omega arith in
    let z : c ≡ f = omega arith in
    cc
three_same [] w p q same = absurd cc
three_same (a ∷ []) w p q same = absurd cc
three_same (a ∷ b ∷ []) w p q same = absurd cc
three_same (a ∷ b ∷ c ∷ d ∷ v) w p q same = absurd cc
three_same (a ∷ b ∷ c ∷ []) [] p q same = absurd cc
three_same (a ∷ b ∷ c ∷ []) (d ∷ []) p q same = absurd cc
three_same (a ∷ b ∷ c ∷ []) (d ∷ e ∷ []) p q same = absurd cc
three_same (a ∷ b ∷ c ∷ []) (d ∷ e ∷ f ∷ g ∷ w) p q same = absurd cc

three_long : (v : List ℕ) → is_three v ≡ true → length v ≡ 3
three_long (a ∷ b ∷ c ∷ []) p = omega arith
three_long [] p = absurd cc
three_long (a ∷ []) p = absurd cc
three_long (a ∷ b ∷ []) p = absurd cc
three_long (a ∷ b ∷ c ∷ d ∷ v) p = absurd cc

abbrev Rows : Type 0
Rows = List (List ℕ × Mnemonic)

abbrev keys : Rows → List ℕ
keys rows = map (λ row. key_of row.0) rows

-- each spelling is three bytes
are_three : Rows → Bool
are_three [] = true
are_three (row ∷ rows) = is_three row.0 && are_three rows

-- each number is below all later ones
rises : List ℕ → Bool
rises [] = true
rises (x ∷ xs) = list_all (λ y. ltb x y) xs && rises xs

below_at : (x : ℕ) (xs : List ℕ) (i : ℕ) → list_all (λ y. ltb x y) xs ≡ true → i < length xs → x < get_or xs i 0
below_at x [] i all less = absurd (omega arith)
below_at x (y ∷ xs) zero all less = ltb-true x y (and_parts _ _ all).0
below_at x (y ∷ xs) (suc i) all less = below_at x xs i (and_parts _ _ all).1 (omega arith)

rises_at : (xs : List ℕ) (i j : ℕ) → rises xs ≡ true → i < j → j < length xs → get_or xs i 0 < get_or xs j 0
unfolding rises
rises_at [] i j up less some = absurd (omega arith)
rises_at (x ∷ xs) i zero up less some = absurd (omega arith)
rises_at (x ∷ xs) zero (suc j) up less some = below_at x xs j (and_parts _ _ up).0 (omega arith)
rises_at (x ∷ xs) (suc i) (suc j) up less some = rises_at xs i j (and_parts _ _ up).1 (omega arith) (omega arith)

not_true : (b : Bool) → (b ≡ true → ⊥) → b ≡ false
not_true true h = absurd (h refl)
not_true false h = refl

-- the row with the word's number is the word's row
beside-at : (word : List ℕ) (rows : Rows) (i : ℕ) → is_three word ≡ true → are_three rows ≡ true → rises (keys rows) ≡ true → i < length rows
    → get_or (keys rows) i 0 ≡ key_of word → value_of_spelling word rows ≡ slice_get (map (λ row. row.1) rows) i
unfolding value_of_spelling are_three rises
beside-at word [] i three all up less is = absurd (omega arith)
beside-at word (row ∷ rows) zero three all up less is =
    let same = three_same row.0 word (and_parts _ _ all).0 three is in
    let test : bytes_eq row.0 word ≡ true = (bytes_eq-Decides row.0 word).1 same in
    rw test refl
beside-at word (row ∷ rows) (suc i) three all up less is =
    let long : i < length (keys rows) = omega (arith, length-map rows (λ row. key_of row.0)) in
    let lower = below_at (key_of row.0) (keys rows) i (and_parts _ _ up).0 long in
    let other : bytes_eq row.0 word ≡ true → ⊥ = λ e. let same = (bytes_eq-Decides row.0 word).0 e in let key = ap key_of same in omega arith in
    let test : bytes_eq row.0 word ≡ false = not_true _ other in
    rw test (beside-at word rows i three (and_parts _ _ all).1 (and_parts _ _ up).1 (omega arith) is)

-- no row is the word's where none has its number
beside-none : (word : List ℕ) (rows : Rows) → ((k : ℕ) → k < length rows → get_or (keys rows) k 0 ≢ key_of word) → value_of_spelling word rows ≡ None
unfolding value_of_spelling
beside-none word [] none = refl
beside-none word (row ∷ rows) none =
    let other : bytes_eq row.0 word ≡ true → ⊥ = λ e. none 0 (omega arith) (ap key_of ((bytes_eq-Decides row.0 word).0 e)) in
    let test : bytes_eq row.0 word ≡ false = not_true _ other in
    rw test (beside-none word rows (λ k less. none (suc k) (omega arith)))

-- nor where the word isn't three bytes long
beside-other : (word : List ℕ) (rows : Rows) → are_three rows ≡ true → length word ≢ 3 → value_of_spelling word rows ≡ None
unfolding value_of_spelling are_three
beside-other word [] all long = refl
beside-other word (row ∷ rows) all long =
    let other : bytes_eq row.0 word ≡ true → ⊥ = λ e. long (sym (ap length ((bytes_eq-Decides row.0 word).0 e)) ∙ three_long row.0 (and_parts _ _ all).0) in
    let test : bytes_eq row.0 word ≡ false = not_true _ other in
    rw test (beside-other word rows (and_parts _ _ all).1 long)

-- ---- the table

all_three : are_three mnemonics ≡ true
unfolding are_three mnemonics
all_three = refl

all_rise : rises (keys mnemonics) ≡ true
unfolding rises mnemonics
all_rise = refl

ordered : (i j : ℕ) → i ≤ j → j < length (keys mnemonics) → get_or (keys mnemonics) i 0 ≤ get_or (keys mnemonics) j 0
ordered i j le less = by_order (cases_eq i j)
  where
    by_order : (i ≡ j) ⊎ (i ≡ j → ⊥) → get_or (keys mnemonics) i 0 ≤ get_or (keys mnemonics) j 0
    by_order (inl same) = rw same (omega arith)
    by_order (inr other) = let lower = rises_at (keys mnemonics) i j all_rise (omega arith) less in omega arith

found_row : (word : List ℕ) (i : ℕ) → is_three word ≡ true → IsBinarySearchResult (λ y. nat_cmp y (key_of word)) (keys mnemonics) (Ok i)
    → value_of_spelling word mnemonics ≡ slice_get (map (λ row. row.1) mnemonics) i
found_row word i three is =
    let found : (i < length (keys mnemonics)) × (get_or (keys mnemonics) i 0 ≡ key_of word) = searched (keys mnemonics) (key_of word) (Ok i) is ordered in
    beside-at word mnemonics i three all_three all_rise (omega (arith, found.0, length-map mnemonics (λ row. key_of row.0))) found.1

no_row : (word : List ℕ) (i : ℕ) → IsBinarySearchResult (λ y. nat_cmp y (key_of word)) (keys mnemonics) (Err i) → value_of_spelling word mnemonics ≡ None
no_row word i is =
    let found : (i ≤ length (keys mnemonics)) × ((k : ℕ) → k < i → get_or (keys mnemonics) k 0 < key_of word) × ((k : ℕ) → i ≤ k → k < length (keys mnemonics) → key_of word < get_or (keys mnemonics) k 0) =
    searched (keys mnemonics) (key_of word) (Err i) is ordered in
    beside-none word mnemonics (λ k less same. absurd (by_place found k (omega (arith, length-map mnemonics (λ row. key_of row.0))) same (Rattle.std.proofs.lemmas.Bool.cases_lt k i)))
  where
    by_place : (i ≤ length (keys mnemonics)) × ((k : ℕ) → k < i → get_or (keys mnemonics) k 0 < key_of word) × ((k : ℕ) → i ≤ k → k < length (keys mnemonics) → key_of word < get_or (keys mnemonics) k 0)
        → (k : ℕ) → k < length (keys mnemonics) → get_or (keys mnemonics) k 0 ≡ key_of word → (k < i) ⊎ (i ≤ k) → ⊥
    by_place found k less same (inl before) = omega (arith, found.1 k before)
    by_place found k less same (inr following) = omega (arith, found.2 k following less)

no_three : (word : List ℕ) → length word ≢ 3 → value_of_spelling word mnemonics ≡ None
no_three word long = beside-other word mnemonics all_three long

abbrev Names : Type 0
Names = List (Mnemonic × OperandUse)

abbrev names : Rows → Names
names rows = map (λ row. (row.1, use_of row.1)) rows

pair_at : (rows : Rows) (i : ℕ) (d : Mnemonic × OperandUse) → i < length rows
    → (slice_get (map (λ row. row.1) rows) i ≡ Some (get_or (names rows) i d).0) × ((get_or (names rows) i d).1 ≡ use_of (get_or (names rows) i d).0)
pair_at [] i d less = absurd (omega arith)
pair_at (row ∷ rows) zero d less = (refl, refl)
pair_at (row ∷ rows) (suc i) d less = pair_at rows i d (omega arith)

-- the row of a number that was found
pub row_found : (operation : List ℕ) (key i : ℕ) (numbers : List ℕ) (all : Names) (d : Mnemonic × OperandUse) → is_three (folded operation) ≡ true → key ≡ key_of (folded operation)
    → numbers ≡ keys mnemonics → all ≡ names mnemonics → IsBinarySearchResult (λ y. nat_cmp y key) numbers (Ok i)
    → (mnemonic_of operation ≡ Some (get_or all i d).0) × ((get_or all i d).1 ≡ use_of (get_or all i d).0)
unfolding mnemonic_of
row_found operation key i numbers all d three is are names_are found =
    let at : IsBinarySearchResult (λ y. nat_cmp y (key_of (folded operation))) (keys mnemonics) (Ok i) =
    subst (λ (k : ℕ). IsBinarySearchResult (λ y. nat_cmp y k) (keys mnemonics) (Ok i)) is (subst (λ (n : List ℕ). IsBinarySearchResult (λ y. nat_cmp y key) n (Ok i)) are found) in
    let place : (i < length (keys mnemonics)) × (get_or (keys mnemonics) i 0 ≡ key_of (folded operation)) = searched (keys mnemonics) (key_of (folded operation)) (Ok i) at ordered in
    let pair = pair_at mnemonics i d (omega (arith, place.0, length-map mnemonics (λ row. key_of row.0))) in
    rw names_are (found_row (folded operation) i three at ∙ pair.0, pair.1)

-- a number that wasn't found
pub row_missing : (operation : List ℕ) (key i : ℕ) (numbers : List ℕ) → key ≡ key_of (folded operation) → numbers ≡ keys mnemonics
    → IsBinarySearchResult (λ y. nat_cmp y key) numbers (Err i) → mnemonic_of operation ≡ None
unfolding mnemonic_of
row_missing operation key i numbers is are missing =
    no_row (folded operation) i (subst (λ (k : ℕ). IsBinarySearchResult (λ y. nat_cmp y k) (keys mnemonics) (Err i)) is
    (subst (λ (n : List ℕ). IsBinarySearchResult (λ y. nat_cmp y key) n (Err i)) are missing))

-- a word that isn't three bytes long
pub row_other : (operation : List ℕ) → length operation ≢ 3 → mnemonic_of operation ≡ None
unfolding mnemonic_of
row_other operation long = no_three (folded operation) (λ e. long (sym (length-map operation Rattle.std.specs.Char.to_ascii_uppercase) ∙ e))
