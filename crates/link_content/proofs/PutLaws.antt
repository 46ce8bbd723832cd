-- Entries of targets.
use Rattle.std.proofs.Common.{◌≡◌, ℕ, zero, suc, ◌+◌, ◌≤◌, Bool, true, false, cond, leb, take, List, [], ◌∷◌, ◌++◌, length, Some, None, Ok, Err, refl, sym, ap, ◌∙◌, arith}
use Rattle.link_meaning.specs.laws.Steps.{entry_of}
use Rattle.std.specs.Prelude.{◌&&◌, ◌||◌, ◌==◌, not, unwrap_or, nat_lt}
use Rattle.std.specs.List.{list_any, position_or_len}
use Rattle.std.proofs.lemmas.Bool.{and_parts, eqb-true, eq-eqb, lt-ltb, ltb-false, leb-true}
use Rattle.std.proofs.lemmas.List.{length-append}
use Rattle.std.proofs.lemmas.Option.{slice_get_within}
use Rattle.byteorder.specs.Endian.{little_bytes}
use Rattle.omf_format.specs.Field.{is_count}
use Rattle.load_meaning.specs.declared.table.Target.{Target}
use Rattle.load_meaning.specs.Table.{is_same, with_target, IsAtPlace, AreDistinct, most_entries}
use Rattle.link_meaning.specs.declared.fault.LinkCause.TheVariants.{TooManyEntries}
use Rattle.link_meaning.specs.Fitting as meaning
use Rattle.link_content.specs.Fits.{with_room}

same_self : (t : Target) → is_same t t ≡ true
same_self t = all (t.file == t.file) (t.segment == t.segment) (t.offset == t.offset) (eq-eqb t.file t.file refl) (eq-eqb t.segment t.segment refl) (eq-eqb t.offset t.offset refl)
  where
    all : (a b c : Bool) → a ≡ true → b ≡ true → c ≡ true → (a && (b && c)) ≡ true
    all a b c p q r = rw (p, q, r) refl

abbrev target : ℕ → ℕ → ℕ → Target
target file segment offset = record { file = file; segment = segment; offset = offset }

same_is : (a b : Target) → is_same a b ≡ true → a ≡ b
same_is a b e =
    let first = and_parts (a.file == b.file) (a.segment == b.segment && a.offset == b.offset) e in
    let rest = and_parts (a.segment == b.segment) (a.offset == b.offset) first.1 in
    ap (λ (n : ℕ). target n a.segment a.offset) (eqb-true a.file b.file first.0)
    ∙ ap (λ (n : ℕ). target b.file n a.offset) (eqb-true a.segment b.segment rest.0)
    ∙ ap (target b.file b.segment) (eqb-true a.offset b.offset rest.1)

distinct_rest : (x : Target) (xs : List Target) → AreDistinct (x ∷ xs) → AreDistinct xs
distinct_rest x xs distinct i j t p q = omega (arith, distinct (suc i) (suc j) t p q)

-- the place of a target is the first one at which it is found
first_there : (xs : List Target) (t : Target) (k : ℕ) → AreDistinct xs → IsAtPlace xs t k → position_or_len (is_same t) xs ≡ k
first_there [] t k distinct there = absurd cc
first_there (x ∷ xs) t zero distinct there =
    let same : x ≡ t = cc in
    let yes : is_same t x ≡ true = ap (is_same t) same ∙ same_self t in
    ap (λ (b : Bool). cond (not b) (1 + position_or_len (is_same t) xs) 0) yes
first_there (x ∷ xs) t (suc k) distinct there = by_test (is_same t x) refl (first_there xs t k (distinct_rest x xs distinct) there)
  where
    by_test : (b : Bool) → is_same t x ≡ b → position_or_len (is_same t) xs ≡ k → cond (not b) (1 + position_or_len (is_same t) xs) 0 ≡ suc k
    by_test true e more =
        let at_front : IsAtPlace (x ∷ xs) t 0 = ap (λ (y : Target). Some y) (sym (same_is t x e)) in
        absurd (omega (arith, distinct 0 (suc k) t at_front there))
    by_test false e more = omega (arith, more)

pub entry_at : (xs : List Target) (t : Target) (k : ℕ) → AreDistinct xs → IsAtPlace xs t k → entry_of xs t ≡ k
entry_at xs t k distinct there =
    let first = first_there xs t k distinct there in
    let within : nat_lt k (length xs) ≡ true = lt-ltb k (length xs) (slice_get_within xs k t there) in
    ap (λ (n : ℕ). unwrap_or (cond (nat_lt n (length xs)) (Some n) None) (length xs)) first
    ∙ ap (λ (b : Bool). unwrap_or (cond b (Some k) None) (length xs)) within

-- what isn't at any place isn't there
nowhere : (xs : List Target) (t : Target) → ((k : ℕ) → ¬ IsAtPlace xs t k) → list_any (is_same t) xs ≡ false
nowhere [] t none = refl
nowhere (x ∷ xs) t none = by_test (is_same t x) refl (nowhere xs t (λ k there. none (suc k) there))
  where
    by_test : (b : Bool) → is_same t x ≡ b → list_any (is_same t) xs ≡ false → (b || list_any (is_same t) xs) ≡ false
    by_test true e more = absurd (none 0 (ap (λ (y : Target). Some y) (sym (same_is t x e))))
    by_test false e more = more

pub lacks_room : (xs : List Target) (t : Target) → length xs ≡ most_entries → ((k : ℕ) → ¬ IsAtPlace xs t k) → with_room xs (meaning.Entry t) ≡ Err TooManyEntries
lacks_room xs t full none =
    let gone = nowhere xs t none in
    rw (gone, full) refl

somewhere : (xs : List Target) (t : Target) (k : ℕ) → IsAtPlace xs t k → list_any (is_same t) xs ≡ true
somewhere [] t k there = absurd cc
somewhere (x ∷ xs) t zero there = let is : x ≡ t = cc in rw (is, same_self t) refl
somewhere (x ∷ xs) t (suc k) there = or_true (is_same t x) (list_any (is_same t) xs) (somewhere xs t k there)
  where
    or_true : (a b : Bool) → b ≡ true → (a || b) ≡ true
    or_true true b e = refl
    or_true false b e = e

-- where a target lacks room, the table is full, and the target isn't there
pub is_full : (xs : List Target) (t : Target) → with_room xs (meaning.Entry t) ≡ Err TooManyEntries → length xs ≤ most_entries → (length xs ≡ most_entries) × ((k : ℕ) → ¬ IsAtPlace xs t k)
is_full xs t lacks few = by_test (list_any (is_same t) xs) (nat_lt (length xs) most_entries) refl refl lacks
  where
    by_test : (a b : Bool) → list_any (is_same t) xs ≡ a → nat_lt (length xs) most_entries ≡ b → cond (not (a || b)) (Err TooManyEntries) (Ok (meaning.Entry t)) ≡ Err TooManyEntries
        → (length xs ≡ most_entries) × ((k : ℕ) → ¬ IsAtPlace xs t k)
    by_test true b has less e = absurd cc
    by_test false true has less e = absurd cc
    by_test false false has less e = (omega (arith, few, ltb-false (length xs) most_entries less), λ k there. absurd (cc (somewhere xs t k there, has)))

-- a target that was entered had room
pub entered_room : (old new : List Target) (t : Target) → new ≡ with_target old t → length new ≤ most_entries → with_room old (meaning.Entry t) ≡ Ok (meaning.Entry t)
entered_room old new t entered few = by_test (list_any (is_same t) old) (ap length entered)
  where
    by_test : (b : Bool) → length new ≡ length (cond b old (old ++ t ∷ [])) → cond (not (b || nat_lt (length old) most_entries)) (Err TooManyEntries) (Ok (meaning.Entry t)) ≡ Ok (meaning.Entry t)
    by_test true size = refl
    by_test false size = rw (lt-ltb (length old) most_entries (omega (arith, size, few, length-append old (t ∷ [])))) refl

-- the low bytes of a number
pub take_little : (count n : ℕ) → is_count count ≡ true → take count (little_bytes 4 n) ≡ little_bytes count n
take_little zero n e = absurd cc
take_little (suc zero) n e = refl
take_little (suc (suc zero)) n e = refl
take_little (suc (suc (suc zero))) n e = refl
take_little (suc (suc (suc (suc zero)))) n e = refl
take_little (suc (suc (suc (suc (suc k))))) n e = absurd (omega (arith, leb-true _ _ (and_parts (leb 1 (suc (suc (suc (suc (suc k)))))) (leb (suc (suc (suc (suc (suc k))))) 4) e).1))

pub count_le : (count : ℕ) → is_count count ≡ true → count ≤ 4
count_le count e = leb-true _ _ (and_parts (leb 1 count) (leb count 4) e).1
