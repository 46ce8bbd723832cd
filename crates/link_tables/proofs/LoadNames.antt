-- Load names in order of first appearance, and their table.
use Rattle.std.proofs.Common.{◌≡◌, ℕ, zero, suc, ◌+◌, Bool, true, false, not, List, [], ◌∷◌, ◌++◌, length, map, Option, Some, None, refl, sym, ap, subst, ◌∙◌, append-nil, arith}
use Rattle.std.specs.Prelude.{slice_get, filter, ◌||◌, if◌then◌else◌}
use Rattle.std.specs.List.{list_any}
use Rattle.std.specs.Str.{bytes_eq}
use Rattle.std.proofs.lemmas.List.Elements.{filter-append}
use Rattle.std.proofs.lemmas.List.{map-append}
use Rattle.std.proofs.lemmas.Bool.{eq-eqb}
use Rattle.link_meaning.specs.declared.search.SearchStep.TheVariants.{Everyone}
use Rattle.link_meaning.specs.Member.{Member}
use Rattle.link_meaning.specs.Layout.{in_load, distinct, number_in, load_names}
use Rattle.link_tables.specs.Names.{Named, Row, is_row, seen_of, outcome}
use Rattle.link_tables.specs.Offers.{number_of}
use Rattle.link_tables.specs.Laid.{load_rows, contains_text}
use Rattle.link_tables.proofs.NameTables.{bytes_same}

abbrev Text : Type 0
Text = List ℕ

-- ---- bytes

pub bytes_refl : (a : Text) → bytes_eq a a ≡ true
bytes_refl [] = refl
bytes_refl (x ∷ xs) = rw (eq-eqb x x refl) (bytes_refl xs)

pub bytes_sym : (a b : Text) → bytes_eq a b ≡ bytes_eq b a
bytes_sym a b = settle (bytes_eq a b) (bytes_eq b a) refl refl
  where
    settle : (x y : Bool) → bytes_eq a b ≡ x → bytes_eq b a ≡ y → bytes_eq a b ≡ bytes_eq b a
    settle true y p q = let same = bytes_same a b p in ap (bytes_eq a) (sym same) ∙ ap (λ (c : Text). bytes_eq c a) same
    settle false true p q = let same = bytes_same b a q in ap (bytes_eq a) same ∙ ap (λ (c : Text). bytes_eq c a) (sym same)
    settle false false p q = p ∙ sym q

-- ---- what is there

has-filter : (x y : Text) (xs : List Text) → bytes_eq y x ≡ false → contains_text x (filter (λ z. not (bytes_eq z y)) xs) ≡ contains_text x xs
has-filter x y [] other = refl
has-filter x y (z ∷ xs) other = settle (bytes_eq z y) refl (has-filter x y xs other)
  where
    settle : (t : Bool) → bytes_eq z y ≡ t → contains_text x (filter (λ w. not (bytes_eq w y)) xs) ≡ contains_text x xs → contains_text x (if not t then z ∷ filter (λ w. not (bytes_eq w y)) xs else filter (λ w. not (bytes_eq w y)) xs) ≡ (bytes_eq z x || contains_text x xs)
    settle true e rest =
        let same = bytes_same z y e in
        rest ∙ sym (ap (λ (b : Bool). b || contains_text x xs) (ap (λ (w : Text). bytes_eq w x) same ∙ other))
    settle false e rest = ap (λ (b : Bool). bytes_eq z x || b) rest

pub has-distinct : (x : Text) (xs : List Text) → contains_text x (distinct xs) ≡ contains_text x xs
has-distinct x [] = refl
has-distinct x (y ∷ xs) = settle (bytes_eq y x) refl (has-distinct x xs)
  where
    settle : (t : Bool) → bytes_eq y x ≡ t → contains_text x (distinct xs) ≡ contains_text x xs → (bytes_eq y x || contains_text x (filter (λ z. not (bytes_eq z y)) (distinct xs))) ≡ (bytes_eq y x || contains_text x xs)
    settle true e rest = ap (λ (b : Bool). b || contains_text x (filter (λ z. not (bytes_eq z y)) (distinct xs))) e ∙ sym (ap (λ (b : Bool). b || contains_text x xs) e)
    settle false e rest = ap (λ (b : Bool). bytes_eq y x || b) (has-filter x y (distinct xs) e ∙ rest)

-- ---- one more text

abbrev if_new : Text → Bool → List Text
if_new x there = if there then [] else x ∷ []

distinct-snoc : (xs : List Text) (x : Text) → distinct (xs ++ x ∷ []) ≡ distinct xs ++ if_new x (contains_text x (distinct xs))
distinct-snoc [] x = refl
distinct-snoc (y ∷ xs) x =
    let keeps : Text → Bool = λ z. not (bytes_eq z y) in
    ap (λ (l : List Text). y ∷ filter keeps l) (distinct-snoc xs x)
    ∙ ap (λ (l : List Text). y ∷ l) (filter-append keeps (distinct xs) (if_new x (contains_text x (distinct xs))))
    ∙ ap (λ (l : List Text). y ∷ (filter keeps (distinct xs) ++ l)) (settle (bytes_eq y x) refl (contains_text x (distinct xs)) refl)
  where
    settle : (t : Bool) → bytes_eq y x ≡ t → (h : Bool) → contains_text x (distinct xs) ≡ h → filter (λ z. not (bytes_eq z y)) (if_new x h) ≡ if_new x (bytes_eq y x || contains_text x (filter (λ z. not (bytes_eq z y)) (distinct xs)))
    settle true e true there = sym (ap (λ (b : Bool). if_new x (b || contains_text x (filter (λ z. not (bytes_eq z y)) (distinct xs)))) e)
    settle true e false there =
        ap (λ (b : Bool). if not b then x ∷ [] else []) (bytes_sym x y ∙ e)
        ∙ sym (ap (λ (b : Bool). if_new x (b || contains_text x (filter (λ z. not (bytes_eq z y)) (distinct xs)))) e)
    settle false e true there = sym (ap (λ (b : Bool). if_new x (b || contains_text x (filter (λ z. not (bytes_eq z y)) (distinct xs)))) e ∙ ap (if_new x) (has-filter x y (distinct xs) e ∙ there))
    settle false e false there =
        ap (λ (b : Bool). if not b then x ∷ [] else []) (bytes_sym x y ∙ e)
        ∙ sym (ap (λ (b : Bool). if_new x (b || contains_text x (filter (λ z. not (bytes_eq z y)) (distinct xs)))) e ∙ ap (if_new x) (has-filter x y (distinct xs) e ∙ there))

abbrev name_of : Member → Text
name_of m = m.segment.fields.load_name

names-snoc : (list : List Member) (m : Member) → load_names (list ++ m ∷ []) ≡ load_names list ++ if_new (name_of m) (contains_text (name_of m) (load_names list))
unfolding load_names
names-snoc list m = ap distinct (map-append name_of list (m ∷ [])) ∙ distinct-snoc (map name_of list) (name_of m)

pub names_new : (list : List Member) (m : Member) → contains_text (name_of m) (load_names list) ≡ false → load_names (list ++ m ∷ []) ≡ load_names list ++ name_of m ∷ []
names_new list m other = names-snoc list m ∙ ap (λ (b : Bool). load_names list ++ if_new (name_of m) b) other

pub names_same : (list : List Member) (m : Member) → contains_text (name_of m) (load_names list) ≡ true → load_names (list ++ m ∷ []) ≡ load_names list
names_same list m there = names-snoc list m ∙ ap (λ (b : Bool). load_names list ++ if_new (name_of m) b) there ∙ append-nil (load_names list)

pub has_names : (x : Text) (list : List Member) → contains_text x (load_names list) ≡ list_any (in_load x) list
unfolding load_names
has_names x list = has-distinct x (map name_of list) ∙ over list
  where
    over : (list : List Member) → contains_text x (map name_of list) ≡ list_any (in_load x) list
    over [] = refl
    over (m ∷ list) = ap (λ (b : Bool). bytes_eq (name_of m) x || b) (over list)

-- ---- each occurs once

abbrev AllApart : List Text → Type 0
AllApart [] = Unit {0}
AllApart (x ∷ xs) = (contains_text x xs ≡ false) × AllApart xs

has_less : (x : Text) (p : Text → Bool) (xs : List Text) → contains_text x xs ≡ false → contains_text x (filter p xs) ≡ false
has_less x p [] e = refl
has_less x p (y ∷ xs) e = settle (bytes_eq y x) (contains_text x xs) refl refl e (λ r. has_less x p xs r)
  where
    by : (t : Bool) → bytes_eq y x ≡ false → contains_text x (filter p xs) ≡ false → contains_text x (if t then y ∷ filter p xs else filter p xs) ≡ false
    by true q r = ap (λ (b : Bool). b || contains_text x (filter p xs)) q ∙ r
    by false q r = r

    settle : (a b : Bool) → bytes_eq y x ≡ a → contains_text x xs ≡ b → (a || b) ≡ false → (contains_text x xs ≡ false → contains_text x (filter p xs) ≡ false) → contains_text x (filter p (y ∷ xs)) ≡ false
    settle true b q r e go = absurd cc
    settle false true q r e go = absurd cc
    settle false false q r e go = by (p y) q (go r)

filter_apart : (p : Text → Bool) (xs : List Text) → AllApart xs → AllApart (filter p xs)
filter_apart p [] apart = tt
filter_apart p (x ∷ xs) apart = by (p x) (filter_apart p xs apart.1)
  where
    by : (t : Bool) → AllApart (filter p xs) → AllApart (if t then x ∷ filter p xs else filter p xs)
    by true rest = (has_less x p xs apart.0, rest)
    by false rest = rest

has_none : (y : Text) (xs : List Text) → contains_text y (filter (λ z. not (bytes_eq z y)) xs) ≡ false
has_none y [] = refl
has_none y (z ∷ xs) = settle (bytes_eq z y) refl (has_none y xs)
  where
    settle : (t : Bool) → bytes_eq z y ≡ t → contains_text y (filter (λ w. not (bytes_eq w y)) xs) ≡ false → contains_text y (if not t then z ∷ filter (λ w. not (bytes_eq w y)) xs else filter (λ w. not (bytes_eq w y)) xs) ≡ false
    settle true e rest = rest
    settle false e rest = ap (λ (b : Bool). b || contains_text y (filter (λ w. not (bytes_eq w y)) xs)) e ∙ rest

distinct_apart : (xs : List Text) → AllApart (distinct xs)
distinct_apart [] = tt
distinct_apart (y ∷ xs) = (has_none y (distinct xs), filter_apart (λ z. not (bytes_eq z y)) (distinct xs) (distinct_apart xs))

some_same : (a b : Text) → Some a ≡ Some b → a ≡ b
some_same a b e = cc

pub has_at : (xs : List Text) (k : ℕ) (x : Text) → slice_get xs k ≡ Some x → contains_text x xs ≡ true
has_at [] k x e = absurd cc
has_at (y ∷ xs) zero x e = ap (λ (b : Bool). b || contains_text x xs) (ap (bytes_eq y) (sym (some_same y x e)) ∙ bytes_refl y)
has_at (y ∷ xs) (suc k) x e = ap (λ (b : Bool). bytes_eq y x || b) (has_at xs k x e) ∙ or_true (bytes_eq y x)
  where
    or_true : (b : Bool) → (b || true) ≡ true
    or_true true = refl
    or_true false = refl

-- the number of the text at a place
number_at : (xs : List Text) (k : ℕ) (x : Text) → AllApart xs → slice_get xs k ≡ Some x → number_in xs x ≡ k + 1
number_at [] k x apart e = absurd cc
number_at (y ∷ xs) zero x apart e = ap (λ (b : Bool). if b then 1 else 1 + number_in xs x) (ap (bytes_eq y) (sym (some_same y x e)) ∙ bytes_refl y)
number_at (y ∷ xs) (suc k) x apart e =
    let rest = number_at xs k x apart.1 e in
    let other : bytes_eq y x ≡ false = settle (bytes_eq y x) refl in
    ap (λ (b : Bool). if b then 1 else 1 + number_in xs x) other ∙ omega (arith, rest)
  where
    settle : (t : Bool) → bytes_eq y x ≡ t → t ≡ false
    settle true same =
        let clash : false ≡ true = sym apart.0 ∙ ap (λ (z : Text). contains_text z xs) (bytes_same y x same) ∙ has_at xs k x e in
        absurd cc
    settle false other = refl

pub load_number : (list : List Member) (k : ℕ) (x : Text) → slice_get (load_names list) k ≡ Some x → number_in (load_names list) x ≡ k + 1
unfolding load_names
load_number list k x e = number_at (distinct (map name_of list)) k x (distinct_apart (map name_of list)) e

-- more names at the end change no number
pub number_stays : (xs ys : List Text) (x : Text) → contains_text x xs ≡ true → number_in (xs ++ ys) x ≡ number_in xs x
number_stays [] ys x e = absurd cc
number_stays (y ∷ xs) ys x e = settle (bytes_eq y x) e (λ rest. number_stays xs ys x rest)
  where
    settle : (t : Bool) → (t || contains_text x xs) ≡ true → (contains_text x xs ≡ true → number_in (xs ++ ys) x ≡ number_in xs x) → (if t then 1 else 1 + number_in (xs ++ ys) x) ≡ (if t then 1 else 1 + number_in xs x)
    settle true e go = refl
    settle false e go = ap (λ (n : ℕ). 1 + n) (go e)

-- ---- the table

-- no load segment has the name, or the one with this number, from `n`
abbrev pub IsNumber : ℕ → List Text → Text → Option ℕ → Type 0
IsNumber n xs x None = contains_text x xs ≡ false
IsNumber n xs x (Some i) = (k : ℕ) × (i ≡ n + k) × (slice_get xs k ≡ Some x)

abbrev pub name_key : Text → Named
name_key x = record { step = Everyone; name = x }

seen_some : (row : Row) (rows : List Row) → number_of (seen_of (row ∷ rows)) ≡ Some row.1
seen_some row [] = refl
seen_some row (other ∷ rows) = refl

looked_from : (n : ℕ) (xs : List Text) (x : Text) → IsNumber n xs x (number_of (seen_of (filter (is_row (name_key x)) (load_rows n xs))))
looked_from n [] x = refl
looked_from n (y ∷ xs) x = settle (bytes_eq x y) refl (looked_from (n + 1) xs x)
  where
    rest : List Row
    rest = filter (is_row (name_key x)) (load_rows (n + 1) xs)

    further : (o : Option ℕ) → bytes_eq y x ≡ false → IsNumber (n + 1) xs x o → IsNumber n (y ∷ xs) x o
    further None other is = ap (λ (b : Bool). b || contains_text x xs) other ∙ is
    further (Some i) other is = (suc is.0, omega (arith, is.1), is.2)

    settle : (t : Bool) → bytes_eq x y ≡ t → IsNumber (n + 1) xs x (number_of (seen_of rest)) → IsNumber n (y ∷ xs) x (number_of (seen_of (if t then (name_key y, n) ∷ rest else rest)))
    settle true e is =
        let at : Text → Option Text = λ z. Some z in
        subst (IsNumber n (y ∷ xs) x) (sym (seen_some (name_key y, n) rest)) (0, omega arith, ap at (sym (bytes_same x y e)))
    settle false e is = further (number_of (seen_of rest)) (bytes_sym y x ∙ e) is

pub looked : (xs : List Text) (x : Text) → IsNumber 0 xs x (number_of (outcome (load_rows 0 xs) (name_key x)))
looked xs x = looked_from 0 xs x

pub load_rows-snoc : (n : ℕ) (xs : List Text) (x : Text) → load_rows n (xs ++ x ∷ []) ≡ load_rows n xs ++ (name_key x, n + length xs) ∷ []
load_rows-snoc n [] x = let same : n ≡ n + 0 = omega arith in ap (λ (i : ℕ). (name_key x, i) ∷ []) same
load_rows-snoc n (y ∷ xs) x =
    let same : n + 1 + length xs ≡ n + suc (length xs) = omega arith in
    ap (λ (l : List Row). (name_key y, n) ∷ l) (load_rows-snoc (n + 1) xs x ∙ ap (λ (i : ℕ). load_rows (n + 1) xs ++ (name_key x, i) ∷ []) same)
