-- Sets of keys that are looked up.
use Rattle.std.proofs.Common.{◌≡◌, ◌<◌, ◌+◌, ℕ, Bool, true, false, List, [], ◌∷◌, ◌++◌, length, take, get_or, map, refl, sym, ap, subst, ◌∙◌}
use Rattle.std.proofs.lemmas.List.{take_more}
use Rattle.std.specs.Prelude.{◌||◌, nat_eq, if◌then◌else◌}
use Rattle.std.specs.List.{list_any}
use Rattle.std.proofs.Math.Bool.{beq}
use Rattle.std.specs.Str.{bytes_eq}
use Rattle.std.proofs.lemmas.Bool.{and_parts, eqb-true}
use Rattle.indexmap.specs.IndexSet.{insert_key}
use Rattle.lib_dict.specs.declared.listed.Outer.{Outer}
use Rattle.lib_dict.specs.Library.{LibraryRow}
use Rattle.lib_dict.specs.View.{outer_row}
use Rattle.lib_dict.specs.Tables.{same_row, SameNumbers, HoldsRows}

or_assoc : (a b c : Bool) → ((a || b) || c) ≡ (a || (b || c))
or_assoc true b c = refl
or_assoc false b c = refl

pub or_false : (a : Bool) → (a || false) ≡ a
or_false true = refl
or_false false = refl

pub list_any-append : {T : Type 0} (P : T → Bool) (xs ys : List T) → list_any P (xs ++ ys) ≡ (list_any P xs || list_any P ys)
list_any-append P [] ys = refl
list_any-append P (x ∷ xs) ys = ap (λ (b : Bool). P x || b) (list_any-append P xs ys) ∙ sym (or_assoc (P x) (list_any P xs) (list_any P ys))

-- where a key is there already, adding it changes nothing for a test that doesn't distinguish equal keys
known_key : {T : Type 0} (eq : T → T → Bool) (P : T → Bool) (k : T) (ks : List T) → ((x : T) → eq k x ≡ true → P x ≡ P k) → list_any (eq k) ks ≡ true
    → (list_any P ks || P k) ≡ list_any P ks
known_key eq P k [] same e = absurd cc
known_key {T = T} eq P k (x ∷ ks) same e = by_first (eq k x) refl e (known_key eq P k ks same)
  where
    head : (a b c : Bool) → a ≡ c → ((a || b) || c) ≡ (a || b)
    head true b c e = refl
    head false b c e = ap (λ (d : Bool). b || d) (sym e) ∙ or_false b

    by_first : (b : Bool) → b ≡ eq k x → (b || list_any (eq k) ks) ≡ true → (list_any (eq k) ks ≡ true → (list_any P ks || P k) ≡ list_any P ks)
        → ((P x || list_any P ks) || P k) ≡ (P x || list_any P ks)
    by_first true is e go = head (P x) (list_any P ks) (P k) (same x (sym is))
    by_first false is e go = or_assoc (P x) (list_any P ks) (P k) ∙ ap (λ (b : Bool). P x || b) (go e)

-- what a test says of the keys after a key was put in
pub list_any-insert_key : {T : Type 0} (eq : T → T → Bool) (P : T → Bool) (k : T) (ks : List T) → ((x : T) → eq k x ≡ true → P x ≡ P k)
    → list_any P (insert_key eq ks k) ≡ (list_any P ks || P k)
list_any-insert_key eq P k ks same = by_known (list_any (eq k) ks) refl
  where
    by_known : (b : Bool) → b ≡ list_any (eq k) ks → list_any P (if b then ks else ks ++ k ∷ []) ≡ (list_any P ks || P k)
    by_known true is = sym (known_key eq P k ks same (sym is))
    by_known false is = list_any-append P ks (k ∷ []) ∙ ap (λ (b : Bool). list_any P ks || b) (or_false (P k))

-- ---- numbers

-- a number more on both sides
pub numbers-insert : (keys numbers new : List ℕ) (n : ℕ) → SameNumbers keys numbers → new ≡ insert_key nat_eq keys n → SameNumbers new (numbers ++ n ∷ [])
numbers-insert keys numbers new n same is = record {
  each = λ q.
      ap (list_any (nat_eq q)) is
      ∙ list_any-insert_key nat_eq (nat_eq q) n keys (λ x e. ap (nat_eq q) (sym (eqb-true n x e)))
      ∙ ap (λ (b : Bool). b || nat_eq q n) (same.each q)
      ∙ sym (list_any-append (nat_eq q) numbers (n ∷ []) ∙ ap (λ (b : Bool). list_any (nat_eq q) numbers || b) (or_false (nat_eq q n)));
}

-- ---- rows

pub list_any-map : {A B : Type 0} (P : B → Bool) (f : A → B) (xs : List A) → list_any P (map f xs) ≡ list_any (λ x. P (f x)) xs
list_any-map P f [] = refl
list_any-map P f (x ∷ xs) = ap (λ (b : Bool). P (f x) || b) (list_any-map P f xs)

bytes_same : (a b : List ℕ) → bytes_eq a b ≡ true → a ≡ b
bytes_same [] [] e = refl
bytes_same [] (y ∷ b) e = absurd cc
bytes_same (x ∷ a) [] e = absurd cc
bytes_same (x ∷ a) (y ∷ b) e =
    let both = and_parts (nat_eq x y) (bytes_eq a b) e in
    ap (λ (z : ℕ). z ∷ a) (eqb-true x y both.0) ∙ ap (λ (l : List ℕ). y ∷ l) (bytes_same a b both.1)

flags_same : (a b : Bool) → beq a b ≡ true → a ≡ b
flags_same true true e = refl
flags_same false false e = refl
flags_same true false e = absurd cc
flags_same false true e = absurd cc

pub row_same : (a b : LibraryRow) → same_row a b ≡ true → a ≡ b
row_same a b e =
    let p = and_parts (bytes_eq a.name b.name) _ e in
    let q = and_parts (nat_eq a.file b.file) _ p.1 in
    let r = and_parts (beq a.private b.private) _ q.1 in
    ap (λ (n : List ℕ). made n a.file a.private a.at) (bytes_same a.name b.name p.0)
    ∙ ap (λ (n : ℕ). made b.name n a.private a.at) (eqb-true a.file b.file q.0)
    ∙ ap (λ (n : Bool). made b.name b.file n a.at) (flags_same a.private b.private r.0)
    ∙ ap (λ (n : ℕ). made b.name b.file b.private n) (eqb-true a.at b.at r.1)
  where
    made : List ℕ → ℕ → Bool → ℕ → LibraryRow
    made name file private at = record { name = name; file = file; private = private; at = at }

abbrev same_outer : Outer → Outer → Bool
same_outer a b = same_row (outer_row a) (outer_row b)

-- a row more on both sides
pub rows-insert : (keys rows new : List Outer) (o : Outer) → HoldsRows (map outer_row keys) (map outer_row rows) → new ≡ insert_key same_outer keys o
    → HoldsRows (map outer_row new) (map outer_row (rows ++ o ∷ []))
rows-insert keys rows new o same is = record { each = λ q. step q }
  where
    step : (q : LibraryRow) → list_any (same_row q) (map outer_row new) ≡ list_any (same_row q) (map outer_row (rows ++ o ∷ []))
    step q =
        let P : Outer → Bool = λ x. same_row q (outer_row x) in
        list_any-map (same_row q) outer_row new
        ∙ ap (list_any P) is
        ∙ list_any-insert_key same_outer P o keys (λ x e. ap (same_row q) (sym (row_same (outer_row o) (outer_row x) e)))
        ∙ ap (λ (b : Bool). b || P o) (sym (list_any-map (same_row q) outer_row keys) ∙ same.each q ∙ list_any-map (same_row q) outer_row rows)
        ∙ sym (list_any-map (same_row q) outer_row (rows ++ o ∷ []) ∙ list_any-append P rows (o ∷ []) ∙ ap (λ (b : Bool). list_any P rows || b) (or_false (P o)))

-- a look-up among the keys
pub look_up : (keys : List Outer) (o : Outer) → list_any (same_outer o) keys ≡ list_any (same_row (outer_row o)) (map outer_row keys)
look_up keys o = sym (list_any-map (same_row (outer_row o)) outer_row keys)

-- one step of the loop that puts rows into a set
pub rows-step : (items seen : List Outer) (i : ℕ) (d : Outer) (keys new : List Outer) → i < length items → seen ≡ items → HoldsRows (map outer_row keys) (map outer_row (take i items))
    → new ≡ insert_key same_outer keys (get_or seen i d) → HoldsRows (map outer_row new) (map outer_row (take (i + 1) items))
rows-step items seen i d keys new lt same holds is =
    let here : new ≡ insert_key same_outer keys (get_or items i d) = is ∙ ap (λ (l : List Outer). insert_key same_outer keys (get_or l i d)) same in
    subst (λ (l : List Outer). HoldsRows (map outer_row new) (map outer_row l)) (sym (take_more items i d lt)) (rows-insert keys (take i items) new (get_or items i d) holds here)
