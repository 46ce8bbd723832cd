-- Names in sets, and names in upper case.
use Rattle.std.proofs.Common.{◌≡◌, ℕ, ◌≤◌, ◌-◌, Bool, true, false, cond, eqb, ltb, leb, List, [], ◌∷◌, length, Some, refl, sym, ap, subst, ◌∙◌, arith}
use Rattle.std.specs.Prelude.{◌&&◌, ◌||◌, ◌==◌, nat_le, bytes_eq, is_some}
use Rattle.std.specs.Borrow.{Bor}
use Rattle.std.specs.Char.{to_ascii_uppercase}
use Rattle.std.specs.List.{list_all}
use Rattle.std.specs.Cmp.Lexicographic.{bytes_decides, nat_list_eq_equiv}
use Rattle.std.specs.Map.{IsKeyTest, AreApart, KeepsOthers, lookup}
use Rattle.std.proofs.lemmas.Bool.{eq-eqb, ne_eqb, leb-true, le-leb, lt-leb, ltb-true, ltb-false, lt-ltb, le-ltb}
use Rattle.indexmap.specs.IndexMap.{IndexMap, UpdatesBy}
use Rattle.orca_meaning.specs.Characters.{is_name_start, is_name_byte, is_name, folded}
use Rattle.list_meaning.specs.Listing.{is_listable, is_among}
use Rattle.list_lines.specs.NamesView.{is_upper_start, is_upper}

-- ---- sets

apart : (bs cs ks : List ℕ) → bytes_eq bs cs ≡ false → bytes_eq bs ks ≡ true → bytes_eq cs ks ≡ false
apart bs cs ks n y = nat_list_eq_equiv.symm cs ks ∙ sym (nat_list_eq_equiv.congr bs ks cs y) ∙ n

others : {K X : Type 0} (eq : K → K → Bool) (test : K → Bool) (old new : List (K × X)) → KeepsOthers eq test old new → (other : K → Bool) → IsKeyTest eq other → AreApart test other → lookup other new ≡ lookup other old
unfolding KeepsOthers
others eq test old new h = h

abbrev found : {V S : Type 0} → IndexMap (Bor (List ℕ)) V S → List ℕ → Bool
found m q = is_some (lookup (λ k. bytes_eq q k.now) m.entries)

found_added : {S : Type 0} (name : List ℕ) (m n : IndexMap (Bor (List ℕ)) Bool S) → UpdatesBy (λ x y. bytes_eq x.now y.now) (λ k. bytes_eq name k.now) m n (Some true)
    → (q : List ℕ) → found n q ≡ (bytes_eq q name || found m q)
found_added name m n h q = by_test (bytes_eq name q) refl
  where
    by_test : (b : Bool) → bytes_eq name q ≡ b → found n q ≡ (bytes_eq q name || found m q)
    by_test true is =
        let same : found n q ≡ true = subst (λ (l : List ℕ). found n l ≡ true) ((bytes_decides name q).0 is) (ap is_some h.1) in
        same ∙ sym (ap (λ (b : Bool). b || found m q) (nat_list_eq_equiv.symm q name ∙ is))
    by_test false is =
        ap is_some (others (λ x y. bytes_eq x.now y.now) (λ k. bytes_eq name k.now) m.entries n.entries h.3 (λ k. bytes_eq q k.now) (λ x y. nat_list_eq_equiv.congr q x.now y.now) (λ k. apart name q k.now is))
        ∙ sym (ap (λ (b : Bool). b || found m q) (nat_list_eq_equiv.symm q name ∙ is))

-- one more name is there
pub name_added : {S : Type 0} (name : List ℕ) (m n : IndexMap (Bor (List ℕ)) Bool S) → UpdatesBy (λ x y. bytes_eq x.now y.now) (λ k. bytes_eq name k.now) m n (Some true)
    → (all : List (List ℕ)) → ((q : List ℕ) → found m q ≡ is_among all q) → (q : List ℕ) → found n q ≡ is_among (name ∷ all) q
name_added name m n h all are q = found_added name m n h q ∙ ap (λ (b : Bool). bytes_eq q name || b) (are q)

-- ---- upper case

abbrev is_small : ℕ → Bool
is_small b = nat_le 0x61 b && nat_le b 0x7A

stays : (b : ℕ) → is_small b ≡ false → to_ascii_uppercase b ≡ b
stays b not = by (ltb b 97) (ltb b 123) refl refl
  where
    by : (x y : Bool) → ltb b 97 ≡ x → ltb b 123 ≡ y → cond x b (cond y (b - 32) b) ≡ b
    by true y p q = refl
    by false false p q = refl
    by false true p q =
        let is : is_small b ≡ true = rw (le-leb 0x61 b (ltb-false b 97 p), le-leb b 0x7A (omega (arith, ltb-true b 123 q))) refl in
        let clash : true ≡ false = sym is ∙ not in absurd cc

record Small (b : ℕ) : Type 0 where
  low : 97 ≤ b
  high : b ≤ 122

small_of : (b : ℕ) → is_small b ≡ true → Small b
small_of b is = by (nat_le 0x61 b) (nat_le b 0x7A) refl refl is
  where
    by : (x y : Bool) → leb 0x61 b ≡ x → leb b 0x7A ≡ y → (x && y) ≡ true → Small b
    by true true p q e = record { low = leb-true 0x61 b p; high = leb-true b 0x7A q }
    by true false p q e = absurd cc
    by false y p q e = absurd cc

changes : (b : ℕ) → Small b → eqb (to_ascii_uppercase b) b ≡ false
changes b is = rw (le-ltb b 97 is.low, lt-ltb b 123 (omega (arith, is.high))) (ne_eqb (b - 32) b (λ e. omega (arith, e, is.low)))

no_upper : (b : ℕ) → Small b → is_upper_start b ≡ false
no_upper b is =
    let a : leb b 0x5A ≡ false = lt-leb b 0x5A (omega (arith, is.low)) in
    let c : eqb b 0x5F ≡ false = ne_eqb b 0x5F (λ e. omega (arith, e, is.low)) in
    let d : eqb b 0x7E ≡ false = ne_eqb b 0x7E (λ e. omega (arith, e, is.high)) in
    rw (a, c, d) (and_false (leb 0x41 b))
  where
    and_false : (x : Bool) → (((x && false) || false) || false) ≡ false
    and_false true = refl
    and_false false = refl

no_digit : (b : ℕ) → Small b → (nat_le 0x30 b && nat_le b 0x39) ≡ false
no_digit b is = rw (lt-leb b 0x39 (omega (arith, is.low))) (and_false (leb 0x30 b))
  where
    and_false : (x : Bool) → (x && false) ≡ false
    and_false true = refl
    and_false false = refl

start_is : (b : ℕ) → is_small b ≡ false → is_name_start b ≡ is_upper_start b
start_is b not = ap (λ (x : Bool). (((nat_le 0x41 b && nat_le b 0x5A) || x) || b == 0x5F) || b == 0x7E) not ∙ ap (λ (x : Bool). (x || b == 0x5F) || b == 0x7E) (or_false (nat_le 0x41 b && nat_le b 0x5A))
  where
    or_false : (x : Bool) → (x || false) ≡ x
    or_false true = refl
    or_false false = refl

and_true : (x : Bool) → (x && true) ≡ x
and_true true = refl
and_true false = refl

and_false : (x : Bool) → (x && false) ≡ false
and_false true = refl
and_false false = refl

same_upper : (b : ℕ) → is_small b ≡ false → eqb (to_ascii_uppercase b) b ≡ true
same_upper b not = eq-eqb (to_ascii_uppercase b) b (stays b not)

start_same : (b : ℕ) → (is_name_start b && eqb (to_ascii_uppercase b) b) ≡ is_upper_start b
start_same b = by (is_small b) refl
  where
    by : (x : Bool) → is_small b ≡ x → (is_name_start b && eqb (to_ascii_uppercase b) b) ≡ is_upper_start b
    by true is = ap (λ (x : Bool). is_name_start b && x) (changes b (small_of b is)) ∙ and_false (is_name_start b) ∙ sym (no_upper b (small_of b is))
    by false not = ap (λ (x : Bool). is_name_start b && x) (same_upper b not) ∙ and_true (is_name_start b) ∙ start_is b not

byte_same : (b : ℕ) → (is_name_byte b && eqb (to_ascii_uppercase b) b) ≡ is_upper b
byte_same b = by (is_small b) refl
  where
    by : (x : Bool) → is_small b ≡ x → (is_name_byte b && eqb (to_ascii_uppercase b) b) ≡ is_upper b
    by true is =
        ap (λ (x : Bool). is_name_byte b && x) (changes b (small_of b is)) ∙ and_false (is_name_byte b)
        ∙ sym (ap (λ (x : Bool). x || (nat_le 0x30 b && nat_le b 0x39)) (no_upper b (small_of b is)) ∙ no_digit b (small_of b is))
    by false not =
        ap (λ (x : Bool). is_name_byte b && x) (same_upper b not) ∙ and_true (is_name_byte b) ∙ ap (λ (x : Bool). x || (nat_le 0x30 b && nat_le b 0x39)) (start_is b not)

regroup : (a b c d : Bool) → ((a && b) && (c && d)) ≡ ((a && c) && (b && d))
regroup true true c d = refl
regroup true false true d = refl
regroup true false false d = refl
regroup false b c d = refl

all_same : (bs : List ℕ) → (list_all is_name_byte bs && bytes_eq (folded bs) bs) ≡ list_all is_upper bs
all_same [] = refl
all_same (b ∷ bs) =
    regroup (is_name_byte b) (list_all is_name_byte bs) (eqb (to_ascii_uppercase b) b) (bytes_eq (folded bs) bs)
    ∙ ap (λ (x : Bool). x && (list_all is_name_byte bs && bytes_eq (folded bs) bs)) (byte_same b)
    ∙ ap (λ (x : Bool). is_upper b && x) (all_same bs)

listable_is : (first : ℕ) (following : List ℕ) → is_listable (first ∷ following) ≡ (is_upper_start first && list_all is_upper following)
unfolding is_name
listable_is first following =
    regroup (is_name_start first) (list_all is_name_byte following) (eqb (to_ascii_uppercase first) first) (bytes_eq (folded following) following)
    ∙ ap (λ (x : Bool). x && (list_all is_name_byte following && bytes_eq (folded following) following)) (start_same first)
    ∙ ap (λ (x : Bool). is_upper_start first && x) (all_same following)

pub listable_split : (name following : List ℕ) (first : ℕ) → name ≡ first ∷ following → is_listable name ≡ (is_upper_start first && list_all is_upper following)
listable_split name following first is = ap is_listable is ∙ listable_is first following

pub not_listable : (name : List ℕ) → length name ≡ 0 → is_listable name ≡ false
unfolding is_name
not_listable [] none = refl
not_listable (byte ∷ name) none = absurd (omega (arith, none))
