-- Items that commas separate, of which each has an answer.
use Rattle.std.proofs.Common.{◌≡◌, ◌≢◌, ℕ, ◌<◌, ◌≤◌, Bool, true, false, cond, ltb, List, [], ◌∷◌, ◌++◌, length, map, Option, Some, None, Ok, Err, refl, sym, ap, subst, ◌∙◌, append_assoc, append-nil, arith}
use Rattle.std.specs.Prelude.{Result}
use Rattle.std.proofs.lemmas.Bool.{ltb-true, ltb-false, lt-ltb, le-ltb}
use Rattle.std.proofs.lemmas.List.{map-append}
use Rattle.asm_meaning.specs.declared.faults.AsmCause.{AsmCause}
use Rattle.asm_meaning.specs.Answer.{Answer, rank, earlier, pair_or_earlier_fault, all_of}
use Rattle.asm_meaning.specs.laws.Steps.{with_first}
use Rattle.orca_operands.specs.DcView.{map_answer, fault_after, all_following, all_or}

-- ---- the earliest fault

pick : (a b : AsmCause) (t : Bool) → ltb (rank b) (rank a) ≡ t → earlier a b ≡ cond t b a
pick a b t is = rw is refl

earlier_assoc : (a b c : AsmCause) → earlier (earlier a b) c ≡ earlier a (earlier b c)
earlier_assoc a b c = by_tests (ltb (rank b) (rank a)) (ltb (rank c) (rank b)) (ltb (rank c) (rank a)) refl refl refl
  where
    by_tests : (x y z : Bool) → ltb (rank b) (rank a) ≡ x → ltb (rank c) (rank b) ≡ y → ltb (rank c) (rank a) ≡ z → earlier (earlier a b) c ≡ earlier a (earlier b c)
    by_tests true true z p q r =
        let less : ltb (rank c) (rank a) ≡ true = lt-ltb (rank c) (rank a) (omega (arith, ltb-true (rank b) (rank a) p, ltb-true (rank c) (rank b) q)) in
        ap (λ (x : AsmCause). earlier x c) (pick a b true p) ∙ pick b c true q ∙ sym (ap (earlier a) (pick b c true q) ∙ pick a c true less)
    by_tests true false z p q r = ap (λ (x : AsmCause). earlier x c) (pick a b true p) ∙ pick b c false q ∙ sym (ap (earlier a) (pick b c false q) ∙ pick a b true p)
    by_tests false true true p q r = ap (λ (x : AsmCause). earlier x c) (pick a b false p) ∙ pick a c true r ∙ sym (ap (earlier a) (pick b c true q) ∙ pick a c true r)
    by_tests false true false p q r = ap (λ (x : AsmCause). earlier x c) (pick a b false p) ∙ pick a c false r ∙ sym (ap (earlier a) (pick b c true q) ∙ pick a c false r)
    by_tests false false z p q r =
        let most : ltb (rank c) (rank a) ≡ false = le-ltb (rank c) (rank a) (omega (arith, ltb-false (rank b) (rank a) p, ltb-false (rank c) (rank b) q)) in
        ap (λ (x : AsmCause). earlier x c) (pick a b false p) ∙ pick a c false most ∙ sym (ap (earlier a) (pick b c false q) ∙ pick a b false p)

-- what was given so far, and what still follows
pub with_rest : {B : Type 0} → Option AsmCause → List B → Answer (List B) → Answer (List B)
with_rest None out (Ok bs) = Ok (out ++ bs)
with_rest None out (Err cause) = Err cause
with_rest (Some before) out (Ok bs) = Err before
with_rest (Some before) out (Err cause) = Err (earlier before cause)

abbrev list : {B : Type 0} → List B → Answer (List B)
list x = Ok x

abbrev bad : {B : Type 0} → AsmCause → Answer (List B)
bad cause = Err cause

-- one more answer
pub rest_more : {T B : Type 0} (v : T → B) (fault : Option AsmCause) (out : List T) (r : Result T AsmCause) (more : Answer (List B))
    → with_rest (fault_after fault r) (map v (all_following out r)) more ≡ with_rest fault (map v out) (with_first (pair_or_earlier_fault (map_answer v r) more))
unfolding with_rest
rest_more v None out (Ok x) (Ok bs) = ap list (ap (λ l. l ++ bs) (map-append v out (x ∷ [])) ∙ append_assoc (map v out) (v x ∷ []) bs)
rest_more v None out (Ok x) (Err cause) = refl
rest_more v None out (Err cause) (Ok bs) = refl
rest_more v None out (Err cause) (Err other) = refl
rest_more v (Some before) out (Ok x) (Ok bs) = refl
rest_more v (Some before) out (Ok x) (Err cause) = refl
rest_more v (Some before) out (Err cause) (Ok bs) = refl
rest_more v (Some before) out (Err cause) (Err other) = ap bad (earlier_assoc before cause other)

pub rest_nothing : {B : Type 0} (more : Answer (List B)) → with_rest None [] more ≡ more
unfolding with_rest
rest_nothing (Ok bs) = refl
rest_nothing (Err cause) = refl

rest_none : {B : Type 0} (fault : Option AsmCause) (out : List B) → with_rest fault out (Ok []) ≡ all_or fault out
unfolding with_rest
rest_none None out = ap list (append-nil out)
rest_none (Some cause) out = refl

pub all_mapped : {T B : Type 0} (v : T → B) (fault : Option AsmCause) (out : List T) → with_rest fault (map v out) (Ok []) ≡ all_or fault (map v out)
all_mapped v fault out = rest_none fault (map v out)

-- ---- items

-- the items, one at least, that commas separate in a text
abbrev pub AreItems : {A : Type 0} → (List ℕ → A → List ℕ → Type 0) → List ℕ → List A → Type 0
AreItems At text [] = ⊥
AreItems At text (a ∷ []) = At text a []
AreItems At text (a ∷ next ∷ as') = (following : List ℕ) × At text a (0x2C ∷ following) × AreItems At following (next ∷ as')

-- items at the start of one text leave the same rest
abbrev pub IsOnce : {A : Type 0} → (List ℕ → A → List ℕ → Type 0) → Type 0
IsOnce {A = A} At = (text : List ℕ) (a b : A) (r s : List ℕ) → At text a r → At text b s → r ≡ s

-- some items were read, and others are left
pub record Gathers {A B : Type 0} (At : List ℕ → A → List ℕ → Type 0) (f : A → Answer B) (text : List ℕ) (fault : Option AsmCause) (out : List B) (left : List ℕ) : Type 0 where
  pub makes : (a : A) (as' : List A) → AreItems At left (a ∷ as') → (all : List A) × AreItems At text all × (with_rest fault out (all_of f (a ∷ as')) ≡ all_of f all)
  pub only : (all : List A) → AreItems At text all → (as' : List A) × AreItems At left as'
  pub short : length left ≤ length text

pub gathers_nothing : {A B : Type 0} (At : List ℕ → A → List ℕ → Type 0) (f : A → Answer B) (text : List ℕ) → Gathers At f text None [] text
gathers_nothing At f text = record {
  makes = λ a as' are. (a ∷ as', are, rest_nothing (all_of f (a ∷ as')));
  only = λ all are. (all, are);
  short = omega arith;
}

same_after : (r s : List ℕ) → 0x2C ∷ r ≡ 0x2C ∷ s → r ≡ s
same_after r s e = cc

-- one more
pub gathers_more : {A B T : Type 0} (At : List ℕ → A → List ℕ → Type 0) (f : A → Answer B) (v : T → B) (once : IsOnce At) (text : List ℕ) (fault fault' : Option AsmCause) (out new : List T) (r : Result T AsmCause) (left rest following : List ℕ) (a : A)
    → Gathers At f text fault (map v out) left → At left a rest → map_answer v r ≡ f a → fault' ≡ fault_after fault r → new ≡ all_following out r → rest ≡ 0x2C ∷ following → length following < length left
    → Gathers At f text fault' (map v new) following
gathers_more {A = A} {B = B} {T = T} At f v once text fault fault' out new r left rest following a g is answer reported all' comma less =
    let here : At left a (0x2C ∷ following) = subst (At left a) comma is in
    record {
      makes = λ b bs are. next here b bs are (g.makes a (b ∷ bs) (following, here, are));
      only = λ all are. let found = g.only all are in first here found.0 found.1;
      short = omega (arith, less, g.short);
    }
  where
    step : (more : Answer (List B)) → with_rest fault' (map v new) more ≡ with_rest fault (map v out) (with_first (pair_or_earlier_fault (f a) more))
    step more =
        ap (λ (x : Option AsmCause). with_rest x (map v new) more) reported ∙ ap (λ (l : List T). with_rest (fault_after fault r) (map v l) more) all'
        ∙ rest_more v fault out r more ∙ ap (λ (x : Answer B). with_rest fault (map v out) (with_first (pair_or_earlier_fault x more))) answer

    next : At left a (0x2C ∷ following) → (b : A) (bs : List A) → AreItems At following (b ∷ bs) → ((all : List A) × AreItems At text all × (with_rest fault (map v out) (all_of f (a ∷ b ∷ bs)) ≡ all_of f all))
        → (all : List A) × AreItems At text all × (with_rest fault' (map v new) (all_of f (b ∷ bs)) ≡ all_of f all)
    next here b bs are found = (found.0, found.1, step (all_of f (b ∷ bs)) ∙ found.2)

    first : At left a (0x2C ∷ following) → (as' : List A) → AreItems At left as' → (bs : List A) × AreItems At following bs
    first here [] are = absurd are
    first here (b ∷ []) are = let same : 0x2C ∷ following ≡ [] = once left a b (0x2C ∷ following) [] here are in absurd cc
    first here (b ∷ c ∷ bs) are =
        let same = same_after following are.0 (once left a b (0x2C ∷ following) (0x2C ∷ are.0) here are.1) in
        (c ∷ bs, subst (λ (t : List ℕ). AreItems At t (c ∷ bs)) (sym same) are.2)

-- what all items give
pub record GathersAll {A B : Type 0} (At : List ℕ → A → List ℕ → Type 0) (f : A → Answer B) (text : List ℕ) (answer : Answer (List B)) : Type 0 where
  pub all : List A
  pub are : AreItems At text all
  pub gives : answer ≡ all_of f all

-- the last
pub gathers_last : {A B T : Type 0} (At : List ℕ → A → List ℕ → Type 0) (f : A → Answer B) (v : T → B) (text : List ℕ) (fault fault' : Option AsmCause) (out new : List T) (r : Result T AsmCause) (left rest : List ℕ) (a : A)
    → Gathers At f text fault (map v out) left → At left a rest → map_answer v r ≡ f a → fault' ≡ fault_after fault r → new ≡ all_following out r → rest ≡ []
    → GathersAll At f text (all_or fault' (map v new))
gathers_last {B = B} {T = T} At f v text fault fault' out new r left rest a g is answer reported all' end =
    let found = g.makes a [] (subst (At left a) end is) in
    record {
      all = found.0;
      are = found.1;
      gives =
          sym (all_mapped v fault' new) ∙ ap (λ (x : Option AsmCause). with_rest x (map v new) (Ok [])) reported ∙ ap (λ (l : List T). with_rest (fault_after fault r) (map v l) (Ok [])) all'
          ∙ rest_more v fault out r (Ok []) ∙ ap (λ (x : Answer B). with_rest fault (map v out) (with_first (pair_or_earlier_fault x (Ok [])))) answer ∙ found.2;
    }

-- none
pub gathers_none : {A B : Type 0} (At : List ℕ → A → List ℕ → Type 0) (f : A → Answer B) (text : List ℕ) (fault : Option AsmCause) (out : List B) (left : List ℕ) → Gathers At f text fault out left
    → ((a : A) (rest : List ℕ) → At left a rest → ⊥) → (all : List A) → AreItems At text all → ⊥
gathers_none {A = A} At f text fault out left g none all are = let found = g.only all are in by_count found.0 found.1
  where
    by_count : (as' : List A) → AreItems At left as' → ⊥
    by_count [] are = are
    by_count (a ∷ []) are = none a [] are
    by_count (a ∷ b ∷ as') are = none a (0x2C ∷ are.0) are.1

-- something else than a comma
pub gathers_wrong : {A B : Type 0} (At : List ℕ → A → List ℕ → Type 0) (f : A → Answer B) (once : IsOnce At) (text : List ℕ) (fault : Option AsmCause) (out : List B) (left rest : List ℕ) (a : A)
    → Gathers At f text fault out left → At left a rest → rest ≢ [] → ((following : List ℕ) → rest ≢ 0x2C ∷ following) → (all : List A) → AreItems At text all → ⊥
gathers_wrong {A = A} At f once text fault out left rest a g is some other all are = let found = g.only all are in by_count found.0 found.1
  where
    by_count : (as' : List A) → AreItems At left as' → ⊥
    by_count [] are = are
    by_count (b ∷ []) are = some (once left a b rest [] is are)
    by_count (b ∷ c ∷ as') are = other are.0 (once left a b rest (0x2C ∷ are.0) is are.1)
