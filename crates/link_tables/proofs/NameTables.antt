-- Tables of names: a look-up finds what the rows have, and one more row is added after the others.
use Rattle.std.proofs.Common.{◌≡◌, ◌⊎◌, inl, inr, ℕ, Bool, true, false, List, [], ◌∷◌, ◌++◌, Some, refl, sym, ap, subst, ◌∙◌}
use Rattle.std.specs.Prelude.{filter, if◌then◌else◌, ◌==◌, ◌&&◌}
use Rattle.std.proofs.lemmas.Bool.{and_parts, eqb-true}
use Rattle.std.specs.Str.{bytes_eq}
use Rattle.std.specs.Map.{lookup}
use Rattle.indexmap.specs.IndexMap.{IndexMap, get_by, Updates}
use Rattle.link_meaning.specs.Search.{is_step}
use Rattle.link_tables.specs.contracts.names.PublicNamePartialEq.TheImpl as test_public
use Rattle.link_tables.specs.contracts.names.OwnNamePartialEq.TheImpl as test_own
use Rattle.link_tables.specs.contracts.names.UnitNamePartialEq.TheImpl as test_unit
use Rattle.link_meaning.specs.declared.search.SearchStep.{SearchStep}
use Rattle.link_meaning.specs.declared.search.SearchStep.TheVariants.{Within, OfUnit, Everyone}
use Rattle.link_tables.specs.declared.names.PublicName.{PublicName}
use Rattle.link_tables.specs.declared.names.OwnName.{OwnName}
use Rattle.link_tables.specs.declared.names.UnitName.{UnitName}
use Rattle.link_tables.specs.declared.names.Matches.{Matches}
use Rattle.link_tables.specs.declared.names.Matches.TheVariants.{One, Several}
use Rattle.link_tables.specs.declared.names.NameTable.{NameTable}
use Rattle.link_tables.specs.Names.{Named, Row, is_key, is_row, seen_of, with_one_more, outcome, found_or, kept_under, Keeps, Indexes}

abbrev pub named_as : SearchStep → List ℕ → Named
named_as step name = record { step = step; name = name }

pub looked : (rows : List Row) (names : NameTable) (k : Named) (s : SearchStep) → Indexes rows names → k.step ≡ s → found_or (kept_under s k.name names) ≡ outcome rows k
looked rows names k s ix is = ap (λ (t : SearchStep). found_or (kept_under t k.name names)) (sym is) ∙ ix k

-- a table with the same entries
pub same_entries : (rows : List Row) (old new : NameTable) → new.public.entries ≡ old.public.entries → new.own ≡ old.own → new.units ≡ old.units → Indexes rows old → Indexes rows new
same_entries rows old new same own units ix = λ key. settle key.step key.name ∙ ix key
  where
    settle : (s : SearchStep) (name : List ℕ) → found_or (kept_under s name new) ≡ found_or (kept_under s name old)
    settle (Within place) name = ap (λ (m : IndexMap OwnName Matches _). found_or (get_by (λ k. place == k.place && bytes_eq name k.name.now) m)) own
    settle (OfUnit file from) name = ap (λ (m : IndexMap UnitName Matches _). found_or (get_by (λ k. file == k.file && (from == k.from && bytes_eq name k.name.now)) m)) units
    settle Everyone name = ap (λ (es : List (PublicName × Matches)). found_or (lookup (λ k. bytes_eq name k.name.now) es)) same

-- ---- one key, and one more row

pub step_same : (s t : SearchStep) → is_step s t ≡ true → s ≡ t
step_same (Within p) (Within q) e = ap Within (eqb-true p q e)
step_same (Within p) (OfUnit file from) e = absurd cc
step_same (Within p) Everyone e = absurd cc
step_same (OfUnit file from) (Within q) e = absurd cc
step_same (OfUnit file from) (OfUnit file' from') e =
    let parts = and_parts (file == file') (from == from') e in
    ap (λ (n : ℕ). OfUnit n from) (eqb-true file file' parts.0) ∙ ap (λ (n : ℕ). OfUnit file' n) (eqb-true from from' parts.1)
step_same (OfUnit file from) Everyone e = absurd cc
step_same Everyone (Within q) e = absurd cc
step_same Everyone (OfUnit file from) e = absurd cc
step_same Everyone Everyone e = refl

pub bytes_same : (a b : List ℕ) → bytes_eq a b ≡ true → a ≡ b
bytes_same [] [] e = refl
bytes_same [] (y ∷ ys) e = absurd cc
bytes_same (x ∷ xs) [] e = absurd cc
bytes_same (x ∷ xs) (y ∷ ys) e =
    let parts = and_parts (x == y) (bytes_eq xs ys) e in
    ap (λ (n : ℕ). n ∷ xs) (eqb-true x y parts.0) ∙ ap (λ (l : List ℕ). y ∷ l) (bytes_same xs ys parts.1)

pub key_same : (a b : Named) → is_key a b ≡ true → a ≡ b
key_same a b e =
    let parts = and_parts (is_step a.step b.step) (bytes_eq a.name b.name) e in
    ap (λ (s : SearchStep). named_as s a.name) (step_same a.step b.step parts.0) ∙ ap (named_as b.step) (bytes_same a.name b.name parts.1)

key_sym : (a b : Named) → is_key a b ≡ is_key b a
key_sym a b = settle (is_key a b) (is_key b a) refl refl
  where
    settle : (x y : Bool) → is_key a b ≡ x → is_key b a ≡ y → is_key a b ≡ is_key b a
    settle true y p q = let same = key_same a b p in p ∙ sym (subst (λ (c : Named). is_key c a ≡ true) same (subst (λ (c : Named). is_key a c ≡ true) (sym same) p))
    settle false true p q = let same = key_same b a q in subst (λ (c : Named). is_key c b ≡ true) same (subst (λ (c : Named). is_key b c ≡ true) (sym same) q) ∙ sym q
    settle false false p q = p ∙ sym q

seen-snoc : (rows : List Row) (row : Row) → seen_of (rows ++ row ∷ []) ≡ with_one_more (seen_of rows) row.1
seen-snoc [] row = refl
seen-snoc (x ∷ []) row = refl
seen-snoc (x ∷ y ∷ rows) row = refl

filter-snoc : (test : Row → Bool) (rows : List Row) (row : Row) → filter test (rows ++ row ∷ []) ≡ (if test row then filter test rows ++ row ∷ [] else filter test rows)
filter-snoc test [] row = refl
filter-snoc test (x ∷ rows) row = settle (test x) (test row) (filter-snoc test rows row)
  where
    settle : (b t : Bool) → filter test (rows ++ row ∷ []) ≡ (if t then filter test rows ++ row ∷ [] else filter test rows)
        → (if b then x ∷ filter test (rows ++ row ∷ []) else filter test (rows ++ row ∷ [])) ≡ (if t then (if b then x ∷ filter test rows else filter test rows) ++ row ∷ [] else (if b then x ∷ filter test rows else filter test rows))
    settle true true e = ap (λ (l : List Row). x ∷ l) e
    settle true false e = ap (λ (l : List Row). x ∷ l) e
    settle false true e = e
    settle false false e = e

abbrev IsKept : NameTable → NameTable → Named → Matches → SearchStep → List ℕ → Type 0
IsKept old new k now s name = kept_under s name new ≡ (if is_key k (named_as s name) then Some now else kept_under s name old)

pub keeps_public : (old new : NameTable) (k : PublicName) (now : Matches) → Updates (test_public.ghosts).eq old.public new.public k (Some now)
    → new.own ≡ old.own → new.units ≡ old.units → Keeps old new (named_as Everyone k.name.now) now
keeps_public old new k now updates own units = λ at. settle at.step at.name
  where
    settle : (s : SearchStep) (name : List ℕ) → IsKept old new (named_as Everyone k.name.now) now s name
    settle (Within place) name = ap (λ (m : IndexMap OwnName Matches _). get_by (λ x. place == x.place && bytes_eq name x.name.now) m) own
    settle (OfUnit file from) name = ap (λ (m : IndexMap UnitName Matches _). get_by (λ x. file == x.file && (from == x.from && bytes_eq name x.name.now)) m) units
    settle Everyone name = updates.0 (record { name = record k.name { now = name } })

pub keeps_own : (old new : NameTable) (k : OwnName) (now : Matches) → Updates (test_own.ghosts).eq old.own new.own k (Some now)
    → new.public ≡ old.public → new.units ≡ old.units → Keeps old new (named_as (Within k.place) k.name.now) now
keeps_own old new k now updates public units = λ at. settle at.step at.name
  where
    settle : (s : SearchStep) (name : List ℕ) → IsKept old new (named_as (Within k.place) k.name.now) now s name
    settle (Within place) name = updates.0 (record { place = place; name = record k.name { now = name } })
    settle (OfUnit file from) name = ap (λ (m : IndexMap UnitName Matches _). get_by (λ x. file == x.file && (from == x.from && bytes_eq name x.name.now)) m) units
    settle Everyone name = ap (λ (m : IndexMap PublicName Matches _). get_by (λ x. bytes_eq name x.name.now) m) public

-- the test of a unit and a name, which a key has in two parts
unit_key : (file from : ℕ) (name : List ℕ) (file' from' : ℕ) (name' : List ℕ)
    → (file == file' && (from == from' && bytes_eq name name')) ≡ is_key (named_as (OfUnit file from) name) (named_as (OfUnit file' from') name')
unit_key file from name file' from' name' = settle (file == file')
  where
    settle : (b : Bool) → (b && (from == from' && bytes_eq name name')) ≡ ((b && from == from') && bytes_eq name name')
    settle true = refl
    settle false = refl

pub keeps_unit : (old new : NameTable) (k : UnitName) (now : Matches) → Updates (test_unit.ghosts).eq old.units new.units k (Some now)
    → new.public ≡ old.public → new.own ≡ old.own → Keeps old new (named_as (OfUnit k.file k.from) k.name.now) now
keeps_unit old new k now updates public own = λ at. settle at.step at.name
  where
    settle : (s : SearchStep) (name : List ℕ) → IsKept old new (named_as (OfUnit k.file k.from) k.name.now) now s name
    settle (Within place) name = ap (λ (m : IndexMap OwnName Matches _). get_by (λ x. place == x.place && bytes_eq name x.name.now) m) own
    settle (OfUnit file from) name =
        updates.0 (record { file = file; from = from; name = record k.name { now = name } })
        ∙ ap (λ (b : Bool). if b then Some now else kept_under (OfUnit file from) name old) (unit_key k.file k.from k.name.now file from name)
    settle Everyone name = ap (λ (m : IndexMap PublicName Matches _). get_by (λ x. bytes_eq name x.name.now) m) public

-- what is kept under the same key once more lies in the place of the first
pub keeps_again : (old mid new : NameTable) (k : Named) (first now : Matches) → Keeps old mid k first → Keeps mid new k now → Keeps old new k now
keeps_again old mid new k first now once again = λ key. again key ∙ settle key (is_key k key) refl
  where
    settle : (key : Named) (b : Bool) → is_key k key ≡ b
        → (if is_key k key then Some now else kept_under key.step key.name mid) ≡ (if is_key k key then Some now else kept_under key.step key.name old)
    settle key true e =
        ap (λ (b : Bool). if b then Some now else kept_under key.step key.name mid) e
        ∙ sym (ap (λ (b : Bool). if b then Some now else kept_under key.step key.name old) e)
    settle key false e =
        ap (λ (b : Bool). if b then Some now else kept_under key.step key.name mid) e
        ∙ once key
        ∙ ap (λ (b : Bool). if b then Some first else kept_under key.step key.name old) e
        ∙ sym (ap (λ (b : Bool). if b then Some now else kept_under key.step key.name old) e)

-- after one that was found, or the first of several, one more is not the first
pub one_more : (before : Matches) (first number : ℕ) → (before ≡ One first) ⊎ (before ≡ Several first) → Several first ≡ with_one_more before number
one_more before first number (inl one) = ap (λ (o : Matches). with_one_more o number) (sym one)
one_more before first number (inr several) = ap (λ (o : Matches). with_one_more o number) (sym several)

pub added_row : (rows : List Row) (old new : NameTable) (k : Named) (number : ℕ) (so_far now : Matches) → Indexes rows old → so_far ≡ outcome rows k → now ≡ with_one_more so_far number
    → Keeps old new k now → Indexes (rows ++ (k, number) ∷ []) new
added_row rows old new k number so_far now ix seen is puts key = settle (is_key key k) refl
  where
    looks : found_or (kept_under key.step key.name new) ≡ found_or (if is_key k key then Some now else kept_under key.step key.name old)
    looks = ap found_or (puts key)

    settle : (b : Bool) → is_key key k ≡ b → found_or (kept_under key.step key.name new) ≡ outcome (rows ++ (k, number) ∷ []) key
    settle true e =
        let there : is_key k key ≡ true = key_sym k key ∙ e in
        looks
        ∙ ap (λ (b : Bool). found_or (if b then Some now else kept_under key.step key.name old)) there
        ∙ is ∙ ap (λ (o : Matches). with_one_more o number) (seen ∙ ap (outcome rows) (sym (key_same key k e)))
        ∙ sym (seen-snoc (filter (is_row key) rows) (k, number))
        ∙ sym (ap seen_of (filter-snoc (is_row key) rows (k, number) ∙ ap (λ (b : Bool). if b then filter (is_row key) rows ++ (k, number) ∷ [] else filter (is_row key) rows) e))
    settle false e =
        let there : is_key k key ≡ false = key_sym k key ∙ e in
        looks
        ∙ ap (λ (b : Bool). found_or (if b then Some now else kept_under key.step key.name old)) there
        ∙ ix key
        ∙ sym (ap seen_of (filter-snoc (is_row key) rows (k, number) ∙ ap (λ (b : Bool). if b then filter (is_row key) rows ++ (k, number) ∷ [] else filter (is_row key) rows) e))
