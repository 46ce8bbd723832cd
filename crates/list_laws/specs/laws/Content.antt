-- What records give place by place, what they define and use: the same for a record of the file and for the records that its lines
-- represent.
use Rattle.std.proofs.Common.{◌≡◌, ℕ, zero, suc, ◌+◌, List, [], ◌∷◌, ◌++◌, length, map, refl, sym, ap, subst, ◌∙◌, arith, append_assoc, append-nil, length-append}
use Rattle.std.specs.List.{AllByRecursion, flat_map}
use Rattle.std.proofs.lemmas.List.{map-append}
use Rattle.std.proofs.lemmas.List.Concat.{flat_map-cons, flat_map-append}
use Rattle.omf_format.specs.Record.{Record, End, Const, LongConst, Space, content_of}
use Rattle.object_meaning.specs.Defines.{defined_by}
use Rattle.object_meaning.specs.Sizes.{size_at}
use Rattle.asm_meaning.specs.Pieces.{place_after}
use Rattle.asm_meaning.specs.laws.PieceLaws.{place_after-append}
use Rattle.list_laws.specs.Flat.{FlatCell, One, zeros, places_at, places_from, FlatDefinition, comparable_definition, used_by, asked_by}
use Rattle.list_laws.specs.laws.RunGives.{IsConst}

-- ---- definitions, from a place on

abbrev pub defs_at : ℕ → ℕ → Record → List FlatDefinition
defs_at l place r = map (comparable_definition l) (defined_by 0 place r)

abbrev pub defs_from : ℕ → ℕ → List Record → List FlatDefinition
defs_from l at [] = []
defs_from l at (r ∷ rs) = defs_at l at r ++ defs_from l (at + size_at at r) rs

pub defs_from-append : (l at : ℕ) (a b : List Record) → defs_from l at (a ++ b) ≡ defs_from l at a ++ defs_from l (place_after at a) b
unfolding place_after
defs_from-append l at [] b = refl
defs_from-append l at (r ∷ a) b =
    ap (λ (d : List FlatDefinition). defs_at l at r ++ d) (defs_from-append l (at + size_at at r) a b)
    ∙ sym (append_assoc (defs_at l at r) (defs_from l (at + size_at at r) a) (defs_from l (place_after (at + size_at at r) a) b))

pub places_from-append : (l at : ℕ) (a b : List Record) → places_from l at (a ++ b) ≡ places_from l at a ++ places_from l (place_after at a) b
unfolding place_after places_from
places_from-append l at [] b = refl
places_from-append l at (r ∷ a) b =
    ap (λ (p : List FlatCell). places_at l at r ++ p) (places_from-append l (at + size_at at r) a b)
    ∙ sym (append_assoc (places_at l at r) (places_from l (at + size_at at r) a) (places_from l (place_after (at + size_at at r) a) b))

-- ---- constant bytes

-- what records of constant bytes give
pub record GiveBytes (at : ℕ) (rs : List Record) (bytes : List ℕ) : Type 0 where
  pub places : places_from 0 at rs ≡ map One bytes
  pub following : place_after at rs ≡ at + length bytes
  pub defined : defs_from 0 at rs ≡ []
  pub using' : flat_map used_by rs ≡ []
  pub strong : flat_map asked_by rs ≡ []

pub consts_give : (at : ℕ) (rs : List Record) → AllByRecursion IsConst rs → GiveBytes at rs (flat_map content_of rs)
unfolding place_after places_from
consts_give at [] are = record { places = refl; following = omega arith; defined = refl; using' = refl; strong = refl }
consts_give at (Const bytes ∷ rs) are =
    let others = consts_give (at + length bytes) rs are.1 in
    let whole = flat_map-cons content_of (Const bytes) rs in
    record {
      places = ap (λ (p : List FlatCell). map One bytes ++ p) others.places ∙ sym (map-append One bytes (flat_map content_of rs)) ∙ ap (map One) (sym whole);
      following = others.following ∙ omega (arith, ap length whole, length-append bytes (flat_map content_of rs));
      defined = others.defined;
      using' = flat_map-cons used_by (Const bytes) rs ∙ others.using';
      strong = flat_map-cons asked_by (Const bytes) rs ∙ others.strong;
    }
consts_give at (_ ∷ rs) are = absurd are.0

-- ---- a record and the one that its line represents

-- the same at each place
pub record IsLike (l : ℕ) (r x : Record) : Type 0 where
  pub places : (p : ℕ) → places_at l p r ≡ places_at 0 p x
  pub size : (p : ℕ) → size_at p r ≡ size_at p x
  pub defined : (p : ℕ) → defs_at l p r ≡ defs_at 0 p x
  pub using' : used_by r ≡ used_by x
  pub strong : asked_by r ≡ asked_by x

-- a run and a record give what these records and the rest of the run give
pub record SameAt (l at : ℕ) (run : List ℕ) (r : Record) (written : List Record) (rest : List ℕ) : Type 0 where
  pub places : map One run ++ places_at l (at + length run) r ≡ places_from 0 at written ++ map One rest
  pub following : at + length run + size_at (at + length run) r ≡ place_after at written + length rest
  pub defined : defs_at l (at + length run) r ≡ defs_from 0 at written
  pub using' : used_by r ≡ flat_map used_by written
  pub strong : asked_by r ≡ flat_map asked_by written

pub same_const : (l at : ℕ) (run bytes : List ℕ) → SameAt l at run (Const bytes) [] (run ++ bytes)
unfolding place_after places_from
same_const l at run bytes = record { places = sym (map-append One run bytes); following = omega (arith, length-append run bytes); defined = refl; using' = refl; strong = refl }

pub same_long : (l at : ℕ) (run bytes : List ℕ) → SameAt l at run (LongConst bytes) [] (run ++ bytes)
unfolding place_after places_from
same_long l at run bytes = record { places = sym (map-append One run bytes); following = omega (arith, length-append run bytes); defined = refl; using' = refl; strong = refl }

one_used : (used : Record → List (List ℕ)) (g : List Record) (x : Record) → flat_map used g ≡ [] → flat_map used (g ++ x ∷ []) ≡ used x
one_used used g x none = flat_map-append used g (x ∷ []) ∙ ap (λ (l : List (List ℕ)). l ++ flat_map used (x ∷ [])) none ∙ flat_map-cons used x [] ∙ append-nil (used x)

-- the run's records, and one more
pub same_line : (l at : ℕ) (run : List ℕ) (r x : Record) (g : List Record) → AllByRecursion IsConst g → flat_map content_of g ≡ run → IsLike l r x → SameAt l at run r (g ++ x ∷ []) []
unfolding place_after places_from
same_line l at run r x g are bytes like =
    let gives : GiveBytes at g run = subst (GiveBytes at g) bytes (consts_give at g are) in
    let p = at + length run in
    record {
      places = ap (λ (q : List FlatCell). map One run ++ q) (like.places p ∙ sym (append-nil (places_at 0 p x)))
          ∙ sym (append-nil (map One run ++ (places_at 0 p x ++ [])))
          ∙ ap (λ (q : List FlatCell). q ++ []) (sym (places_from-append 0 at g (x ∷ []) ∙ ap (λ (q : List FlatCell). q ++ places_from 0 (place_after at g) (x ∷ [])) gives.places
          ∙ ap (λ (k : ℕ). map One run ++ (places_at 0 k x ++ [])) gives.following));
      following = omega (arith, like.size p, place_after-append at g (x ∷ []), ap (λ (k : ℕ). k + size_at k x) gives.following);
      defined = like.defined p ∙ sym (append-nil (defs_at 0 p x))
          ∙ sym (defs_from-append 0 at g (x ∷ []) ∙ ap (λ (d : List FlatDefinition). d ++ defs_from 0 (place_after at g) (x ∷ [])) gives.defined ∙ ap (λ (k : ℕ). defs_at 0 k x ++ []) gives.following);
      using' = like.using' ∙ sym (one_used used_by g x gives.using');
      strong = like.strong ∙ sym (one_used asked_by g x gives.strong);
    }

-- ---- all records of a segment

-- a run, the records after it and RESSPC give what these records give
pub record Alike (l res at : ℕ) (run : List ℕ) (rs written : List Record) : Type 0 where
  pub places : map One run ++ (places_from l (at + length run) rs ++ zeros res) ≡ places_from 0 at written
  pub following : place_after (at + length run) rs + res ≡ place_after at written
  pub defined : defs_from l (at + length run) rs ≡ defs_from 0 at written
  pub using' : flat_map used_by rs ≡ flat_map used_by written
  pub strong : flat_map asked_by rs ≡ flat_map asked_by written

pub alike_cons : (l res at : ℕ) (run rest : List ℕ) (r : Record) (rs first more : List Record) → SameAt l at run r first rest → Alike l res (place_after at first) rest rs more
    → Alike l res at run (r ∷ rs) (first ++ more)
unfolding place_after places_from
alike_cons l res at run rest r rs first more same others =
    let p = at + length run in
    let q = place_after at first in
    let next : p + size_at p r ≡ q + length rest = same.following in
    let tail = places_from l (p + size_at p r) rs ++ zeros res in
    record {
      places = ap (λ (x : List FlatCell). map One run ++ x) (append_assoc (places_at l p r) (places_from l (p + size_at p r) rs) (zeros res))
          ∙ sym (append_assoc (map One run) (places_at l p r) tail) ∙ ap (λ (x : List FlatCell). x ++ tail) same.places ∙ append_assoc (places_from 0 at first) (map One rest) tail
          ∙ ap (λ (k : ℕ). places_from 0 at first ++ (map One rest ++ (places_from l k rs ++ zeros res))) next
          ∙ ap (λ (x : List FlatCell). places_from 0 at first ++ x) others.places ∙ sym (places_from-append 0 at first more);
      following = ap (λ (k : ℕ). place_after k rs + res) next ∙ others.following ∙ sym (place_after-append at first more);
      defined = ap (λ (d : List FlatDefinition). d ++ defs_from l (p + size_at p r) rs) same.defined ∙ ap (λ (k : ℕ). defs_from 0 at first ++ defs_from l k rs) next
          ∙ ap (λ (d : List FlatDefinition). defs_from 0 at first ++ d) others.defined ∙ sym (defs_from-append 0 at first more);
      using' = flat_map-cons used_by r rs ∙ ap (λ (u : List (List ℕ)). u ++ flat_map used_by rs) same.using' ∙ ap (λ (u : List (List ℕ)). flat_map used_by first ++ u) others.using'
          ∙ sym (flat_map-append used_by first more);
      strong = flat_map-cons asked_by r rs ∙ ap (λ (u : List (List ℕ)). u ++ flat_map asked_by rs) same.strong ∙ ap (λ (u : List (List ℕ)). flat_map asked_by first ++ u) others.strong
          ∙ sym (flat_map-append asked_by first more);
    }

-- DS for RESSPC, where it isn't 0
abbrev pub spaces_of : ℕ → List Record
spaces_of zero = []
spaces_of (suc n) = Space (suc n) ∷ []

record GiveSpaces (at n : ℕ) : Type 0 where
  places : places_from 0 at (spaces_of n) ≡ zeros n
  following : place_after at (spaces_of n) ≡ at + n
  defined : defs_from 0 at (spaces_of n) ≡ []
  using' : flat_map used_by (spaces_of n) ≡ []
  strong : flat_map asked_by (spaces_of n) ≡ []

spaces_give : (at n : ℕ) → GiveSpaces at n
unfolding place_after places_from
spaces_give at zero = record { places = refl; following = omega arith; defined = refl; using' = refl; strong = refl }
spaces_give at (suc n) = record { places = append-nil (zeros (suc n)); following = refl; defined = refl; using' = refl; strong = refl }

both_none : (used : Record → List (List ℕ)) (a b : List Record) → flat_map used a ≡ [] → flat_map used b ≡ [] → flat_map used (a ++ b) ≡ []
both_none used a b p q = flat_map-append used a b ∙ ap (λ (l : List (List ℕ)). l ++ flat_map used b) p ∙ q

-- the last run, and RESSPC
pub alike_end : (l res at : ℕ) (run : List ℕ) (g : List Record) → AllByRecursion IsConst g → flat_map content_of g ≡ run → Alike l res at run (End ∷ []) (g ++ spaces_of res)
unfolding place_after places_from
alike_end l res at run g are bytes =
    let gives : GiveBytes at g run = subst (GiveBytes at g) bytes (consts_give at g are) in
    let p = at + length run in
    let spaces = spaces_give p res in
    record {
      places = sym (places_from-append 0 at g (spaces_of res) ∙ ap (λ (q : List FlatCell). q ++ places_from 0 (place_after at g) (spaces_of res)) gives.places
          ∙ ap (λ (k : ℕ). map One run ++ places_from 0 k (spaces_of res)) gives.following ∙ ap (λ (q : List FlatCell). map One run ++ q) spaces.places);
      following = omega (arith, place_after-append at g (spaces_of res), ap (λ (k : ℕ). place_after k (spaces_of res)) gives.following, spaces.following);
      defined = sym (defs_from-append 0 at g (spaces_of res) ∙ ap (λ (d : List FlatDefinition). d ++ defs_from 0 (place_after at g) (spaces_of res)) gives.defined
          ∙ ap (λ (k : ℕ). defs_from 0 k (spaces_of res)) gives.following ∙ spaces.defined);
      using' = sym (both_none used_by g (spaces_of res) gives.using' spaces.using');
      strong = sym (both_none asked_by g (spaces_of res) gives.strong spaces.strong);
    }
