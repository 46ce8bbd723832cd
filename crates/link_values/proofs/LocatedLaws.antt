-- Records one after another, and what they make.
use Rattle.std.proofs.Common.{◌≡◌, ◌⊎◌, inl, inr, ℕ, ◌+◌, List, [], ◌∷◌, ◌++◌, map, Result, Ok, refl, ap, ◌∙◌}
use Rattle.std.proofs.lemmas.List.{map-append}
use Rattle.omf_format.specs.Record.{Record}
use Rattle.link_meaning.specs.declared.fault.LinkCause.{LinkCause}
use Rattle.object_meaning.specs.Sizes.{Located, size_at, located_from, place_after}
use Rattle.link_meaning.specs.Member.{Member}
use Rattle.link_meaning.specs.LinkValues.{EquateAnswer}
use Rattle.link_meaning.specs.LinkedCells.{Item, LinkState, Made, made, state_after_item, state_from}
use Rattle.link_meaning.specs.LinkWritten.{AreMade}
use Rattle.link_meaning.specs.laws.LinkedRuns.{item, state_from-append}

abbrev pub one_located : ℕ × Record → ℕ → Located
one_located found location = record { at = found.0; location = location; content = found.1 }

pub located-append : (loc : ℕ) (xs : List (ℕ × Record)) (found : ℕ × Record) → located_from loc (xs ++ found ∷ []) ≡ located_from loc xs ++ one_located found (place_after loc xs) ∷ []
located-append loc [] found = refl
located-append loc (x ∷ xs) found = ap (λ (l : List Located). one_located x loc ∷ l) (located-append (loc + size_at loc x.1) xs found)

pub located-more : (loc : ℕ) (xs ys : List (ℕ × Record)) → located_from loc (xs ++ ys) ≡ located_from loc xs ++ located_from (place_after loc xs) ys
located-more loc [] ys = refl
located-more loc (x ∷ xs) ys = ap (λ (l : List Located). one_located x loc ∷ l) (located-more (loc + size_at loc x.1) xs ys)

pub following-append : (loc : ℕ) (xs ys : List (ℕ × Record)) → place_after loc (xs ++ ys) ≡ place_after (place_after loc xs) ys
following-append loc [] ys = refl
following-append loc (x ∷ xs) ys = following-append (loc + size_at loc x.1) xs ys

-- the items of records, one more
pub items-more : (place : ℕ) (m : Member) (xs : List (ℕ × Record)) (found : ℕ × Record)
    → map (item place m) (located_from 0 (xs ++ found ∷ [])) ≡ map (item place m) (located_from 0 xs) ++ item place m (one_located found (place_after 0 xs)) ∷ []
items-more place m xs found = ap (map (item place m)) (located-append 0 xs found) ∙ map-append (item place m) (located_from 0 xs) (one_located found (place_after 0 xs) ∷ [])

pub made-more : (list : List Member) (reported : List EquateAnswer) (state : LinkState) (xs : List Item) (i : Item) (x : Made) → AreMade list reported state xs → made list reported (state_from list reported state xs) i ≡ Ok x → AreMade list reported state (xs ++ i ∷ [])
made-more list reported state [] i x are is = (x, is, tt)
made-more list reported state (j ∷ xs) i x are is = (are.0, are.1, made-more list reported (state_after_item state j (made list reported state j)) xs i x are.2 is)

pub made-append : (list : List Member) (reported : List EquateAnswer) (state : LinkState) (xs ys : List Item) → AreMade list reported state xs → AreMade list reported (state_from list reported state xs) ys → AreMade list reported state (xs ++ ys)
made-append list reported state [] ys are more = more
made-append list reported state (x ∷ xs) ys are more = (are.0, are.1, made-append list reported (state_after_item state x (made list reported state x)) xs ys are.2 more)

pub state-more : (list : List Member) (reported : List EquateAnswer) (state : LinkState) (xs : List Item) (i : Item) (x : Made) → made list reported (state_from list reported state xs) i ≡ Ok x
    → state_from list reported state (xs ++ i ∷ []) ≡ state_after_item (state_from list reported state xs) i (Ok x)
state-more list reported state xs i x is = state_from-append list reported state xs (i ∷ []) ∙ ap (state_after_item (state_from list reported state xs) i) is

-- after a record of the member the cells are the member's
pub state-there : (list : List Member) (reported : List EquateAnswer) (state : LinkState) (place : ℕ) (m : Member) (rs : List Located) → AreMade list reported state (map (item place m) rs) → (state.place ≡ place) ⊎ ((r : Located) × (more : List Located) × (rs ≡ r ∷ more))
    → (state_from list reported state (map (item place m) rs)).place ≡ place
state-there list reported state place m [] are (inl is) = is
state-there list reported state place m [] are (inr some) = absurd (none some.0 some.1 some.2)
  where
    none : (r : Located) (more : List Located) → [] ≡ r ∷ more → ⊥
    none r more e = cc
state-there list reported state place m (r ∷ rs) are some =
    state-there list reported (state_after_item state (item place m r) (made list reported state (item place m r))) place m rs are.2 (inl (ap (λ (g : Result Made LinkCause). (state_after_item state (item place m r) g).place) are.1))
