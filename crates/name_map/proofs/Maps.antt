-- What a map has for a name once it was changed.
use Rattle.std.proofs.Common.{◌≡◌, ℕ, Bool, true, false, cond, List, ◌∷◌, Option, Some, None, refl, sym, ap, subst, ◌∙◌, ◌+◌, drop}
use Rattle.std.specs.Prelude.{bytes_eq, is_some, is_none, not, slice_get}
use Rattle.std.specs.Global.{Vec}
use Rattle.std.specs.Cmp.Lexicographic.{bytes_decides, nat_list_eq_equiv}
use Rattle.std.proofs.lemmas.List.{drop_more}
use Rattle.std.proofs.lemmas.Option.{slice_get_within, get_or_from_slice_get}
use Rattle.std.specs.Map.{IsKeyTest, AreApart, KeepsOthers, lookup}
use Rattle.indexmap.specs.IndexMap.{IndexMap, UpdatesBy, IsEmpty, IsUnchanged}
use Rattle.name_map.specs.Held.{value_of_name}

apart : (bs cs ks : List ℕ) → bytes_eq bs cs ≡ false → bytes_eq bs ks ≡ true → bytes_eq cs ks ≡ false
apart bs cs ks n y = nat_list_eq_equiv.symm cs ks ∙ sym (nat_list_eq_equiv.congr bs ks cs y) ∙ n

others : {K X : Type 0} (eq : K → K → Bool) (test : K → Bool) (old new : List (K × X)) → KeepsOthers eq test old new → (other : K → Bool) → IsKeyTest eq other → AreApart test other → lookup other new ≡ lookup other old
unfolding KeepsOthers
others eq test old new h = h

pub updated : {V S : Type 0} (name : List ℕ) (m n : IndexMap (Vec ℕ) V S) (w : Option V) → UpdatesBy (λ x y. bytes_eq x.items y.items) (λ k. bytes_eq name k.items) m n w
    → (q : List ℕ) → value_of_name n q ≡ cond (bytes_eq name q) w (value_of_name m q)
updated name m n w h q = by_test (bytes_eq name q) refl
  where
    by_test : (b : Bool) → bytes_eq name q ≡ b → value_of_name n q ≡ cond b w (value_of_name m q)
    by_test true is = subst (λ (l : List ℕ). value_of_name n l ≡ w) ((bytes_decides name q).0 is) h.1
    by_test false is = others (λ x y. bytes_eq x.items y.items) (λ k. bytes_eq name k.items) m.entries n.entries h.3 (λ k. bytes_eq q k.items) (λ x y. nat_list_eq_equiv.congr q x.items y.items) (λ k. apart name q k.items is)

-- what was found shows whether the name had no value
pub is_new : {V S : Type 0} (name : List ℕ) (m : IndexMap (Vec ℕ) V S) (found : Option V) (fresh : Bool) → found ≡ value_of_name m name → is_some found ≡ not fresh → fresh ≡ is_none (value_of_name m name)
is_new {V = V} name m found fresh is test = by_found found fresh test ∙ ap is_none is
  where
    by_found : (o : Option V) (b : Bool) → is_some o ≡ not b → b ≡ is_none o
    by_found None true e = refl
    by_found None false e = absurd cc
    by_found (Some v) true e = absurd cc
    by_found (Some v) false e = refl

-- a map without entries
pub empty_held : {V S : Type 0} (m : IndexMap (Vec ℕ) V S) → IsEmpty m → (q : List ℕ) → value_of_name m q ≡ None
empty_held m none q = ap (λ es. lookup (λ k. bytes_eq q k.items) es) none

-- a map that stays as it is
pub unchanged : {V S : Type 0} (m n : IndexMap (Vec ℕ) V S) → IsUnchanged m n → (q : List ℕ) → value_of_name n q ≡ value_of_name m q
unchanged m n same q = ap (λ es. lookup (λ k. bytes_eq q k.items) es) same

-- a name that isn't that of this entry is after it, if anywhere
pub passed : {V S : Type 0} (name : List ℕ) (m : IndexMap (Vec ℕ) V S) (at : ℕ) (key : Vec ℕ) (value : V) → Some (key, value) ≡ slice_get m.entries at → bytes_eq name key.items ≡ false
    → lookup (λ k. bytes_eq name k.items) (drop at m.entries) ≡ value_of_name m name → lookup (λ k. bytes_eq name k.items) (drop (at + 1) m.entries) ≡ value_of_name m name
passed {V = V} name m at key value is other so =
    let asked : List (Vec ℕ × V) → Option V = lookup (λ k. bytes_eq name k.items) in
    let rest = drop (at + 1) m.entries in
    sym (ap asked (drop_more m.entries at (key, value) (slice_get_within m.entries at (key, value) (sym is))
    ∙ ap (λ (x : Vec ℕ × V). x ∷ rest) (get_or_from_slice_get m.entries at (key, value) (key, value) (sym is))) ∙ ap (λ (b : Bool). cond b (Some value) (asked rest)) other) ∙ so
