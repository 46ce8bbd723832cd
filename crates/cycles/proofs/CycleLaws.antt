-- Ranks and searches show which vertices lead back to themselves.
use Rattle.std.proofs.Common.{◌≡◌, ◌⊎◌, inl, inr, ℕ, zero, suc, ◌+◌, ◌≤◌, ◌<◌, Bool, true, false, List, [], ◌∷◌, ◌++◌, length, Some, refl, sym, ap, subst, ◌∙◌, arith}
use Rattle.std.specs.Prelude.{slice_get, slice_set}
use Rattle.cycles.specs.Graphs.{IsIn, row_at, Way, Last, Through, IsOnCycle}
use Rattle.std.proofs.lemmas.Bool.{cases_lt}
use Rattle.std.proofs.lemmas.List.{length-append}
use Rattle.cycles.specs.Ranks.{rank_at, Falls, FallsFrom, AreRanks, unseen, IsSeen, Visits, Visiting, Searching}
use Rattle.cycles.proofs.Lists.{in_at, in_front, in_last, in_pushed}

-- ---- ranks

along : (rows : List (List ℕ)) (ranks : List ℕ) → AreRanks rows ranks → (x y : ℕ) → Way rows x y → rank_at ranks y ≤ rank_at ranks x
along rows ranks are x y (Last from to is) = are x y is
along rows ranks are x y (Through from next to is way) = omega (arith, are x next is, along rows ranks are next y way)

falls_way : (rows : List (List ℕ)) (ranks : List ℕ) → AreRanks rows ranks → (x y : ℕ) → FallsFrom rows ranks x → Way rows x y → rank_at ranks y < rank_at ranks x
falls_way rows ranks are x y falls (Last from to is) = falls y is
falls_way rows ranks are x y falls (Through from next to is way) = omega (arith, falls next is, along rows ranks are next y way)

-- a vertex whose edges all go to lower ranks leads not back to itself
pub none_by_rank : (rows : List (List ℕ)) (ranks : List ℕ) (k : ℕ) → AreRanks rows ranks → FallsFrom rows ranks k → IsOnCycle rows k → ⊥
none_by_rank rows ranks k are falls cycle = omega (arith, falls_way rows ranks are k k falls cycle)

-- a vertex that isn't there has no edges
pub none_outside : (rows : List (List ℕ)) (ranks : List ℕ) (k : ℕ) → row_at rows k ≡ [] → Falls rows ranks k
none_outside rows ranks k none to is = absurd (subst (λ (l : List ℕ). IsIn l to) none is)

-- ---- ways

pub way_more : (rows : List (List ℕ)) (x y z : ℕ) → Way rows x y → IsIn (row_at rows y) z → Way rows x z
way_more rows x y z (Last from to is) then = Through x y z is (Last y z then)
way_more rows x y z (Through from next to is way) then = Through x next z is (way_more rows next y z way then)

-- ---- what was seen

bools : (x y : Bool) → Some x ≡ Some y → x ≡ y
bools x y e = cc

true_false : true ≡ false → ⊥
true_false e = cc

pub seen_set : (seen : List Bool) (k : ℕ) → k < length seen → IsSeen (slice_set seen k true) k
seen_set [] k lt = absurd (omega (arith, lt))
seen_set (b ∷ seen) zero lt = refl
seen_set (b ∷ seen) (suc k) lt = seen_set seen k (omega (arith, lt))

pub seen_kept : (seen : List Bool) (k j : ℕ) → IsSeen seen j → IsSeen (slice_set seen k true) j
seen_kept [] k j is = is
seen_kept (b ∷ seen) zero zero is = refl
seen_kept (b ∷ seen) zero (suc j) is = is
seen_kept (b ∷ seen) (suc k) zero is = is
seen_kept (b ∷ seen) (suc k) (suc j) is = seen_kept seen k j is

pub seen_gained : (seen : List Bool) (k j : ℕ) → IsSeen (slice_set seen k true) j → IsSeen seen j ⊎ (k ≡ j)
seen_gained [] k j is = inl is
seen_gained (b ∷ seen) zero zero is = inr refl
seen_gained (b ∷ seen) zero (suc j) is = inl is
seen_gained (b ∷ seen) (suc k) zero is = inl is
seen_gained (b ∷ seen) (suc k) (suc j) is = elim (seen_gained seen k j is) [
  | inl h ↦ inl h
  | inr h ↦ inr (ap suc h)
]

pub length-set : (seen : List Bool) (k : ℕ) → length (slice_set seen k true) ≡ length seen
length-set [] k = refl
length-set (b ∷ seen) zero = refl
length-set (b ∷ seen) (suc k) = ap suc (length-set seen k)

pub unseen_set : (seen : List Bool) (k : ℕ) → slice_get seen k ≡ Some false → unseen (slice_set seen k true) + 1 ≡ unseen seen
unseen_set [] k e = absurd cc
unseen_set (true ∷ seen) zero e = absurd (true_false (bools true false e))
unseen_set (false ∷ seen) zero e = refl
unseen_set (true ∷ seen) (suc k) e = unseen_set seen k e
unseen_set (false ∷ seen) (suc k) e = omega (arith, unseen_set seen k e)

-- ---- visits

-- before the first edge
pub visiting_all : (row : List ℕ) (vertex : ℕ) (seen : List Bool) (queue : List ℕ) → Visiting row vertex row seen seen queue queue
visiting_all row vertex seen queue = record {
  among = λ to is. is;
  others = λ to is. inl is;
  kept = λ k is. is;
  gained = λ k is. inl is;
  front = λ k is. is;
  at = λ k x e. e;
  back = λ k is. inl is;
  size = refl;
  measure = refl;
}

same_split : (left more : List ℕ) (to x : ℕ) → left ≡ to ∷ more → IsIn left x → (to ≡ x) ⊎ IsIn more x
same_split left more to x parts is = subst (λ (l : List ℕ). IsIn l x) parts is

-- an edge to what was seen
pub visiting_seen : (row : List ℕ) (vertex to : ℕ) (left more : List ℕ) (seen new : List Bool) (queue added : List ℕ) → left ≡ to ∷ more → (to ≡ vertex → ⊥) → IsSeen new to
    → Visiting row vertex left seen new queue added → Visiting row vertex more seen new queue added
visiting_seen row vertex to left more seen new queue added parts other is v = record {
  among = λ x there. v.among x (subst (λ (l : List ℕ). IsIn l x) (sym parts) (inr there));
  others = λ x there. elim (v.others x there) [
    | inl h ↦ elim (same_split left more to x parts h) [
      | inl e ↦ inr ((λ same. other (e ∙ same)), subst (IsSeen new) e is)
      | inr m ↦ inl m
    ]
    | inr h ↦ inr h
  ];
  kept = v.kept;
  gained = v.gained;
  front = v.front;
  at = v.at;
  back = v.back;
  size = v.size;
  measure = v.measure;
}

get_front : (xs : List ℕ) (y k x : ℕ) → slice_get xs k ≡ Some x → slice_get (xs ++ y ∷ []) k ≡ Some x
get_front [] y k x e = absurd cc
get_front (z ∷ xs) y zero x e = e
get_front (z ∷ xs) y (suc k) x e = get_front xs y k x e

-- an edge to what wasn't
pub visiting_new : (row : List ℕ) (vertex to : ℕ) (left more : List ℕ) (seen new : List Bool) (queue added : List ℕ) → left ≡ to ∷ more → (to ≡ vertex → ⊥) → to < length new → slice_get new to ≡ Some false
    → Visiting row vertex left seen new queue added → Visiting row vertex more seen (slice_set new to true) queue (added ++ to ∷ [])
visiting_new row vertex to left more seen new queue added parts other within at v = record {
  among = λ x there. v.among x (subst (λ (l : List ℕ). IsIn l x) (sym parts) (inr there));
  others = λ x there. elim (v.others x there) [
    | inl h ↦ elim (same_split left more to x parts h) [
      | inl e ↦ inr ((λ same. other (e ∙ same)), subst (IsSeen (slice_set new to true)) e (seen_set new to within))
      | inr m ↦ inl m
    ]
    | inr h ↦ inr (h.0, seen_kept new to x h.1)
  ];
  kept = λ k is. seen_kept new to k (v.kept k is);
  gained = λ k is. elim (seen_gained new to k is) [
    | inl h ↦ elim (v.gained k h) [
      | inl g ↦ inl g
      | inr g ↦ inr (in_front added (to ∷ []) k g)
    ]
    | inr e ↦ inr (subst (IsIn (added ++ to ∷ [])) e (in_last added to))
  ];
  front = λ k is. in_front added (to ∷ []) k (v.front k is);
  at = λ k x e. get_front added to k x (v.at k x e);
  back = λ k is. elim (in_pushed added to k is) [
    | inl h ↦ v.back k h
    | inr e ↦ inr (subst (IsIn row) e (v.among to (subst (λ (l : List ℕ). IsIn l to) (sym parts) (inl refl))))
  ];
  size = length-set new to ∙ v.size;
  measure = omega (arith, unseen_set new to at, length-append added (to ∷ []), v.measure);
}

-- after the last edge
pub visited : (row : List ℕ) (vertex : ℕ) (left : List ℕ) (seen new : List Bool) (queue added : List ℕ) → left ≡ [] → Visiting row vertex left seen new queue added → Visits row vertex seen new queue added
visited row vertex left seen new queue added none v = record {
  others = λ x there. elim (v.others x there) [
    | inl h ↦ absurd (subst (λ (l : List ℕ). IsIn l x) none h)
    | inr h ↦ h
  ];
  kept = v.kept;
  gained = v.gained;
  front = v.front;
  at = v.at;
  back = v.back;
  size = v.size;
  measure = v.measure;
}

-- ---- searches

reach_more : (rows : List (List ℕ)) (vertex x to : ℕ) → (x ≡ vertex) ⊎ Way rows vertex x → IsIn (row_at rows x) to → Way rows vertex to
reach_more rows vertex x to (inl e) is = Last vertex to (subst (λ (v : ℕ). IsIn (row_at rows v) to) e is)
reach_more rows vertex x to (inr way) is = way_more rows vertex x to way is

pub cycle_found : (rows : List (List ℕ)) (vertex x : ℕ) (seen : List Bool) (queue : List ℕ) (next : ℕ) → Searching rows vertex seen queue next → slice_get queue next ≡ Some x → IsIn (row_at rows x) vertex → IsOnCycle rows vertex
cycle_found rows vertex x seen queue next s at is = reach_more rows vertex x vertex (s.reached x (in_at queue next x at)) is

nat_same : (x y : ℕ) → Some x ≡ Some y → x ≡ y
nat_same x y e = cc

within_get : (xs : List ℕ) (k : ℕ) → k < length xs → (x : ℕ) × (slice_get xs k ≡ Some x)
within_get [] k lt = absurd (omega (arith, lt))
within_get (x ∷ xs) zero lt = (x, refl)
within_get (x ∷ xs) (suc k) lt = within_get xs k (omega (arith, lt))

pub get_within : (xs : List ℕ) (k x : ℕ) → slice_get xs k ≡ Some x → k < length xs
get_within [] k x e = absurd cc
get_within (y ∷ xs) zero x e = omega arith
get_within (y ∷ xs) (suc k) x e = omega (arith, get_within xs k x e)

-- what the next one leads to was seen too
pub searching_more : (rows : List (List ℕ)) (vertex x : ℕ) (seen new : List Bool) (queue added : List ℕ) (next : ℕ) → Searching rows vertex seen queue next → slice_get queue next ≡ Some x
    → Visits (row_at rows x) vertex seen new queue added → Searching rows vertex new added (next + 1)
searching_more rows vertex x seen new queue added next s at v = record {
  first = v.front vertex s.first;
  reached = λ y is. elim (v.back y is) [
    | inl h ↦ s.reached y h
    | inr h ↦ inr (reach_more rows vertex x y (s.reached x (in_at queue next x at)) h)
  ];
  marked = λ y is. elim (v.gained y is) [
    | inl h ↦ v.front y (s.marked y h)
    | inr h ↦ h
  ];
  done = λ k y lt e to is. by_place k y lt e to is (cases_lt k next);
  size = v.size ∙ s.size;
  within = let there = get_within added next x (v.at next x at) in omega (arith, there);
}
  where
    old : (k y : ℕ) → k < length queue → slice_get added k ≡ Some y → slice_get queue k ≡ Some y
    old k y lt e = let own = within_get queue k lt in own.1 ∙ ap (λ (n : ℕ). Some n) (nat_same own.0 y (sym (v.at k own.0 own.1) ∙ e))

    last : (k : ℕ) → k < next + 1 → next ≤ k → k ≡ next
    last k less le = omega (arith, less, le)

    by_place : (k y : ℕ) → k < next + 1 → slice_get added k ≡ Some y → (to : ℕ) → IsIn (row_at rows y) to → (k < next) ⊎ (next ≤ k) → (to ≡ vertex → ⊥) × IsSeen new to
    by_place k y less e to is (inl lt) = let h = s.done k y lt (old k y (omega (arith, lt, s.within)) e) to is in (h.0, v.kept to h.1)
    by_place k y less e to is (inr le) = v.others to (subst (λ (n : ℕ). IsIn (row_at rows n) to) (nat_same y x (sym e ∙ ap (slice_get added) (last k less le) ∙ v.at next x at)) is)

in_place : (xs : List ℕ) (x : ℕ) → IsIn xs x → (k : ℕ) × (slice_get xs k ≡ Some x)
in_place [] x is = absurd is
in_place (y ∷ xs) x (inl e) = (zero, ap (λ (n : ℕ). Some n) e)
in_place (y ∷ xs) x (inr more) = let rest = in_place xs x more in (suc rest.0, rest.1)

-- once all that is in the queue was visited, nothing leads back
pub none_found : (rows : List (List ℕ)) (vertex : ℕ) (seen : List Bool) (queue : List ℕ) (next : ℕ) → Searching rows vertex seen queue next → length queue ≤ next → IsOnCycle rows vertex → ⊥
none_found rows vertex seen queue next s past cycle = on vertex vertex s.first cycle refl
  where
    closed : (x to : ℕ) → IsIn queue x → IsIn (row_at rows x) to → (to ≡ vertex → ⊥) × IsIn queue to
    closed x to is edge =
        let k = in_place queue x is in
        let h = s.done k.0 x (omega (arith, past, get_within queue k.0 x k.1)) k.1 to edge in
        (h.0, s.marked to h.1)

    on : (x y : ℕ) → IsIn queue x → Way rows x y → y ≡ vertex → ⊥
    on x y is (Last from to edge) same = (closed x y is edge).0 same
    on x y is (Through from mid to edge way) same = on mid y (closed x mid is edge).1 way same
