-- Directed graphs: of each vertex, by its number, those to which an edge goes.
use Rattle.std.specs.Prelude.{◌≡◌, ◌⊎◌, ◌<◌, ℕ, zero, suc, List, [], ◌∷◌, length}

-- one of the list
abbrev pub IsIn : List ℕ → ℕ → Type 0
IsIn [] x = ⊥
IsIn (y ∷ ys) x = (y ≡ x) ⊎ IsIn ys x

-- the item with a number, from 0, or else another one
abbrev pub at_or : {A : Type 0} → A → List A → ℕ → A
at_or other [] k = other
at_or other (x ∷ xs) zero = x
at_or other (x ∷ xs) (suc k) = at_or other xs k

-- where the edges of a vertex go
abbrev pub row_at : List (List ℕ) → ℕ → List ℕ
row_at rows k = at_or [] rows k

-- from one vertex to another, by one edge or more
pub data Way (rows : List (List ℕ)) : ℕ → ℕ → Type 0 where
  Last : (from to : ℕ) → IsIn (row_at rows from) to → Way rows from to
  Through : (from next to : ℕ) → IsIn (row_at rows from) next → Way rows next to → Way rows from to

-- the vertex lies on a cycle
abbrev pub IsOnCycle : List (List ℕ) → ℕ → Type 0
IsOnCycle rows k = Way rows k k

-- each edge goes to a vertex
abbrev pub AreInside : List (List ℕ) → Type 0
AreInside rows = (from to : ℕ) → IsIn (row_at rows from) to → to < length rows
