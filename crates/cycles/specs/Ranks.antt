-- Ranks of a graph's vertices, and the search for a cycle.
use Rattle.std.specs.Prelude.{◌≡◌, ◌⊎◌, ◌+◌, ◌<◌, ◌≤◌, ℕ, Bool, true, false, List, [], ◌∷◌, length, Option, Some, None, slice_get}
use Rattle.cycles.specs.Graphs.{IsIn, at_or, row_at, Way, IsOnCycle}

-- the rank of a vertex; 0 where it has none
abbrev pub rank_at : List ℕ → ℕ → ℕ
rank_at ranks k = at_or 0 ranks k

-- no edge of the vertex goes to a higher rank
abbrev pub Falls : List (List ℕ) → List ℕ → ℕ → Type 0
Falls rows ranks from = (to : ℕ) → IsIn (row_at rows from) to → rank_at ranks to ≤ rank_at ranks from

-- and each goes to a lower one
abbrev pub FallsFrom : List (List ℕ) → List ℕ → ℕ → Type 0
FallsFrom rows ranks from = (to : ℕ) → IsIn (row_at rows from) to → rank_at ranks to < rank_at ranks from

abbrev pub AreRanks : List (List ℕ) → List ℕ → Type 0
AreRanks rows ranks = (from : ℕ) → Falls rows ranks from

-- the answer says whether the vertex lies on a cycle
abbrev pub ReportsCycle : List (List ℕ) → ℕ → Bool → Type 0
ReportsCycle rows k true = IsOnCycle rows k
ReportsCycle rows k false = IsOnCycle rows k → ⊥

-- the first vertex that lies on a cycle, if there is one
abbrev pub IsFirstCycle : List (List ℕ) → Option ℕ → Type 0
IsFirstCycle rows None = (k : ℕ) → k < length rows → IsOnCycle rows k → ⊥
IsFirstCycle rows (Some n) = (n < length rows) × IsOnCycle rows n × ((k : ℕ) → k < n → IsOnCycle rows k → ⊥)

-- how many of these are false
abbrev pub unseen : List Bool → ℕ
unseen [] = 0
unseen (true ∷ seen) = unseen seen
unseen (false ∷ seen) = unseen seen + 1

-- the vertex was seen
abbrev pub IsSeen : List Bool → ℕ → Type 0
IsSeen seen k = slice_get seen k ≡ Some true

-- the ends of edges were seen, of which none is the vertex: those that weren't seen before were added to the queue
pub record Visits (row : List ℕ) (vertex : ℕ) (seen new : List Bool) (queue added : List ℕ) : Type 0 where
  pub others : (to : ℕ) → IsIn row to → (to ≡ vertex → ⊥) × IsSeen new to
  pub kept : (k : ℕ) → IsSeen seen k → IsSeen new k
  pub gained : (k : ℕ) → IsSeen new k → IsSeen seen k ⊎ IsIn added k
  pub front : (k : ℕ) → IsIn queue k → IsIn added k
  pub at : (k x : ℕ) → slice_get queue k ≡ Some x → slice_get added k ≡ Some x
  pub back : (k : ℕ) → IsIn added k → IsIn queue k ⊎ IsIn row k
  pub size : length new ≡ length seen
  pub measure : unseen new + length added ≡ unseen seen + length queue

-- the first edges were visited, and these are left
pub record Visiting (row : List ℕ) (vertex : ℕ) (left : List ℕ) (seen new : List Bool) (queue added : List ℕ) : Type 0 where
  pub among : (to : ℕ) → IsIn left to → IsIn row to
  pub others : (to : ℕ) → IsIn row to → IsIn left to ⊎ ((to ≡ vertex → ⊥) × IsSeen new to)
  pub kept : (k : ℕ) → IsSeen seen k → IsSeen new k
  pub gained : (k : ℕ) → IsSeen new k → IsSeen seen k ⊎ IsIn added k
  pub front : (k : ℕ) → IsIn queue k → IsIn added k
  pub at : (k x : ℕ) → slice_get queue k ≡ Some x → slice_get added k ≡ Some x
  pub back : (k : ℕ) → IsIn added k → IsIn queue k ⊎ IsIn row k
  pub size : length new ≡ length seen
  pub measure : unseen new + length added ≡ unseen seen + length queue

-- the queue holds the vertex and others that are reached from it, and the vertices to which its first ones lead were seen
pub record Searching (rows : List (List ℕ)) (vertex : ℕ) (seen : List Bool) (queue : List ℕ) (next : ℕ) : Type 0 where
  pub first : IsIn queue vertex
  pub reached : (x : ℕ) → IsIn queue x → (x ≡ vertex) ⊎ Way rows vertex x
  pub marked : (x : ℕ) → IsSeen seen x → IsIn queue x
  pub done : (k x : ℕ) → k < next → slice_get queue k ≡ Some x → (to : ℕ) → IsIn (row_at rows x) to → (to ≡ vertex → ⊥) × IsSeen seen to
  pub size : length seen ≡ length rows
  pub within : next ≤ length queue
