-- How the edges of a graph are kept.
use Rattle.std.specs.Prelude.{◌-◌, ◌≤◌, ℕ, List, [], ◌∷◌, length, map, take, drop}
use Rattle.cycles.specs.declared.graph.EdgeSpan.{EdgeSpan}

-- what is kept for one vertex
abbrev pub ends_of : List ℕ → EdgeSpan → List ℕ
ends_of ends span = take (span.to - span.from) (drop span.from ends)

pub record Fits (ends : List ℕ) (span : EdgeSpan) : Type 0 where
  pub ordered : span.from ≤ span.to
  pub within : span.to ≤ length ends

abbrev pub AllFit : List ℕ → List EdgeSpan → Type 0
AllFit ends [] = Unit {0}
AllFit ends (span ∷ spans) = Fits ends span × AllFit ends spans

-- what is kept for all vertices
abbrev pub rows_in : List ℕ → List EdgeSpan → List (List ℕ)
rows_in ends spans = map (ends_of ends) spans
