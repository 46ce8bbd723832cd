-- Steps of definitions, as words of laws and of contracts between functions.
use Rattle.std.specs.Prelude.{ℕ, ◌≤◌}
use Rattle.omf_io.specs.Counts.{one_more}

-- the count rose, or has stopped at its end
abbrev pub Rose : ℕ → ℕ → Type 0
Rose before now = one_more before ≤ now
