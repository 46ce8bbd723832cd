-- Names in headers and records (GS/OS Reference, appendix F, LABLEN).
use Rattle.std.specs.Prelude.{ℕ, ◌+◌, List, [], ◌∷◌, take, drop, ◌==◌, if◌then◌else◌}
use Rattle.std.specs.List.{list_all}
use Rattle.omf_format.specs.Number.{number_at}

-- a list without those of its last items that all are b
abbrev pub without_trailing : ℕ → List ℕ → List ℕ
without_trailing b [] = []
without_trailing b (x ∷ xs) = if list_all (λ y. y == b) (x ∷ xs) then [] else x ∷ without_trailing b xs

-- with LABLEN 0 the name is a length byte and that many bytes, else it is LABLEN bytes without the spaces at their end
unfoldable pub name_at : ℕ → ℕ → List ℕ → List ℕ
name_at lab_len at bytes =
    if lab_len == 0 then take (number_at 1 at bytes) (drop (at + 1) bytes) else without_trailing 32 (take lab_len (drop at bytes))

-- how many bytes the name takes
unfoldable pub name_size : ℕ → ℕ → List ℕ → ℕ
name_size lab_len at bytes = if lab_len == 0 then 1 + number_at 1 at bytes else lab_len
