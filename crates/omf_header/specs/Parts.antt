-- The numbers of a written header in four parts.
use Rattle.std.specs.Prelude.{ℕ, List, [], ◌∷◌, ◌++◌}
use Rattle.omf_format.specs.Header.{HeaderFields}

-- up to VERSION
abbrev pub sizes : ℕ → HeaderFields → List (ℕ × ℕ)
sizes byte_count f = (4, byte_count) ∷ (4, f.res_spc) ∷ (4, f.length) ∷ (1, 0) ∷ (1, 0) ∷ (1, 4) ∷ (1, 2) ∷ []

-- from BANKSIZE to ALIGN
abbrev pub placement : HeaderFields → List (ℕ × ℕ)
placement f = (4, f.bank_size) ∷ (2, f.kind) ∷ (2, 0) ∷ (4, f.org) ∷ (4, f.align) ∷ []

-- from NUMSEX to ENTRY
abbrev pub order : HeaderFields → List (ℕ × ℕ)
order f = (1, 0) ∷ (1, 0) ∷ (2, f.seg_num) ∷ (4, f.entry) ∷ []

-- the two displacements
abbrev pub displacements : ℕ → List (ℕ × ℕ)
displacements disp_data = (2, 0x2C) ∷ (2, disp_data) ∷ []

-- all of them
abbrev pub numbers : ℕ → ℕ → HeaderFields → List (ℕ × ℕ)
numbers byte_count disp_data f = sizes byte_count f ++ placement f ++ order f ++ displacements disp_data
