-- A store in memory whose calls don't fail.
use Rattle.std.specs.Prelude.{ℕ, Some, refl}
use Rattle.std.specs.Coded.{Coded, code_by, coded×, coded_list, coded_ℕ}
use Rattle.std.specs.FinMap as map
use Rattle.omf_io.specs.Files.{FileMap, StoreSeen}

-- its files, and how often it was read
pub record StoreContent : Type 0 where
  pub files : FileMap
  pub asked : ℕ

abbrev pub held_code : Coded StoreContent
held_code =
    code_by (FileMap × ℕ) (coded× (map.code (coded_list coded_ℕ) (coded_list coded_ℕ)) coded_ℕ) (λ s. (s.files, s.asked))
    (λ p. record { files = p.0; asked = p.1 }) (λ _. refl)

-- it reveals its files, and nothing of it ever fails
abbrev pub seen : StoreContent → StoreSeen
seen store = record { held = Some store.files; faults = 0; asked = store.asked }
