-- What is read is a record of the format.
use Rattle.std.proofs.Common.{◌≡◌, ℕ, List, get_or, Fits, w8, Ok}
use Rattle.omf_format.specs.Number.{IsBytes}
use Rattle.omf_format.specs.Field.{Layout}
use Rattle.omf_format.specs.Record.{Record, IsRecord}
use Rattle.omf_format.specs.laws.RecordLaws.{front-takes}
use Rattle.omf_format.specs.Reading.{first_record}

pub front-formed : (l : Layout) (bytes : List ℕ) (found : Record × List ℕ) → ((i : ℕ) → Fits w8 (get_or bytes i 0)) → first_record l bytes ≡ Ok found → IsRecord l found.0
front-formed l bytes found each read =
    let fits : IsBytes bytes = λ i. (each i).fits in
    (front-takes l bytes found fits read).record'
