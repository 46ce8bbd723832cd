-- A body's records, up to a reader's place: `before` are those between its start and where it is.
use Rattle.std.proofs.Common.{◌≡◌, ℕ, true, List, [], ◌∷◌, ◌++◌, Some, None, Ok, Err, sym, ap, ◌∙◌}
use Rattle.std.specs.List.{flat_map}
use Rattle.std.proofs.lemmas.List.{append-nil}
use Rattle.std.proofs.lemmas.Grind.{flat_map-append}
use Rattle.omf_format.specs.declared.fault.RecordFault.{RecordFault}
use Rattle.omf_format.specs.Record.{Record}
use Rattle.omf_format.specs.Reading.{Reader, next_answer, after_next, HandsOut, records_of, IsBody}
use Rattle.omf_format.specs.laws.FileLaws.{ended_at_none, HandsOut-append, HandsOut-same, no_run}

-- one record more
pub walk_on : (start at next : Reader) (before : List (ℕ × Record)) (found : ℕ × Record) → HandsOut start before at → next_answer at ≡ Ok (Some found) → next ≡ after_next at
    → HandsOut start (before ++ found ∷ []) next
walk_on start at next before found run e after = HandsOut-append start before (found ∷ []) at next run (e, sym after)

-- at the end they are all
pub walk_ends : (start at last : Reader) (before founds : List (ℕ × Record)) → HandsOut start before at → next_answer at ≡ Ok None → HandsOut start founds last → last.ended ≡ true → before ≡ founds
walk_ends start at last before founds run e all ended = HandsOut-same start before founds at last run all (ended_at_none at e) ended

-- there is no fault
pub walk_fails : (start at : Reader) (before : List (ℕ × Record)) (fault : RecordFault) → IsBody start → HandsOut start before at → next_answer at ≡ Err fault → ⊥
walk_fails start at before fault comes run e = no_run start before (records_of start) at comes.last fault run e comes.run comes.ended

-- what a record gives follows what those before it gave
pub gives_more : (f : ℕ × Record → List ℕ) (before : List (ℕ × Record)) (found : ℕ × Record) → flat_map f before ++ f found ≡ flat_map f (before ++ found ∷ [])
gives_more f before found = ap (λ (l : List ℕ). flat_map f before ++ l) (sym (append-nil (f found))) ∙ sym (flat_map-append f before (found ∷ []))
