-- Going over the records of a body for the first that is looked for.
use Rattle.std.proofs.Common.{◌≡◌, ℕ, true, List, [], ◌∷◌, Some, None, Ok, Err, refl, sym, ap, ◌∙◌}
use Rattle.omf_format.specs.declared.fault.RecordFault.{RecordFault}
use Rattle.omf_format.specs.Record.{Record}
use Rattle.omf_format.specs.Reading.{Reader, next_answer, after_next, HandsOut, records_of, IsBody}
use Rattle.omf_format.specs.laws.FileLaws.{Answer, gave, same_found, open_at_some, open_at_fault}

abbrev failed : RecordFault → Answer
failed fault = Err fault

-- what is found in all records is found in those that are left
pub record Same {A : Type 0} (find : List (ℕ × Record) → A) (start at : Reader) : Type 0 where
  pub back : List (ℕ × Record)
  pub last : Reader
  pub run : HandsOut at back last
  pub ended : last.ended ≡ true
  pub same : find (records_of start) ≡ find back

pub same_all : {A : Type 0} (find : List (ℕ × Record) → A) (r : Reader) → IsBody r → Same find r r
same_all find r is = record { back = records_of r; last = is.last; run = is.run; ended = is.ended; same = refl }

-- the next record is the first that is left
pub same_next : {A : Type 0} (find : List (ℕ × Record) → A) (start at : Reader) (found : ℕ × Record) → Same find start at → next_answer at ≡ Ok (Some found)
    → (more : List (ℕ × Record)) × (last : Reader) × HandsOut (after_next at) more last × (last.ended ≡ true) × (find (records_of start) ≡ find (found ∷ more))
same_next find start at found s e = by_back s.back s.run s.same
  where
    by_back : (back : List (ℕ × Record)) → HandsOut at back s.last → find (records_of start) ≡ find back
        → (more : List (ℕ × Record)) × (last : Reader) × HandsOut (after_next at) more last × (last.ended ≡ true) × (find (records_of start) ≡ find (found ∷ more))
    by_back [] run same = absurd (open_at_some at found e (ap (λ (r : Reader). r.ended) run ∙ s.ended))
    by_back (other ∷ back) run same =
        let is : other ≡ found = same_found other found (sym run.0 ∙ e) in
        (back, s.last, run.1, s.ended, same ∙ ap (λ (f : ℕ × Record). find (f ∷ back)) is)

-- one that isn't looked for is passed over
pub same_more : {A : Type 0} (find : List (ℕ × Record) → A) (start at : Reader) (found : ℕ × Record) → Same find start at → next_answer at ≡ Ok (Some found)
    → ((more : List (ℕ × Record)) → find (found ∷ more) ≡ find more) → Same find start (after_next at)
same_more find start at found s e passed =
    let next = same_next find start at found s e in
    record { back = next.0; last = next.1; run = next.2; ended = next.3; same = next.4 ∙ passed next.0 }

pub same_none : {A : Type 0} (find : List (ℕ × Record) → A) (start at : Reader) → Same find start at → next_answer at ≡ Ok None → find (records_of start) ≡ find []
same_none find start at s e = by_back s.back s.run s.same
  where
    by_back : (back : List (ℕ × Record)) → HandsOut at back s.last → find (records_of start) ≡ find back → find (records_of start) ≡ find []
    by_back [] run same = same
    by_back (other ∷ back) run same = let clash : gave other ≡ Ok None = sym run.0 ∙ e in absurd cc

pub same_fault : {A : Type 0} (find : List (ℕ × Record) → A) (start at : Reader) (fault : RecordFault) → Same find start at → next_answer at ≡ Err fault → ⊥
same_fault find start at fault s e = by_back s.back s.run
  where
    by_back : (back : List (ℕ × Record)) → HandsOut at back s.last → ⊥
    by_back [] run = open_at_fault at fault e (ap (λ (r : Reader). r.ended) run ∙ s.ended)
    by_back (other ∷ back) run = let clash : gave other ≡ failed fault = sym run.0 ∙ e in cc
