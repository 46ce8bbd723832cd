-- The records of a body are handed out by the reader of its text.
use Rattle.std.proofs.Common.{◌≡◌, ℕ, ◌-◌, Bool, true, false, List, [], ◌∷◌, ◌++◌, length, Option, Some, Result, Ok, refl, sym, ap, subst, ◌∙◌, append_assoc}
use Rattle.std.specs.List.{flat_map, AllByRecursion}
use Rattle.std.proofs.lemmas.List.Concat.{flat_map-cons}
use Rattle.omf_format.specs.declared.fault.Flaw.{Flaw}
use Rattle.omf_format.specs.declared.fault.RecordFault.{RecordFault}
use Rattle.omf_format.specs.Field.{written_layout}
use Rattle.omf_format.specs.Record.{Record, End, spelling, IsRecord}
use Rattle.omf_format.specs.laws.RecordLaws.{front-again}
use Rattle.omf_format.specs.Reading.{Reader, first_record, is_end, next_answer, after_next, HandsOut}
use Rattle.omf_format.specs.laws.Steps.{answer_of_reader, reader_after}

-- a record that isn't END and has a spelling
abbrev pub IsBodyRecord : Record → Type 0
IsBodyRecord r = IsRecord written_layout r × (is_end r ≡ false)

abbrev pub reader_at : ℕ → List ℕ → Bool → Reader
reader_at end left ended = record { end = end; left = left; ended = ended; layout = written_layout }

-- the text of the records and END
abbrev pub text : List Record → List ℕ
text rs = flat_map (spelling written_layout) rs ++ spelling written_layout End

-- the records with their places, and END
abbrev pub placed : ℕ → List Record → List (ℕ × Record)
placed end [] = (end - 1, End) ∷ []
placed end (r ∷ rs) = (end - length (text (r ∷ rs)), r) ∷ placed end rs

end_runs : (end : ℕ) → HandsOut (reader_at end (0 ∷ []) false) ((end - 1, End) ∷ []) (reader_at end [] true)
unfolding next_answer after_next first_record
end_runs end = (refl, refl)

next_is : (end : ℕ) (left : List ℕ) (answer : Result (Option (ℕ × Record)) RecordFault) → answer_of_reader (reader_at end left false) (first_record written_layout left) ≡ answer → next_answer (reader_at end left false) ≡ answer
unfolding next_answer
next_is end left answer e = e

after_is : (end : ℕ) (left : List ℕ) (reader : Reader) → reader_after (reader_at end left false) (first_record written_layout left) ≡ reader → after_next (reader_at end left false) ≡ reader
unfolding after_next
after_is end left reader e = e

abbrev found : Record → List ℕ → Result (Record × List ℕ) Flaw
found r rest = Ok (r, rest)

end_text : (end : ℕ) → HandsOut (reader_at end (spelling written_layout End) false) ((end - 1, End) ∷ []) (reader_at end [] true)
unfolding spelling
end_text end = end_runs end

pub runs : (rs : List Record) (end : ℕ) → AllByRecursion IsBodyRecord rs → HandsOut (reader_at end (text rs) false) (placed end rs) (reader_at end [] true)
runs [] end all = end_text end
runs (r ∷ rs) end all =
    let left = text (r ∷ rs) in
    let parts : left ≡ spelling written_layout r ++ text rs = ap (λ (l : List ℕ). l ++ spelling written_layout End) (flat_map-cons (spelling written_layout) r rs) ∙ append_assoc (spelling written_layout r) (flat_map (spelling written_layout) rs) (spelling written_layout End) in
    let read : first_record written_layout left ≡ found r (text rs) = ap (first_record written_layout) parts ∙ front-again written_layout r (text rs) all.0.0 in
    let given : answer_of_reader (reader_at end left false) (first_record written_layout left) ≡ Ok (Some (end - length left, r)) = ap (answer_of_reader (reader_at end left false)) read in
    let goes : reader_after (reader_at end left false) (first_record written_layout left) ≡ reader_at end (text rs) false = ap (reader_after (reader_at end left false)) read ∙ ap (λ (b : Bool). reader_at end (text rs) b) all.0.1 in
    (next_is end left _ given, subst (λ (x : Reader). HandsOut x (placed end rs) (reader_at end [] true)) (sym (after_is end left _ goes)) (runs rs end all.1))

-- what the records give, with END or without it
pub flat-placed : {B : Type 0} (f : Record → List B) (end : ℕ) (rs : List Record) → f End ≡ [] → flat_map (λ (x : ℕ × Record). f x.1) (placed end rs) ≡ flat_map f rs
flat-placed f end [] none = flat_map-cons (λ (x : ℕ × Record). f x.1) (end - 1, End) [] ∙ ap (λ l. l ++ []) none
flat-placed f end (r ∷ rs) none =
    flat_map-cons (λ (x : ℕ × Record). f x.1) (end - length (text (r ∷ rs)), r) (placed end rs)
    ∙ ap (λ l. f r ++ l) (flat-placed f end rs none)
    ∙ sym (flat_map-cons f r rs)
