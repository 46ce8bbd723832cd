-- What inputs are read as.
use Rattle.std.proofs.Common.{◌≡◌, ℕ, ◌+◌, List, [], ◌∷◌, ◌++◌, Option, Some, None, Result, Ok, Err, sym, ap, ◌∙◌}
use Rattle.omf_format.specs.laws.FileLaws.{file_same, no_file}
use Rattle.link_meaning.specs.declared.fault.LinkFault.{LinkFault}
use Rattle.link_meaning.specs.Member.{OfferedRow, Input}
use Rattle.link_meaning.specs.LinkFaults.{segments_fault, rows_in_file, HasFileFault, OfFile, OfSegment, OfDictionary, IsInput, AreInputs}

abbrev some : {A : Type 0} → A → Option A
some x = Some x

abbrev failed : ℕ → Result (List OfferedRow) ℕ
failed at = Err at

abbrev fine : List OfferedRow → Result (List OfferedRow) ℕ
fine rows = Ok rows

not_both : (at : ℕ) (rows : List OfferedRow) → failed at ≡ fine rows → ⊥
not_both at rows e = cc

-- what an input is has no fault
pub input_sound : (file : ℕ) (bytes : List ℕ) (i : Input) (fault : LinkFault) → IsInput bytes i → HasFileFault file bytes fault → ⊥
input_sound file bytes i fault is (OfFile x first says) = no_file bytes x i.segments first is.is_file
input_sound file bytes i fault is (OfSegment segments found is_file has says) =
    let same : segments ≡ i.segments = file_same segments i.segments bytes is_file is.is_file in
    let clash : some found ≡ None = sym has ∙ ap (segments_fault 1) same ∙ is.sound in
    cc
input_sound file bytes i fault is (OfDictionary segments at is_file none has says) =
    let same : segments ≡ i.segments = file_same segments i.segments bytes is_file is.is_file in
    not_both at i.rows (sym has ∙ ap rows_in_file same ∙ is.rows)

pub inputs_more : (files : List (List ℕ)) (inputs : List Input) (bytes : List ℕ) (i : Input) → AreInputs files inputs → IsInput bytes i → AreInputs (files ++ bytes ∷ []) (inputs ++ i ∷ [])
inputs_more [] [] bytes i are is = (is, tt)
inputs_more [] (x ∷ inputs) bytes i are is = absurd are
inputs_more (f ∷ files) [] bytes i are is = absurd are
inputs_more (f ∷ files) (x ∷ inputs) bytes i are is = (are.0, inputs_more files inputs bytes i are.1 is)
