-- The first file at fault, of the inputs and the run-time library files after them.
use Rattle.std.proofs.Common.{◌≡◌, ℕ, ◌+◌, List, [], ◌∷◌, ◌++◌, length, map, Some, None, sym, ap, subst, ◌∙◌, append_assoc, arith}
use Rattle.std.specs.List.{AllByRecursion}
use Rattle.std.proofs.lemmas.List.{map-append, length-map, length-append}
use Rattle.omf_format.specs.File.{Segment}
use Rattle.load_meaning.specs.declared.load.LoadFault.{LoadFault}
use Rattle.load_meaning.specs.Runtime.{runtime_fault, IsRuntime, IsFirstRuntimeFault, OfLoading, OfKind}
use Rattle.load_meaning.specs.laws.LoadableLaws.{loadable_sound, loadable_same}
use Rattle.link_meaning.specs.declared.fault.LinkFault.{LinkFault}
use Rattle.link_meaning.specs.First.{HasNone, IsFirst}
use Rattle.link_meaning.specs.Member.{Input, RuntimeFile}
use Rattle.link_meaning.specs.LinkFaults.{LinkInput, InputPart, OfInput, OfRuntime, HasFileFault, HasRuntimeFault, HasPartFault, IsInput, AreInputs, AreRuntimes}
use Rattle.link_meaning.specs.laws.Steps.{parts_of}
use Rattle.link_resolve.specs.Resolved.{IsFirstInput}
use Rattle.link_resolve.specs.Runtimes.{IsFirstFile}
use Rattle.link_resolve.proofs.InputLaws.{input_sound}

-- ---- sound files

-- a run-time library file has no fault
runtime_sound : (bytes : List ℕ) (segments : List Segment) (found : LoadFault) → IsRuntime bytes segments → IsFirstRuntimeFault bytes found → ⊥
runtime_sound bytes segments found is (OfLoading first) = loadable_sound bytes segments found is.loadable first
runtime_sound bytes segments found is (OfKind other is' kind) =
    let clash : None ≡ Some found = sym is.dynamic ∙ ap runtime_fault (loadable_same bytes segments other is.loadable is') ∙ kind in
    absurd cc

-- the file was read
abbrev IsRead : InputPart → Type 0
IsRead (OfInput bytes) = (i : Input) × IsInput bytes i
IsRead (OfRuntime bytes) = (segments : List Segment) × IsRuntime bytes segments

read_sound : (front : List InputPart) (part : InputPart) (fault : LinkFault) → IsRead part → HasPartFault front part fault → ⊥
read_sound front (OfInput bytes) fault read has = input_sound (length front + 1) bytes read.0 fault read.1 has
read_sound front (OfRuntime bytes) fault read has = runtime_sound bytes read.0 has.found read.1 has.first

part_at : (front : List InputPart) (part : InputPart) (rest parts : List InputPart) → parts ≡ front ++ part ∷ rest → AllByRecursion IsRead parts → IsRead part
part_at front part rest parts e all = there front (subst (AllByRecursion IsRead) e all)
  where
    there : (xs : List InputPart) → AllByRecursion IsRead (xs ++ part ∷ rest) → IsRead part
    there [] a = a.0
    there (x ∷ xs) a = there xs a.1

none_of : (parts : List InputPart) → AllByRecursion IsRead parts → HasNone HasPartFault parts
none_of parts all front part rest fault e has = read_sound front part fault (part_at front part rest parts e all) has

inputs_read : (files : List (List ℕ)) (inputs : List Input) → AreInputs files inputs → AllByRecursion IsRead (map OfInput files)
inputs_read [] [] are = tt
inputs_read [] (i ∷ inputs) are = absurd are
inputs_read (f ∷ files) [] are = absurd are
inputs_read (f ∷ files) (i ∷ inputs) are = ((i, are.0), inputs_read files inputs are.1)

runtimes_read : (files : List (List ℕ × List ℕ)) (runtimes : List RuntimeFile) → AreRuntimes files runtimes → AllByRecursion IsRead (map (λ file. OfRuntime file.1) files)
runtimes_read [] [] are = tt
runtimes_read [] (r ∷ runtimes) are = absurd are
runtimes_read (f ∷ files) [] are = absurd are
runtimes_read (f ∷ files) (r ∷ runtimes) are = ((r.segments, are.1), runtimes_read files runtimes are.2)

all_both : (xs ys : List InputPart) → AllByRecursion IsRead xs → AllByRecursion IsRead ys → AllByRecursion IsRead (xs ++ ys)
all_both [] ys a b = b
all_both (x ∷ xs) ys a b = (a.0, all_both xs ys a.1 b)

-- where all files are read there is no fault of reading
pub none_parts : (given : LinkInput) (inputs : List Input) (runtimes : List RuntimeFile) → AreInputs given.inputs inputs → AreRuntimes given.runtimes runtimes → HasNone HasPartFault (parts_of given)
none_parts given inputs runtimes are are' =
    none_of (parts_of given) (all_both (map OfInput given.inputs) (map (λ file. OfRuntime file.1) given.runtimes) (inputs_read given.inputs inputs are) (runtimes_read given.runtimes runtimes are'))

-- ---- the first file at fault

-- an input
pub first_input : (given : LinkInput) (fault : LinkFault) → IsFirstInput given.inputs fault → IsFirst HasPartFault (parts_of given) fault
first_input given fault first =
    let runtimes = map (λ (file : List ℕ × List ℕ). OfRuntime file.1) given.runtimes in
    record {
      before = map OfInput first.before;
      item = OfInput first.item;
      after = map OfInput first.after ++ runtimes;
      parts =
          ap (λ (l : List (List ℕ)). map OfInput l ++ runtimes) first.parts
          ∙ ap (λ (l : List InputPart). l ++ runtimes) (map-append OfInput first.before (first.item ∷ first.after))
          ∙ append_assoc (map OfInput first.before) (OfInput first.item ∷ map OfInput first.after) runtimes;
      none = none_of (map OfInput first.before) (inputs_read first.before first.inputs first.are);
      here = subst (λ (n : ℕ). HasFileFault (n + 1) first.item fault) (sym (length-map first.before OfInput)) first.here;
    }

-- a run-time library file
pub first_runtime : (given : LinkInput) (fault : LinkFault) (inputs : List Input) → AreInputs given.inputs inputs → IsFirstFile (length given.inputs) given.runtimes fault → IsFirst HasPartFault (parts_of given) fault
first_runtime given fault inputs are first =
    let front = map OfInput given.inputs in
    let before = map (λ (file : List ℕ × List ℕ). OfRuntime file.1) first.before in
    let size : length given.inputs + length first.before ≡ length (front ++ before) =
    omega (arith, length-append front before, length-map given.inputs OfInput, length-map first.before (λ (file : List ℕ × List ℕ). OfRuntime file.1)) in
    record {
      before = front ++ before;
      item = OfRuntime first.item.1;
      after = map (λ file. OfRuntime file.1) first.after;
      parts =
          ap (λ (l : List (List ℕ × List ℕ)). front ++ map (λ (file : List ℕ × List ℕ). OfRuntime file.1) l) first.parts
          ∙ ap (λ (l : List InputPart). front ++ l) (map-append (λ (file : List ℕ × List ℕ). OfRuntime file.1) first.before (first.item ∷ first.after))
          ∙ sym (append_assoc front before (OfRuntime first.item.1 ∷ map (λ (file : List ℕ × List ℕ). OfRuntime file.1) first.after));
      none = none_of (front ++ before) (all_both front before (inputs_read given.inputs inputs are) (runtimes_read first.before first.runtimes first.are));
      here = subst (λ (n : ℕ). HasRuntimeFault (n + 1) first.item.1 fault) size first.here;
    }
