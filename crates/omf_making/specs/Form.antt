-- The forms of arguments, one for each command.
use Rattle.std.specs.Prelude.{ℕ, ◌-◌, ◌&&◌, if◌then◌else◌, List, [], ◌∷◌, length, drop, codes, Option, None, Some, nat_lt, nat_le}
use Rattle.std.specs.Option.{option_map, option_and_then}
use Rattle.std.specs.Str.{bytes_eq}
use Rattle.omf_making.specs.Words.{is_path, are_paths, words_of, number_between}
use Rattle.omf_making.specs.declared.form.CommandForm.{CommandForm as Words}
use Rattle.omf_making.specs.declared.form.CommandForm.TheVariants as words
use Rattle.std.specs.List.{list_all}
use Rattle.load_meaning.specs.Pathnames.{is_path_byte}

pub data CommandForm : Type 0 where
  Asm : (source output : List ℕ) (macros : List (List ℕ)) → CommandForm
  Link : (output : List ℕ) (inputs : List (List ℕ)) → CommandForm
  Dump : (inputs : List (List ℕ)) → CommandForm
  Run : (inputs : List (List ℕ)) → CommandForm
  Lib : (output : List ℕ) (inputs : List (List ℕ)) → CommandForm
  Stress : (count seed : ℕ) → CommandForm
  Rtl : (output : List ℕ) (inputs : List (List ℕ)) → CommandForm
  LinkRt : (output : List ℕ) (inputs runtimes : List (List ℕ)) → CommandForm
  Listing : (output : List ℕ) (inputs : List (List ℕ)) → CommandForm
  Compact : (output : List ℕ) (inputs : List (List ℕ)) → CommandForm

-- an output, and after it `least` to `most` inputs
abbrev pub with_output : ℕ → ℕ → List (List ℕ) → Option (List ℕ × List (List ℕ))
with_output least most [] = None
with_output least most (output ∷ inputs) = if is_path output && are_paths least most inputs then Some (output, inputs) else None

-- a source, an output, and up to 254 macro files
abbrev pub source_and_output : List (List ℕ) → Option (List ℕ × List ℕ × List (List ℕ))
source_and_output [] = None
source_and_output (source ∷ words) = if is_path source then option_map (λ w. (source, w.0, w.1)) (with_output 0 254 words) else None

-- how many dynamic segments, 1 to 64, and a seed
abbrev pub count_and_seed : List (List ℕ) → Option (ℕ × ℕ)
count_and_seed (count ∷ seed ∷ []) =
    option_and_then (λ n. option_map (λ seed. (n, seed)) (number_between 0 4294967295 seed)) (number_between 1 64 count)
count_and_seed _ = None

-- an output, how many of the inputs are run-time library files, 1 to 16 in one or two digits, and the inputs, of which these are the last:
-- there are more, and a pathname segment can hold the paths of these, whose characters print and aren't a space
abbrev pub output_and_runtimes : List (List ℕ) → Option (List ℕ × List (List ℕ) × List (List ℕ))
output_and_runtimes (output ∷ count ∷ inputs) =
    option_and_then (λ n.
    let last = drop (length inputs - n) inputs in
    if is_path output && are_paths 2 255 inputs then option_map (λ last. (output, inputs, last)) (
    if nat_lt n (length inputs) && list_all (λ path. list_all is_path_byte path) last then Some last else None)
    else None)
    (if nat_le (length count) 2 then number_between 1 16 count else None)
output_and_runtimes _ = None

-- an input, and an output after it
abbrev pub input_and_output : List (List ℕ) → Option (List ℕ × List (List ℕ))
input_and_output (input ∷ output ∷ []) = if is_path input && is_path output then Some (output, input ∷ []) else None
input_and_output _ = None

-- `asm SRC OBJ MACROS..`, `link OUT FILE..`, `dump FILE`, `run SCRIPT`, `lib OUT OBJ..`, `stress N SEED`, `rtl OUT FILE..`,
-- `linkrt OUT K FILE..`, `list OBJ SRC`, `compact IN OUT`; other arguments have no form
abbrev pub form_of : List (List ℕ) → Option CommandForm
form_of [] = None
form_of (name ∷ words) =
    if bytes_eq name (codes "asm") then option_map (λ w. Asm w.0 w.1 w.2) (source_and_output words)
    else (if bytes_eq name (codes "link") then option_map (λ w. Link w.0 w.1) (with_output 1 255 words)
    else (if bytes_eq name (codes "dump") then option_map Dump (if are_paths 1 1 words then Some words else None)
    else (if bytes_eq name (codes "run") then option_map Run (if are_paths 1 1 words then Some words else None)
    else (if bytes_eq name (codes "lib") then option_map (λ w. Lib w.0 w.1) (with_output 1 255 words)
    else (if bytes_eq name (codes "stress") then option_map (λ w. Stress w.0 w.1) (count_and_seed words)
    else (if bytes_eq name (codes "rtl") then option_map (λ w. Rtl w.0 w.1) (with_output 1 255 words)
    else (if bytes_eq name (codes "linkrt") then option_map (λ w. LinkRt w.0 w.1 w.2) (output_and_runtimes words)
    else (if bytes_eq name (codes "list") then option_map (λ w. Listing w.0 w.1) (input_and_output words)
    else (if bytes_eq name (codes "compact") then option_map (λ w. Compact w.0 w.1) (input_and_output words) else None)))))))))

-- a form as it was read from arguments
abbrev pub form_of_words : Words → CommandForm
form_of_words (words.Asm source output macros) = Asm source.now output.now (words_of macros.now)
form_of_words (words.Link output inputs) = Link output.now (words_of inputs.now)
form_of_words (words.Dump inputs) = Dump (words_of inputs.now)
form_of_words (words.Run inputs) = Run (words_of inputs.now)
form_of_words (words.Lib output inputs) = Lib output.now (words_of inputs.now)
form_of_words (words.Stress count seed) = Stress count seed
form_of_words (words.Rtl output inputs) = Rtl output.now (words_of inputs.now)
form_of_words (words.LinkRt output inputs runtimes) = LinkRt output.now (words_of inputs.now) (words_of runtimes.now)
form_of_words (words.Listing output inputs) = Listing output.now (words_of inputs.now)
form_of_words (words.Compact output inputs) = Compact output.now (words_of inputs.now)
