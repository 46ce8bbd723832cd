-- Steps of definitions, as words of laws and of contracts between functions.
use Rattle.omf_making.specs.declared.form.CommandForm.TheVariants as words
use Rattle.std.specs.Prelude.{Bool, List, ℕ, None, Option, length, nat_le, if◌then◌else◌, Some, ◌&&◌, [], codes, ◌++◌, drop, nat_lt, ◌-◌}
use Rattle.std.specs.List.{list_all}
use Rattle.load_meaning.specs.Pathnames.{is_path_byte}
use Rattle.omf_making.specs.Words.{number_between, are_paths}
use Rattle.std.specs.Str.Parse.{digits_value}
use Rattle.orca_meaning.specs.Characters.{is_decimal_digit}
use Rattle.dump_lines.specs.Listing.{name_text}
use Rattle.omf_base.specs.Lines.{line}
use Rattle.omf_making.specs.Form.{CommandForm, Compact, LinkRt, Listing, Rtl, input_and_output, output_and_runtimes, with_output}
use Rattle.std.specs.Str.{bytes_eq}
use Rattle.std.specs.Option.{option_map}

-- a pathname segment can hold the path: printing characters other than a space
abbrev pub is_printing : List ℕ → Bool
is_printing word = list_all is_path_byte word

-- it can hold all these paths
abbrev pub are_printing : List (List ℕ) → Bool
are_printing words = list_all is_printing words

-- the same for a word of no more than two digits
abbrev pub short_number_between : ℕ → ℕ → List ℕ → Option ℕ
short_number_between least most word = if nat_le (length word) 2 then number_between least most word else None

-- the number that a word writes: decimal digits alone, 1 to 10 of them
abbrev pub number_in : List ℕ → Option ℕ
number_in word =
    if nat_le 1 (length word) && nat_le (length word) 10 && list_all is_decimal_digit word then Some (digits_value 10 word) else None

-- a name after a space, if there is one
abbrev pub with_name : Option (List ℕ) → List ℕ
with_name None = []
with_name (Some name) = name_text name

abbrev pub cannot_write_line : List ℕ → List ℕ
cannot_write_line path = line (codes "cannot write " ++ path)

-- after `rtl`, `linkrt`, `list` and `compact`
abbrev pub later_form : List ℕ → List (List ℕ) → Option CommandForm
later_form name words =
    if bytes_eq name (codes "rtl") then option_map (λ w. Rtl w.0 w.1) (with_output 1 255 words)
    else (if bytes_eq name (codes "linkrt") then option_map (λ w. LinkRt w.0 w.1 w.2) (output_and_runtimes words)
    else (if bytes_eq name (codes "list") then option_map (λ w. Listing w.0 w.1) (input_and_output words)
    else (if bytes_eq name (codes "compact") then option_map (λ w. Compact w.0 w.1) (input_and_output words) else None)))

-- `least` to `most` inputs
abbrev pub inputs_only : ℕ → ℕ → List (List ℕ) → Option (List (List ℕ))
inputs_only least most inputs = if are_paths least most inputs then Some inputs else None

-- the last `count` inputs, where there are more, and a pathname segment can hold their paths: printing characters other than a space
abbrev pub last_inputs : ℕ → List (List ℕ) → Option (List (List ℕ))
last_inputs count inputs =
    let last = drop (length inputs - count) inputs in
    if nat_lt count (length inputs) && list_all (λ path. list_all is_path_byte path) last then Some last else None
