-- What the inputs of a form are: those of `link` and `rtl` are 1 to 255 paths, those of `linkrt` 2 to 255.
use Rattle.std.proofs.Common.{◌≡◌, ◌-◌, ◌≤◌, ℕ, zero, suc, List, [], ◌∷◌, length, drop, Option, Some, None, refl, sym, subst, arith}
use Rattle.std.specs.Prelude.{◌&&◌, Bool, true, false, cond, codes, String, string_bytes, IsTrue, nat_le, nat_lt}
use Rattle.std.specs.List.{list_all}
use Rattle.std.specs.Option.{option_map, option_and_then}
use Rattle.std.specs.Str.{bytes_eq}
use Rattle.std.specs.declared.alloc.Global.{Global}
use Rattle.std.specs.Cmp.Derive.{both_true}
use Rattle.std.proofs.lemmas.Bool.{and_parts, leb-true, le-leb, ltb-true}
use Rattle.std.proofs.lemmas.List.{length-map, length-drop}
use Rattle.omf_making.specs.Form.{CommandForm, Asm, Link, Dump, Run, Lib, Stress, Rtl, LinkRt, Listing, Compact, form_of, with_output, source_and_output, count_and_seed, output_and_runtimes, input_and_output}
use Rattle.omf_making.specs.Words.{is_path, are_paths, words_of, number_between}
use Rattle.omf_making.specs.Steps.{are_printing, short_number_between, number_in, inputs_only, last_inputs}
use Rattle.omf_commands.proofs.Libraries.{few_paths}

-- run-time library files have 1 to 16 paths that a pathname segment can hold
abbrev pub AreRuntimes : List (List ℕ) → Type 0
AreRuntimes runtimes = IsTrue (are_paths 1 16 runtimes) × IsTrue (are_printing runtimes)

-- the inputs of these three are paths, and the last ones of `linkrt` are those of run-time library files
abbrev HasPaths : Option CommandForm → Type 0
HasPaths (Some (Link output inputs)) = IsTrue (are_paths 1 255 inputs)
HasPaths (Some (Rtl output inputs)) = IsTrue (are_paths 1 255 inputs)
HasPaths (Some (LinkRt output inputs runtimes)) = IsTrue (are_paths 2 255 inputs) × AreRuntimes runtimes
HasPaths _ = Unit {0}

abbrev ArePaths : Option (List ℕ × List (List ℕ)) → Type 0
ArePaths None = Unit {0}
ArePaths (Some w) = IsTrue (are_paths 1 255 w.1)

either : (b : Bool) (x y : Option CommandForm) → HasPaths x → HasPaths y → HasPaths (cond b x y)
either true x y p q = p
either false x y p q = q

paths_after : (words : List (List ℕ)) → ArePaths (with_output 1 255 words)
paths_after [] = tt
paths_after (output ∷ inputs) = by_test (is_path output && are_paths 1 255 inputs) refl
  where
    by_test : (b : Bool) → (is_path output && are_paths 1 255 inputs) ≡ b → ArePaths (cond b (Some (output, inputs)) None)
    by_test true is = (and_parts (is_path output) (are_paths 1 255 inputs) is).1
    by_test false is = tt

of_asm : (found : Option (List ℕ × List ℕ × List (List ℕ))) → HasPaths (option_map (λ (w : List ℕ × List ℕ × List (List ℕ)). Asm w.0 w.1 w.2) found)
of_asm None = tt
of_asm (Some w) = tt

of_link : (found : Option (List ℕ × List (List ℕ))) → ArePaths found → HasPaths (option_map (λ (w : List ℕ × List (List ℕ)). Link w.0 w.1) found)
of_link None are = tt
of_link (Some w) are = are

of_lib : (found : Option (List ℕ × List (List ℕ))) → HasPaths (option_map (λ (w : List ℕ × List (List ℕ)). Lib w.0 w.1) found)
of_lib None = tt
of_lib (Some w) = tt

of_rtl : (found : Option (List ℕ × List (List ℕ))) → ArePaths found → HasPaths (option_map (λ (w : List ℕ × List (List ℕ)). Rtl w.0 w.1) found)
of_rtl None are = tt
of_rtl (Some w) are = are

of_dump : (found : Option (List (List ℕ))) → HasPaths (option_map Dump found)
of_dump None = tt
of_dump (Some inputs) = tt

of_run : (found : Option (List (List ℕ))) → HasPaths (option_map Run found)
of_run None = tt
of_run (Some inputs) = tt

-- so they are of the last inputs
abbrev HasLast : Option (List (List ℕ)) → Type 0
HasLast None = Unit {0}
HasLast (Some last) = AreRuntimes last

-- a number that lies between these
abbrev AreBetween : ℕ → ℕ → Option ℕ → Type 0
AreBetween least most None = Unit {0}
AreBetween least most (Some n) = (least ≤ n) × (n ≤ most)

between : (least most : ℕ) (word : List ℕ) → AreBetween least most (number_between least most word)
between least most word = go (number_in word)
  where
    by_test : (n : ℕ) (b : Bool) → (nat_le least n && nat_le n most) ≡ b → AreBetween least most (cond b (Some n) None)
    by_test n true is = let both = and_parts (nat_le least n) (nat_le n most) is in (leb-true least n both.0, leb-true n most both.1)
    by_test n false is = tt

    go : (found : Option ℕ) → AreBetween least most (option_and_then (λ (n : ℕ). cond (nat_le least n && nat_le n most) (Some n) None) found)
    go None = tt
    go (Some n) = by_test n (nat_le least n && nat_le n most) refl

of_stress : (found : Option (ℕ × ℕ)) → HasPaths (option_map (λ (w : ℕ × ℕ). Stress w.0 w.1) found)
of_stress None = tt
of_stress (Some w) = tt

short_between : (least most : ℕ) (word : List ℕ) → AreBetween least most (short_number_between least most word)
short_between least most word = go (nat_le (length word) 2)
  where
    go : (b : Bool) → AreBetween least most (cond b (number_between least most word) None)
    go true = between least most word
    go false = tt

-- of paths, the last ones are paths too
last_are : (at : ℕ) (words : List (List ℕ)) → list_all is_path words ≡ true → list_all is_path (drop at words) ≡ true
last_are zero words all = all
last_are (suc at) [] all = all
last_are (suc at) (w ∷ words) all = last_are at words (and_parts (is_path w) (list_all is_path words) all).1

last_runtimes : (n : ℕ) (inputs : List (List ℕ)) → 1 ≤ n → n ≤ 16 → IsTrue (are_paths 2 255 inputs) → HasLast (last_inputs n inputs)
last_runtimes n inputs some few are = by_test (nat_lt n (length inputs) && are_printing (drop (length inputs - n) inputs)) refl
  where
    last : List (List ℕ)
    last = drop (length inputs - n) inputs

    by_test : (b : Bool) → (nat_lt n (length inputs) && are_printing last) ≡ b → HasLast (cond b (Some last) None)
    by_test false is = tt
    by_test true is =
        let both = and_parts (nat_lt n (length inputs)) (are_printing last) is in
        let paths = (and_parts (nat_le 2 (length inputs) && nat_le (length inputs) 255) (list_all is_path inputs) are).1 in
        let size : length last ≡ n = omega (arith, length-drop (length inputs - n) inputs, ltb-true n (length inputs) both.0) in
        (both_true (both_true (le-leb 1 (length last) (omega (arith, size, some))) (le-leb (length last) 16 (omega (arith, size, few)))) (last_are (length inputs - n) inputs paths), both.1)

of_linkrt : (words : List (List ℕ)) → HasPaths (option_map (λ (w : List ℕ × List (List ℕ) × List (List ℕ)). LinkRt w.0 w.1 w.2) (output_and_runtimes words))
of_linkrt [] = tt
of_linkrt (output ∷ []) = tt
of_linkrt (output ∷ count ∷ inputs) = go (short_number_between 1 16 count) (short_between 1 16 count)
  where
    in_form : (last : Option (List (List ℕ))) → IsTrue (are_paths 2 255 inputs) → HasLast last
        → HasPaths (option_map (λ (w : List ℕ × List (List ℕ) × List (List ℕ)). LinkRt w.0 w.1 w.2) (option_map (λ (l : List (List ℕ)). (output, inputs, l)) last))
    in_form None are has = tt
    in_form (Some last) are has = (are, has)

    by_test : (n : ℕ) (b : Bool) → AreBetween 1 16 (Some n) → (is_path output && are_paths 2 255 inputs) ≡ b
        → HasPaths (option_map (λ (w : List ℕ × List (List ℕ) × List (List ℕ)). LinkRt w.0 w.1 w.2) (cond b (option_map (λ (l : List (List ℕ)). (output, inputs, l)) (last_inputs n inputs)) None))
    by_test n false has is = tt
    by_test n true has is =
        let are = (and_parts (is_path output) (are_paths 2 255 inputs) is).1 in
        in_form (last_inputs n inputs) are (last_runtimes n inputs has.0 has.1 are)

    go : (found : Option ℕ) → AreBetween 1 16 found
        → HasPaths (option_map (λ (w : List ℕ × List (List ℕ) × List (List ℕ)). LinkRt w.0 w.1 w.2)
        (option_and_then (λ (n : ℕ). cond (is_path output && are_paths 2 255 inputs) (option_map (λ (l : List (List ℕ)). (output, inputs, l)) (last_inputs n inputs)) None) found))
    go None are = tt
    go (Some n) are = by_test n (is_path output && are_paths 2 255 inputs) are refl

of_listing : (found : Option (List ℕ × List (List ℕ))) → HasPaths (option_map (λ (w : List ℕ × List (List ℕ)). Listing w.0 w.1) found)
of_listing None = tt
of_listing (Some w) = tt

of_compact : (found : Option (List ℕ × List (List ℕ))) → HasPaths (option_map (λ (w : List ℕ × List (List ℕ)). Compact w.0 w.1) found)
of_compact None = tt
of_compact (Some w) = tt

paths_in : (words : List (List ℕ)) → HasPaths (form_of words)
paths_in [] = tt
paths_in (name ∷ words) =
    either (bytes_eq name (codes "asm")) _ _ (of_asm (source_and_output words))
    (either (bytes_eq name (codes "link")) _ _ (of_link (with_output 1 255 words) (paths_after words))
    (either (bytes_eq name (codes "dump")) _ _ (of_dump (inputs_only 1 1 words))
    (either (bytes_eq name (codes "run")) _ _ (of_run (inputs_only 1 1 words))
    (either (bytes_eq name (codes "lib")) _ _ (of_lib (with_output 1 255 words))
    (either (bytes_eq name (codes "stress")) _ _ (of_stress (count_and_seed words))
    (either (bytes_eq name (codes "rtl")) _ _ (of_rtl (with_output 1 255 words) (paths_after words))
    (either (bytes_eq name (codes "linkrt")) _ _ (of_linkrt words)
    (either (bytes_eq name (codes "list")) _ _ (of_listing (input_and_output words))
    (either (bytes_eq name (codes "compact")) _ _ (of_compact (input_and_output words)) tt)))))))))

-- `link` has 255 inputs at most
pub link_few : (words : List (List ℕ)) (output : List ℕ) (inputs : List (String Global)) → Some (Link output (words_of inputs)) ≡ form_of words → length inputs ≤ 255
link_few words output inputs is =
    let are : IsTrue (are_paths 1 255 (words_of inputs)) = subst HasPaths (sym is) (paths_in words) in
    omega (arith, few_paths (words_of inputs) are, length-map inputs string_bytes)

-- `rtl` has 255 inputs at most
pub rtl_few : (words : List (List ℕ)) (output : List ℕ) (inputs : List (String Global)) → Some (Rtl output (words_of inputs)) ≡ form_of words → length inputs ≤ 255
rtl_few words output inputs is =
    let are : IsTrue (are_paths 1 255 (words_of inputs)) = subst HasPaths (sym is) (paths_in words) in
    omega (arith, few_paths (words_of inputs) are, length-map inputs string_bytes)

-- `linkrt` has 255 inputs at most, and 1 to 16 run-time library files with paths that a pathname segment can hold
pub linkrt_few : (words : List (List ℕ)) (output : List ℕ) (inputs : List (String Global)) (runtimes : List (List ℕ)) → Some (LinkRt output (words_of inputs) runtimes) ≡ form_of words
    → (length inputs ≤ 255) × AreRuntimes runtimes
linkrt_few words output inputs runtimes is =
    let are : IsTrue (are_paths 2 255 (words_of inputs)) × AreRuntimes runtimes = subst HasPaths (sym is) (paths_in words) in
    let counts = (and_parts (nat_le 2 (length (words_of inputs)) && nat_le (length (words_of inputs)) 255) (list_all is_path (words_of inputs)) are.0).0 in
    let few = leb-true (length (words_of inputs)) 255 (and_parts (nat_le 2 (length (words_of inputs))) (nat_le (length (words_of inputs)) 255) counts).1 in
    (omega (arith, few, length-map inputs string_bytes), are.1)
