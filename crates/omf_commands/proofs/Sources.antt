-- The inputs of `asm`, and what it makes of them.
use Rattle.std.proofs.Common.{◌≡◌, ℕ, ◌≤◌, List, [], ◌∷◌, length, Option, Some, None, Result, Ok, Err, IfOk, refl, ap, subst, arith}
use Rattle.std.specs.Prelude.{◌&&◌, Bool, true, false, cond, nat_le, codes, String, string_bytes}
use Rattle.std.specs.Option.{option_map}
use Rattle.std.specs.List.{list_all}
use Rattle.std.specs.Str.{bytes_eq}
use Rattle.std.proofs.lemmas.Bool.{and_parts, leb-true}
use Rattle.std.specs.declared.alloc.Global.{Global}
use Rattle.std.proofs.lemmas.List.{length-map}
use Rattle.asm_meaning.specs.declared.faults.AsmFault.{AsmFault}
use Rattle.source_meaning.specs.Object.{IsAsmFault, OutOfMemory, First}
use Rattle.omf_making.specs.Form.{CommandForm, Asm, Link, Dump, Run, Lib, Stress, Rtl, LinkRt, Listing, Compact, form_of, with_output, source_and_output, count_and_seed, output_and_runtimes, input_and_output}
use Rattle.omf_making.specs.Steps.{inputs_only}
use Rattle.omf_making.specs.Words.{is_path, are_paths, words_of}
use Rattle.omf_making.specs.declared.making.Making.{Making}
use Rattle.omf_making.specs.Made.{Made, Bytes, Refusal, made_of, first_of}
use Rattle.omf_commands.specs.Assemble.{AsmMakes, ReportsAsmFault, following_first}

-- ---- inputs

-- ---- how many macro files a form has

abbrev macros_of : Option CommandForm → List (List ℕ)
macros_of None = []
macros_of (Some (Asm source output macros)) = macros
macros_of (Some (Link output inputs)) = []
macros_of (Some (Dump inputs)) = []
macros_of (Some (Run inputs)) = []
macros_of (Some (Lib output inputs)) = []
macros_of (Some (Stress count seed)) = []
macros_of (Some (Rtl output inputs)) = []
macros_of (Some (LinkRt output inputs runtimes)) = []
macros_of (Some (Listing output inputs)) = []
macros_of (Some (Compact output inputs)) = []

abbrev HasFew : Option CommandForm → Type 0
HasFew form = length (macros_of form) ≤ 254

abbrev AreFew : Option (List ℕ × List (List ℕ)) → Type 0
AreFew None = Unit {0}
AreFew (Some w) = length w.1 ≤ 254

either : (b : Bool) (x y : Option CommandForm) → HasFew x → HasFew y → HasFew (cond b x y)
either true x y p q = p
either false x y p q = q

few_after : (words : List (List ℕ)) → AreFew (with_output 0 254 words)
few_after [] = tt
few_after (output ∷ inputs) = by_test (is_path output && are_paths 0 254 inputs) refl
  where
    by_test : (b : Bool) → (is_path output && are_paths 0 254 inputs) ≡ b → AreFew (cond b (Some (output, inputs)) None)
    by_test true is =
        let all = (and_parts (is_path output) (are_paths 0 254 inputs) is).1 in
        let counts = (and_parts (nat_le 0 (length inputs) && nat_le (length inputs) 254) (list_all is_path inputs) all).0 in
        leb-true (length inputs) 254 (and_parts (nat_le 0 (length inputs)) (nat_le (length inputs) 254) counts).1
    by_test false is = tt

few_asm : (words : List (List ℕ)) → HasFew (option_map (λ (w : List ℕ × List ℕ × List (List ℕ)). Asm w.0 w.1 w.2) (source_and_output words))
few_asm [] = omega arith
few_asm (source ∷ words) = by_path (is_path source) (with_output 0 254 words) (few_after words)
  where
    by_path : (b : Bool) (found : Option (List ℕ × List (List ℕ))) → AreFew found → HasFew (option_map (λ (w : List ℕ × List ℕ × List (List ℕ)). Asm w.0 w.1 w.2) (cond b (option_map (λ (w : List ℕ × List (List ℕ)). (source, w.0, w.1)) found) None))
    by_path true None few = omega arith
    by_path true (Some w) few = few
    by_path false found few = omega arith

few_link : (found : Option (List ℕ × List (List ℕ))) → HasFew (option_map (λ (w : List ℕ × List (List ℕ)). Link w.0 w.1) found)
few_link None = omega arith
few_link (Some w) = omega arith

few_lib : (found : Option (List ℕ × List (List ℕ))) → HasFew (option_map (λ (w : List ℕ × List (List ℕ)). Lib w.0 w.1) found)
few_lib None = omega arith
few_lib (Some w) = omega arith

few_dump : (found : Option (List (List ℕ))) → HasFew (option_map Dump found)
few_dump None = omega arith
few_dump (Some inputs) = omega arith

few_run : (found : Option (List (List ℕ))) → HasFew (option_map Run found)
few_run None = omega arith
few_run (Some inputs) = omega arith

few_stress : (found : Option (ℕ × ℕ)) → HasFew (option_map (λ (w : ℕ × ℕ). Stress w.0 w.1) found)
few_stress None = omega arith
few_stress (Some w) = omega arith

few_rtl : (found : Option (List ℕ × List (List ℕ))) → HasFew (option_map (λ (w : List ℕ × List (List ℕ)). Rtl w.0 w.1) found)
few_rtl None = omega arith
few_rtl (Some w) = omega arith

few_linkrt : (found : Option (List ℕ × List (List ℕ) × List (List ℕ))) → HasFew (option_map (λ (w : List ℕ × List (List ℕ) × List (List ℕ)). LinkRt w.0 w.1 w.2) found)
few_linkrt None = omega arith
few_linkrt (Some w) = omega arith

few_compact : (found : Option (List ℕ × List (List ℕ))) → HasFew (option_map (λ (w : List ℕ × List (List ℕ)). Compact w.0 w.1) found)
few_compact None = omega arith
few_compact (Some w) = omega arith

few_listing : (found : Option (List ℕ × List (List ℕ))) → HasFew (option_map (λ (w : List ℕ × List (List ℕ)). Listing w.0 w.1) found)
few_listing None = omega arith
few_listing (Some w) = omega arith

few_in : (words : List (List ℕ)) → HasFew (form_of words)
few_in [] = omega arith
few_in (name ∷ words) =
    either (bytes_eq name (codes "asm")) _ _ (few_asm words)
    (either (bytes_eq name (codes "link")) _ _ (few_link (with_output 1 255 words))
    (either (bytes_eq name (codes "dump")) _ _ (few_dump (inputs_only 1 1 words))
    (either (bytes_eq name (codes "run")) _ _ (few_run (inputs_only 1 1 words))
    (either (bytes_eq name (codes "lib")) _ _ (few_lib (with_output 1 255 words))
    (either (bytes_eq name (codes "stress")) _ _ (few_stress (count_and_seed words))
    (either (bytes_eq name (codes "rtl")) _ _ (few_rtl (with_output 1 255 words))
    (either (bytes_eq name (codes "linkrt")) _ _ (few_linkrt (output_and_runtimes words))
    (either (bytes_eq name (codes "list")) _ _ (few_listing (input_and_output words))
    (either (bytes_eq name (codes "compact")) _ _ (few_compact (input_and_output words)) (omega arith))))))))))

-- they are 254 at most
pub few_macros : (words : List (List ℕ)) (source output : List ℕ) (macros : List (String Global)) → Some (Asm source output (words_of macros)) ≡ form_of words → length macros ≤ 254
few_macros words source output macros is =
    let same : length (words_of macros) ≡ length (macros_of (form_of words)) = ap (λ (o : Option CommandForm). length (macros_of o)) is in
    omega (arith, same, few_in words, length-map macros string_bytes)

-- ---- what is made

-- a fault other than out of memory is the first fault
pub reported_asm : (files : List (List ℕ)) (fault : AsmFault) (made : Made) → IsAsmFault (first_of files) (following_first files) fault → ReportsAsmFault fault made → AsmMakes files made
reported_asm files fault (Bytes bytes) is reports = absurd reports
reported_asm files fault (Refusal text) (OutOfMemory memory) reports = absurd (reports.0 (ap (λ (f : AsmFault). f.cause) memory))
reported_asm files fault (Refusal text) (First first) reports = (fault, first, reports.1)

-- and so is what is reported for it
pub reported_making : {E : Type 0} → (files macros : List (List ℕ)) (source : List ℕ) (fault : AsmFault) (r : Result Making E) → source ≡ first_of files → macros ≡ following_first files
    → IsAsmFault source macros fault → IfOk r (λ made. ReportsAsmFault fault (made_of made)) → IfOk r (λ made. AsmMakes files (made_of made))
reported_making files macros source fault (Ok made) source_is macros_is is reports =
    reported_asm files fault (made_of made) (subst (λ (s : List ℕ). IsAsmFault s (following_first files) fault) source_is (subst (λ (m : List (List ℕ)). IsAsmFault source m fault) macros_is is)) reports
reported_making files macros source fault (Err error) source_is macros_is is reports = reports
