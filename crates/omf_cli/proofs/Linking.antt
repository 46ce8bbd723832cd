-- What the linker answers is what the command makes.
use Rattle.std.proofs.Common.{◌≡◌, ◌∙◌, ℕ, zero, suc, ◌+◌, ◌-◌, ◌*◌, ◌≤◌, List, [], ◌∷◌, length, map, take, drop, sym, ap, arith}
use Rattle.std.specs.Prelude.{◌&&◌, Vec, String, string_bytes, true, nat_le, IsTrue}
use Rattle.std.specs.List.{list_all, AllByRecursion}
use Rattle.std.proofs.lemmas.Bool.{and_parts, leb-true}
use Rattle.std.specs.declared.alloc.Global.{Global}
use Rattle.std.proofs.lemmas.List.{length-map, length-take, length-drop, take-map, drop-map}
use Rattle.lib_dict.specs.declared.member.Member.{Member}
use Rattle.link_meaning.specs.declared.form.LinkForm.{LinkForm}
use Rattle.link_meaning.specs.declared.form.LinkForm.TheVariants.{Program}
use Rattle.link_meaning.specs.LinkFaults.{LinkInput}
use Rattle.load_meaning.specs.Pathnames.{IsPath}
use Rattle.link_resolve.specs.Runtimes.{files_of}
use Rattle.link_resolve.specs.Resolved.{total_size, FewGiven, HavePaths, given_of}
use Rattle.omf_making.specs.Words.{is_path, are_paths, words_of}
use Rattle.omf_making.specs.Steps.{are_printing, is_printing}
use Rattle.omf_cli.specs.Link.{given_alone, given_with}
use Rattle.omf_cli.specs.Steps.{under_paths}
use Rattle.omf_making.specs.Made.{all_bytes, AreShort}

few_bytes : (files : List (List ℕ)) → AreShort files → total_size files ≤ length files * 0x1000000
few_bytes [] short = omega arith
few_bytes (file ∷ files) short = omega (arith, short.0, few_bytes files short.1)

-- ---- run-time library files

-- as many files as a command has are few, without run-time library files
pub few_alone : (form : LinkForm) (files : List (List ℕ)) → AreShort files → length files ≤ 255 → FewGiven (given_alone form files)
few_alone form files short few = record { files = omega (arith, few); bytes = omega (arith, few_bytes files short, few) }

total_parted : (n : ℕ) (files : List (List ℕ)) → total_size (take n files) + total_size (drop n files) ≡ total_size files
total_parted zero files = omega arith
total_parted (suc n) [] = omega arith
total_parted (suc n) (file ∷ files) = omega (arith, total_parted n files)

total_under : (paths files : List (List ℕ)) → total_size (map (λ file. file.1) (under_paths paths files)) ≤ total_size files
total_under [] files = omega arith
total_under (path ∷ paths) [] = omega arith
total_under (path ∷ paths) (file ∷ files) = omega (arith, total_under paths files)

few_under : (paths files : List (List ℕ)) → (length (under_paths paths files) ≤ length files) × (length (under_paths paths files) ≤ length paths)
few_under [] files = (omega arith, omega arith)
few_under (path ∷ paths) [] = (omega arith, omega arith)
few_under (path ∷ paths) (file ∷ files) = let rest = few_under paths files in (omega (arith, rest.0), omega (arith, rest.1))

-- and those of one with run-time library files
pub few_with : (paths files : List (List ℕ)) → AreShort files → length files ≤ 255 → FewGiven (given_with paths files)
few_with paths files short few =
    let n = length files - length paths in
    let under = few_under paths (drop n files) in
    record {
      files = omega (arith, few, length-take n files, length-drop n files, under.0);
      bytes = omega (arith, few, few_bytes files short, total_parted n files, total_under paths (drop n files));
    }

paths_under : (paths files : List (List ℕ)) → list_all is_path paths ≡ true → are_printing paths ≡ true → AllByRecursion (λ (file : List ℕ × List ℕ). IsPath file.0) (under_paths paths files)
paths_under [] files are printing = tt
paths_under (path ∷ paths) [] are printing = tt
paths_under (path ∷ paths) (file ∷ files) are printing =
    let here = and_parts (is_path path) (list_all is_path paths) are in
    let plain = and_parts (is_printing path) (are_printing paths) printing in
    let size = and_parts (nat_le 1 (length path)) (nat_le (length path) 255) here.0 in
    (record { some = leb-true 1 (length path) size.0; short = leb-true (length path) 255 size.1; plain = plain.0 }, paths_under paths files here.1 plain.1)

-- and a pathname segment can hold their paths
pub paths_with : (paths files : List (List ℕ)) → IsTrue (are_paths 1 16 paths) → IsTrue (are_printing paths) → HavePaths (given_with paths files)
paths_with paths files are printing =
    let n = length files - length paths in
    let parts = and_parts (nat_le 1 (length paths) && nat_le (length paths) 16) (list_all is_path paths) are in
    let most = leb-true (length paths) 16 (and_parts (nat_le 1 (length paths)) (nat_le (length paths) 16) parts.0).1 in
    (paths_under paths (drop n files) parts.1 printing, omega (arith, most, (few_under paths (drop n files)).1))

-- the files, split in two, are what is given
pub given_parted : (paths : List (String Global)) (files inputs following : List (Vec ℕ Global)) (runtimes : List Member) → inputs ≡ take (length files - length paths) files
    → following ≡ drop (length files - length paths) files → files_of runtimes ≡ under_paths (words_of paths) (all_bytes following)
    → given_of inputs runtimes Program ≡ given_with (words_of paths) (all_bytes files)
given_parted paths files inputs following runtimes front rest under =
    let n = length files - length paths in
    let bytes = λ (file : Vec ℕ Global). file.items in
    let same : n ≡ length (all_bytes files) - length (words_of paths) = omega (arith, length-map files bytes, length-map paths string_bytes) in
    let inputs_are : all_bytes inputs ≡ take (length (all_bytes files) - length (words_of paths)) (all_bytes files) =
    ap all_bytes front ∙ sym (take-map bytes n files) ∙ ap (λ (k : ℕ). take k (all_bytes files)) same in
    let after_are : all_bytes following ≡ drop (length (all_bytes files) - length (words_of paths)) (all_bytes files) =
    ap all_bytes rest ∙ sym (drop-map bytes n files) ∙ ap (λ (k : ℕ). drop k (all_bytes files)) same in
    ap (λ (l : List (List ℕ)). made l (files_of runtimes)) inputs_are
    ∙ ap (λ (l : List (List ℕ × List ℕ)). made (take (length (all_bytes files) - length (words_of paths)) (all_bytes files)) l) (under ∙ ap (under_paths (words_of paths)) after_are)
  where
    made : List (List ℕ) → List (List ℕ × List ℕ) → LinkInput
    made inputs runtimes = record { inputs = inputs; runtimes = runtimes; form = Program }
