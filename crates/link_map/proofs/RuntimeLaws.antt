-- The lines of the run-time library files.
use Rattle.std.proofs.Common.{◌≡◌, ℕ, zero, suc, ◌+◌, ◌≤◌, List, [], ◌∷◌, ◌++◌, length, map, drop, replicate, refl, sym, ap, ◌∙◌, append-nil, arith}
use Rattle.std.specs.Prelude.{codes}
use Rattle.std.proofs.lemmas.List.{length-append}
use Rattle.byteorder.specs.Endian.{little_bytes}
use Rattle.byteorder.specs.Numbers.{length-bytes_low_first}
use Rattle.load_meaning.specs.Pathnames.{rows_text, paths_text}
use Rattle.load_meaning.specs.WrittenFile.{table_fields, pathnames_fields}
use Rattle.link_meaning.specs.Member.{RuntimeFile, Member}
use Rattle.link_program.specs.OfFiles.{IsOfFiles}
use Rattle.link_file.specs.Paths.{paths_of}
use Rattle.link_file.proofs.PathLaws.{text_fits}
use Rattle.link_map.specs.MapText.{numbered_texts, load_line, runtime_line, runtimes_text}

-- ---- how many bytes the paths take

-- the rows of paths are as many bytes as those of the first one and of the others
pub row_size : (number : ℕ) (path : List ℕ) (paths left : List (List ℕ)) → left ≡ path ∷ paths
    → length (rows_text number left) ≡ 11 + length path + length (rows_text (number + 1) paths)
row_size number path paths left is =
    let rest = rows_text (number + 1) paths in
    let zeros : List ℕ = replicate 8 0 in
    omega (
      arith,
      ap (λ (l : List (List ℕ)). length (rows_text number l)) is,
      length-append (little_bytes 2 number) (zeros ++ (length path ∷ path ++ rest)),
      length-bytes_low_first 0 2 number,
      length-append path rest,
    )

-- after the last row there is its end
pub end_size : (number k : ℕ) (paths : List (List ℕ)) → length paths ≤ k → length (rows_text number (drop k paths)) ≡ 2
end_size number zero [] most = length-bytes_low_first 0 2 0
end_size number (suc k) [] most = length-bytes_low_first 0 2 0
end_size number zero (path ∷ paths) most = absurd (omega (arith, most))
end_size number (suc k) (path ∷ paths) most = end_size number k paths (omega (arith, most))

-- how many bytes all take, at most
pub few_bytes : (list : List Member) → IsOfFiles list → length (paths_text (paths_of list)) ≤ 4258
few_bytes list of = text_fits list of (paths_text (paths_of list)) refl

-- ---- the lines

-- of no file
pub runtimes_none : (number : ℕ) (rs : List RuntimeFile) (before : List ℕ) → length rs ≡ 0 → before ≡ before ++ runtimes_text number (map (λ (r : RuntimeFile). r.path) rs)
runtimes_none number [] before none = sym (append-nil before)
runtimes_none number (r ∷ rs) before none = absurd (omega (arith, none))

-- of some
pub runtimes_some : (number : ℕ) (paths : List (List ℕ)) (size : ℕ) (name : List ℕ) → (length paths ≡ 0 → ⊥) → size ≡ length (paths_text paths) → name ≡ codes "~Pathnames"
    → load_line number size 0x0004 0 name ++ numbered_texts runtime_line 2 paths ≡ runtimes_text number paths
unfolding table_fields pathnames_fields
runtimes_some number [] size name some is named = absurd (some refl)
runtimes_some number (path ∷ paths) size name some is named =
    ap (λ (n : ℕ). load_line number n 0x0004 0 name ++ numbered_texts runtime_line 2 (path ∷ paths)) is
    ∙ ap (λ (l : List ℕ). load_line number (length (paths_text (path ∷ paths))) 0x0004 0 l ++ numbered_texts runtime_line 2 (path ∷ paths)) named
