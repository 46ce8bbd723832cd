-- A file has few paths.
use Rattle.std.proofs.Common.{◌≡◌, ℕ, zero, suc, ◌≤◌, Bool, true, false, eqb, List, [], ◌∷◌, length, refl, sym, ap, subst, arith}
use Rattle.std.specs.Prelude.{if◌then◌else◌}
use Rattle.std.specs.Borrow.{Bor}
use Rattle.std.proofs.lemmas.List.{length-map}
use Rattle.omf_format.specs.Number.{number_at}
use Rattle.omf_format.specs.File.{Segment}
use Rattle.load_meaning.specs.Cells.{segment_bytes}
use Rattle.load_meaning.specs.Pathnames.{has_pathnames, most_paths, first_path, after_path, paths_in, paths_of}
use Rattle.load_tables.specs.View.{seen_paths}

few_in : (n : ℕ) (bytes : List ℕ) → length (paths_in n bytes) ≤ n
few_in zero bytes = omega arith
few_in (suc n) bytes = by_end (few_in n (after_path bytes)) (eqb (number_at 2 0 bytes) 0)
  where
    by_end : length (paths_in n (after_path bytes)) ≤ n → (b : Bool) → length (if b then [] else first_path bytes ∷ paths_in n (after_path bytes)) ≤ suc n
    by_end more true = omega arith
    by_end more false = omega (arith, more)

few_of : (most : ℕ) (segments : List Segment) → most ≡ most_paths → length (paths_of segments) ≤ most
unfolding paths_of
few_of most [] is = omega arith
few_of most (s ∷ segments) is = by_form (few_of most segments is) (has_pathnames s)
  where
    here : length (paths_in most_paths (segment_bytes s)) ≤ most
    here = subst (λ (n : ℕ). length (paths_in n (segment_bytes s)) ≤ most) is (few_in most (segment_bytes s))

    by_form : length (paths_of segments) ≤ most → (b : Bool) → length (if b then paths_in most_paths (segment_bytes s) else paths_of segments) ≤ most
    by_form more true = here
    by_form more false = more

-- those that are kept are as many
pub few_kept : (paths : List (Bor (List ℕ))) (segments : List Segment) → seen_paths paths ≡ paths_of segments → length paths ≤ 16
few_kept paths segments is = omega (arith, few_of 16 segments refl, sym (ap length is), length-map paths (λ (path : Bor (List ℕ)). path.now))
