-- The paths of a load file's rows are text.
use Rattle.std.proofs.Common.{◌≡◌, ℕ, zero, suc, Bool, true, false, cond, ◌+◌, ◌<◌, List, [], ◌∷◌, length, drop, Some, refl, subst, arith}
use Rattle.std.specs.Prelude.{◌&&◌, nat_le, slice_get, slice_index}
use Rattle.std.specs.List.{list_all}
use Rattle.std.specs.Str.{IsUtf8}
use Rattle.std.proofs.lemmas.Str.{IsUtf8-from_ascii}
use Rattle.std.proofs.lemmas.Bool.Decides.{nat_tests}
use Rattle.std.proofs.lemmas.Option.{same_Some}
use Rattle.omf_format.specs.File.{Segment}
use Rattle.load_meaning.specs.Cells.{segment_bytes}
use Rattle.load_meaning.specs.Loadable.{IsLoadable}
use Rattle.load_meaning.specs.Pathnames.{has_pathnames, most_paths, is_path_byte, path_start, AreRows, paths_in, paths_of}
use Rattle.load_meaning.specs.laws.CellLaws.{loadable_has}

both : (a b : Bool) → (a && b) ≡ true → (a ≡ true) × (b ≡ true)
both true b is = (refl, is)
both false b is = absurd cc

byte_small : (byte : ℕ) → is_path_byte byte ≡ true → byte < 128
byte_small byte is = let le : nat_le byte 0x7E ≡ true = (both (nat_le 0x21 byte) (nat_le byte 0x7E) is).1 in grind (arith, nat_tests)

small : (path : List ℕ) → list_all is_path_byte path ≡ true → (i : ℕ) → slice_index path i < 128
small [] is i = omega arith
small (byte ∷ path) is zero = byte_small byte (both (is_path_byte byte) (list_all is_path_byte path) is).0
small (byte ∷ path) is (suc i) = small path (both (is_path_byte byte) (list_all is_path_byte path) is).1 i

plain_in : (paths : List (List ℕ)) (number : ℕ) (bytes : List ℕ) → AreRows number paths bytes → (i : ℕ) (path : List ℕ) → slice_get paths i ≡ Some path → list_all is_path_byte path ≡ true
plain_in [] number bytes rows i path is = absurd cc
plain_in (one ∷ paths) number bytes rows zero path is = subst (λ (p : List ℕ). list_all is_path_byte p ≡ true) (same_Some one path is) rows.0.plain
plain_in (one ∷ paths) number bytes rows (suc i) path is = plain_in paths (number + 1) (drop (path_start + length one) bytes) rows.1 i path is

-- a file with rows has a pathname segment
with_rows : (segments : List Segment) (i : ℕ) (path : List ℕ) → slice_get (paths_of segments) i ≡ Some path → (n : ℕ) × (s : Segment) × (slice_get segments n ≡ Some s) × (has_pathnames s ≡ true)
unfolding paths_of
with_rows [] i path is = absurd cc
with_rows (s ∷ segments) i path is = go (has_pathnames s) refl is (λ found. with_rows segments i path found)
  where
    go : (b : Bool) → has_pathnames s ≡ b → slice_get (cond b (paths_in most_paths (segment_bytes s)) (paths_of segments)) i ≡ Some path
        → (slice_get (paths_of segments) i ≡ Some path → (n : ℕ) × (t : Segment) × (slice_get segments n ≡ Some t) × (has_pathnames t ≡ true))
        → (n : ℕ) × (t : Segment) × (slice_get (s ∷ segments) n ≡ Some t) × (has_pathnames t ≡ true)
    go true here found rest = (0, s, refl, here)
    go false none found rest = let one = rest found in (suc one.0, one.1, one.2, one.3)

pub path_text : (file : List ℕ) (segments : List Segment) → IsLoadable file segments → (i : ℕ) (path : List ℕ) → slice_get (paths_of segments) i ≡ Some path → IsUtf8 path
path_text file segments loadable i path is =
    let one = with_rows segments i path is in
    let laid = ((loadable_has file segments loadable (suc one.0) one.1 one.2).paths one.3).laid_out in
    IsUtf8-from_ascii path (small path (plain_in (paths_of segments) 2 (segment_bytes one.1) laid.rows i path is))
