-- The records of statements: which of them can be written, and how many cells they give.
use Rattle.std.proofs.Common.{◌≡◌, ℕ, zero, suc, ◌+◌, ◌^◌, ◌<◌, ◌≤◌, Bool, true, false, cond, leb, List, [], ◌∷◌, ◌++◌, length, refl, sym, subst, arith}
use Rattle.std.specs.List.{AllByRecursion}
use Rattle.std.proofs.lemmas.Bool.{leb-true}
use Rattle.std.proofs.lemmas.List.Concat.{flat_map-cons}
use Rattle.omf_format.specs.Record.{Record, Const, LongConst}
use Rattle.object_meaning.specs.laws.RunLaws.{IsBodyRecord}
use Rattle.object_meaning.specs.Sizes.{size_at}
use Rattle.asm_meaning.specs.Pieces.{IsPlain, IsPlainPiece, ArePlainPieces, Piece, Bytes, Whole, constant_records, records_after, copies, place_after, length_at}
use Rattle.asm_meaning.specs.laws.Steps.{joined_pieces}

abbrev pub ArePlain : List Record → Type 0
ArePlain rs = AllByRecursion IsPlain rs

pub all-append : {A : Type 0} (P : A → Type 0) (xs ys : List A) → AllByRecursion P xs → AllByRecursion P ys → AllByRecursion P (xs ++ ys)
all-append P [] ys p q = q
all-append P (x ∷ xs) ys p q = (p.0, all-append P xs ys p.1 q)

-- ---- places

pub place_after-append : (at : ℕ) (a b : List Record) → place_after at (a ++ b) ≡ place_after (place_after at a) b
unfolding place_after
place_after-append at [] b = refl
place_after-append at (r ∷ a) b = place_after-append (at + size_at at r) a b

pub place_after-le : (at : ℕ) (rs : List Record) → at ≤ place_after at rs
unfolding place_after
place_after-le at [] = omega arith
place_after-le at (r ∷ rs) = omega (arith, place_after-le (at + size_at at r) rs)

-- the length of a statement is what it moves the place by
pub length_at-adds : (at : ℕ) (rs : List Record) → at + length_at at rs ≡ place_after at rs
unfolding length_at
length_at-adds at rs = omega (arith, place_after-le at rs)

-- plain records that give less than 2 ^ 32 cells have spellings
pub plain_fit : (at : ℕ) (rs : List Record) → ArePlain rs → place_after at rs < 2 ^ 32 → AllByRecursion IsBodyRecord rs
unfolding place_after
plain_fit at [] all less = tt
plain_fit at (r ∷ rs) all less =
    let size : size_at at r < 2 ^ 32 = omega (arith, place_after-le (at + size_at at r) rs, less) in
    ((all.0.spelled at size, all.0.inner), plain_fit (at + size_at at r) rs all.1 less)

-- ---- pieces

constant_plain : (bytes : List ℕ) → ArePlain (constant_records bytes)
constant_plain [] = tt
constant_plain (byte ∷ bytes) = (by_length (leb (length (byte ∷ bytes)) 223) refl, tt)
  where
    by_length : (b : Bool) → leb (length (byte ∷ bytes)) 223 ≡ b → IsPlain (cond b (Const (byte ∷ bytes)) (LongConst (byte ∷ bytes)))
    by_length true is = record { spelled = λ at size. (omega arith, leb-true (length (byte ∷ bytes)) 223 is); inner = refl }
    by_length false is = record { spelled = λ at size. size; inner = refl }

pub records_plain : (bytes : List ℕ) (pieces : List Piece) → ArePlainPieces pieces → ArePlain (records_after bytes pieces)
unfolding records_after
records_plain bytes [] all = constant_plain bytes
records_plain bytes (Bytes more ∷ pieces) all = records_plain (bytes ++ more) pieces all.1
records_plain bytes (Whole r ∷ pieces) all = all-append IsPlain (constant_records bytes) (r ∷ records_after [] pieces) (constant_plain bytes) (all.0, records_plain [] pieces all.1)

pub copies_plain : (n : ℕ) (pieces : List Piece) → ArePlainPieces pieces → ArePlainPieces (copies n pieces)
copies_plain zero pieces all = tt
copies_plain (suc n) pieces all = all-append IsPlainPiece pieces (copies n pieces) all (copies_plain n pieces all)

pub joined_plain : (all : List (List Piece)) → AllByRecursion ArePlainPieces all → ArePlainPieces (joined_pieces all)
joined_plain [] are = tt
joined_plain (pieces ∷ all) are =
    subst ArePlainPieces (sym (flat_map-cons (λ (ps : List Piece). ps) pieces all)) (all-append IsPlainPiece pieces (joined_pieces all) are.0 (joined_plain all are.1))
