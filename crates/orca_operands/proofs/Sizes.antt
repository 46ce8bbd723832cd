-- How many cells statements give.
use Rattle.std.proofs.Common.{◌≡◌, ℕ, zero, suc, ◌+◌, ◌*◌, ◌^◌, ◌<◌, ◌≤◌, min, Bool, true, false, cond, leb, List, [], ◌∷◌, ◌++◌, length, take, map, refl, sym, ap, ◌∙◌, arith}
use Rattle.std.proofs.lemmas.List.{map-append, length-append}
use Rattle.std.proofs.lemmas.List.Concat.{flat_map-cons}
use Rattle.omf_format.specs.Record as record_
use Rattle.omf_format.specs.Record.{Const, LongConst}
use Rattle.asm_meaning.specs.laws.PieceLaws.{place_after-append}
use Rattle.asm_meaning.specs.Pieces as meaning
use Rattle.asm_meaning.specs.Pieces.{constant_records, records_after, copies, place_after, length_at}
use Rattle.std.specs.Global.{Vec}
use Rattle.orca_operands.specs.declared.short_bytes.ShortBytes.{ShortBytes}
use Rattle.orca_operands.specs.FewView.{few_bytes}
use Rattle.orca_operands.specs.declared.encoding.Encoding.{Encoding}
use Rattle.orca_operands.specs.declared.encoding.Encoding.TheVariants as given_names
use Rattle.orca_operands.specs.declared.encoding.RepeatedPieces.{RepeatedPieces}
use Rattle.orca_operands.specs.declared.piece.Piece.{Piece}
use Rattle.orca_operands.specs.declared.piece.Piece.TheVariants.{Bytes, Formula, Strong}
use Rattle.orca_operands.specs.GivenView.{part_pieces, all_pieces, given_records}
use Rattle.orca_operands.specs.PieceView.{piece}
use Rattle.orca_operands.specs.PutView.{pieces_size, parts_size}

place_constant : (at : ℕ) (bytes : List ℕ) → place_after at (constant_records bytes) ≡ at + length bytes
unfolding place_after
place_constant at [] = omega arith
place_constant at (byte ∷ bytes) = by_size (leb (length (byte ∷ bytes)) 223)
  where
    by_size : (b : Bool) → place_after at (cond b (Const (byte ∷ bytes)) (LongConst (byte ∷ bytes)) ∷ []) ≡ at + length (byte ∷ bytes)
    by_size true = refl
    by_size false = refl

place_pieces : (at : ℕ) (bytes : List ℕ) (l : List Piece) → place_after at (records_after bytes (map piece l)) ≡ at + length bytes + pieces_size l
unfolding place_after records_after
place_pieces at bytes [] = omega (arith, place_constant at bytes)
place_pieces at bytes (Bytes more ∷ l) = omega (arith, place_pieces at (bytes ++ more.items) l, length-append bytes more.items)
place_pieces at bytes (Formula code count n expr ∷ l) =
    let front = place_constant at bytes in
    let rest = place_pieces (place_after at (constant_records bytes) + count) [] l in
    let both = place_after-append at (constant_records bytes) (record_.Formula code count n expr.items ∷ records_after [] (map piece l)) in
    omega (arith, front, rest, both)
place_pieces at bytes (Strong name ∷ l) =
    let front = place_constant at bytes in
    let rest = place_pieces (place_after at (constant_records bytes) + 0) [] l in
    let both = place_after-append at (constant_records bytes) (record_.Strong name ∷ records_after [] (map piece l)) in
    omega (arith, front, rest, both)

-- copies of the pieces as they are kept
kept_copies : ℕ → List Piece → List Piece
kept_copies zero l = []
kept_copies (suc n) l = l ++ kept_copies n l

kept_pieces : List RepeatedPieces → List Piece
kept_pieces [] = []
kept_pieces (p ∷ parts) = kept_copies p.count p.pieces.items ++ kept_pieces parts

copies_are : (n : ℕ) (l : List Piece) → copies n (map piece l) ≡ map piece (kept_copies n l)
unfolding kept_copies
copies_are zero l = refl
copies_are (suc n) l = ap (λ (x : List meaning.Piece). map piece l ++ x) (copies_are n l) ∙ sym (map-append piece l (kept_copies n l))

pieces_are : (parts : List RepeatedPieces) → all_pieces parts ≡ map piece (kept_pieces parts)
unfolding kept_pieces
pieces_are [] = refl
pieces_are (p ∷ parts) =
    flat_map-cons part_pieces p parts ∙ ap (λ (x : List meaning.Piece). x ++ all_pieces parts) (copies_are p.count p.pieces.items)
    ∙ ap (λ (x : List meaning.Piece). map piece (kept_copies p.count p.pieces.items) ++ x) (pieces_are parts) ∙ sym (map-append piece (kept_copies p.count p.pieces.items) (kept_pieces parts))

size_append : (a b : List Piece) → pieces_size (a ++ b) ≡ pieces_size a + pieces_size b
size_append [] b = omega arith
size_append (p ∷ a) b = omega (arith, size_append a b)

next_product : (n s : ℕ) → suc n * s ≡ s + n * s
next_product n s = omega arith

size_copies : (n : ℕ) (l : List Piece) → pieces_size (kept_copies n l) ≡ n * pieces_size l
unfolding kept_copies
size_copies zero l = omega arith
size_copies (suc n) l = size_append l (kept_copies n l) ∙ ap (λ (k : ℕ). pieces_size l + k) (size_copies n l) ∙ sym (next_product n (pieces_size l))

size_parts : (parts : List RepeatedPieces) → pieces_size (kept_pieces parts) ≡ parts_size parts
unfolding kept_pieces
size_parts [] = refl
size_parts (p ∷ parts) = omega (arith, size_append (kept_copies p.count p.pieces.items) (kept_pieces parts), size_copies p.count p.pieces.items, size_parts parts)

length_is : (at : ℕ) (parts : List RepeatedPieces) → length_at at (records_after [] (all_pieces parts)) ≡ parts_size parts
unfolding length_at
length_is at parts =
    let place : place_after at (records_after [] (all_pieces parts)) ≡ at + 0 + pieces_size (kept_pieces parts) =
    ap (λ (l : List meaning.Piece). place_after at (records_after [] l)) (pieces_are parts) ∙ place_pieces at [] (kept_pieces parts) in
    omega (arith, place, size_parts parts)

-- parts
pub cells_are : (at n : ℕ) (g : Encoding) (v : Vec RepeatedPieces) (parts : List RepeatedPieces) → g ≡ given_names.Parts v → parts ≡ v.items → n ≡ min (parts_size parts) 0x1000000 → n ≡ min (length_at at (given_records g)) 0x1000000
cells_are at n g v parts g_is same is =
    is ∙ ap (λ (l : List RepeatedPieces). min (parts_size l) 0x1000000) same ∙ ap (λ (k : ℕ). min k 0x1000000) (sym (length_is at v.items)) ∙ ap (λ (x : Encoding). min (length_at at (given_records x)) 0x1000000) (sym g_is)

few_size : (count a b c d : ℕ) → count ≤ 4 → length (take count (a ∷ b ∷ c ∷ d ∷ [])) ≡ count
few_size zero a b c d few = refl
few_size (suc zero) a b c d few = refl
few_size (suc (suc zero)) a b c d few = refl
few_size (suc (suc (suc zero))) a b c d few = refl
few_size (suc (suc (suc (suc zero)))) a b c d few = refl
few_size (suc (suc (suc (suc (suc count))))) a b c d few = absurd (omega (arith, few))

-- few bytes
pub cells_few : (at n : ℕ) (g : Encoding) (few : ShortBytes) → g ≡ given_names.Bytes few → n ≡ few.count → n ≡ min (length_at at (given_records g)) 0x1000000
unfolding length_at records_after
cells_few at n g few g_is is =
    let place = place_constant at (few_bytes few) in
    let size : length (few_bytes few) ≡ few.count = few_size few.count few.first few.second few.third few.fourth few.few in
    let length_is : n ≡ min (length_at at (given_records (given_names.Bytes few))) 0x1000000 = omega (arith, place, size, few.few, is) in
    length_is ∙ ap (λ (x : Encoding). min (length_at at (given_records x)) 0x1000000) (sym g_is)

-- an opcode and its operand
pub cells_operand : (at n opcode code count distance : ℕ) (g : Encoding) (expr : Vec ℕ) → g ≡ given_names.Operand opcode code count distance expr → count < 2 ^ 8 → n ≡ count + 1 → n ≡ min (length_at at (given_records g)) 0x1000000
unfolding length_at place_after records_after
cells_operand at n opcode code count distance g expr g_is small is =
    let length_is : n ≡ min (length_at at (given_records (given_names.Operand opcode code count distance expr))) 0x1000000 = omega (arith, small, is) in
    length_is ∙ ap (λ (x : Encoding). min (length_at at (given_records x)) 0x1000000) (sym g_is)

-- ---- counting up to a limit

-- `total` cells were counted, and `left` are left
pub record SumLeft (total left all : ℕ) : Type 0 where
  pub sum : min (total + left) 0x1000000 ≡ min all 0x1000000
  pub few : total ≤ 0x1000000

pub sum_starts : (n : ℕ) → SumLeft 0 n n
sum_starts n = record { sum = omega arith; few = omega arith }

pub sum_more : (total size rest left all one now : ℕ) → SumLeft total left all → left ≡ size + rest → one ≡ min size 0x1000000 → now ≡ min (total + one) 0x1000000 → SumLeft now rest all
sum_more total size rest left all one now s parts one_is is = record { sum = omega (arith, s.sum, parts, one_is, is); few = omega (arith, is) }
