-- How the records of statements are written.
use Rattle.std.proofs.Common.{◌≡◌, ℕ, zero, suc, replicate, slice_index_or, ◌+◌, ◌<◌, ◌≤◌, Bool, true, false, cond, leb, List, [], ◌∷◌, ◌++◌, length, get_or, drop, Option, Some, None, refl, sym, ap, subst, ◌∙◌, append_assoc, append-nil, arith}
use Rattle.std.specs.List.{repeat}
use Rattle.std.proofs.lemmas.Bool.{leb-true, le-leb, lt-leb}
use Rattle.std.proofs.lemmas.List.{length-append}
use Rattle.std.proofs.lemmas.List.Concat.{flat_map-cons, flat_map-append}
use Rattle.byteorder.specs.Endian.{little_bytes}
use Rattle.omf_format.specs.Field.{written_layout}
use Rattle.omf_format.specs.Record.{Record, Const, LongConst, spelling}
use Rattle.asm_meaning.specs.Object.{records_text, most_bytes}
use Rattle.asm_meaning.specs.Pieces.{Piece, Bytes, Whole, constant_records, records_after, copies, IsPlainPiece, ArePlainPieces}
use Rattle.std.specs.Global.{Vec}
use Rattle.omf_format.specs.Record as record_
use Rattle.orca_operands.specs.declared.encoding.RepeatedPieces.{RepeatedPieces}
use Rattle.orca_operands.specs.declared.piece.Piece as piece_type
use Rattle.orca_operands.specs.declared.piece.Piece.TheVariants as kept_names
use Rattle.orca_operands.specs.PieceView.{piece}
use Rattle.orca_operands.specs.GivenView.{part_pieces, all_pieces}
use Rattle.orca_operands.specs.PutView.{Wrote}
use Rattle.orca_operands.specs.TextView.{text_within_limit}
use Rattle.orca_operands.proofs.Listed.{next_is}

-- what a text is where bytes were appended to it
abbrev pub Grows : Option (List ℕ) → Option (List ℕ) → List ℕ → Type 0
Grows old new more = (text : List ℕ) → old ≡ text_within_limit text → new ≡ text_within_limit (text ++ more)

one_text : (r : Record) → records_text (r ∷ []) ≡ spelling written_layout r
unfolding records_text
one_text r = flat_map-cons (spelling written_layout) r [] ∙ append-nil (spelling written_layout r)

text_append : (a b : List Record) → records_text (a ++ b) ≡ records_text a ++ records_text b
unfolding records_text
text_append a b = flat_map-append (spelling written_layout) a b

text_cons : (r : Record) (rs : List Record) → records_text (r ∷ rs) ≡ spelling written_layout r ++ records_text rs
unfolding records_text
text_cons r rs = flat_map-cons (spelling written_layout) r rs

text_none : records_text [] ≡ []
unfolding records_text
text_none = refl

-- ---- constant bytes

pub put_short : (bytes : List ℕ) (old new : Option (List ℕ)) → 1 ≤ length bytes → length bytes ≤ 223 → Grows old new (spelling written_layout (Const bytes)) → Grows old new (records_text (constant_records bytes))
put_short [] old new some few grows text is = absurd (omega (arith, some))
put_short (byte ∷ bytes) old new some few grows text is =
    let short : leb (length (byte ∷ bytes)) 223 ≡ true = le-leb (length (byte ∷ bytes)) 223 few in
    grows text is ∙ ap (λ (l : List ℕ). text_within_limit (text ++ l)) (sym (ap (λ (b : Bool). records_text (cond b (Const (byte ∷ bytes)) (LongConst (byte ∷ bytes)) ∷ [])) short ∙ one_text (Const (byte ∷ bytes))))

long_text : (bytes : List ℕ) → 223 < length bytes → records_text (constant_records bytes) ≡ spelling written_layout (LongConst bytes)
long_text [] many = absurd (omega (arith, many))
long_text (byte ∷ bytes) many =
    let long : leb (length (byte ∷ bytes)) 223 ≡ false = lt-leb (length (byte ∷ bytes)) 223 many in
    ap (λ (b : Bool). records_text (cond b (Const (byte ∷ bytes)) (LongConst (byte ∷ bytes)) ∷ [])) long ∙ one_text (LongConst (byte ∷ bytes))

pub put_long : (bytes : List ℕ) (old new : Option (List ℕ)) → 223 < length bytes → Grows old new (spelling written_layout (LongConst bytes)) → Grows old new (records_text (constant_records bytes))
put_long bytes old new many grows text is = grows text is ∙ ap (λ (l : List ℕ). text_within_limit (text ++ l)) (sym (long_text bytes many))

is_too_long : (text : List ℕ) → most_bytes < length text → text_within_limit text ≡ None
is_too_long text many = by_size (leb (length text) most_bytes) refl
  where
    by_size : (b : Bool) → leb (length text) most_bytes ≡ b → cond b (Some text) None ≡ None
    by_size true e = absurd (omega (arith, leb-true (length text) most_bytes e, many))
    by_size false e = refl

long_size : (bytes : List ℕ) → length bytes ≤ length (spelling written_layout (LongConst bytes))
unfolding spelling
long_size bytes = omega (arith, length-append (little_bytes 4 (length bytes)) bytes)

pub put_too_long : (bytes : List ℕ) (old new : Option (List ℕ)) → 16777216 < length bytes → new ≡ None → Grows old new (records_text (constant_records bytes))
put_too_long bytes old new many none text is =
    let size : length (text ++ records_text (constant_records bytes)) ≡ length text + length (spelling written_layout (LongConst bytes)) =
    length-append text (records_text (constant_records bytes)) ∙ ap (λ (l : List ℕ). length text + length l) (long_text bytes (omega (arith, many))) in
    none ∙ sym (is_too_long (text ++ records_text (constant_records bytes)) (omega (arith, size, long_size bytes, many)))

pub flush_nothing : (pending : List ℕ) (old : Option (List ℕ)) → pending ≡ [] → Grows old old (records_text (constant_records pending))
flush_nothing pending old none text is =
    is ∙ ap text_within_limit (sym (append-nil text)) ∙ ap (λ (l : List ℕ). text_within_limit (text ++ l)) (sym (ap (λ (p : List ℕ). records_text (constant_records p)) none ∙ text_none))

-- ---- pieces

pub wrote_bytes : (whole : List ℕ) (kept : Option (List ℕ)) (pending more new : List ℕ) (rest : List Piece) → new ≡ pending ++ more → Wrote whole kept pending (Bytes more ∷ rest) → Wrote whole kept new rest
unfolding records_after
wrote_bytes whole kept pending more new rest is w = record {
  text = w.text;
  kept_is = w.kept_is;
  whole_is = ap (λ (p : List ℕ). w.text ++ records_text (records_after p rest)) is ∙ w.whole_is;
}

pub wrote_record : (whole : List ℕ) (kept one two : Option (List ℕ)) (pending new : List ℕ) (r : Record) (rest : List Piece) → Grows kept one (records_text (constant_records pending)) → Grows one two (spelling written_layout r) → new ≡ []
    → Wrote whole kept pending (Whole r ∷ rest) → Wrote whole two new rest
unfolding records_after
wrote_record whole kept one two pending new r rest first second none w =
    let front = records_text (constant_records pending) in
    let spelled = spelling written_layout r in
    let following = records_text (records_after [] rest) in
    let parts : records_text (constant_records pending ++ r ∷ records_after [] rest) ≡ front ++ (spelled ++ following) =
    text_append (constant_records pending) (r ∷ records_after [] rest) ∙ ap (λ (l : List ℕ). front ++ l) (text_cons r (records_after [] rest)) in
    subst (λ (p : List ℕ). Wrote whole two p rest) (sym none) (record {
      text = (w.text ++ front) ++ spelled;
      kept_is = second (w.text ++ front) (first w.text w.kept_is);
      whole_is = append_assoc (w.text ++ front) spelled following ∙ append_assoc w.text front (spelled ++ following) ∙ ap (λ (l : List ℕ). w.text ++ l) (sym parts) ∙ w.whole_is;
    })

pub wrote_end : (whole : List ℕ) (kept new : Option (List ℕ)) (pending : List ℕ) → Grows kept new (records_text (constant_records pending)) → Wrote whole kept pending [] → new ≡ text_within_limit whole
unfolding records_after
wrote_end whole kept new pending grows w = grows w.text w.kept_is ∙ ap text_within_limit w.whole_is

pub wrote_start : (text : List ℕ) (kept : Option (List ℕ)) (pending : List ℕ) (rest : List Piece) → kept ≡ text_within_limit text → pending ≡ [] → Wrote (text ++ records_text (records_after [] rest)) kept pending rest
wrote_start text kept pending rest is none =
    record { text = text; kept_is = is; whole_is = ap (λ (p : List ℕ). text ++ records_text (records_after p rest)) none }

-- ---- copies and parts

-- what pieces do to a text
abbrev pub Puts : Option (List ℕ) → List ℕ → List Piece → Option (List ℕ) → List ℕ → Type 0
Puts old pending pieces new left = (whole : List ℕ) (rest : List Piece) → Wrote whole old pending (pieces ++ rest) → Wrote whole new left rest

plain_append : (a b : List Piece) → ArePlainPieces (a ++ b) → ArePlainPieces a × ArePlainPieces b
plain_append [] b all = (tt, all)
plain_append (p ∷ a) b all = let both = plain_append a b all.1 in ((all.0, both.0), both.1)

pub copies_next : (count less : ℕ) (l : List Piece) → count ≡ less + 1 → copies count l ≡ l ++ copies less l
copies_next count less l is = let next : count ≡ suc less = omega (arith, is) in ap (λ (n : ℕ). copies n l) next

-- the next part of those that are left
pub parts_next : (parts : List RepeatedPieces) (i : ℕ) (part : RepeatedPieces) → i < length parts → part ≡ get_or parts i part → all_pieces (drop i parts) ≡ part_pieces part ++ all_pieces (drop (i + 1) parts)
parts_next parts i part less is = next_is all_pieces parts i part less is ∙ flat_map-cons part_pieces part (drop (i + 1) parts)

pub plain_part : (parts : List RepeatedPieces) (i : ℕ) (part : RepeatedPieces) → i < length parts → part ≡ get_or parts i part → ArePlainPieces (all_pieces (drop i parts)) → ArePlainPieces (part_pieces part)
plain_part parts i part less is plain = (plain_append (part_pieces part) (all_pieces (drop (i + 1) parts)) (subst ArePlainPieces (parts_next parts i part less is) plain)).0

pub repeat_one : (count byte : ℕ) → replicate count byte ≡ repeat count (byte ∷ [])
repeat_one zero byte = refl
repeat_one (suc n) byte = ap (λ (l : List ℕ). byte ∷ l) (repeat_one n byte)

-- a byte that is all of some bytes
pub repeat_only : (count : ℕ) (bytes : List ℕ) → 1 ≤ length bytes → length bytes < 2 → replicate count (slice_index_or bytes 0 0) ≡ repeat count bytes
repeat_only count [] some few = absurd (omega (arith, some))
repeat_only count (byte ∷ []) some few = repeat_one count byte
repeat_only count (byte ∷ other ∷ bytes) some few = absurd (omega (arith, few))

-- repeated bytes, after they were appended once more
pub repeat_next : (old now new bytes : List ℕ) (count left less : ℕ) → left ≡ less + 1 → now ++ repeat left bytes ≡ old ++ repeat count bytes → new ≡ now ++ bytes → new ++ repeat less bytes ≡ old ++ repeat count bytes
repeat_next old now new bytes count left less is all more =
    let next : left ≡ suc less = omega (arith, is) in
    ap (λ (l : List ℕ). l ++ repeat less bytes) more ∙ append_assoc now bytes (repeat less bytes) ∙ ap (λ (n : ℕ). now ++ repeat n bytes) (sym next) ∙ all

-- constant bytes that are repeated `count` times wait for their record
pub wrote_copies : (whole : List ℕ) (kept : Option (List ℕ)) (pending more : List ℕ) (count : ℕ) (rest : List Piece) → Wrote whole kept pending (copies count (Bytes more ∷ []) ++ rest) → Wrote whole kept (pending ++ repeat count more) rest
wrote_copies whole kept pending more zero rest w = subst (λ (l : List ℕ). Wrote whole kept l rest) (sym (append-nil pending)) w
wrote_copies whole kept pending more (suc n) rest w =
    subst (λ (l : List ℕ). Wrote whole kept l rest) (append_assoc pending more (repeat n more))
    (wrote_copies whole kept (pending ++ more) more n rest (wrote_bytes whole kept pending more (pending ++ more) (copies n (Bytes more ∷ []) ++ rest) refl w))

-- pieces that are constant bytes alone, put `count` times
pub wrote_only : (whole : List ℕ) (kept : Option (List ℕ)) (pending new bytes : List ℕ) (pieces : List Piece) (count : ℕ) (rest : List Piece) → pieces ≡ Bytes bytes ∷ [] → new ≡ pending ++ repeat count bytes
    → Wrote whole kept pending (copies count pieces ++ rest) → Wrote whole kept new rest
wrote_only whole kept pending new bytes pieces count rest only more w =
    subst (λ (l : List ℕ). Wrote whole kept l rest) (sym more) (wrote_copies whole kept pending bytes count rest (subst (λ (l : List Piece). Wrote whole kept pending (copies count l ++ rest)) only w))

-- what is still to be put, of pieces that were put from here on
pub record PutLeft (old : Option (List ℕ)) (pending : List ℕ) (all : List Piece) (now : Option (List ℕ)) (waits : List ℕ) (left : List Piece) : Type 0 where
  pub puts : (whole : List ℕ) (rest : List Piece) → Wrote whole old pending (all ++ rest) → Wrote whole now waits (left ++ rest)
  pub plain : ArePlainPieces left

pub left_more : (old now new : Option (List ℕ)) (pending waits more : List ℕ) (all left a others : List Piece) → PutLeft old pending all now waits left → left ≡ a ++ others → Puts now waits a new more → PutLeft old pending all new more others
left_more old now new pending waits more all left a others l parts step = record {
  puts = λ whole rest w.
      step whole (others ++ rest) (subst (λ (x : List Piece). Wrote whole now waits x) (append_assoc a others rest) (subst (λ (x : List Piece). Wrote whole now waits (x ++ rest)) parts (l.puts whole rest w)));
  plain = (plain_append a others (subst ArePlainPieces parts l.plain)).1;
}

pub put_all : (text : List ℕ) (old mid new : Option (List ℕ)) (pending waits : List ℕ) (pieces : List Piece) → Puts old pending pieces mid waits → Grows mid new (records_text (constant_records waits)) → pending ≡ [] → old ≡ text_within_limit text
    → new ≡ text_within_limit (text ++ records_text (records_after [] pieces))
put_all text old mid new pending waits pieces puts grows none is =
    let whole = text ++ records_text (records_after [] pieces) in
    let start : Wrote whole old pending (pieces ++ []) = subst (λ (l : List Piece). Wrote whole old pending l) (sym (append-nil pieces)) (wrote_start text old pending pieces is none) in
    wrote_end whole mid new waits grows (puts whole [] start)

pub piece_formula : (of : piece_type.Piece) (code count n : ℕ) (expr : Vec ℕ) (e : List ℕ) → of ≡ kept_names.Formula code count n expr → e ≡ expr.items → piece of ≡ Whole (record_.Formula code count n e)
piece_formula of code count n expr e is same = ap piece is ∙ ap (λ (l : List ℕ). Whole (record_.Formula code count n l)) (sym same)

pub piece_strong : (of : piece_type.Piece) (name n : List ℕ) → of ≡ kept_names.Strong name → n ≡ name → piece of ≡ Whole (record_.Strong n)
piece_strong of name n is same = ap piece is ∙ ap (λ (l : List ℕ). Whole (record_.Strong l)) (sym same)

pub piece_bytes : (of : piece_type.Piece) (bytes : Vec ℕ) → of ≡ kept_names.Bytes bytes → piece of ≡ Bytes bytes.items
piece_bytes of bytes is = ap piece is

pub plain_piece : (p q : Piece) → p ≡ q → IsPlainPiece p → IsPlainPiece q
plain_piece p q same is = subst IsPlainPiece same is

pub wrote_same : (whole : List ℕ) (old : Option (List ℕ)) (pending : List ℕ) (p q : Piece) (rest : List Piece) → p ≡ q → Wrote whole old pending (p ∷ rest) → Wrote whole old pending (q ∷ rest)
wrote_same whole old pending p q rest same w = subst (λ (x : Piece). Wrote whole old pending (x ∷ rest)) same w
