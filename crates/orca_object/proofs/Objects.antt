-- A segment that ends after those that have ended.
use Rattle.std.proofs.Common.{◌≡◌, ℕ, ◌+◌, ◌<◌, ◌≤◌, Bool, true, false, List, [], ◌∷◌, ◌++◌, length, drop, replicate, Some, None, sym, ap, ◌∙◌, append-nil, arith}
use Rattle.std.specs.List.{flat_map}
use Rattle.std.proofs.Math.Seq.{drop-append_seam}
use Rattle.std.proofs.lemmas.List.{length-append, length-replicate}
use Rattle.std.proofs.lemmas.List.Concat.{flat_map-append}
use Rattle.omf_format.specs.Header.{HeaderFields, header_bytes}
use Rattle.omf_format.specs.laws.WrittenHeaderLaws.{length-header}
use Rattle.asm_meaning.specs.Object.{records_text, segment_text, object_text, most_bytes}
use Rattle.asm_meaning.specs.State.{FinishedSegment}
use Rattle.orca_operands.specs.declared.record_bytes.RecordBytes.{RecordBytes}
use Rattle.orca_operands.specs.TextView.{text_within_limit, kept_text, kept_by}
use Rattle.orca_operands.proofs.Limited.{is_limited, is_too_long, long_text, same_text}

pub object_more : (segments : List FinishedSegment) (e : FinishedSegment) → object_text (segments ++ e ∷ []) ≡ object_text segments ++ segment_text e
unfolding object_text
object_more segments e = flat_map-append segment_text segments (e ∷ []) ∙ ap (λ (l : List ℕ). flat_map segment_text segments ++ l) (append-nil (segment_text e))

-- room for its header, and its records
abbrev open_text : FinishedSegment → List ℕ
open_text e = replicate (0x37 + length e.header.name) 0 ++ records_text e.body

open_length : (e : FinishedSegment) → length (open_text e) ≡ 0x37 + length e.header.name + length (records_text e.body)
open_length e = omega (arith, length-append (replicate (0x37 + length e.header.name) 0) (records_text e.body), length-replicate {A = ℕ} (0x37 + length e.header.name) 0)

-- its header is as long as the room for it
same_length : (e : FinishedSegment) → length e.header.load_name ≡ 10 → length (segment_text e) ≡ length (open_text e)
unfolding segment_text
same_length e ten =
    let n = length (records_text e.body) in
    omega (arith, open_length e, length-append (header_bytes e.header n) (records_text e.body), length-header e.header n ten)

abbrev has_ten : (e : FinishedSegment) (f : HeaderFields) → e.header ≡ f → length f.load_name ≡ 10 → length e.header.load_name ≡ 10
has_ten e f is ten = ap (λ (h : HeaderFields). length h.load_name) is ∙ ten

is_bytes : (t : RecordBytes) (text : List ℕ) → t.long ≡ false → kept_text t ≡ text_within_limit text → text ≡ t.bytes.items
is_bytes t text short e = same_text text t.bytes.items (sym (ap (λ (b : Bool). kept_by b t.bytes.items) short) ∙ e)

-- it was too long before
pub long_closed : (t : RecordBytes) (e : FinishedSegment) (f : HeaderFields) → e.header ≡ f → length f.load_name ≡ 10 → t.long ≡ true → kept_text t ≡ text_within_limit (open_text e) → kept_text t ≡ text_within_limit (segment_text e)
long_closed t e f is ten long shows =
    let none = ap (λ (b : Bool). kept_by b t.bytes.items) long in
    none ∙ sym (is_too_long (segment_text e) (omega (arith, same_length e (has_ten e f is ten), long_text (open_text e) (sym none ∙ shows))))

-- it has more bytes than a file
pub many_closed : (t new : RecordBytes) (e : FinishedSegment) (f : HeaderFields) → e.header ≡ f → length f.load_name ≡ 10 → t.long ≡ false → kept_text t ≡ text_within_limit (open_text e) → most_bytes < length t.bytes.items → kept_text new ≡ None
    → kept_text new ≡ text_within_limit (segment_text e)
many_closed t new e f is ten short shows many none =
    none ∙ sym (is_too_long (segment_text e) (omega (arith, same_length e (has_ten e f is ten), ap length (is_bytes t (open_text e) short shows), many)))

-- the header in the place of the room
pub put_closed : (t : RecordBytes) (e : FinishedSegment) (f : HeaderFields) (count : ℕ) (front new : List ℕ) → e.header ≡ f → length f.load_name ≡ 10 → t.long ≡ false → kept_text t ≡ text_within_limit (open_text e) → length t.bytes.items ≤ most_bytes
    → count + (0x37 + length f.name) ≡ length t.bytes.items → front ≡ header_bytes f count → new ≡ front ++ drop (length front) t.bytes.items → kept_by t.long new ≡ text_within_limit (segment_text e)
unfolding segment_text
put_closed t e f count front new is ten short shows few n written put =
    let records = records_text e.body in
    let room : List ℕ = replicate (0x37 + length e.header.name) 0 in
    let bytes = is_bytes t (open_text e) short shows in
    let name : length e.header.name ≡ length f.name = ap (λ (h : HeaderFields). length h.name) is in
    let size : length front ≡ length room = omega (arith, ap length written, length-header f count ten, length-replicate {A = ℕ} (0x37 + length e.header.name) 0, name) in
    let number : count ≡ length records = omega (arith, n, open_length e, ap length bytes, name) in
    let following : drop (length front) t.bytes.items ≡ records =
    ap (λ (l : List ℕ). drop (length front) l) (sym bytes) ∙ ap (λ (k : ℕ). drop k (room ++ records)) size ∙ drop-append_seam room records in
    let whole : new ≡ segment_text e =
    put ∙ ap (λ (l : List ℕ). front ++ l) following ∙ ap (λ (l : List ℕ). l ++ records) (written ∙ ap (header_bytes f) number ∙ ap (λ (h : HeaderFields). header_bytes h (length records)) (sym is)) in
    ap (λ (b : Bool). kept_by b new) short ∙ ap Some whole
    ∙ sym (is_limited (segment_text e) (omega (arith, same_length e (has_ten e f is ten), ap length bytes, few)))

-- after those that have ended
pub one_after : (segments : List FinishedSegment) (e : FinishedSegment) → text_within_limit (object_text segments ++ segment_text e) ≡ text_within_limit (object_text (segments ++ e ∷ []))
one_after segments e = ap text_within_limit (sym (object_more segments e))
