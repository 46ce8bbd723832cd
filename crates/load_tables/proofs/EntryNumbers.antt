-- The numbers of an entry, in its bytes and in the data from which they are read.
use Rattle.std.proofs.Common.{◌≡◌, ℕ, ◌+◌, ◌≤◌, ◌<◌, List, length, inl, inr, sym, ap, ◌∙◌, arith}
use Rattle.std.specs.Prelude.{◌==◌, ◌&&◌, slice_index, slice_set}
use Rattle.std.proofs.lemmas.Bool.{cases_eq}
use Rattle.std.proofs.lemmas.List.{get_or-set_same, get_or-set_other}
use Rattle.omf_format.specs.Number.{number_at}
use Rattle.load_meaning.specs.Cells.{segment_bytes}
use Rattle.load_meaning.specs.LoadTable.{is_call}
use Rattle.omf_records.specs.declared.segment.SegmentView.{SegmentView}
use Rattle.omf_records.specs.Segments.{segment_of_view}
use Rattle.load_content.specs.Content.{IsNear}
use Rattle.load_content.proofs.Numbers.{byte_of_slice, two_there, four_there}

-- a byte
one_near : (v : SegmentView) (at : ℕ) (near : List ℕ) (i : ℕ) → IsNear v at near → i < length near → number_at 1 i near ≡ number_at 1 (at + i) (segment_bytes (segment_of_view v))
one_near v at near i is lt = byte_of_slice i near ∙ sym (is i lt)

-- a number of two bytes
pub two_same : (v : SegmentView) (at : ℕ) (near : List ℕ) (i : ℕ) → IsNear v at near → i + 2 ≤ length near → number_at 2 i near ≡ number_at 2 (at + i) (segment_bytes (segment_of_view v))
two_same v at near i is le =
    let bytes = segment_bytes (segment_of_view v) in
    let low = one_near v at near i is (omega (arith, le)) in
    let high = one_near v at near (i + 1) is (omega (arith, le)) in
    let next : at + (i + 1) ≡ at + i + 1 = omega arith in
    omega (arith, two_there i near, two_there (at + i) bytes, low, high, ap (λ (k : ℕ). number_at 1 k bytes) next)

-- one of four
pub four_same : (v : SegmentView) (at : ℕ) (near : List ℕ) (i : ℕ) → IsNear v at near → i + 4 ≤ length near → number_at 4 i near ≡ number_at 4 (at + i) (segment_bytes (segment_of_view v))
four_same v at near i is le =
    let bytes = segment_bytes (segment_of_view v) in
    let low = two_same v at near i is (omega (arith, le)) in
    let high = two_same v at near (i + 2) is (omega (arith, le)) in
    let next : at + (i + 2) ≡ at + i + 2 = omega arith in
    omega (arith, four_there i near, four_there (at + i) bytes, low, high, ap (λ (k : ℕ). number_at 2 k bytes) next)

-- and the code
pub call_same : (v : SegmentView) (at : ℕ) (near : List ℕ) (i : ℕ) → IsNear v at near → i + 4 ≤ length near → is_call near i ≡ is_call (segment_bytes (segment_of_view v)) (at + i)
call_same v at near i is le =
    let bytes = segment_bytes (segment_of_view v) in
    let one : at + (i + 1) ≡ at + i + 1 = omega arith in
    let two : at + (i + 2) ≡ at + i + 2 = omega arith in
    let three : at + (i + 3) ≡ at + i + 3 = omega arith in
    let a = one_near v at near i is (omega (arith, le)) in
    let b = one_near v at near (i + 1) is (omega (arith, le)) ∙ ap (λ (k : ℕ). number_at 1 k bytes) one in
    let c = one_near v at near (i + 2) is (omega (arith, le)) ∙ ap (λ (k : ℕ). number_at 1 k bytes) two in
    let d = one_near v at near (i + 3) is (omega (arith, le)) ∙ ap (λ (k : ℕ). number_at 1 k bytes) three in
    ap (λ (n : ℕ). n == 0x22 && number_at 1 (i + 1) near == 0x00 && number_at 1 (i + 2) near == 0xF0 && number_at 1 (i + 3) near == 0xE1) a
    ∙ ap (λ (n : ℕ). number_at 1 (at + i) bytes == 0x22 && n == 0x00 && number_at 1 (i + 2) near == 0xF0 && number_at 1 (i + 3) near == 0xE1) b
    ∙ ap (λ (n : ℕ). number_at 1 (at + i) bytes == 0x22 && number_at 1 (at + i + 1) bytes == 0x00 && n == 0xF0 && number_at 1 (i + 3) near == 0xE1) c
    ∙ ap (λ (n : ℕ). number_at 1 (at + i) bytes == 0x22 && number_at 1 (at + i + 1) bytes == 0x00 && number_at 1 (at + i + 2) bytes == 0xF0 && n == 0xE1) d

-- one byte more of an entry
pub near_more : (bytes : List ℕ) (at : ℕ) (entry : List ℕ) (place b : ℕ) → ((n : ℕ) → n < place → number_at 1 (at + n) bytes ≡ slice_index entry n) → place < length entry → number_at 1 (at + place) bytes ≡ b
    → (n : ℕ) → n < place + 1 → number_at 1 (at + n) bytes ≡ slice_index (slice_set entry place b) n
near_more bytes at entry place b are inside is n lt =
    elim (cases_eq n place) [
      | inl same ↦ ap (λ (k : ℕ). number_at 1 (at + k) bytes) same ∙ is ∙ sym (ap (slice_index (slice_set entry place b)) same ∙ get_or-set_same entry place b 0 inside)
      | inr other ↦ are n (omega (arith, lt, other)) ∙ sym (get_or-set_other entry place n b 0 other)
    ]
