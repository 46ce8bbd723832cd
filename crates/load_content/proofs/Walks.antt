-- The bytes that a body puts into its segment, up to its reader's place.
use Rattle.std.proofs.Common.{◌≡◌, ℕ, ◌+◌, ◌≤◌, true, List, [], ◌∷◌, ◌++◌, length, take, drop, Some, None, Ok, Err, refl, sym, ap, ◌∙◌, append_assoc, arith}
use Rattle.std.specs.List.{flat_map}
use Rattle.std.proofs.Math.Seq.{take-append_seam}
use Rattle.std.proofs.lemmas.List.{append-nil, length-append}
use Rattle.std.proofs.lemmas.List.Concat.{flat_map-cons}
use Rattle.omf_format.specs.declared.fault.RecordFault.{RecordFault}
use Rattle.omf_format.specs.Record.{Record, content_of}
use Rattle.omf_format.specs.Reading.{Reader, next_answer, after_next, HandsOut, records_of, IsBody}
use Rattle.omf_format.specs.laws.FileLaws.{Answer, gave, same_found, open_at_some, open_at_fault}
use Rattle.load_content.specs.Walk.{content}

abbrev bytes_of : List (ℕ × Record) → List ℕ
bytes_of founds = flat_map (λ (found : ℕ × Record). content_of found.1) founds

abbrev failed : RecordFault → Answer
failed fault = Err fault

-- the records so far put these bytes into the segment, and those that are left put the rest
pub record Left (start at : Reader) (bytes : List ℕ) : Type 0 where
  pub back : List (ℕ × Record)
  pub last : Reader
  pub run : HandsOut at back last
  pub ended : last.ended ≡ true
  pub whole : content start ≡ bytes ++ flat_map (λ (found : ℕ × Record). content_of found.1) back

-- the reader has passed `size` bytes of the content
abbrev pub SoFar : Reader → Reader → ℕ → Type 0
SoFar start at size = (bytes : List ℕ) × Left start at bytes × (size ≡ length bytes)

pub left_all : (r : Reader) → IsBody r → Left r r []
unfolding content
left_all r is = record { back = records_of r; last = is.last; run = is.run; ended = is.ended; whole = refl }

pub left_more : (start at : Reader) (found : ℕ × Record) (bytes : List ℕ) → Left start at bytes → next_answer at ≡ Ok (Some found) → Left start (after_next at) (bytes ++ content_of found.1)
left_more start at found bytes left e = by_back left.back left.run left.whole
  where
    by_back : (back : List (ℕ × Record)) → HandsOut at back left.last → content start ≡ bytes ++ bytes_of back → Left start (after_next at) (bytes ++ content_of found.1)
    by_back [] run whole = absurd (open_at_some at found e (ap (λ (r : Reader). r.ended) run ∙ left.ended))
    by_back (other ∷ back) run whole =
        let same : other ≡ found = same_found other found (sym run.0 ∙ e) in
        record {
          back = back;
          last = left.last;
          run = run.1;
          ended = left.ended;
          whole =
              whole
              ∙ ap (λ (l : List ℕ). bytes ++ l) (flat_map-cons (λ (f : ℕ × Record). content_of f.1) other back)
              ∙ ap (λ (f : ℕ × Record). bytes ++ (content_of f.1 ++ bytes_of back)) same
              ∙ sym (append_assoc bytes (content_of found.1) (bytes_of back));
        }

pub left_none : (start at : Reader) (bytes : List ℕ) → Left start at bytes → next_answer at ≡ Ok None → content start ≡ bytes
left_none start at bytes left e = by_back left.back left.run left.whole
  where
    by_back : (back : List (ℕ × Record)) → HandsOut at back left.last → content start ≡ bytes ++ bytes_of back → content start ≡ bytes
    by_back [] run whole = whole ∙ append-nil bytes
    by_back (other ∷ back) run whole = let clash : gave other ≡ Ok None = sym run.0 ∙ e in absurd cc

pub left_fault : (start at : Reader) (bytes : List ℕ) (fault : RecordFault) → Left start at bytes → next_answer at ≡ Err fault → ⊥
left_fault start at bytes fault left e = by_back left.back left.run
  where
    by_back : (back : List (ℕ × Record)) → HandsOut at back left.last → ⊥
    by_back [] run = open_at_fault at fault e (ap (λ (r : Reader). r.ended) run ∙ left.ended)
    by_back (other ∷ back) run = let clash : gave other ≡ failed fault = sym run.0 ∙ e in cc

-- the bytes so far aren't more than the whole
pub left_within : (start at : Reader) (bytes : List ℕ) → Left start at bytes → length bytes ≤ length (content start)
left_within start at bytes left = omega (arith, ap length left.whole, length-append bytes (bytes_of left.back))

-- where they are as many, they are all
pub left_full : (start at : Reader) (bytes : List ℕ) → Left start at bytes → length (content start) ≤ length bytes → content start ≡ bytes
left_full start at bytes left full = by_rest (bytes_of left.back) left.whole
  where
    by_rest : (rest : List ℕ) → content start ≡ bytes ++ rest → content start ≡ bytes
    by_rest [] whole = whole ∙ append-nil bytes
    by_rest (b ∷ rest) whole = absurd (omega (arith, ap length whole, length-append bytes (b ∷ rest), full))

-- ---- places in lists

-- bytes that were written at the start, and bytes that were written after them
pub written_more : (out bytes c : List ℕ) (at : ℕ) → take at out ≡ bytes → at ≡ length bytes
    → take (at + length c) (take at out ++ c ++ drop (at + length c) out) ≡ bytes ++ c
written_more out bytes c at written size =
    let len : at + length c ≡ length (take at out ++ c) = omega (arith, length-append (take at out) c, ap length written) in
    ap (λ (n : ℕ). take n (take at out ++ c ++ drop (at + length c) out)) len
    ∙ take-append_seam (take at out ++ c) (drop (at + length c) out)
    ∙ ap (λ (l : List ℕ). l ++ c) written
