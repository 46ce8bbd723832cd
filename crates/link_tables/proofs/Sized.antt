-- The first fault of records and the number of their cells, where some were read.
use Rattle.std.proofs.Common.{◌≡◌, ℕ, ◌+◌, ◌≤◌, ◌^◌, Bool, true, false, List, Option, Some, None, refl, sym, ap, ◌∙◌, arith}
use Rattle.std.specs.Prelude.{nat_lt}
use Rattle.std.proofs.lemmas.Bool.{ltb-false}
use Rattle.omf_format.specs.Record.{Record}
use Rattle.omf_format.specs.Reading.{Reader}
use Rattle.link_meaning.specs.LinkFaults.{record_fault}
use Rattle.object_meaning.specs.Sizes.{size_at, place_after}
use Rattle.link_tables.specs.Coming.{Walks}
use Rattle.link_tables.specs.Sizes.{in_32_bits}
use Rattle.link_tables.proofs.FirstLeft.{FirstLeft, first_more}
use Rattle.link_tables.proofs.Grown.{nothing, choice, past_32}

-- a number that has no 32 bits
past_is : (n : ℕ) → nothing ≡ in_32_bits n → 2 ^ 32 ≤ n
past_is n e = by_test (nat_lt n (2 ^ 32)) refl
  where
    by_test : (b : Bool) → nat_lt n (2 ^ 32) ≡ b → 2 ^ 32 ≤ n
    by_test true is = let clash : nothing ≡ Some n = e ∙ ap (choice n) is in absurd cc
    by_test false is = ltb-false n (2 ^ 32) is

pub after_past : (n more : ℕ) → nothing ≡ in_32_bits n → nothing ≡ in_32_bits (n + more)
after_past n more e = past_32 (n + more) (omega (arith, past_is n e))

-- none of the records so far is at fault, and this is the number of their cells, where it has 32 bits
pub record Sized (align : ℕ) (all : List (ℕ × Record)) (at : Reader) (size : Option ℕ) : Type 0 where
  pub first : FirstLeft align all at
  pub cells : ℕ
  pub whole : place_after 0 all ≡ place_after cells first.back
  pub reported : size ≡ in_32_bits cells

pub sized_end : (align : ℕ) (all : List (ℕ × Record)) (at after : Reader) (size : Option ℕ) (s : Sized align all at size) → Walks after s.first.back None → size ≡ in_32_bits (place_after 0 all)
sized_end align all at after size s w = s.reported ∙ ap in_32_bits (sym (s.whole ∙ ap (place_after s.cells) w))

pub sized_more : (align : ℕ) (all : List (ℕ × Record)) (at after : Reader) (size next : Option ℕ) (found : ℕ × Record) (s : Sized align all at size) → Walks after s.first.back (Some found)
    → record_fault align found.1 ≡ None → next ≡ in_32_bits (s.cells + size_at s.cells found.1) → Sized align all after next
unfolding first_more
sized_more align all at after size next found s w sound is = record {
  first = first_more align all at after found s.first w sound;
  cells = s.cells + size_at s.cells found.1;
  whole = s.whole ∙ ap (place_after s.cells) w.1;
  reported = is;
}
