-- A line and its words.
use Rattle.std.proofs.Common.{◌≡◌, ℕ, Bool, true, false, cond, List, [], ◌∷◌, refl}
use Rattle.std.specs.Prelude.{◌==◌}
use Rattle.std.specs.List.{AllByRecursion, join_with_byte, slice_split, onto_first}
use Rattle.std.proofs.lemmas.List.Splits.{join_with_byte-slice_split}
use Rattle.loader_machine.specs.Script.{words_of}

abbrev HasNoSpace : List ℕ → Type 0
HasNoSpace word = AllByRecursion (λ byte. (byte == 0x20) ≡ false) word

onto_first-free : (byte : ℕ) (words : List (List ℕ)) → (byte == 0x20) ≡ false → AllByRecursion HasNoSpace words
    → AllByRecursion HasNoSpace (onto_first byte words)
onto_first-free byte [] is free = ((is, tt), tt)
onto_first-free byte (word ∷ words) is free = ((is, free.0), free.1)

one_more : (b : Bool) (byte : ℕ) (words : List (List ℕ)) → (byte == 0x20) ≡ b → AllByRecursion HasNoSpace words
    → AllByRecursion HasNoSpace (cond b ([] ∷ words) (onto_first byte words))
one_more true byte words is free = (tt, free)
one_more false byte words is free = onto_first-free byte words is free

parts_free : (line : List ℕ) → AllByRecursion HasNoSpace (slice_split (λ byte. byte == 0x20) line)
parts_free [] = (tt, tt)
parts_free (byte ∷ line) = one_more (byte == 0x20) byte (slice_split (λ other. other == 0x20) line) refl (parts_free line)

pub words_make_line : (line : List ℕ) → (join_with_byte 0x20 (words_of line) ≡ line) × AllByRecursion HasNoSpace (words_of line)
unfolding words_of
words_make_line line = (join_with_byte-slice_split 0x20 line, parts_free line)
