-- Whether a file is still the one that was loaded, by its headers.
use Rattle.std.specs.Prelude.{◌≡◌, ◌≢◌, ◌⊎◌, ℕ, ◌<◌, List, length, Some}
use Rattle.loader_machine.specs.declared.faults.LoaderFault.{LoaderFault}
use Rattle.loader_machine.specs.declared.faults.LoaderFault.TheVariants as fault
use Rattle.loader_machine.specs.declared.seen.SegmentHead.{SegmentHead}
use Rattle.loader_machine.specs.declared.seen.Facts.{Facts}
use Rattle.loader_machine.specs.Heads.{at_number}

-- what is reported for a segment of a file with `count` segments
abbrev pub facts_of : ℕ → ℕ → SegmentHead → Facts
facts_of count number head = record {
  count = count;
  segment = number;
  length = head.length;
  kind = head.kind;
  bank_size = head.bank_size;
  align = head.align;
  org = head.org;
  entry = head.entry;
}

-- what is reported for a file of which only the number of segments has changed
abbrev pub count_facts : ℕ → Facts
count_facts count = facts_of count 0 (record { length = 0; kind = 0; bank_size = 0; align = 0; org = 0; entry = 0 })

-- the headers of segments that both files have, up to a number, are the same
abbrev pub AreSameBelow : List SegmentHead → List SegmentHead → ℕ → Type 0
AreSameBelow kept found number = (n : ℕ) (a b : SegmentHead) → n < number → at_number kept n ≡ Some a → at_number found n ≡ Some b → a ≡ b

-- the first segment that differs has this number
pub record DiffersAt (kept found : List SegmentHead) (number : ℕ) (was is : SegmentHead) : Type 0 where
  pub was' : at_number kept number ≡ Some was
  pub is' : at_number found number ≡ Some is
  pub other : was ≢ is
  pub before : AreSameBelow kept found number

-- the file isn't the one that was loaded: the first segment that differs, or else the number of segments
abbrev pub IsChanged : List SegmentHead → List SegmentHead → LoaderFault → Type 0
IsChanged kept found why =
    ((number : ℕ) × (was : SegmentHead) × (is : SegmentHead) × DiffersAt kept found number was is
    × (why ≡ fault.Changed (facts_of (length kept) number was) (facts_of (length found) number is)))
    ⊎ (((n : ℕ) → AreSameBelow kept found n) × (length kept ≢ length found) × (why ≡ fault.Changed (count_facts (length kept)) (count_facts (length found))))
