-- What a content is to contracts: its bytes, and the patches over them.
use Rattle.std.specs.Prelude.{ℕ, ◌+◌, ◌≤◌, List, [], ◌∷◌, Option, Some, None}
use Rattle.std.specs.List.{AllByRecursion}
use Rattle.load_writer.specs.declared.written.Patch.{Patch}

pub record Holding : Type 0 where
  pub bytes : List ℕ
  pub patches : List Patch

-- the patches lie inside a given number of bytes
abbrev pub AreInside : ℕ → List Patch → Type 0
AreInside size patches = AllByRecursion (λ p. p.at + p.count ≤ size) patches

-- bytes of one's own, or what is borrowed where there are none
abbrev pub or_borrowed : List ℕ → List ℕ → List ℕ
or_borrowed [] borrowed = borrowed
or_borrowed (byte ∷ own) borrowed = byte ∷ own

-- the last byte, if there is one
abbrev pub last_of : List ℕ → Option ℕ
last_of [] = None
last_of (byte ∷ []) = Some byte
last_of (byte ∷ next ∷ bytes) = last_of (next ∷ bytes)

-- one of these, or else the other
abbrev pub or_before : Option ℕ → Option ℕ → Option ℕ
or_before None before = before
or_before (Some byte) before = Some byte
