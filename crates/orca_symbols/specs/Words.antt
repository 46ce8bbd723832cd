-- Short texts that are borrowed or kept.
use Rattle.std.specs.Prelude.{ℕ, List, Option, Some, None}

-- a word: its copy in upper case, or the borrowed bytes where none was made
abbrev pub word_of : Option (List ℕ) → List ℕ → List ℕ
word_of None borrowed = borrowed
word_of (Some name) borrowed = name
