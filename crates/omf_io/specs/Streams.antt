-- What a reader gives and a writer takes, where that is known.
use Rattle.std.specs.Prelude.{◌≡◌, ◌<◌, ℕ, List, length, Option, IfSome}
use Rattle.std.specs.Io.KnownBytes.{Appends}
use Rattle.omf_io.specs.Files.{max_file}

-- the bytes are all that a reader has left
abbrev pub HasContent : Option (List ℕ) → List ℕ → Type 0
HasContent left bytes = IfSome left (λ rest. bytes ≡ rest)

-- a reader has more left than a file may have
abbrev pub IsLonger : Option (List ℕ) → Type 0
IsLonger left = IfSome left (λ rest. max_file < length rest)

-- a writer took the bytes after what it held
abbrev pub HasTaken : Option (List ℕ) → Option (List ℕ) → List ℕ → Type 0
HasTaken before following bytes = Appends before following bytes
