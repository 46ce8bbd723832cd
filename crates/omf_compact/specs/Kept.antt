-- Laws of canonical files: what they keep of a load file, and that there is one at most.
use Rattle.std.specs.Prelude.{◌≡◌, ◌≤◌, ℕ, List, length, None}
use Rattle.omf_io.specs.Files.{max_file}
use Rattle.omf_format.specs.Number.{IsBytes}
use Rattle.omf_format.specs.File.{Segment}
use Rattle.load_meaning.specs.Loadable.{IsLoadable}
use Rattle.omf_compact.specs.declared.fault.CompactCause.TheVariants.{Memory}
use Rattle.omf_compact.specs.declared.fault.CompactFault.{CompactFault}
use Rattle.omf_compact.specs.Canonical.{plain, broken_in, canon}
use Rattle.omf_compact.specs.Answer.{IsAnswer, IsRefused}

-- What is written for a load file without a broken part, where it isn't too long, is a load file that holds the same.
abbrev pub AnswerIsLoaded : Type 0
AnswerIsLoaded = (file : List ℕ) (segments : List Segment) → IsBytes file → IsLoadable file segments → broken_in 1 (plain segments) ≡ None → length (canon (plain segments)) ≤ max_file
    → (others : List Segment) × IsLoadable (canon (plain segments)) others × (plain others ≡ plain segments)

-- Load files that hold the same have the same answer.
abbrev pub SameAnswer : Type 0
SameAnswer = (file other : List ℕ) (segments others : List Segment) → IsLoadable file segments → IsLoadable other others → plain segments ≡ plain others
    → (out : List ℕ) → IsAnswer file out → IsAnswer other out

-- The answer's own answer is itself.
abbrev pub AnswerIsItsOwn : Type 0
AnswerIsItsOwn = (file out : List ℕ) → IsBytes file → IsAnswer file out → IsAnswer out out

-- A file has one answer at most.
abbrev pub OneAnswer : Type 0
OneAnswer = (file one other : List ℕ) → IsAnswer file one → IsAnswer file other → one ≡ other

-- A file that has one isn't refused, unless out of memory.
abbrev pub AnswerOrRefusal : Type 0
AnswerOrRefusal = (file out : List ℕ) (fault : CompactFault) → IsAnswer file out → IsRefused fault file → fault.cause ≡ Memory
