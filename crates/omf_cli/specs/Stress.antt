-- `stress`: a workload is made, linked and run, and a line reports the result.
use Rattle.std.specs.Prelude.{◌≡◌, ◌≤◌, ℕ, List, [], ◌∷◌, ◌++◌, length, codes, Option, None, Some}
use Rattle.std.specs.FinMap.{empty, insert}
use Rattle.omf_base.specs.Digits.{decimal, hexadecimal}
use Rattle.omf_base.specs.Lines.{line}
use Rattle.omf_format.specs.Number.{IsBytes}
use Rattle.omf_format.specs.File.{Segment, IsFile}
use Rattle.omf_io.specs.Files.{FileMap}
use Rattle.omf_io.specs.Sinks.{SinkSeen, with_text, FailsToPrint}
use Rattle.link_meaning.specs.LinkFaults.{plain}
use Rattle.link_meaning.specs.EmitFaults.{IsLinkedTo}
use Rattle.loader_machine.specs.State.{Machine}
use Rattle.loader_agrees.specs.Agrees.{Loaded, Agrees}
use Rattle.workload_meaning.specs.Object.{object}
use Rattle.workload.specs.Rounds.{program}
use Rattle.workload.specs.Work.{HasWorked}
use Rattle.omf_making.specs.declared.status.Status.{Status}
use Rattle.omf_making.specs.declared.status.Status.TheVariants.{Done, CannotPrint, Memory}

-- the one object of a workload
pub record IsOfWorkload (files : List (List ℕ)) : Type 0 where
  pub n : ℕ
  pub seed : ℕ
  pub some : 1 ≤ n
  pub few : n ≤ 64
  pub parts : files ≡ object n seed ∷ []
  pub bytes : IsBytes (object n seed)
  pub short : length (object n seed) ≤ 16777216

-- these files hold the object's load file alone, which has `count` segments
pub record IsStore (object : List ℕ) (files : FileMap) (count : ℕ) : Type 0 where
  pub file : List ℕ
  pub linked : IsLinkedTo (plain (object ∷ [])) file
  pub segments : (segments : List Segment) × IsFile segments file × (count ≡ length segments)
  pub only : files ≡ insert empty program file

-- how many segments the load file has, and entries its table; how many JSLs entered a segment, and calls were refused; and the
-- sum of all bytes of all active segments
abbrev pub stress_line : (segments entries entered refused sum : ℕ) → List ℕ
stress_line segments entries entered refused sum =
    line (codes "segments " ++ decimal segments ++ codes " entries " ++ decimal entries ++ codes " entered " ++ decimal entered
    ++ codes " refused " ++ decimal refused ++ codes " sum " ++ hexadecimal 8 sum)

-- The workload's object is linked, and its calls are answered by a loader over the load file alone. The loader agrees with the state
-- to which the last call leads.
pub record RunsTo (n seed : ℕ) (loader : Loaded) (count entered refused sum : ℕ) : Type 0 where
  pub files : FileMap
  pub store : IsStore (object n seed) files count
  pub last : Machine
  pub worked : HasWorked files n seed count entered refused sum last
  pub agrees : Agrees files loader last

-- and this line reports the result
pub record HasStressed (n seed : ℕ) (loader : Loaded) (text : List ℕ) : Type 0 where
  pub count : ℕ
  pub entered : ℕ
  pub refused : ℕ
  pub sum : ℕ
  pub runs : RunsTo n seed loader count entered refused sum
  pub text_is : text ≡ stress_line count n entered refused sum

-- how a run ends: the line was printed whole, and the loader is handed out; or the first bytes of it; or nothing, when out of memory
abbrev pub HasEnded : Status → ℕ → ℕ → Option Loaded → SinkSeen → SinkSeen → Type 0
HasEnded Done n seed (Some loader) before now = (text : List ℕ) × HasStressed n seed loader text × (now ≡ with_text text before)
HasEnded CannotPrint n seed None before now = (loader : Loaded) × (text : List ℕ) × HasStressed n seed loader text × FailsToPrint text before now
HasEnded Memory n seed None before now = now ≡ before
HasEnded _ n seed last before now = ⊥
