-- The canonical file in the place of a load file.
use Rattle.std.specs.Prelude.{◌≡◌, ◌≢◌, ◌≤◌, ℕ, List, [], ◌∷◌, length, Some}
use Rattle.std.specs.FinMap.{get}
use Rattle.omf_io.specs.Files.{FileMap, max_file}
use Rattle.omf_format.specs.Number.{IsBytes}
use Rattle.load_meaning.specs.declared.load.LoadCause.TheVariants.{NotLoadFile}
use Rattle.load_meaning.specs.declared.load.LoadFault.{LoadFault}
use Rattle.loader_machine.specs.declared.faults.LoaderFault.TheVariants.{BadFile}
use Rattle.loader_machine.specs.State.{Machine}
use Rattle.loader_machine.specs.Commands.{Command, Reply, Refused}
use Rattle.loader_machine.specs.Transcript.{AreAnswered}
use Rattle.omf_compact.specs.Answer.{IsAnswer}

-- the stores hold the same but for these files at a path
pub record Replaces (path file other : List ℕ) (held now : FileMap) : Type 0 where
  pub before : get held path ≡ Some file
  pub following : get now path ≡ Some other
  pub rest : (q : List ℕ) → q ≢ path → get now q ≡ get held q

-- ---- replies

-- the file is no load file, by a segment that begins there
abbrev pub no_load_file : ℕ → ℕ → LoadFault
no_load_file segment at = record { cause = NotLoadFile; segment = segment; at = at }

-- the replies are the same; or both say that a file is no load file, by the same segment, and may differ in its place
pub data IsLikeReply (reply other : Reply) : Type 0 where
  SameReply : reply ≡ other → IsLikeReply reply other
  OtherPlace : (segment at at' : ℕ) → reply ≡ Refused (BadFile (no_load_file segment at)) → other ≡ Refused (BadFile (no_load_file segment at')) → IsLikeReply reply other

abbrev pub AreLikeReplies : List Reply → List Reply → Type 0
AreLikeReplies [] [] = Unit {0}
AreLikeReplies [] (other ∷ others) = ⊥
AreLikeReplies (reply ∷ replies) [] = ⊥
AreLikeReplies (reply ∷ replies) (other ∷ others) = IsLikeReply reply other × AreLikeReplies replies others

-- a script that is answered over one store is answered alike over the other
abbrev pub AnswersAlike : FileMap → FileMap → Machine → List Command → List Reply → ℕ → ℕ → Machine → Type 0
AnswersAlike held now state commands replies others reads last = AreAnswered held state commands replies others reads last
    → (answers : List Reply) × AreLikeReplies replies answers × AreAnswered now state commands answers others reads last

-- The canonical file in the place of a load file of at most 16,777,216 bytes changes no reply to a script that begins after that, but
-- for the place in a refusal of a file that is no load file: over both stores a script is answered alike.
abbrev pub AnswerIsNotSeen : Type 0
AnswerIsNotSeen = (path file out : List ℕ) (held now : FileMap) → IsBytes file → length file ≤ max_file → IsAnswer file out → Replaces path file out held now
    → (state : Machine) (commands : List Command) (replies : List Reply) (others reads : ℕ) (last : Machine)
    → AnswersAlike held now state commands replies others reads last × AnswersAlike now held state commands replies others reads last
