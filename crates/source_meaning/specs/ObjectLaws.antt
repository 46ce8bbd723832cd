-- A source with macro files has one answer: one object at most, or one first fault; and the object is a file.
use Rattle.std.proofs.Common.{◌≡◌, ℕ, ◌≤◌, List, length}
use Rattle.omf_format.specs.File as format
use Rattle.omf_format.specs.File.{IsFile}
use Rattle.asm_meaning.specs.declared.faults.AsmFault.{AsmFault}
use Rattle.asm_meaning.specs.Object.{object_text, most_bytes}
use Rattle.asm_meaning.specs.ObjectFile.{AreReadAs}
use Rattle.asm_meaning.specs.State.{State}
use Rattle.source_meaning.specs.Object.{IsObject, IsFirstFault, HasLines}

-- a source with macro files is assembled to one object at most
abbrev pub OneObject : Type 0
OneObject = (source : List ℕ) (macros : List (List ℕ)) (a b : List ℕ) → IsObject source macros a → IsObject source macros b → a ≡ b

-- one that is assembled has no fault
abbrev pub NoFaultBeside : Type 0
NoFaultBeside = (source : List ℕ) (macros : List (List ℕ)) (a : List ℕ) (fault : AsmFault) → IsObject source macros a → IsFirstFault source macros fault → ⊥

-- and another has one first fault at most
abbrev pub OneFirstFault : Type 0
OneFirstFault = (source : List ℕ) (macros : List (List ℕ)) (a b : AsmFault) → IsFirstFault source macros a → IsFirstFault source macros b → a ≡ b

-- none has neither an object nor a fault
abbrev pub NoneUnanswered : Type 0
NoneUnanswered = (source : List ℕ) (macros : List (List ℕ)) → ((object : List ℕ) → IsObject source macros object → ⊥) → ((fault : AsmFault) → IsFirstFault source macros fault → ⊥) → ⊥

-- the object is a file of these segments
abbrev pub ObjectIsFile : Type 0
ObjectIsFile = (source : List ℕ) (macros : List (List ℕ)) (last : State) → HasLines source macros last → length (object_text last.ended) ≤ most_bytes
    → (segments : List format.Segment) × IsFile segments (object_text last.ended) × AreReadAs last.ended segments
