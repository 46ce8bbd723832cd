-- Why no library is made of files, and how these are seen.
use Rattle.std.specs.Prelude.{◌≡◌, ◌<◌, ℕ, ◌+◌, false, true, List, ◌∷◌, ◌++◌, length, Option, Some, None}
use Rattle.std.specs.List.{list_any}
use Rattle.omf_format.specs.declared.fault.FileCause.{FileCause}
use Rattle.omf_format.specs.declared.fault.FileCause.TheVariants as file_cause
use Rattle.omf_format.specs.declared.fault.FileFault.{FileFault}
use Rattle.omf_format.specs.File.{Segment, IsFirstFault}
use Rattle.omf_base.specs.declared.spot.Spot.{Spot}
use Rattle.omf_records.specs.Segments.{IsRefused}
use Rattle.lib_dict.specs.declared.fault.LibCause.{LibCause}
use Rattle.lib_dict.specs.declared.fault.LibCause.TheVariants.{Truncated, BadHeader, Unsupported, BadRecord, TooLong, Memory}
use Rattle.lib_dict.specs.declared.fault.LibFault.{LibFault}
use Rattle.lib_dict.specs.declared.member.Member.{Member}
use Rattle.lib_dict.specs.declared.members.MemberRead.{MemberRead}
use Rattle.lib_dict.specs.Library.{LibraryInput, LibraryFile, is_dictionary, AreMembers, IsLibraryOf, IsTooLong, HasDictionary, library_bytes}
use Rattle.object_meaning.specs.Sizes.{most_bytes}

-- a file that is given, by its name and its bytes
abbrev pub given_file : Member → LibraryInput
given_file m = record { name = m.name; bytes = m.bytes.items }

-- a file that was read
abbrev pub library_file : MemberRead → LibraryFile
library_file r = record { name = r.member.now.name; bytes = r.member.now.bytes.items; segments = r.list }

-- no place
pub record IsNowhere (spot : Spot) : Type 0 where
  pub file : spot.file ≡ 0
  pub segment : spot.segment ≡ 0
  pub at : spot.at ≡ 0

-- the cause of a file's fault, as a cause of the library's
abbrev pub lib_cause : FileCause → LibCause
lib_cause file_cause.Truncated = Truncated
lib_cause file_cause.BadHeader = BadHeader
lib_cause file_cause.Unsupported = Unsupported
lib_cause file_cause.BadRecord = BadRecord
lib_cause file_cause.Memory = Memory

-- a file has this fault: its own first fault, or where it has none its first segment that is a dictionary
pub data HasMemberFault (bytes : List ℕ) (cause : LibCause) (segment at : ℕ) : Type 0 where
  InFile : (of : FileFault) → IsFirstFault bytes of → cause ≡ lib_cause of.cause → segment ≡ of.segment → at ≡ of.at → HasMemberFault bytes cause segment at
  OfDictionary : HasDictionary bytes segment at → cause ≡ BadRecord → HasMemberFault bytes cause segment at

-- the first file at fault has this one
pub record IsFirstMemberFault (given : List LibraryInput) (fault : LibFault) : Type 0 where
  pub before : List LibraryInput
  pub file : LibraryInput
  pub following : List LibraryInput
  pub parts : given ≡ before ++ file ∷ following
  pub files : List LibraryFile
  pub sound : AreMembers before files
  pub number : fault.spot.file ≡ length before + 1
  pub here : HasMemberFault file.bytes fault.cause fault.spot.segment fault.spot.at

-- a fault of a file, a library that is too long, and lack of memory
abbrev pub ByCause : LibCause → Type 0 → Type 0 → Type 0 → Type 0
ByCause Truncated file long memory = file
ByCause BadHeader file long memory = file
ByCause Unsupported file long memory = file
ByCause BadRecord file long memory = file
ByCause TooLong file long memory = long
ByCause Memory file long memory = memory

-- no library is made of the files, for this reason, unless out of memory
abbrev pub IsLibRefused : LibFault → List LibraryInput → Type 0
IsLibRefused fault given = ByCause fault.cause (IsFirstMemberFault given fault) (IsTooLong given × IsNowhere fault.spot) (IsNowhere fault.spot)

-- files of which a library is made are refused only when out of memory
abbrev pub MadeIsRefusedForMemoryAlone : Type 0
MadeIsRefusedForMemoryAlone = (given : List LibraryInput) (bytes : List ℕ) (fault : LibFault)
    → IsLibraryOf given bytes → IsLibRefused fault given → fault.cause ≡ Memory

-- ---- on the way

-- the file with this number is refused so, unless out of memory
abbrev pub IsMemberRefused : LibFault → ℕ → List ℕ → Type 0
IsMemberRefused fault file bytes =
    ByCause fault.cause ((fault.spot.file ≡ file) × HasMemberFault bytes fault.cause fault.spot.segment fault.spot.at) ⊥ (IsNowhere fault.spot)

abbrev pub FaultIn : FileFault → ℕ → LibFault → Type 0
FaultIn fault file reported = (bytes : List ℕ) → IsRefused fault bytes → IsMemberRefused reported file bytes

-- the first segment that is a dictionary, by its number and its start
abbrev pub FirstDictionary : List Segment → Option (ℕ × ℕ) → Type 0
FirstDictionary segments None = list_any is_dictionary segments ≡ false
FirstDictionary segments (Some found) =
    (before : List Segment) × (d : Segment) × (following : List Segment) × (segments ≡ before ++ d ∷ following) × (list_any is_dictionary before ≡ false)
    × (is_dictionary d ≡ true) × (found.0 ≡ length before + 1) × (found.1 ≡ d.start)

-- the library of these files would be too long, unless out of memory
abbrev pub IsTooLongOrMemory : List LibraryFile → LibFault → Type 0
IsTooLongOrMemory files fault = ByCause fault.cause ⊥ ((most_bytes < length (library_bytes files)) × IsNowhere fault.spot) (IsNowhere fault.spot)
