-- What resolving answers.
use Rattle.std.specs.Prelude.{◌≡◌, ◌⊎◌, ◌++◌, ◌<◌, ◌≤◌, ◌^◌, ℕ, ◌+◌, ◌*◌, List, [], ◌∷◌, length, map, Vec}
use Rattle.std.specs.Global.{Global}
use Rattle.omf_format.specs.File.{Segment}
use Rattle.link_meaning.specs.declared.fault.LinkFault.{LinkFault}
use Rattle.link_meaning.specs.First.{IsFirst}
use Rattle.lib_dict.specs.declared.member.Member as given
use Rattle.link_meaning.specs.declared.form.LinkForm.{LinkForm}
use Rattle.link_meaning.specs.Member.{Input, LinkSetting, Member, objects}
use Rattle.link_meaning.specs.LinkedList.{all_uses}
use Rattle.link_meaning.specs.LinkFaults.{LinkInput, MayHave, AreInputs, HasFileFault, HasUseFault, IsFirstResolveFault, IsResolved}
use Rattle.link_resolve.specs.declared.gather.Gathered as gathered
use Rattle.link_tables.specs.declared.layout.LinkLayout as laid
use Rattle.link_program.specs.Memory.{memory_fault}
use Rattle.link_resolve.specs.declared.resolving.InputsRead.{InputsRead}
use Rattle.link_resolve.specs.declared.resolving.Grown.{Grown}
use Rattle.load_meaning.specs.Pathnames.{IsPath}
use Rattle.link_resolve.specs.Runtimes.{files_of, AreRead}
use Rattle.link_program.specs.Programs.{runtimes_of}
use Rattle.std.specs.List.{AllByRecursion}
use Rattle.link_resolve.specs.Gathered.{IsGathered}
use Rattle.link_program.specs.Grown.{HasGrown}
use Rattle.link_tables.specs.Laid.{Laid, AllShort}

-- the bytes of files that are held
abbrev pub all_bytes : List (Vec ℕ Global) → List (List ℕ)
all_bytes files = map (λ file. file.items) files

-- what the linker is given, where these are held
abbrev pub given_of : List (Vec ℕ Global) → List given.Member → LinkForm → LinkInput
given_of inputs runtimes form = record { inputs = all_bytes inputs; runtimes = files_of runtimes; form = form }

-- how many bytes files have together
abbrev pub total_size : List (List ℕ) → ℕ
total_size [] = 0
total_size (file ∷ files) = length file + total_size files

-- there are fewer than 2^32 files, and they have fewer than 2^32 bytes together
abbrev pub AreFew : List (List ℕ) → Type 0
AreFew files = (length files < 2 ^ 32) × (total_size files < 2 ^ 32)

-- the run-time library files have paths, and are no more than may be
abbrev pub HavePaths : LinkInput → Type 0
HavePaths given = AllByRecursion (λ file. IsPath file.0) given.runtimes × MayHave given.form given.runtimes

-- there are fewer than 2^32 files, since one list numbers both kinds, and all of them hold together fewer than 2^32 bytes
pub record FewGiven (given : LinkInput) : Type 0 where
  pub files : length given.inputs + length given.runtimes < 2 ^ 32
  pub bytes : total_size given.inputs + total_size (map (λ file. file.1) given.runtimes) < 2 ^ 32

-- each library has fewer rows than bytes: each row takes twelve
abbrev pub FewRows : List Input → List (List ℕ) → Type 0
FewRows [] files = Unit {0}
FewRows (i ∷ inputs) [] = Unit {0}
FewRows (i ∷ inputs) (bytes ∷ files) = (12 * length i.rows ≤ length bytes) × FewRows inputs files

-- all files were read, and these are the inputs
abbrev pub HasGathered : List (List ℕ) → gathered.Gathered → Type 0
HasGathered files kept = (inputs : List Input) × AreInputs files inputs × FewRows inputs files × IsGathered inputs kept

-- all inputs were read, and some are object files
abbrev pub HasObjects : List (List ℕ) → gathered.Gathered → Type 0
HasObjects files kept = HasGathered files kept × (length kept.linked.members.items ≡ 0 → ⊥)

-- what is read is linked to, and with what
abbrev pub setting_as : LinkForm → List (List Segment) → List given.Member → LinkSetting
setting_as form loads members = record { form = form; runtimes = runtimes_of loads members }

-- all files were read, and some of the inputs are object files
pub record IsReadAll (given : LinkInput) (read : InputsRead) : Type 0 where
  pub form' : read.form ≡ given.form
  pub files : files_of read.given.now ≡ given.runtimes
  pub runtimes' : AreRead read.given.now read.runtimes.loads.items read.runtimes.outside
  pub inputs' : HasObjects given.inputs read.gathered

abbrev pub setting_grown : Grown → LinkSetting
setting_grown grown = setting_as grown.form grown.runtimes.loads.items grown.given.now

-- this is the linked list of what is given, with the segments of all inputs, some of which are object files
pub record IsListOf (given : LinkInput) (kept : Grown) : Type 0 where
  pub form' : kept.form ≡ given.form
  pub files : files_of kept.given.now ≡ given.runtimes
  pub runtimes' : AreRead kept.given.now kept.runtimes.loads.items kept.runtimes.outside
  pub inputs : List Input
  pub are_inputs : AreInputs given.inputs inputs
  pub some : objects (setting_grown kept) inputs ≡ [] → ⊥
  pub grown : HasGrown (setting_grown kept) inputs kept.files.items kept.linked

-- neither the files nor the names and load segments of their list have a fault, and these are its load segments
pub record IsLaidOut (given : LinkInput) (list : List Member) (layout : laid.LinkLayout) : Type 0 where
  pub resolved : IsResolved given list
  pub laid : Laid list layout
  pub few : length layout.loads.items ≤ 254
  pub short : AllShort layout.loads.items

-- the inputs before one were read, and that one has this fault
pub record IsFirstInput (files : List (List ℕ)) (fault : LinkFault) : Type 0 where
  pub before : List (List ℕ)
  pub item : List ℕ
  pub after : List (List ℕ)
  pub parts : files ≡ before ++ item ∷ after
  pub inputs : List Input
  pub are : AreInputs before inputs
  pub here : HasFileFault (length before + 1) item fault

-- the first input at fault has this fault, unless out of memory
abbrev pub IsInputFault : List (List ℕ) → LinkFault → Type 0
IsInputFault files fault = (fault ≡ memory_fault) ⊎ IsFirstInput files fault

-- the first use that doesn't resolve has this fault, unless out of memory
abbrev pub IsUseFault : List Member → LinkFault → Type 0
IsUseFault list fault = (fault ≡ memory_fault) ⊎ IsFirst (HasUseFault list) (all_uses list) fault

-- it is the first fault of what is given, unless out of memory
abbrev pub IsRefused : LinkInput → LinkFault → Type 0
IsRefused given fault = (fault ≡ memory_fault) ⊎ IsFirstResolveFault given fault
