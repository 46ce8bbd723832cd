-- A loader in a caller's struct, or none.
use Rattle.std.specs.Prelude.{◌≡◌, ℕ, List, [], Option, None, Some, IsSome}
use Rattle.omf_io.specs.Files.{FileMap}
use Rattle.iigs_meaning.specs.Memory.{IsNew}
use Rattle.iigs_meaning.specs.Banks.{IsBanksRefusal}
use Rattle.iigs_meaning.specs.declared.faults.BanksFault.TheVariants as banks_fault
use Rattle.loader_machine.specs.State.{empty_of}
use Rattle.loader_agrees.specs.Agrees.{Loaded, Agrees}
use Rattle.omf_c_loader.specs.declared.holder.OmfLoader.{OmfLoader}
use Rattle.omf_c_loader.specs.Refusals.{status_done, status_memory, status_misused}

-- the loader that is there, if one is
abbrev pub inside : OmfLoader → Option Loaded
inside holder = holder.pointer.value

-- a loader of these banks is made where there was none; or the call is misused, or memory is missing, and all stays
pub data IsMakeAnswer (banks : List ℕ) (status : ℕ) (old new : Option Loaded) : Type 0 where
  Made : status ≡ status_done → old ≡ None → (loader : Loaded) → new ≡ Some loader → IsNew banks loader.memory → loader.users ≡ []
      → ((held : FileMap) → Agrees held loader (empty_of banks)) → IsMakeAnswer banks status old new
  IsThere : status ≡ status_misused → IsSome old → new ≡ old → IsMakeAnswer banks status old new
  NoBanks : status ≡ status_misused → old ≡ None → IsBanksRefusal banks banks_fault.NoBanks → new ≡ old → IsMakeAnswer banks status old new
  BankTwice : status ≡ status_misused → old ≡ None → (bank : ℕ) → IsBanksRefusal banks (banks_fault.BankTwice bank) → new ≡ old → IsMakeAnswer banks status old new
  Lacks : status ≡ status_memory → old ≡ None → new ≡ old → IsMakeAnswer banks status old new
