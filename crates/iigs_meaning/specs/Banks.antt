-- Lists of banks, and why one is refused.
use Rattle.std.specs.Prelude.{◌≡◌, ◌≢◌, ℕ, ◌<◌, List, [], length, slice_index}
use Rattle.iigs_meaning.specs.declared.faults.BanksFault.{BanksFault}
use Rattle.iigs_meaning.specs.declared.faults.BanksFault.TheVariants.{NoBanks, BankTwice, Memory}

-- up to a place no bank is named twice
abbrev pub AreDistinctTo : ℕ → List ℕ → Type 0
AreDistinctTo place banks = (i j : ℕ) → i < j → j < place → slice_index banks i ≢ slice_index banks j

-- the bank is the first that is in the list again
pub record IsFirstTwice (banks : List ℕ) (bank : ℕ) : Type 0 where
  pub place : ℕ
  pub inside : place < length banks
  pub is : slice_index banks place ≡ bank
  pub earlier : ℕ
  pub before : earlier < place
  pub again : slice_index banks earlier ≡ bank
  pub distinct : AreDistinctTo place banks

-- why there are no banks: none is named, and else one is named again; an allocation failure has no cause here
abbrev pub IsBanksRefusal : List ℕ → BanksFault → Type 0
IsBanksRefusal banks NoBanks = banks ≡ []
IsBanksRefusal banks (BankTwice bank) = IsFirstTwice banks bank
IsBanksRefusal banks Memory = Unit {0}
