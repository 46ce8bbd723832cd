-- The parts of a want's fitting that don't look at blocks. No public clause cites this module.
use Rattle.std.specs.Prelude.{◌≡◌, ℕ, ◌+◌, ◌%◌, ◌^◌, ◌<◌, ◌≤◌, false, List, IfSome, IsTrue}
use Rattle.iigs_meaning.specs.declared.wants.Want.{Want}
use Rattle.iigs_meaning.specs.Free.{bank_of, low_of, is_special, IsFree}
use Rattle.iigs_places.specs.declared.open.AddressSpan.{AddressSpan}

-- the want lets its block have bytes in this bank
pub record Permits (want : Want) (bank : ℕ) : Type 0 where
  pub fixed : IfSome want.bank (λ fixed. bank ≡ fixed)
  pub special : IsTrue want.no_special → is_special bank ≡ false

-- the byte at an address may belong to a block of this want
pub record Allows (banks : List ℕ) (want : Want) (i : ℕ) : Type 0 where
  pub free : IsFree banks i
  pub permitted : Permits want (bank_of i)

-- a block of this want may begin at the address, whatever bytes it has
pub record Stands (want : Want) (address : ℕ) : Type 0 where
  pub aligned : address % want.align ≡ 0
  pub fixed : IfSome want.at (λ at. address ≡ at)
  pub low : IfSome want.low (λ low. low_of address ≡ low)

-- all bytes of a block at the address may belong to it, and it crosses no border that it may not
pub record IsClear (banks : List ℕ) (want : Want) (address : ℕ) : Type 0 where
  pub allowed : (i : ℕ) → address ≤ i → i < address + want.size → Allows banks want i
  pub crossing : IsTrue want.no_cross → (i : ℕ) → address ≤ i → i < address + want.size → bank_of i ≡ bank_of address

-- the want fits at the address where no block is
pub record IsOpen (banks : List ℕ) (want : Want) (address : ℕ) : Type 0 where
  pub stands : Stands want address
  pub clear : IsClear banks want address

-- no byte of the bank may belong to a block of this want
abbrev pub AllowsNone : List ℕ → Want → ℕ → Type 0
AllowsNone banks want bank = (i : ℕ) → bank_of i ≡ bank → ¬ Allows banks want i

-- the bytes of the bank that may belong to a block of this want are those from one low part up to another
pub record IsSpan (banks : List ℕ) (want : Want) (bank : ℕ) (span : AddressSpan) : Type 0 where
  pub begins : span.from ≤ 0x10000
  pub within : span.to ≤ 0x10000
  pub all : (i : ℕ) → bank_of i ≡ bank → span.from ≤ low_of i → low_of i < span.to → Allows banks want i
  pub from : (i : ℕ) → bank_of i ≡ bank → Allows banks want i → span.from ≤ low_of i
  pub to : (i : ℕ) → bank_of i ≡ bank → Allows banks want i → low_of i < span.to

-- the bytes of a block at the address that lie in this bank may belong to it
abbrev pub ClearIn : List ℕ → Want → ℕ → ℕ → Type 0
ClearIn banks want bank address = (i : ℕ) → address ≤ i → i < address + want.size → bank_of i ≡ bank → Allows banks want i

-- from the address up to a later one the want is nowhere clear
pub record BarredUpTo (banks : List ℕ) (want : Want) (address later : ℕ) : Type 0 where
  pub after : address < later
  pub limit : later ≤ 2 ^ 24
  pub barred : (other : ℕ) → address ≤ other → other < later → ¬ IsClear banks want other

-- the first place from an address on at which a block of this want may begin, whatever bytes it has
pub record IsNextStand (want : Want) (from place : ℕ) : Type 0 where
  pub after : from ≤ place
  pub stands : Stands want place
  pub first : (other : ℕ) → from ≤ other → other < place → ¬ Stands want other

-- the first address from one on at which the want fits where no block is
pub record IsNextOpen (banks : List ℕ) (want : Want) (from place : ℕ) : Type 0 where
  pub after : from ≤ place
  pub limit : place + want.size ≤ 2 ^ 24
  pub open_ : IsOpen banks want place
  pub first : (other : ℕ) → from ≤ other → other < place → ¬ IsOpen banks want other
