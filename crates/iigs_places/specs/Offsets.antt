-- Where the bytes of the configured banks lie in one buffer. No public clause cites this module.
use Rattle.std.specs.Prelude.{◌≡◌, ℕ, Bool, zero, suc, ◌+◌, ◌==◌, ◌<◌, ◌≤◌, List, All, length, slice_index, if◌then◌else◌}
use Rattle.std.specs.List.{list_any}
use Rattle.iigs_meaning.specs.Free.{bank_of, low_of}

-- the bank is configured
abbrev pub is_named : List ℕ → ℕ → Bool
is_named banks bank = list_any (λ other. bank == other) banks

-- how many bytes the configured banks below this one have
unfoldable pub bytes_below : List ℕ → ℕ → ℕ
bytes_below banks zero = 0
bytes_below banks (suc bank) = bytes_below banks bank + (if is_named banks bank then 0x10000 else 0)

-- the place in the buffer of the byte at an address
abbrev pub offset_of : List ℕ → ℕ → ℕ
offset_of banks address = bytes_below banks (bank_of address) + low_of address

-- the table has the bytes below each bank, of which there are 256
pub record IsMapOf (banks starts : List ℕ) : Type 0 where
  pub small : All (λ bank. bank < 256) banks
  pub size : length starts ≡ 257
  pub sums : (bank : ℕ) → bank ≤ 256 → slice_index starts bank ≡ bytes_below banks bank
