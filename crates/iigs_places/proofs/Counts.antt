-- The bytes of the configured banks below one.
use Rattle.std.proofs.Common.{◌≡◌, ℕ, Bool, true, false, cond, suc, zero, ◌+◌, ◌*◌, ◌≤◌, ◌↔◌, List, Contains, IsTrue, nat_lt, arith, refl, add-one, sym}
use Rattle.std.specs.Prelude.{nat_eq}
use Rattle.std.specs.Cmp.{nat_eq_equiv}
use Rattle.std.proofs.lemmas.Bool.{eqb-true}
use Rattle.std.proofs.lemmas.Bool.Decides.{nat_tests}
use Rattle.std.proofs.lemmas.Map.Views.{list_any-from_Contains, Contains-from_any}
use Rattle.std.proofs.Common.{◌-◌}
use Rattle.iigs_meaning.specs.Free.{free_end, first_free}
use Rattle.iigs_places.specs.Sizes.{free_below}
use Rattle.iigs_places.specs.Offsets.{is_named, bytes_below}

-- one bank more
pub bytes_below-suc : (banks : List ℕ) (bank : ℕ) → bytes_below banks (bank + 1) ≡ bytes_below banks bank + cond (is_named banks bank) 0x10000 0
unfolding bytes_below
bytes_below-suc banks bank = rw add-one refl

pub bytes_below-zero : (banks : List ℕ) → bytes_below banks 0 ≡ 0
unfolding bytes_below
bytes_below-zero banks = refl

cond_le : (b : Bool) → cond b 0x10000 0 ≤ 0x10000
cond_le true = omega arith
cond_le false = omega arith

pub bytes_below_le : (banks : List ℕ) (bank : ℕ) → bytes_below banks bank ≤ 0x10000 * bank
unfolding bytes_below
bytes_below_le banks zero = omega arith
bytes_below_le banks (suc bank) = omega (arith, bytes_below_le banks bank, cond_le (is_named banks bank))

-- a bank is configured where the next one has more bytes below
pub named-less : (banks : List ℕ) (bank : ℕ) → is_named banks bank ≡ nat_lt (bytes_below banks bank) (bytes_below banks (bank + 1))
named-less banks bank = rw bytes_below-suc (go (is_named banks bank) (bytes_below banks bank))
  where
    go : (b : Bool) (n : ℕ) → b ≡ nat_lt n (n + cond b 0x10000 0)
    go true n = grind (arith, nat_tests)
    go false n = grind (arith, nat_tests)

pub named_of_less : (banks : List ℕ) (bank low high : ℕ) → low ≡ bytes_below banks bank → high ≡ bytes_below banks (bank + 1)
    → nat_lt low high ≡ is_named banks bank
named_of_less banks bank low high l h = rw (l, h) (sym (named-less banks bank))

pub named-Contains : (banks : List ℕ) (bank : ℕ) → IsTrue (is_named banks bank) ↔ Contains banks bank
named-Contains banks bank = (λ named. Contains-from_any {eq = nat_eq} eqb-true bank banks named, λ has. list_any-from_Contains {eq = nat_eq} nat_eq_equiv bank banks has)

-- one bank more of free memory
pub free_below-suc : (banks : List ℕ) (bank : ℕ) → free_below banks (bank + 1) ≡ free_below banks bank + cond (is_named banks bank) (free_end bank - first_free bank) 0
unfolding free_below
free_below-suc banks bank = rw add-one refl

pub free_below-zero : (banks : List ℕ) → free_below banks 0 ≡ 0
unfolding free_below
free_below-zero banks = refl
