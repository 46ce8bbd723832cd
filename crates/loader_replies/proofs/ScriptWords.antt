-- Words of scripts are texts, and banks that aren't named twice are distinct.
use Rattle.std.proofs.Common.{◌≡◌, ℕ, zero, suc, Bool, true, false, ◌<◌, List, [], ◌∷◌, length, refl, sym, ◌∙◌, arith}
use Rattle.std.specs.Prelude.{◌&&◌, nat_le, slice_index}
use Rattle.std.proofs.lemmas.Bool.Decides.{nat_tests}
use Rattle.std.specs.List.{list_all}
use Rattle.std.specs.Str.{IsUtf8}
use Rattle.std.proofs.lemmas.Str.{IsUtf8-from_ascii}
use Rattle.iigs_meaning.specs.declared.faults.BanksFault.TheVariants.{BankTwice}
use Rattle.iigs_meaning.specs.Banks.{IsBanksRefusal}
use Rattle.loader_machine.specs.Script.{is_word, stands_twice}
use Rattle.loader_machine.specs.laws.ScriptCommandLaws.{stands_twice-distinct}

both : (a b : Bool) → (a && b) ≡ true → (a ≡ true) × (b ≡ true)
both true b is = (refl, is)
both false b is = absurd (cc)

byte_small : (byte : ℕ) → (nat_le 0x21 byte && nat_le byte 0x7E) ≡ true → byte < 128
byte_small byte is = let le : nat_le byte 0x7E ≡ true = (both (nat_le 0x21 byte) (nat_le byte 0x7E) is).1 in grind (arith, nat_tests)

small : (word : List ℕ) → list_all (λ byte. nat_le 0x21 byte && nat_le byte 0x7E) word ≡ true → (i : ℕ) → slice_index word i < 128
small [] is i = omega arith
small (byte ∷ word) is zero = byte_small byte (both (nat_le 0x21 byte && nat_le byte 0x7E) (list_all (λ b. nat_le 0x21 b && nat_le b 0x7E) word) is).0
small (byte ∷ word) is (suc i) = small word (both (nat_le 0x21 byte && nat_le byte 0x7E) (list_all (λ b. nat_le 0x21 b && nat_le b 0x7E) word) is).1 i

pub word_is_text : (word : List ℕ) → is_word word ≡ true → IsUtf8 word
unfolding is_word
word_is_text word is = IsUtf8-from_ascii word (small word (both (nat_le 1 (length word) && nat_le (length word) 255) (list_all (λ byte. nat_le 0x21 byte && nat_le byte 0x7E) word) is).1)

-- no bank is in a script's list twice
pub not_twice : (banks : List ℕ) (bank : ℕ) → stands_twice banks ≡ false → IsBanksRefusal banks (BankTwice bank) → ⊥
not_twice banks bank none twice = stands_twice-distinct banks none twice.earlier twice.place twice.before twice.inside (twice.again ∙ sym twice.is)
