-- A loader without users.
use Rattle.std.proofs.Common.{◌≡◌, ℕ, zero, suc, [], replicate, Some, None, refl, sym, ap, ◌∙◌, arith}
use Rattle.iigs_meaning.specs.declared.wants.Block.{Block}
use Rattle.iigs_meaning.specs.Slots.{slot_at, new_slot}
use Rattle.iigs_meaning.specs.Fits.{Slots, block_in}
use Rattle.iigs_meaning.specs.Blocks.{new_slots}
use Rattle.iigs_meaning.specs.Memory.{Memory}
use Rattle.loader_agrees.specs.Agrees.{IsSound}

all_new : (n slot : ℕ) → slot_at (replicate n (new_slot {T = Block})) slot ≡ new_slot
all_new zero slot = refl
all_new (suc n) zero = refl
all_new (suc n) (suc slot) = all_new n slot

no_block : (slots : Slots) (slot : ℕ) (block : Block) → slots ≡ new_slots → block_in (slot_at slots slot) ≡ Some block → ⊥
unfolding new_slots
no_block slots slot block new is =
    let none : block_in (slot_at slots slot) ≡ None = ap (λ (t : Slots). block_in (slot_at t slot)) new ∙ ap block_in (all_new 4096 slot) in
    let clash : Some block ≡ None = sym is ∙ none in cc

pub sound_empty : (memory : Memory) → memory.slots ≡ new_slots → IsSound memory []
sound_empty memory new = record {
  few = omega arith;
  lengths = λ place kept made. absurd cc;
  short = λ place kept made. absurd cc;
  statics = λ place kept number head made runs has static. absurd cc;
  rests = λ place kept number made life. absurd cc;
  each = λ place number head h has. let made = has.made in absurd cc;
  once = λ place other number n head second h k has has' same. let made = has.made in absurd cc;
  only = λ slot block is user. absurd (no_block memory.slots slot block new is);
  attached = record { few = λ place kept made. absurd cc; each = λ place i n kept made is. absurd cc; once = λ place other i j n one two made made' is is'. absurd cc };
  calls = λ place number k head h has table there inside. let made = has.made in absurd cc;
}
