-- Where what is kept of a segment ends. No public clause cites this module.
use Rattle.std.specs.Prelude.{◌≡◌, ◌⊎◌, ℕ, suc, ◌+◌, ◌-◌, ◌<◌, ◌≤◌, false, List, length, Some, None, slice_get}
use Rattle.load_meaning.specs.laws.Steps.{is_zero}
use Rattle.load_meaning.specs.Cells.{Cell}
use Rattle.load_content.specs.declared.pieces.BytePiece.{BytePiece}
use Rattle.load_content.specs.Content.{last_at, IsAt}

-- there is no cell from this offset on, and, unless it is 0, one that isn't a byte 0 right before it
pub record IsEnd (founds : List (ℕ × Cell)) (end : ℕ) : Type 0 where
  pub past : (k : ℕ) → end ≤ k → last_at founds k ≡ None
  pub last : (end ≡ 0) ⊎ ((c : Cell) × (1 ≤ end) × (last_at founds (end - 1) ≡ Some c) × (is_zero c ≡ false))

-- a byte of a piece that isn't 0 ends there
pub record EndsAt (p : BytePiece) (end : ℕ) : Type 0 where
  pub place : ℕ
  pub inside : place < length p.bytes.now
  pub byte : slice_get p.bytes.now place ≡ Some 0 → ⊥
  pub end' : end ≡ suc (p.start + place)

-- from a place on, the bytes of the piece after its reach are 0, and the last one before isn't; the reach is 0 where all are
pub record HasReach (p : BytePiece) (low reach : ℕ) : Type 0 where
  pub zeros : (m : ℕ) → m < length p.bytes.now → low ≤ p.start + m → reach ≤ p.start + m → slice_get p.bytes.now m ≡ Some 0
  pub last : (reach ≡ 0) ⊎ EndsAt p reach

-- from `low` on, the bytes of the first `n` pieces after this reach are 0, and the last one before isn't; the reach is `low` where all are
pub record HaveReach (pieces : List BytePiece) (n low reach : ℕ) : Type 0 where
  pub low' : low ≤ reach
  pub zeros : (i m : ℕ) (p : BytePiece) → i < n → IsAt pieces i p → m < length p.bytes.now → reach ≤ p.start + m → slice_get p.bytes.now m ≡ Some 0
  pub last : (reach ≡ low) ⊎ ((i : ℕ) × (p : BytePiece) × (i < n) × IsAt pieces i p × EndsAt p reach)
