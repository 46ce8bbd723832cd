-- A segment that was filled in from its file, where the segments lie at these addresses: its block begins with its content.
use Rattle.std.proofs.Common.{◌≡◌, ℕ, Bool, false, cond, List, [], ◌∷◌, map, refl, sym, ap, ◌∙◌}
use Rattle.omf_format.specs.File.{Segment}
use Rattle.load_meaning.specs.Cells as load
use Rattle.load_meaning.specs.Cells.{Cell, Byte, Part, byte_of, cells}
use Rattle.load_meaning.specs.LoadTable.{is_table, targets_of}
use Rattle.loader_machine.specs.State.{no_pokes}
use Rattle.loader_machine.specs.Stands.{AddressSetting, stands}
use Rattle.loader_machine.specs.laws.Words.{entries_bytes, read_bytes}
use Rattle.loader_machine.specs.laws.PokeLaws.{over_none}

byte_same : (p q : ℕ → ℕ) → ((n : ℕ) → p n ≡ q n) → (c : Cell) → byte_of p c ≡ byte_of q c
byte_same p q same (Byte b) = refl
byte_same p q same (Part file segment offset shift index) = ap (λ (place : ℕ). byte_of (λ (n : ℕ). place) (Part file segment offset shift index)) (same segment)

map_same : (p q : ℕ → ℕ) → ((n : ℕ) → p n ≡ q n) → (cs : List Cell) → map (byte_of p) cs ≡ map (byte_of q) cs
map_same p q same [] = refl
map_same p q same (c ∷ cs) = cc (byte_same p q same c, map_same p q same cs)

-- the content that a file gives a segment at these addresses is its content in memory, where it is no table and has no pokes
pub plain_stands : (at : AddressSetting) (s : Segment) (places : ℕ → ℕ) → is_table s ≡ false → ((n : ℕ) → places n ≡ at.place n) → stands at no_pokes s ≡ load.stands places s
unfolding stands
plain_stands at s places plain same =
    over_none (read_bytes at s) ∙ ap (λ (t : Bool). cond t (entries_bytes at (targets_of s)) (map (byte_of at.place) (cells s))) plain
    ∙ sym (map_same places at.place same (cells s))
