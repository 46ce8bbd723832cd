-- How a set of names is seen.
use Rattle.std.specs.Prelude.{◌≡◌, ℕ, Bool, List, bytes_eq, is_some, nat_le, ◌&&◌, ◌||◌, ◌==◌}
use Rattle.std.specs.Map.{lookup}
use Rattle.list_meaning.specs.Listing.{is_among}
use Rattle.list_lines.specs.declared.names.Names.{Names}

-- whether a name is there
abbrev pub has_name : Names → List ℕ → Bool
has_name names name = is_some (lookup (λ k. bytes_eq name k.now) names.map.entries)

-- the set has these names
abbrev pub AreNames : Names → List (List ℕ) → Type 0
AreNames names all = (name : List ℕ) → has_name names name ≡ is_among all name

-- a byte with which a name in upper case begins
abbrev pub is_upper_start : ℕ → Bool
is_upper_start byte = (nat_le 0x41 byte && nat_le byte 0x5A) || byte == 0x5F || byte == 0x7E

-- a byte that a name in upper case has
abbrev pub is_upper : ℕ → Bool
is_upper byte = is_upper_start byte || (nat_le 0x30 byte && nat_le byte 0x39)
