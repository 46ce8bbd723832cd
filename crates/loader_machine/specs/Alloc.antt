-- The bits of ATTR that a script's `alloc` may set. Scripts are this project's own.
use Rattle.std.specs.Prelude.{ℕ, ◌==◌, Bool, bit_and}

-- the bits of ATTR: locked, fixed, level, no cross, no special memory, on a page, at the address, in its bank; no other may be set
abbrev pub is_attributes : ℕ → Bool
is_attributes attributes = bit_and attributes 0x3CE0 == 0
