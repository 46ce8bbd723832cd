-- Fields: each is a value taken from the start of the bytes, with the bytes after it, or what is wrong with it.
use Rattle.std.specs.Prelude.{◌≡◌, ℕ, zero, suc, ◌-◌, ◌≤◌, Bool, ◌&&◌, ℤ, pos, negsuc, int_le, List, [], ◌∷◌, ◌++◌, length, take, drop, replicate, Result, Ok, Err, nat_lt, nat_le, ◌==◌, if◌then◌else◌}
use Rattle.std.specs.Int.{w8, cast_signed, cast_unsigned}
use Rattle.omf_format.specs.declared.fault.Flaw.{Flaw}
use Rattle.omf_format.specs.declared.fault.Flaw.TheVariants.{Cut, Broken}
use Rattle.omf_format.specs.Number.{number_at}
use Rattle.omf_format.specs.Name.{without_trailing, name_at, name_size}

infixl 10 ◌>>=◌
-- what follows where nothing was wrong so far
abbrev pub ◌>>=◌ : {A B E : Type 0} → Result A E → (A → Result B E) → Result B E
(Ok x) >>= f = f x
(Err e) >>= f = Err e

-- how a segment's names and its labels' lengths are laid out: LABLEN, and how many bytes a length has
pub record Layout : Type 0 where
  pub lab_len : ℕ
  pub length_width : ℕ

-- a length has two bytes, and one in version 1
unfoldable pub length_width_of : ℕ → ℕ
length_width_of version = if version == 1 then 1 else 2

abbrev pub layout_of : ℕ → ℕ → Layout
layout_of version lab_len = record { lab_len = lab_len; length_width = length_width_of version }

-- what is written has LABLEN 0 and is of version 2
abbrev pub written_layout : Layout
written_layout = record { lab_len = 0; length_width = 2 }

-- how a field is read from the start of the bytes
abbrev pub Reads : Type 0 → Type 0
Reads A = List ℕ → Result (A × List ℕ) Flaw

-- n bytes as they are
unfoldable pub bytes_field : ℕ → List ℕ → Result (List ℕ × List ℕ) Flaw
bytes_field n bytes = if nat_lt (length bytes) n then Err Cut else Ok (take n bytes, drop n bytes)

-- a number of a given number of bytes
unfoldable pub number_field : ℕ → List ℕ → Result (ℕ × List ℕ) Flaw
number_field width bytes = if nat_lt (length bytes) width then Err Cut else Ok (number_at width 0 bytes, drop width bytes)

-- a name, which isn't empty
unfoldable pub name_field : ℕ → List ℕ → Result (List ℕ × List ℕ) Flaw
name_field lab_len bytes =
    if nat_lt (length bytes) (name_size lab_len 0 bytes) then Err Cut
    else if length (name_at lab_len 0 bytes) == 0 then Err Broken
    else Ok (name_at lab_len 0 bytes, drop (name_size lab_len 0 bytes) bytes)

-- one byte
unfoldable pub byte_field : Reads ℕ
byte_field [] = Err Cut
byte_field (byte ∷ rest) = Ok (byte, rest)

infixr 20 ◌⊗◌
-- a field, and another one after it
abbrev pub ◌⊗◌ : {A B : Type 0} → Reads A → Reads B → Reads (A × B)
(first ⊗ second) bytes = first bytes >>= λ a. second a.1 >>= λ b. Ok ((a.0, b.0), b.1)

-- a field whose value has to pass a test
abbrev pub field_that_passes : {A : Type 0} → (A → Bool) → Flaw → Reads A → Reads A
field_that_passes test flaw read bytes = read bytes >>= λ x. if test x.0 then Ok x else Err flaw

-- fields of which something is made
abbrev pub taken_as : {A B : Type 0} → (A → B) → Reads A → Reads B
taken_as make read bytes = read bytes >>= λ x. Ok (make x.0, x.1)

-- a count of bytes is 1 to 4
abbrev pub is_count : ℕ → Bool
is_count n = nat_le 1 n && nat_le n 4

unfoldable pub count_field : Reads ℕ
count_field = field_that_passes is_count Broken byte_field

-- a shift is a number from -31 to 31; positive shifts left, negative right
abbrev pub is_shift : ℤ → Bool
is_shift count = int_le (negsuc 30) count && int_le count (pos 31)

-- it is stored as a byte in two's complement
abbrev pub shift_byte : ℤ → ℕ
shift_byte shift = cast_unsigned w8 shift

unfoldable pub shift_field : Reads ℤ
shift_field = field_that_passes is_shift Broken (taken_as (cast_signed w8) byte_field)

-- the bytes of a name: with LABLEN 0 a length byte and the name, else the name and spaces up to LABLEN bytes
unfoldable pub name_text : ℕ → List ℕ → List ℕ
name_text zero name = length name ∷ name
name_text (suc n) name = name ++ replicate (suc n - length name) 32

-- which names can be written so: none is empty, and one that is followed by spaces doesn't end in one
abbrev pub IsName : ℕ → List ℕ → Type 0
IsName zero name = (1 ≤ length name) × (length name ≤ 255)
IsName (suc n) name = (1 ≤ length name) × (length name ≤ suc n) × (without_trailing 32 name ≡ name)

-- what a function took from the start of the bytes, as it is seen, is what reading gives
abbrev pub Gives : {X Y E : Type 0} → (X → Y) → Result X E → Result Y E → Type 0
Gives seen_as (Ok x) read = read ≡ Ok (seen_as x)
Gives seen_as (Err fault) read = read ≡ Err fault
