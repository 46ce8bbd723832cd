-- The law on one line, for DC H: two digits a byte.
use Rattle.std.proofs.Common.{◌≡◌, ℕ, zero, suc, ◌+◌, ◌*◌, ◌-◌, ◌/◌, ◌<◌, ◌≤◌, Bool, true, false, cond, List, [], ◌∷◌, ◌++◌, length, Some, None, Ok, refl, sym, ap, subst, ◌∙◌, arith}
use Rattle.std.specs.Prelude.{codes, ◌==◌, ◌&&◌, not}
use Rattle.std.specs.List.{AllByRecursion, list_all, flat_map}
use Rattle.std.specs.Fmt as fmt
use Rattle.std.specs.Char.{is_digit}
use Rattle.std.specs.Str.Parse.{digits_value}
use Rattle.std.proofs.lemmas.Bool.{eqb-true, and_parts, le-leb}
use Rattle.std.proofs.lemmas.List.Concat.{flat_map-cons}
use Rattle.omf_base.specs.Digits as digits
use Rattle.omf_base.specs.Digits.{hexadecimal}
use Rattle.omf_format.specs.Field.{◌>>=◌}
use Rattle.omf_format.specs.Record.{Const}
use Rattle.orca_meaning.specs.Characters.{is_blank}
use Rattle.orca_meaning.specs.Line.{line_of}
use Rattle.orca_meaning.specs.Token as tokens
use Rattle.asm_meaning.specs.Constant.{Constants}
use Rattle.asm_meaning.specs.Elements as elements
use Rattle.asm_meaning.specs.Elements.{bytes_of_digits, bytes_of_group_digits, packed_digits, list_pieces}
use Rattle.asm_meaning.specs.laws.Steps.{without_spaces}
use Rattle.asm_meaning.specs.Pieces.{records_of, records_after}
use Rattle.asm_meaning.specs.State.{State, StartedSegment, cells_of, greatest_length, with_local_record, in_segment}
use Rattle.asm_meaning.specs.Statement.{IsStep, constants_of}
use Rattle.list_laws.specs.laws.LineText.{HasNoBlank}
use Rattle.list_meaning.specs.Listed.{Bytes, said_text, quoted_value}
use Rattle.list_laws.specs.laws.SumLaw.{HasNoQuote, closed_found}
use Rattle.list_laws.specs.laws.ConstantLines.{dc_step, ink_push}

-- ---- two digits, by the table of all bytes

abbrev two_of : ℕ → List ℕ → Bool
two_of byte [] = false
two_of byte (x ∷ []) = false
two_of byte (x ∷ y ∷ []) =
    (is_digit x 16 && is_digit y 16) && (digits_value 16 (x ∷ y ∷ []) == byte) && (not (is_blank x) && not (is_blank y)) && (not (x == 0x27) && not (y == 0x27)) && (not (x == 0x20) && not (y == 0x20))
two_of byte (x ∷ y ∷ z ∷ more) = false

abbrev is_two : ℕ → Bool
is_two byte = two_of byte (hexadecimal 2 byte)

abbrev pub up_from : ℕ → ℕ → List ℕ
up_from at zero = []
up_from at (suc n) = at ∷ up_from (at + 1) n

all_two : list_all is_two (up_from 0 256) ≡ true
unfolding digits.hexadecimal fmt.digits
all_two = refl

pub within : (p : ℕ → Bool) (at n k : ℕ) → list_all p (up_from at n) ≡ true → k < n → p (at + k) ≡ true
within p at zero k holds less = absurd (omega (arith, less))
within p at (suc n) zero holds less = let same : at ≡ at + 0 = omega arith in subst (λ (x : ℕ). p x ≡ true) same (and_parts (p at) (list_all p (up_from (at + 1) n)) holds).0
within p at (suc n) (suc k) holds less =
    let same : at + 1 + k ≡ at + suc k = omega arith in
    subst (λ (x : ℕ). p x ≡ true) same (within p (at + 1) n k (and_parts (p at) (list_all p (up_from (at + 1) n)) holds).1 (omega (arith, less)))

record IsTwo (byte : ℕ) : Type 0 where
  x : ℕ
  y : ℕ
  text : hexadecimal 2 byte ≡ x ∷ y ∷ []
  first : is_digit x 16 ≡ true
  second : is_digit y 16 ≡ true
  value : digits_value 16 (x ∷ y ∷ []) ≡ byte
  ink : (is_blank x ≡ false) × (is_blank y ≡ false)
  quotes : ((x == 0x27) ≡ false) × ((y == 0x27) ≡ false)
  spaces : ((x == 0x20) ≡ false) × ((y == 0x20) ≡ false)

not_true : (b : Bool) → not b ≡ true → b ≡ false
not_true true e = absurd cc
not_true false e = refl

two_is : (byte : ℕ) → byte < 256 → IsTwo byte
two_is byte fits = by (hexadecimal 2 byte) refl (let same : 0 + byte ≡ byte = omega arith in subst (λ (k : ℕ). is_two k ≡ true) same (within is_two 0 256 byte all_two fits))
  where
    parts : (a b : Bool) → (a && b) ≡ true → (a ≡ true) × (b ≡ true)
    parts a b e = and_parts a b e

    by : (l : List ℕ) → hexadecimal 2 byte ≡ l → two_of byte l ≡ true → IsTwo byte
    by [] e h = absurd cc
    by (x ∷ []) e h = absurd cc
    by (x ∷ y ∷ []) e h =
        let last = and_parts _ (not (x == 0x20) && not (y == 0x20)) h in
        let marks = and_parts _ (not (x == 0x27) && not (y == 0x27)) last.0 in
        let inks = and_parts _ (not (is_blank x) && not (is_blank y)) marks.0 in
        let values = and_parts (is_digit x 16 && is_digit y 16) (digits_value 16 (x ∷ y ∷ []) == byte) inks.0 in
        let both = and_parts (is_digit x 16) (is_digit y 16) values.0 in
        let a = and_parts (not (is_blank x)) (not (is_blank y)) inks.1 in
        let b = and_parts (not (x == 0x27)) (not (y == 0x27)) marks.1 in
        let c = and_parts (not (x == 0x20)) (not (y == 0x20)) last.1 in
        record {
          x = x;
          y = y;
          text = e;
          first = both.0;
          second = both.1;
          value = eqb-true (digits_value 16 (x ∷ y ∷ [])) byte values.1;
          ink = (not_true (is_blank x) a.0, not_true (is_blank y) a.1);
          quotes = (not_true (x == 0x27) b.0, not_true (y == 0x27) b.1);
          spaces = (not_true (x == 0x20) c.0, not_true (y == 0x20) c.1);
        }
    by (x ∷ y ∷ z ∷ more) e h = absurd cc

-- ---- the digits of bytes

abbrev pub AreBytes : List ℕ → Type 0
AreBytes bytes = AllByRecursion (λ b. b < 256) bytes

abbrev pub digits_of : List ℕ → List ℕ
digits_of bytes = flat_map (hexadecimal 2) bytes

first_two : (byte : ℕ) (bytes : List ℕ) (two : IsTwo byte) → digits_of (byte ∷ bytes) ≡ two.x ∷ two.y ∷ digits_of bytes
first_two byte bytes two = flat_map-cons (hexadecimal 2) byte bytes ∙ ap (λ (l : List ℕ). l ++ digits_of bytes) two.text

all_ink : (bytes : List ℕ) → AreBytes bytes → HasNoBlank (digits_of bytes)
all_ink [] are = tt
all_ink (byte ∷ bytes) are = let two = two_is byte are.0 in subst HasNoBlank (sym (first_two byte bytes two)) (two.ink.0, (two.ink.1, all_ink bytes are.1))

all_unquoted : (bytes : List ℕ) → AreBytes bytes → HasNoQuote (digits_of bytes)
all_unquoted [] are = tt
all_unquoted (byte ∷ bytes) are = let two = two_is byte are.0 in subst HasNoQuote (sym (first_two byte bytes two)) (two.quotes.0, (two.quotes.1, all_unquoted bytes are.1))

unspaced : (bytes : List ℕ) → AreBytes bytes → without_spaces (digits_of bytes) ≡ digits_of bytes
unspaced [] are = refl
unspaced (byte ∷ bytes) are =
    let two = two_is byte are.0 in
    ap without_spaces (first_two byte bytes two) ∙ rw (two.spaces.0, two.spaces.1) (ap (λ (l : List ℕ). two.x ∷ two.y ∷ l) (unspaced bytes are.1)) ∙ sym (first_two byte bytes two)

all_digits : (bytes : List ℕ) → AreBytes bytes → list_all (λ byte. is_digit byte 16) (digits_of bytes) ≡ true
all_digits [] are = refl
all_digits (byte ∷ bytes) are =
    let two = two_is byte are.0 in
    ap (list_all (λ byte. is_digit byte 16)) (first_two byte bytes two) ∙ rw (two.first, two.second) (all_digits bytes are.1)

twice : (bytes : List ℕ) → AreBytes bytes → length (digits_of bytes) ≡ 2 * length bytes
twice [] are = refl
twice (byte ∷ bytes) are = let two = two_is byte are.0 in ap length (first_two byte bytes two) ∙ omega (arith, twice bytes are.1)

packed_back : (bytes : List ℕ) → AreBytes bytes → bytes_of_group_digits 16 2 (length bytes) (digits_of bytes) ≡ bytes
unfolding bytes_of_group_digits
packed_back [] are = refl
packed_back (byte ∷ bytes) are =
    let two = two_is byte are.0 in
    ap (bytes_of_group_digits 16 2 (length (byte ∷ bytes))) (first_two byte bytes two) ∙ ap (λ (k : ℕ). k ∷ bytes_of_group_digits 16 2 (length bytes) (digits_of bytes)) two.value ∙ ap (λ (l : List ℕ). byte ∷ l) (packed_back bytes are.1)

digits_read : (byte : ℕ) (bytes : List ℕ) → AreBytes (byte ∷ bytes) → bytes_of_digits 16 2 (digits_of (byte ∷ bytes)) ≡ Some (byte ∷ bytes)
unfolding bytes_of_digits
digits_read byte bytes are =
    let two = two_is byte are.0 in
    let n = length (byte ∷ bytes) in
    let size : (length (two.x ∷ two.y ∷ digits_of bytes) + (2 - 1)) / 2 ≡ n = omega (arith, twice bytes are.1) in
    let whole : list_all (λ byte. is_digit byte 16) (two.x ∷ two.y ∷ digits_of bytes) ≡ true = ap (list_all (λ byte. is_digit byte 16)) (sym (first_two byte bytes two)) ∙ all_digits (byte ∷ bytes) are in
    ap (packed_digits 16 2) (unspaced (byte ∷ bytes) are ∙ first_two byte bytes two)
    ∙ by (list_all (λ byte. is_digit byte 16) (two.x ∷ two.y ∷ digits_of bytes)) whole (two.x ∷ two.y ∷ digits_of bytes) ((length (two.x ∷ two.y ∷ digits_of bytes) + (2 - 1)) / 2)
    ∙ ap (λ (k : ℕ). Some (bytes_of_group_digits 16 2 k (two.x ∷ two.y ∷ digits_of bytes))) size
    ∙ ap (λ (l : List ℕ). Some (bytes_of_group_digits 16 2 n l)) (sym (first_two byte bytes two)) ∙ ap (λ (l : List ℕ). Some l) (packed_back (byte ∷ bytes) are)
  where
    by : (b : Bool) → b ≡ true → (l : List ℕ) (k : ℕ) → cond b (Some (bytes_of_group_digits 16 2 k l)) None ≡ Some (bytes_of_group_digits 16 2 k l)
    by true e l k = refl
    by false e l k = absurd cc

-- ---- the line

fixed_gives : (constants : Constants) (msb : Bool) (byte : ℕ) (bytes : List ℕ) → length (byte ∷ bytes) ≤ 223
    → (list_pieces constants msb (Some (record { repeat = elements.Once; value = elements.Fixed (byte ∷ bytes) } ∷ [])) >>= λ pieces. Ok (records_of pieces)) ≡ Ok (Const (byte ∷ bytes) ∷ [])
unfolding elements.element_pieces records_after
fixed_gives constants msb byte bytes few = rw (le-leb (length (byte ∷ bytes)) 223 few) refl

pub bytes_step : (state : State) (s : StartedSegment) (number byte : ℕ) (bytes : List ℕ) → state.segment ≡ Some s → AreBytes (byte ∷ bytes) → length (byte ∷ bytes) ≤ 223
    → cells_of (with_local_record [] 0x4E (Const (byte ∷ bytes) ∷ []) s) ≤ greatest_length s.class
    → IsStep state (line_of 0 number (said_text (Bytes (byte ∷ bytes)))) (Ok (in_segment (with_local_record [] 0x4E (Const (byte ∷ bytes) ∷ [])) state))
unfolding said_text elements.kind_at tokens.digits_at
bytes_step state s number byte bytes here are few room =
    let inner = digits_of (byte ∷ bytes) in
    dc_step state s number (quoted_value (codes "H") inner) (record { repeat = elements.Once; value = elements.Fixed (byte ∷ bytes) }) (Const (byte ∷ bytes) ∷ []) here
    (refl, (refl, ink_push inner (codes "'") (all_ink (byte ∷ bytes) are) (refl, tt)))
    (record {
      after_repeat = quoted_value (codes "H") inner;
      kind = elements.Hexadecimal;
      after_quote = inner ++ codes "'";
      repeat = (refl, refl);
      of_kind = refl;
      value = (inner, byte ∷ bytes, closed_found inner [] (all_unquoted (byte ∷ bytes) are), digits_read byte bytes are, refl);
    }) (fixed_gives (constants_of state) state.msb byte bytes few) room
