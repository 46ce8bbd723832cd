-- The two laws of each field: what is read is spelled so, and what is spelled so is read, whatever follows it.
use Rattle.std.proofs.Common.{◌≡◌, ℕ, ℤ, SFits, zero, suc, ◌+◌, ◌-◌, ◌*◌, ◌/◌, ◌%◌, ◌^◌, ◌<◌, ◌≤◌, Bool, true, false, cond, ltb, leb, eqb, ◌⊎◌, List, [], ◌∷◌, ◌++◌, length, take, drop, replicate, Result, Ok, Err, refl, sym, ap, subst, ◌∙◌, append_assoc, arith, inl, inr}
use Rattle.std.specs.Prelude.{◌&&◌, ◌||◌, ◌==◌, pos, negsuc}
use Rattle.std.specs.List.{list_all}
use Rattle.std.proofs.lemmas.Bool.{cases_lt, ltb-false, lt-ltb, le-ltb, eqb-true, eq-eqb, ne_eqb, leb-true, and_parts}
use Rattle.std.proofs.lemmas.List.{take_at, drop_at, take-append-drop, length-append, length-take, length-replicate, get_or-drop, get_or-take, get_or_past}
use Rattle.std.proofs.lemmas.List.Folds.{list_all-append}
use Rattle.std.proofs.Math.Nat.{div-div-eq-div-mul, pow-succ'}
use Rattle.std.proofs.lemmas.Int.{of_z-to_z, to_z-of_z}
use Rattle.std.specs.Int.{w8, cast_signed, byte_at, bytes_low_first}
use Rattle.byteorder.specs.Endian.{little_from, little_number, little_bytes}
use Rattle.byteorder.specs.Numbers.{little_number-reads_back, length-bytes_low_first, little_from-lt, little_from-take, little_from-cons}
use Rattle.omf_format.specs.declared.fault.Flaw.{Flaw}
use Rattle.omf_format.specs.declared.fault.Flaw.TheVariants.{Cut, Broken}
use Rattle.omf_format.specs.Number.{number_at}
use Rattle.omf_format.specs.Name.{without_trailing, name_at, name_size}
use Rattle.omf_format.specs.Header.{version_of, kind_of}
use Rattle.omf_format.specs.laws.Steps.{kind_of_byte}
use Rattle.omf_format.specs.Number.{IsBytes}
use Rattle.omf_format.specs.Field.{◌>>=◌, Reads, ◌⊗◌, field_that_passes, byte_field, bytes_field, number_field, name_field, name_text, IsName, is_count, count_field, is_shift, shift_byte, shift_field}

-- ---- bytes and steps

pub IsBytes-drop : (n : ℕ) (bytes : List ℕ) → IsBytes bytes → IsBytes (drop n bytes)
IsBytes-drop n bytes h i = rw get_or-drop (h (n + i))

pub IsBytes-take : (n : ℕ) (bytes : List ℕ) → IsBytes bytes → IsBytes (take n bytes)
IsBytes-take n bytes h i =
    elim (cases_lt i n) [
      | inl lt ↦ rw (get_or-take n bytes i 0 lt) (h i)
      | inr le ↦ rw (get_or_past (take n bytes) i 0 (omega (arith, length-take n bytes))) (omega arith)
    ]

-- the bytes before others
pub IsBytes-front : (bytes text rest : List ℕ) → IsBytes bytes → bytes ≡ text ++ rest → IsBytes text
IsBytes-front bytes text rest h parts = subst IsBytes (take_at text rest (length text) refl) (IsBytes-take (length text) (text ++ rest) (subst IsBytes parts h))

pub IsBytes-rest : (b : ℕ) (bytes : List ℕ) → IsBytes (b ∷ bytes) → IsBytes bytes
IsBytes-rest b bytes h i = h (suc i)

-- the value of a step that did not fail
pub bind_ok : {A B E : Type 0} (r : Result A E) (f : A → Result B E) (y : B) → (r >>= f) ≡ Ok y → (x : A) × (r ≡ Ok x) × (f x ≡ Ok y)
bind_ok (Ok x) f y e = (x, refl, e)
bind_ok (Err d) f y e = absurd cc

abbrev pub done : {A : Type 0} → A → Result A Flaw
done x = Ok x

pub ok_is : {A : Type 0} (x y : A) → done x ≡ done y → x ≡ y
ok_is x y e = cc

-- a test that did not fail
pub guard_ok : {A E : Type 0} (b : Bool) (d : E) (x y : A) → cond b (Err d) (Ok x) ≡ Ok y → (b ≡ false) × (x ≡ y)
guard_ok true d x y e = absurd cc
guard_ok false d x y e = (refl, cc)

-- which of two tests was passed
pub either : (x y : Bool) → (x || y) ≡ true → (x ≡ true) ⊎ (y ≡ true)
either true y e = inl refl
either false y e = inr e

-- which of two was chosen
pub chosen : {A : Type 0} (b : Bool) (x y z : A) → cond b x y ≡ z → ((b ≡ true) × (x ≡ z)) ⊎ ((b ≡ false) × (y ≡ z))
chosen true x y z e = inl (refl, e)
chosen false x y z e = inr (refl, e)

-- what a reader took from the start of the bytes
pub record Takes (bytes text rest : List ℕ) : Type 0 where
  pub parts : bytes ≡ text ++ rest
  pub rest_fits : IsBytes rest

pub Takes-then : (a x b y c : List ℕ) → Takes a x b → Takes b y c → Takes a (x ++ y) c
Takes-then a x b y c p q = record { parts = p.parts ∙ ap (λ (t : List ℕ). x ++ t) q.parts ∙ sym (append_assoc x y c); rest_fits = q.rest_fits }

pub Takes-code : (code : ℕ) (bytes text rest : List ℕ) → Takes bytes text rest → Takes (code ∷ bytes) (code ∷ text) rest
Takes-code code bytes text rest t = record { parts = ap (λ (l : List ℕ). code ∷ l) t.parts; rest_fits = t.rest_fits }

-- ---- bytes and numbers

pub bytes_take : (n : ℕ) (bytes text rest : List ℕ) → IsBytes bytes → bytes_field n bytes ≡ Ok (text, rest) → Takes bytes text rest × (length text ≡ n)
unfolding bytes_field
bytes_take n bytes text rest fits e =
    let g = guard_ok (ltb (length bytes) n) Cut (take n bytes, drop n bytes) (text, rest) e in
    let long : n ≤ length bytes = ltb-false _ _ g.0 in
    let taken : Takes bytes (take n bytes) (drop n bytes) × (length (take n bytes) ≡ n) =
    (record { parts = sym (take-append-drop n bytes); rest_fits = IsBytes-drop n bytes fits }, omega (arith, length-take n bytes)) in
    subst (λ (p : List ℕ × List ℕ). Takes bytes p.0 p.1 × (length p.0 ≡ n)) g.1 taken

pub bytes_again : (n : ℕ) (text rest : List ℕ) → length text ≡ n → bytes_field n (text ++ rest) ≡ Ok (text, rest)
unfolding bytes_field
bytes_again n text rest len =
    let long : ltb (length (text ++ rest)) n ≡ false = le-ltb _ _ (omega (arith, length-append text rest)) in
    rw (long, take_at text rest n len, drop_at text rest n len) refl

-- a byte of a number is a byte of its 256th part
byte_at-next : (j n : ℕ) → byte_at (suc j) n ≡ byte_at j (n / 256)
byte_at-next zero n = refl
byte_at-next (suc j) n =
    let grown : 256 ^ suc (suc j) ≡ 256 * 256 ^ suc j = pow-succ' 256 (suc j) in
    ap (λ (p : ℕ). n / p % 256) grown ∙ ap (λ (q : ℕ). q % 256) (sym (div-div-eq-div-mul n 256 (256 ^ suc j)))

bytes-next : (k j n : ℕ) → bytes_low_first (suc j) k n ≡ bytes_low_first j k (n / 256)
bytes-next zero j n = refl
bytes-next (suc k) j n = rw (byte_at-next j n, bytes-next k (suc j) n) refl

-- the bytes of the number that bytes represent are these bytes
pub bytes_back : (w : ℕ) (bytes : List ℕ) → length bytes ≡ w → IsBytes bytes → little_bytes w (little_number w bytes) ≡ bytes
bytes_back zero [] len fits = refl
bytes_back zero (b ∷ bytes) len fits = absurd (omega arith)
bytes_back (suc w) [] len fits = absurd (omega arith)
bytes_back (suc w) (b ∷ bytes) len fits =
    let byte : b < 256 = fits 0 in
    let following : little_from 1 w (b ∷ bytes) ≡ little_number w bytes = little_from-cons 0 w b bytes in
    let rest = little_number w bytes in
    let low : (b + 256 * rest) % 256 ≡ b = omega (arith, byte) in
    let high : (b + 256 * rest) / 256 ≡ rest = omega (arith, byte) in
    rw (following, bytes-next w 0 (b + 256 * rest), low, high, bytes_back w bytes (omega arith) (IsBytes-rest b bytes fits)) refl

pub number_takes : (w : ℕ) (bytes : List ℕ) (n : ℕ) (rest : List ℕ) → IsBytes bytes → number_field w bytes ≡ Ok (n, rest) → Takes bytes (little_bytes w n) rest × (n < 256 ^ w)
unfolding number_field number_at
number_takes w bytes n rest fits e =
    let g = guard_ok (ltb (length bytes) w) Cut (number_at w 0 bytes, drop w bytes) (n, rest) e in
    let long : w ≤ length bytes = ltb-false _ _ g.0 in
    let same : little_number w (take w bytes) ≡ little_number w bytes = little_from-take 0 w w bytes (omega arith) in
    let text : little_bytes w (little_number w bytes) ≡ take w bytes =
    ap (little_bytes w) (sym same) ∙ bytes_back w (take w bytes) (omega (arith, length-take w bytes)) (IsBytes-take w bytes fits) in
    let taken : Takes bytes (little_bytes w (little_number w bytes)) (drop w bytes) × (little_number w bytes < 256 ^ w) =
    (record { parts = rw text (sym (take-append-drop w bytes)); rest_fits = IsBytes-drop w bytes fits }, little_from-lt 0 w bytes fits) in
    subst (λ (p : ℕ × List ℕ). Takes bytes (little_bytes w p.0) p.1 × (p.0 < 256 ^ w)) g.1 taken

pub number_again : (w n : ℕ) (rest : List ℕ) → n < 256 ^ w → number_field w (little_bytes w n ++ rest) ≡ Ok (n, rest)
unfolding number_field number_at
number_again w n rest fits =
    let width = length-bytes_low_first 0 w n in
    let long : ltb (length (little_bytes w n ++ rest)) w ≡ false = le-ltb _ _ (omega (arith, length-append (little_bytes w n) rest, width)) in
    rw (long, little_number-reads_back w n rest fits, drop_at (little_bytes w n) rest w width) refl

-- KIND has two bytes
pub kind_of-lt : (bytes : List ℕ) → IsBytes bytes → kind_of bytes < 2 ^ 16
unfolding kind_of number_at
kind_of-lt bytes fits = by_version (eqb (version_of bytes) 1)
  where
    by_version : (b : Bool) → cond b (kind_of_byte (little_number 1 (drop 0x0C bytes))) (little_number 2 (drop 0x14 bytes)) < 2 ^ 16
    by_version true = omega (arith, little_from-lt 0 1 (drop 0x0C bytes) (IsBytes-drop 0x0C bytes fits))
    by_version false = little_from-lt 0 2 (drop 0x14 bytes) (IsBytes-drop 0x14 bytes fits)

-- ---- lists without what pads them

and-true : (p : Bool) → (p && true) ≡ p
and-true true = refl
and-true false = refl

all-replicate : (b k : ℕ) → list_all (λ y. y == b) (replicate k b) ≡ true
all-replicate b zero = refl
all-replicate b (suc k) = rw (eq-eqb b b refl) (all-replicate b k)

-- a list of the same item
all-same : (b : ℕ) (xs : List ℕ) → list_all (λ y. y == b) xs ≡ true → replicate (length xs) b ≡ xs
all-same b [] all = refl
all-same b (x ∷ xs) all =
    let parts : (p q : Bool) → (p && q) ≡ true → (p ≡ true) × (q ≡ true) = λ p q. elim p as (λ (v : Bool). (v && q) ≡ true → (v ≡ true) × (q ≡ true)) [ true ↦ λ e. (refl, e) | false ↦ λ e. absurd cc ] in
    let both = parts _ _ all in
    let head : x ≡ b = eqb-true x b both.0 in
    let tail = all-same b xs both.1 in
    cc

-- padding changes nothing
pub trim-padded : (b k : ℕ) (xs : List ℕ) → without_trailing b (xs ++ replicate k b) ≡ without_trailing b xs
trim-padded b zero [] = refl
trim-padded b (suc k) [] = rw (all-replicate b (suc k)) refl
trim-padded b k (x ∷ xs) =
    let all : list_all (λ y. y == b) (x ∷ xs ++ replicate k b) ≡ list_all (λ y. y == b) (x ∷ xs) =
    list_all-append (λ y. y == b) (x ∷ xs) (replicate k b) ∙ ap (λ (r : Bool). list_all (λ y. y == b) (x ∷ xs) && r) (all-replicate b k) ∙ and-true (list_all (λ y. y == b) (x ∷ xs)) in
    rw (all, trim-padded b k xs) refl

-- what is left, padded, is the list
pub padded-trim : (b : ℕ) (xs : List ℕ) → without_trailing b xs ++ replicate (length xs - length (without_trailing b xs)) b ≡ xs
padded-trim b [] = refl
padded-trim b (x ∷ xs) = by_cases (list_all (λ y. y == b) (x ∷ xs)) refl (padded-trim b xs)
  where
    by_cases : (all : Bool) → list_all (λ y. y == b) (x ∷ xs) ≡ all → without_trailing b xs ++ replicate (length xs - length (without_trailing b xs)) b ≡ xs
        → without_trailing b (x ∷ xs) ++ replicate (length (x ∷ xs) - length (without_trailing b (x ∷ xs))) b ≡ x ∷ xs
    by_cases true e tail = let count : suc (length xs) - 0 ≡ suc (length xs) = omega arith in rw (e, count) (all-same b (x ∷ xs) e)
    by_cases false e tail =
        let count : suc (length xs) - suc (length (without_trailing b xs)) ≡ length xs - length (without_trailing b xs) = omega arith in
        rw (e, count, tail) refl

pub trim-trim : (b : ℕ) (xs : List ℕ) → without_trailing b (without_trailing b xs) ≡ without_trailing b xs
trim-trim b xs = sym (trim-padded b (length xs - length (without_trailing b xs)) (without_trailing b xs)) ∙ ap (without_trailing b) (padded-trim b xs)

pub length-trim : (b : ℕ) (xs : List ℕ) → length (without_trailing b xs) ≤ length xs
length-trim b xs = omega (arith, ap length (padded-trim b xs), length-append (without_trailing b xs) (replicate (length xs - length (without_trailing b xs)) b))

-- ---- names

-- the number of one byte
one_byte : (b : ℕ) (bytes : List ℕ) → little_number 1 (b ∷ bytes) ≡ b
one_byte b bytes = omega arith

-- a number of one byte is a byte
pub number_of_byte : (bytes : List ℕ) → number_field 1 bytes ≡ byte_field bytes
unfolding number_field byte_field number_at
number_of_byte [] = refl
number_of_byte (b ∷ bytes) =
    let some : ltb (suc (length bytes)) 1 ≡ false = le-ltb _ _ (omega arith) in
    let is : little_number 1 (b ∷ bytes) ≡ b = one_byte b bytes in
    rw (some, is) refl

-- what is there after both tests
named : {A : Type 0} (cut empty : Bool) (x y : A) → cond cut (Err Cut) (cond empty (Err Broken) (Ok x)) ≡ Ok y → (cut ≡ false) × (empty ≡ false) × (x ≡ y)
named true empty x y e = absurd cc
named false true x y e = absurd cc
named false false x y e = (refl, refl, cc)

not_empty : (xs : List ℕ) → eqb (length xs) 0 ≡ false → 1 ≤ length xs
not_empty [] e = absurd cc
not_empty (x ∷ xs) e = omega arith

-- what was taken is the text of a name
pub record TakesName (lab_len : ℕ) (bytes : List ℕ) (found : List ℕ × List ℕ) : Type 0 where
  pub name' : IsName lab_len found.0
  pub taken : Takes bytes (name_text lab_len found.0) found.1

-- with a LABLEN above 0
pub padded_field : (l : ℕ) (bytes : List ℕ) → 0 < l → name_field l bytes
    ≡ cond (ltb (length bytes) l) (Err Cut) (cond (eqb (length (without_trailing 32 (take l bytes))) 0) (Err Broken) (Ok (without_trailing 32 (take l bytes), drop l bytes)))
unfolding name_field name_at name_size
padded_field l bytes above = let some : eqb l 0 ≡ false = ne_eqb _ _ (λ e. absurd (omega arith)) in rw some refl

-- with LABLEN 0
pub counted_none : (bytes : List ℕ) → length bytes < 1 → name_field 0 bytes ≡ Err Cut
unfolding name_field name_at name_size number_at
counted_none [] none = refl
counted_none (b ∷ bytes) none = absurd (omega arith)

pub counted_field : (n : ℕ) (rest : List ℕ) → name_field 0 (n ∷ rest)
    ≡ cond (ltb (length rest) n) (Err Cut) (cond (eqb (length (take n rest)) 0) (Err Broken) (Ok (take n rest, drop n rest)))
unfolding name_field name_at name_size number_at
counted_field n rest =
    let is : little_number 1 (n ∷ rest) ≡ n = one_byte n rest in
    let size : ltb (suc (length rest)) (1 + n) ≡ ltb (length rest) n = elim (cases_lt (length rest) n) [
      | inl lt ↦ lt-ltb _ _ (omega arith) ∙ sym (lt-ltb _ _ lt)
      | inr le ↦ le-ltb _ _ (omega arith) ∙ sym (le-ltb _ _ le)
    ] in
    let following : drop (1 + n) (n ∷ rest) ≡ drop n rest = ap (λ (k : ℕ). drop k (n ∷ rest)) (let k : 1 + n ≡ suc n = omega arith in k) in
    rw (is, size, following) refl

counted_takes : (bytes : List ℕ) (found : List ℕ × List ℕ) → IsBytes bytes → name_field 0 bytes ≡ Ok found → TakesName 0 bytes found
unfolding name_text
counted_takes [] found fits e = let none = counted_none [] (omega arith) in absurd cc
counted_takes (n ∷ rest) found fits e =
    let c = named (ltb (length rest) n) (eqb (length (take n rest)) 0) (take n rest, drop n rest) found (sym (counted_field n rest) ∙ e) in
    let byte : n < 256 = fits 0 in
    let long : n ≤ length rest = ltb-false _ _ c.0 in
    let len : length (take n rest) ≡ n = omega (arith, length-take n rest) in
    let some : 1 ≤ length (take n rest) = not_empty (take n rest) c.1 in
    let made : List ℕ × List ℕ = (take n rest, drop n rest) in
    let parts : n ∷ rest ≡ length (take n rest) ∷ take n rest ++ drop n rest = rw (len, take-append-drop n rest) refl in
    let is_made : TakesName 0 (n ∷ rest) made = record { name' = (some, omega arith); taken = record { parts = parts; rest_fits = IsBytes-drop n rest (IsBytes-rest n rest fits) } } in
    subst (TakesName 0 (n ∷ rest)) c.2 is_made

padded_takes : (l : ℕ) (bytes : List ℕ) (found : List ℕ × List ℕ) → IsBytes bytes → name_field (suc l) bytes ≡ Ok found → TakesName (suc l) bytes found
unfolding name_text
padded_takes l bytes found fits e =
    let front = take (suc l) bytes in
    let name = without_trailing 32 front in
    let made : List ℕ × List ℕ = (name, drop (suc l) bytes) in
    let c = named (ltb (length bytes) (suc l)) (eqb (length name) 0) made found (sym (padded_field (suc l) bytes (omega arith)) ∙ e) in
    let long : suc l ≤ length bytes = ltb-false _ _ c.0 in
    let len : length front ≡ suc l = omega (arith, length-take (suc l) bytes) in
    let text : name ++ replicate (suc l - length name) 32 ≡ front = ap (λ (n : ℕ). name ++ replicate (n - length name) 32) (sym len) ∙ padded-trim 32 front in
    let is_made : TakesName (suc l) bytes made = record {
      name' = (not_empty name c.1, omega (arith, length-trim 32 front, len), trim-trim 32 front);
      taken = record { parts = rw text (sym (take-append-drop (suc l) bytes)); rest_fits = IsBytes-drop (suc l) bytes fits };
    } in
    subst (TakesName (suc l) bytes) c.2 is_made

-- what is read is spelled so
pub name_takes : (l : ℕ) (bytes : List ℕ) (found : List ℕ × List ℕ) → IsBytes bytes → name_field l bytes ≡ Ok found → TakesName l bytes found
name_takes zero bytes found fits e = counted_takes bytes found fits e
name_takes (suc l) bytes found fits e = padded_takes l bytes found fits e

-- what is spelled so is read, whatever follows
pub name_again : (l : ℕ) (name rest : List ℕ) → IsName l name → name_field l (name_text l name ++ rest) ≡ Ok (name, rest)
unfolding name_text
name_again zero name rest is =
    let long : ltb (length (name ++ rest)) (length name) ≡ false = le-ltb _ _ (omega (arith, length-append name rest)) in
    let some : eqb (length name) 0 ≡ false = ne_eqb _ _ (λ e. absurd (omega arith)) in
    let front : take (length name) (name ++ rest) ≡ name = take_at name rest (length name) refl in
    let following : drop (length name) (name ++ rest) ≡ rest = drop_at name rest (length name) refl in
    counted_field (length name) (name ++ rest) ∙ rw (long, front, some, following) refl
name_again (suc l) name rest is =
    let pad : List ℕ = replicate (suc l - length name) 32 in
    let len : length (name ++ pad) ≡ suc l = omega (arith, length-append name pad, length-replicate {A = ℕ} (suc l - length name) 32) in
    let long : ltb (length (name ++ pad ++ rest)) (suc l) ≡ false = le-ltb _ _ (omega (arith, length-append (name ++ pad) rest)) in
    let front : take (suc l) (name ++ pad ++ rest) ≡ name ++ pad = take_at (name ++ pad) rest (suc l) len in
    let trimmed : without_trailing 32 (name ++ pad) ≡ name = trim-padded 32 (suc l - length name) name ∙ is.2 in
    let some : eqb (length name) 0 ≡ false = ne_eqb _ _ (λ e. absurd (omega arith)) in
    let following : drop (suc l) (name ++ pad ++ rest) ≡ rest = drop_at (name ++ pad) rest (suc l) len in
    padded_field (suc l) (name ++ pad ++ rest) (omega arith) ∙ rw (long, front, trimmed, some, following) refl

-- ---- fields in general

-- what is read is spelled so, and what is spelled so is read, whatever follows it
pub record IsField {A : Type 0} (Is : A → Type 0) (text : A → List ℕ) (read : Reads A) : Type 0 where
  pub takes : (bytes : List ℕ) (found : A × List ℕ) → IsBytes bytes → read bytes ≡ Ok found → Is found.0 × Takes bytes (text found.0) found.1
  pub again : (x : A) (rest : List ℕ) → Is x → read (text x ++ rest) ≡ Ok (x, rest)

pub byte_is_field : IsField (λ b. b < 256) (λ b. b ∷ []) byte_field
unfolding byte_field
byte_is_field = record {
  takes = λ bytes found fits. elim bytes as (λ (l : List ℕ). IsBytes l → byte_field l ≡ Ok found → (found.0 < 256) × Takes l (found.0 ∷ []) found.1) [
    | [] ↦ λ fits e. absurd cc
    | b ∷ rest ↦ λ fits e. byte_taken b rest found fits (ok_is (b, rest) found e)
  ] fits;
  again = λ b rest is. refl;
}
  where
    byte_taken : (b : ℕ) (rest : List ℕ) (found : ℕ × List ℕ) → IsBytes (b ∷ rest) → (b, rest) ≡ found → (found.0 < 256) × Takes (b ∷ rest) (found.0 ∷ []) found.1
    byte_taken b rest found fits e =
        let made : (b < 256) × Takes (b ∷ rest) (b ∷ []) rest = (fits 0, record { parts = refl; rest_fits = IsBytes-rest b rest fits }) in
        subst (λ (f : ℕ × List ℕ). (f.0 < 256) × Takes (b ∷ rest) (f.0 ∷ []) f.1) e made

pub bytes_is_field : (n : ℕ) → IsField (λ text. length text ≡ n) (λ text. text) (bytes_field n)
bytes_is_field n = record {
  takes = λ bytes found fits e. let t = bytes_take n bytes found.0 found.1 fits e in (t.1, t.0);
  again = λ text rest is. bytes_again n text rest is;
}

pub number_is_field : (w : ℕ) → IsField (λ n. n < 256 ^ w) (little_bytes w) (number_field w)
number_is_field w = record {
  takes = λ bytes found fits e. let t = number_takes w bytes found.0 found.1 fits e in (t.1, t.0);
  again = λ n rest is. number_again w n rest is;
}

pub name_is_field : (l : ℕ) → IsField (IsName l) (name_text l) (name_field l)
name_is_field l = record {
  takes = λ bytes found fits e. let t = name_takes l bytes found fits e in (t.name', t.taken);
  again = λ name rest is. name_again l name rest is;
}

-- the same with another word for which values there are
pub field_of : {A : Type 0} (Is Other : A → Type 0) (text : A → List ℕ) (read : Reads A) → ((x : A) → Is x → Other x) → ((x : A) → Other x → Is x) → IsField Is text read → IsField Other text read
field_of Is Other text read there back field = record {
  takes = λ bytes found fits e. let t = field.takes bytes found fits e in (there found.0 t.0, t.1);
  again = λ x rest is. field.again x rest (back x is);
}

-- a test that was passed
passed : {A : Type 0} (b : Bool) (d : Flaw) (x y : A) → cond b (done x) (Err d) ≡ Ok y → (b ≡ true) × (x ≡ y)
passed true d x y e = (refl, ok_is x y e)
passed false d x y e = absurd cc

pub checked_is_field : {A : Type 0} (Is : A → Type 0) (text : A → List ℕ) (read : Reads A) (test : A → Bool) (flaw : Flaw) → IsField Is text read → IsField (λ x. Is x × (test x ≡ true)) text (field_that_passes test flaw read)
checked_is_field {A} Is text read test flaw field = record {
  takes = λ bytes found fits e.
      let x = bind_ok (read bytes) (λ x. cond (test x.0) (Ok x) (Err flaw)) found e in
      let p = passed (test x.0.0) flaw x.0 found x.2 in
      let t = field.takes bytes x.0 fits x.1 in
      subst (λ (f : A × List ℕ). (Is f.0 × (test f.0 ≡ true)) × Takes bytes (text f.0) f.1) p.1 ((t.0, p.0), t.1);
  again = λ x rest is. rw (field.again x rest is.0, is.1) refl;
}

pub both_are_field : {A B : Type 0} (IsA : A → Type 0) (IsB : B → Type 0) (textA : A → List ℕ) (textB : B → List ℕ) (readA : Reads A) (readB : Reads B)
    → IsField IsA textA readA → IsField IsB textB readB → IsField (λ x. IsA x.0 × IsB x.1) (λ x. textA x.0 ++ textB x.1) (readA ⊗ readB)
both_are_field {A} {B} IsA IsB textA textB readA readB fieldA fieldB = record {
  takes = λ bytes found fits e.
      let a = bind_ok (readA bytes) (λ a. readB a.1 >>= λ b. Ok ((a.0, b.0), b.1)) found e in
      let b = bind_ok (readB a.0.1) (λ b. Ok ((a.0.0, b.0), b.1)) found a.2 in
      let t = fieldA.takes bytes a.0 fits a.1 in
      let u = fieldB.takes a.0.1 b.0 t.1.rest_fits b.1 in
      let made : (A × B) × List ℕ = ((a.0.0, b.0.0), b.0.1) in
      subst (λ (f : (A × B) × List ℕ). (IsA f.0.0 × IsB f.0.1) × Takes bytes (textA f.0.0 ++ textB f.0.1) f.1) (ok_is made found b.2)
      ((t.0, u.0), Takes-then bytes (textA a.0.0) a.0.1 (textB b.0.0) b.0.1 t.1 u.1);
  again = λ x rest is. rw (append_assoc (textA x.0) (textB x.1) rest, fieldA.again x.0 (textB x.1 ++ rest) is.0, fieldB.again x.1 rest is.1) refl;
}

-- ---- counts and shifts

pub count_is_field : IsField (λ n. is_count n ≡ true) (λ n. n ∷ []) count_field
unfolding count_field
count_is_field = field_of (λ n. (n < 256) × (is_count n ≡ true)) (λ n. is_count n ≡ true) (λ n. n ∷ []) (field_that_passes is_count Broken byte_field)
    (λ n is. is.1) (λ n is. (small n is, is)) (checked_is_field (λ n. n < 256) (λ n. n ∷ []) byte_field is_count Broken byte_is_field)
  where
    small : (n : ℕ) → is_count n ≡ true → n < 256
    small n is = omega (arith, leb-true n 4 (and_parts _ _ is).1)

shift_fits : (s : ℤ) → is_shift s ≡ true → SFits w8 s
shift_fits (pos k) is = let both : (true ≡ true) × (leb k 31 ≡ true) = and_parts true (leb k 31) is in record { sfits = omega (arith, leb-true k 31 both.1) }
shift_fits (negsuc k) is = let both : (leb k 30 ≡ true) × (true ≡ true) = and_parts (leb k 30) true is in record { sfits = omega (arith, leb-true k 30 both.0) }

-- a shift is what its byte says
pub shift_back : (s : ℤ) → is_shift s ≡ true → cast_signed w8 (shift_byte s) ≡ s
shift_back s is = to_z-of_z w8 s (shift_fits s is)

pub shift_is_field : IsField (λ s. is_shift s ≡ true) (λ s. shift_byte s ∷ []) shift_field
unfolding shift_field byte_field
shift_is_field = record {
  takes = λ bytes found fits. elim bytes as (λ (l : List ℕ). IsBytes l → shift_field l ≡ Ok found → (is_shift found.0 ≡ true) × Takes l (shift_byte found.0 ∷ []) found.1) [
    | [] ↦ λ fits e. absurd cc
    | b ∷ rest ↦ λ fits e. shift_taken b rest found fits (passed (is_shift (cast_signed w8 b)) Broken (cast_signed w8 b, rest) found e)
  ] fits;
  again = λ s rest is. rw (shift_back s is, is) refl;
}
  where
    shift_taken : (b : ℕ) (rest : List ℕ) (found : ℤ × List ℕ) → IsBytes (b ∷ rest) → (is_shift (cast_signed w8 b) ≡ true) × ((cast_signed w8 b, rest) ≡ found) → (is_shift found.0 ≡ true) × Takes (b ∷ rest) (shift_byte found.0 ∷ []) found.1
    shift_taken b rest found fits p =
        let same = of_z-to_z w8 b (fits 0) in
        let made : (is_shift (cast_signed w8 b) ≡ true) × Takes (b ∷ rest) (shift_byte (cast_signed w8 b) ∷ []) rest =
        (p.0, record { parts = ap (λ (c : ℕ). c ∷ rest) (sym same); rest_fits = IsBytes-rest b rest fits }) in
        subst (λ (f : ℤ × List ℕ). (is_shift f.0 ≡ true) × Takes (b ∷ rest) (shift_byte f.0 ∷ []) f.1) p.1 made
