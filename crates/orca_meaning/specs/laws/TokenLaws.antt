-- The laws of tokens: each takes a byte at least, and a name in one is neither empty nor longer than the text.
use Rattle.std.proofs.Common.{◌≡◌, ℕ, ◌+◌, ◌<◌, ◌≤◌, Bool, true, false, cond, eqb, ltb, leb, List, [], ◌∷◌, length, take, drop, Some, None, refl, subst, arith}
use Rattle.std.specs.Prelude.{bytes_eq, ◌&&◌, ◌||◌}
use Rattle.std.specs.Char.{is_digit, to_ascii_uppercase}
use Rattle.std.specs.List.{prefix_len, position_or_len}
use Rattle.std.specs.Option.{option_or}
use Rattle.std.specs.Str.Parse.{digits_value}
use Rattle.std.proofs.lemmas.Bool.{ltb-true, leb-true, eqb-false, and_parts}
use Rattle.std.proofs.lemmas.List.{length-drop, length-take, length-map}
use Rattle.std.proofs.lemmas.List.Sums.{prefix_len-le-length}
use Rattle.byteorder.specs.Endian.{little_number}
use Rattle.orca_meaning.specs.declared.operators.Operands.{Operands}
use Rattle.orca_meaning.specs.declared.operators.Operands.TheVariants.{Labels, Symbols}
use Rattle.orca_meaning.specs.declared.operators.Operator as operators
use Rattle.orca_meaning.specs.declared.operators.Sign as signs_type
use Rattle.orca_meaning.specs.Characters.{is_name_start, is_name_byte, folded}
use Rattle.orca_meaning.specs.Token.{Operand, Here, Number, Label, LengthOf, CountOf, Token, Value, Before, Between, Opens, Closes, Found, seen_as, digits_at, quoted_number_at, number_at, name_at, symbol_at, attribute_at, location_at, operand_at, spelled_at, sign_at, operator_at, byte_at, operand_token_at, operator_token_at, token_at, expects_following, Stand, asked_by}
use Rattle.orca_meaning.specs.laws.Steps.{other_operand_at, signs, operators}

-- ---- what is found

-- what was found is shorter than the text
abbrev pub IsShorter : {A : Type 0} → List ℕ → Found A → Type 0
IsShorter text None = Unit {0}
IsShorter text (Some x) = length x.1 < length text

shorter_more : {A : Type 0} (byte : ℕ) (following : List ℕ) (found : Found A) → IsShorter following found → IsShorter (byte ∷ following) found
shorter_more byte following None is = tt
shorter_more byte following (Some x) is = omega (arith, is)

shorter_cond : {A : Type 0} (b : Bool) (text : List ℕ) (x y : Found A) → IsShorter text x → IsShorter text y → IsShorter text (cond b x y)
shorter_cond true text x y p q = p
shorter_cond false text x y p q = q

digits-shorter : (base : ℕ) (text : List ℕ) → IsShorter text (digits_at base text)
unfolding digits_at
digits-shorter base text = by_test (eqb n 0) refl
  where
    n : ℕ
    n = prefix_len (λ byte. is_digit byte base) text

    by_test : (b : Bool) → eqb n 0 ≡ b → IsShorter text (cond b None (Some (digits_value base (take n text), drop n text)))
    by_test true test = tt
    by_test false test =
        let some : n ≡ 0 → ⊥ = eqb-false n 0 test in
        omega (arith, length-drop n text, prefix_len-le-length (λ byte. is_digit byte base) text)

text-shorter : (quote : ℕ) (following : List ℕ) → IsShorter following (quoted_number_at quote following)
unfolding quoted_number_at
text-shorter quote following = by_test (leb 1 n && leb n 4 && ltb n (length following)) refl
  where
    n : ℕ
    n = position_or_len (λ byte. eqb byte quote) following

    by_test : (b : Bool) → (leb 1 n && leb n 4 && ltb n (length following)) ≡ b → IsShorter following (cond b (Some (little_number n following, drop (n + 1) following)) None)
    by_test true test =
        let inside : n < length following = ltb-true n (length following) (and_parts (leb 1 n && leb n 4) (ltb n (length following)) test).1 in
        omega (arith, length-drop (n + 1) following)
    by_test false test = tt

number-shorter : (text : List ℕ) → IsShorter text (number_at text)
unfolding number_at
number-shorter [] = tt
number-shorter (byte ∷ following) =
    let text = byte ∷ following in
    shorter_cond (eqb byte 0x24) text _ _ (shorter_more byte following _ (digits-shorter 16 following))
    (shorter_cond (eqb byte 0x25) text _ _ (shorter_more byte following _ (digits-shorter 2 following))
    (shorter_cond (eqb byte 0x40) text _ _ (shorter_more byte following _ (digits-shorter 8 following))
    (shorter_cond (eqb byte 0x27 || eqb byte 0x22) text _ _ (shorter_more byte following _ (text-shorter byte following)) (digits-shorter 10 text))))

-- ---- names

-- a name was found that isn't empty, and it and the rest are no longer than the text
abbrev pub IsNameOf : List ℕ → Found (List ℕ) → Type 0
IsNameOf text None = Unit {0}
IsNameOf text (Some x) = (1 ≤ length x.0) × (length x.0 + length x.1 ≤ length text)

name-is : (text : List ℕ) → IsNameOf text (name_at text)
unfolding name_at
name-is [] = tt
name-is (byte ∷ following) = by_test (is_name_start byte)
  where
    n : ℕ
    n = prefix_len is_name_byte following

    by_test : (b : Bool) → IsNameOf (byte ∷ following) (cond b (Some (folded (byte ∷ take n following), drop n following)) None)
    by_test true =
        let size : length (folded (byte ∷ take n following)) ≡ length (byte ∷ take n following) = length-map (byte ∷ take n following) to_ascii_uppercase in
        (omega (arith, size), omega (arith, size, length-take n following, length-drop n following, prefix_len-le-length is_name_byte following))
    by_test false = tt

name_more : (byte : ℕ) (following : List ℕ) (found : Found (List ℕ)) → IsNameOf following found → IsNameOf (byte ∷ following) found
name_more byte following None is = tt
name_more byte following (Some x) is = (is.0, omega (arith, is.1))

symbol-is : (text : List ℕ) → IsNameOf text (symbol_at text)
unfolding symbol_at
symbol-is [] = tt
symbol-is (byte ∷ following) = by_test (eqb byte 0x26) (name_more byte following (name_at following) (name-is following))
  where
    by_test : (b : Bool) → IsNameOf (byte ∷ following) (name_at following) → IsNameOf (byte ∷ following) (cond b (name_at following) None)
    by_test true is = is
    by_test false is = tt

-- ---- operands

-- a name in the operand isn't empty, and has at most a given number of bytes
abbrev pub HasFineName : ℕ → Operand → Type 0
HasFineName most Here = Unit {0}
HasFineName most (Number n) = Unit {0}
HasFineName most (Label name) = (1 ≤ length name) × (length name ≤ most)
HasFineName most (LengthOf name) = (1 ≤ length name) × (length name ≤ most)
HasFineName most (CountOf name) = (1 ≤ length name) × (length name ≤ most)

abbrev pub IsFineOperand : List ℕ → Found Operand → Type 0
IsFineOperand text None = Unit {0}
IsFineOperand text (Some x) = (length x.1 < length text) × HasFineName (length text) x.0

fine_or : (text : List ℕ) (a b : Found Operand) → IsFineOperand text a → IsFineOperand text b → IsFineOperand text (option_or a b)
fine_or text None b p q = q
fine_or text (Some x) b p q = p

fine_number : (text : List ℕ) (found : Found ℕ) → IsShorter text found → IsFineOperand text (seen_as Number found)
fine_number text None is = tt
fine_number text (Some x) is = (is, tt)

fine_label : (text : List ℕ) (found : Found (List ℕ)) → IsNameOf text found → IsFineOperand text (seen_as Label found)
fine_label text None is = tt
fine_label text (Some x) is = (omega (arith, is.0, is.1), (is.0, omega (arith, is.1)))

fine_location : (text : List ℕ) → IsFineOperand text (location_at text)
unfolding location_at
fine_location [] = tt
fine_location (byte ∷ following) = by_test (eqb byte 0x2A)
  where
    by_test : (b : Bool) → IsFineOperand (byte ∷ following) (cond b (Some (Here, following)) None)
    by_test true = (omega arith, tt)
    by_test false = tt

fine_asked : (letter colon : ℕ) (following : List ℕ) (found : Found (List ℕ)) → IsNameOf following found → IsFineOperand (letter ∷ colon ∷ following) (asked_by letter found)
fine_asked letter colon following found is = by_tests (eqb (to_ascii_uppercase letter) 0x4C) (eqb (to_ascii_uppercase letter) 0x43) found is
  where
    by_tests : (a b : Bool) (found : Found (List ℕ)) → IsNameOf following found
        → IsFineOperand (letter ∷ colon ∷ following) (cond a (seen_as LengthOf found) (cond b (seen_as CountOf found) None))
    by_tests true b None is = tt
    by_tests true b (Some x) is = (omega (arith, is.0, is.1), (is.0, omega (arith, is.1)))
    by_tests false true None is = tt
    by_tests false true (Some x) is = (omega (arith, is.0, is.1), (is.0, omega (arith, is.1)))
    by_tests false false found is = tt

fine_attribute : (name : List ℕ → Found (List ℕ)) → ((t : List ℕ) → IsNameOf t (name t)) → (text : List ℕ) → IsFineOperand text (attribute_at name text)
unfolding attribute_at
fine_attribute name are [] = tt
fine_attribute name are (letter ∷ []) = tt
fine_attribute name are (letter ∷ colon ∷ following) = by_test (eqb colon 0x3A)
  where
    by_test : (b : Bool) → IsFineOperand (letter ∷ colon ∷ following) (cond b (asked_by letter (name following)) None)
    by_test true = fine_asked letter colon following (name following) (are following)
    by_test false = tt

fine_other : (o : Operands) (text : List ℕ) → IsFineOperand text (other_operand_at o text)
fine_other Labels text =
    fine_or text (location_at text) _ (fine_location text)
    (fine_or text (attribute_at name_at text) _ (fine_attribute name_at name-is text) (fine_label text (name_at text) (name-is text)))
fine_other Symbols text = fine_attribute symbol_at symbol-is text

pub fine_operand : (o : Operands) (text : List ℕ) → IsFineOperand text (operand_at o text)
unfolding operand_at
fine_operand o text = fine_or text (seen_as Number (number_at text)) _ (fine_number text (number_at text) (number-shorter text)) (fine_other o text)

-- ---- operators

are_some : {A : Type 0} → List (List ℕ × A) → Bool
are_some [] = true
are_some (row ∷ rows) = leb 1 (length row.0) && are_some rows

spelled-shorter : {A : Type 0} (rows : List (List ℕ × A)) (text : List ℕ) → are_some rows ≡ true → IsShorter text (spelled_at rows text)
unfolding spelled_at are_some
spelled-shorter [] text some = tt
spelled-shorter (row ∷ rows) text some = by_test (bytes_eq row.0 (folded (take (length row.0) text))) refl (spelled-shorter rows text (and_parts (leb 1 (length row.0)) (are_some rows) some).1)
  where
    one : 1 ≤ length row.0
    one = leb-true 1 (length row.0) (and_parts (leb 1 (length row.0)) (are_some rows) some).0

    by_text : (s : List ℕ) → bytes_eq row.0 (folded (take (length row.0) s)) ≡ true → length (drop (length row.0) s) < length s
    by_text [] test = absurd (by_row row.0 one test)
      where
        by_row : (r : List ℕ) → 1 ≤ length r → bytes_eq r (folded (take (length r) [])) ≡ true → ⊥
        by_row [] one is = absurd (omega arith)
        by_row (c ∷ r) one is = absurd cc
    by_text (byte ∷ following) test = omega (arith, length-drop (length row.0) (byte ∷ following), one)

    by_test : (b : Bool) → bytes_eq row.0 (folded (take (length row.0) text)) ≡ b → IsShorter text (spelled_at rows text)
        → IsShorter text (cond b (Some (row.1, drop (length row.0) text)) (spelled_at rows text))
    by_test true test others = by_text text test
    by_test false test others = others

sign-shorter : (text : List ℕ) → IsShorter text (sign_at text)
unfolding sign_at are_some
sign-shorter text = spelled-shorter signs text refl

operator-shorter : (text : List ℕ) → IsShorter text (operator_at text)
unfolding operator_at are_some
operator-shorter text = spelled-shorter operators text refl

-- ---- tokens

abbrev pub IsFineToken : List ℕ → Token → List ℕ → Type 0
IsFineToken text (Value operand) following = (length following < length text) × HasFineName (length text) operand
IsFineToken text (Before sign) following = length following < length text
IsFineToken text (Between operator) following = length following < length text
IsFineToken text Opens following = length following < length text
IsFineToken text Closes following = length following < length text

abbrev IsFine : List ℕ → Found Token → Type 0
IsFine text None = Unit {0}
IsFine text (Some x) = IsFineToken text x.0 x.1

fine_token_or : (text : List ℕ) (a b : Found Token) → IsFine text a → IsFine text b → IsFine text (option_or a b)
fine_token_or text None b p q = q
fine_token_or text (Some x) b p q = p

fine_byte : (wanted : ℕ) (t : Token) (text : List ℕ) → ((following : List ℕ) → length following < length text → IsFineToken text t following) → IsFine text (byte_at wanted t text)
unfolding byte_at
fine_byte wanted t [] is = tt
fine_byte wanted t (byte ∷ following) is = by_test (eqb byte wanted)
  where
    by_test : (b : Bool) → IsFine (byte ∷ following) (cond b (Some (t, following)) None)
    by_test true = is following (omega arith)
    by_test false = tt

fine_before : (text : List ℕ) (found : Found signs_type.Sign) → IsShorter text found → IsFine text (seen_as Before found)
fine_before text None is = tt
fine_before text (Some x) is = is

fine_between : (text : List ℕ) (found : Found operators.Operator) → IsShorter text found → IsFine text (seen_as Between found)
fine_between text None is = tt
fine_between text (Some x) is = is

fine_value : (text : List ℕ) (found : Found Operand) → IsFineOperand text found → IsFine text (seen_as Value found)
fine_value text None is = tt
fine_value text (Some x) is = is

fine_found : (o : Operands) (e : Bool) (text : List ℕ) → IsFine text (token_at o e text)
unfolding operand_token_at operator_token_at
fine_found o true text =
    fine_token_or text (byte_at 0x28 Opens text) _ (fine_byte 0x28 Opens text (λ following less. less))
    (fine_token_or text (seen_as Before (sign_at text)) _ (fine_before text (sign_at text) (sign-shorter text)) (fine_value text (operand_at o text) (fine_operand o text)))
fine_found o false text =
    fine_token_or text (byte_at 0x29 Closes text) _ (fine_byte 0x29 Closes text (λ following less. less)) (fine_between text (operator_at text) (operator-shorter text))

-- each token takes a byte at least, and its name is fine
pub fine_token : (o : Operands) (e : Bool) (text : List ℕ) (t : Token) (following : List ℕ) → token_at o e text ≡ Some (t, following) → IsFineToken text t following
fine_token o e text t following is = subst (IsFine text) is (fine_found o e text)

pub token-shorter : (o : Operands) (e : Bool) (text : List ℕ) (t : Token) (following : List ℕ) → token_at o e text ≡ Some (t, following) → length following < length text
token-shorter o e text t following is = by_token t (fine_token o e text t following is)
  where
    by_token : (t : Token) → IsFineToken text t following → length following < length text
    by_token (Value operand) fine = fine.0
    by_token (Before sign) fine = fine
    by_token (Between operator) fine = fine
    by_token Opens fine = fine
    by_token Closes fine = fine

-- each operand among tokens has a fine name
abbrev pub HaveFineNames : ℕ → List Token → Type 0
HaveFineNames most [] = Unit {0}
HaveFineNames most (Value operand ∷ tokens) = HasFineName most operand × HaveFineNames most tokens
HaveFineNames most (Before sign ∷ tokens) = HaveFineNames most tokens
HaveFineNames most (Between operator ∷ tokens) = HaveFineNames most tokens
HaveFineNames most (Opens ∷ tokens) = HaveFineNames most tokens
HaveFineNames most (Closes ∷ tokens) = HaveFineNames most tokens

fine_more : (few most : ℕ) (operand : Operand) → few ≤ most → HasFineName few operand → HasFineName most operand
fine_more few most Here le is = tt
fine_more few most (Number n) le is = tt
fine_more few most (Label name) le is = (is.0, omega (arith, is.1))
fine_more few most (LengthOf name) le is = (is.0, omega (arith, is.1))
fine_more few most (CountOf name) le is = (is.0, omega (arith, is.1))

pub fine_names : (o : Operands) (e : Bool) (most : ℕ) (text : List ℕ) (tokens : List Token) (rest : List ℕ) → length text ≤ most → Stand o e text tokens rest → HaveFineNames most tokens
fine_names o e most text [] rest le stand = tt
fine_names o e most text (t ∷ tokens) rest le stand =
    let fine = fine_token o e text t stand.0 stand.1 in
    let less = token-shorter o e text t stand.0 stand.1 in
    by_token t fine (fine_names o (expects_following t) most stand.0 tokens rest (omega arith) stand.2)
  where
    by_token : (t : Token) → IsFineToken text t stand.0 → HaveFineNames most tokens → HaveFineNames most (t ∷ tokens)
    by_token (Value operand) fine others = (fine_more (length text) most operand le fine.1, others)
    by_token (Before sign) fine others = others
    by_token (Between operator) fine others = others
    by_token Opens fine others = others
    by_token Closes fine others = others
