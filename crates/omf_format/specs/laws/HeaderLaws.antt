-- What passes the checks of a header is within their bounds, and a header that was written is read again.
use Rattle.std.proofs.Common.{◌≡◌, ℕ, zero, suc, ◌+◌, ◌^◌, ◌<◌, ◌≤◌, Bool, true, false, cond, not, ltb, List, [], ◌∷◌, ◌++◌, length, take, drop, Option, Some, None, refl, sym, ap, subst, ◌∙◌, append_assoc, arith}
use Rattle.std.specs.Prelude.{◌||◌, slice_get}
use Rattle.std.specs.List.{AllByRecursion}
use Rattle.std.proofs.lemmas.Bool.{ltb-false}
use Rattle.std.proofs.lemmas.List.{length-append}
use Rattle.byteorder.specs.Endian.{little_number, little_bytes}
use Rattle.byteorder.specs.Numbers.{little_number-reads_back, length-bytes_low_first}
use Rattle.omf_format.specs.declared.fault.HeaderFault.{HeaderFault}
use Rattle.omf_format.specs.declared.fault.HeaderFault.TheVariants.{Truncated, Unsupported, BadField, Memory}
use Rattle.omf_format.specs.Number.{number_at}
use Rattle.omf_format.specs.Header.{HeaderFields, fields_of, names_end, form_of, is_listed, first_of, header_fault, laid_out}
use Rattle.omf_format.specs.laws.Steps.{is_read_version, header_checks}

-- ---- no check holds

-- where no check holds, each test is false
pub each_false : {F : Type 0} (checks : List (Bool × F)) → first_of checks ≡ None → AllByRecursion (λ c. c.0 ≡ false) checks
each_false [] none = tt
each_false {F = F} (check ∷ checks) none =
    let cases : (b : Bool) → cond b (Some check.1) (first_of checks) ≡ None → (b ≡ false) × (first_of checks ≡ None) =
    λ b. elim b as (λ (v : Bool). cond v (Some check.1) (first_of checks) ≡ None → (v ≡ false) × (first_of checks ≡ None)) [
      | true ↦ λ e. absurd cc
      | false ↦ λ e. (refl, e)
    ] in
    let both = cases check.0 none in
    (both.0, each_false checks both.1)

-- where each test is false, no check holds
pub none_holds : {F : Type 0} (checks : List (Bool × F)) → AllByRecursion (λ c. c.0 ≡ false) checks → first_of checks ≡ None
none_holds [] each = refl
none_holds (check ∷ checks) each = rw each.0 (none_holds checks each.1)

-- what a header that passes the checks keeps
pub record IsSound (bytes : List ℕ) (f : HeaderFields) : Type 0 where
  pub long : 44 ≤ length bytes
  pub banks : f.bank_size ≤ 0x10000
  pub listed : is_listed (form_of f.kind) ≡ true
  pub version : is_read_version f.version ≡ true
  pub whole : f.byte_count ≤ length bytes
  pub names : names_end bytes ≤ f.disp_data
  pub data' : f.disp_data ≤ f.byte_count
  pub spaced : f.res_spc ≤ f.length

not_false : (b : Bool) → not b ≡ false → b ≡ true
not_false true e = refl
not_false false e = absurd cc

neither : (a b : Bool) → (a || b) ≡ false → (a ≡ false) × (b ≡ false)
neither true b e = absurd cc
neither false b e = (refl, e)

pub sound_from_none : (bytes : List ℕ) → header_fault bytes ≡ None → IsSound bytes (fields_of bytes)
unfolding header_fault
sound_from_none bytes none =
    let each = each_false (header_checks bytes) none in
    let ends = neither _ _ each.1.1.1.1.1.1.1.1.0 in
    record {
      long = ltb-false _ _ each.0;
      banks = ltb-false _ _ each.1.1.1.0;
      listed = not_false _ each.1.1.1.1.0;
      version = not_false _ each.1.1.0;
      whole = ltb-false _ _ each.1.1.1.1.1.1.1.0;
      names = ltb-false _ _ ends.0;
      data' = ltb-false _ _ ends.1;
      spaced = ltb-false _ _ each.1.1.1.1.1.1.1.1.1.0;
    }

-- ---- numbers that are laid out

-- how many bytes they take
abbrev pub size_of : List (ℕ × ℕ) → ℕ
size_of [] = 0
size_of (field ∷ fields) = field.0 + size_of fields

pub length-laid_out : (fields : List (ℕ × ℕ)) → length (laid_out fields) ≡ size_of fields
length-laid_out [] = refl
length-laid_out (field ∷ fields) =
    let width = length-bytes_low_first 0 field.0 field.1 in
    let others = length-laid_out fields in
    omega (arith, length-append (little_bytes field.0 field.1) (laid_out fields), width, others)

pub drop-more : (front back : List ℕ) (n k : ℕ) → length front ≡ n → drop (n + k) (front ++ back) ≡ drop k back
drop-more [] back n k len = let e : n + k ≡ k = omega arith in ap (λ (m : ℕ). drop m back) e
drop-more (x ∷ front) back zero k len = absurd (omega arith)
drop-more (x ∷ front) back (suc n) k len =
    let e : suc n + k ≡ suc (n + k) = omega arith in
    ap (λ (m : ℕ). drop m (x ∷ front ++ back)) e ∙ drop-more front back n k (omega arith)

-- the number at the displacement of a field is the one that was laid out there
pub number_at-laid_out : (fields : List (ℕ × ℕ)) (k w n : ℕ) (rest : List ℕ) → slice_get fields k ≡ Some (w, n) → n < 256 ^ w
    → number_at w (size_of (take k fields)) (laid_out fields ++ rest) ≡ n
unfolding number_at
number_at-laid_out [] k w n rest at fits = absurd cc
number_at-laid_out (field ∷ fields) zero w n rest at fits =
    let same : field ≡ (w, n) = cc in
    let first : little_number w ((little_bytes w n ++ laid_out fields) ++ rest) ≡ n =
    ap (little_number w) (append_assoc (little_bytes w n) (laid_out fields) rest) ∙ little_number-reads_back w n (laid_out fields ++ rest) fits in
    subst (λ (f : ℕ × ℕ). little_number w ((little_bytes f.0 f.1 ++ laid_out fields) ++ rest) ≡ n) (sym same) first
number_at-laid_out (field ∷ fields) (suc k) w n rest at fits =
    let width = length-bytes_low_first 0 field.0 field.1 in
    let regrouped = append_assoc (little_bytes field.0 field.1) (laid_out fields) rest in
    ap (λ (l : List ℕ). little_number w (drop (field.0 + size_of (take k fields)) l)) regrouped
    ∙ ap (little_number w) (drop-more (little_bytes field.0 field.1) (laid_out fields ++ rest) field.0 (size_of (take k fields)) width)
    ∙ number_at-laid_out fields k w n rest at fits

-- ---- what a fault says

-- a cut header ends with the bytes, and a field has a fault only where all fields are there
abbrev pub FitsFault : HeaderFault → ℕ → Type 0
FitsFault (Truncated n) size = n ≡ size
FitsFault (Unsupported field) size = 44 ≤ size
FitsFault (BadField field) size = 44 ≤ size
FitsFault Memory size = ⊥

abbrev some_of : {F : Type 0} → F → Option F
some_of x = Some x

some_is : {F : Type 0} (x y : F) → some_of x ≡ some_of y → x ≡ y
some_is x y e = cc

-- the fault of the first check that holds is one of those of the checks
found_among : {F : Type 0} (P : F → Type 0) (checks : List (Bool × F)) (f : F) → AllByRecursion (λ c. P c.1) checks → first_of checks ≡ Some f → P f
found_among P [] f each e = absurd cc
found_among {F = F} P (check ∷ checks) f each e = cases check.0 e (found_among P checks f each.1)
  where
    cases : (b : Bool) → cond b (Some check.1) (first_of checks) ≡ Some f → (first_of checks ≡ Some f → P f) → P f
    cases true e later = subst P (some_is check.1 f e) each.0
    cases false e later = later e

pub fault_fits : (bytes : List ℕ) (f : HeaderFault) → header_fault bytes ≡ Some f → FitsFault f (length bytes)
unfolding header_fault
fault_fits bytes f e = cases (ltb (length bytes) 44) (ltb-false (length bytes) 44) e
  where
    others : List (Bool × HeaderFault)
    others = drop 1 (header_checks bytes)

    cases : (b : Bool) → (b ≡ false → 44 ≤ length bytes) → cond b (Some (Truncated (length bytes))) (first_of others) ≡ Some f → FitsFault f (length bytes)
    cases true long e = subst (λ (g : HeaderFault). FitsFault g (length bytes)) (some_is (Truncated (length bytes)) f e) refl
    cases false long e =
        let enough = long refl in
        found_among (λ g. FitsFault g (length bytes)) others f (enough, (enough, (enough, (enough, (enough, (enough, (refl, (enough, (enough, tt))))))))) e
