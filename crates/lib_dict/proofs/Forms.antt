-- The first and the third record, as far as they were read.
use Rattle.std.proofs.Common.{◌≡◌, ℕ, zero, suc, ◌+◌, ◌≤◌, ◌<◌, false, List, [], ◌∷◌, ◌++◌, length, drop, take, get_or, Option, Some, None, refl, sym, ap, subst, ◌∙◌, append_assoc, arith}
use Rattle.std.specs.Prelude.{nat_eq, option_map, ◌==◌, if◌then◌else◌}
use Rattle.std.specs.List.{list_any}
use Rattle.std.proofs.lemmas.Bool.{le-ltb, lt-ltb, eq-eqb, ne_eqb}
use Rattle.std.proofs.lemmas.List.{append-nil, length-drop}
use Rattle.std.proofs.Math.Seq.{drop-cons}
use Rattle.indexmap.specs.IndexSet.{insert_key}
use Rattle.omf_format.specs.Number.{number_at}
use Rattle.link_meaning.specs.Dictionary.{file_numbers, names_from}
use Rattle.lib_dict.specs.Tables.{AreNumbers, AreStarts, SameNumbers, starts_of}
use Rattle.lib_dict.proofs.Sets.{numbers-insert}

-- numbers that were read, and then these
abbrev after_numbers : List ℕ → Option (List ℕ) → Option (List ℕ)
after_numbers so_far more = option_map (λ numbers. so_far ++ numbers) more

-- so much of the first record was read: these numbers
pub record ReadFiles (bytes rest keys : List ℕ) : Type 0 where
  pub so_far : List ℕ
  pub fuel : ℕ
  pub enough : length rest ≤ fuel
  pub whole : file_numbers (length bytes) bytes ≡ after_numbers so_far (file_numbers fuel rest)
  pub keys' : SameNumbers keys so_far

-- what one step of the definition says
step_cut : (n : ℕ) (rest : List ℕ) → length rest < 2 → file_numbers n rest ≡ None
unfolding file_numbers
step_cut zero rest short = refl
step_cut (suc n) rest short = rw (lt-ltb (length rest) 2 short) refl

pub step_end : (n : ℕ) (rest : List ℕ) → 2 ≤ length rest → number_at 2 0 rest ≡ 0 → file_numbers (suc n) rest ≡ (if length rest == 2 then Some [] else None)
unfolding file_numbers
step_end n rest long zero' = rw (le-ltb (length rest) 2 long, eq-eqb (number_at 2 0 rest) 0 zero') refl

step_short : (n : ℕ) (rest : List ℕ) → 2 ≤ length rest → (number_at 2 0 rest == 0) ≡ false → length rest < 3 → file_numbers (suc n) rest ≡ None
unfolding file_numbers
step_short n rest long some short = rw (le-ltb (length rest) 2 long, some, lt-ltb (length rest) 3 short) refl

step_over : (n : ℕ) (rest : List ℕ) → 3 ≤ length rest → (number_at 2 0 rest == 0) ≡ false → length rest < 3 + number_at 1 2 rest → file_numbers (suc n) rest ≡ None
unfolding file_numbers
step_over n rest long some over =
    let two : 2 ≤ length rest = omega arith in
    rw (le-ltb (length rest) 2 two, some, le-ltb (length rest) 3 long, lt-ltb (length rest) (3 + number_at 1 2 rest) over) refl

pub step_more : (n : ℕ) (rest : List ℕ) → 3 ≤ length rest → (number_at 2 0 rest == 0) ≡ false → 3 + number_at 1 2 rest ≤ length rest
    → file_numbers (suc n) rest ≡ option_map (λ ks. number_at 2 0 rest ∷ ks) (file_numbers n (drop (3 + number_at 1 2 rest) rest))
unfolding file_numbers
step_more n rest long some within =
    let two : 2 ≤ length rest = omega arith in
    rw (le-ltb (length rest) 2 two, some, le-ltb (length rest) 3 long, le-ltb (length rest) (3 + number_at 1 2 rest) within) refl

is_other : (n : ℕ) → (n ≡ 0 → ⊥) → (n == 0) ≡ false
is_other n other = ne_eqb n 0 other

after_none : (so_far : List ℕ) (bytes rest : List ℕ) (fuel : ℕ) → file_numbers (length bytes) bytes ≡ after_numbers so_far (file_numbers fuel rest) → file_numbers fuel rest ≡ None
    → file_numbers (length bytes) bytes ≡ None
after_none so_far bytes rest fuel whole none = whole ∙ ap (after_numbers so_far) none

-- the record is cut before a number
pub files_cut : (bytes rest keys : List ℕ) → ReadFiles bytes rest keys → length rest < 2 → file_numbers (length bytes) bytes ≡ None
files_cut bytes rest keys r short = after_none r.so_far bytes rest r.fuel r.whole (step_cut r.fuel rest short)

suc_of : (fuel n : ℕ) → 2 ≤ n → n ≤ fuel → (m : ℕ) × (fuel ≡ suc m)
suc_of zero n some enough = absurd (omega arith)
suc_of (suc m) n some enough = (m, refl)

-- its 0 is at its very end
pub files_end : (bytes rest keys : List ℕ) → ReadFiles bytes rest keys → length rest ≡ 2 → number_at 2 0 rest ≡ 0 → AreNumbers (Some keys) bytes
files_end bytes rest keys r two zero' =
    let fuel = suc_of r.fuel (length rest) (omega arith) r.enough in
    let ended : file_numbers r.fuel rest ≡ Some [] = ap (λ (n : ℕ). file_numbers n rest) fuel.1 ∙ step_end fuel.0 rest (omega arith) zero' ∙ rw (eq-eqb (length rest) 2 two) refl in
    (r.so_far, r.whole ∙ ap (after_numbers r.so_far) ended ∙ ap (λ (l : List ℕ). Some l) (append-nil r.so_far), r.keys')

-- or with something after it
pub files_more : (bytes rest keys : List ℕ) → ReadFiles bytes rest keys → 2 ≤ length rest → (length rest ≡ 2 → ⊥) → number_at 2 0 rest ≡ 0 → file_numbers (length bytes) bytes ≡ None
files_more bytes rest keys r long other zero' =
    let fuel = suc_of r.fuel (length rest) long r.enough in
    after_none r.so_far bytes rest r.fuel r.whole (ap (λ (n : ℕ). file_numbers n rest) fuel.1 ∙ step_end fuel.0 rest long zero' ∙ rw (ne_eqb (length rest) 2 other) refl)

-- a number without a name
pub files_short : (bytes rest keys : List ℕ) → ReadFiles bytes rest keys → 2 ≤ length rest → (number_at 2 0 rest ≡ 0 → ⊥) → length rest < 3 → file_numbers (length bytes) bytes ≡ None
files_short bytes rest keys r long some short =
    let fuel = suc_of r.fuel (length rest) long r.enough in
    after_none r.so_far bytes rest r.fuel r.whole (ap (λ (n : ℕ). file_numbers n rest) fuel.1 ∙ step_short fuel.0 rest long (is_other (number_at 2 0 rest) some) short)

-- a name that runs over
pub files_over : (bytes rest keys : List ℕ) → ReadFiles bytes rest keys → 3 ≤ length rest → (number_at 2 0 rest ≡ 0 → ⊥) → length rest < 3 + number_at 1 2 rest → file_numbers (length bytes) bytes ≡ None
files_over bytes rest keys r long some over =
    let fuel = suc_of r.fuel (length rest) (omega arith) r.enough in
    after_none r.so_far bytes rest r.fuel r.whole (ap (λ (n : ℕ). file_numbers n rest) fuel.1 ∙ step_over fuel.0 rest long (is_other (number_at 2 0 rest) some) over)

-- a number and its name
pub files_next : (bytes rest keys new : List ℕ) (n size : ℕ) → ReadFiles bytes rest keys → 3 ≤ length rest → (number_at 2 0 rest ≡ 0 → ⊥) → size ≡ 3 + number_at 1 2 rest → size ≤ length rest
    → n ≡ number_at 2 0 rest → new ≡ insert_key nat_eq keys n → ReadFiles bytes (drop size rest) new
files_next bytes rest keys new n size r long some is within number is_new =
    let fuel = suc_of r.fuel (length rest) (omega arith) r.enough in
    let next = drop size rest in
    let goes : file_numbers r.fuel rest ≡ option_map (λ ks. n ∷ ks) (file_numbers fuel.0 next) =
    ap (λ (m : ℕ). file_numbers m rest) fuel.1
    ∙ step_more fuel.0 rest long (is_other (number_at 2 0 rest) some) (omega arith)
    ∙ ap (λ (m : ℕ). option_map (λ ks. m ∷ ks) (file_numbers fuel.0 (drop (3 + number_at 1 2 rest) rest))) (sym number)
    ∙ ap (λ (m : ℕ). option_map (λ ks. n ∷ ks) (file_numbers fuel.0 (drop m rest))) (sym is) in
    record {
      so_far = r.so_far ++ n ∷ [];
      fuel = fuel.0;
      enough = omega (arith, length-drop size rest, r.enough, fuel.1);
      whole = r.whole ∙ ap (after_numbers r.so_far) goes ∙ regroup (file_numbers fuel.0 next);
      keys' = numbers-insert keys r.so_far new n r.keys' is_new;
    }
  where
    regroup : (o : Option (List ℕ)) → after_numbers r.so_far (option_map (λ ks. n ∷ ks) o) ≡ after_numbers (r.so_far ++ n ∷ []) o
    regroup None = refl
    regroup (Some ns) = ap (λ (l : List ℕ). Some l) (sym (append_assoc r.so_far (n ∷ []) ns))

-- ---- the third record

abbrev Names : Type 0
Names = List (ℕ × List ℕ)

abbrev after_names : Names → Option Names → Option Names
after_names so_far more = option_map (λ names. so_far ++ names) more

-- the names before this displacement were read
pub record ReadNames (bytes : List ℕ) (at : ℕ) (keys : List ℕ) : Type 0 where
  pub so_far : Names
  pub fuel : ℕ
  pub within : at ≤ length bytes
  pub enough : length bytes ≤ at + fuel
  pub whole : names_from (length bytes) 0 bytes ≡ after_names so_far (names_from fuel at (drop at bytes))
  pub keys' : SameNumbers keys (starts_of so_far)

pub names_init : (bytes keys : List ℕ) → keys ≡ [] → ReadNames bytes 0 keys
names_init bytes keys none = record {
  so_far = [];
  fuel = length bytes;
  within = omega arith;
  enough = omega arith;
  whole = by_answer (names_from (length bytes) 0 bytes);
  keys' = record { each = λ q. ap (list_any (nat_eq q)) none };
}
  where
    by_answer : (o : Option Names) → o ≡ after_names [] o
    by_answer None = refl
    by_answer (Some ns) = refl

drop-all : (n : ℕ) (xs : List ℕ) → length xs ≤ n → drop n xs ≡ []
drop-all zero [] le = refl
drop-all zero (x ∷ xs) le = absurd (omega arith)
drop-all (suc n) [] le = refl
drop-all (suc n) (x ∷ xs) le = drop-all n xs (omega arith)

drop-nil : (n : ℕ) → drop {A = ℕ} n [] ≡ []
drop-nil zero = refl
drop-nil (suc n) = refl

pub names_none : (n at : ℕ) → names_from n at [] ≡ Some []
unfolding names_from
names_none zero at = refl
names_none (suc n) at = refl

-- all were read
pub names_end : (bytes keys : List ℕ) (at : ℕ) → ReadNames bytes at keys → length bytes ≤ at → AreStarts (Some keys) bytes
names_end bytes keys at r past =
    let ended : names_from r.fuel at (drop at bytes) ≡ Some [] = ap (names_from r.fuel at) (drop-all at bytes past) ∙ names_none r.fuel at in
    (r.so_far, r.whole ∙ ap (after_names r.so_far) ended ∙ ap (λ (l : Names). Some l) (append-nil r.so_far), r.keys')

names_over : (n at b : ℕ) (rest : List ℕ) → length rest < b → names_from (suc n) at (b ∷ rest) ≡ None
unfolding names_from
names_over n at b rest over = rw (lt-ltb (length rest) b over) refl

pub names_more : (n at b : ℕ) (rest : List ℕ) → b ≤ length rest → names_from (suc n) at (b ∷ rest) ≡ option_map (λ names. (at, take b rest) ∷ names) (names_from n (at + 1 + b) (drop b rest))
unfolding names_from
names_more n at b rest within = rw (le-ltb (length rest) b within) refl

drop-drop : (a b : ℕ) (xs : List ℕ) → drop b (drop a xs) ≡ drop (a + b) xs
drop-drop zero b xs = let same : b ≡ 0 + b = omega arith in ap (λ (n : ℕ). drop n xs) same
drop-drop (suc a) b [] = drop-nil b ∙ sym (drop-nil (suc a + b))
drop-drop (suc a) b (x ∷ xs) = let same : suc a + b ≡ suc (a + b) = omega arith in drop-drop a b xs ∙ ap (λ (n : ℕ). drop n (x ∷ xs)) (sym same)

-- a name that runs over
pub names_cut : (bytes keys : List ℕ) (at b : ℕ) → ReadNames bytes at keys → at < length bytes → b ≡ get_or bytes at 0 → length bytes < at + 1 + b → names_from (length bytes) 0 bytes ≡ None
names_cut bytes keys at b r lt is over =
    let fuel = suc_from r.fuel (omega (arith, r.enough)) in
    let rest : drop at bytes ≡ b ∷ drop (suc at) bytes = drop-cons bytes at 0 lt ∙ ap (λ (x : ℕ). x ∷ drop (suc at) bytes) (sym is) in
    let none : names_from r.fuel at (drop at bytes) ≡ None =
    ap (λ (n : ℕ). names_from n at (drop at bytes)) fuel.1 ∙ ap (names_from (suc fuel.0) at) rest ∙ names_over fuel.0 at b (drop (suc at) bytes) (omega (arith, length-drop (suc at) bytes)) in
    r.whole ∙ ap (after_names r.so_far) none
  where
    suc_from : (fuel : ℕ) → 0 < fuel → (m : ℕ) × (fuel ≡ suc m)
    suc_from zero some = absurd (omega arith)
    suc_from (suc m) some = (m, refl)

starts-append : (xs : Names) (at : ℕ) (name : List ℕ) → starts_of (xs ++ (at, name) ∷ []) ≡ starts_of xs ++ at ∷ []
starts-append [] at name = refl
starts-append (x ∷ xs) at name = ap (λ (l : List ℕ). x.0 ∷ l) (starts-append xs at name)

-- a name
pub names_next : (bytes keys new : List ℕ) (at b : ℕ) → ReadNames bytes at keys → at < length bytes → b ≡ get_or bytes at 0 → at + 1 + b ≤ length bytes
    → new ≡ insert_key nat_eq keys at → ReadNames bytes (at + (1 + b)) new
names_next bytes keys new at b r lt is within is_new =
    let fuel = suc_from r.fuel (omega (arith, r.enough)) in
    let tail = drop (suc at) bytes in
    let rest : drop at bytes ≡ b ∷ tail = drop-cons bytes at 0 lt ∙ ap (λ (x : ℕ). x ∷ tail) (sym is) in
    let name = take b tail in
    let place : at + 1 + b ≡ at + (1 + b) = omega arith in
    let left : drop b tail ≡ drop (at + (1 + b)) bytes = drop-drop (suc at) b bytes ∙ ap (λ (n : ℕ). drop n bytes) (omega arith) in
    let goes : names_from r.fuel at (drop at bytes) ≡ option_map (λ names. (at, name) ∷ names) (names_from fuel.0 (at + (1 + b)) (drop (at + (1 + b)) bytes)) =
    ap (λ (n : ℕ). names_from n at (drop at bytes)) fuel.1
    ∙ ap (names_from (suc fuel.0) at) rest
    ∙ names_more fuel.0 at b tail (omega (arith, length-drop (suc at) bytes))
    ∙ ap (λ (n : ℕ). option_map (λ names. (at, name) ∷ names) (names_from fuel.0 n (drop b tail))) place
    ∙ ap (λ (l : List ℕ). option_map (λ names. (at, name) ∷ names) (names_from fuel.0 (at + (1 + b)) l)) left in
    record {
      so_far = r.so_far ++ (at, name) ∷ [];
      fuel = fuel.0;
      within = omega arith;
      enough = omega (arith, r.enough, fuel.1);
      whole = r.whole ∙ ap (after_names r.so_far) goes ∙ regroup name (names_from fuel.0 (at + (1 + b)) (drop (at + (1 + b)) bytes));
      keys' = subst (SameNumbers new) (sym (starts-append r.so_far at name)) (numbers-insert keys (starts_of r.so_far) new at r.keys' is_new);
    }
  where
    suc_from : (fuel : ℕ) → 0 < fuel → (m : ℕ) × (fuel ≡ suc m)
    suc_from zero some = absurd (omega arith)
    suc_from (suc m) some = (m, refl)

    regroup : (name : List ℕ) (o : Option Names) → after_names r.so_far (option_map (λ names. (at, name) ∷ names) o) ≡ after_names (r.so_far ++ (at, name) ∷ []) o
    regroup name None = refl
    regroup name (Some ns) = ap (λ (l : Names). Some l) (sym (append_assoc r.so_far ((at, name) ∷ []) ns))
