-- A table that is laid out as the entries of targets that are there passes the checks of a table.
use Rattle.load_meaning.specs.Pathnames.{paths_of}
use Rattle.std.proofs.Common.{◌≡◌, ℕ, zero, suc, ◌+◌, ◌*◌, ◌<◌, Bool, true, false, not, eqb, ltb, List, [], ◌∷◌, ◌++◌, length, map, take, drop, replicate, get_or, Option, Some, None, refl, sym, ap, subst, ◌∙◌, arith, ◌≤◌, inl, inr}
use Rattle.std.specs.Prelude.{◌&&◌, slice_get, option_map}
use Rattle.std.specs.Option.{option_map_or}
use Rattle.std.specs.List.{AllByRecursion}
use Rattle.std.proofs.lemmas.Bool.{and_from, eq-eqb, lt-ltb, le-leb, ne_eqb}
use Rattle.std.proofs.lemmas.List.{length-map, take-append-drop, drop-drop}
use Rattle.std.proofs.lemmas.Option.{slice_get-map, slice_get-get_or}
use Rattle.byteorder.specs.Endian.{little_number}
use Rattle.omf_format.specs.Number.{number_at}
use Rattle.omf_format.specs.Header.{first_of, is_dynamic, is_skipped}
use Rattle.omf_format.specs.File.{Segment, segment_at}
use Rattle.load_meaning.specs.declared.table.Target.{Target}
use Rattle.load_meaning.specs.Table.{IsEntryAt, IsTableOf, entry_start, file_entry}
use Rattle.load_meaning.specs.laws.TableLaws.{number_front}
use Rattle.load_meaning.specs.LoadTable.{is_place, Check, zero_checks, is_call, entries_checks}
use Rattle.load_meaning.specs.laws.Steps.{is_called, is_file_number, table_checks, entry_checks}
use Rattle.load_meaning.specs.Loadable.{IsTarget}

-- ---- lists of checks

pub pass : {F : Type 0} (b : Bool) (f : F) (checks : List (Bool × F)) → b ≡ false → first_of checks ≡ None → first_of ((b, f) ∷ checks) ≡ None
pass true f checks e rest = absurd cc
pass false f checks e rest = rest

pass_both : (xs ys : List Check) → first_of xs ≡ None → first_of ys ≡ None → first_of (xs ++ ys) ≡ None
pass_both [] ys x y = y
pass_both ((true, at) ∷ xs) ys x y = absurd cc
pass_both ((false, at) ∷ xs) ys x y = pass_both xs ys x y

-- a field that is as it should be
is_right : (n m : ℕ) → n ≡ m → not (eqb n m) ≡ false
is_right n m e = ap not (eq-eqb n m e)

zeros_pass : (bytes : List ℕ) (at n : ℕ) → ((i : ℕ) → i < n → number_at 1 (at + i) bytes ≡ 0) → first_of (zero_checks bytes at n) ≡ None
zeros_pass bytes at zero each = refl
zeros_pass bytes at (suc n) each =
    let place : at ≡ at + 0 = omega arith in
    let here : number_at 1 at bytes ≡ 0 = ap (λ (k : ℕ). number_at 1 k bytes) place ∙ each 0 (omega arith) in
    let next : (i : ℕ) → i < n → number_at 1 (at + 1 + i) bytes ≡ 0 = λ i lt. let moved : at + 1 + i ≡ at + suc i = omega arith in ap (λ (k : ℕ). number_at 1 k bytes) moved ∙ each (suc i) (omega (arith, lt)) in
    pass (not (eqb (number_at 1 at bytes) 0)) at (zero_checks bytes (at + 1) n) (is_right (number_at 1 at bytes) 0 here) (zeros_pass bytes (at + 1) n next)

zero_number : (n i : ℕ) → i < n → number_at 1 i (replicate n 0) ≡ 0
unfolding number_at
zero_number zero i lt = absurd (omega arith)
zero_number (suc n) zero lt = refl
zero_number (suc n) (suc i) lt = zero_number n i (omega arith)

zeros_front : (bytes : List ℕ) (n i : ℕ) → take n bytes ≡ replicate n 0 → i < n → number_at 1 i bytes ≡ 0
zeros_front bytes n i is lt =
    let size : length (take n bytes) ≡ n = ap length is ∙ length-zeros n in
    ap (number_at 1 i) (sym (take-append-drop n bytes)) ∙ number_front 1 i (take n bytes) (drop n bytes) (omega (arith, size, lt)) ∙ ap (number_at 1 i) is ∙ zero_number n i lt
  where
    length-zeros : (n : ℕ) → length {A = ℕ} (replicate n 0) ≡ n
    length-zeros zero = refl
    length-zeros (suc n) = ap suc (length-zeros n)

zeros_after : (bytes : List ℕ) (at n i : ℕ) → drop at bytes ≡ replicate n 0 → i < n → number_at 1 (at + i) bytes ≡ 0
unfolding number_at
zeros_after bytes at n i is lt = ap (little_number 1) (sym (drop-drop i at bytes)) ∙ ap (λ (l : List ℕ). little_number 1 (drop i l)) is ∙ zero_number n i lt

-- ---- entries

found_test : (o : Option Segment) (test : Segment → Bool) (s : Segment) → o ≡ Some s → test s ≡ true → option_map_or test o false ≡ true
found_test o test s is e = ap (λ (p : Option Segment). option_map_or test p false) is ∙ e

no_more : (own x : Bool) → x ≡ true → (own && not x) ≡ false
no_more true x e = ap not e
no_more false x e = refl

-- a number from 1 on, up to that of the last row
file_right : (segments : List Segment) (n : ℕ) → 1 ≤ n → n ≤ length (paths_of segments) + 1 → is_file_number segments n ≡ true
file_right segments n low up = and_from _ _ (le-leb 1 n low) (le-leb n (length (paths_of segments) + 1) up)

call_right : (bytes : List ℕ) (at : ℕ) (t : Target) → IsEntryAt (file_entry t) at bytes → is_call bytes (at + 10) ≡ true
call_right bytes at t is = and_from _ _ (and_from _ _ (and_from _ _ (eq-eqb _ 0x22 is.code.0) (eq-eqb _ 0x00 is.code.1)) (eq-eqb _ 0xF0 is.code.2)) (eq-eqb _ 0xE1 is.code.3)

not_own : (n : ℕ) → 2 ≤ n → eqb n 1 ≡ false
not_own n low = ne_eqb n 1 (λ (e : n ≡ 1). absurd (omega (arith, e, low)))

entry_passes : (segments : List Segment) (bytes : List ℕ) (at : ℕ) (t : Target) → IsEntryAt (file_entry t) at bytes → IsTarget segments t → first_of (entry_checks segments bytes at) ≡ None
entry_passes segments bytes at t is (inr target) =
    let file : 2 ≤ number_at 2 (at + 2) bytes = omega (arith, is.file, target.beyond) in
    let own = not_own (number_at 2 (at + 2) bytes) file in
    let five : Check = (not (is_call bytes (at + 10)), at + 10) in
    let four : Check = (eqb (number_at 2 (at + 2) bytes) 1 && not (is_place segments (number_at 2 (at + 4) bytes) (number_at 4 (at + 6) bytes)), at + 6) in
    let three : Check = (eqb (number_at 2 (at + 2) bytes) 1 && not (is_called segments (number_at 2 (at + 4) bytes)), at + 4) in
    let two : Check = (not (is_file_number segments (number_at 2 (at + 2) bytes)), at + 2) in
    pass (not (eqb (number_at 2 at bytes) 0)) at (two ∷ three ∷ four ∷ five ∷ []) (is_right (number_at 2 at bytes) 0 is.user)
    (pass two.0 two.1 (three ∷ four ∷ five ∷ []) (ap not (file_right segments (number_at 2 (at + 2) bytes) (omega (arith, file)) (omega (arith, is.file, target.row))))
    (pass three.0 three.1 (four ∷ five ∷ []) (ap (λ (b : Bool). b && not (is_called segments (number_at 2 (at + 4) bytes))) own)
    (pass four.0 four.1 (five ∷ []) (ap (λ (b : Bool). b && not (is_place segments (number_at 2 (at + 4) bytes) (number_at 4 (at + 6) bytes))) own)
    (pass five.0 five.1 [] (ap not (call_right bytes at t is)) refl))))
entry_passes segments bytes at t is (inl target) =
    let s = target.segment' in
    let there : segment_at segments (number_at 2 (at + 4) bytes) ≡ Some s = ap (segment_at segments) is.segment ∙ target.is in
    let kept : not (is_skipped s.fields.kind) ≡ true = ap not target.kept in
    let called = found_test (segment_at segments (number_at 2 (at + 4) bytes)) (λ s. is_dynamic s.fields.kind && not (is_skipped s.fields.kind)) s there (and_from (is_dynamic s.fields.kind) (not (is_skipped s.fields.kind)) target.dynamic kept) in
    let inside : ltb (number_at 4 (at + 6) bytes) s.fields.length ≡ true = ap (λ (n : ℕ). ltb n s.fields.length) is.offset ∙ lt-ltb t.offset s.fields.length target.inside in
    let place = found_test (segment_at segments (number_at 2 (at + 4) bytes)) (λ s. not (is_skipped s.fields.kind) && ltb (number_at 4 (at + 6) bytes) s.fields.length) s there (and_from (not (is_skipped s.fields.kind)) (ltb (number_at 4 (at + 6) bytes) s.fields.length) kept inside) in
    let one : number_at 2 (at + 2) bytes ≡ 1 = is.file ∙ target.file' in
    let own = eqb (number_at 2 (at + 2) bytes) 1 in
    let five : Check = (not (is_call bytes (at + 10)), at + 10) in
    let four : Check = (own && not (is_place segments (number_at 2 (at + 4) bytes) (number_at 4 (at + 6) bytes)), at + 6) in
    let three : Check = (own && not (is_called segments (number_at 2 (at + 4) bytes)), at + 4) in
    let two : Check = (not (is_file_number segments (number_at 2 (at + 2) bytes)), at + 2) in
    pass (not (eqb (number_at 2 at bytes) 0)) at (two ∷ three ∷ four ∷ five ∷ []) (is_right (number_at 2 at bytes) 0 is.user)
    (pass two.0 two.1 (three ∷ four ∷ five ∷ []) (ap not (file_right segments (number_at 2 (at + 2) bytes) (omega (arith, one)) (omega (arith, one))))
    (pass three.0 three.1 (four ∷ five ∷ []) (no_more own (is_called segments (number_at 2 (at + 4) bytes)) called)
    (pass four.0 four.1 (five ∷ []) (no_more own (is_place segments (number_at 2 (at + 4) bytes) (number_at 4 (at + 6) bytes)) place)
    (pass five.0 five.1 [] (ap not (call_right bytes at t is)) refl))))

entries_pass : (segments : List Segment) (bytes : List ℕ) (k n : ℕ) → ((i : ℕ) → i < n → first_of (entry_checks segments bytes (entry_start (k + i))) ≡ None) → first_of (entries_checks segments bytes k n) ≡ None
entries_pass segments bytes k zero each = refl
entries_pass segments bytes k (suc n) each =
    let place : k ≡ k + 0 = omega arith in
    let here : first_of (entry_checks segments bytes (entry_start k)) ≡ None = ap (λ (j : ℕ). first_of (entry_checks segments bytes (entry_start j))) place ∙ each 0 (omega arith) in
    let next : (i : ℕ) → i < n → first_of (entry_checks segments bytes (entry_start (k + 1 + i))) ≡ None =
    λ i lt. let moved : k + 1 + i ≡ k + suc i = omega arith in ap (λ (j : ℕ). first_of (entry_checks segments bytes (entry_start j))) moved ∙ each (suc i) (omega (arith, lt)) in
    pass_both (entry_checks segments bytes (entry_start k)) (entries_checks segments bytes (k + 1) n) here (entries_pass segments bytes (k + 1) n next)

pub all_at : {A : Type 0} (P : A → Type 0) (xs : List A) (k : ℕ) (x : A) → AllByRecursion P xs → slice_get xs k ≡ Some x → P x
all_at P [] k x all e = absurd cc
all_at {A} P (y ∷ xs) zero x all e = subst P (same y x e) all.0
  where
    same : (a b : A) → Some a ≡ Some b → a ≡ b
    same a b e = cc
all_at P (y ∷ xs) (suc k) x all e = all_at P xs k x all.1 e

pub table_passes : (segments : List Segment) (targets : List Target) (bytes : List ℕ) → AllByRecursion (IsTarget segments) targets → IsTableOf (map file_entry targets) bytes → first_of (table_checks segments bytes (length targets)) ≡ None
table_passes segments targets bytes all is =
    let n = length targets in
    let count : length (map file_entry targets) ≡ n = length-map targets (λ (t : Target). file_entry t) in
    let entry : (i : ℕ) → i < n → first_of (entry_checks segments bytes (entry_start (0 + i))) ≡ None =
    λ i lt. let t = get_or targets i (record { file = 0; segment = 0; offset = 0 }) in
    let there : slice_get targets i ≡ Some t = slice_get-get_or targets i (record { file = 0; segment = 0; offset = 0 }) lt in
    let made : slice_get (map file_entry targets) i ≡ Some (file_entry t) = slice_get-map (λ (t : Target). file_entry t) targets i ∙ ap (option_map (λ (t : Target). file_entry t)) there in
    let place : 0 + i ≡ i = omega arith in
    ap (λ (j : ℕ). first_of (entry_checks segments bytes (entry_start j))) place ∙ entry_passes segments bytes (entry_start i) t (is.each i (file_entry t) made) (all_at (IsTarget segments) targets i t all there) in
    let back : drop (entry_start n) bytes ≡ replicate 4 0 = ap (λ (k : ℕ). drop (8 + 14 * k) bytes) (sym count) ∙ is.back in
    pass_both (zero_checks bytes 0 8) (entries_checks segments bytes 0 n ++ zero_checks bytes (entry_start n) 4)
    (zeros_pass bytes 0 8 (λ i lt. let place : 0 + i ≡ i = omega arith in ap (λ (k : ℕ). number_at 1 k bytes) place ∙ zeros_front bytes 8 i is.front lt))
    (pass_both (entries_checks segments bytes 0 n) (zero_checks bytes (entry_start n) 4) (entries_pass segments bytes 0 n entry)
    (zeros_pass bytes (entry_start n) 4 (λ i lt. zeros_after bytes (entry_start n) 4 i back lt)))
