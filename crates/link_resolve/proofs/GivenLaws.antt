-- Files that may be given to the linker, one by one.
use Rattle.std.proofs.Common.{◌≡◌, ℕ, zero, suc, ◌+◌, ◌<◌, Bool, true, false, List, [], ◌∷◌, ◌++◌, length, get_or, map, take, Some, refl, sym, ap, subst, ◌∙◌, arith}
use Rattle.std.specs.Prelude.{slice_get, option_map}
use Rattle.std.specs.List.{AllByRecursion}
use Rattle.std.specs.Bool.{OnTrue}
use Rattle.std.proofs.lemmas.Option.{slice_get_read, slice_get-map}
use Rattle.lib_dict.specs.declared.member.Member.{Member}
use Rattle.link_resolve.specs.Resolved.{total_size}
use Rattle.link_resolve.specs.Runtimes.{files_of}
use Rattle.link_tables.proofs.Lists.{take_more}
use Rattle.link_resolve.proofs.RuntimeLaws.{file_at}

pub all_more : {A : Type 0} → (P : A → Type 0) (xs : List A) (k : ℕ) (x : A) → slice_get xs k ≡ Some x → P x → AllByRecursion P (take k xs) → AllByRecursion P (take (k + 1) xs)
all_more {A} P xs k x at is all = subst (AllByRecursion P) (sym (take_more xs k x at)) (snoc (take k xs) all)
  where
    snoc : (ys : List A) → AllByRecursion P ys → AllByRecursion P (ys ++ x ∷ [])
    snoc [] a = (is, tt)
    snoc (y ∷ ys) a = (a.0, snoc ys a.1)

pub all_at : {A : Type 0} → (P : A → Type 0) (xs : List A) (k : ℕ) (x : A) → slice_get xs k ≡ Some x → AllByRecursion P xs → P x
all_at P [] k x at all = absurd cc
all_at P (y ∷ xs) zero x at all = let same : y ≡ x = cc in subst P same all.0
all_at P (y ∷ xs) (suc k) x at all = all_at P xs k x at all.1

-- the member at a place
pub member_there : (read items : List Member) (k : ℕ) (m : Member) → read ≡ items → k < length read → m ≡ get_or read k m → slice_get items k ≡ Some m
member_there read items k m same less is = ap (λ (l : List Member). slice_get l k) (sym same) ∙ slice_get_read read (length read) k m refl less is

-- the bytes of the files
abbrev pub bytes_of : List Member → List (List ℕ)
bytes_of given = map (λ file. file.1) (files_of given)

pub bytes_at : (given : List Member) (k : ℕ) (m : Member) → slice_get given k ≡ Some m → slice_get (bytes_of given) k ≡ Some m.bytes.items
bytes_at given k m at = slice_get-map (λ (f : List ℕ × List ℕ). f.1) (files_of given) k ∙ ap (option_map (λ (f : List ℕ × List ℕ). f.1)) (file_at given k m at)

pub size_step : (files : List (List ℕ)) (k : ℕ) (file : List ℕ) → slice_get files k ≡ Some file → total_size (take (k + 1) files) ≡ total_size (take k files) + length file
size_step files k file at = ap total_size (take_more files k file at) ∙ snoc (take k files)
  where
    snoc : (xs : List (List ℕ)) → total_size (xs ++ file ∷ []) ≡ total_size xs + length file
    snoc [] = omega arith
    snoc (x ∷ xs) = let rest = snoc xs in omega arith

pub none_taken : (files : List (List ℕ)) → total_size (take 0 files) ≡ 0
none_taken [] = refl
none_taken (f ∷ files) = refl

pub on_true : (b : Bool) (P : Type 0) → b ≡ true → OnTrue b P → P
on_true true P is reported = reported
on_true false P is reported = absurd cc
