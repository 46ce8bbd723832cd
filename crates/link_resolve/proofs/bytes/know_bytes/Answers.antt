use Rattle.std.proofs.Common.{◌≡◌, ℕ, zero, suc, ◌+◌, List, [], ◌∷◌, take, Some, refl, sym, subst, arith}
use Rattle.std.specs.Prelude.{slice_get}
use Rattle.std.specs.List.{AllByRecursion}
use Rattle.omf_format.specs.Number.{IsBytes}
use Rattle.link_resolve.specs.Resolved.{all_bytes}
use Rattle.link_resolve.proofs.ResolveLaws.{file_there}
use Rattle.link_resolve.proofs.bytes.know_bytes.Goals as goal

same : (x y : List ℕ) → Some x ≡ Some y → x ≡ y
same x y e = cc

all_more : (files : List (List ℕ)) (k : ℕ) (file : List ℕ) → slice_get files k ≡ Some file → IsBytes file → AllByRecursion IsBytes (take k files) → AllByRecursion IsBytes (take (k + 1) files)
all_more [] k file e is all = absurd cc
all_more (x ∷ files) zero file e is all = (subst IsBytes (sym (same x file e)) is, none files)
  where
    none : (xs : List (List ℕ)) → AllByRecursion IsBytes (take 0 xs)
    none [] = tt
    none (y ∷ xs) = tt
all_more (x ∷ files) (suc k) file e is all =
    let next : suc k + 1 ≡ suc (k + 1) = omega arith in
    subst (λ (n : ℕ). AllByRecursion IsBytes (take n (x ∷ files))) (sym next) (all.0, all_more files k file e is all.1)

pub files-preserved : goal.files-preserved
files-preserved c =
    let items = c.args.inputs.now.items in
    let at = file_there c.deref-file-items.result.now items c.files.file-index c.file-item.result c.file-item.result.items c.deref-file-items.ensures.value c.files-test.true c.file-item.is refl in
    all_more (all_bytes items) c.files.file-index c.file-item.result.items at (subst IsBytes c.as_slice.ensures.value c.recall_file.ensures) c.files.invariant
