use Rattle.std.proofs.Common.{◌≡◌, ℕ, zero, suc, ◌+◌, List, [], ◌∷◌, length, take, Some, refl, sym, subst, arith}
use Rattle.std.specs.Prelude.{slice_get}
use Rattle.std.specs.List.{AllByRecursion}
use Rattle.std.proofs.lemmas.Option.{slice_get_read}
use Rattle.omf_format.specs.Number.{IsBytes}
use Rattle.link_resolve.specs.Runtimes.{files_of}
use Rattle.link_resolve.proofs.RuntimeLaws.{file_at}
use Rattle.link_resolve.proofs.bytes.know_members.Goals as goal

same : (x y : List ℕ × List ℕ) → Some x ≡ Some y → x ≡ y
same x y e = cc

abbrev HasBytes : List ℕ × List ℕ → Type 0
HasBytes file = IsBytes file.1

all_more : (files : List (List ℕ × List ℕ)) (k : ℕ) (file : List ℕ × List ℕ) → slice_get files k ≡ Some file → HasBytes file → AllByRecursion HasBytes (take k files) → AllByRecursion HasBytes (take (k + 1) files)
all_more [] k file e is all = absurd cc
all_more (x ∷ files) zero file e is all = (subst HasBytes (sym (same x file e)) is, none files)
  where
    none : (xs : List (List ℕ × List ℕ)) → AllByRecursion HasBytes (take 0 xs)
    none [] = tt
    none (y ∷ xs) = tt
all_more (x ∷ files) (suc k) file e is all =
    let next : suc k + 1 ≡ suc (k + 1) = omega arith in
    subst (λ (n : ℕ). AllByRecursion HasBytes (take n (x ∷ files))) (sym next) (all.0, all_more files k file e is all.1)

pub files-preserved : goal.files-preserved
files-preserved c =
    let given = c.args.given.now in
    let k = c.files.member-index in
    let member = c.member-item.result in
    let there = slice_get_read given (length given) k member refl c.files-test.true c.member-item.is in
    all_more (files_of given) k (member.name, member.bytes.items) (file_at given k member there) (subst IsBytes c.as_slice.ensures.value c.recall_file.ensures) c.files.invariant
