-- Files under their paths, gathered one by one.
use Rattle.std.proofs.Common.{◌≡◌, ◌↔◌, ℕ, zero, suc, ◌+◌, ◌<◌, List, [], ◌∷◌, ◌++◌, length, drop, get_or, refl, sym, ap, ◌∙◌, append_assoc, arith}
use Rattle.omf_cli.specs.Steps.{under_paths}
use Rattle.std.specs.Prelude.{Vec, String, string_bytes}
use Rattle.std.specs.declared.alloc.Global.{Global}
use Rattle.std.proofs.lemmas.List.{append-nil, map-append}
use Rattle.lib_dict.specs.declared.member.Member.{Member}
use Rattle.link_resolve.specs.Runtimes.{files_of}
use Rattle.omf_making.specs.Words.{words_of}
use Rattle.omf_making.specs.Made.{all_bytes}
use Rattle.omf_commands.proofs.Libraries.{drop_word}

-- the files under the paths that were passed, and those that are left, are all
pub record Passed (paths : List (String Global)) (files : List (Vec ℕ Global)) (i : ℕ) (members : List Member) (rest : List (Vec ℕ Global)) : Type 0 where
  pub whole : under_paths (words_of paths) (all_bytes files) ≡ files_of members ++ under_paths (drop i (words_of paths)) (all_bytes rest)

pub passed_more : (paths : List (String Global)) (files : List (Vec ℕ Global)) (i : ℕ) (members new : List Member) (rest all : List (Vec ℕ Global)) (path : String Global) (file : Vec ℕ Global) (m : Member)
    → Passed paths files i members all → all ≡ file ∷ rest → i < length paths → path ≡ get_or paths i path → m.name ≡ string_bytes path → m.bytes.items ≡ file.items
    → new ≡ members ++ m ∷ [] → Passed paths files (i + 1) new rest
passed_more paths files i members new rest all path file m p is_all lt is name bytes is_new =
    let left = under_paths (drop (i + 1) (words_of paths)) (all_bytes rest) in
    let one : under_paths (drop i (words_of paths)) (all_bytes all) ≡ pair m.name m.bytes.items ∷ left =
    ap (λ (l : List (List ℕ)). under_paths l (all_bytes all)) (drop_word paths i path lt is)
    ∙ ap (λ (l : List (Vec ℕ Global)). under_paths (string_bytes path ∷ drop (i + 1) (words_of paths)) (all_bytes l)) is_all
    ∙ ap (λ (n : List ℕ). pair n file.items ∷ left) (sym name)
    ∙ ap (λ (n : List ℕ). pair m.name n ∷ left) (sym bytes) in
    record {
      whole =
          p.whole
          ∙ ap (λ (l : List (List ℕ × List ℕ)). files_of members ++ l) one
          ∙ sym (append_assoc (files_of members) (pair m.name m.bytes.items ∷ []) left)
          ∙ ap (λ (l : List (List ℕ × List ℕ)). l ++ left) (sym (ap files_of is_new ∙ map-append (λ (one : Member). pair one.name one.bytes.items) members (m ∷ [])));
    }
  where
    pair : List ℕ → List ℕ → List ℕ × List ℕ
    pair name bytes = (name, bytes)

none_of : (paths : List (List ℕ)) → under_paths paths [] ≡ []
none_of [] = refl
none_of (p ∷ paths) = refl

-- no file is left
pub no_file_left : (paths : List (String Global)) (files : List (Vec ℕ Global)) (i : ℕ) (members : List Member) (rest : List (Vec ℕ Global)) → Passed paths files i members rest → rest ≡ []
    → files_of members ≡ under_paths (words_of paths) (all_bytes files)
no_file_left paths files i members rest p none =
    sym (p.whole ∙ ap (λ (l : List (Vec ℕ Global)). files_of members ++ under_paths (drop i (words_of paths)) (all_bytes l)) none
    ∙ ap (λ (l : List (List ℕ × List ℕ)). files_of members ++ l) (none_of (drop i (words_of paths))) ∙ append-nil (files_of members))

-- nothing is left where no more files follow
pub nothing_left : (rest : List (Vec ℕ Global)) (n : ℕ) (some : Type 0) → some ↔ (0 < n) → (some → ⊥) → length rest ≡ n → rest ≡ []
nothing_left [] n some is none size = refl
nothing_left (file ∷ rest) zero some is none size = absurd (omega (arith, size))
nothing_left (file ∷ rest) (suc n) some is none size = absurd (none (is.1 (omega arith)))
