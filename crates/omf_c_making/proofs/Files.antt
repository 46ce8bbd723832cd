-- Files as C hands them over, and what they are to the libraries below.
use Rattle.std.proofs.Common.{◌≡◌, ◌↔◌, ℕ, zero, suc, ◌<◌, ◌≤◌, ◌^◌, get_or, Bool, true, List, [], ◌∷◌, length, map, refl, sym, ap, ◌∙◌, subst, arith}
use Rattle.std.specs.Prelude.{nat_le, All, Vec, Option, None, Some, MatchOption}
use Rattle.std.proofs.lemmas.Bool.{and_parts, leb-true, le-leb}
use Rattle.std.specs.List.{list_all, AllByRecursion}
use Rattle.std.specs.declared.alloc.Global.{Global}
use Rattle.load_meaning.specs.Pathnames.{IsPath}
use Rattle.lib_dict.specs.declared.member.Member.{Member}
use Rattle.lib_dict.specs.Library.{LibraryInput}
use Rattle.lib_dict.specs.Made.{given_file}
use Rattle.link_meaning.specs.declared.form.LinkForm.{LinkForm}
use Rattle.link_meaning.specs.LinkFaults as link
use Rattle.link_resolve.specs.Resolved.{all_bytes, given_of, HavePaths}
use Rattle.link_resolve.specs.Runtimes.{files_of}
use Rattle.omf_c_files.specs.declared.fault.OmfFault.{OmfFault}
use Rattle.omf_c_making.specs.declared.file.OmfFile.{OmfFile}
use Rattle.omf_c_files.specs.Handed.{reported_outcome}
use Rattle.omf_c_making.specs.Making.{Makes, link_given, library_given, HasName, IsShort}

-- a number of each file that is at most another one in all
module _ (size : LibraryInput → ℕ) (most : ℕ) where
  abbrev given : OmfFile → LibraryInput
  given f = record { name = f.name.now; bytes = f.bytes.now }

  abbrev test : OmfFile → Bool
  test f = nat_le (size (given f)) most

  from_test : (files : List OmfFile) → list_all test files ≡ true → All (λ (g : LibraryInput). size g ≤ most) (map given files)
  from_test [] is k d less = absurd (omega (arith, less))
  from_test (f ∷ files) is zero d less = leb-true (size (given f)) most (and_parts (test f) (list_all test files) is).0
  from_test (f ∷ files) is (suc k) d less = from_test files (and_parts (test f) (list_all test files) is).1 k d (omega (arith, less))

  to_test : (files : List OmfFile) → All (λ (g : LibraryInput). size g ≤ most) (map given files) → list_all test files ≡ true
  to_test [] all = refl
  to_test (f ∷ files) all =
      let here : test f ≡ true = le-leb (size (given f)) most (all 0 (given f) (omega arith)) in
      let following : list_all test files ≡ true = to_test files (λ k d less. all (suc k) d (omega (arith, less))) in
      rw (here, following) refl

pub names_all : (files : List OmfFile) → (list_all (λ (f : OmfFile). nat_le (length f.name.now) 255) files ≡ true) ↔ All HasName (library_given files)
names_all files = (from_test (λ (g : LibraryInput). length g.name) 255 files, to_test (λ (g : LibraryInput). length g.name) 255 files)

pub short_all : (files : List OmfFile) → (list_all (λ (f : OmfFile). nat_le (length f.bytes.now) 0xFFFF_FFFF) files ≡ true) ↔ All IsShort (library_given files)
short_all files = (
  λ is k d less. let most = from_test (λ (g : LibraryInput). length g.bytes) 0xFFFF_FFFF files is k d less in omega (arith, most),
  λ all. to_test (λ (g : LibraryInput). length g.bytes) 0xFFFF_FFFF files (λ k d less. let most = all k d less in omega (arith, most)),
)

short_at : (files : List OmfFile) (k : ℕ) (d : OmfFile) → All HasName (library_given files) → k < length files → length (get_or files k d).name.now ≤ 255
short_at [] k d all less = absurd (omega (arith, less))
short_at (f ∷ files) zero d all less = all 0 (record { name = f.name.now; bytes = f.bytes.now }) (omega arith)
short_at (f ∷ files) (suc k) d all less = short_at files k d (λ j e there. all (suc j) e (omega (arith, there))) (omega (arith, less))

-- a copy of a file's name
pub short_item : (files : List OmfFile) (k : ℕ) (d : OmfFile) (name : List ℕ) → name ≡ (get_or files k d).name.now → All HasName (library_given files) → k < length files → length name ≤ 255
short_item files k d name same all less = let short = short_at files k d all less in omega (arith, short, ap length same)

pub count_given : (files : List OmfFile) → length (library_given files) ≡ length files
count_given [] = refl
count_given (f ∷ files) = ap suc (count_given files)

-- copies of short files are short
pub short_members : (members : List Member) (g : List LibraryInput) → map given_file members ≡ g → All IsShort g → All (λ (m : Member). length m.bytes.items < 2 ^ 32) members
short_members members g same all = go members (subst (All IsShort) (sym same) all)
  where
    go : (ms : List Member) → All IsShort (map given_file ms) → All (λ (m : Member). length m.bytes.items < 2 ^ 32) ms
    go [] short k d less = absurd (omega (arith, less))
    go (m ∷ ms) short zero d less = short 0 (given_file m) (omega arith)
    go (m ∷ ms) short (suc k) d less = go ms (λ j e there. short (suc j) e (omega (arith, there))) k d (omega (arith, less))

-- ---- what is linked

-- the files of a library as run-time library files
abbrev pair : LibraryInput → List ℕ × List ℕ
pair g = (g.name, g.bytes)

pairs_of : (members : List Member) → map pair (map given_file members) ≡ files_of members
pairs_of [] = refl
pairs_of (m ∷ members) = ap (λ (ps : List (List ℕ × List ℕ)). (m.name, m.bytes.items) ∷ ps) (pairs_of members)

pairs_given : (files : List OmfFile) → map pair (library_given files) ≡ map (λ (f : OmfFile). (f.name.now, f.bytes.now)) files
pairs_given [] = refl
pairs_given (f ∷ files) = ap (λ (ps : List (List ℕ × List ℕ)). (f.name.now, f.bytes.now) ∷ ps) (pairs_given files)

-- copies of files are what the linker is given
pub given_same : (form : LinkForm) (inputs : List (Vec ℕ Global)) (runtimes : List Member) (bytes : List (List ℕ)) (files : List OmfFile) → all_bytes inputs ≡ bytes → map given_file runtimes ≡ library_given files
    → given_of inputs runtimes form ≡ link_given form bytes files
given_same form inputs runtimes bytes files same same' =
    let pairs = sym (pairs_of runtimes) ∙ ap (map pair) same' ∙ pairs_given files in
    ap (λ (b : List (List ℕ)). let g : link.LinkInput = record { inputs = b; runtimes = files_of runtimes; form = form } in g) same
    ∙ ap (λ (r : List (List ℕ × List ℕ)). let g : link.LinkInput = record { inputs = bytes; runtimes = r; form = form } in g) pairs

paths_named : (files : List OmfFile) → AllByRecursion (λ (p : List ℕ × List ℕ). IsPath p.0) (map (λ (f : OmfFile). (f.name.now, f.bytes.now)) files) → All HasName (library_given files)
paths_named [] all k d less = absurd (omega (arith, less))
paths_named (f ∷ files) all zero d less = all.0.short
paths_named (f ∷ files) all (suc k) d less = paths_named files all.1 k d (omega (arith, less))

-- run-time library files with paths have names of at most 255 bytes
pub named_paths : (form : LinkForm) (bytes : List (List ℕ)) (files : List OmfFile) → HavePaths (link_given form bytes files) → All HasName (library_given files)
named_paths form bytes files have = paths_named files have.0

-- ---- what is answered where there is a fault

pub reported_makes : {F : Type 0} (Can : Type 0) (IsMade : List ℕ → Type 0) (IsFirst : F → Type 0) (Reports : OmfFault → F → Type 0) (fault : F) (o : Option OmfFault) (Lacks Named : Type 0)
    → Can → (Named → IsFirst fault) → MatchOption o Lacks (λ reported. Named × Reports reported fault) → Makes Can IsMade IsFirst Reports (reported_outcome o)
reported_makes Can IsMade IsFirst Reports fault None Lacks Named can first is = tt
reported_makes Can IsMade IsFirst Reports fault (Some reported) Lacks Named can first is = (can, fault, first is.0, is.1)
