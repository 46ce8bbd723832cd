-- The files of a library, gathered from the paths and what was read.
use Rattle.std.proofs.Common.{◌≡◌, ℕ, zero, suc, ◌+◌, ◌^◌, ◌<◌, ◌≤◌, true, List, [], ◌∷◌, ◌++◌, length, drop, get_or, map, All, Some, None, refl, sym, ap, subst, ◌∙◌, append_assoc, arith}
use Rattle.std.specs.Prelude.{◌&&◌, Vec, String, string_bytes, slice_get, nat_le, IsTrue}
use Rattle.std.specs.List.{list_all}
use Rattle.std.specs.declared.alloc.Global.{Global}
use Rattle.std.proofs.lemmas.Bool.{and_parts, leb-true}
use Rattle.std.proofs.lemmas.List.{append-nil, length-append, length-map, map-append}
use Rattle.std.proofs.lemmas.List.Elements.{All-push}
use Rattle.omf_io.specs.Files.{max_file}
use Rattle.lib_dict.specs.declared.member.Member.{Member}
use Rattle.lib_dict.specs.Library.{LibraryInput}
use Rattle.lib_dict.specs.Made.{given_file}
use Rattle.omf_making.specs.Words.{is_path, are_paths, words_of}
use Rattle.omf_making.specs.Made.{all_bytes, AreShort}
use Rattle.omf_commands.specs.Library.{given_of}

-- ---- paths

pub few_paths : (words : List (List ℕ)) → IsTrue (are_paths 1 255 words) → length words ≤ 255
few_paths words is =
    let front = and_parts (nat_le 1 (length words) && nat_le (length words) 255) (list_all is_path words) is in
    leb-true (length words) 255 (and_parts (nat_le 1 (length words)) (nat_le (length words) 255) front.0).1

all_short : (words : List (List ℕ)) (i : ℕ) → list_all is_path words ≡ true → i < length words → length (get_or words i []) ≤ 255
all_short [] i all lt = absurd (omega arith)
all_short (w ∷ words) zero all lt =
    let first = (and_parts (is_path w) (list_all is_path words) all).0 in
    leb-true (length w) 255 (and_parts (nat_le 1 (length w)) (nat_le (length w) 255) first).1
all_short (w ∷ words) (suc i) all lt = all_short words i (and_parts (is_path w) (list_all is_path words) all).1 (omega arith)

word_at : (words : List (String Global)) (i : ℕ) (d : String Global) → i < length words → get_or (words_of words) i [] ≡ string_bytes (get_or words i d)
word_at [] i d lt = absurd (omega arith)
word_at (w ∷ words) zero d lt = refl
word_at (w ∷ words) (suc i) d lt = word_at words i d (omega arith)

-- each path is short
pub short_path : (least most : ℕ) (words : List (String Global)) (i : ℕ) (path : String Global) → IsTrue (are_paths least most (words_of words)) → i < length words → path ≡ get_or words i path → length (string_bytes path) ≤ 255
short_path least most words i path is lt same =
    let all = (and_parts (nat_le least (length (words_of words)) && nat_le (length (words_of words)) most) (list_all is_path (words_of words)) is).1 in
    let small = all_short (words_of words) i all (omega (arith, length-map words string_bytes)) in
    omega (arith, small, ap length (word_at words i path lt), ap (λ (s : String Global). length (string_bytes s)) same)

-- ---- files

short_file : (files : List (Vec ℕ Global)) (i : ℕ) (file : Vec ℕ Global) → AreShort (all_bytes files) → slice_get files i ≡ Some file → length file.items ≤ max_file
short_file [] i file short is = absurd cc
short_file (f ∷ files) zero file short is = let same : f ≡ file = cc in omega (arith, short.0, ap (λ (v : Vec ℕ Global). length v.items) same)
short_file (f ∷ files) (suc i) file short is = short_file files i file short.1 is

-- the files under the paths that were passed, and those that are left, are all
pub record Gathered (paths : List (String Global)) (files : List (Vec ℕ Global)) (i : ℕ) (members : List Member) : Type 0 where
  pub count : length members ≡ i
  pub whole : given_of (words_of paths) (all_bytes files) ≡ map given_file members ++ given_of (drop i (words_of paths)) (drop i (all_bytes files))
  pub short : All (λ m. length m.bytes.items < 2 ^ 32) members

-- the arguments from one on begin with it
pub drop_word : (paths : List (String Global)) (i : ℕ) (path : String Global) → i < length paths → path ≡ get_or paths i path → drop i (words_of paths) ≡ string_bytes path ∷ drop (i + 1) (words_of paths)
drop_word [] i path lt is = absurd (omega arith)
drop_word (p ∷ paths) zero path lt is = ap (λ (s : String Global). string_bytes s ∷ words_of paths) (sym is)
drop_word (p ∷ paths) (suc i) path lt is = let step : suc i + 1 ≡ suc (i + 1) = omega arith in drop_word paths i path (omega arith) is ∙ ap (λ (n : ℕ). string_bytes path ∷ drop n (words_of (p ∷ paths))) (sym step)

drop_file : (files : List (Vec ℕ Global)) (i : ℕ) (file : Vec ℕ Global) → slice_get files i ≡ Some file → drop i (all_bytes files) ≡ file.items ∷ drop (i + 1) (all_bytes files)
drop_file [] i file is = absurd cc
drop_file (f ∷ files) zero file is = let same : f ≡ file = cc in ap (λ (v : Vec ℕ Global). v.items ∷ all_bytes files) same
drop_file (f ∷ files) (suc i) file is = let step : suc i + 1 ≡ suc (i + 1) = omega arith in drop_file files i file is ∙ ap (λ (n : ℕ). file.items ∷ drop n (all_bytes (f ∷ files))) (sym step)

no_file : (files : List (Vec ℕ Global)) (i : ℕ) → slice_get files i ≡ None → drop i (all_bytes files) ≡ []
no_file [] zero is = refl
no_file [] (suc i) is = refl
no_file (f ∷ files) zero is = absurd cc
no_file (f ∷ files) (suc i) is = no_file files i is

pub gathered_more : (paths : List (String Global)) (files : List (Vec ℕ Global)) (i : ℕ) (members new : List Member) (path : String Global) (file : Vec ℕ Global) (m : Member) → Gathered paths files i members
    → AreShort (all_bytes files) → i < length paths → path ≡ get_or paths i path → slice_get files (length members) ≡ Some file → m.name ≡ string_bytes path → m.bytes.items ≡ file.items
    → new ≡ members ++ m ∷ [] → Gathered paths files (i + 1) new
gathered_more paths files i members new path file m g short lt is there name bytes is_new =
    let here : slice_get files i ≡ Some file = ap (slice_get files) (sym g.count) ∙ there in
    let small : length m.bytes.items < 2 ^ 32 = omega (arith, ap length bytes, short_file files i file short here) in
    let rest = given_of (drop (i + 1) (words_of paths)) (drop (i + 1) (all_bytes files)) in
    let one : given_of (drop i (words_of paths)) (drop i (all_bytes files)) ≡ given_file m ∷ rest =
    ap (λ (l : List (List ℕ)). given_of l (drop i (all_bytes files))) (drop_word paths i path lt is)
    ∙ ap (given_of (string_bytes path ∷ drop (i + 1) (words_of paths))) (drop_file files i file here)
    ∙ ap (λ (n : List ℕ). made n file.items ∷ rest) (sym name)
    ∙ ap (λ (n : List ℕ). made m.name n ∷ rest) (sym bytes) in
    record {
      count = omega (arith, ap length is_new, length-append members (m ∷ []), g.count);
      whole =
          g.whole
          ∙ ap (λ (l : List LibraryInput). map given_file members ++ l) one
          ∙ sym (append_assoc (map given_file members) (given_file m ∷ []) rest)
          ∙ ap (λ (l : List LibraryInput). l ++ rest) (sym (ap (map given_file) is_new ∙ map-append given_file members (m ∷ [])));
      short = subst (All (λ m. length m.bytes.items < 2 ^ 32)) (sym is_new) (All-push (λ m. length m.bytes.items < 2 ^ 32) members m g.short small);
    }
  where
    made : List ℕ → List ℕ → LibraryInput
    made name bytes = record { name = name; bytes = bytes }

none_of : (paths : List (List ℕ)) → given_of paths [] ≡ []
none_of [] = refl
none_of (p ∷ paths) = refl

-- no file is left
pub gathered_files : (paths : List (String Global)) (files : List (Vec ℕ Global)) (i : ℕ) (members : List Member) → Gathered paths files i members → slice_get files (length members) ≡ None
    → map given_file members ≡ given_of (words_of paths) (all_bytes files)
gathered_files paths files i members g none =
    let left = no_file files i (ap (slice_get files) (sym g.count) ∙ none) in
    sym (
    g.whole
    ∙ ap (λ (l : List (List ℕ)). map given_file members ++ given_of (drop i (words_of paths)) l) left
    ∙ ap (λ (l : List LibraryInput). map given_file members ++ l) (none_of (drop i (words_of paths)))
    ∙ append-nil (map given_file members)
    )
