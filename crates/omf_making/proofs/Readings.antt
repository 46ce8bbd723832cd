-- Files that were read one after another.
use Rattle.std.proofs.Common.{◌≡◌, ℕ, suc, ◌+◌, ◌<◌, ◌≤◌, List, [], ◌∷◌, ◌++◌, length, get_or, take, drop, drop-cons, Option, String, string_bytes, Vec, refl, sym, ap, subst, ◌∙◌, add-one, arith}
use Rattle.std.proofs.Math.Seq.{take-suc}
use Rattle.std.proofs.lemmas.List.{take-append-drop, map-append, length-map, length-take-le}
use Rattle.std.specs.declared.alloc.Global.{Global}
use Rattle.omf_io.specs.Files.{FileMap, StoreSeen, IsRead, IsUnread, after_reads}
use Rattle.omf_making.specs.Words.{words_of}
use Rattle.omf_making.specs.Made.{all_bytes, AreShort}
use Rattle.omf_making.specs.Making.{AreRead, StopsReading, IsShort}

-- and one more
AreRead-append : (held : Option FileMap) (paths files : List (List ℕ)) (path file : List ℕ) → AreRead held paths files → IsRead held path file
    → AreRead held (paths ++ path ∷ []) (files ++ file ∷ [])
AreRead-append held [] [] path file are is = (is, tt)
AreRead-append held (p ∷ paths) (f ∷ files) path file are is = (are.0, AreRead-append held paths files path file are.1 is)
AreRead-append held [] (f ∷ files) path file are is = absurd are
AreRead-append held (p ∷ paths) [] path file are is = absurd are

-- the arguments are those before one, that one, and those after it
words_split : (items : List (String Global)) (k : ℕ) (item : String Global) → k < length items → item ≡ get_or items k item
    → words_of items ≡ words_of (take k items) ++ string_bytes item ∷ words_of (drop (suc k) items)
words_split items k item small is =
    ap words_of (sym (take-append-drop k items) ∙ ap (λ (rest : List (String Global)). take k items ++ rest) (drop-cons items k item small ∙ ap (λ (x : String Global). x ∷ drop (suc k) items) (sym is)))
    ∙ map-append string_bytes (take k items) (item ∷ drop (suc k) items)

-- a read gave no file
pub stops : (items : List (String Global)) (k : ℕ) (item : String Global) (path : List ℕ) (files : List (List ℕ)) (before mid now : StoreSeen) → k < length items → item ≡ get_or items k item
    → path ≡ string_bytes item → AreRead before.held (words_of (take k items)) files → mid ≡ after_reads k before → IsUnread mid.held path mid.faults now.faults
    → now ≡ record (after_reads 1 mid) { faults = now.faults } → StopsReading (words_of items) path before now
stops items k item path files before mid now small is path_is are mid_is cause now_is =
    let count : length (words_of (take k items)) ≡ k = length-map (take k items) string_bytes ∙ length-take-le k items (omega arith) in
    record {
      front = words_of (take k items);
      rest = words_of (drop (suc k) items);
      inputs' = words_split items k item small is ∙ ap (λ (p : List ℕ). words_of (take k items) ++ p ∷ words_of (drop (suc k) items)) (sym path_is);
      files = files;
      read = are;
      cause = subst (λ (s : StoreSeen). IsUnread s.held path s.faults now.faults) mid_is cause;
      store = now_is ∙ ap (λ (s : StoreSeen). record (after_reads 1 s) { faults = now.faults }) mid_is
          ∙ ap (λ (n : ℕ). record (after_reads (suc n) before) { faults = now.faults }) (sym count);
    }

-- an allocation failed in a read, or after it
pub runs_short : (items : List (String Global)) (k : ℕ) (before mid now : StoreSeen) → k < length items → mid ≡ after_reads k before → now ≡ after_reads 1 mid → IsShort (words_of items) before now
runs_short items k before mid now small mid_is now_is = record {
  reads = suc k;
  most = subst (λ (n : ℕ). suc k ≤ n) (sym (length-map items string_bytes)) (omega arith);
  store = now_is ∙ ap (after_reads 1) mid_is;
}

-- a read gave a file
pub reads_one : (items : List (String Global)) (k : ℕ) (item : String Global) (path : List ℕ) (all : List (Vec ℕ Global)) (file : Vec ℕ Global) (before mid : StoreSeen) → k < length items → item ≡ get_or items k item
    → path ≡ string_bytes item → AreRead before.held (words_of (take k items)) (all_bytes all) → mid ≡ after_reads k before → IsRead mid.held path file.items
    → AreRead before.held (words_of (take (k + 1) items)) (all_bytes (all ++ file ∷ []))
reads_one items k item path all file before mid small is path_is are mid_is read =
    let here : IsRead before.held (string_bytes item) file.items =
    subst (λ (p : List ℕ). IsRead before.held p file.items) path_is (subst (λ (s : StoreSeen). IsRead s.held path file.items) mid_is read) in
    let taken : take (k + 1) items ≡ take k items ++ item ∷ [] =
    ap (λ (n : ℕ). take n items) (add-one k) ∙ take-suc items k item small ∙ ap (λ (x : String Global). take k items ++ x ∷ []) (sym is) in
    let paths : words_of (take (k + 1) items) ≡ words_of (take k items) ++ string_bytes item ∷ [] = ap words_of taken ∙ map-append string_bytes (take k items) (item ∷ []) in
    let files : all_bytes (all ++ file ∷ []) ≡ all_bytes all ++ file.items ∷ [] = map-append (λ (v : Vec ℕ Global). v.items) all (file ∷ []) in
    subst (λ (ps : List (List ℕ)). AreRead before.held ps (all_bytes (all ++ file ∷ []))) (sym paths)
    (subst (λ (fs : List (List ℕ)). AreRead before.held (words_of (take k items) ++ string_bytes item ∷ []) fs) (sym files)
    (AreRead-append before.held (words_of (take k items)) (all_bytes all) (string_bytes item) file.items are here))

-- the files that were read are short
pub are_short : (held : Option FileMap) (paths files : List (List ℕ)) → AreRead held paths files → AreShort files
are_short held [] [] are = tt
are_short held (p ∷ paths) (f ∷ files) are = (are.0.0, are_short held paths files are.1)
are_short held [] (f ∷ files) are = absurd are
are_short held (p ∷ paths) [] are = absurd are

-- as many files were read as there are inputs
count_read : (held : Option FileMap) (paths files : List (List ℕ)) → AreRead held paths files → length files ≡ length paths
count_read held [] [] are = refl
count_read held (path ∷ paths) (file ∷ files) are = ap suc (count_read held paths files are.1)
count_read held [] (file ∷ files) are = absurd are
count_read held (path ∷ paths) [] are = absurd are

-- so they are few where the inputs are
pub few_read : (held : Option FileMap) (inputs : List (String Global)) (files : List (Vec ℕ Global)) → AreRead held (words_of inputs) (all_bytes files) → length inputs ≤ 255 → length files ≤ 255
few_read held inputs files are few =
    omega (arith, few, count_read held (words_of inputs) (all_bytes files) are, length-map inputs string_bytes, length-map files (λ (file : Vec ℕ Global). file.items))
