-- The first of the files that are handed in with a path.
use Rattle.std.proofs.Common.{◌≡◌, ℕ, ◌+◌, ◌<◌, ◌≤◌, Bool, cond, eqb, List, length, drop, get_or, Option, Some, None, ap, ◌∙◌}
use Rattle.std.specs.Ordering.{nat_cmp}
use Rattle.std.specs.Cmp.Lexicographic.{slice_cmp, nat_list_cmp_total, nat_list_eq_equiv}
use Rattle.std.specs.FinMap.{get, find, get-from_entries}
use Rattle.std.proofs.lemmas.List.{at_drop_more, at_drop_all}
use Rattle.std.proofs.lemmas.Map.Text.{is_eq-slice_cmp}
use lib.Pointwise.{pointwise}
use Rattle.omf_c_loader.specs.declared.store.OmfStored.{OmfStored}
use Rattle.omf_c_loader.specs.Store.{entries_of, held_of}

-- the first of these files with a path
abbrev pub first_of : List ℕ → List OmfStored → Option (List ℕ)
first_of path files = find (slice_cmp nat_cmp) path (entries_of files)

-- the file at a place is the first one, or it follows
pub next_of : (path : List ℕ) (files : List OmfStored) (k : ℕ) (d : OmfStored) (same : Bool) → k < length files → pointwise eqb (get_or files k d).path.now path ≡ same
    → first_of path (drop k files) ≡ cond same (Some (get_or files k d).bytes.now) (first_of path (drop (k + 1) files))
next_of path files k d same less is =
    at_drop_more (first_of path) files k d less
    ∙ ap (λ (b : Bool). cond b (Some (get_or files k d).bytes.now) (first_of path (drop (k + 1) files)))
    (is_eq-slice_cmp path (get_or files k d).path.now ∙ nat_list_eq_equiv.symm path (get_or files k d).path.now ∙ is)

pub none_left : (path : List ℕ) (files : List OmfStored) (k : ℕ) → length files ≤ k → first_of path (drop k files) ≡ None
none_left path files k past = at_drop_all (first_of path) files k past

-- it is the one that is held
pub held_first : (path : List ℕ) (files : List OmfStored) → get (held_of files) path ≡ first_of path files
held_first path files = get-from_entries nat_list_cmp_total (entries_of files) path
