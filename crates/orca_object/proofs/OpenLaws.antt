-- Changes of the segment that is open.
use Rattle.std.proofs.Common.{◌≡◌, ℕ, List, [], ◌∷◌, ◌++◌, None, sym, ap, subst, ◌∙◌, append_assoc, append-nil, arith}
use Rattle.omf_format.specs.Record.{Record}
use Rattle.object_meaning.specs.Sizes.{size_at}
use Rattle.asm_meaning.specs.Pieces.{place_after, length_at}
use Rattle.asm_meaning.specs.State.{StartedSegment, cells_of, with_label, local_of, with_local_record}
use Rattle.orca_object.specs.declared.state.OpenSegment.{OpenSegment}
use Rattle.orca_object.specs.StateView.{ShowsSegment, with_records, with_local_label}

no_more : (s : StartedSegment) → with_records [] s ≡ s
no_more s = ap (λ (b : List Record). record s { body = b }) (append-nil s.body)

-- nothing more
pub no_records_more : (s : StartedSegment) (o : OpenSegment) → ShowsSegment s o → ShowsSegment (with_records [] s) o
no_records_more s o shows = subst (λ (t : StartedSegment). ShowsSegment t o) (sym (no_more s)) shows

-- the length of one record, and of none
pub length_at-one : (at : ℕ) (r : Record) → length_at at (r ∷ []) ≡ size_at at r
unfolding length_at place_after
length_at-one at r = omega arith

pub length_at-none : (at : ℕ) → length_at at [] ≡ 0
unfolding length_at place_after
length_at-none at = omega arith

-- records after a label's LOCAL, whose length is theirs
pub marked_is : (label : List ℕ) (form size : ℕ) (contents : List Record) (s : StartedSegment) (o : OpenSegment) → size ≡ length_at (cells_of s) contents
    → ShowsSegment (with_records contents (with_local_label label form size s)) o → ShowsSegment (with_local_record label form contents s) o
marked_is label form size contents s o is shows =
    subst (λ (b : List Record). ShowsSegment (record s { names = with_label label None s.names; body = b }) o)
    (append_assoc s.body (local_of label form size) contents ∙ ap (λ (k : ℕ). s.body ++ (local_of label form k ++ contents)) is) shows

pub marked_one : (label : List ℕ) (form size : ℕ) (r : Record) (s : StartedSegment) (old o : OpenSegment) → ShowsSegment s old → size ≡ size_at old.body.cells r
    → ShowsSegment (with_records (r ∷ []) (with_local_label label form size s)) o → ShowsSegment (with_local_record label form (r ∷ []) s) o
marked_one label form size r s old o shown is shows =
    marked_is label form size (r ∷ []) s o (is ∙ ap (λ (k : ℕ). size_at k r) shown.body.cells ∙ sym (length_at-one (cells_of s) r)) shows

pub marked_none : (label : List ℕ) (form : ℕ) (s : StartedSegment) (o : OpenSegment) → ShowsSegment (with_local_label label form 0 s) o → ShowsSegment (with_local_record label form [] s) o
marked_none label form s o shows = marked_is label form 0 [] s o (sym (length_at-none (cells_of s))) (no_records_more (with_local_label label form 0 s) o shows)
