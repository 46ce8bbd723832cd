-- Uses so far, and those that remain.
use Rattle.std.proofs.Common.{◌≡◌, ℕ, List, [], ◌∷◌, ◌++◌, sym, ap, ◌∙◌, append_assoc, append-nil}
use Rattle.std.specs.List.{flat_map}
use Rattle.std.proofs.lemmas.List.{map-append}
use Rattle.std.proofs.lemmas.List.Concat.{flat_map-cons}
use Rattle.omf_format.specs.Record.{Record}
use Rattle.omf_format.specs.Reading.{Reader}
use Rattle.omf_format.specs.File.{body_reader}
use Rattle.omf_header.specs.View.{fields}
use Rattle.omf_records.specs.declared.segment.SegmentView.{SegmentView}
use Rattle.link_meaning.specs.Uses.{Use}
use Rattle.link_tables.specs.Coming.{Coming}
use Rattle.link_tables.specs.Uses.{at_place}

at_place-append : (place : ℕ) (us vs : List Use) → at_place place (us ++ vs) ≡ at_place place us ++ at_place place vs
at_place-append place us vs = map-append (λ (u : Use). (place, u)) us vs

-- one item more of those that give uses
pub gave_more : {A : Type 0} → (f : A → List Use) (place : ℕ) (whole old new : List (ℕ × Use)) (x : A) (xs all : List A) → old ++ at_place place (flat_map f all) ≡ whole → all ≡ x ∷ xs → new ≡ old ++ at_place place (f x)
    → new ++ at_place place (flat_map f xs) ≡ whole
gave_more f place whole old new x xs all e parts is =
    ap (λ (l : List (ℕ × Use)). l ++ at_place place (flat_map f xs)) is
    ∙ append_assoc old (at_place place (f x)) (at_place place (flat_map f xs))
    ∙ ap (λ (l : List (ℕ × Use)). old ++ l) (sym (at_place-append place (f x) (flat_map f xs)))
    ∙ ap (λ (l : List Use). old ++ at_place place l) (sym (flat_map-cons f x xs))
    ∙ ap (λ (l : List _). old ++ at_place place (flat_map f l)) (sym parts)
    ∙ e

pub gave_all : {A : Type 0} → (f : A → List Use) (place : ℕ) (whole old : List (ℕ × Use)) (all : List A) → old ++ at_place place (flat_map f all) ≡ whole → all ≡ [] → old ≡ whole
gave_all f place whole old all e none = sym (append-nil old) ∙ sym (ap (λ (l : List _). old ++ at_place place (flat_map f l)) none) ∙ e

-- the records so far gave their uses
pub record Using (f : ℕ × Record → List Use) (place lab_len : ℕ) (whole : List (ℕ × Use)) (at : Reader) (so_far : List (ℕ × Use)) : Type 0 where
  pub back : List (ℕ × Record)
  pub coming : Coming at back
  pub parts : so_far ++ at_place place (flat_map f back) ≡ whole
  pub layout : at.layout.lab_len ≡ lab_len

pub body_lab_len : (v : SegmentView) (r : Reader) → r ≡ body_reader v.start (fields v.header) v.file.now → r.layout.lab_len ≡ v.header.lab_len
unfolding body_reader
body_lab_len v r is = ap (λ (x : Reader). x.layout.lab_len) is
