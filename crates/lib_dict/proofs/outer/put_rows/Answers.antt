use Rattle.std.proofs.Common.{◌≡◌, ℕ, ◌+◌, ◌++◌, ◌∷◌, [], List, false, length, eqb, map, Vec, Global, sym, ap, ◌∙◌, append_assoc, arith}
use Rattle.std.proofs.lemmas.Bool.{eqb-true}
use Rattle.std.proofs.lemmas.List.{map-append}
use Rattle.omf_format.specs.Reading.{Reader, records_of}
use Rattle.omf_header.specs.View.{fields}
use Rattle.omf_records.specs.Segments.{segment_of_view}
use Rattle.lib_dict.specs.declared.listed.Outer.{Outer}
use Rattle.lib_dict.specs.Library.{LibraryRow}
use Rattle.lib_dict.specs.View.{outer_row, row_of_name, record_rows}
use Rattle.lib_dict.proofs.Outers.{put_untitled, put_titled, on_ok, lab_len-reader}
use Rattle.lib_dict.proofs.outer.put_rows.Goals.{then-not-is_empty+in_ok-push, else-not-is_empty}
use Rattle.lib_dict.proofs.outer.put_rows.Goals as goal

pub put_records-requires-clause-narrow : goal.put_records-requires-clause-narrow
put_records-requires-clause-narrow c =
    let v = c.args.view.now in
    omega (arith, ap (λ (r : Reader). r.layout.lab_len) c.records.ensures, lab_len-reader v.start (fields v.header) v.file.now)

pub returns : goal.returns
returns c =
    let s = segment_of_view c.args.view.now in
    let old = map outer_row c.args.rows.now.items in
    let founds = records_of c.records.result in
    let body : founds ≡ s.records = ap records_of c.records.ensures in
    let at = c.args.front + c.from.result in
    let place : at ≡ c.args.front + c.args.view.now.start = omega arith in
    let name : c.bytes-title.result.now ≡ s.fields.name = c.bytes-title.ensures.value in
    let own = record_rows c.args.file at founds in
    elim c.if-not-is_empty.branch [
      | then-not-is_empty+in_ok-push w ↦
          let row = row_of_name c.args.file at (c.bytes-title.result.now, w.is_private.result) in
          let some : length s.fields.name ≡ 0 → ⊥ = λ e. absurd (not_empty (length c.bytes-title.result.now) w.if-not-is_empty.ensures (ap length name ∙ e)) in
          on_ok c.put_records.result c.put_records.ensures (λ e.
          e
          ∙ ap (λ (v : Vec Outer Global). map outer_row v.items ++ own) w.rows-is
          ∙ ap (λ (l : List Outer). map outer_row l ++ own) w.in_ok-push.ensures.items
          ∙ ap (λ (l : List LibraryRow). l ++ own) (map-append outer_row c.args.rows.now.items _)
          ∙ append_assoc old (row ∷ []) own
          ∙ ap (λ (l : List LibraryRow). old ++ l) (put_titled c.args.file c.args.front at s founds c.bytes-title.result.now w.is_private.result some place body name w.is_private.ensures))
      | else-not-is_empty w ↦
          let none : length s.fields.name ≡ 0 = sym (ap length name) ∙ eqb-true (length c.bytes-title.result.now) 0 (sym w.if-not-is_empty.ensures) in
          on_ok c.put_records.result c.put_records.ensures (λ e.
          e
          ∙ ap (λ (v : Vec Outer Global). map outer_row v.items ++ own) w.rows-is
          ∙ ap (λ (l : List LibraryRow). old ++ l) (put_untitled c.args.file c.args.front at s founds none place body))
    ]
  where
    not_empty : (n : ℕ) → false ≡ eqb n 0 → n ≡ 0 → ⊥
    not_empty n e z = cc (ap (λ (m : ℕ). eqb m 0) z)
