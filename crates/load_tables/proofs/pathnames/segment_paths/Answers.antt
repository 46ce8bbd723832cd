use Rattle.std.proofs.Common.{◌≡◌, List, ℕ, Some, None, Option, length, sym, subst, ◌∙◌}
use Rattle.std.specs.Prelude.{OnOk, IfOk, IfErr}
use Rattle.std.proofs.lemmas.Bool.{eq-eqb, ne_eqb}
use Rattle.omf_format.specs.Header.{is_dynamic, is_skipped}
use Rattle.load_meaning.specs.Pathnames.{most_paths}
use Rattle.omf_records.specs.Segments.{segment_of_view}
use Rattle.load_tables.specs.View.{seen_paths}
use Rattle.load_tables.specs.Paths.{rows_in, IsFlaw}
use Rattle.load_tables.proofs.PathSegments.{shown_lone, lone_segment, not_lone, is_lone, either_left, either_right, neither_kind, flaw_second, flaw_kind, flaw_body, flaw_rows}
use Rattle.load_tables.proofs.pathnames.segment_paths.Goals.{then-second-via-then-second, then-second-via-else-second+then-is_dynamic, then-second-via-else-second+else-is_dynamic+then-is_skip}
use Rattle.load_tables.proofs.pathnames.segment_paths.Goals as goal

pub returns-then-second-clause-flaw : goal.returns-then-second-clause-flaw
returns-then-second-clause-flaw c =
    let s = segment_of_view c.args.view.now in
    elim c.then-second.branch [
      | then-second-via-then-second w ↦ flaw_second s c.args.second w.if-second.true
      | then-second-via-else-second+then-is_dynamic w ↦
          flaw_kind s c.args.second w.if-second.false (either_left (is_dynamic s.fields.kind) (is_skipped s.fields.kind) (sym w.is_dynamic.ensures ∙ w.if-is_dynamic.true))
      | then-second-via-else-second+else-is_dynamic+then-is_skip w ↦
          flaw_kind s c.args.second w.if-second.false (either_right (is_dynamic s.fields.kind) (is_skipped s.fields.kind) (sym w.is_skip.ensures ∙ w.if-is_skip.true))
    ]

pub returns-then-bytes-view-clause-flaw : goal.returns-then-bytes-view-clause-flaw
returns-then-bytes-view-clause-flaw c =
    let v = c.args.view.now in
    let s = segment_of_view v in
    let bytes = c.in-Some.bytes.now in
    let kind = neither_kind (is_dynamic s.fields.kind) (is_skipped s.fields.kind) (sym c.is_dynamic.ensures ∙ c.if-is_dynamic.false) (sym c.is_skip.ensures ∙ c.if-is_skip.false) in
    let lone = shown_lone v c.records.result (Some bytes) c.records.ensures c.in-Some.ensures in
    flaw_body s c.args.second c.if-second.false kind (is_lone s.fields.length s.records bytes lone ∙ ne_eqb (length bytes) s.fields.length c.if-bytes-view.true)

pub returns-else-bytes-view-clause-sound : goal.returns-else-bytes-view-clause-sound
returns-else-bytes-view-clause-sound c =
    let v = c.args.view.now in
    let s = segment_of_view v in
    let bytes = c.in-Some.bytes.now in
    let kind = neither_kind (is_dynamic s.fields.kind) (is_skipped s.fields.kind) (sym c.is_dynamic.ensures ∙ c.if-is_dynamic.false) (sym c.is_skip.ensures ∙ c.if-is_skip.false) in
    let lone = shown_lone v c.records.result (Some bytes) c.records.ensures c.in-Some.ensures in
    let same = flaw_rows s c.args.second bytes c.if-second.false kind (is_lone s.fields.length s.records bytes lone ∙ eq-eqb (length bytes) s.fields.length c.if-bytes-view.false)
    (lone_segment s bytes c.requires.sized lone c.if-bytes-view.false) in
    subst (λ (o : Option ℕ). OnOk c.paths_in.result (o ≡ None)) (sym same) c.paths_in.ensures.sound

pub returns-else-bytes-view-clause-paths : goal.returns-else-bytes-view-clause-paths
returns-else-bytes-view-clause-paths c =
    let v = c.args.view.now in
    let s = segment_of_view v in
    let bytes = c.in-Some.bytes.now in
    let lone = shown_lone v c.records.result (Some bytes) c.records.ensures c.in-Some.ensures in
    subst (λ (l : List ℕ). IfOk c.paths_in.result (λ paths. seen_paths paths.items ≡ rows_in most_paths l)) (sym (lone_segment s bytes c.requires.sized lone c.if-bytes-view.false)) c.paths_in.ensures.paths

pub returns-else-bytes-view-clause-flaw : goal.returns-else-bytes-view-clause-flaw
returns-else-bytes-view-clause-flaw c =
    let v = c.args.view.now in
    let s = segment_of_view v in
    let bytes = c.in-Some.bytes.now in
    let kind = neither_kind (is_dynamic s.fields.kind) (is_skipped s.fields.kind) (sym c.is_dynamic.ensures ∙ c.if-is_dynamic.false) (sym c.is_skip.ensures ∙ c.if-is_skip.false) in
    let lone = shown_lone v c.records.result (Some bytes) c.records.ensures c.in-Some.ensures in
    let same = flaw_rows s c.args.second bytes c.if-second.false kind (is_lone s.fields.length s.records bytes lone ∙ eq-eqb (length bytes) s.fields.length c.if-bytes-view.false)
    (lone_segment s bytes c.requires.sized lone c.if-bytes-view.false) in
    subst (λ (o : Option ℕ). IfErr c.paths_in.result (λ fault. IsFlaw fault o)) (sym same) c.paths_in.ensures.flaw

pub returns-in-None-clause-flaw : goal.returns-in-None-clause-flaw
returns-in-None-clause-flaw c =
    let v = c.args.view.now in
    let s = segment_of_view v in
    let kind = neither_kind (is_dynamic s.fields.kind) (is_skipped s.fields.kind) (sym c.is_dynamic.ensures ∙ c.if-is_dynamic.false) (sym c.is_skip.ensures ∙ c.if-is_skip.false) in
    flaw_body s c.args.second c.if-second.false kind (not_lone s.fields.length s.records (shown_lone v c.records.result None c.records.ensures c.in-None.ensures))
