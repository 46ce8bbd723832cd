use Rattle.std.proofs.Common.{◌+◌, ◌++◌, ◌∷◌, [], List, length, ap, subst, ◌∙◌, arith}
use Rattle.std.proofs.lemmas.Result.{err_from_is_err_and}
use Rattle.omf_format.specs.File.{Segment}
use Rattle.omf_format.specs.laws.FileLaws.{segments_fit}
use Rattle.link_resolve.specs.declared.gather.Gathered.{Gathered}
use Rattle.link_resolve.specs.Reading.{IsFileRefused}
use Rattle.link_resolve.proofs.GatherLaws.{gathered_more}
use Rattle.link_resolve.proofs.gather.Gathered.add.Goals.{in-Ok, in-Err}
use Rattle.link_resolve.proofs.gather.Gathered.add.Goals as goal

pub add_segments-requires-clause-few : goal.add_segments-requires-clause-few
add_segments-requires-clause-few c = omega (arith, segments_fit c.in_ok-list.list 0 c.args.bytes.now (length c.args.bytes.now) c.in_ok-list.ensures.is_file, c.requires.short)

pub add_segments-requires-clause-read : goal.add_segments-requires-clause-read
add_segments-requires-clause-read c =
    (c.args.bytes.now, record { is_file = c.in_ok-list.ensures.is_file; bytes = λ i. (c.type_inv.bytes i).fits; short = omega (arith, c.requires.short) })

pub returns-in_err-add_segments-clause-refused : goal.returns-in_err-add_segments-clause-refused
returns-in_err-add_segments-clause-refused c =
    let p = err_from_is_err_and c.from_residual-in_err-add_segments.result c.from_residual-in_err-add_segments.ensures.1 in
    let from = c.in_err-add_segments.ensures.refused c.args.bytes.now (record { is_file = c.in_ok-list.ensures.is_file; bytes = λ i. (c.type_inv.bytes i).fits; short = omega (arith, c.requires.short) }) in
    rw (p.1, p.2) (subst (λ (l : List (List Segment)). IsFileRefused (length l + 1) c.args.bytes.now c.in_err-add_segments.field-0.0) c.as_slice.ensures.value from)

pub returns-clause-added : goal.returns-clause-added
returns-clause-added c = elim c.match-push.branch [
  | in-Ok w ↦ rw w.result-is (λ inputs g.
      let old = c.args.self.now in
      let mid = c.add_segments.new.self in
      let new : Gathered = record { files = c.push.new.self; linked = mid.linked; offers = mid.offers } in
      let a = c.in_ok-add_segments.ensures.added c.args.bytes.now (record { is_file = c.in_ok-list.ensures.is_file; bytes = λ i. (c.type_inv.bytes i).fits; short = omega (arith, c.requires.short) }) in
      let list = c.in_ok-list.list in
      let file = length c.as_slice.result.now + 1 in
      let number = ap (λ (l : List (List Segment)). length l + 1) c.as_slice.ensures.value in
      let files = w.in-Ok.ensures.items ∙ ap (λ v. v.items ++ list ∷ []) c.in_ok-add_segments.ensures.files in
      (a.0, a.1, a.4, gathered_more inputs a.0 old new file list g number a.5 a.3 a.2 files))
  | in-Err w ↦ rw w.result-is tt
]
