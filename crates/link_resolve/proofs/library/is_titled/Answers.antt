use Rattle.std.proofs.Common.{◌≡◌, Bool, true, false, not, length, sym, ap, ◌∙◌, arith}
use Rattle.std.specs.Prelude.{if◌then◌else◌}
use Rattle.std.specs.Str.{bytes_eq}
use Rattle.omf_format.specs.Header.{is_private}
use Rattle.omf_records.specs.Segments.{segment_of_view}
use Rattle.link_tables.proofs.Lists.{empty, not_empty}
use Rattle.link_resolve.proofs.LibraryLaws.{other_form, no_title, other_title, same_title, not_true, not_false}
use Rattle.link_resolve.proofs.library.is_titled.Goals as goal

pub returns-then-form-ne1 : goal.returns-then-form-ne1
returns-then-form-ne1 c = other_form (segment_of_view c.args.segment.now) c.args.name.now c.args.private c.form.result c.form.ensures c.if-form-ne1.true

pub returns-then-is_empty : goal.returns-then-is_empty
returns-then-is_empty c =
    let none : length c.bytes-title.result.now ≡ 0 = grind (arith, c.is_empty.ensures, c.if-is_empty.true) in
    no_title (segment_of_view c.args.segment.now) c.args.name.now c.args.private c.form.result c.bytes-title.result.now c.form.ensures c.if-form-ne1.false c.bytes-title.ensures.value (empty c.bytes-title.result.now none)

pub returns-then-ne : goal.returns-then-ne
returns-then-ne c =
    let some : length c.bytes-title.result.now ≡ 0 → ⊥ = λ e. grind (arith, e, c.is_empty.ensures, c.if-is_empty.false) in
    let other : bytes_eq c.args.name.now c.bytes-title.result.now ≡ false = not_true (bytes_eq c.args.name.now c.bytes-title.result.now) (sym c.ne.ensures ∙ c.if-ne.true) in
    other_title (segment_of_view c.args.segment.now) c.args.name.now c.args.private c.form.result c.bytes-title.result.now c.form.ensures c.if-form-ne1.false c.bytes-title.ensures.value (not_empty c.bytes-title.result.now some) other

pub returns-then-private : goal.returns-then-private
returns-then-private c =
    let some : length c.bytes-title.result.now ≡ 0 → ⊥ = λ e. grind (arith, e, c.is_empty.ensures, c.if-is_empty.false) in
    let same : bytes_eq c.args.name.now c.bytes-title.result.now ≡ true = not_false (bytes_eq c.args.name.now c.bytes-title.result.now) (sym c.ne.ensures ∙ c.if-ne.false) in
    let kind = is_private c.args.segment.now.header.kind.bits in
    same_title (segment_of_view c.args.segment.now) c.args.name.now c.args.private c.is_private.result c.form.result c.bytes-title.result.now c.form.ensures c.if-form-ne1.false c.bytes-title.ensures.value (not_empty c.bytes-title.result.now some) same
    (c.is_private.ensures ∙ sym (ap (λ (b : Bool). if b then kind else not kind) c.if-private.true))

pub returns-else-private : goal.returns-else-private
returns-else-private c =
    let some : length c.bytes-title.result.now ≡ 0 → ⊥ = λ e. grind (arith, e, c.is_empty.ensures, c.if-is_empty.false) in
    let same : bytes_eq c.args.name.now c.bytes-title.result.now ≡ true = not_false (bytes_eq c.args.name.now c.bytes-title.result.now) (sym c.ne.ensures ∙ c.if-ne.false) in
    let kind = is_private c.args.segment.now.header.kind.bits in
    same_title (segment_of_view c.args.segment.now) c.args.name.now c.args.private (not c.is_private-else-private.result) c.form.result c.bytes-title.result.now c.form.ensures c.if-form-ne1.false c.bytes-title.ensures.value (not_empty c.bytes-title.result.now some) same
    (ap not c.is_private-else-private.ensures ∙ sym (ap (λ (b : Bool). if b then kind else not kind) c.if-private.false))
