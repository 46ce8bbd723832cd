use Rattle.std.proofs.Common.{◌≡◌, ℕ, ◌-◌, true, false, sym, ap, ◌∙◌, arith}
use Rattle.std.proofs.lemmas.Bool.{eq-eqb, ne_eqb}
use Rattle.omf_format.specs.Header.{HeaderFields, form_of}
use Rattle.omf_header.specs.View.{fields}
use Rattle.omf_cells.specs.Whole.{front_at}
use Rattle.omf_compact.specs.Canonical.{plain_of, is_pathname}
use Rattle.omf_compact.proofs.ContentLaws.{kind_is, path_zeros, front_long, zeros_are}
use Rattle.omf_compact.proofs.content.put_content.Goals as goal

pub returns-then-form-eq-PATHNAMES-clause-ok : goal.returns-then-form-eq-PATHNAMES-clause-ok
returns-then-form-eq-PATHNAMES-clause-ok c = λ s at.
    let f = fields c.args.header.now in
    let path : is_pathname (plain_of s) ≡ true = kind_is s f (c.requires.header s at) ∙ eq-eqb (form_of f.kind) 4 (sym c.form.ensures ∙ c.if-form-eq-PATHNAMES.true) in
    c.in_ok-put_pathnames.ensures.ok s at path

pub returns-then-form-eq-PATHNAMES-clause-zeros : goal.returns-then-form-eq-PATHNAMES-clause-zeros
returns-then-form-eq-PATHNAMES-clause-zeros c = λ s at.
    let f = fields c.args.header.now in
    let path : is_pathname (plain_of s) ≡ true = kind_is s f (c.requires.header s at) ∙ eq-eqb (form_of f.kind) 4 (sym c.form.ensures ∙ c.if-form-eq-PATHNAMES.true) in
    path_zeros c.args.load.now f.seg_num s c.requires.known at path

pub returns-then-size-gt-MOST_DATA-clause-too_long : goal.returns-then-size-gt-MOST_DATA-clause-too_long
returns-then-size-gt-MOST_DATA-clause-too_long c = λ e s at.
    let f = fields c.args.header.now in
    let other : is_pathname (plain_of s) ≡ false = kind_is s f (c.requires.header s at) ∙ ne_eqb (form_of f.kind) 4 (λ same. c.if-form-eq-PATHNAMES.false (c.form.ensures ∙ same)) in
    let size : c.front-size.result ≡ front_at c.args.load.now f.seg_num = c.front-size.ensures ∙ ap (front_at c.args.load.now) c.from.ensures in
    front_long c.args.load.now f.seg_num s c.requires.known at (c.requires.whole s at).whole (omega (arith, size, c.if-size-gt-MOST_DATA.true)) other

pub returns-clause-ok : goal.returns-clause-ok
returns-clause-ok c = λ s at.
    let f = fields c.args.header.now in
    let other : is_pathname (plain_of s) ≡ false = kind_is s f (c.requires.header s at) ∙ ne_eqb (form_of f.kind) 4 (λ same. c.if-form-eq-PATHNAMES.false (c.form.ensures ∙ same)) in
    c.in_ok-put_plain.ensures.ok s at other

pub returns-clause-zeros : goal.returns-clause-zeros
returns-clause-zeros c = λ s at.
    let f = fields c.args.header.now in
    let other : is_pathname (plain_of s) ≡ false = kind_is s f (c.requires.header s at) ∙ ne_eqb (form_of f.kind) 4 (λ same. c.if-form-eq-PATHNAMES.false (c.form.ensures ∙ same)) in
    let size : c.front-size.result ≡ front_at c.args.load.now f.seg_num = c.front-size.ensures ∙ ap (front_at c.args.load.now) c.from.ensures in
    let long : f.length ≡ s.fields.length = sym (ap (λ (g : HeaderFields). g.length) (c.requires.header s at)) in
    zeros_are c.args.load.now f.seg_num s c.requires.known at (c.requires.whole s at).whole c.front-size.result c.saturating_sub.result size
    (c.saturating_sub.ensures ∙ ap (λ (n : ℕ). n - c.front-size.result) long) other
