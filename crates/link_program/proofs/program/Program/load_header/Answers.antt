use Rattle.std.proofs.Common.{◌≡◌, ◌-◌, ◌<◌, ◌≤◌, List, Some, None, length, get_or, refl, sym, ap, subst, ◌∙◌, arith}
use Rattle.std.specs.Prelude.{slice_get}
use Rattle.std.proofs.lemmas.Bool.{ltb-false}
use Rattle.std.proofs.lemmas.Option.{slice_get_read, slice_get_past}
use Rattle.omf_header.specs.declared.header.Header.{Header}
use Rattle.omf_header.specs.View.{fields}
use Rattle.link_meaning.specs.Member.{Member}
use Rattle.link_meaning.specs.Layout.{load_headers}
use Rattle.link_program.specs.Programs.{list_of, header_at}
use Rattle.link_program.proofs.ProgramLaws.{header_found, header_none}
use Rattle.link_program.proofs.program.Program.load_header.Goals as goal

pub returns-in-Some : goal.returns-in-Some
returns-in-Some c =
    let h = c.in-Some.header.now in
    let items = c.self.inside.kept.headers.items in
    let k = c.args.segment - 1 in
    let lt : k < length items = omega (arith, c.in-Some.ensures.lookup.3.0, ap (λ (l : List Header). length l) c.deref.ensures.value) in
    let item : h ≡ get_or items k h = c.in-Some.ensures.lookup.1 ∙ ap (λ (l : List Header). get_or l k h) c.deref.ensures.value in
    let is = header_found items (load_headers (list_of c.self.inside.kept)) c.args.segment h c.self.invariant.headers c.if-segment-eq0.false (slice_get_read items (length items) k h refl lt item) in
    subst (λ (l : List Member). Some (fields h) ≡ header_at (load_headers l) c.args.segment) c.self.view_is is

pub returns-in-None : goal.returns-in-None
returns-in-None c =
    let items = c.self.inside.kept.headers.items in
    let k = c.args.segment - 1 in
    let past : length c.deref.result.now ≤ k = ltb-false k (length c.deref.result.now) (sym c.in-None.ensures.lookup.0) in
    let none : slice_get items k ≡ None = slice_get_past items k (omega (arith, past, ap (λ (l : List Header). length l) c.deref.ensures.value)) in
    let is = header_none items (load_headers (list_of c.self.inside.kept)) c.args.segment c.self.invariant.headers c.if-segment-eq0.false none in
    subst (λ (l : List Member). None ≡ header_at (load_headers l) c.args.segment) c.self.view_is is
