use Rattle.std.proofs.Common.{◌≡◌, ℕ, ◌-◌, ◌<◌, length, get_or, refl, sym, ap, ◌∙◌, arith}
use Rattle.std.specs.Prelude.{slice_get}
use Rattle.std.proofs.lemmas.Option.{slice_get_read, slice_get_within}
use Rattle.link_tables.specs.declared.definitions.Origin.{Origin}
use Rattle.link_tables.specs.declared.layout.LoadOffset.{LoadOffset}
use Rattle.link_program.specs.declared.program.ResolvedProgram.{ResolvedProgram}
use Rattle.link_program.specs.Programs.{list_of, StandsAt, IsKept}
use Rattle.link_program.proofs.ProgramLaws.{IsReported, reported_at, linked_reported}
use Rattle.link_program.proofs.program.Program.member.Goals as goal

stands : (kept : ResolvedProgram) (place : ℕ) (origin : Origin) (p : LoadOffset) (reported : IsReported (list_of kept) place origin) → IsKept (list_of kept) kept → p ≡ get_or kept.places.items (place - 1) p → StandsAt (list_of kept) reported.k reported.member p
stands kept place origin p reported is read =
    let within = slice_get_within (list_of kept) reported.k reported.member reported.at in
    let less : place - 1 < length kept.places.items = omega (arith, within, reported.place', is.count) in
    let same : place - 1 ≡ reported.k = omega (arith, reported.place') in
    is.places reported.k reported.member p reported.at (ap (slice_get kept.places.items) (sym same) ∙ slice_get_read kept.places.items (length kept.places.items) (place - 1) p refl less read)

pub overflow_add-result : goal.overflow_add-result
overflow_add-result c =
    let kept = c.self.inside.kept in
    let reported = reported_at (list_of kept) c.args.place c.origin.result c.in-Some.origin (c.origin.ensures (list_of kept) c.self.invariant.holds) c.in-Some.is in
    omega (arith, (stands kept c.args.place c.in-Some.origin c.index-stands.result.now reported c.self.invariant c.index-stands.ensures).few)

pub overflow_cast-result : goal.overflow_cast-result
overflow_cast-result c =
    let kept = c.self.inside.kept in
    let reported = reported_at (list_of kept) c.args.place c.origin.result c.in-Some.origin (c.origin.ensures (list_of kept) c.self.invariant.holds) c.in-Some.is in
    omega (arith, (stands kept c.args.place c.in-Some.origin c.index-stands.result.now reported c.self.invariant c.index-stands.ensures).few)

pub overflow_cast-result-2 : goal.overflow_cast-result-2
overflow_cast-result-2 c =
    let kept = c.self.inside.kept in
    let reported = reported_at (list_of kept) c.args.place c.origin.result c.in-Some.origin (c.origin.ensures (list_of kept) c.self.invariant.holds) c.in-Some.is in
    omega (arith, (stands kept c.args.place c.in-Some.origin c.index-stands.result.now reported c.self.invariant c.index-stands.ensures).small)

pub returns : goal.returns
returns c =
    let kept = c.self.inside.kept in
    let reported = reported_at (list_of kept) c.args.place c.origin.result c.in-Some.origin (c.origin.ensures (list_of kept) c.self.invariant.holds) c.in-Some.is in
    let at = stands kept c.args.place c.in-Some.origin c.index-stands.result.now reported c.self.invariant c.index-stands.ensures in
    rw (← c.self.view_is) (linked_reported (list_of kept) c.args.place c.in-Some.origin reported c.index-stands.result.now at)
