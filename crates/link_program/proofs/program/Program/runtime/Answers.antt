use Rattle.std.proofs.Common.{◌≡◌, ◌<◌, ◌≤◌, List, Some, None, length, get_or, refl, sym, ap, subst, ◌∙◌, arith}
use Rattle.std.specs.Prelude.{slice_get, option_map}
use Rattle.std.proofs.lemmas.Bool.{ltb-false}
use Rattle.std.proofs.lemmas.Option.{slice_get_read, slice_get_past}
use Rattle.omf_format.specs.File.{Segment}
use Rattle.link_meaning.specs.Member.{RuntimeFile, LinkSetting, Member, setting_in}
use Rattle.link_program.proofs.ProgramLaws.{segments_at}
use Rattle.link_program.proofs.program.Program.runtime.Goals as goal

pub returns-in-Some : goal.returns-in-Some
returns-in-Some c =
    let kept = c.self.inside.kept in
    let load = c.in-Some.load.now in
    let items = kept.runtimes.items in
    let k = c.args.place in
    let lt : k < length items = omega (arith, c.in-Some.ensures.lookup.3.0, ap (λ (l : List (List Segment)). length l) c.deref.ensures.value) in
    let item : load ≡ get_or items k load = c.in-Some.ensures.lookup.1 ∙ ap (λ (l : List (List Segment)). get_or l k load) c.deref.ensures.value in
    subst (λ (l : List Member). Some load ≡ option_map (λ (r : RuntimeFile). r.segments) (slice_get (setting_in l).runtimes k)) c.self.view_is
    (sym (slice_get_read items (length items) k load refl lt item) ∙ sym (segments_at items kept.given.now k c.self.invariant.read)
    ∙ ap (λ (s : LinkSetting). option_map (λ (r : RuntimeFile). r.segments) (slice_get s.runtimes k)) c.self.invariant.setting)

pub returns-in-None : goal.returns-in-None
returns-in-None c =
    let kept = c.self.inside.kept in
    let items = kept.runtimes.items in
    let k = c.args.place in
    let past : length c.deref.result.now ≤ k = ltb-false k (length c.deref.result.now) (sym c.in-None.ensures.lookup.0) in
    let none : slice_get items k ≡ None = slice_get_past items k (omega (arith, past, ap (λ (l : List (List Segment)). length l) c.deref.ensures.value)) in
    subst (λ (l : List Member). None ≡ option_map (λ (r : RuntimeFile). r.segments) (slice_get (setting_in l).runtimes k)) c.self.view_is
    (sym none ∙ sym (segments_at items kept.given.now k c.self.invariant.read)
    ∙ ap (λ (s : LinkSetting). option_map (λ (r : RuntimeFile). r.segments) (slice_get s.runtimes k)) c.self.invariant.setting)
