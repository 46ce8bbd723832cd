use Rattle.std.proofs.Common.{◌≡◌, ◌≤◌, List, Some, None, length, refl, sym, ap, subst, ◌∙◌, arith}
use Rattle.std.specs.Prelude.{slice_get, option_map}
use Rattle.std.proofs.lemmas.Bool.{ltb-false}
use Rattle.std.proofs.lemmas.Option.{slice_get_read, slice_get_past}
use Rattle.lib_dict.specs.declared.member.Member as held
use Rattle.link_meaning.specs.Member.{RuntimeFile, LinkSetting, Member, setting_in}
use Rattle.link_program.proofs.ProgramLaws.{path_at}
use Rattle.link_program.proofs.program.Program.runtime_path.Goals as goal

pub returns-then-place-len : goal.returns-then-place-len
returns-then-place-len c =
    let kept = c.self.inside.kept in
    let given = kept.given.now in
    let k = c.args.place in
    let none : slice_get given k ≡ None = slice_get_past given k (omega (arith, c.if-place-len.true, c.len.ensures, c.self.invariant.read)) in
    subst (λ (l : List Member). None ≡ option_map (λ (r : RuntimeFile). r.path) (slice_get (setting_in l).runtimes k)) c.self.view_is
    (sym (ap (option_map (λ (m : held.Member). m.name)) none) ∙ sym (path_at kept.runtimes.items given k c.self.invariant.read)
    ∙ ap (λ (s : LinkSetting). option_map (λ (r : RuntimeFile). r.path) (slice_get s.runtimes k)) c.self.invariant.setting)

pub returns-in-Some : goal.returns-in-Some
returns-in-Some c =
    let kept = c.self.inside.kept in
    let given = kept.given.now in
    let member = c.in-Some.member.now in
    let k = c.args.place in
    let there : slice_get given k ≡ Some member = slice_get_read given (length given) k member refl c.in-Some.ensures.lookup.3.0 c.in-Some.ensures.lookup.1 in
    subst (λ (l : List Member). Some member.name ≡ option_map (λ (r : RuntimeFile). r.path) (slice_get (setting_in l).runtimes k)) c.self.view_is
    (sym (ap (option_map (λ (m : held.Member). m.name)) there) ∙ sym (path_at kept.runtimes.items given k c.self.invariant.read)
    ∙ ap (λ (s : LinkSetting). option_map (λ (r : RuntimeFile). r.path) (slice_get s.runtimes k)) c.self.invariant.setting)

pub returns-in-None : goal.returns-in-None
returns-in-None c =
    let kept = c.self.inside.kept in
    let given = kept.given.now in
    let k = c.args.place in
    let past : length given ≤ k = ltb-false k (length given) (sym c.in-None.ensures.lookup.0) in
    let none : slice_get given k ≡ None = slice_get_past given k past in
    subst (λ (l : List Member). None ≡ option_map (λ (r : RuntimeFile). r.path) (slice_get (setting_in l).runtimes k)) c.self.view_is
    (sym (ap (option_map (λ (m : held.Member). m.name)) none) ∙ sym (path_at kept.runtimes.items given k c.self.invariant.read)
    ∙ ap (λ (s : LinkSetting). option_map (λ (r : RuntimeFile). r.path) (slice_get s.runtimes k)) c.self.invariant.setting)
