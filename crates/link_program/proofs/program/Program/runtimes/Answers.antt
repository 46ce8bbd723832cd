use Rattle.std.proofs.Common.{◌≡◌, List, length, sym, ap, subst, ◌∙◌, arith}
use Rattle.link_meaning.specs.Member.{LinkSetting, Member, setting_in}
use Rattle.link_program.proofs.ProgramLaws.{runtimes_count}
use Rattle.link_program.proofs.program.Program.runtimes.Goals as goal

pub overflow_cast-result : goal.overflow_cast-result
overflow_cast-result c = omega (arith, c.len.ensures, c.self.invariant.read, c.self.invariant.few_runtimes)

pub returns : goal.returns
returns c =
    let kept = c.self.inside.kept in
    let size : c.len.result ≡ length kept.runtimes.items = omega (arith, c.len.ensures) in
    subst (λ (l : List Member). c.len.result ≡ length (setting_in l).runtimes) c.self.view_is
    (size ∙ sym (runtimes_count kept.runtimes.items kept.given.now c.self.invariant.read) ∙ ap (λ (s : LinkSetting). length s.runtimes) c.self.invariant.setting)
