use Rattle.std.proofs.Common.{◌≡◌, List, ap, subst}
use Rattle.link_meaning.specs.Member.{LinkSetting, Member, form_in}
use Rattle.link_program.proofs.program.Program.form.Goals as goal

pub returns : goal.returns
returns c = subst (λ (l : List Member). c.self.inside.kept.form ≡ form_in l) c.self.view_is (ap (λ (s : LinkSetting). s.form) c.self.invariant.setting)
