use Rattle.std.proofs.Common.{◌-◌, ◌++◌, List, ℕ, take, length, ap, ◌∙◌, arith}
use Rattle.std.proofs.lemmas.Result.{on_ok_weaker}
use Rattle.list_lines.proofs.PartLaws.{put_cut}
use Rattle.list_lines.proofs.formula.append_capped.Goals as goal

pub returns : goal.returns
returns c =
    let room = put_cut 256 c.args.text.now c.args.bytes.now (256 - c.min-left.result) (omega (arith, c.min-left.ensures, ap length c.bytes.ensures)) in
    on_ok_weaker c.put.result (λ e. ap (take 256) (e ∙ ap (λ (l : List ℕ). c.args.text.now ++ l) c.first_bytes.ensures) ∙ room) c.put.ensures.ok
