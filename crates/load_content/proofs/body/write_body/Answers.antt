use Rattle.std.proofs.Common.{◌≡◌, ℕ, ◌-◌, ◌++◌, List, length, replicate, ap, ◌∙◌, arith}
use Rattle.load_content.specs.Walk.{content}
use Rattle.load_content.proofs.body.write_body.Goals as goal

pub returns : goal.returns
returns c =
    let bytes = content c.args.records in
    let rest : length c.write_records-at.new.out - c.write_records-at.result ≡ length c.args.out.now - length bytes = omega (arith, c.write_records-at.ensures.size, c.write_records-at.ensures.same) in
    c.fill_from.ensures
    ∙ ap (λ (l : List ℕ). l ++ replicate (length c.write_records-at.new.out - c.write_records-at.result) 0) c.write_records-at.ensures.written
    ∙ ap (λ (n : ℕ). bytes ++ replicate n 0) rest
