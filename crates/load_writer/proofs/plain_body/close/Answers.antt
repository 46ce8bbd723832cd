use Rattle.std.proofs.Common.{◌≡◌, ◌+◌, ◌≤◌, ℕ, List, length, take, drop, ap, subst, ◌∙◌, arith}
use Rattle.std.proofs.lemmas.List.{length-take}
use Rattle.load_writer.proofs.PlainLaws.{one_long, in_content, put_over_all}
use Rattle.load_writer.proofs.plain_body.close.Goals as goal

pub returns-clause-text : goal.returns-clause-text
returns-clause-text c = λ front content is here.
    let size = c.kept_from-size.result in
    let start = c.args.start in
    let old = c.args.out.now.items in
    let mid = c.truncate-2.new.self.items in
    let within : size ≤ length (drop (start + 5) old) = subst (λ (l : List ℕ). size ≤ length (drop (start + 5) l)) c.as_slice.ensures.value c.kept_from-size.ensures.within in
    let room : start + 5 ≤ length mid = omega (arith, ap length c.truncate-2.ensures.items, length-take (start + 5 + size) old, c.requires.room) in
    let whole : c.truncate-2.new.self.len ≡ length mid = omega (arith, c.truncate-2.new.self.ok) in
    one_long front content mid _ start size here (in_content front content old start size here is within) c.if-size-eq0.false
    (c.truncate-2.ensures.items ∙ ap (take (start + 5 + size)) is)
    (put_over_all c.put_count.new.out mid start size c.truncate-2.new.self.len room whole (rw c.as_mut_slice.ensures.value at c.put_count.ensures))
