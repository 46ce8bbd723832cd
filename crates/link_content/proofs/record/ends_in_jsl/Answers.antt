use Rattle.std.proofs.Common.{◌<◌, ◌++◌, length, sym, ap, ◌∙◌, arith}
use Rattle.load_meaning.specs.Cells.{byte_under}
use Rattle.std.proofs.lemmas.List.{length-map}
use Rattle.link_content.proofs.RecordLaws.{is_22, jsl_there}
use Rattle.link_content.proofs.record.ends_in_jsl.Goals as goal

pub returns-in-Some : goal.returns-in-Some
returns-in-Some c = λ front cells holds start.
    let bytes = (c.args.content.now).bytes in
    let more : length front < length bytes =
    omega (arith, start, c.if-len-start.false, c.len.ensures (front ++ cells) holds, ap length holds.bytes', length-map (front ++ cells) byte_under) in
    sym (jsl_there front cells bytes holds.bytes' more ∙ ap is_22 (sym c.last.ensures ∙ c.in-Some.is))

pub returns-in-None : goal.returns-in-None
returns-in-None c = λ front cells holds start.
    let bytes = (c.args.content.now).bytes in
    let more : length front < length bytes =
    omega (arith, start, c.if-len-start.false, c.len.ensures (front ++ cells) holds, ap length holds.bytes', length-map (front ++ cells) byte_under) in
    sym (jsl_there front cells bytes holds.bytes' more ∙ ap is_22 (sym c.last.ensures ∙ c.in-None.is))
