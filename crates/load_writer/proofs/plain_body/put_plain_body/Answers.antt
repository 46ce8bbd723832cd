use Rattle.std.proofs.Common.{◌≡◌, length, arith}
use Rattle.load_writer.specs.Joined.{joined}
use Rattle.load_writer.proofs.PlainLaws.{plain_is, plain_zeros}
use Rattle.load_writer.proofs.plain_body.put_plain_body.Goals as goal

pub returns-clause-bytes : goal.returns-clause-bytes
returns-clause-bytes c = λ own.
    let old = c.args.out.now.items in
    let content = joined c.args.pieces.now in
    let here : length old ≡ c.len-start.result = omega (arith, c.len-start.ensures, c.args.out.now.ok) in
    plain_is c.close-size.result c.len-start.result old content c.put_open.new.out.items here c.in-Ok.ensures.ok c.close-size.ensures.kept own c.close-size.new.out.items
    (c.close-size.ensures.text old content c.in-Ok.ensures.ok here)

pub returns-clause-zeros : goal.returns-clause-zeros
returns-clause-zeros c =
    let old = c.args.out.now.items in
    let content = joined c.args.pieces.now in
    let here : length old ≡ c.len-start.result = omega (arith, c.len-start.ensures, c.args.out.now.ok) in
    let whole : c.len.result ≡ length c.put_open.new.out.items = omega (arith, c.len.ensures, c.put_open.new.out.ok) in
    plain_zeros c.close-size.result c.len-start.result old content c.put_open.new.out.items here c.in-Ok.ensures.ok c.close-size.ensures.kept c.len.result whole
