use Rattle.std.proofs.Common.{◌≡◌, ◌++◌, ℕ, List, map, take, ap, subst, ◌∙◌, arith}
use Rattle.byteorder.specs.Endian.{little_bytes}
use Rattle.load_meaning.specs.Cells.{Byte}
use Rattle.link_content.specs.Contents.{HoldsCells}
use Rattle.link_content.proofs.PutLaws.{take_little, count_le}
use Rattle.link_content.proofs.put.put_number.Goals as goal

pub first_items-requires : goal.first_items-requires
first_items-requires c = omega (arith, c.bytes_of-bytes.ensures.size, count_le c.args.count c.requires, c.from.ensures)

pub returns-in-Ok-clause-ok : goal.returns-in-Ok-clause-ok
returns-in-Ok-clause-ok c = λ cells holds.
    let low : c.first_items.result.now ≡ little_bytes c.args.count c.args.n =
    c.first_items.ensures ∙ ap (λ (n : ℕ). take n c.bytes_of-bytes.result) c.from.ensures ∙ ap (take c.args.count) c.bytes_of-bytes.ensures.value ∙ take_little c.args.count c.args.n c.requires in
    subst (λ (l : List ℕ). HoldsCells (cells ++ map Byte l) c.put_bytes.new.self) low (c.in-Ok.ensures cells holds)
