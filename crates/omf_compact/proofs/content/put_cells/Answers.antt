use Rattle.std.proofs.Common.{ℕ, List, map, ◌++◌, ap, ◌∙◌}
use Rattle.load_writer.specs.WrittenParts.{seen}
use Rattle.omf_compact.proofs.ContentLaws.{patches_written, body_is}
use Rattle.omf_compact.proofs.content.put_cells.Goals as goal

pub put_body-requires-clause-patches : goal.put_body-requires-clause-patches
put_body-requires-clause-patches c =
    let s = c.requires.there.0 in
    let has = c.requires.whole s c.requires.there.1 in
    patches_written c.args.load.now c.args.number s c.requires.known c.requires.there.1 has.whole (map seen c.args.patches.now) c.args.content.now c.requires.content has.are

pub returns-clause-ok : goal.returns-clause-ok
returns-clause-ok c = λ s at other.
    let has = c.requires.whole s at in
    c.in_ok-_zeros.ensures.bytes
    ∙ ap (λ (l : List ℕ). c.args.out.now.items ++ l) (body_is c.args.load.now c.args.number s c.requires.known at has.whole (map seen c.args.patches.now) c.args.content.now c.requires.content has.are other)
