use Rattle.std.proofs.Common.{◌-◌, ℕ, length, map, ap, ◌∙◌, arith}
use Rattle.load_writer.specs.WrittenParts.{seen}
use Rattle.load_meaning.specs.laws.WrittenBodyLaws.{length-written}
use Rattle.load_meaning.specs.laws.StoredLaws.{zeros_left}
use Rattle.load_writer.proofs.DataLaws.{written_small}
use Rattle.load_writer.proofs.written.put_parts.Goals as goal

pub overflow_sub-result : goal.overflow_sub-result
overflow_sub-result c = omega (arith, c.in_ok-size.ensures.size, length-written c.args.own c.args.content.now (map seen c.args.patches.now))

pub returns-clause-zeros : goal.returns-clause-zeros
returns-clause-zeros c =
    let content = c.args.content.now in
    ap (λ (n : ℕ). length content - n) c.in_ok-size.ensures.size ∙ zeros_left c.args.own content (map seen c.args.patches.now) c.requires.patches

pub put_lone-requires : goal.put_lone-requires
put_lone-requires c = written_small (length c.args.content.now) (map seen c.args.patches.now) c.requires.small c.requires.patches

pub put_supers-requires-clause-patches : goal.put_supers-requires-clause-patches
put_supers-requires-clause-patches c = written_small (length c.args.content.now) (map seen c.args.patches.now) c.requires.small c.requires.patches

pub put_supers-requires-clause-lists : goal.put_supers-requires-clause-lists
put_supers-requires-clause-lists c = ap (map (λ l. l.items)) c.as_slice.ensures.value ∙ c.in_ok-lists.ensures.lists
