use Rattle.std.proofs.Common.{length, sym, ◌∙◌, rules, tests}
use Rattle.std.proofs.lemmas.Bool.{ne_eqb}
use Rattle.std.proofs.lemmas.Iterator.{YieldsList-from_slice, YieldsList-from_zip}
use Rattle.std.proofs.lemmas.Iterator.Search.{all_from_yields_List}
use Rattle.orca_text.proofs.Spelled.{is_byte, same_length, other_length}
use Rattle.orca_text.proofs.operation.is_spelled.Goals as goal

pub returns-then-text-spelling : goal.returns-then-text-spelling
returns-then-text-spelling c =
    all_from_yields_List is_byte c.all.new.self _ c.all.result c.all.ensures.ran (YieldsList-from_zip (YieldsList-from_slice c.args.text.now cc) (YieldsList-from_slice c.args.spelling.now cc)) (λ x b q k. search (rules, tests))
    ∙ same_length c.args.text.now c.args.spelling.now c.if-text-spelling.true

pub returns-else-text-spelling : goal.returns-else-text-spelling
returns-else-text-spelling c =
    ne_eqb (length c.args.text.now) (length c.args.spelling.now) c.if-text-spelling.false ∙ sym (other_length c.args.text.now c.args.spelling.now c.if-text-spelling.false)
