use Rattle.std.proofs.Common.{◌-◌, List, [], ◌∷◌, ◌++◌, ℕ, ap, sym, ◌∙◌, append_assoc, arith}
use Rattle.std.specs.List.{flat_map}
use Rattle.omf_format.specs.Super.{page_text}
use Rattle.load_meaning.specs.WrittenPages.{passing}
use Rattle.load_writer.proofs.PageTexts.{passing_more}
use Rattle.load_writer.proofs.pages.put_skips.Goals as goal

pub skips-preserved : goal.skips-preserved
skips-preserved c =
    let old = c.skips.out.items in
    let rest = flat_map page_text (passing (c.skips.left - 127)) in
    ap (λ (l : List ℕ). l ++ rest) c.in_ok-push.ensures.items ∙ append_assoc old (255 ∷ []) rest ∙ ap (λ (l : List ℕ). old ++ l) (sym (passing_more c.skips.left (omega (arith, c.skips-test.true)))) ∙ c.skips.invariant
