use Rattle.std.proofs.Common.{refl, sym, subst, arith}
use Rattle.link_tables.proofs.ShortNames.{AreShort, text_short}
use Rattle.link_tables.proofs.uses.add_terms.Goals as goal

pub terms-init : goal.terms-init
terms-init c = (refl, subst AreShort (sym c.terms_of-terms.ensures) (text_short c.args.lab_len c.args.expr.now c.requires (omega (arith, c.ranges.lab_len))), λ short. short)
