use Rattle.iigs_places.proofs.Bars.{span_is}
use Rattle.iigs_places.proofs.open.span_of.Goals as goal

pub returns : goal.returns
returns c = span_is c.args.map.now c.args.want.now c.args.bank c.first_free.result c.free_end.result
    (c.is_configured.ensures.yes c.if-not-is_configured.false) (c.permits.ensures.yes c.if-not-permits.false)
    c.first_free.ensures.value c.free_end.ensures.value c.first_free.ensures.small c.free_end.ensures.small
