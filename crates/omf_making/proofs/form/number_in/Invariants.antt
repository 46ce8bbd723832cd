use Rattle.std.proofs.Common.{drop}
use Rattle.omf_making.proofs.Numbers.{IsRead}
use Rattle.omf_making.proofs.form.number_in.Given as goal

abbrev pub invariant-digits : goal.invariant-digits
invariant-digits l = IsRead l.word (drop l.digit-index l.word) l.number
