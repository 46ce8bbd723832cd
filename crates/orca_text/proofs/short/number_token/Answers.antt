use Rattle.orca_text.proofs.ShortTokens.{opens_no_number}
use Rattle.orca_text.proofs.short.number_token.Goals as goal

pub returns-in-Some : goal.returns-in-Some
returns-in-Some c = opens_no_number c.args.text.now c.in-Some.field-0.now c.in-Some.ensures
