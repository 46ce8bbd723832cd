use Rattle.std.proofs.Common.{List, ℕ, Some, sym, ap, ◌∙◌}
use Rattle.macro_meaning.specs.Effect as meaning
use Rattle.orca_text.specs.View.{line}
use Rattle.orca_macro.specs.EffectView.{where_}
use Rattle.orca_macro.specs.Plan.{known_effect}
use Rattle.orca_macro.proofs.Plans.{always, plain_does}
use Rattle.orca_macro.proofs.visited.effect_of_known.Goals as goal

pub returns-in-Rests : goal.returns-in-Rests
returns-in-Rests c = always (where_ c.args.at) (line c.args.of.now) (known_effect c.args.said.now) meaning.NoEffect c.requires.known (ap known_effect c.in-Rests.is)

pub returns-in-Leaves : goal.returns-in-Leaves
returns-in-Leaves c = always (where_ c.args.at) (line c.args.of.now) (known_effect c.args.said.now) meaning.Exit c.requires.known (ap known_effect c.in-Leaves.is)

pub returns-in-Goes : goal.returns-in-Goes
returns-in-Goes c =
    always (where_ c.args.at) (line c.args.of.now) (known_effect c.args.said.now) (meaning.BranchTo c.borrowed.result) c.requires.known
    (ap known_effect c.in-Goes.is ∙ ap (λ (name : List ℕ). Some (meaning.BranchTo name)) (sym (c.borrowed.ensures ∙ c.bytes.ensures.value)))

pub returns-in-Open : goal.returns-in-Open
returns-in-Open c = plain_does (where_ c.args.at) (line c.args.of.now) c.bytes-in-Open.result.now c.effect_of_text.result c.bytes-in-Open.ensures.value c.requires.plain c.effect_of_text.ensures
