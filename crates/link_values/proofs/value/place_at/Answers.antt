use Rattle.std.proofs.Common.{◌+◌, pos, ℕ, ap, ◌∙◌}
use Rattle.omf_format.specs.declared.value.Value.TheVariants.{At}
use Rattle.link_meaning.specs.LinkValues.{place_value}
use Rattle.link_meaning.specs.Layout.{load_of}
use Rattle.link_values.proofs.value.place_at.Goals as goal

pub returns : goal.returns
unfolding place_value
returns c = λ list m is.
    ap (λ (n : ℕ). At 1 n (c.args.member_place.offset + c.args.at) (pos 0)) is.load
    ∙ ap (λ (n : ℕ). At 1 (load_of list m) (n + c.args.at) (pos 0)) is.offset'
