-- What expressions meet in members.
use Rattle.std.proofs.Common.{◌≡◌, ℕ, List, Option, Some, ap, ◌∙◌}
use Rattle.omf_format.specs.declared.value.Value.{Value}
use Rattle.link_meaning.specs.Member.{Member}
use Rattle.link_program.specs.Outside.{all_found}
use Rattle.link_meaning.specs.LinkValues.{place_value, member_environment}
use Rattle.link_program.specs.Linked.{member_at}
use Rattle.link_values.specs.declared.slots.ValueSlot.{ValueSlot}
use Rattle.link_values.specs.Slots.{rows_of}
use Rattle.link_values.specs.Surroundings.{environment_in_member}

pub meets_there : (list : List Member) (slots : List ValueSlot) (place : ℕ) (m : Member) (location : ℕ) (here start : Value) → member_at list place ≡ Some m → here ≡ place_value list place m location
    → start ≡ place_value list place m 0 → environment_in_member list slots place (member_at list place) here start ≡ member_environment list (rows_of (all_found list) slots) place m location
unfolding member_environment
meets_there list slots place m location here start there here_is start_is =
    ap (λ (o : Option Member). environment_in_member list slots place o here start) there
    ∙ ap (λ (v : Value). environment_in_member list slots place (Some m) v start) here_is
    ∙ ap (environment_in_member list slots place (Some m) (place_value list place m location)) start_is
