use Rattle.std.proofs.Common.{arith, rules, ◌≡◌, length}
use Rattle.std.proofs.lemmas.List.Sorted.{length_permutation, IsNonDecreasingBy-from_sort_by_key, IsNonDecreasingBy-from_sort}
use Rattle.iigs_places.proofs.spots.gather_blocks.Goals as goal

pub gather_turns-requires : goal.gather_turns-requires
gather_turns-requires c =
    let same : length c.sort_unstable_by_key.new.self.items ≡ length c.gather_all.new.spots.items =
    length_permutation _ _ c.sort_unstable_by_key.ensures.permutation in
    record { room = rw (c.deref.ensures.value, same) (omega (arith, c.gather_all.ensures.few, c.requires.turns_room)) }

pub returns-clause-surveyed : goal.returns-clause-surveyed
returns-clause-surveyed c = record {
  blocks = rw (← c.gather_all.ensures.items) c.sort_unstable_by_key.ensures.permutation;
  order = IsNonDecreasingBy-from_sort_by_key (λ spot. spot.at) _ c.sort_unstable_by_key.ensures.sorted (λ a r q k. search rules);
  counted = rw (← c.deref.ensures.value, ← c.gather_turns.ensures.items) c.sort_unstable.ensures.permutation;
  rises = IsNonDecreasingBy-from_sort (λ turn. turn) _ c.sort_unstable.ensures.sorted;
}
