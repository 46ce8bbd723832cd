use Rattle.std.proofs.Common.{List, subst, rules}
use Rattle.std.specs.List.Sorted.{IsStableByKey}
use Rattle.std.specs.Ordering.{nat_cmp}
use Rattle.std.proofs.lemmas.List.Sorted.{IsNonDecreasingBy-from_sort, answers_always}
use Rattle.load_content.specs.declared.spots.PatchSpot.{PatchSpot}
use Rattle.load_content.specs.Content.{offset_of}
use Rattle.load_content.proofs.order.sort_by_offset.Goals as goal

pub returns-clause-rise : goal.returns-clause-rise
returns-clause-rise c =
    IsNonDecreasingBy-from_sort offset_of c.sort_by_key.new.self.items (c.in_ok-sort_by_key.ensures.sorted offset_of (answers_always _ _ _ (λ f a r g h. search rules)))

pub returns-clause-stable : goal.returns-clause-stable
returns-clause-stable c =
    subst (λ (l : List PatchSpot). IsStableByKey offset_of nat_cmp l c.sort_by_key.new.self.items) c.in_ok-sorted.ensures.items
    (c.in_ok-sort_by_key.ensures.stable offset_of (answers_always _ _ _ (λ f a r g h. search rules)))
