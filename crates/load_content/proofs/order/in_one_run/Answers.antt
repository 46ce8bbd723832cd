use Rattle.std.proofs.Common.{List, ap, subst, ◌∙◌}
use Rattle.std.specs.List.Sorted.{IsPermutation, IsStableByKey}
use Rattle.std.specs.Ordering.{nat_cmp}
use Rattle.load_content.specs.declared.spots.PatchSpot.{PatchSpot}
use Rattle.load_content.specs.Content.{AreApart, offset_of, last_at}
use Rattle.load_content.proofs.SpotLists.{apart_rise, last_at-apart, last_at-singles, singles_rise}
use Rattle.load_content.proofs.order.in_one_run.Goals as goal

pub returns-then-are_apart-clause-rise : goal.returns-then-are_apart-clause-rise
returns-then-are_apart-clause-rise c = apart_rise c.in_ok-whole.whole.items (subst AreApart c.deref.ensures.value (c.are_apart.ensures c.if-are_apart.true))

pub returns-then-are_apart-clause-last : goal.returns-then-are_apart-clause-last
returns-then-are_apart-clause-last c = λ k.
    last_at-apart c.args.spots.now c.in_ok-whole.whole.items k c.in_ok-whole.ensures.permutation (subst AreApart c.deref.ensures.value (c.are_apart.ensures c.if-are_apart.true))

pub returns-clause-rise : goal.returns-clause-rise
returns-clause-rise c =
    singles_rise c.in_ok-bytes.bytes.items c.in_ok-bytes-2.bytes.items (c.in_ok-bytes.ensures.single tt)
    (subst (λ (l : List PatchSpot). IsPermutation l c.in_ok-bytes-2.bytes.items) c.deref-2.ensures.value c.in_ok-bytes-2.ensures.permutation)
    c.in_ok-bytes-2.ensures.rise

pub returns-clause-last : goal.returns-clause-last
returns-clause-last c = λ k.
    last_at-singles c.in_ok-bytes.bytes.items c.in_ok-bytes-2.bytes.items k (c.in_ok-bytes.ensures.single tt)
    (subst (λ (l : List PatchSpot). IsPermutation l c.in_ok-bytes-2.bytes.items) c.deref-2.ensures.value c.in_ok-bytes-2.ensures.permutation)
    (subst (λ (l : List PatchSpot). IsStableByKey offset_of nat_cmp l c.in_ok-bytes-2.bytes.items) c.deref-2.ensures.value c.in_ok-bytes-2.ensures.stable)
    ∙ ap (λ l. last_at l k) c.in_ok-bytes.ensures.shown'
