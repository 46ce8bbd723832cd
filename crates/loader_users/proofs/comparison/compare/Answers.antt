use Rattle.std.proofs.Common.{◌≡◌, ◌<◌, ◌≤◌, ◌+◌, ◌⊎◌, inl, inr, ℕ, length, map, Some, sym, ap, ◌∙◌, arith}
use Rattle.std.proofs.lemmas.Bool.{cases_lt}
use Rattle.std.proofs.lemmas.List.{length-map}
use Rattle.omf_header.specs.View.{fields}
use Rattle.loader_machine.specs.declared.faults.LoaderFault.TheVariants as fault
use Rattle.loader_machine.specs.declared.seen.Facts.{Facts}
use Rattle.loader_machine.specs.declared.seen.SegmentHead.{SegmentHead}
use Rattle.loader_machine.specs.Heads.{head_of}
use Rattle.loader_users.specs.Changed.{facts_of, count_facts}
use Rattle.loader_users.proofs.Written.{heads_of}
use Rattle.loader_users.proofs.Comparing.{head_get, fields_get, differs, same_more, same_all, same_common}
use Rattle.loader_users.proofs.comparison.compare.Goals as goal

pub places-preserved : goal.places-preserved
places-preserved c =
    let items = c.args.segments.now.items in
    let inside : c.places.place < length items = omega (arith, c.places-test.true, c.min-place-end.ensures, c.len-kept.ensures) in
    same_more (heads_of items) (map head_of c.args.load.now) c.places.place c.places.invariant c.index.result.now.head c.head_from-head.result
    (head_get items c.places.place c.index.result.now inside c.index.ensures)
    (fields_get c.args.load.now c.places.place (fields c.in-Some.header.now) c.in-Some.ensures ∙ ap (λ (x : SegmentHead). Some x) (sym c.head_from-head.ensures))
    (c.is_same.ensures.yes c.if-not-is_same.false)

pub returns-then-not-is_same-clause-changed : goal.returns-then-not-is_same-clause-changed
returns-then-not-is_same-clause-changed c =
    let items = c.args.segments.now.items in
    let number = c.places.place + 1 in
    let was = c.index.result.now.head in
    let is = c.head_from-head.result in
    let inside : c.places.place < length items = omega (arith, c.places-test.true, c.min-place-end.ensures, c.len-kept.ensures) in
    let kept_long : c.len-kept.result ≡ length (heads_of items) = omega (arith, c.len-kept.ensures, length-map items (λ s. s.head)) in
    let found_long : c.count-found.result ≡ length (map head_of c.args.load.now) = c.count-found.ensures ∙ sym (length-map c.args.load.now head_of) in
    let kept : c.facts_of.result ≡ facts_of (length (heads_of items)) number was = c.facts_of.ensures ∙ ap (λ (n : ℕ). facts_of n number was) kept_long in
    let found : c.facts_of-then-not-is_same.result ≡ facts_of (length (map head_of c.args.load.now)) number is = c.facts_of-then-not-is_same.ensures ∙ ap (λ (n : ℕ). facts_of n number is) found_long in
    inl (
      number,
      was,
      is,
      differs (heads_of items) (map head_of c.args.load.now) c.places.place c.places.invariant was is
          (head_get items c.places.place c.index.result.now inside c.index.ensures)
          (fields_get c.args.load.now c.places.place (fields c.in-Some.header.now) c.in-Some.ensures ∙ ap (λ (x : SegmentHead). Some x) (sym c.head_from-head.ensures))
          (c.is_same.ensures.no c.if-not-is_same.true),
      ap (λ (x : Facts). fault.Changed x c.facts_of-then-not-is_same.result) kept ∙ ap (fault.Changed (facts_of (length (heads_of items)) number was)) found,
    )

pub returns-then-kept-found-clause-changed : goal.returns-then-kept-found-clause-changed
returns-then-kept-found-clause-changed c =
    let items = c.args.segments.now.items in
    let kept_long : c.len-kept.result ≡ length (heads_of items) = omega (arith, c.len-kept.ensures, length-map items (λ s. s.head)) in
    let found_long : c.count-found.result ≡ length (map head_of c.args.load.now) = c.count-found.ensures ∙ sym (length-map c.args.load.now head_of) in
    let past : (length (heads_of items) ≤ c.places.place) ⊎ (length (map head_of c.args.load.now) ≤ c.places.place) = elim (cases_lt c.places.place (length (heads_of items))) [
      | inl lt ↦ inr (omega (arith, lt, kept_long, found_long, c.places-test.false, c.min-place-end.ensures))
      | inr le ↦ inl le
    ] in
    let kept : c.count_facts.result ≡ count_facts (length (heads_of items)) = c.count_facts.ensures ∙ ap count_facts kept_long in
    let found : c.count_facts-then-kept-found.result ≡ count_facts (length (map head_of c.args.load.now)) = c.count_facts-then-kept-found.ensures ∙ ap count_facts found_long in
    inr (
      same_common (heads_of items) (map head_of c.args.load.now) c.places.place c.places.invariant past,
      (λ same. c.if-kept-found.true (kept_long ∙ same ∙ sym found_long)),
      ap (λ (x : Facts). fault.Changed x c.count_facts-then-kept-found.result) kept ∙ ap (fault.Changed (count_facts (length (heads_of items)))) found,
    )

pub returns-clause-same : goal.returns-clause-same
returns-clause-same c =
    let items = c.args.segments.now.items in
    let kept_long : c.len-kept.result ≡ length (heads_of items) = omega (arith, c.len-kept.ensures, length-map items (λ s. s.head)) in
    let found_long : c.count-found.result ≡ length (map head_of c.args.load.now) = c.count-found.ensures ∙ sym (length-map c.args.load.now head_of) in
    same_all (heads_of items) (map head_of c.args.load.now) c.places.place c.places.invariant (sym kept_long ∙ c.if-kept-found.false ∙ found_long)
    (omega (arith, kept_long, c.if-kept-found.false, c.places-test.false, c.min-place-end.ensures))
