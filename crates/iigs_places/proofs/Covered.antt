-- Runs of bytes of blocks.
use Rattle.std.proofs.Common.{◌≡◌, ◌≢◌, inl, inr, ℕ, ◌+◌, ◌^◌, ◌<◌, ◌≤◌, List, [], ◌∷◌, ◌++◌, All, Contains, length, get_or, take, arith, refl, sym, ap, subst, ◌∙◌}
use Rattle.std.specs.List.{insert}
use Rattle.std.specs.List.Sorted.{IsPermutation, IsNonDecreasingBy}
use Rattle.std.proofs.Math.ListN.{set, length-set}
use Rattle.std.proofs.lemmas.Bool.{cases_lt, cases_eq}
use Rattle.std.proofs.lemmas.List.{get_or-set_same, get_or-set_other, get_or-take, length-take, take_all, get_or_default}
use Rattle.std.proofs.lemmas.List.Edits.{insert_end}
use Rattle.std.proofs.lemmas.List.Elements.{Contains-get_or, All-set, All-cons}
use Rattle.std.proofs.lemmas.List.Sorted.{Contains-permutation, All-permutation, IsPermutation-sym, IsPermutation-insert, IsNonDecreasingBy-insert}
use Rattle.iigs_places.specs.declared.spots.BlockSpot.{BlockSpot}
use Rattle.iigs_places.specs.declared.marks.BlockMark.{BlockMark}
use Rattle.iigs_places.specs.Marks.{IsSized}
use Rattle.iigs_places.specs.declared.runs.Stretch.{Stretch}
use Rattle.iigs_places.specs.Runs.{AreRuns, StandsAt, RunsAdd, IsStretch, Cover}
use Rattle.iigs_places.proofs.Marked.{cons_cases, cons_first, cons_rest}

-- ---- a run that ends later

module _ (runs : List BlockSpot) (place at end : ℕ) (d : BlockSpot) (inside : place < length runs) (is : (get_or runs place d).end ≡ at) (some : at < end) (are : AreRuns runs) where
  abbrev pub longer : BlockSpot
  longer = record (get_or runs place d) { end = end }

  has_here : Contains (set runs place longer) longer
  has_here = (place, omega (arith, length-set runs place longer, inside), get_or-set_same runs place longer longer inside)

  has_other : (r : BlockSpot) (k : ℕ) → k ≢ place → k < length runs → get_or runs k r ≡ r → Contains (set runs place longer) r
  has_other r k ne lt same = (k, omega (arith, length-set runs place longer, lt), get_or-set_other runs place k longer r ne ∙ same)

  starts : (get_or runs place d).at < (get_or runs place d).end
  starts = are.some place d inside

  pub longer_adds : RunsAdd runs at end (set runs place longer)
  longer_adds = record {
    kept = λ i r. elim (cases_eq r.1.0 place) [
      | inl eq ↦ (let same : get_or runs place d ≡ r.0 = get_or_default runs place d r.0 inside ∙ ap (λ k. get_or runs k r.0) (sym eq) ∙ r.1.2 in
          (longer, has_here, omega (arith, ap (λ (x : BlockSpot). x.at) same, r.2), omega (arith, ap (λ (x : BlockSpot). x.end) same, r.3, is, some)))
      | inr ne ↦ (r.0, has_other r.0 r.1.0 ne r.1.1 r.1.2, r.2, r.3)
    ];
    added = λ i from to. (longer, has_here, omega (arith, starts, is, from), to);
    only = λ i r. elim (cases_eq r.1.0 place) [
      | inl eq ↦ (let same : longer ≡ r.0 = sym (get_or-set_same runs place longer r.0 inside) ∙ ap (λ k. get_or (set runs place longer) k r.0) (sym eq) ∙ r.1.2 in
          elim (cases_lt i at) [
            | inl lt ↦ inl (get_or runs place d, Contains-get_or runs place d inside, omega (arith, ap (λ (x : BlockSpot). x.at) same, r.2), omega (arith, is, lt))
            | inr ge ↦ inr (ge, omega (arith, ap (λ (x : BlockSpot). x.end) same, r.3))
          ])
      | inr ne ↦ inl (r.0, (r.1.0, omega (arith, length-set runs place longer, r.1.1), sym (get_or-set_other runs place r.1.0 longer r.0 ne) ∙ r.1.2), r.2, r.3)
    ];
  }

  same_start : (k : ℕ) (e : BlockSpot) → k < length runs → (get_or (set runs place longer) k e).at ≡ (get_or runs k e).at
  same_start k e lt = elim (cases_eq k place) [
    | inl eq ↦ rw (eq, get_or-set_same) (ap (λ (x : BlockSpot). x.at) (get_or_default runs place d e inside))
    | inr ne ↦ rw get_or-set_other refl
  ]

  pub longer_runs : end ≤ 2 ^ 24 → AreRuns (set runs place longer)
  longer_runs ends = record {
    order = λ i j e le lt.
        let lt' : j < length runs = omega (arith, length-set runs place longer, lt) in
        omega (arith, same_start i e (omega (arith, le, lt')), same_start j e lt', are.order i j e le lt');
    some = All-set (λ (run : BlockSpot). run.at < run.end) runs place longer (omega (arith, starts, is, some)) are.some;
    ends = All-set (λ (run : BlockSpot). run.end ≤ 2 ^ 24) runs place longer ends are.ends;
  }

-- ---- a run more

module _ (runs : List BlockSpot) (count at end turn : ℕ) (some : at < end) where
  abbrev pub fresh : BlockSpot
  fresh = record { at = at; end = end; turn = turn }

  pub fresh_adds : RunsAdd runs at end (insert runs count fresh)
  fresh_adds =
      let moved : IsPermutation (fresh ∷ runs) (insert runs count fresh) = IsPermutation-insert runs count fresh in
      record {
        kept = λ i r. (r.0, Contains-permutation (fresh ∷ runs) (insert runs count fresh) r.0 moved (cons_rest fresh runs r.0 r.1), r.2, r.3);
        added = λ i from to. (fresh, Contains-permutation (fresh ∷ runs) (insert runs count fresh) fresh moved (cons_first fresh runs), from, to);
        only = λ i r. elim (cons_cases fresh runs r.0 (Contains-permutation (insert runs count fresh) (fresh ∷ runs) r.0 (IsPermutation-sym (fresh ∷ runs) (insert runs count fresh) moved) r.1)) [
          | inl new ↦ inr (omega (arith, ap (λ (x : BlockSpot). x.at) new, r.2), omega (arith, ap (λ (x : BlockSpot). x.end) new, r.3))
          | inr old ↦ inl (r.0, old, r.2, r.3)
        ];
      }

  pub fresh_runs : AreRuns runs → StandsAt runs count at → end ≤ 2 ^ 24 → AreRuns (insert runs count fresh)
  fresh_runs are stands ends =
      let moved : IsPermutation (fresh ∷ runs) (insert runs count fresh) = IsPermutation-insert runs count fresh in
      record {
        order = IsNonDecreasingBy-insert (λ (run : BlockSpot). run.at) runs count fresh are.order stands.within stands.before stands.following;
        some = All-permutation (λ (run : BlockSpot). run.at < run.end) (fresh ∷ runs) (insert runs count fresh) moved (All-cons (λ (run : BlockSpot). run.at < run.end) fresh runs some are.some);
        ends = All-permutation (λ (run : BlockSpot). run.end ≤ 2 ^ 24) (fresh ∷ runs) (insert runs count fresh) moved (All-cons (λ (run : BlockSpot). run.end ≤ 2 ^ 24) fresh runs ends are.ends);
      }

  pub fresh_begin : (limit : ℕ) → at ≤ limit → All (λ (run : BlockSpot). run.at ≤ limit) runs → All (λ (run : BlockSpot). run.at ≤ limit) (insert runs count fresh)
  fresh_begin limit le all = All-permutation (λ (run : BlockSpot). run.at ≤ limit) (fresh ∷ runs) (insert runs count fresh) (IsPermutation-insert runs count fresh)
      (All-cons (λ (run : BlockSpot). run.at ≤ limit) fresh runs le all)

-- ---- runs of blocks with marks

-- a mark more, and its bytes
pub cover_added : (marks moved : List BlockMark) (m : BlockMark) (old new : List BlockSpot) → Cover marks old → IsPermutation (m ∷ marks) moved → AreRuns new → RunsAdd old m.at m.end new → Cover moved new
cover_added marks moved m old new cover same are adds = record {
  are = are;
  to = λ i x. elim (cons_cases m marks x.0 (Contains-permutation moved (m ∷ marks) x.0 (IsPermutation-sym (m ∷ marks) moved same) x.1)) [
    | inl first ↦ adds.added i (omega (arith, ap (λ (y : BlockMark). y.at) first, x.2)) (omega (arith, ap (λ (y : BlockMark). y.end) first, x.3))
    | inr rest ↦ adds.kept i (cover.to i (x.0, rest, x.2, x.3))
  ];
  from = λ i r. elim (adds.only i r) [
    | inl old_one ↦ (let x = cover.from i old_one in (x.0, Contains-permutation (m ∷ marks) moved x.0 same (cons_rest m marks x.0 x.1), x.2, x.3))
    | inr bytes ↦ (m, Contains-permutation (m ∷ marks) moved m same (cons_first m marks), bytes.0, bytes.1)
  ];
}

pub cover_none : Cover [] []
cover_none = record {
  are = record {
    order = λ i j d le lt. absurd (omega (arith, lt));
    some = λ k d lt. absurd (omega (arith, lt));
    ends = λ k d lt. absurd (omega (arith, lt));
  };
  to = λ i x. absurd (omega (arith, x.1.1));
  from = λ i r. absurd (omega (arith, r.1.1));
}

-- the first `count` marks are joined, and no run begins after a later one
pub record Joined (marks : List BlockMark) (count : ℕ) (runs : List BlockSpot) : Type 0 where
  pub cover : Cover (take count marks) runs
  pub following : (k : ℕ) (d : BlockMark) → count ≤ k → k < length marks → All (λ (run : BlockSpot). run.at ≤ (get_or marks k d).at) runs

pub joined_none : (marks : List BlockMark) → Joined marks 0 []
joined_none marks = record { cover = cover_none; following = λ k d le lt. λ j e no_run. absurd (omega (arith, no_run)) }

-- one block alone
pub stretch_one : (marks : List BlockMark) (first : ℕ) (d : BlockMark) → first < length marks → All IsSized marks → IsStretch marks first (record { end = (get_or marks first d).end; next = first + 1 })
stretch_one marks first d inside sized = record {
  after = omega arith;
  within = omega (arith, inside);
  some = λ e. omega (arith, (sized first e inside).0, same_end e);
  ends = (sized first d inside).1;
  inside = λ k e from to. let is : k ≡ first = omega (arith, from, to) in rw is (omega arith, omega (arith, same_end e));
  bytes = λ i e from to. (first, omega arith, omega arith, from, omega (arith, to, same_end e));
}
  where
    same_end : (e : BlockMark) → (get_or marks first d).end ≡ (get_or marks first e).end
    same_end e = ap (λ (m : BlockMark). m.end) (get_or_default marks first d e inside)

-- one block more, which begins where the last one ends
pub stretch_more : (marks : List BlockMark) (first end place : ℕ) (d : BlockMark) → place < length marks → All IsSized marks → IsStretch marks first (record { end = end; next = place })
    → (get_or marks place d).at ≡ end → IsStretch marks first (record { end = (get_or marks place d).end; next = place + 1 })
stretch_more marks first end place d inside sized s is = record {
  after = omega (arith, s.after);
  within = omega (arith, inside);
  some = λ e. omega (arith, s.some e, longer);
  ends = (sized place d inside).1;
  inside = λ k e from to. elim (cases_lt k place) [
    | inl lt ↦ (let old = s.inside k e from lt in (old.0, omega (arith, old.1, longer)))
    | inr ge ↦ (let here : k ≡ place = omega (arith, to, ge) in rw here (omega (arith, s.some e, is, same_at e), omega (arith, same_end e)))
  ];
  bytes = λ i e from to. elim (cases_lt i end) [
    | inl lt ↦ (let old = s.bytes i e from lt in (old.0, old.1, omega (arith, old.2), old.3, old.4))
    | inr ge ↦ (place, omega (arith, s.after), omega arith, omega (arith, ge, is, same_at e), omega (arith, to, same_end e))
  ];
}
  where
    same_end : (e : BlockMark) → (get_or marks place d).end ≡ (get_or marks place e).end
    same_end e = ap (λ (m : BlockMark). m.end) (get_or_default marks place d e inside)

    same_at : (e : BlockMark) → (get_or marks place d).at ≡ (get_or marks place e).at
    same_at e = ap (λ (m : BlockMark). m.at) (get_or_default marks place d e inside)

    longer : end < (get_or marks place d).end
    longer = omega (arith, (sized place d inside).0, is)

-- the first `n` items contain each item before place `n`
has_front : {X : Type 0} (xs : List X) (n k : ℕ) (d : X) → k < n → k < length xs → Contains (take n xs) (get_or xs k d)
has_front xs n k d lt inside = (k, omega (arith, length-take n xs, lt, inside), get_or-take n xs k (get_or xs k d) lt ∙ get_or_default xs k (get_or xs k d) d inside)

front_has : {X : Type 0} (xs : List X) (n : ℕ) (x : X) → Contains (take n xs) x → (k : ℕ) × (k < n) × (k < length xs) × (get_or xs k x ≡ x)
front_has xs n x has =
    let lt : has.0 < n = omega (arith, length-take n xs, has.1) in
    (has.0, lt, omega (arith, length-take n xs, has.1), sym (get_or-take n xs has.0 x lt) ∙ has.2)

-- a stretch more is joined
pub joined_more : (marks : List BlockMark) (first turn : ℕ) (d : BlockMark) (s : Stretch) (runs : List BlockSpot) → first < length marks → IsNonDecreasingBy (λ m. m.at) marks → IsStretch marks first s → Joined marks first runs
    → Joined marks s.next (runs ++ record { at = (get_or marks first d).at; end = s.end; turn = turn } ∷ [])
joined_more marks first turn d s runs inside order stretch joined = rw (← insert_end) (record {
  cover = record {
    are = fresh_runs runs (length runs) (get_or marks first d).at s.end turn (stretch.some d) joined.cover.are stands stretch.ends;
    to = λ i x. let one = front_has marks s.next x.0 x.1 in elim (cases_lt one.0 first) [
      | inl lt ↦ adds.kept i (joined.cover.to i (x.0, subst (λ (m : BlockMark). Contains (take first marks) m) one.3 (has_front marks first one.0 x.0 lt one.2), x.2, x.3))
      | inr ge ↦ (let part = stretch.inside one.0 x.0 ge one.1 in
          adds.added i (omega (arith, part.0, same x.0, ap (λ (m : BlockMark). m.at) one.3, x.2)) (omega (arith, part.1, ap (λ (m : BlockMark). m.end) one.3, x.3)))
    ];
    from = λ i r. elim (adds.only i r) [
      | inl old ↦ (let x = joined.cover.from i old in
          let one = front_has marks first x.0 x.1 in
          (x.0, subst (λ (m : BlockMark). Contains (take s.next marks) m) one.3 (has_front marks s.next one.0 x.0 (omega (arith, one.1, stretch.after)) one.2), x.2, x.3))
      | inr new ↦ (let k = stretch.bytes i d new.0 new.1 in
          (get_or marks k.0 d, has_front marks s.next k.0 d k.2 (omega (arith, k.2, stretch.within)), k.3, k.4))
    ];
  };
  following = λ k e le lt. fresh_begin runs (length runs) (get_or marks first d).at s.end turn (stretch.some d) (get_or marks k e).at
      (omega (arith, same e, order first k e (omega (arith, le, stretch.after)) lt)) (joined.following k e (omega (arith, le, stretch.after)) lt);
})
  where
    same : (e : BlockMark) → (get_or marks first d).at ≡ (get_or marks first e).at
    same e = ap (λ (m : BlockMark). m.at) (get_or_default marks first d e inside)

    stands : StandsAt runs (length runs) (get_or marks first d).at
    stands = record {
      within = omega arith;
      before = λ k e lt. joined.following first d (omega arith) inside k e lt;
      following = λ k e le lt. absurd (omega (arith, le, lt));
    }

    adds : RunsAdd runs (get_or marks first d).at s.end (insert runs (length runs) (record { at = (get_or marks first d).at; end = s.end; turn = turn }))
    adds = fresh_adds runs (length runs) (get_or marks first d).at s.end turn (stretch.some d)

-- all marks are joined
pub joined_all : (marks : List BlockMark) (count : ℕ) (runs : List BlockSpot) → length marks ≤ count → Joined marks count runs → Cover marks runs
joined_all marks count runs le joined = subst (λ (ms : List BlockMark). Cover ms runs) (take_all count marks le) joined.cover
