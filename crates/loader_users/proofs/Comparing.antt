-- A load file compared with what is kept of the one that was loaded.
use Rattle.std.proofs.Common.{◌≡◌, ◌≢◌, ◌⊎◌, inl, inr, ℕ, zero, suc, ◌+◌, ◌<◌, ◌≤◌, List, [], ◌∷◌, ◌++◌, length, map, take, get_or, Option, Some, None, refl, sym, ap, ◌∙◌, arith}
use Rattle.std.specs.Prelude.{slice_get, IsSomeAnd, option_map}
use Rattle.std.proofs.lemmas.Option.{same_Some, slice_get_within, slice_get-map, slice_get-get_or}
use Rattle.std.proofs.lemmas.List.{take_all}
use Rattle.omf_format.specs.Header.{HeaderFields}
use Rattle.omf_format.specs.File.{Segment}
use Rattle.load_meaning.specs.laws.LayingLaws.{get-take}
use Rattle.omf_cells.specs.Load.{HasFields}
use Rattle.loader_machine.specs.declared.seen.SegmentHead.{SegmentHead}
use Rattle.loader_machine.specs.Heads.{head_of, at_number}
use Rattle.loader_users.specs.declared.user.UserSegment as users
use Rattle.loader_users.specs.Filling.{head_in}
use Rattle.loader_users.specs.Changed.{AreSameBelow, DiffersAt}
use Rattle.loader_users.proofs.Written.{heads_of}

-- ---- headers at a place

pub head_get : (segments : List users.UserSegment) (k : ℕ) (s : users.UserSegment) → k < length segments → s ≡ get_or segments k s → slice_get (heads_of segments) k ≡ Some s.head
head_get segments k s inside is =
    slice_get-map (λ (x : users.UserSegment). x.head) segments k ∙ ap (option_map (λ (x : users.UserSegment). x.head)) (slice_get-get_or segments k s inside) ∙ ap (λ (x : users.UserSegment). Some x.head) (sym is)

pub fields_get : (load : List Segment) (k : ℕ) (f : HeaderFields) → HasFields load (k + 1) f → slice_get (map head_of load) k ≡ Some (head_in f)
fields_get load k f has = let more : k + 1 ≡ suc k = omega arith in slice_get-map head_of load k ∙ go (slice_get load k) refl (Rattle.std.proofs.Common.subst (λ (n : ℕ). HasFields load n f) more has)
  where
    go : (o : Option Segment) → slice_get load k ≡ o → IsSomeAnd o (λ s. s.fields ≡ f) → option_map head_of (slice_get load k) ≡ Some (head_in f)
    go None e is = absurd is
    go (Some s) e is = ap (option_map head_of) e ∙ ap (λ (g : HeaderFields). Some (head_in g)) is

-- ---- the first headers, up to a number, are the same

take_next : (xs : List SegmentHead) (k : ℕ) (x : SegmentHead) → slice_get xs k ≡ Some x → take (k + 1) xs ≡ take k xs ++ x ∷ []
take_next xs k x is = let more : k + 1 ≡ suc k = omega arith in ap (λ (n : ℕ). take n xs) more ∙ go xs k is
  where
    go : (ys : List SegmentHead) (i : ℕ) → slice_get ys i ≡ Some x → take (suc i) ys ≡ take i ys ++ x ∷ []
    go [] i e = absurd cc
    go (y ∷ ys) zero e = ap (λ (z : SegmentHead). z ∷ []) (same_Some y x e)
    go (y ∷ ys) (suc i) e = ap (λ (zs : List SegmentHead). y ∷ zs) (go ys i e)

module _ (kept found : List SegmentHead) (k : ℕ) (so_far : take k kept ≡ take k found) where
  same_at : (m : ℕ) → m < k → slice_get kept m ≡ slice_get found m
  same_at m lt = sym (get-take k kept m lt) ∙ ap (λ (l : List SegmentHead). slice_get l m) so_far ∙ get-take k found m lt

  same_below : AreSameBelow kept found (k + 1)
  same_below zero a b lt is is' = absurd cc
  same_below (suc m) a b lt is is' = same_Some a b (sym is ∙ same_at m (omega (arith, lt)) ∙ is')

  pub differs : (was is : SegmentHead) → slice_get kept k ≡ Some was → slice_get found k ≡ Some is → was ≢ is → DiffersAt kept found (k + 1) was is
  differs was is here here' other =
      let more : k + 1 ≡ suc k = omega arith in
      record { was' = ap (at_number kept) more ∙ here; is' = ap (at_number found) more ∙ here'; other = other; before = same_below }

  pub same_more : (x y : SegmentHead) → slice_get kept k ≡ Some x → slice_get found k ≡ Some y → x ≡ y → take (k + 1) kept ≡ take (k + 1) found
  same_more x y here here' same = take_next kept k x here ∙ ap (λ (l : List SegmentHead). l ++ x ∷ []) so_far ∙ ap (λ (z : SegmentHead). take k found ++ z ∷ []) same ∙ sym (take_next found k y here')

  pub same_all : length kept ≡ length found → length kept ≤ k → found ≡ kept
  same_all counts past = sym (take_all k found (omega (arith, counts, past))) ∙ sym so_far ∙ take_all k kept past

  pub same_common : (length kept ≤ k) ⊎ (length found ≤ k) → (n : ℕ) → AreSameBelow kept found n
  same_common past n zero a b lt is is' = absurd cc
  same_common past n (suc m) a b lt is is' = same_Some a b (sym is ∙ same_at m (below past) ∙ is')
    where
      below : (length kept ≤ k) ⊎ (length found ≤ k) → m < k
      below (inl le) = let inside = slice_get_within kept m a is in omega (arith, le, inside)
      below (inr le) = let inside = slice_get_within found m b is' in omega (arith, le, inside)
