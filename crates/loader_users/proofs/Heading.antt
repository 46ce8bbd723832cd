-- Headers kept one by one, and addresses set one by one.
use Rattle.std.proofs.Common.{◌≡◌, ℕ, zero, suc, ◌+◌, List, [], ◌∷◌, ◌++◌, length, map, take, Option, Some, None, refl, sym, ap, subst, ◌∙◌, arith}
use Rattle.std.specs.Prelude.{slice_get, IsSomeAnd}
use Rattle.std.proofs.lemmas.Option.{same_Some}
use Rattle.std.proofs.lemmas.List.{map-append}
use Rattle.omf_format.specs.Header.{HeaderFields}
use Rattle.omf_format.specs.File.{Segment, segment_at}
use Rattle.load_meaning.specs.laws.CellLaws.{loadable_has}
use Rattle.load_meaning.specs.Loadable.{IsLoadable}
use Rattle.omf_cells.specs.Load.{HasFields}
use Rattle.iigs_meaning.specs.declared.handles.Handle.{Handle}
use Rattle.loader_machine.specs.declared.seen.SegmentHead.{SegmentHead}
use Rattle.loader_machine.specs.Heads.{head_of}
use Rattle.loader_agrees.specs.Acts.{no_handle_of}
use Rattle.loader_users.specs.declared.user.UserSegment as users
use Rattle.loader_users.specs.Filling.{head_in}
use Rattle.loader_users.proofs.Written.{heads_of, handles_of}

take_next : (xs : List Segment) (i : ℕ) (c : Segment) → slice_get xs i ≡ Some c → take (suc i) xs ≡ take i xs ++ c ∷ []
take_next [] i c is = absurd cc
take_next (d ∷ xs) zero c is = ap (λ (x : Segment). x ∷ []) (same_Some d c is)
take_next (d ∷ xs) (suc i) c is = ap (λ (l : List Segment). d ∷ l) (take_next xs i c is)

pub head_more : (load : List Segment) (kept : List users.UserSegment) (place : ℕ) (f : HeaderFields) → heads_of kept ≡ map head_of (take place load) → HasFields load (place + 1) f
    → heads_of (kept ++ (record { handle = None; head = head_in f }) ∷ []) ≡ map head_of (take (place + 1) load)
head_more load kept place f so_far has = go (slice_get load place) refl (subst (λ (n : ℕ). HasFields load n f) more has)
  where
    more : place + 1 ≡ suc place
    more = omega arith

    go : (o : Option Segment) → slice_get load place ≡ o → IsSomeAnd o (λ s. s.fields ≡ f) → heads_of (kept ++ (record { handle = None; head = head_in f }) ∷ []) ≡ map head_of (take (place + 1) load)
    go None e is = absurd is
    go (Some s) e is =
        map-append (λ (x : users.UserSegment). x.head) kept ((record { handle = None; head = head_in f }) ∷ [])
        ∙ ap (λ (hs : List SegmentHead). hs ++ head_in f ∷ []) so_far
        ∙ ap (λ (g : HeaderFields). map head_of (take place load) ++ head_in g ∷ []) (sym is)
        ∙ sym (map-append head_of (take place load) (s ∷ []))
        ∙ ap (map head_of) (sym (take_next load place s e))
        ∙ ap (λ (n : ℕ). map head_of (take n load)) (sym more)

-- one more without a handle
pub none_more : (kept : List users.UserSegment) (g : SegmentHead) → handles_of kept ≡ map no_handle_of (heads_of kept)
    → handles_of (kept ++ (record { handle = None; head = g }) ∷ []) ≡ map no_handle_of (heads_of (kept ++ (record { handle = None; head = g }) ∷ []))
none_more kept g is =
    let one : users.UserSegment = record { handle = None; head = g } in
    map-append (λ (x : users.UserSegment). x.handle) kept (one ∷ []) ∙ ap (λ (os : List (Option Handle)). os ++ None ∷ []) is
    ∙ sym (map-append no_handle_of (heads_of kept) (g ∷ [])) ∙ ap (map no_handle_of) (sym (map-append (λ (x : users.UserSegment). x.head) kept (one ∷ [])))

-- ---- the number of the last segment

pub count_is : (file : List ℕ) (load : List Segment) → IsLoadable file load → (n : ℕ) (f : HeaderFields) → n ≡ length load → HasFields load n f → f.seg_num ≡ length load
count_is file load taken n f is has = go (segment_at load n) refl has
  where
    go : (o : Option Segment) → segment_at load n ≡ o → IsSomeAnd o (λ s. s.fields ≡ f) → f.seg_num ≡ length load
    go None e h = absurd h
    go (Some s) e h = ap (λ (g : HeaderFields). g.seg_num) (sym h) ∙ (loadable_has file load taken n s e).number' ∙ is
