-- Segments written into their blocks one by one.
use Rattle.std.proofs.Common.{◌≡◌, ◌≢◌, inl, inr, ℕ, zero, suc, ◌+◌, ◌<◌, ◌≤◌, List, [], ◌∷◌, length, map, get_or, Option, Some, None, IsSome, refl, sym, ap, subst, ◌∙◌, arith}
use Rattle.std.specs.Prelude.{IsSomeAnd}
use Rattle.std.specs.Option.{option_map, option_and_then}
use Rattle.std.proofs.Math.ListN.{set}
use Rattle.std.proofs.lemmas.Bool.{cases_eq}
use Rattle.std.proofs.lemmas.Option.{same_Some, slice_get-get_or}
use Rattle.std.proofs.lemmas.List.{get_or-set_other}
use Rattle.omf_format.specs.File.{Segment}
use Rattle.iigs_meaning.specs.declared.handles.Handle.{Handle}
use Rattle.iigs_meaning.specs.Slots.{get}
use Rattle.iigs_meaning.specs.Fits.{Slots}
use Rattle.iigs_meaning.specs.Memory.{Memory, bytes_at}
use Rattle.loader_machine.specs.declared.seen.SegmentHead.{SegmentHead}
use Rattle.loader_machine.specs.Heads.{head_of, at_number}
use Rattle.loader_machine.specs.Presences.{handle_at}
use Rattle.loader_agrees.specs.laws.Lists.{number_map}
use Rattle.loader_agrees.specs.laws.Reads.{headed}
use Rattle.loader_users.specs.declared.user.UserSegment as users
use Rattle.loader_users.specs.Filling.{HasHead, IsFilled, IsWritten, IsReady, AreReady, AreFilled}

abbrev pub heads_of : List users.UserSegment → List SegmentHead
heads_of segments = map (λ s. s.head) segments

abbrev pub handles_of : List users.UserSegment → List (Option Handle)
handles_of segments = map (λ s. s.handle) segments

-- the header and the handle of the segment after `place` others
pub head_here : (segments : List users.UserSegment) (place : ℕ) (s : users.UserSegment) → place < length segments → s ≡ get_or segments place s → at_number (heads_of segments) (place + 1) ≡ Some s.head
head_here segments place s inside is =
    let more : place + 1 ≡ suc place = omega arith in
    ap (at_number (heads_of segments)) more ∙ number_map (λ (x : users.UserSegment). x.head) segments (suc place)
    ∙ ap (option_map (λ (x : users.UserSegment). x.head)) (slice_get-get_or segments place s inside) ∙ ap (λ (x : users.UserSegment). Some x.head) (sym is)

pub handle_here : (segments : List users.UserSegment) (place : ℕ) (s : users.UserSegment) → place < length segments → s ≡ get_or segments place s → handle_at (handles_of segments) (place + 1) ≡ s.handle
handle_here segments place s inside is =
    let more : place + 1 ≡ suc place = omega arith in
    ap (handle_at (handles_of segments)) more ∙ ap (option_and_then (λ (o : Option Handle). o)) (number_map (λ (x : users.UserSegment). x.handle) segments (suc place)
    ∙ ap (option_map (λ (x : users.UserSegment). x.handle)) (slice_get-get_or segments place s inside)) ∙ ap (λ (x : users.UserSegment). x.handle) (sym is)

pub has_head : (load : List Segment) (segments : List users.UserSegment) (place : ℕ) (s : users.UserSegment) → heads_of segments ≡ map head_of load → place < length segments → s ≡ get_or segments place s
    → HasHead load (place + 1) s.head
has_head load segments place s same inside is =
    let found = headed load (place + 1) s.head (ap (λ (hs : List SegmentHead). at_number hs (place + 1)) (sym same) ∙ head_here segments place s inside is) in
    rw found.1 (sym found.2)

-- ---- one more

-- bytes of the same length that are put in a place are found there, also where the list has no such place
set_here : (all : List (List ℕ)) (slot : ℕ) (w : List ℕ) → length w ≡ length (get_or all slot []) → get_or (set all slot w) slot [] ≡ w
set_here [] slot w same = sym (empty w same)
  where
    empty : (v : List ℕ) → length v ≡ 0 → v ≡ []
    empty [] e = refl
    empty (x ∷ v) e = absurd (omega (arith, e))
set_here (x ∷ all) zero w same = refl
set_here (x ∷ all) (suc k) w same = set_here all k w same

pub filled_skip : (load : List Segment) (handles : List (Option Handle)) (user : ℕ) (places : List (Option ℕ)) (old now : Memory) (k : ℕ) → AreFilled load handles user places old now k
    → handle_at handles (k + 1) ≡ None → AreFilled load handles user places old now (k + 1)
filled_skip load handles user places old now k so_far none = record {
  banks = so_far.banks;
  slots = so_far.slots;
  filled = λ n h le is. elim (cases_eq n (k + 1)) [
    | inl last ↦ (let clash : None ≡ Some h = sym none ∙ ap (handle_at handles) (sym last) ∙ is in absurd cc)
    | inr before ↦ so_far.filled n h (omega (arith, le, before)) is
  ];
  stay = λ place apart. so_far.stay place (λ n h le is same. apart n h (omega (arith, le)) is same);
  sizes = so_far.sizes;
}

module _ (load : List Segment) (heads : List SegmentHead) (handles : List (Option Handle)) (user : ℕ) (places : List (Option ℕ)) (old now new : Memory) (k : ℕ) (h : Handle) (head : SegmentHead)
    (so_far : AreFilled load handles user places old now k) (ready : AreReady old heads handles) (has : at_number heads (k + 1) ≡ Some head) (is_handle : handle_at handles (k + 1) ≡ Some h) where
  abbrev one : IsReady old head h
  one = ready.each (k + 1) head h has is_handle

  pub there_now : IsSomeAnd (get now.slots h) (λ block. IsSome block.at)
  there_now = subst (λ (slots : Slots). IsSomeAnd (get slots h) (λ block. IsSome block.at)) (sym so_far.slots) one.there

  pub fits_now : head.length ≤ length (bytes_at now h.slot)
  fits_now = omega (arith, one.fits, so_far.sizes h.slot)

  module _ (written : IsWritten load (k + 1) user places now h new) where
    here : bytes_at new h.slot ≡ written.content
    here = ap (λ (m : Memory). bytes_at m h.slot) written.new_is ∙ set_here now.bytes h.slot written.content written.same

    apart : (place : ℕ) → place ≢ h.slot → bytes_at new place ≡ bytes_at now place
    apart place ne = ap (λ (m : Memory). bytes_at m place) written.new_is ∙ get_or-set_other now.bytes h.slot place written.content [] ne

    filled : (n : ℕ) (j : Handle) → n ≤ k + 1 → handle_at handles n ≡ Some j → IsFilled load n user places (bytes_at new j.slot)
    filled n j le is = elim (cases_eq n (k + 1)) [
      | inl last ↦
          (let same : j ≡ h = same_Some j h (sym is ∙ ap (handle_at handles) last ∙ is_handle) in
          let bytes : bytes_at new j.slot ≡ written.content = ap (λ (x : Handle). bytes_at new x.slot) same ∙ here in
          subst (IsFilled load n user places) (sym bytes) (subst (λ (m : ℕ). IsFilled load m user places written.content) (sym last) written.filled))
      | inr before ↦
          (let ne : j.slot ≢ h.slot = λ same. before (ready.once n (k + 1) j h is is_handle same) in
          subst (IsFilled load n user places) (sym (apart j.slot ne)) (so_far.filled n j (omega (arith, le, before)) is))
    ]

    sizes : (place : ℕ) → length (bytes_at new place) ≡ length (bytes_at old place)
    sizes place = elim (cases_eq place h.slot) [
      | inl same ↦ ap (λ (p : ℕ). length (bytes_at new p)) same ∙ ap length here ∙ written.same ∙ so_far.sizes h.slot ∙ ap (λ (p : ℕ). length (bytes_at old p)) (sym same)
      | inr ne ↦ ap length (apart place ne) ∙ so_far.sizes place
    ]

    pub filled_more : AreFilled load handles user places old new (k + 1)
    filled_more = record {
      banks = ap (λ (m : Memory). m.banks) written.new_is ∙ so_far.banks;
      slots = ap (λ (m : Memory). m.slots) written.new_is ∙ so_far.slots;
      filled = filled;
      stay = λ place none.
          let ne : place ≢ h.slot = λ same. none (k + 1) h (omega arith) is_handle (sym same) in
          apart place ne ∙ so_far.stay place (λ n j le is same. none n j (omega (arith, le)) is same);
      sizes = sizes;
    }
