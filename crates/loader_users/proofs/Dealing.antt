-- Handles dealt out one by one, and the search for where a program begins.
use Rattle.std.proofs.Common.{◌≡◌, ℕ, zero, suc, Bool, true, false, ◌+◌, ◌<◌, ◌==◌, ◌%◌, List, [], ◌∷◌, ◌++◌, length, drop, take, map, get_or, Option, Some, None, refl, sym, ap, ◌∙◌, arith, append_assoc}
use Rattle.std.specs.Prelude.{◌&&◌, slice_get, unwrap_or}
use Rattle.std.specs.Option.{option_map, option_and_then}
use Rattle.std.proofs.Math.Seq.{drop-cons}
use Rattle.std.proofs.Math.ListN.{set, length-set}
use Rattle.std.proofs.lemmas.Option.{same_Some, slice_get-get_or, slice_get-map}
use Rattle.std.proofs.lemmas.List.{length-map, map-append}
use Rattle.omf_format.specs.Header.{form_of}
use Rattle.iigs_meaning.specs.declared.handles.Handle.{Handle}
use Rattle.iigs_meaning.specs.Fits.{Slots}
use Rattle.loader_machine.specs.declared.seen.SegmentHead.{SegmentHead}
use Rattle.loader_machine.specs.Heads.{at_number, is_static, wants_of, entry_in}
use Rattle.loader_machine.specs.State.{HeldSegment}
use Rattle.loader_machine.specs.Presences.{presence, there_at, handle_at}
use Rattle.loader_machine.specs.Stands.{place_in}
use Rattle.loader_machine.specs.Steps.{held_of_heads}
use Rattle.loader_agrees.specs.laws.Lists.{number_map}
use Rattle.loader_users.specs.declared.user.UserSegment.{UserSegment}
use Rattle.loader_users.proofs.Wants.{heads}

-- ---- where a program begins

-- what is left of the search for the entry
abbrev pub Sought : (ℕ → ℕ) → List UserSegment → ℕ → Type 0
Sought place segments i = entry_in (heads (drop i segments)) place (i + 1) ≡ entry_in (heads segments) place 1

module _ (place : ℕ → ℕ) (segments xs : List UserSegment) (i : ℕ) (d : UserSegment) (same : xs ≡ segments) (inside : i < length xs) (sought : Sought place segments i) where
  s : UserSegment
  s = get_or xs i d

  from_here : drop i segments ≡ get_or xs i d ∷ drop (i + 1) segments
  from_here =
      let more : i + 1 ≡ suc i = omega arith in
      ap (λ (l : List UserSegment). drop i l) (sym same) ∙ drop-cons xs i d inside ∙ ap (λ (n : ℕ). get_or xs i d ∷ drop n xs) (sym more) ∙ ap (λ (l : List UserSegment). get_or xs i d ∷ drop (i + 1) l) same

  whole : entry_in ((get_or xs i d).head ∷ heads (drop (i + 1) segments)) place (i + 1) ≡ entry_in (heads segments) place 1
  whole = ap (λ (l : List UserSegment). entry_in (heads l) place (i + 1)) (sym from_here) ∙ sought

  pub sought_here : (is_static (get_or xs i d).head && (form_of (get_or xs i d).head.kind == 0x00)) ≡ true
      → entry_in (heads segments) place 1 ≡ Some ((place (i + 1) + (get_or xs i d).head.entry) % 0x1000000)
  sought_here is = sym (rw is at whole)

-- the place of the segment after `i` others
pub place_here : (slots : Slots) (segments xs : List UserSegment) (i : ℕ) (d : UserSegment) → xs ≡ segments → i < length xs
    → place_in slots (map (λ (s : UserSegment). s.handle) segments) (i + 1) ≡ unwrap_or (there_at (presence slots (get_or xs i d).handle)) 0
place_here slots segments xs i d same inside =
    let more : i + 1 ≡ suc i = omega arith in
    let at : at_number segments (suc i) ≡ Some (get_or xs i d) = ap (λ (l : List UserSegment). at_number l (suc i)) (sym same) ∙ slice_get-get_or xs i d inside in
    let handle : handle_at (map (λ (s : UserSegment). s.handle) segments) (suc i) ≡ (get_or xs i d).handle =
    ap (option_and_then (λ (o : Option Handle). o)) (number_map (λ (s : UserSegment). s.handle) segments (suc i) ∙ ap (option_map (λ (s : UserSegment). s.handle)) at) in
    ap (place_in slots (map (λ (s : UserSegment). s.handle) segments)) more ∙ ap (λ (o : Option Handle). unwrap_or (there_at (presence slots o)) 0) handle

pub and_true : (a b : Bool) → a ≡ true → b ≡ true → (a && b) ≡ true
and_true true true p q = refl
and_true true false p q = q
and_true false b p q = p

-- ---- handles

abbrev pub handles_of : List UserSegment → List (Option Handle)
handles_of segments = map (λ s. s.handle) segments

abbrev pub held_handles : List HeldSegment → List (Option Handle)
held_handles held = map (λ one. one.handle) held

-- the first segments have their handles, and the rest of the handles are for the rest of the segments
pub record Dealt (before : List UserSegment) (hs : List Handle) (place next count : ℕ) (now : List UserSegment) : Type 0 where
  pub same : heads now ≡ heads before
  pub front : handles_of (take place now) ++ held_handles (held_of_heads (heads (drop place before)) (drop next hs)) ≡ held_handles (held_of_heads (heads before) hs)
  pub left : next + length (wants_of (heads (drop place before))) ≡ length hs
  pub long : count ≡ length now

spread_static : (g : SegmentHead) (gs : List SegmentHead) (h : Handle) (ks : List Handle) → is_static g ≡ true → held_handles (held_of_heads (g ∷ gs) (h ∷ ks)) ≡ Some h ∷ held_handles (held_of_heads gs ks)
spread_static g gs h ks static = rw static refl

spread_other : (g : SegmentHead) (gs : List SegmentHead) (ks : List Handle) → is_static g ≡ false → held_handles (held_of_heads (g ∷ gs) ks) ≡ None ∷ held_handles (held_of_heads gs ks)
spread_other g gs [] other = refl
spread_other g gs (k ∷ ks) other = rw other refl

wants_static : (g : SegmentHead) (gs : List SegmentHead) → is_static g ≡ true → length (wants_of (g ∷ gs)) ≡ suc (length (wants_of gs))
wants_static g gs static = rw static refl

wants_other : (g : SegmentHead) (gs : List SegmentHead) → is_static g ≡ false → length (wants_of (g ∷ gs)) ≡ length (wants_of gs)
wants_other g gs other = rw other refl

head_same : (now before : List UserSegment) (place : ℕ) (d : UserSegment) → heads now ≡ heads before → place < length now → place < length before → (get_or now place d).head ≡ (get_or before place d).head
head_same now before place d same inside inside' =
    let one : slice_get (heads now) place ≡ Some (get_or now place d).head = slice_get-map (λ (s : UserSegment). s.head) now place ∙ ap (option_map (λ (s : UserSegment). s.head)) (slice_get-get_or now place d inside) in
    let two : slice_get (heads before) place ≡ Some (get_or before place d).head = slice_get-map (λ (s : UserSegment). s.head) before place ∙ ap (option_map (λ (s : UserSegment). s.head)) (slice_get-get_or before place d inside') in
    same_Some (get_or now place d).head (get_or before place d).head (sym one ∙ ap (λ (l : List SegmentHead). slice_get l place) same ∙ two)

module _ (before now later : List UserSegment) (hs : List Handle) (place next count : ℕ) (d x : UserSegment) (dealt : Dealt before hs place next count now) (inside : place < length now)
    (taken : take (place + 1) later ≡ take place now ++ x ∷ []) (kept : heads later ≡ heads now) (size : length later ≡ length now) where
  same_length : length now ≡ length before
  same_length = sym (length-map now (λ (s : UserSegment). s.head)) ∙ ap length dealt.same ∙ length-map before (λ (s : UserSegment). s.head)

  rest_is : heads (drop place before) ≡ (get_or now place d).head ∷ heads (drop (place + 1) before)
  rest_is =
      let inside' : place < length before = omega (arith, inside, same_length) in
      let more : place + 1 ≡ suc place = omega arith in
      ap heads (drop-cons before place d inside') ∙ ap (λ (g : SegmentHead). g ∷ heads (drop (suc place) before)) (sym (head_same now before place d dealt.same inside inside'))
      ∙ ap (λ (n : ℕ). (get_or now place d).head ∷ heads (drop n before)) (sym more)

  front_is : (rest : List (Option Handle)) → handles_of (take (place + 1) later) ++ rest ≡ handles_of (take place now) ++ (x.handle ∷ rest)
  front_is rest = ap (λ (l : List UserSegment). handles_of l ++ rest) taken ∙ ap (λ (l : List (Option Handle)). l ++ rest) (map-append (λ (s : UserSegment). s.handle) (take place now) (x ∷ []))
      ∙ append_assoc (handles_of (take place now)) (x.handle ∷ []) rest

  pub room_left : is_static (get_or now place d).head ≡ true → next < length hs
  room_left static = omega (arith, dealt.left, ap (λ (l : List SegmentHead). length (wants_of l)) rest_is, wants_static (get_or now place d).head (heads (drop (place + 1) before)) static)

  pub deal_static : (h : Handle) → is_static (get_or now place d).head ≡ true → x.handle ≡ Some (get_or hs next h) → Dealt before hs (place + 1) (next + 1) count later
  deal_static h static has =
      let more : next + 1 ≡ suc next = omega arith in
      let cut : drop next hs ≡ get_or hs next h ∷ drop (next + 1) hs = drop-cons hs next h (room_left static) ∙ ap (λ (n : ℕ). get_or hs next h ∷ drop n hs) (sym more) in
      let step : held_handles (held_of_heads (heads (drop place before)) (drop next hs)) ≡ Some (get_or hs next h) ∷ held_handles (held_of_heads (heads (drop (place + 1) before)) (drop (next + 1) hs)) =
      ap (λ (l : List SegmentHead). held_handles (held_of_heads l (drop next hs))) rest_is ∙ ap (λ (ks : List Handle). held_handles (held_of_heads ((get_or now place d).head ∷ heads (drop (place + 1) before)) ks)) cut
      ∙ spread_static (get_or now place d).head (heads (drop (place + 1) before)) (get_or hs next h) (drop (next + 1) hs) static in
      record {
        same = kept ∙ dealt.same;
        front = front_is (held_handles (held_of_heads (heads (drop (place + 1) before)) (drop (next + 1) hs)))
            ∙ ap (λ (o : Option Handle). handles_of (take place now) ++ (o ∷ held_handles (held_of_heads (heads (drop (place + 1) before)) (drop (next + 1) hs)))) has
            ∙ ap (λ (l : List (Option Handle)). handles_of (take place now) ++ l) (sym step) ∙ dealt.front;
        left = omega (arith, dealt.left, ap (λ (l : List SegmentHead). length (wants_of l)) rest_is, wants_static (get_or now place d).head (heads (drop (place + 1) before)) static);
        long = dealt.long ∙ sym size;
      }

  pub deal_other : is_static (get_or now place d).head ≡ false → x.handle ≡ None → Dealt before hs (place + 1) next count later
  deal_other other has =
      let step : held_handles (held_of_heads (heads (drop place before)) (drop next hs)) ≡ None ∷ held_handles (held_of_heads (heads (drop (place + 1) before)) (drop next hs)) =
      ap (λ (l : List SegmentHead). held_handles (held_of_heads l (drop next hs))) rest_is
      ∙ spread_other (get_or now place d).head (heads (drop (place + 1) before)) (drop next hs) other in
      record {
        same = kept ∙ dealt.same;
        front = front_is (held_handles (held_of_heads (heads (drop (place + 1) before)) (drop next hs)))
            ∙ ap (λ (o : Option Handle). handles_of (take place now) ++ (o ∷ held_handles (held_of_heads (heads (drop (place + 1) before)) (drop next hs)))) has
            ∙ ap (λ (l : List (Option Handle)). handles_of (take place now) ++ l) (sym step) ∙ dealt.front;
        left = omega (arith, dealt.left, ap (λ (l : List SegmentHead). length (wants_of l)) rest_is, wants_other (get_or now place d).head (heads (drop (place + 1) before)) other);
        long = dealt.long ∙ sym size;
      }

-- ---- one segment set

set_taken : (xs : List UserSegment) (k : ℕ) (x : UserSegment) → k < length xs → take (k + 1) (set xs k x) ≡ take k xs ++ x ∷ []
set_taken [] k x inside = absurd (omega (arith, inside))
set_taken (y ∷ xs) zero x inside = let one : zero + 1 ≡ suc zero = omega arith in refl
set_taken (y ∷ xs) (suc k) x inside =
    let more : suc k + 1 ≡ suc (k + 1) = omega arith in
    ap (λ (n : ℕ). take n (y ∷ set xs k x)) more ∙ ap (λ (l : List UserSegment). y ∷ l) (set_taken xs k x (omega (arith, inside)))

set_heads : (xs : List UserSegment) (k : ℕ) (x d : UserSegment) → k < length xs → x.head ≡ (get_or xs k d).head → heads (set xs k x) ≡ heads xs
set_heads [] k x d inside same = refl
set_heads (y ∷ xs) zero x d inside same = ap (λ (g : SegmentHead). g ∷ heads xs) same
set_heads (y ∷ xs) (suc k) x d inside same = ap (λ (l : List SegmentHead). y.head ∷ l) (set_heads xs k x d (omega (arith, inside)) same)

-- the segment at a place is one with this header, and is static: it gets the next handle
pub set_static : (before now : List UserSegment) (hs : List Handle) (place next count : ℕ) (s : UserSegment) (h : Handle) → Dealt before hs place next count now → place < count → s ≡ get_or now place s
    → is_static s.head ≡ true → Dealt before hs (place + 1) (next + 1) count (set now place (record { handle = Some (get_or hs next h); head = s.head }))
set_static before now hs place next count s h dealt less is static =
    let inside : place < length now = omega (arith, less, dealt.long) in
    let head : s.head ≡ (get_or now place s).head = ap (λ (x : UserSegment). x.head) is in
    let x : UserSegment = record { handle = Some (get_or hs next h); head = s.head } in
    deal_static before now (set now place x) hs place next count s x dealt inside (set_taken now place x inside) (set_heads now place x s inside head) (length-set now place x)
    h (sym (ap is_static head) ∙ static) refl

pub set_other : (before now : List UserSegment) (hs : List Handle) (place next count : ℕ) (s : UserSegment) → Dealt before hs place next count now → place < count → s ≡ get_or now place s
    → is_static s.head ≡ false → Dealt before hs (place + 1) next count (set now place (record { handle = None; head = s.head }))
set_other before now hs place next count s dealt less is other =
    let inside : place < length now = omega (arith, less, dealt.long) in
    let head : s.head ≡ (get_or now place s).head = ap (λ (x : UserSegment). x.head) is in
    let x : UserSegment = record { handle = None; head = s.head } in
    deal_other before now (set now place x) hs place next count s x dealt inside (set_taken now place x inside) (set_heads now place x s inside head) (length-set now place x)
    (sym (ap is_static head) ∙ other) refl

pub set_room : (before now : List UserSegment) (hs : List Handle) (place next count : ℕ) (s : UserSegment) → Dealt before hs place next count now → place < count → s ≡ get_or now place s
    → is_static s.head ≡ true → next < length hs
set_room before now hs place next count s dealt less is static =
    let inside : place < length now = omega (arith, less, dealt.long) in
    let head : s.head ≡ (get_or now place s).head = ap (λ (x : UserSegment). x.head) is in
    let x : UserSegment = record { handle = None; head = s.head } in
    room_left before now (set now place x) hs place next count s x dealt inside (set_taken now place x inside) (set_heads now place x s inside head) (length-set now place x) (sym (ap is_static head) ∙ static)
