-- Going over the parts of cells gives their stretches, or the first broken part.
use Rattle.std.proofs.Common.{◌≡◌, ℕ, ℤ, zero, suc, ◌+◌, ◌-◌, ◌≤◌, Bool, true, false, eqb, cond, List, [], ◌∷◌, ◌++◌, map, Option, Some, None, Result, Ok, Err, refl, sym, ap, ◌∙◌, append_assoc, arith, inl, inr}
use Rattle.std.specs.Prelude.{not, option_map}
use Rattle.std.specs.Ordering.{int_eq}
use Rattle.std.proofs.lemmas.Bool.{cases_Bool, and_parts, and_from, eqb-true, eq-eqb, ne_eqb}
use Rattle.std.proofs.lemmas.Bool.Decides.{Decides-int_eq}
use Rattle.std.proofs.lemmas.List.{map-append}
use Rattle.load_meaning.specs.Cells.{Cell, Byte, Part}
use Rattle.load_meaning.specs.Cells as format
use Rattle.omf_compact.specs.Stretches.{same_cell, broken_from, first_broken, run_length, stretches_from, stretches}
use Rattle.omf_compact.specs.laws.StretchLaws.{is_same, same_is}
use Rattle.load_writer.specs.declared.written.Patch.{Patch}
use Rattle.load_writer.specs.WrittenParts.{seen}
use Rattle.omf_compact.specs.laws.Walk.{Found, parts_at, goes_on, longer, extended, with_part, or_broken, walk}

-- ---- the last patch

extended-last : (ps : List format.Patch) (p : format.Patch) (at : ℕ) (c : Cell) → extended (ps ++ p ∷ []) at c ≡ cond (goes_on p at c) (Some (ps ++ longer p ∷ [])) None
extended-last [] p at c = refl
extended-last (q ∷ []) p at c = elim (cases_Bool (goes_on p at c)) [
  | inl goes ↦ rw goes refl
  | inr stops ↦ rw stops refl
]
extended-last (q ∷ r ∷ ps) p at c =
    ap (option_map (λ (l : List format.Patch). q ∷ l)) (extended-last (r ∷ ps) p at c) ∙ by_test (goes_on p at c)
  where
    by_test : (b : Bool) → option_map (λ (l : List format.Patch). q ∷ l) (cond b (Some (r ∷ ps ++ longer p ∷ [])) None) ≡ cond b (Some (q ∷ r ∷ ps ++ longer p ∷ [])) None
    by_test true = refl
    by_test false = refl

pub not-first : (ps : List format.Patch) (at f s o : ℕ) (sh : ℤ) (i : ℕ) → (i ≡ 0 → ⊥) → with_part ps at (Part f s o sh i) ≡ extended ps at (Part f s o sh i)
not-first ps at f s o sh zero some = absurd (some refl)
not-first ps at f s o sh (suc i) some = refl

abbrev no_patches : Option (List format.Patch)
no_patches = None

-- a part that goes on makes the last patch longer
pub part-puts : (old rest : List Patch) (last next : Patch) (at f s o : ℕ) (sh : ℤ) (i : ℕ) → old ≡ rest ++ last ∷ [] → seen next ≡ longer (seen last) → goes_on (seen last) at (Part f s o sh i) ≡ true → (i ≡ 0 → ⊥)
    → with_part (map seen old) at (Part f s o sh i) ≡ Some (map seen (rest ++ next ∷ []))
part-puts old rest last next at f s o sh i is more goes some =
    not-first (map seen old) at f s o sh i some
    ∙ ap (λ (l : List Patch). extended (map seen l) at (Part f s o sh i)) is ∙ ap (λ (l : List format.Patch). extended l at (Part f s o sh i)) (map-append seen rest (last ∷ []))
    ∙ extended-last (map seen rest) (seen last) at (Part f s o sh i) ∙ ap (λ (b : Bool). cond b (Some (map seen rest ++ longer (seen last) ∷ [])) no_patches) goes
    ∙ ap (λ (p : format.Patch). some_patches (map seen rest ++ p ∷ [])) (sym more) ∙ ap (λ (l : List format.Patch). some_patches l) (sym (map-append seen rest (next ∷ [])))
  where
    some_patches : List format.Patch → Option (List format.Patch)
    some_patches l = Some l

-- and one that doesn't is broken
pub part-breaks : (old rest : List Patch) (last : Patch) (at f s o : ℕ) (sh : ℤ) (i : ℕ) → old ≡ rest ++ last ∷ [] → goes_on (seen last) at (Part f s o sh i) ≡ false → (i ≡ 0 → ⊥)
    → with_part (map seen old) at (Part f s o sh i) ≡ None
part-breaks old rest last at f s o sh i is stops some =
    not-first (map seen old) at f s o sh i some
    ∙ ap (λ (l : List Patch). extended (map seen l) at (Part f s o sh i)) is ∙ ap (λ (l : List format.Patch). extended l at (Part f s o sh i)) (map-append seen rest (last ∷ []))
    ∙ extended-last (map seen rest) (seen last) at (Part f s o sh i) ∙ ap (λ (b : Bool). cond b (Some (map seen rest ++ longer (seen last) ∷ [])) no_patches) stops

-- ---- a step

pub walk-step : (ps more : List format.Patch) (found : Found) (founds : List Found) → with_part ps found.0 found.1 ≡ Some more → walk ps (found ∷ founds) ≡ walk more founds
walk-step ps more found founds e = ap (λ (o : Option (List format.Patch)). or_broken o found.0 (λ (l : List format.Patch). walk l founds)) e

pub walk-stop : (ps : List format.Patch) (found : Found) (founds : List Found) → with_part ps found.0 found.1 ≡ None → walk ps (found ∷ founds) ≡ Err found.0
walk-stop ps found founds e = ap (λ (o : Option (List format.Patch)). or_broken o found.0 (λ (l : List format.Patch). walk l founds)) e

-- ---- all parts

-- the patches, unless a part is broken
abbrev pub answer : Option ℕ → List format.Patch → Result (List format.Patch) ℕ
answer None patches = Ok patches
answer (Some at) patches = Err at

-- the cell before a place, as far as the last patch shows: its last byte where it ends there, and else no part
abbrev last_cell : format.Patch → ℕ → Cell
last_cell p at = cond (eqb (p.location + p.count) at) (Part p.file p.segment p.offset p.shift (p.count - 1)) (Byte 0)

-- the last patch, with the cells that continue it where it ends there
abbrev grown : format.Patch → ℕ → List Cell → format.Patch
grown p at of = cond (eqb (p.location + p.count) at) (record p { count = p.count + run_length p.file p.segment p.offset p.shift p.count of }) p

-- whatever byte is before, no part goes on from it
broken-byte : (at b : ℕ) (of : List Cell) → broken_from at (Some (Byte b)) of ≡ broken_from at (Some (Byte 0)) of
broken-byte at b [] = refl
broken-byte at b (Byte c ∷ of) = refl
broken-byte at b (Part f s o sh zero ∷ of) = refl
broken-byte at b (Part f s o sh (suc i) ∷ of) = refl

broken-none : (at : ℕ) (of : List Cell) → broken_from at None of ≡ broken_from at (Some (Byte 0)) of
broken-none at [] = refl
broken-none at (Byte c ∷ of) = refl
broken-none at (Part f s o sh zero ∷ of) = refl
broken-none at (Part f s o sh (suc i) ∷ of) = refl

ends-before : (p : format.Patch) (at : ℕ) → p.location + p.count ≤ at → eqb (p.location + p.count) (at + 1) ≡ false
ends-before p at le = ne_eqb (p.location + p.count) (at + 1) (λ e. absurd (omega (arith, le, e)))

no-more : (p : format.Patch) (at : ℕ) (of : List Cell) → run_length p.file p.segment p.offset p.shift p.count of ≡ 0 → grown p at of ≡ p
no-more p at of none = elim (cases_Bool (eqb (p.location + p.count) at)) [
  | inl ends ↦ let same : p.count + run_length p.file p.segment p.offset p.shift p.count of ≡ p.count = omega (arith, none) in rw ends (ap (λ (n : ℕ). counted n) same)
  | inr apart ↦ rw apart refl
]
  where
    counted : ℕ → format.Patch
    counted n = record p { count = n }

abbrev one : ℕ → ℕ → ℕ → ℕ → ℤ → format.Patch
one at f s o sh = record { location = at; count = 1; file = f; segment = s; offset = o; shift = sh }

part_index : {f s o i g t p j : ℕ} {sh th : ℤ} → Part f s o sh i ≡ Part g t p th j → i ≡ j
part_index e = cc

run-zero : (f s o : ℕ) (sh : ℤ) (i g t p : ℕ) (th : ℤ) (of : List Cell) → 1 ≤ i → run_length f s o sh i (Part g t p th 0 ∷ of) ≡ 0
run-zero f s o sh i g t p th of some = elim (cases_Bool (same_cell (Part g t p th 0) (Part f s o sh i))) [
  | inl same ↦ absurd (let e = part_index (same_is (Part g t p th 0) (Part f s o sh i) same) in omega (arith, e, some))
  | inr other ↦ rw other refl
]

-- what the walk answers from a place on, after patches of which this is the last
Claim : List format.Patch → format.Patch → ℕ → List Cell → Type 0
Claim done p at of = walk (done ++ p ∷ []) (parts_at at of) ≡ answer (broken_from at (Some (last_cell p at)) of) (done ++ grown p at of ∷ stretches_from at of)

claim-end : (done : List format.Patch) (p : format.Patch) (at : ℕ) → Claim done p at []
unfolding Claim
claim-end done p at = ap (λ (q : format.Patch). ok (done ++ q ∷ [])) (sym (no-more p at [] refl))
  where
    ok : List format.Patch → Result (List format.Patch) ℕ
    ok l = Ok l

claim-byte : (done : List format.Patch) (p : format.Patch) (at b : ℕ) (of : List Cell) → p.location + p.count ≤ at → Claim done p (at + 1) of → Claim done p at (Byte b ∷ of)
unfolding Claim
claim-byte done p at b of le again =
    let apart = ends-before p at le in
    let cell : last_cell p (at + 1) ≡ Byte 0 = rw apart refl in
    let same : grown p (at + 1) of ≡ p = rw apart refl in
    again
    ∙ ap (λ (c : Cell). answer (broken_from (at + 1) (Some c) of) (done ++ grown p (at + 1) of ∷ stretches_from (at + 1) of)) cell
    ∙ ap (λ (o : Option ℕ). answer o (done ++ grown p (at + 1) of ∷ stretches_from (at + 1) of)) (sym (broken-byte (at + 1) b of))
    ∙ ap (λ (q : format.Patch). answer (broken_from (at + 1) (Some (Byte b)) of) (done ++ q ∷ stretches_from (at + 1) of)) (same ∙ sym (no-more p at (Byte b ∷ of) refl))

claim-first : (done : List format.Patch) (p : format.Patch) (at f s o : ℕ) (sh : ℤ) (of : List Cell) → 1 ≤ p.count → Claim (done ++ p ∷ []) (one at f s o sh) (at + 1) of → Claim done p at (Part f s o sh 0 ∷ of)
unfolding Claim
claim-first done p at f s o sh of some again =
    let ends : eqb (at + 1) (at + 1) ≡ true = eq-eqb (at + 1) (at + 1) refl in
    let q = one at f s o sh in
    let cell : last_cell q (at + 1) ≡ Part f s o sh 0 = rw ends refl in
    let full : grown q (at + 1) of ≡ record { location = at; count = suc (run_length f s o sh 1 of); file = f; segment = s; offset = o; shift = sh } =
    let more : 1 + run_length f s o sh 1 of ≡ suc (run_length f s o sh 1 of) = omega arith in
    rw ends (ap (λ (n : ℕ). counted n) more) in
    again
    ∙ ap (λ (c : Cell). answer (broken_from (at + 1) (Some c) of) ((done ++ p ∷ []) ++ grown q (at + 1) of ∷ stretches_from (at + 1) of)) cell
    ∙ ap (λ (r : format.Patch). answer (broken_from (at + 1) (Some (Part f s o sh 0)) of) ((done ++ p ∷ []) ++ r ∷ stretches_from (at + 1) of)) full
    ∙ ap (λ (l : List format.Patch). answer (broken_from (at + 1) (Some (Part f s o sh 0)) of) l) (append_assoc done (p ∷ []) (stretches_from at (Part f s o sh 0 ∷ of)))
    ∙ ap (λ (r : format.Patch). answer (broken_from (at + 1) (Some (Part f s o sh 0)) of) (done ++ r ∷ stretches_from at (Part f s o sh 0 ∷ of))) (sym (no-more p at (Part f s o sh 0 ∷ of) (run-zero p.file p.segment p.offset p.shift p.count f s o sh of some)))
  where
    counted : ℕ → format.Patch
    counted n = record { location = at; count = n; file = f; segment = s; offset = o; shift = sh }

-- what it is to go on
goes-is : (p : format.Patch) (at f s o : ℕ) (sh : ℤ) (i : ℕ) → goes_on p at (Part f s o sh i) ≡ true → (p.location + p.count ≡ at) × (Part p.file p.segment p.offset p.shift p.count ≡ Part f s o sh i)
goes-is p at f s o sh i e =
    let a = and_parts (eqb p.file f) _ e in
    let b = and_parts (eqb (p.location + p.count) at) _ a.1 in
    let c = and_parts (eqb p.count i) _ b.1 in
    let d = and_parts (eqb p.segment s) _ c.1 in
    let g = and_parts (eqb p.offset o) (int_eq p.shift sh) d.1 in
    let ef = eqb-true p.file f a.0 in
    let ei = eqb-true p.count i c.0 in
    let es = eqb-true p.segment s d.0 in
    let eo = eqb-true p.offset o g.0 in
    let eh = (Decides-int_eq p.shift sh).0 g.1 in
    (eqb-true (p.location + p.count) at b.0, parts_equal ef es eo eh ei)
  where
    parts_equal : p.file ≡ f → p.segment ≡ s → p.offset ≡ o → p.shift ≡ sh → p.count ≡ i → Part p.file p.segment p.offset p.shift p.count ≡ Part f s o sh i
    parts_equal a b c d e = cc

is-going : (p : format.Patch) (at f s o : ℕ) (sh : ℤ) (i : ℕ) → p.location + p.count ≡ at → Part p.file p.segment p.offset p.shift p.count ≡ Part f s o sh i → goes_on p at (Part f s o sh i) ≡ true
is-going p at f s o sh i ends same =
    and_from _ _ (eq-eqb p.file f (file_in same)) (and_from _ _ (eq-eqb (p.location + p.count) at ends) (and_from _ _ (eq-eqb p.count i (part_index same))
    (and_from _ _ (eq-eqb p.segment s (segment_in same)) (and_from _ _ (eq-eqb p.offset o (offset_in same)) ((Decides-int_eq p.shift sh).1 (shift_in same))))))
  where
    file_in : Part p.file p.segment p.offset p.shift p.count ≡ Part f s o sh i → p.file ≡ f
    file_in e = cc

    segment_in : Part p.file p.segment p.offset p.shift p.count ≡ Part f s o sh i → p.segment ≡ s
    segment_in e = cc

    offset_in : Part p.file p.segment p.offset p.shift p.count ≡ Part f s o sh i → p.offset ≡ o
    offset_in e = cc

    shift_in : Part p.file p.segment p.offset p.shift p.count ≡ Part f s o sh i → p.shift ≡ sh
    shift_in e = cc

-- the cell before has the number before
before-is : (p : format.Patch) (at f s o : ℕ) (sh : ℤ) (i : ℕ) → 1 ≤ p.count → same_cell (last_cell p at) (Part f s o sh i) ≡ true → goes_on p at (Part f s o sh (suc i)) ≡ true
before-is p at f s o sh i some same = elim (cases_Bool (eqb (p.location + p.count) at)) [
  | inl ends ↦
      let cell : last_cell p at ≡ Part p.file p.segment p.offset p.shift (p.count - 1) = rw ends refl in
      let is = sym cell ∙ same_is (last_cell p at) (Part f s o sh i) same in
      let next : Part p.file p.segment p.offset p.shift p.count ≡ Part f s o sh (suc i) = up is (omega (arith, some, part_index is)) in
      is-going p at f s o sh (suc i) (eqb-true (p.location + p.count) at ends) next
  | inr apart ↦
      let cell : last_cell p at ≡ Byte 0 = rw apart refl in
      absurd (byte_part (sym cell ∙ same_is (last_cell p at) (Part f s o sh i) same))
]
  where
    up : Part p.file p.segment p.offset p.shift (p.count - 1) ≡ Part f s o sh i → p.count ≡ suc i → Part p.file p.segment p.offset p.shift p.count ≡ Part f s o sh (suc i)
    up e count = cc

    byte_part : Byte 0 ≡ Part f s o sh i → ⊥
    byte_part e = absurd (clash (ap is_byte e))
      where
        is_byte : Cell → Bool
        is_byte (Byte b) = true
        is_byte (Part g t r th j) = false

        clash : true ≡ false → ⊥
        clash e' = cc

claim-stop : (done : List format.Patch) (p : format.Patch) (at f s o : ℕ) (sh : ℤ) (i : ℕ) (of : List Cell) → 1 ≤ p.count → goes_on p at (Part f s o sh (suc i)) ≡ false → Claim done p at (Part f s o sh (suc i) ∷ of)
unfolding Claim
claim-stop done p at f s o sh i of some stops =
    let c = Part f s o sh (suc i) in
    let none : with_part (done ++ p ∷ []) at c ≡ None = extended-last done p at c ∙ ap (λ (b : Bool). cond b (Some (done ++ longer p ∷ [])) no_patches) stops in
    let broken : not (same_cell (last_cell p at) (Part f s o sh i)) ≡ true = elim (cases_Bool (same_cell (last_cell p at) (Part f s o sh i))) [
      | inl same ↦ absurd (clash (before-is p at f s o sh i some same) stops)
      | inr other ↦ ap not other
    ] in
    walk-stop (done ++ p ∷ []) (at, c) (parts_at (at + 1) of) none
    ∙ sym (ap (λ (b : Bool). answer (cond b (Some at) (broken_from (at + 1) (Some c) of)) (done ++ grown p at (c ∷ of) ∷ stretches_from at (c ∷ of))) broken)
  where
    clash : {b : Bool} → b ≡ true → b ≡ false → ⊥
    clash x y = cc

claim-more : (done : List format.Patch) (p : format.Patch) (at f s o : ℕ) (sh : ℤ) (i : ℕ) (of : List Cell) → 1 ≤ p.count → goes_on p at (Part f s o sh (suc i)) ≡ true → Claim done (longer p) (at + 1) of → Claim done p at (Part f s o sh (suc i) ∷ of)
unfolding Claim
claim-more done p at f s o sh i of some goes again =
    let c = Part f s o sh (suc i) in
    let is = goes-is p at f s o sh (suc i) goes in
    let put : with_part (done ++ p ∷ []) at c ≡ Some (done ++ longer p ∷ []) = extended-last done p at c ∙ ap (λ (b : Bool). cond b (Some (done ++ longer p ∷ [])) no_patches) goes in
    let ends : eqb (p.location + p.count) at ≡ true = eq-eqb (p.location + p.count) at is.0 in
    let ends' : eqb (p.location + (p.count + 1)) (at + 1) ≡ true = eq-eqb (p.location + (p.count + 1)) (at + 1) (omega (arith, is.0)) in
    let cell : last_cell (longer p) (at + 1) ≡ c = let less : p.count + 1 - 1 ≡ p.count = omega arith in rw ends' (ap (λ (n : ℕ). Part p.file p.segment p.offset p.shift n) less ∙ is.1) in
    let before : same_cell (last_cell p at) (Part f s o sh i) ≡ true =
    let last : last_cell p at ≡ Part f s o sh i = rw ends (down is.1) in ap (λ (d : Cell). same_cell d (Part f s o sh i)) last ∙ is_same (Part f s o sh i) in
    let sound : not (same_cell (last_cell p at) (Part f s o sh i)) ≡ false = ap not before in
    let first : same_cell c (Part p.file p.segment p.offset p.shift p.count) ≡ true = ap (λ (d : Cell). same_cell d (Part p.file p.segment p.offset p.shift p.count)) (sym is.1) ∙ is_same (Part p.file p.segment p.offset p.shift p.count) in
    let full : grown (longer p) (at + 1) of ≡ grown p at (c ∷ of) = grown-same ends ends' first in
    walk-step (done ++ p ∷ []) (done ++ longer p ∷ []) (at, c) (parts_at (at + 1) of) put ∙ again
    ∙ ap (λ (d : Cell). answer (broken_from (at + 1) (Some d) of) (done ++ grown (longer p) (at + 1) of ∷ stretches_from (at + 1) of)) cell
    ∙ ap (λ (r : format.Patch). answer (broken_from (at + 1) (Some c) of) (done ++ r ∷ stretches_from (at + 1) of)) full
    ∙ sym (ap (λ (b : Bool). answer (cond b (Some at) (broken_from (at + 1) (Some c) of)) (done ++ grown p at (c ∷ of) ∷ stretches_from at (c ∷ of))) sound)
  where
    down : Part p.file p.segment p.offset p.shift p.count ≡ Part f s o sh (suc i) → Part p.file p.segment p.offset p.shift (p.count - 1) ≡ Part f s o sh i
    down e = low e (omega (arith, part_index e))
      where
        low : Part p.file p.segment p.offset p.shift p.count ≡ Part f s o sh (suc i) → p.count - 1 ≡ i → Part p.file p.segment p.offset p.shift (p.count - 1) ≡ Part f s o sh i
        low e' index = cc

    counted : ℕ → format.Patch
    counted n = record p { count = n }

    grown-same : eqb (p.location + p.count) at ≡ true → eqb (p.location + (p.count + 1)) (at + 1) ≡ true → same_cell (Part f s o sh (suc i)) (Part p.file p.segment p.offset p.shift p.count) ≡ true
        → grown (longer p) (at + 1) of ≡ grown p at (Part f s o sh (suc i) ∷ of)
    grown-same ends ends' first =
        let more : p.count + 1 + run_length p.file p.segment p.offset p.shift (p.count + 1) of ≡ p.count + suc (run_length p.file p.segment p.offset p.shift (suc p.count) of) =
        let next : p.count + 1 ≡ suc p.count = omega arith in let same = ap (λ (n : ℕ). run_length p.file p.segment p.offset p.shift n of) next in omega (arith, same) in
        rw (ends, ends', first) (ap (λ (n : ℕ). counted n) more)

-- after patches, whatever cells follow
claim : (done : List format.Patch) (p : format.Patch) (at : ℕ) (of : List Cell) → p.location + p.count ≤ at → 1 ≤ p.count → Claim done p at of
claim done p at [] le some = claim-end done p at
claim done p at (Byte b ∷ of) le some = claim-byte done p at b of le (claim done p (at + 1) of (omega (arith, le)) some)
claim done p at (Part f s o sh zero ∷ of) le some = claim-first done p at f s o sh of some (claim (done ++ p ∷ []) (one at f s o sh) (at + 1) of (omega arith) (omega arith))
claim done p at (Part f s o sh (suc i) ∷ of) le some = elim (cases_Bool (goes_on p at (Part f s o sh (suc i)))) [
  | inl goes ↦ claim-more done p at f s o sh i of some goes (claim done (longer p) (at + 1) of (omega (arith, (goes-is p at f s o sh (suc i) goes).0)) (omega arith))
  | inr stops ↦ claim-stop done p at f s o sh i of some stops
]

-- after no patch
claim-empty : (at : ℕ) (of : List Cell) → walk [] (parts_at at of) ≡ answer (broken_from at (Some (Byte 0)) of) (stretches_from at of)
unfolding Claim
claim-empty at [] = refl
claim-empty at (Byte b ∷ of) = claim-empty (at + 1) of ∙ ap (λ (o : Option ℕ). answer o (stretches_from (at + 1) of)) (sym (broken-byte (at + 1) b of))
claim-empty at (Part f s o sh zero ∷ of) =
    let ends : eqb (at + 1) (at + 1) ≡ true = eq-eqb (at + 1) (at + 1) refl in
    let q = one at f s o sh in
    let cell : last_cell q (at + 1) ≡ Part f s o sh 0 = rw ends refl in
    let full : grown q (at + 1) of ≡ record { location = at; count = suc (run_length f s o sh 1 of); file = f; segment = s; offset = o; shift = sh } =
    let more : 1 + run_length f s o sh 1 of ≡ suc (run_length f s o sh 1 of) = omega arith in
    rw ends (ap (λ (n : ℕ). counted n) more) in
    claim [] q (at + 1) of (omega arith) (omega arith)
    ∙ ap (λ (c : Cell). answer (broken_from (at + 1) (Some c) of) (grown q (at + 1) of ∷ stretches_from (at + 1) of)) cell
    ∙ ap (λ (r : format.Patch). answer (broken_from (at + 1) (Some (Part f s o sh 0)) of) (r ∷ stretches_from (at + 1) of)) full
  where
    counted : ℕ → format.Patch
    counted n = record { location = at; count = n; file = f; segment = s; offset = o; shift = sh }
claim-empty at (Part f s o sh (suc i) ∷ of) = refl

-- Going over the parts of cells gives their stretches, or the first broken part.
pub walk_parts : (of : List Cell) → walk [] (parts_at 0 of) ≡ answer (first_broken of) (stretches of)
unfolding first_broken stretches
walk_parts of = claim-empty 0 of ∙ ap (λ (o : Option ℕ). answer o (stretches_from 0 of)) (sym (broken-none 0 of))

pub parted_ok : (of : List Cell) (founds : List Found) (ps : List format.Patch) → walk [] founds ≡ Ok ps → founds ≡ parts_at 0 of → (first_broken of ≡ None) × (ps ≡ stretches of)
parted_ok of founds ps walked are = by_answer (first_broken of) refl (sym (walk_parts of) ∙ ap (walk []) (sym are) ∙ walked)
  where
    by_answer : (o : Option ℕ) → first_broken of ≡ o → answer (first_broken of) (stretches of) ≡ Ok ps → (first_broken of ≡ None) × (ps ≡ stretches of)
    by_answer None e is = (e, same (ap (λ (b : Option ℕ). answer b (stretches of)) (sym e) ∙ is))
      where
        same : answer None (stretches of) ≡ Ok ps → ps ≡ stretches of
        same x = cc
    by_answer (Some at) e is = absurd (clash (ap (λ (b : Option ℕ). answer b (stretches of)) (sym e) ∙ is))
      where
        clash : answer (Some at) (stretches of) ≡ Ok ps → ⊥
        clash x = cc

pub parted_broken : (of : List Cell) (founds : List Found) (at : ℕ) → walk [] founds ≡ Err at → founds ≡ parts_at 0 of → first_broken of ≡ Some at
parted_broken of founds at walked are = by_answer (first_broken of) refl (sym (walk_parts of) ∙ ap (walk []) (sym are) ∙ walked)
  where
    by_answer : (o : Option ℕ) → first_broken of ≡ o → answer (first_broken of) (stretches of) ≡ Err at → first_broken of ≡ Some at
    by_answer None e is = absurd (clash (ap (λ (b : Option ℕ). answer b (stretches of)) (sym e) ∙ is))
      where
        clash : answer None (stretches of) ≡ Err at → ⊥
        clash x = cc
    by_answer (Some k) e is = e ∙ same (ap (λ (b : Option ℕ). answer b (stretches of)) (sym e) ∙ is)
      where
        same : answer (Some k) (stretches of) ≡ Err at → Some k ≡ Some at
        same x = cc
