-- Bodies without patches.
use Rattle.std.proofs.Common.{◌≡◌, ℕ, zero, suc, ◌+◌, ◌-◌, ◌≤◌, List, [], ◌∷◌, ◌++◌, length, take, drop, refl, sym, ap, subst, ◌∙◌, append_assoc, append-nil, arith}
use Rattle.std.specs.List.{flat_map}
use Rattle.std.proofs.Math.Seq.{take-append-add, take-append_seam, drop-append_seam}
use Rattle.std.proofs.lemmas.List.{length-append, length-take, length-drop}
use Rattle.byteorder.specs.Endian.{little_bytes}
use Rattle.omf_format.specs.Field.{written_layout}
use Rattle.omf_format.specs.Record.{spelling}
use Rattle.load_meaning.specs.laws.StoredLaws.{zeros_left}
use Rattle.load_meaning.specs.laws.TableLaws.{length-little_bytes}
use Rattle.load_meaning.specs.WrittenBody.{data_records, supers_from, body_records, body_text, written_data, written_cells, zeros_after}
use Rattle.load_writer.specs.WrittenParts.{IsKept}
use Rattle.load_writer.proofs.DataLaws.{data_is, size_is, one_record, length-one}

abbrev begun : List ℕ
begun = 0xF2 ∷ little_bytes 4 0

-- the records after the data are none
no_supers : (own form n : ℕ) → supers_from own [] form n ≡ []
no_supers own form zero = refl
no_supers own form (suc n) = no_supers own (form + 1) n

pub plain_text : (own : ℕ) (content : List ℕ) → flat_map (spelling written_layout) (data_records (written_data own content [])) ≡ body_text own content []
unfolding body_text body_records
plain_text own content =
    ap (flat_map (spelling written_layout)) (sym (ap (λ l. data_records (written_data own content []) ++ l) (no_supers own 0 38) ∙ append-nil (data_records (written_data own content []))))

-- an LCONST that is cut after some bytes and has its count
pub one_long : (front content mid new : List ℕ) (start size : ℕ) → length front ≡ start → size ≤ length content → (size ≡ 0 → ⊥)
    → mid ≡ take (start + 5 + size) (front ++ begun ++ content) → new ≡ take (start + 1) mid ++ little_bytes 4 size ++ drop (start + 1 + 4) mid
    → new ≡ front ++ flat_map (spelling written_layout) (data_records (take size content))
unfolding spelling
one_long front content mid new start size here le some mid_is new_is =
    let d : List ℕ = take size content in
    let f : List ℕ = front ++ begun in
    let size_d : length d ≡ size = omega (arith, length-take size content, le) in
    let size_f : start + 5 ≡ length f = omega (arith, length-append front begun, here) in
    let place : start + 1 + 4 ≡ length f = omega (arith, size_f) in
    let cut : mid ≡ f ++ d = mid_is ∙ ap (λ (k : ℕ). take (k + size) (f ++ content)) size_f ∙ take-append-add f content size in
    let first : take (start + 1) mid ≡ front ++ 0xF2 ∷ [] =
    ap (take (start + 1)) (cut ∙ append_assoc front begun d) ∙ ap (λ (k : ℕ). take (k + 1) (front ++ (begun ++ d))) (sym here) ∙ take-append-add front (begun ++ d) 1 in
    let rest : drop (start + 1 + 4) mid ≡ d = ap (drop (start + 1 + 4)) cut ∙ ap (λ (k : ℕ). drop k (f ++ d)) place ∙ drop-append_seam f d in
    new_is
    ∙ ap (λ (x : List ℕ). x ++ little_bytes 4 size ++ drop (start + 1 + 4) mid) first
    ∙ ap (λ (x : List ℕ). (front ++ 0xF2 ∷ []) ++ little_bytes 4 size ++ x) rest
    ∙ append_assoc (front ++ 0xF2 ∷ []) (little_bytes 4 size) d
    ∙ append_assoc front (0xF2 ∷ []) (little_bytes 4 size ++ d)
    ∙ ap (λ (k : ℕ). front ++ (0xF2 ∷ (little_bytes 4 k ++ d))) (sym size_d)
    ∙ ap (λ (l : List ℕ). front ++ l) (sym (one_record d (λ none. some (sym size_d ∙ none))))

pub in_content : (front content old : List ℕ) (start size : ℕ) → length front ≡ start → old ≡ front ++ begun ++ content → size ≤ length (drop (start + 5) old) → size ≤ length content
in_content front content old start size here is within =
    omega (arith, within, length-drop (start + 5) old, ap length is, length-append (front ++ begun) content, length-append front begun, here)

pub put_over_all : (out mid : List ℕ) (start count n : ℕ) → start + 5 ≤ length mid → n ≡ length mid → out ≡ take (start + 1) mid ++ little_bytes 4 count ++ drop (start + 1 + 4) mid
    → take n (out ++ drop (length out) mid) ≡ take (start + 1) mid ++ little_bytes 4 count ++ drop (start + 1 + 4) mid
put_over_all out mid start count n room size is =
    let whole : n ≡ length out = omega (arith, size, ap length is, length-one (start + 1) 4 mid (little_bytes 4 count) (length-little_bytes 4 count) (omega (arith, room))) in
    ap (λ (k : ℕ). take k (out ++ drop (length out) mid)) whole ∙ take-append_seam out (drop (length out) mid) ∙ is

-- ---- what was written is the body

module _ (n start : ℕ) (old content mid : List ℕ) (here : length old ≡ start) (mid_is : mid ≡ old ++ begun ++ content) (kept : IsKept (drop (start + 5) mid) 0 n) where
  size_f : start + 5 ≡ length (old ++ begun)
  size_f = omega (arith, length-append old begun, here)

  kept_there : IsKept content 0 n
  kept_there = subst (λ (l : List ℕ). IsKept l 0 n) (ap (drop (start + 5)) mid_is ∙ ap (λ (k : ℕ). drop k (old ++ begun ++ content)) size_f ∙ drop-append_seam (old ++ begun) content) kept

  pub plain_is : (own : ℕ) (new : List ℕ) → new ≡ old ++ flat_map (spelling written_layout) (data_records (take n content)) → new ≡ old ++ body_text own content []
  plain_is own new is =
      is
      ∙ ap (λ (l : List ℕ). old ++ flat_map (spelling written_layout) (data_records l)) (data_is own n content [] tt kept_there)
      ∙ ap (λ (l : List ℕ). old ++ l) (plain_text own content)

  pub plain_zeros : (whole : ℕ) → whole ≡ length mid → whole - start - 5 - n ≡ zeros_after (written_cells content [])
  plain_zeros whole size =
      omega (arith, size, ap length mid_is, length-append (old ++ begun) content, size_f, size_is 0 n content [] tt kept_there)
      ∙ zeros_left 0 content [] tt
