-- The data of a written body: a prefix of the content, with what the patches store over it.
use Rattle.std.proofs.Common.{◌≡◌, ℕ, ◌+◌, ◌-◌, ◌≤◌, List, [], ◌∷◌, ◌++◌, length, take, drop, refl, sym, ap, subst, ◌∙◌, append_assoc, append-nil, arith}
use Rattle.std.specs.List.{flat_map}
use Rattle.std.proofs.Math.Seq.{take-append-add, take-append_seam, drop-append_seam}
use Rattle.std.proofs.lemmas.List.{length-append, length-take, length-drop, take-append-drop, take-append-le, drop-take}
use Rattle.byteorder.specs.Endian.{little_bytes}
use Rattle.omf_format.specs.Field.{written_layout}
use Rattle.omf_format.specs.Record.{LongConst, spelling}
use Rattle.load_meaning.specs.Cells.{Patch}
use Rattle.load_meaning.specs.WrittenBody.{AreWritten, IsWrittenPatch, with_stored, written_data, data_records}
use Rattle.load_meaning.specs.laws.Steps.{stored_bytes}
use Rattle.load_meaning.specs.laws.FormLaws.{length-stored}
use Rattle.load_meaning.specs.laws.StoredLaws.{length-data}
use Rattle.load_writer.specs.WrittenParts.{end_after, IsKept}
use Rattle.load_writer.proofs.KeptLaws.{end_low, end_within, kept_is}

-- ---- a prefix of bytes with a piece over them

front_same : (l n : ℕ) (b : List ℕ) → l ≤ n → n ≤ length b → take l b ≡ take l (take n b)
front_same l n b le within =
    let size : l ≤ length (take n b) = omega (arith, length-take n b, within, le) in
    ap (take l) (sym (take-append-drop n b)) ∙ take-append-le l (take n b) (drop n b) size

cut_one : (n l c : ℕ) (b s : List ℕ) → length s ≡ c → l + c ≤ n → n ≤ length b → take n (take l b ++ s ++ drop (l + c) b) ≡ take l (take n b) ++ s ++ drop (l + c) (take n b)
cut_one n l c b s size le within =
    let first : length (take l b ++ s) ≡ l + c = omega (arith, length-append (take l b) s, length-take l b, size, le, within) in
    let whole : n ≡ length (take l b ++ s) + (n - (l + c)) = omega (arith, first, le) in
    let there : l + c + (n - (l + c)) ≡ n = omega (arith, le) in
    ap (λ (k : ℕ). take k (take l b ++ s ++ drop (l + c) b)) whole
    ∙ take-append-add (take l b ++ s) (drop (l + c) b) (n - (l + c))
    ∙ ap (λ (t : List ℕ). take l b ++ s ++ t) (sym (drop-take (l + c) (n - (l + c)) b) ∙ ap (λ (k : ℕ). drop (l + c) (take k b)) there)
    ∙ ap (λ (t : List ℕ). t ++ s ++ drop (l + c) (take n b)) (front_same l n b (omega (arith, le)) within)

pub length-one : (l c : ℕ) (b s : List ℕ) → length s ≡ c → l + c ≤ length b → length (take l b ++ s ++ drop (l + c) b) ≡ length b
length-one l c b s size le =
    omega (arith, length-append (take l b ++ s) (drop (l + c) b), length-append (take l b) s, length-take l b, length-drop (l + c) b, size, le)

-- ---- patches that lie in the prefix

cut_stored : (own n low : ℕ) (b : List ℕ) (patches : List Patch) → AreWritten (length b) low patches → end_after low patches ≤ n → n ≤ length b
    → take n (with_stored own b patches) ≡ with_stored own (take n b) patches
cut_stored own n low b [] are end within = refl
cut_stored own n low b (p ∷ patches) are end within =
    let next : List ℕ = take p.location b ++ stored_bytes own p ++ drop (p.location + p.count) b in
    let same : length next ≡ length b = length-one p.location p.count b (stored_bytes own p) (length-stored own p) are.0.inside in
    let first : p.location + p.count ≤ n = omega (arith, end_low (length b) (p.location + p.count) patches are.2, end) in
    cut_stored own n (p.location + p.count) next patches (subst (λ (k : ℕ). AreWritten k (p.location + p.count) patches) (sym same) are.2) end (omega (arith, same, within))
    ∙ ap (λ (t : List ℕ). with_stored own t patches) (cut_one n p.location p.count b (stored_bytes own p) (length-stored own p) first within)

pub in_front : (n size low : ℕ) (patches : List Patch) → AreWritten size low patches → end_after low patches ≤ n → AreWritten n low patches
in_front n size low [] are end = tt
in_front n size low (p ∷ patches) are end =
    let here : IsWrittenPatch n p = record {
      count' = are.0.count';
      shift' = are.0.shift';
      file' = are.0.file';
      segment' = are.0.segment';
      offset' = are.0.offset';
      inside = omega (arith, end_low size (p.location + p.count) patches are.2, end);
    } in
    (here, are.1, in_front n size (p.location + p.count) patches are.2 end)

-- what is written over at most $FFFFFF bytes lies inside so many
pub written_small : (size : ℕ) (patches : List Patch) → size ≤ 0xFFFFFF → AreWritten size 0 patches → AreWritten 0xFFFFFF 0 patches
written_small size patches small are = in_front 0xFFFFFF size 0 patches are (omega (arith, small, end_within size 0 patches (omega arith) are))

-- ---- the data

pub data_is : (own n : ℕ) (content : List ℕ) (patches : List Patch) → AreWritten (length content) 0 patches → IsKept content (end_after 0 patches) n
    → with_stored own (take n content) patches ≡ written_data own content patches
unfolding written_data
data_is own n content patches are kept =
    sym (cut_stored own n 0 content patches are kept.reaches kept.within) ∙ ap (λ (k : ℕ). take k (with_stored own content patches)) (kept_is content patches n are kept)

pub size_is : (own n : ℕ) (content : List ℕ) (patches : List Patch) → AreWritten (length content) 0 patches → IsKept content (end_after 0 patches) n → n ≡ length (written_data own content patches)
size_is own n content patches are kept =
    let size : length (take n content) ≡ n = omega (arith, length-take n content, kept.within) in
    let front : AreWritten (length (take n content)) 0 patches = subst (λ (k : ℕ). AreWritten k 0 patches) (sym size) (in_front n (length content) 0 patches are kept.reaches) in
    sym size ∙ sym (length-data own patches (take n content) front) ∙ ap length (data_is own n content patches are kept)

no_bytes : (d : List ℕ) → length d ≡ 0 → flat_map (spelling written_layout) (data_records d) ≡ []
no_bytes [] none = refl
no_bytes (x ∷ d) none = absurd (omega (arith, none))

pub one_record : (d : List ℕ) → (length d ≡ 0 → ⊥) → flat_map (spelling written_layout) (data_records d) ≡ spelling written_layout (LongConst d)
one_record [] some = absurd (some refl)
one_record (x ∷ d) some = append-nil (spelling written_layout (LongConst (x ∷ d)))

pub no_data : (own n : ℕ) (content old : List ℕ) (patches : List Patch) → AreWritten (length content) 0 patches → IsKept content (end_after 0 patches) n → n ≡ 0
    → old ≡ old ++ flat_map (spelling written_layout) (data_records (written_data own content patches))
no_data own n content old patches are kept none =
    sym (ap (λ (t : List ℕ). old ++ t) (no_bytes (written_data own content patches) (sym (size_is own n content patches are kept) ∙ none)) ∙ append-nil old)

pub some_data : (own n : ℕ) (content front old new : List ℕ) (patches : List Patch) → AreWritten (length content) 0 patches → IsKept content (end_after 0 patches) n → (n ≡ 0 → ⊥) → front ≡ take n content
    → new ≡ old ++ spelling written_layout (LongConst (with_stored own front patches)) → new ≡ old ++ flat_map (spelling written_layout) (data_records (written_data own content patches))
some_data own n content front old new patches are kept some front_is is =
    is
    ∙ ap (λ (t : List ℕ). old ++ spelling written_layout (LongConst (with_stored own t patches))) front_is
    ∙ ap (λ (t : List ℕ). old ++ spelling written_layout (LongConst t)) (data_is own n content patches are kept)
    ∙ ap (λ (t : List ℕ). old ++ t) (sym (one_record (written_data own content patches) (λ none. some (size_is own n content patches are kept ∙ none))))

-- ---- the data are written with the patches over them

pub parted : (bytes old new : List ℕ) → new ≡ old ++ spelling written_layout (LongConst bytes) → new ≡ (old ++ 0xF2 ∷ little_bytes 4 (length bytes)) ++ bytes
unfolding spelling
parted bytes old new is = is ∙ sym (append_assoc old (0xF2 ∷ little_bytes 4 (length bytes)) bytes)

pub room : (bytes old new : List ℕ) (n : ℕ) → n ≡ length new → new ≡ old ++ spelling written_layout (LongConst bytes) → (length bytes ≤ n) × (n - length bytes ≡ length (old ++ 0xF2 ∷ little_bytes 4 (length bytes)))
room bytes old new n size is =
    let both : length new ≡ length (old ++ 0xF2 ∷ little_bytes 4 (length bytes)) + length bytes =
    ap length (parted bytes old new is) ∙ length-append (old ++ 0xF2 ∷ little_bytes 4 (length bytes)) bytes in
    (omega (arith, size, both), omega (arith, size, both))

pub stored_over : (own start n : ℕ) (bytes old mid new : List ℕ) (patches : List Patch) → AreWritten (length bytes) 0 patches → mid ≡ old ++ spelling written_layout (LongConst bytes)
    → n ≡ length mid → start ≡ n - length bytes → new ≡ take start mid ++ with_stored own (drop start mid) patches
    → take n (new ++ drop (length new) mid) ≡ old ++ spelling written_layout (LongConst (with_stored own bytes patches))
unfolding spelling
stored_over own start n bytes old mid new patches are is size start_is new_is =
    let f : List ℕ = old ++ 0xF2 ∷ little_bytes 4 (length bytes) in
    let w : List ℕ = with_stored own bytes patches in
    let mid_is : mid ≡ f ++ bytes = parted bytes old mid is in
    let here : start ≡ length f = start_is ∙ (room bytes old mid n size is).1 in
    let front : take start mid ≡ f = ap (take start) mid_is ∙ ap (λ (k : ℕ). take k (f ++ bytes)) here ∙ take-append_seam f bytes in
    let back : drop start mid ≡ bytes = ap (drop start) mid_is ∙ ap (λ (k : ℕ). drop k (f ++ bytes)) here ∙ drop-append_seam f bytes in
    let made : new ≡ f ++ w = new_is ∙ ap (λ (x : List ℕ). x ++ with_stored own (drop start mid) patches) front ∙ ap (λ (x : List ℕ). f ++ with_stored own x patches) back in
    let same : length w ≡ length bytes = length-data own patches bytes are in
    let whole : n ≡ length new = omega (arith, size, ap length mid_is, length-append f bytes, ap length made, length-append f w, same) in
    ap (λ (k : ℕ). take k (new ++ drop (length new) mid)) whole
    ∙ take-append_seam new (drop (length new) mid)
    ∙ made
    ∙ append_assoc old (0xF2 ∷ little_bytes 4 (length bytes)) w
    ∙ ap (λ (k : ℕ). old ++ ((0xF2 ∷ little_bytes 4 k) ++ w)) (sym same)
