-- The two laws of SUPER's subrecords: bytes that end with a subrecord are subrecords, and subrecords are such bytes.
use Rattle.std.proofs.Common.{◌≡◌, ℕ, zero, suc, ◌+◌, ◌-◌, ◌*◌, map, ◌<◌, ◌≤◌, Bool, true, false, cond, ltb, eqb, List, [], ◌∷◌, ◌++◌, length, refl, sym, ap, subst, ◌∙◌, arith, inl, inr}
use Rattle.std.specs.List.{flat_map, AllByRecursion}
use Rattle.std.proofs.lemmas.List.{append-nil}
use Rattle.std.proofs.lemmas.Bool.{cases_lt, lt-ltb, le-ltb, eqb-true, ne_eqb}
use Rattle.omf_format.specs.Number.{IsBytes}
use Rattle.omf_format.specs.laws.FieldLaws.{IsBytes-rest}
use Rattle.omf_format.specs.Super.{Page, Passed, Located, IsPage, page_text, HavePages, locations_from, end_pages, locations_left}
use Rattle.omf_format.specs.laws.Steps.{are_pages}

-- the low bytes that are left, and subrecords after them
record Ends (lows : ℕ) (bytes : List ℕ) : Type 0 where
  front : List ℕ
  rest : List ℕ
  parts : bytes ≡ front ++ rest
  size : length front ≡ lows
  pages : HavePages rest

-- one more subrecord before them
more_pages : (page : Page) (rest : List ℕ) → IsPage page → HavePages rest → HavePages (page_text page ++ rest)
more_pages page rest is have = record { pages = page ∷ have.pages; each = (is, have.each); text = ap (λ (t : List ℕ). page_text page ++ t) have.text }

-- where no low bytes are left, all bytes are subrecords
none_left : (bytes : List ℕ) → Ends 0 bytes → HavePages bytes
none_left bytes e = by_front e.front e.size e.parts
  where
    by_front : (front : List ℕ) → length front ≡ 0 → bytes ≡ front ++ e.rest → HavePages bytes
    by_front [] size parts = subst HavePages (sym parts) e.pages
    by_front (x ∷ front) size parts = absurd (omega arith)

at_page : (bytes : List ℕ) → HavePages bytes → Ends 0 bytes
at_page bytes have = record { front = []; rest = bytes; parts = refl; size = refl; pages = have }

-- what a count says of the bytes after it
on_located : (count : ℕ) (bytes : List ℕ) → count < 0x80 → end_pages 0 (count ∷ bytes) ≡ end_pages (count + 1) bytes
on_located count bytes lt = ap (λ (b : Bool). end_pages (cond b (count + 1) 0) bytes) (lt-ltb count 0x80 lt)

on_passed : (count : ℕ) (bytes : List ℕ) → 0x80 ≤ count → end_pages 0 (count ∷ bytes) ≡ end_pages 0 bytes
on_passed count bytes le = ap (λ (b : Bool). end_pages (cond b (count + 1) 0) bytes) (le-ltb count 0x80 le)

ends : (lows : ℕ) (bytes : List ℕ) → IsBytes bytes → end_pages lows bytes ≡ true → Ends lows bytes
ends zero [] fits e = at_page [] (record { pages = []; each = tt; text = refl })
ends (suc lows) [] fits e = let none = eqb-true (suc lows) 0 e in absurd (omega (arith, none))
ends (suc lows) (low ∷ bytes) fits e =
    let more = ends lows bytes (IsBytes-rest low bytes fits) e in
    record { front = low ∷ more.front; rest = more.rest; parts = ap (λ (l : List ℕ). low ∷ l) more.parts; size = ap suc more.size; pages = more.pages }
ends zero (count ∷ bytes) fits e = elim (cases_lt count 0x80) [
  | inl lt ↦ located lt (ends (count + 1) bytes (IsBytes-rest count bytes fits) (sym (on_located count bytes lt) ∙ e))
  | inr le ↦ passed le (ends 0 bytes (IsBytes-rest count bytes fits) (sym (on_passed count bytes le) ∙ e))
]
  where
    located : count < 0x80 → Ends (count + 1) bytes → Ends 0 (count ∷ bytes)
    located lt more =
        let size : length more.front - 1 ≡ count = omega (arith, more.size) in
        let text : count ∷ bytes ≡ page_text (Located more.front) ++ more.rest = ap (λ (l : List ℕ). count ∷ l) more.parts ∙ ap (λ (n : ℕ). n ∷ more.front ++ more.rest) (sym size) in
        let have = more_pages (Located more.front) more.rest (omega (arith, more.size), omega (arith, more.size)) more.pages in
        at_page (count ∷ bytes) (subst HavePages (sym text) have)

    passed : 0x80 ≤ count → Ends 0 bytes → Ends 0 (count ∷ bytes)
    passed le more =
        let byte : count < 256 = fits 0 in
        let text : count ≡ 0x80 + (count - 0x80) = omega arith in
        let have = more_pages (Passed (count - 0x80)) bytes (omega arith) (none_left bytes more) in
        at_page (count ∷ bytes) (subst (λ (n : ℕ). HavePages (n ∷ bytes)) (sym text) have)

-- what ends with a subrecord is subrecords
pub pages-read : (bytes : List ℕ) → IsBytes bytes → are_pages bytes ≡ true → HavePages bytes
pages-read bytes fits e = none_left bytes (ends 0 bytes fits e)

-- low bytes are passed over
past_lows : (lows rest : List ℕ) → end_pages (length lows) (lows ++ rest) ≡ end_pages 0 rest
past_lows [] rest = refl
past_lows (low ∷ lows) rest = past_lows lows rest

page_past : (page : Page) (rest : List ℕ) → IsPage page → end_pages 0 (page_text page ++ rest) ≡ end_pages 0 rest
page_past (Passed pages) rest is = on_passed (0x80 + pages) rest (omega arith)
page_past (Located lows) rest is =
    let size : length lows - 1 + 1 ≡ length lows = omega arith in
    on_located (length lows - 1) (lows ++ rest) (omega arith) ∙ ap (λ (n : ℕ). end_pages n (lows ++ rest)) size ∙ past_lows lows rest

all_past : (pages : List Page) → AllByRecursion IsPage pages → end_pages 0 (flat_map page_text pages) ≡ true
all_past [] each = refl
all_past (page ∷ pages) each = page_past page (flat_map page_text pages) each.0 ∙ all_past pages each.1

-- subrecords end with a subrecord
pub pages-again : (bytes : List ℕ) → HavePages bytes → are_pages bytes ≡ true
pages-again bytes have = rw have.text (all_past have.pages have.each)

-- ---- locations

-- the page after a subrecord
abbrev next_page : ℕ → Page → ℕ
next_page page (Passed pages) = page + pages
next_page page (Located lows) = page + 1

-- the low bytes of a page, of which there is one at least, give its locations, and the next page follows
lows_left : (page : ℕ) (low : ℕ) (lows rest : List ℕ) → locations_left page (length (low ∷ lows)) ((low ∷ lows) ++ rest) ≡ map (λ l. page * 256 + l) (low ∷ lows) ++ locations_left (page + 1) 0 rest
lows_left page low [] rest = refl
lows_left page low (other ∷ lows) rest =
    let more : eqb (length (other ∷ lows)) 0 ≡ false = ne_eqb _ _ (λ e. absurd (omega arith)) in
    ap (λ (b : Bool). (page * 256 + low) ∷ locations_left (cond b (page + 1) page) (length (other ∷ lows)) ((other ∷ lows) ++ rest)) more
    ∙ ap (λ (l : List ℕ). (page * 256 + low) ∷ l) (lows_left page other lows rest)

page_left : (page : ℕ) (of : Page) (rest : List ℕ) → IsPage of → locations_left page 0 (page_text of ++ rest) ≡ locations_from page (of ∷ []) ++ locations_left (next_page page of) 0 rest
page_left page (Passed pages) rest is =
    let high : ltb (0x80 + pages) 0x80 ≡ false = le-ltb _ _ (omega arith) in
    let count : 0x80 + pages - 0x80 ≡ pages = omega arith in
    ap (λ (b : Bool). cond b (locations_left page (0x80 + pages + 1) rest) (locations_left (page + (0x80 + pages - 0x80)) 0 rest)) high
    ∙ ap (λ (n : ℕ). locations_left (page + n) 0 rest) count
page_left page (Located []) rest is = absurd (omega arith)
page_left page (Located (low ∷ lows)) rest is =
    let few : ltb (length (low ∷ lows) - 1) 0x80 ≡ true = lt-ltb _ _ (omega arith) in
    let size : length (low ∷ lows) - 1 + 1 ≡ length (low ∷ lows) = omega arith in
    ap (λ (b : Bool). cond b (locations_left page (length (low ∷ lows) - 1 + 1) ((low ∷ lows) ++ rest)) (locations_left (page + (length (low ∷ lows) - 1 - 0x80)) 0 ((low ∷ lows) ++ rest))) few
    ∙ ap (λ (n : ℕ). locations_left page n ((low ∷ lows) ++ rest)) size
    ∙ lows_left page low lows rest
    ∙ ap (λ (l : List ℕ). l ++ locations_left (page + 1) 0 rest) (sym (append-nil (map (λ l. page * 256 + l) (low ∷ lows))))

-- the locations are those of the pages
pub locations_are : (page : ℕ) (pages : List Page) → AllByRecursion IsPage pages → locations_left page 0 (flat_map page_text pages) ≡ locations_from page pages
locations_are page [] each = refl
locations_are page (of ∷ pages) each =
    page_left page of (flat_map page_text pages) each.0
    ∙ ap (λ (l : List ℕ). locations_from page (of ∷ []) ++ l) (locations_are (next_page page of) pages each.1)
    ∙ one_more page of pages
  where
    one_more : (page : ℕ) (of : Page) (pages : List Page) → locations_from page (of ∷ []) ++ locations_from (next_page page of) pages ≡ locations_from page (of ∷ pages)
    one_more page (Passed n) pages = refl
    one_more page (Located lows) pages = ap (λ (l : List ℕ). l ++ locations_from (page + 1) pages) (append-nil (map (λ low. page * 256 + low) lows))
