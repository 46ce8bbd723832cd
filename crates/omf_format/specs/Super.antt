-- SUPER records: many patches of one type, whose locations are given page by page (GS/OS Reference, appendix F, "SUPER").
use Rattle.std.specs.Prelude.{◌≡◌, ℕ, zero, suc, ◌+◌, ◌-◌, ◌*◌, ◌<◌, ◌≤◌, Bool, ◌||◌, ◌&&◌, List, [], ◌∷◌, ◌++◌, length, map, nat_lt, nat_le, ◌==◌, if◌then◌else◌}
use Rattle.std.specs.List.{flat_map, AllByRecursion}

-- the types that are read: 0 to 2, and 14 to 37
abbrev pub is_super : ℕ → Bool
is_super form = nat_le form 2 || (nat_le 14 form && nat_le form 37)

-- a subrecord: pages of 256 bytes that are passed over, or the low bytes of the locations in the current page
pub data Page : Type 0 where
  Passed : (pages : ℕ) → Page
  Located : (lows : List ℕ) → Page

-- at most 127 pages are passed over at once, and a page has 1 to 128 locations
abbrev pub IsPage : Page → Type 0
IsPage (Passed pages) = pages < 0x80
IsPage (Located lows) = (1 ≤ length lows) × (length lows ≤ 0x80)

-- a byte with its high bit set passes pages over, as many as its low bits say; one without it is the number of
-- locations less one, and their low bytes follow
abbrev pub page_text : Page → List ℕ
page_text (Passed pages) = (0x80 + pages) ∷ []
page_text (Located lows) = (length lows - 1) ∷ lows

-- the bytes are subrecords, one after another
pub record HavePages (bytes : List ℕ) : Type 0 where
  pub pages : List Page
  pub each : AllByRecursion IsPage pages
  pub text : bytes ≡ flat_map page_text pages

-- the locations, from this page on: after the locations of a page, the next page follows
abbrev pub locations_from : ℕ → List Page → List ℕ
locations_from page [] = []
locations_from page (Passed pages ∷ more) = locations_from (page + pages) more
locations_from page (Located lows ∷ more) = map (λ low. page * 256 + low) lows ++ locations_from (page + 1) more

-- read from left to right, where `lows` low bytes are left, the bytes end with a subrecord: a byte below $80 where none are left says how
-- many follow, less one, and another byte passes pages over
abbrev pub end_pages : ℕ → List ℕ → Bool
end_pages lows [] = lows == 0
end_pages lows (byte ∷ bytes) = end_pages (elim lows [ zero ↦ if nat_lt byte 0x80 then byte + 1 else 0 | suc n ↦ n ]) bytes

-- the locations that are left, from this page on, where `lows` low bytes of it are left
abbrev pub locations_left : ℕ → ℕ → List ℕ → List ℕ
locations_left page lows [] = []
locations_left page zero (count ∷ bytes) =
    if nat_lt count 0x80 then locations_left page (count + 1) bytes else locations_left (page + (count - 0x80)) 0 bytes
locations_left page (suc lows) (low ∷ bytes) = (page * 256 + low) ∷ locations_left (if lows == 0 then page + 1 else page) lows bytes
