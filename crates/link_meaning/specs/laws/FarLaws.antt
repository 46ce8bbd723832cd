-- Places in run-time library files fit into the fields of an entry.
use Rattle.std.proofs.Common.{◌≡◌, ℕ, zero, suc, ◌-◌, ◌^◌, ◌<◌, List, [], ◌∷◌, length, drop, Option, Some, None, refl, sym, subst, arith}
use Rattle.std.specs.Prelude.{slice_get, option_and_then}
use Rattle.std.specs.Option.{option_map_or}
use Rattle.std.specs.List.{AllByRecursion}
use Rattle.byteorder.specs.Numbers.{little_from-lt}
use Rattle.omf_format.specs.Number.{number_at}
use Rattle.omf_format.specs.laws.FieldLaws.{IsBytes-drop}
use Rattle.omf_format.specs.Header.{HeaderFields, fields_of}
use Rattle.omf_format.specs.Number.{IsBytes}
use Rattle.omf_format.specs.File.{Segment, segment_at}
use Rattle.load_meaning.specs.Loadable.{IsLoadable}
use Rattle.load_meaning.specs.laws.CellLaws.{loadable_has}
use Rattle.link_meaning.specs.Member.{RuntimeFile, LinkSetting, Member, setting_in, without_runtimes}
use Rattle.link_meaning.specs.Fitting.{length_outside}
use Rattle.link_meaning.specs.LinkFaults.{LinkInput, HasBytes, AreRuntimes, IsProgram}
use Rattle.link_meaning.specs.laws.ReadMembers.{of_file, in_at}
use Rattle.link_meaning.specs.laws.SettingLaws.{of_setting}

abbrev Fits : ℕ → ℕ → Type 0
Fits segment size = (segment < 2 ^ 16) × (size < 2 ^ 32)

two_lt : (at : ℕ) (bytes : List ℕ) → IsBytes bytes → number_at 2 at bytes < 2 ^ 16
unfolding number_at
two_lt at bytes fits = little_from-lt 0 2 (drop at bytes) (IsBytes-drop at bytes fits)

four_lt : (at : ℕ) (bytes : List ℕ) → IsBytes bytes → number_at 4 at bytes < 2 ^ 32
unfolding number_at
four_lt at bytes fits = little_from-lt 0 4 (drop at bytes) (IsBytes-drop at bytes fits)

fields_fit : (bytes : List ℕ) → IsBytes bytes → Fits (fields_of bytes).seg_num (fields_of bytes).length
unfolding fields_of
fields_fit bytes fits = (two_lt 0x22 bytes fits, four_lt 0x08 bytes fits)

-- a segment of a load file has a number of two bytes, and a LENGTH of four
segment_fits : (file : List ℕ) (segments : List Segment) (number : ℕ) (s : Segment) → IsBytes file → IsLoadable file segments → segment_at segments number ≡ Some s → Fits number s.fields.length
segment_fits file segments zero s bytes is at = absurd cc
segment_fits file segments (suc k) s bytes is at =
    let sound = loadable_has file segments is (suc k) s at in
    let there = of_file segments 0 file (length file) s is.is_file (in_at segments k s at) in
    let fits : Fits s.fields.seg_num s.fields.length = subst (λ (f : HeaderFields). Fits f.seg_num f.length) (sym there.header.fields) (fields_fit (drop s.start file) (IsBytes-drop s.start file bytes)) in
    (omega (arith, sound.number', fits.0), fits.1)

runtime_fits : (files : List (List ℕ × List ℕ)) (runtimes : List RuntimeFile) (j : ℕ) (r : RuntimeFile) (number : ℕ) (s : Segment) → AllByRecursion (λ file. IsBytes file.1) files → AreRuntimes files runtimes
    → slice_get runtimes j ≡ Some r → segment_at r.segments number ≡ Some s → Fits number s.fields.length
runtime_fits [] [] j r number s bytes are there at = absurd cc
runtime_fits [] (x ∷ runtimes) j r number s bytes are there at = absurd are
runtime_fits (file ∷ files) [] j r number s bytes are there at = absurd are
runtime_fits (file ∷ files) (x ∷ runtimes) zero r number s bytes are there at =
    segment_fits file.1 r.segments number s bytes.0 (subst (λ (y : RuntimeFile). IsLoadable file.1 y.segments) (same x r there) are.1.loadable) at
  where
    same : (a b : RuntimeFile) → Some a ≡ Some b → a ≡ b
    same a b e = cc
runtime_fits (file ∷ files) (x ∷ runtimes) (suc j) r number s bytes are there at = runtime_fits files runtimes j r number s bytes.1 are.2 there at

-- an offset in a segment of a run-time library file
abbrev pub FarFits : LinkSetting → Type 0
FarFits setting = (file segment offset : ℕ) → offset < length_outside setting file segment → (segment < 2 ^ 16) × (offset < 2 ^ 32)

setting_fits : (files : List (List ℕ × List ℕ)) (setting : LinkSetting) → AllByRecursion (λ file. IsBytes file.1) files → AreRuntimes files setting.runtimes → FarFits setting
setting_fits files setting bytes are file segment offset below = by_file (slice_get setting.runtimes (file - 2)) refl below
  where
    by_segment : (r : RuntimeFile) → slice_get setting.runtimes (file - 2) ≡ Some r → (o : Option Segment) → segment_at r.segments segment ≡ o → offset < option_map_or (λ (s : Segment). s.fields.length) o 0 → Fits segment offset
    by_segment r there None at below = absurd (omega (arith, below))
    by_segment r there (Some s) at below = let fits = runtime_fits files setting.runtimes (file - 2) r segment s bytes are there at in (fits.0, omega (arith, below, fits.1))

    by_file : (o : Option RuntimeFile) → slice_get setting.runtimes (file - 2) ≡ o → offset < option_map_or (λ (s : Segment). s.fields.length) (option_and_then (λ (r : RuntimeFile). segment_at r.segments segment) o) 0 → Fits segment offset
    by_file None there below = absurd (omega (arith, below))
    by_file (Some r) there below = by_segment r there (segment_at r.segments segment) refl below

pub far_fits : (given : LinkInput) (list : List Member) → HasBytes given → IsProgram given list → FarFits (setting_in list)
far_fits given list bytes is =
    of_setting given list is FarFits (setting_fits [] without_runtimes tt tt) (setting_fits given.runtimes is.setting bytes.1 is.is_setting.runtimes')
