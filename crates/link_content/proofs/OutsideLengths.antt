-- LENGTH of segments of run-time library files.
use Rattle.std.proofs.Common.{◌≡◌, inl, inr, ℕ, zero, suc, ◌-◌, List, Option, Some, None, refl, sym, ap, subst, arith}
use Rattle.std.specs.Prelude.{slice_get, option_map, option_and_then, IsSomeAnd}
use Rattle.std.specs.Option.{option_map_or}
use Rattle.std.proofs.lemmas.Option.{slice_get_past}
use Rattle.omf_format.specs.Header.{HeaderFields}
use Rattle.omf_format.specs.File.{Segment, segment_at}
use Rattle.omf_cells.specs.Load.{IsOutside, HasFields}
use Rattle.link_meaning.specs.Member.{RuntimeFile, LinkSetting}
use Rattle.link_meaning.specs.Fitting.{length_outside}

abbrev length_in : ℕ → Option RuntimeFile → ℕ
length_in segment o = option_map_or (λ (s : Segment). s.fields.length) (option_and_then (λ (r : RuntimeFile). segment_at r.segments segment) o) 0

-- the segments of the file
same_segments : (segments : List Segment) (r : RuntimeFile) → Some segments ≡ option_map (λ (x : RuntimeFile). x.segments) (Some r) → segments ≡ r.segments
same_segments segments r e = cc

fields_length : (o : Option Segment) (f : HeaderFields) → IsSomeAnd o (λ s. s.fields ≡ f) → f.length ≡ option_map_or (λ (s : Segment). s.fields.length) o 0
fields_length None f is = absurd is
fields_length (Some s) f is = ap (λ (g : HeaderFields). g.length) (sym is)

-- there is no segment
outside_none : (segments : List Segment) (number : ℕ) → IsOutside segments number → segment_at segments number ≡ None
outside_none segments zero is = refl
outside_none segments (suc k) (inl e) = absurd (omega (arith, e))
outside_none segments (suc k) (inr less) = slice_get_past segments k (omega (arith, less))

pub length_found : (setting : LinkSetting) (file segment : ℕ) (segments : List Segment) (f : HeaderFields) → Some segments ≡ option_map (λ (r : RuntimeFile). r.segments) (slice_get setting.runtimes (file - 2)) → HasFields segments segment f
    → f.length ≡ length_outside setting file segment
length_found setting file segment segments f is has = by_file (slice_get setting.runtimes (file - 2)) is
  where
    by_file : (o : Option RuntimeFile) → Some segments ≡ option_map (λ (r : RuntimeFile). r.segments) o → f.length ≡ length_in segment o
    by_file None e = absurd cc
    by_file (Some r) e = fields_length (segment_at r.segments segment) f (subst (λ (l : List Segment). HasFields l segment f) (same_segments segments r e) has)

pub length_gone : (setting : LinkSetting) (file segment : ℕ) (segments : List Segment) → Some segments ≡ option_map (λ (r : RuntimeFile). r.segments) (slice_get setting.runtimes (file - 2)) → IsOutside segments segment → 0 ≡ length_outside setting file segment
length_gone setting file segment segments is out = by_file (slice_get setting.runtimes (file - 2)) is
  where
    by_file : (o : Option RuntimeFile) → Some segments ≡ option_map (λ (r : RuntimeFile). r.segments) o → 0 ≡ length_in segment o
    by_file None e = absurd cc
    by_file (Some r) e =
        ap (λ (x : Option Segment). option_map_or (λ (s : Segment). s.fields.length) x 0) (sym (outside_none r.segments segment (subst (λ (l : List Segment). IsOutside l segment) (same_segments segments r e) out)))

pub length_nowhere : (setting : LinkSetting) (file segment : ℕ) → None ≡ option_map (λ (r : RuntimeFile). r.segments) (slice_get setting.runtimes (file - 2)) → 0 ≡ length_outside setting file segment
length_nowhere setting file segment is = by_file (slice_get setting.runtimes (file - 2)) is
  where
    by_file : (o : Option RuntimeFile) → None ≡ option_map (λ (r : RuntimeFile). r.segments) o → 0 ≡ length_in segment o
    by_file None e = refl
    by_file (Some r) e = absurd cc
