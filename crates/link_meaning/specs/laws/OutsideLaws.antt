-- Names of run-time library files represent places in them.
use Rattle.std.proofs.Common.{◌≡◌, ◌⊎◌, ℕ, ◌+◌, ◌<◌, ◌≤◌, List, [], ◌∷◌, ◌++◌, length, Option, Some, None, refl, sym, ap, arith, inl, inr}
use Rattle.std.specs.Prelude.{filter_map, option_map}
use Rattle.std.specs.List.{cons_option}
use Rattle.omf_format.specs.File.{Segment, segment_at}
use Rattle.load_meaning.specs.Exports.{Export, exports_of}
use Rattle.link_meaning.specs.First.{IsIn}
use Rattle.link_meaning.specs.Member.{RuntimeFile, without_runtimes, setting_in, Member}
use Rattle.object_meaning.specs.Defines.{ForAll}
use Rattle.link_meaning.specs.Search.{FoundDefinition, outside_of, outside_from, outside}
use Rattle.link_meaning.specs.LinkValues.{outside_value}
use Rattle.link_meaning.specs.laws.MadeLaws.{FitsPlace, FitsPatch}
use Rattle.link_meaning.specs.LinkLoadable.{IsRuntimeFile, IsNamed}

-- the number of the file in which a name has its place
file_one : (file : ℕ) (r : RuntimeFile) (es : List Export) (f : FoundDefinition) → IsIn (filter_map (outside_of file r) es) f → f.member.file ≡ file
file_one file r [] f is = absurd is
file_one file r (e ∷ es) f is = by_segment (λ h. file_one file r es f h) (segment_at r.segments e.segment) is
  where
    found : Segment → FoundDefinition
    found s = record {
      place = 0;
      member = record { file = file; number = e.segment; from = 0; segment = s; setting = without_runtimes };
      definition = record { name = e.name; scope = ForAll; place = e.offset; at = s.start; expr = None; size = 0; form = 0x4E };
    }

    by_segment : (IsIn (filter_map (outside_of file r) es) f → f.member.file ≡ file) → (o : Option Segment) → IsIn (cons_option (option_map found o) (filter_map (outside_of file r) es)) f → f.member.file ≡ file
    by_segment go None h = go h
    by_segment go (Some s) (inl same) = ap (λ (g : FoundDefinition). g.member.file) (sym same)
    by_segment go (Some s) (inr more) = go more

in_either : (xs ys : List FoundDefinition) (g : FoundDefinition) → IsIn (xs ++ ys) g → IsIn xs g ⊎ IsIn ys g
in_either [] ys g h = inr h
in_either (x ∷ xs) ys g (inl h) = inl (inl h)
in_either (x ∷ xs) ys g (inr h) = elim (in_either xs ys g h) [ inl a ↦ inl (inr a) | inr b ↦ inr b ]

file_range : (file : ℕ) (rs : List RuntimeFile) (f : FoundDefinition) → IsIn (outside_from file rs) f → (file ≤ f.member.file) × (f.member.file < file + length rs)
file_range file [] f is = absurd is
file_range file (r ∷ rs) f is = elim (in_either (filter_map (outside_of file r) (exports_of r.segments)) (outside_from (file + 1) rs) f is) [
  | inl h ↦ let same = file_one file r (exports_of r.segments) f h in (omega (arith, same), omega (arith, same))
  | inr h ↦ let rest = file_range (file + 1) rs f h in (omega (arith, rest.0), omega (arith, rest.1))
]

runtime_file : (list : List Member) (f : FoundDefinition) → IsIn (outside (setting_in list)) f → IsRuntimeFile list f.member.file
unfolding outside
runtime_file list f is = let range = file_range 2 (setting_in list).runtimes f is in (range.0, omega (arith, range.1))

pub outside_named : (list : List Member) (f : FoundDefinition) → IsIn (outside (setting_in list)) f → FitsPlace (IsNamed list) (outside_value f)
outside_named list f is =
    let file = runtime_file list f is in
    (refl, inr file, (λ one. absurd (omega (arith, one, file.0))))

pub outside_fits : (list : List Member) (f : FoundDefinition) → IsIn (outside (setting_in list)) f → FitsPatch (outside_value f)
outside_fits list f is =
    let file = runtime_file list f is in
    (refl, (λ one. absurd (omega (arith, one, file.0))), (λ one. absurd (omega (arith, one, file.0))))
