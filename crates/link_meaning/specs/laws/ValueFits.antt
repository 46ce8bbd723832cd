-- The values of expressions of a resolved list fit patch records.
use Rattle.std.proofs.Common.{◌≡◌, ℕ, ◌+◌, ◌^◌, ◌<◌, ◌≤◌, List, [], ◌∷◌, ◌++◌, length, map, Ok, refl, sym, ap, subst, ◌∙◌, append_assoc, arith, inl, inr}
use Rattle.std.specs.List.{AllByRecursion}
use Rattle.std.proofs.lemmas.List.{length-append}
use Rattle.omf_format.specs.declared.value.Value.{Value}
use Rattle.omf_format.specs.Field.{layout_of}
use Rattle.omf_format.specs.Record.{Record, End, Const, LongConst, Align, Org, Space, Reloc, InterSeg, ShortReloc, ShortInterSeg, Super, Using, Strong, Label, Equate, Formula, Entry, IsRecord}
use Rattle.link_meaning.specs.laws.OutsideLaws.{outside_fits}
use Rattle.link_meaning.specs.Search.{FoundDefinition, outside}
use Rattle.link_meaning.specs.First.{IsIn}
use Rattle.object_meaning.specs.Sizes.{Located, size_at, located_from, records_with_offsets, place_after, body_size}
use Rattle.link_meaning.specs.Member.{Member, setting_in}
use Rattle.link_meaning.specs.LinkValues.{EquateAnswer, place_value, value_in, IsTable, outside_value}
use Rattle.link_meaning.specs.LinkFaults.{LinkInput, HasBytes, IsResolved}
use Rattle.link_meaning.specs.LinkedCells.{Item, items_from, items}
use Rattle.link_meaning.specs.LinkWritten.{LinkedStandsFor}
use Rattle.link_meaning.specs.laws.MadeLaws.{FitsPatch, IsSoundAt}
use Rattle.link_meaning.specs.laws.PlaceValues as values
use Rattle.link_meaning.specs.laws.LinkedRuns.{AreSoundItems}
use Rattle.link_meaning.specs.laws.ReadMembers.{IsRead, members_read, read_size, read_records}
use Rattle.link_meaning.specs.laws.PlaceFits.{IsPlaceIn, place_fits, following-le}
use Rattle.link_meaning.specs.laws.LinkWrittenLaws.{stands_for}

-- ---- all of a resolved list

module _ (files : LinkInput) (list : List Member) (table : List EquateAnswer) (bytes : HasBytes files) (resolved : IsResolved files list) (is_table : IsTable list table) where
  read : (m : Member) → IsIn list m → IsRead m.segment
  read m is = members_read files list m bytes resolved.program is

  whole : (m : Member) → IsIn list m → body_size m.segment ≤ m.segment.fields.length
  whole m is = let size = read_size m.segment (read m is) in omega (arith, size)

  there : (place : ℕ) (m : Member) (at : ℕ) → IsPlaceIn list place m at → FitsPatch (place_value list place m at)
  there place m at is = place_fits files list place m at resolved whole is

  beyond : (f : FoundDefinition) → IsIn (outside (setting_in list)) f → FitsPatch (outside_value f)
  beyond = outside_fits list

  -- the value of an expression in a member fits
  pub expression_fits : (place : ℕ) (m : Member) (location : ℕ) (text : List ℕ) → IsPlaceIn list place m location → (v : Value) → value_in list table place m location text ≡ Ok v → FitsPatch v
  expression_fits = values.expression_fits (λ (file segment : ℕ). file ≡ 1 → segment < 2 ^ 16) list table is_table there beyond

  -- ---- records

  record_sound : (place : ℕ) (m : Member) (r : Located) → IsPlaceIn list place m r.location → (c : Record) → IsRecord (layout_of m.segment.fields.version m.segment.fields.lab_len) c
      → IsSoundAt list table (record { place = place; member = m; here = r }) c
  record_sound place m r is End fits = tt
  record_sound place m r is (Const bytes) fits = tt
  record_sound place m r is (LongConst bytes) fits = tt
  record_sound place m r is (Align n) fits = tt
  record_sound place m r is (Org n) fits = tt
  record_sound place m r is (Space n) fits = tt
  record_sound place m r is (Reloc count shift location offset) fits = tt
  record_sound place m r is (InterSeg count shift location file segment offset) fits = tt
  record_sound place m r is (ShortReloc count shift location offset) fits = tt
  record_sound place m r is (ShortInterSeg count shift location segment offset) fits = tt
  record_sound place m r is (Super form bytes) fits = tt
  record_sound place m r is (Using name) fits = tt
  record_sound place m r is (Strong name) fits = tt
  record_sound place m r is (Label global name size form private) fits = tt
  record_sound place m r is (Equate global name size form private expr) fits = tt
  record_sound place m r is (Formula code count n expr) fits = (fits.1, expression_fits place m r.location expr is)
  record_sound place m r is (Entry segment offset name) fits = tt

  records_sound : (front : List Member) (m : Member) (back : List Member) → list ≡ front ++ m ∷ back → (loc : ℕ) (founds : List (ℕ × Record)) → place_after loc founds ≤ body_size m.segment
      → AllByRecursion (λ found. IsRecord (layout_of m.segment.fields.version m.segment.fields.lab_len) found.1) founds
      → AreSoundItems list table (map (λ r. record { place = length front + 1; member = m; here = r }) (located_from loc founds))
  records_sound front m back parts loc [] le all = tt
  records_sound front m back parts loc (found ∷ founds) le all =
      let r : Located = record { at = found.0; location = loc; content = found.1 } in
      let is : IsPlaceIn list (length front + 1) m loc = record { front = front; back = back; parts = parts; number = refl; inside = omega (arith, le, following-le (loc + size_at loc found.1) founds) } in
      (record_sound (length front + 1) m r is found.1 all.0, records_sound front m back parts (loc + size_at loc found.1) founds le all.1)

  sound-append : (xs ys : List Item) → AreSoundItems list table xs → AreSoundItems list table ys → AreSoundItems list table (xs ++ ys)
  sound-append [] ys p q = q
  sound-append (x ∷ xs) ys p q = (p.0, sound-append xs ys p.1 q)

  in_middle : (front : List Member) (m : Member) (back : List Member) → list ≡ front ++ m ∷ back → IsIn list m
  in_middle front m back parts = subst (λ (l : List Member). IsIn l m) (sym parts) (there_in front)
    where
      there_in : (front : List Member) → IsIn (front ++ m ∷ back) m
      there_in [] = inl refl
      there_in (o ∷ front) = inr (there_in front)

  items_sound : (front ms : List Member) → list ≡ front ++ ms → AreSoundItems list table (items_from (length front + 1) ms)
  unfolding records_with_offsets body_size
  items_sound front [] parts = tt
  items_sound front (m ∷ ms) parts =
      let next : length (front ++ m ∷ []) + 1 ≡ length front + 1 + 1 = ap (λ (n : ℕ). n + 1) (length-append front (m ∷ [])) in
      sound-append (map (λ r. record { place = length front + 1; member = m; here = r }) (located_from 0 m.segment.records)) (items_from (length front + 1 + 1) ms)
      (records_sound front m ms parts 0 m.segment.records (omega arith) (read_records m.segment (read m (in_middle front m ms parts))))
      (subst (λ (n : ℕ). AreSoundItems list table (items_from n ms)) next (items_sound (front ++ m ∷ []) ms (parts ∙ sym (append_assoc front (m ∷ []) ms))))

  pub all_sound : AreSoundItems list table (items list)
  unfolding items
  all_sound = items_sound [] list refl

-- The file that the linker writes represents the linked cells.
pub linked_stands_for : LinkedStandsFor
linked_stands_for files list table bytes resolved is_table are short =
    stands_for files list table bytes resolved (all_sound files list table bytes resolved is_table) are short
