-- What is known of a segment that was read from a file.
use Rattle.std.proofs.Common.{◌≡◌, ℕ, ◌+◌, ◌^◌, ◌<◌, ◌≤◌, Bool, true, false, List, [], ◌∷◌, ◌++◌, length, take, drop, map, Some, Ok, refl, sym, ap, subst, ◌∙◌, arith, append_assoc}
use Rattle.std.specs.List.{AllByRecursion, flat_map}
use Rattle.std.proofs.lemmas.List.{length-take, length-drop, drop_at}
use Rattle.std.proofs.lemmas.List.Concat.{flat_map-cons}
use Rattle.byteorder.specs.Endian.{little_bytes}
use Rattle.byteorder.specs.Numbers.{little_from-lt, length-bytes_low_first}
use Rattle.omf_format.specs.Number.{IsBytes, number_at}
use Rattle.omf_format.specs.Field.{Layout, layout_of}
use Rattle.omf_format.specs.Header.{HeaderFields, fields_of, names_end}
use Rattle.omf_format.specs.Record.{Record, End, Const, LongConst, IsRecord, spelling}
use Rattle.omf_format.specs.Reading.{Reader, HandsOut, next_answer, after_next, is_end}
use Rattle.omf_format.specs.File.{Segment, body_reader, IsSegment}
use Rattle.omf_format.specs.laws.FieldLaws.{IsBytes-drop, IsBytes-take, IsBytes-front, IsBytes-rest, kind_of-lt}
use Rattle.omf_format.specs.laws.HeaderLaws.{IsSound, sound_from_none}
use Rattle.omf_format.specs.laws.BodyLaws.{handed_out, found_by}
use Rattle.omf_format.specs.laws.FileLaws.{open_at_some}
use Rattle.list_laws.specs.Flat.{contents_of}
use Rattle.list_laws.specs.laws.BytesLine.{AreBytes}
use Rattle.list_laws.specs.laws.RunGives.{are_bytes}

-- ---- the header

pub record HasFields (f : HeaderFields) : Type 0 where
  pub kind : f.kind < 2 ^ 16
  pub org : f.org < 2 ^ 32
  pub lab_len : f.lab_len ≤ 255
  pub load_name : length f.load_name ≡ 10

header_has : (bytes : List ℕ) → IsBytes bytes → IsSound bytes (fields_of bytes) → HasFields (fields_of bytes)
unfolding fields_of names_end number_at
header_has bytes fits sound = record {
  kind = kind_of-lt bytes fits;
  org = little_from-lt 0 4 (drop 0x18 bytes) (IsBytes-drop 0x18 bytes fits);
  lab_len = let low : number_at 1 0x0D bytes < 256 ^ 1 = little_from-lt 0 1 (drop 0x0D bytes) (IsBytes-drop 0x0D bytes fits) in omega (arith, low);
  load_name =
      let disp = number_at 2 0x28 bytes in
      omega (arith, length-take 10 (drop disp bytes), length-drop disp bytes, sound.names, sound.data', sound.whole);
}

-- ---- the records

-- the constant bytes are bytes
abbrev pub HasBytes : Record → Type 0
HasBytes (Const bytes) = AreBytes bytes
HasBytes (LongConst bytes) = AreBytes bytes
HasBytes _ = Unit {0}

spelled_bytes : (l : Layout) (r : Record) → IsBytes (spelling l r) → HasBytes r
unfolding spelling
spelled_bytes l (Const bytes) is = are_bytes bytes (IsBytes-rest (length bytes) bytes is)
spelled_bytes l (LongConst bytes) is =
    let front = 0xF2 ∷ little_bytes 4 (length bytes) in
    are_bytes bytes (subst IsBytes (drop_at front bytes 5 (omega (arith, length-bytes_low_first 0 4 (length bytes)))) (IsBytes-drop 5 (front ++ bytes) is))
spelled_bytes l _ is = tt

all_bytes : (l : Layout) (founds : List (ℕ × Record)) (bytes rest : List ℕ) → IsBytes bytes → bytes ≡ flat_map (λ found. spelling l found.1) founds ++ rest → AllByRecursion (λ found. HasBytes found.1) founds
all_bytes l [] bytes rest are is = tt
all_bytes l (found ∷ founds) bytes rest are is =
    let text = λ (g : ℕ × Record). spelling l g.1 in
    let whole : bytes ≡ spelling l found.1 ++ (flat_map text founds ++ rest) = is ∙ ap (λ (x : List ℕ). x ++ rest) (flat_map-cons text found founds) ∙ append_assoc (spelling l found.1) (flat_map text founds) rest in
    let following : drop (length (spelling l found.1)) bytes ≡ flat_map text founds ++ rest = ap (drop (length (spelling l found.1))) whole ∙ drop_at (spelling l found.1) (flat_map text founds ++ rest) (length (spelling l found.1)) refl in
    (spelled_bytes l found.1 (IsBytes-front bytes (spelling l found.1) (flat_map text founds ++ rest) are whole), all_bytes l founds (drop (length (spelling l found.1)) bytes) rest (IsBytes-drop (length (spelling l found.1)) bytes are) following)

-- END is the last and no other
abbrev pub EndsLast : List Record → Type 0
EndsLast [] = ⊥
EndsLast (r ∷ []) = r ≡ End
EndsLast (r ∷ next ∷ more) = (is_end r ≡ false) × EndsLast (next ∷ more)

end_is : (r : Record) → is_end r ≡ true → r ≡ End
end_is End e = refl
end_is _ e = absurd cc

ended_after : (r : Reader) (found : ℕ × Record) → r.ended ≡ false → next_answer r ≡ Ok (Some found) → (after_next r).ended ≡ is_end found.1
unfolding after_next
ended_after r found open' gives = rw (open', (found_by r found gives).front') refl

ends_last : (r last : Reader) (founds : List (ℕ × Record)) → HandsOut r founds last → last.ended ≡ true → r.ended ≡ false → EndsLast (map (λ found. found.1) founds)
ends_last r last [] run ended open' = let clash : false ≡ true = sym open' ∙ ap (λ (x : Reader). x.ended) run ∙ ended in absurd cc
ends_last r last (found ∷ []) run ended open' = end_is found.1 (sym (ended_after r found open' run.0) ∙ ap (λ (x : Reader). x.ended) run.1 ∙ ended)
ends_last r last (found ∷ next ∷ more) run ended open' =
    let goes : (after_next r).ended ≡ false = by (after_next r).ended refl in
    (sym (ended_after r found open' run.0) ∙ goes, ends_last (after_next r) last (next ∷ more) run.1 ended goes)
  where
    by : (b : Bool) → (after_next r).ended ≡ b → (after_next r).ended ≡ false
    by true e = absurd (open_at_some (after_next r) next run.1.0 e)
    by false e = e

-- ---- a segment

pub record IsReadSegment (s : Segment) : Type 0 where
  pub fields : HasFields s.fields
  pub layout : Layout
  pub same_names : layout.lab_len ≡ s.fields.lab_len
  pub forms : AllByRecursion (λ found. IsRecord layout found.1) s.records
  pub bytes : AllByRecursion (λ found. HasBytes found.1) s.records
  pub ends : EndsLast (contents_of s)

pub segment_read : (s : Segment) (file : List ℕ) → IsBytes file → IsSegment s file → IsReadSegment s
unfolding body_reader
segment_read s file fits is =
    let tail = drop s.start file in
    let end = s.start + s.fields.byte_count in
    let reader = body_reader s.start s.fields file in
    let left : IsBytes (drop (s.start + s.fields.disp_data) (take end file)) = IsBytes-drop (s.start + s.fields.disp_data) (take end file) (IsBytes-take end file fits) in
    let out = handed_out reader is.last s.records left is.records in
    record {
      fields = subst HasFields (sym is.header.fields) (header_has tail (IsBytes-drop s.start file fits) (sound_from_none tail is.header.passes));
      layout = layout_of s.fields.version s.fields.lab_len;
      same_names = refl;
      forms = out.0;
      bytes = all_bytes (layout_of s.fields.version s.fields.lab_len) s.records reader.left is.last.left left out.1;
      ends = ends_last reader is.last s.records is.records is.ended refl;
    }
