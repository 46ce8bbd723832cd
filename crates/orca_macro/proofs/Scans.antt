-- Going over the lines of a file.
use Rattle.std.proofs.Common.{◌≡◌, ◌≤◌, ◌<◌, ℕ, zero, suc, ◌+◌, ◌-◌, Bool, true, false, cond, ◌||◌, List, [], ◌∷◌, ◌++◌, length, take, drop, map, Option, Some, None, refl, sym, ap, subst, ◌∙◌, append_assoc, append-nil, length-drop, arith}
use Rattle.std.specs.Prelude.{slice_get, codes, Ok, Err}
use Rattle.std.specs.List.{list_any}
use Rattle.std.proofs.lemmas.List.{map-append, length-take}
use Rattle.orca_meaning.specs.Line.{Line}
use Rattle.macro_meaning.specs.declared.faults.MacroFault.{MacroFault}
use Rattle.macro_meaning.specs.declared.faults.MacroCause.{MacroCause}
use Rattle.macro_meaning.specs.declared.faults.MacroCause.TheVariants.{Unclosed, BadArguments}
use Rattle.macro_meaning.specs.Definition as meaning
use Rattle.macro_meaning.specs.Definition.{DefinitionPart, Plain, Closed, Open, Begun, Model, operation_is, parts_of, source_line, definitions_in, definition_of, definition_from, first_part_fault, part_fault, model_of, list_of_option, or_else}
use Rattle.macro_meaning.specs.laws.Steps.{definition_by, counts_after, model_fault}
use Rattle.macro_meaning.specs.Expansion.{fault_at, line_fault_of}
use Rattle.orca_macro.specs.declared.definitions.MacroDefinition.{MacroDefinition}
use Rattle.orca_macro.specs.Parts.{definition, IsBegun, Judged, IsScanned, open_lines, Scanned}
use Rattle.orca_symbols.proofs.Parted.{drop_next, drop_all}
use Rattle.orca_macro.proofs.Targets.{take_next}

-- ---- parts of lists

get_drop : {A : Type 0} (l : List A) (i j : ℕ) → slice_get (drop i l) j ≡ slice_get l (i + j)
get_drop l zero j = let e : 0 + j ≡ j = omega arith in ap (slice_get l) (sym e)
get_drop [] (suc i) j = refl
get_drop (x ∷ l) (suc i) j = let e : suc i + j ≡ suc (i + j) = omega arith in rw e (get_drop l i j)

some_line : (a b : Line) → Some a ≡ Some b → a ≡ b
some_line a b e = cc

-- one more line of a range
pub copy_more : (lines : List Line) (from at : ℕ) (l : Line) (old new : List Line) → from ≤ at → slice_get lines at ≡ Some l → old ≡ take (at - from) (drop from lines) → new ≡ old ++ l ∷ []
    → new ≡ take (at + 1 - from) (drop from lines)
copy_more lines from at l old new order is old_is push =
    let there : from + (at - from) ≡ at = omega (arith, order) in
    let got : slice_get (drop from lines) (at - from) ≡ Some l = get_drop lines from (at - from) ∙ ap (slice_get lines) there ∙ is in
    let plus : at - from + 1 ≡ at + 1 - from = omega (arith, order) in
    push ∙ ap (λ (k : List Line). k ++ l ∷ []) old_is ∙ sym (take_next (drop from lines) (at - from) l got) ∙ ap (λ (k : ℕ). take k (drop from lines)) plus

-- ---- one definition

front_line : (lines : List Line) (begins mend : ℕ) (model : Line) → slice_get lines (begins + 1) ≡ Some model → begins + 1 < mend
    → take (mend - begins - 1) (drop (begins + 1) lines) ≡ model ∷ take (mend - (begins + 2)) (drop (begins + 2) lines)
front_line lines begins mend model is more =
    let size : mend - begins - 1 ≡ suc (mend - (begins + 2)) = omega (arith, more) in
    let on : begins + 1 + 1 ≡ begins + 2 = omega arith in
    ap (λ (k : ℕ). take k (drop (begins + 1) lines)) size ∙ ap (take (suc (mend - (begins + 2)))) (drop_next lines (begins + 1) model is)
    ∙ ap (λ (k : ℕ). model ∷ take (mend - (begins + 2)) (drop k lines)) on

pub judged_empty : (following : ℕ) (m e model : Line) (lines : List Line) (begins mend : ℕ) (fault : MacroFault) → slice_get lines (begins + 1) ≡ Some model → slice_get lines mend ≡ Some e → begins + 1 ≡ mend
    → fault ≡ fault_at model BadArguments → Judged following m (take (mend - begins - 1) (drop (begins + 1) lines)) e (Err fault)
judged_empty following m e model lines begins mend fault is end same fault_is =
    let none : mend - begins - 1 ≡ 0 = omega (arith, same) in
    let one : e ≡ model = some_line e model (sym end ∙ ap (slice_get lines) (sym same) ∙ is) in
    ap (λ (k : ℕ). line_fault_of (part_fault (Closed m (take k (drop (begins + 1) lines)) e))) none
    ∙ ap (λ (l : Line). Some (fault_at l BadArguments)) one ∙ ap (λ (f : MacroFault). Some f) (sym fault_is)

pub judged_bad : (following : ℕ) (m e model : Line) (lines : List Line) (begins mend : ℕ) (fault : MacroFault) → slice_get lines (begins + 1) ≡ Some model → begins + 1 < mend
    → model_of model.text ≡ None → fault ≡ fault_at model BadArguments → Judged following m (take (mend - begins - 1) (drop (begins + 1) lines)) e (Err fault)
judged_bad following m e model lines begins mend fault is more none fault_is =
    ap (λ (inner : List Line). line_fault_of (part_fault (Closed m inner e))) (front_line lines begins mend model is more)
    ∙ ap (λ (o : Option Model). line_fault_of (model_fault model o)) none ∙ ap (λ (f : MacroFault). Some f) (sym fault_is)

pub judged_good : (following : ℕ) (m e model : Line) (lines : List Line) (begins mend : ℕ) (found : Model) (d : MacroDefinition) → slice_get lines (begins + 1) ≡ Some model → slice_get lines mend ≡ Some e
    → begins + 1 < mend → mend < length lines → model_of model.text ≡ Some found
    → definition d ≡ record { model = found; visible_after = following; body = record { lines = take (mend + 1 - (begins + 2)) (drop (begins + 2) lines); reach = mend - (begins + 2) } }
    → Judged following m (take (mend - begins - 1) (drop (begins + 1) lines)) e (Ok d)
judged_good following m e model lines begins mend found d is end more within some d_is =
    let front = front_line lines begins mend model is more in
    let rest : List Line = take (mend - (begins + 2)) (drop (begins + 2) lines) in
    let whole : rest ++ e ∷ [] ≡ take (mend + 1 - (begins + 2)) (drop (begins + 2) lines) = copy_more lines (begins + 2) mend e rest (rest ++ e ∷ []) (omega (arith, more)) end refl refl in
    let size : length rest ≡ mend - (begins + 2) = omega (arith, within, more, length-take (mend - (begins + 2)) (drop (begins + 2) lines), length-drop (begins + 2) lines) in
    let made : definition_from following (model ∷ rest) e ≡ Some (record { model = found; visible_after = following; body = record { lines = rest ++ e ∷ []; reach = length rest } }) = ap (definition_by following rest e) some in
    let same : Some (record { model = found; visible_after = following; body = record { lines = rest ++ e ∷ []; reach = length rest } }) ≡ Some (definition d) =
    ap (λ (l : List Line). Some (record { model = found; visible_after = following; body = record { lines = l; reach = length rest } })) whole
    ∙ ap (λ (k : ℕ). Some (record { model = found; visible_after = following; body = record { lines = take (mend + 1 - (begins + 2)) (drop (begins + 2) lines); reach = k } })) size
    ∙ ap (λ (x : meaning.MacroDefinition). Some x) (sym d_is) in (
      ap (λ (inner : List Line). definition_from following inner e) front ∙ made ∙ same,
      ap (λ (inner : List Line). part_fault (Closed m inner e)) front ∙ ap (model_fault model) some,
    )

-- ---- parts

fault_push : (ps : List DefinitionPart) (p : DefinitionPart) → first_part_fault ps ≡ None → first_part_fault (ps ++ p ∷ []) ≡ part_fault p
unfolding first_part_fault
fault_push [] p good = last (part_fault p)
  where
    last : (o : Option (Line × MacroCause)) → or_else o None ≡ o
    last None = refl
    last (Some x) = refl
fault_push (q ∷ ps) p good = by_first (part_fault q) good (fault_push ps p)
  where
    by_first : (o : Option (Line × MacroCause)) → or_else o (first_part_fault ps) ≡ None → (first_part_fault ps ≡ None → first_part_fault (ps ++ p ∷ []) ≡ part_fault p)
        → or_else o (first_part_fault (ps ++ p ∷ [])) ≡ part_fault p
    by_first None good others = others good
    by_first (Some x) good others = absurd cc

fault_more : (ps more : List DefinitionPart) → first_part_fault ps ≡ None → first_part_fault (ps ++ more) ≡ first_part_fault more
unfolding first_part_fault
fault_more [] more good = refl
fault_more (q ∷ ps) more good = by_first (part_fault q) good (fault_more ps more)
  where
    by_first : (o : Option (Line × MacroCause)) → or_else o (first_part_fault ps) ≡ None → (first_part_fault ps ≡ None → first_part_fault (ps ++ more) ≡ first_part_fault more)
        → or_else o (first_part_fault (ps ++ more)) ≡ first_part_fault more
    by_first None good others = others good
    by_first (Some x) good others = absurd cc

definitions_push : (s : Bool) (ps : List DefinitionPart) (p : DefinitionPart) → definitions_in s (ps ++ p ∷ []) ≡ definitions_in s ps ++ list_of_option (definition_of s p)
unfolding definitions_in
definitions_push s [] p = append-nil (list_of_option (definition_of s p))
definitions_push s (q ∷ ps) p = ap (λ (l : List meaning.MacroDefinition). list_of_option (definition_of s q) ++ l) (definitions_push s ps p) ∙ sym (append_assoc (list_of_option (definition_of s q)) (definitions_in s ps) (list_of_option (definition_of s p)))

drop_line : (lines : List Line) (at : ℕ) (l : Line) → slice_get lines at ≡ Some l → drop at lines ≡ l ∷ drop (at + 1) lines
drop_line lines at l is = drop_next lines at l is

inside : (lines : List Line) (at : ℕ) (l : Line) → slice_get lines at ≡ Some l → at + 1 ≤ length lines
inside [] at l is = absurd cc
inside (x ∷ lines) zero l is = omega arith
inside (x ∷ lines) (suc at) l is = omega (arith, inside lines at l is)

begun_none : (lines : List Line) (at : ℕ) (b : Begun) → IsBegun lines at None b → b ≡ None
begun_none lines at None is = refl
begun_none lines at (Some x) is = absurd is

-- ---- one more line

module _ (s : Bool) (lines : List Line) (at : ℕ) (l : Line) (plain : List Line) (old new : List meaning.MacroDefinition) where
  pub outside_plain : (plain' : List Line) → IsScanned s lines at plain old new None → slice_get lines at ≡ Some l → operation_is (codes "MACRO") l ≡ false → plain' ≡ plain ++ l ∷ []
      → IsScanned s lines (at + 1) plain' old new None
  unfolding parts_of
  outside_plain plain' is there test push =
      let none : is.begun ≡ None = begun_none lines at is.begun is.is_begun in
      let rest : parts_of None (l ∷ drop (at + 1) lines) ≡ Plain l ∷ parts_of None (drop (at + 1) lines) = rw test refl in
      record {
        parts = is.parts ++ Plain l ∷ [];
        begun = None;
        is_begun = tt;
        within = inside lines at l there;
        goes_on = is.goes_on ∙ ap (λ (b : Begun). is.parts ++ parts_of b (drop at lines)) none ∙ ap (λ (d : List Line). is.parts ++ parts_of None d) (drop_line lines at l there)
            ∙ ap (λ (p : List DefinitionPart). is.parts ++ p) rest ∙ sym (append_assoc is.parts (Plain l ∷ []) (parts_of None (drop (at + 1) lines)));
        good = fault_push is.parts (Plain l) is.good;
        plain_is = push ∙ ap (λ (p : List Line). p ++ l ∷ []) (is.plain_is ∙ ap (λ (b : Begun). map source_line is.parts ++ open_lines b) none ∙ append-nil (map source_line is.parts))
            ∙ sym (map-append source_line is.parts (Plain l ∷ [])) ∙ sym (append-nil (map source_line (is.parts ++ Plain l ∷ [])));
        definitions_are = is.definitions_are ∙ ap (λ (d : List meaning.MacroDefinition). old ++ d) (sym (definitions_push s is.parts (Plain l) ∙ append-nil (definitions_in s is.parts)));
      }

  pub outside_macro : (plain' : List Line) → IsScanned s lines at plain old new None → slice_get lines at ≡ Some l → operation_is (codes "MACRO") l ≡ true → plain' ≡ plain ++ l ∷ []
      → IsScanned s lines (at + 1) plain' old new (Some at)
  unfolding parts_of
  outside_macro plain' is there test push =
      let none : is.begun ≡ None = begun_none lines at is.begun is.is_begun in
      let rest : parts_of None (l ∷ drop (at + 1) lines) ≡ parts_of (Some (l, [])) (drop (at + 1) lines) = rw test refl in
      let empty : at + 1 - at - 1 ≡ 0 = omega arith in
      record {
        parts = is.parts;
        begun = Some (l, []);
        is_begun = (there, omega arith, ap (λ (k : ℕ). take k (drop (at + 1) lines)) (sym empty));
        within = inside lines at l there;
        goes_on = is.goes_on ∙ ap (λ (b : Begun). is.parts ++ parts_of b (drop at lines)) none ∙ ap (λ (d : List Line). is.parts ++ parts_of None d) (drop_line lines at l there)
            ∙ ap (λ (p : List DefinitionPart). is.parts ++ p) rest;
        good = is.good;
        plain_is = push ∙ ap (λ (p : List Line). p ++ l ∷ []) (is.plain_is ∙ ap (λ (b : Begun). map source_line is.parts ++ open_lines b) none ∙ append-nil (map source_line is.parts));
        definitions_are = is.definitions_are;
      }

  -- whichever it is
  pub outside_line : (plain' : List Line) (opened opened' : Option ℕ) → opened ≡ None → IsScanned s lines at plain old new opened → slice_get lines at ≡ Some l → plain' ≡ plain ++ l ∷ []
      → opened' ≡ cond (operation_is (codes "MACRO") l) (Some at) None → IsScanned s lines (at + 1) plain' old new opened'
  outside_line plain' opened opened' none is there push opens =
      subst (λ (o : Option ℕ). IsScanned s lines (at + 1) plain' old new o) (sym opens) (by_test (operation_is (codes "MACRO") l) refl)
    where
      by_test : (b : Bool) → operation_is (codes "MACRO") l ≡ b → IsScanned s lines (at + 1) plain' old new (cond b (Some at) None)
      by_test true test = outside_macro plain' (subst (λ (o : Option ℕ). IsScanned s lines at plain old new o) none is) there test push
      by_test false test = outside_plain plain' (subst (λ (o : Option ℕ). IsScanned s lines at plain old new o) none is) there test push

  -- the definition that is open, with its MACRO line and the lines in it
  pub record Inside (begins : ℕ) (b : Begun) : Type 0 where
    pub first : Line
    pub inner : List Line
    pub is : b ≡ Some (first, inner)
    pub there : slice_get lines begins ≡ Some first
    pub before : begins < at
    pub inner_is : inner ≡ take (at - begins - 1) (drop (begins + 1) lines)

  inside_of : (begins : ℕ) (b : Begun) → IsBegun lines at (Some begins) b → Inside begins b
  inside_of begins None is = absurd is
  inside_of begins (Some (first, inner)) is = record { first = first; inner = inner; is = refl; there = is.0; before = is.1; inner_is = is.2 }

  pub inside_on : (begins : ℕ) → IsScanned s lines at plain old new (Some begins) → slice_get lines at ≡ Some l → operation_is (codes "MEND") l ≡ false
      → IsScanned s lines (at + 1) plain old new (Some begins)
  unfolding parts_of
  inside_on begins is there test =
      let i = inside_of begins is.begun is.is_begun in
      let rest : parts_of (Some (i.first, i.inner)) (l ∷ drop (at + 1) lines) ≡ parts_of (Some (i.first, i.inner ++ l ∷ [])) (drop (at + 1) lines) = rw test refl in
      let from : begins + 1 ≤ at = omega (arith, i.before) in
      let one : at - (begins + 1) ≡ at - begins - 1 = omega arith in
      let two : at + 1 - (begins + 1) ≡ at + 1 - begins - 1 = omega arith in
      let longer : i.inner ++ l ∷ [] ≡ take (at + 1 - begins - 1) (drop (begins + 1) lines) =
      copy_more lines (begins + 1) at l i.inner (i.inner ++ l ∷ []) from there (i.inner_is ∙ ap (λ (k : ℕ). take k (drop (begins + 1) lines)) (sym one)) refl
      ∙ ap (λ (k : ℕ). take k (drop (begins + 1) lines)) two in
      record {
        parts = is.parts;
        begun = Some (i.first, i.inner ++ l ∷ []);
        is_begun = (i.there, omega (arith, i.before), longer);
        within = inside lines at l there;
        goes_on = is.goes_on ∙ ap (λ (b : Begun). is.parts ++ parts_of b (drop at lines)) i.is ∙ ap (λ (d : List Line). is.parts ++ parts_of (Some (i.first, i.inner)) d) (drop_line lines at l there)
            ∙ ap (λ (p : List DefinitionPart). is.parts ++ p) rest;
        good = is.good;
        plain_is = is.plain_is ∙ ap (λ (b : Begun). map source_line is.parts ++ open_lines b) i.is;
        definitions_are = is.definitions_are;
      }

  pub inside_line : (opened : Option ℕ) (begins : ℕ) → opened ≡ Some begins → IsScanned s lines at plain old new opened → slice_get lines at ≡ Some l → operation_is (codes "MEND") l ≡ false
      → IsScanned s lines (at + 1) plain old new opened
  inside_line opened begins some is there test =
      subst (λ (o : Option ℕ). IsScanned s lines (at + 1) plain old new o) (sym some) (inside_on begins (subst (λ (o : Option ℕ). IsScanned s lines at plain old new o) some is) there test)

  closes_part : (begins : ℕ) (is : IsScanned s lines at plain old new (Some begins)) → slice_get lines at ≡ Some l → operation_is (codes "MEND") l ≡ true → (i : Inside begins is.begun)
      → parts_of None lines ≡ is.parts ++ Closed i.first i.inner l ∷ parts_of None (drop (at + 1) lines)
  unfolding parts_of
  closes_part begins is there test i =
      let rest : parts_of (Some (i.first, i.inner)) (l ∷ drop (at + 1) lines) ≡ Closed i.first i.inner l ∷ parts_of None (drop (at + 1) lines) = rw test refl in
      is.goes_on ∙ ap (λ (b : Begun). is.parts ++ parts_of b (drop at lines)) i.is ∙ ap (λ (d : List Line). is.parts ++ parts_of (Some (i.first, i.inner)) d) (drop_line lines at l there)
      ∙ ap (λ (p : List DefinitionPart). is.parts ++ p) rest

  pub inside_end : (begins : ℕ) (m : Line) (d : MacroDefinition) (new' : List meaning.MacroDefinition) → IsScanned s lines at plain old new (Some begins) → slice_get lines at ≡ Some l → slice_get lines begins ≡ Some m
      → operation_is (codes "MEND") l ≡ true → Judged (counts_after s m) m (take (at - begins - 1) (drop (begins + 1) lines)) l (Ok d) → new' ≡ new ++ definition d ∷ []
      → IsScanned s lines (at + 1) plain old new' None
  inside_end begins m d new' is there first test judged push =
      let i = inside_of begins is.begun is.is_begun in
      let m_is : i.first ≡ m = some_line i.first m (sym i.there ∙ first) in
      let p = Closed i.first i.inner l in
      let same : p ≡ Closed m (take (at - begins - 1) (drop (begins + 1) lines)) l = ap (λ (x : Line). Closed x i.inner l) m_is ∙ ap (λ (k : List Line). Closed m k l) i.inner_is in
      let defined : definition_of s p ≡ Some (definition d) = ap (definition_of s) same ∙ judged.0 in
      let fine : part_fault p ≡ None = ap part_fault same ∙ judged.1 in
      record {
        parts = is.parts ++ p ∷ [];
        begun = None;
        is_begun = tt;
        within = inside lines at l there;
        goes_on = closes_part begins is there test i ∙ sym (append_assoc is.parts (p ∷ []) (parts_of None (drop (at + 1) lines)));
        good = fault_push is.parts p is.good ∙ fine;
        plain_is = is.plain_is ∙ ap (λ (b : Begun). map source_line is.parts ++ open_lines b) i.is ∙ sym (map-append source_line is.parts (p ∷ [])) ∙ sym (append-nil (map source_line (is.parts ++ p ∷ [])));
        definitions_are = push ∙ ap (λ (n : List meaning.MacroDefinition). n ++ definition d ∷ []) is.definitions_are ∙ append_assoc old (definitions_in s is.parts) (definition d ∷ [])
            ∙ ap (λ (n : List meaning.MacroDefinition). old ++ n) (ap (λ (o : Option meaning.MacroDefinition). definitions_in s is.parts ++ list_of_option o) (sym defined) ∙ sym (definitions_push s is.parts p));
      }

  pub inside_bad : (begins : ℕ) (m : Line) (following : ℕ) (fault : MacroFault) → IsScanned s lines at plain old new (Some begins) → slice_get lines at ≡ Some l → slice_get lines begins ≡ Some m
      → operation_is (codes "MEND") l ≡ true → Judged following m (take (at - begins - 1) (drop (begins + 1) lines)) l (Err fault) → line_fault_of (first_part_fault (parts_of None lines)) ≡ Some fault
  unfolding first_part_fault
  inside_bad begins m following fault is there first test judged =
      let i = inside_of begins is.begun is.is_begun in
      let m_is : i.first ≡ m = some_line i.first m (sym i.there ∙ first) in
      let same : Closed i.first i.inner l ≡ Closed m (take (at - begins - 1) (drop (begins + 1) lines)) l = ap (λ (x : Line). Closed x i.inner l) m_is ∙ ap (λ (k : List Line). Closed m k l) i.inner_is in
      let here : line_fault_of (part_fault (Closed i.first i.inner l)) ≡ Some fault = ap (λ (p : DefinitionPart). line_fault_of (part_fault p)) same ∙ judged in
      ap (λ (p : List DefinitionPart). line_fault_of (first_part_fault p)) (closes_part begins is there test i)
      ∙ ap line_fault_of (fault_more is.parts (Closed i.first i.inner l ∷ parts_of None (drop (at + 1) lines)) is.good)
      ∙ comes_first (part_fault (Closed i.first i.inner l)) (first_part_fault (parts_of None (drop (at + 1) lines))) here
    where
      comes_first : (o other : Option (Line × MacroCause)) → line_fault_of o ≡ Some fault → line_fault_of (or_else o other) ≡ Some fault
      comes_first None other h = absurd cc
      comes_first (Some x) other h = h

-- as the code has it
pub end_line : (s : Bool) (lines : List Line) (at : ℕ) (l : Line) (plain : List Line) (old new : List meaning.MacroDefinition) (opened : Option ℕ) (begins following : ℕ) (m : Line) (d : MacroDefinition) (new' : List meaning.MacroDefinition)
    → opened ≡ Some begins → following ≡ counts_after s m → IsScanned s lines at plain old new opened → slice_get lines at ≡ Some l → slice_get lines begins ≡ Some m → operation_is (codes "MEND") l ≡ true
    → Judged following m (take (at - begins - 1) (drop (begins + 1) lines)) l (Ok d) → new' ≡ new ++ definition d ∷ [] → IsScanned s lines (at + 1) plain old new' None
end_line s lines at l plain old new opened begins following m d new' some same is there first test judged push =
    inside_end s lines at l plain old new begins m d new' (subst (λ (o : Option ℕ). IsScanned s lines at plain old new o) some is) there first test
    (subst (λ (k : ℕ). Judged k m (take (at - begins - 1) (drop (begins + 1) lines)) l (Ok d)) same judged) push

pub bad_line : (s : Bool) (lines : List Line) (at : ℕ) (l : Line) (plain : List Line) (old new : List meaning.MacroDefinition) (opened : Option ℕ) (begins following : ℕ) (m : Line) (fault : MacroFault)
    → opened ≡ Some begins → IsScanned s lines at plain old new opened → slice_get lines at ≡ Some l → slice_get lines begins ≡ Some m → operation_is (codes "MEND") l ≡ true
    → Judged following m (take (at - begins - 1) (drop (begins + 1) lines)) l (Err fault) → line_fault_of (first_part_fault (parts_of None lines)) ≡ Some fault
bad_line s lines at l plain old new opened begins following m fault some is there first test judged =
    inside_bad s lines at l plain old new begins m following fault (subst (λ (o : Option ℕ). IsScanned s lines at plain old new o) some is) there first test judged

pub scan_starts : (s : Bool) (lines plain : List Line) (old : List meaning.MacroDefinition) → plain ≡ [] → IsScanned s lines 0 plain old old None
unfolding first_part_fault definitions_in
scan_starts s lines plain old empty = record {
  parts = [];
  begun = None;
  is_begun = tt;
  within = omega arith;
  goes_on = refl;
  good = refl;
  plain_is = empty;
  definitions_are = sym (append-nil old);
}

-- ---- the end of the file

module _ (s : Bool) (lines plain : List Line) (old new : List meaning.MacroDefinition) where
  pub ended_good : IsScanned s lines (length lines) plain old new None → Scanned s lines old new (Ok plain)
  unfolding parts_of
  ended_good is =
      let none : is.begun ≡ None = begun_none lines (length lines) is.begun is.is_begun in
      let all : parts_of None lines ≡ is.parts =
      is.goes_on ∙ ap (λ (b : Begun). is.parts ++ parts_of b (drop (length lines) lines)) none ∙ ap (λ (d : List Line). is.parts ++ parts_of None d) (drop_all lines (length lines) (omega arith)) ∙ append-nil is.parts in (
        ap first_part_fault all ∙ is.good,
        is.plain_is ∙ ap (λ (b : Begun). map source_line is.parts ++ open_lines b) none ∙ append-nil (map source_line is.parts) ∙ ap (map source_line) (sym all),
        is.definitions_are ∙ ap (λ (p : List DefinitionPart). old ++ definitions_in s p) (sym all),
      )

  pub ended_open : (begins : ℕ) (m : Line) (fault : MacroFault) → IsScanned s lines (length lines) plain old new (Some begins) → slice_get lines begins ≡ Some m → fault ≡ fault_at m Unclosed
      → Scanned s lines old new (Err fault)
  unfolding parts_of first_part_fault
  ended_open begins m fault is first fault_is = by_begun is.begun is.is_begun is.goes_on
    where
      by_begun : (b : Begun) → IsBegun lines (length lines) (Some begins) b → parts_of None lines ≡ is.parts ++ parts_of b (drop (length lines) lines) → line_fault_of (first_part_fault (parts_of None lines)) ≡ Some fault
      by_begun None begun goes = absurd begun
      by_begun (Some (x, inner)) begun goes =
          let all : parts_of None lines ≡ is.parts ++ Open x inner ∷ [] = goes ∙ ap (λ (d : List Line). is.parts ++ parts_of (Some (x, inner)) d) (drop_all lines (length lines) (omega arith)) in
          let same : x ≡ m = some_line x m (sym begun.0 ∙ first) in
          ap (λ (p : List DefinitionPart). line_fault_of (first_part_fault p)) all ∙ ap line_fault_of (fault_more is.parts (Open x inner ∷ []) is.good)
          ∙ ap (λ (y : Line). Some (fault_at y Unclosed)) same ∙ ap (λ (f : MacroFault). Some f) (sym fault_is)

-- as the code has them
pub ended_none : (s : Bool) (lines plain : List Line) (old new : List meaning.MacroDefinition) (opened : Option ℕ) → opened ≡ None → IsScanned s lines (length lines) plain old new opened → Scanned s lines old new (Ok plain)
ended_none s lines plain old new opened none is = ended_good s lines plain old new (subst (λ (o : Option ℕ). IsScanned s lines (length lines) plain old new o) none is)

pub ended_some : (s : Bool) (lines plain : List Line) (old new : List meaning.MacroDefinition) (opened : Option ℕ) (begins : ℕ) (m : Line) (fault : MacroFault) → opened ≡ Some begins
    → IsScanned s lines (length lines) plain old new opened → slice_get lines begins ≡ Some m → fault ≡ fault_at m Unclosed → Scanned s lines old new (Err fault)
ended_some s lines plain old new opened begins m fault some is first fault_is =
    ended_open s lines plain old new begins m fault (subst (λ (o : Option ℕ). IsScanned s lines (length lines) plain old new o) some is) first fault_is

-- ---- a source without definitions

pub any_here : (lines : List Line) (at : ℕ) (l : Line) → slice_get lines at ≡ Some l → operation_is (codes "MACRO") l ≡ true
    → list_any (operation_is (codes "MACRO")) (drop at lines) ≡ list_any (operation_is (codes "MACRO")) lines → true ≡ list_any (operation_is (codes "MACRO")) lines
any_here lines at l is this same =
    sym (sym same ∙ ap (list_any (operation_is (codes "MACRO"))) (drop_next lines at l is) ∙ ap (λ (b : Bool). b || list_any (operation_is (codes "MACRO")) (drop (at + 1) lines)) this)

pub any_later : (lines : List Line) (at : ℕ) (l : Line) → slice_get lines at ≡ Some l → operation_is (codes "MACRO") l ≡ false
    → list_any (operation_is (codes "MACRO")) (drop at lines) ≡ list_any (operation_is (codes "MACRO")) lines
    → list_any (operation_is (codes "MACRO")) (drop (at + 1) lines) ≡ list_any (operation_is (codes "MACRO")) lines
any_later lines at l is other same =
    sym (ap (list_any (operation_is (codes "MACRO"))) (drop_next lines at l is) ∙ ap (λ (b : Bool). b || list_any (operation_is (codes "MACRO")) (drop (at + 1) lines)) other) ∙ same

pub any_nowhere : (lines : List Line) (at : ℕ) → length lines ≤ at → list_any (operation_is (codes "MACRO")) (drop at lines) ≡ list_any (operation_is (codes "MACRO")) lines
    → false ≡ list_any (operation_is (codes "MACRO")) lines
any_nowhere lines at end same = sym (ap (list_any (operation_is (codes "MACRO"))) (drop_all lines at end)) ∙ same

all_plain : (lines : List Line) → list_any (operation_is (codes "MACRO")) lines ≡ false → parts_of None lines ≡ map Plain lines
unfolding parts_of
all_plain [] none = refl
all_plain (l ∷ lines) none = by (operation_is (codes "MACRO") l) none (all_plain lines)
  where
    by : (b : Bool) → (b || list_any (operation_is (codes "MACRO")) lines) ≡ false → (list_any (operation_is (codes "MACRO")) lines ≡ false → parts_of None lines ≡ map Plain lines)
        → cond b (parts_of (Some (l, [])) lines) (Plain l ∷ parts_of None lines) ≡ Plain l ∷ map Plain lines
    by true none more = absurd cc
    by false none more = ap (λ (ps : List DefinitionPart). Plain l ∷ ps) (more none)

plain_faultless : (lines : List Line) → first_part_fault (map Plain lines) ≡ None
unfolding first_part_fault
plain_faultless [] = refl
plain_faultless (l ∷ lines) = plain_faultless lines

plain_lines : (lines : List Line) → map source_line (map Plain lines) ≡ lines
plain_lines [] = refl
plain_lines (l ∷ lines) = ap (λ (ls : List Line). l ∷ ls) (plain_lines lines)

no_definitions : (lines : List Line) → definitions_in true (map Plain lines) ≡ []
unfolding definitions_in
no_definitions [] = refl
no_definitions (l ∷ lines) = no_definitions lines

pub none_scanned : (lines : List Line) (old : List meaning.MacroDefinition) → list_any (operation_is (codes "MACRO")) lines ≡ false → Scanned true lines old old (Ok lines)
none_scanned lines old none =
    let plain = all_plain lines none in (
      ap first_part_fault plain ∙ plain_faultless lines,
      sym (ap (map source_line) plain ∙ plain_lines lines),
      sym (ap (λ (ds : List meaning.MacroDefinition). old ++ ds) (ap (definitions_in true) plain ∙ no_definitions lines) ∙ append-nil old),
    )
