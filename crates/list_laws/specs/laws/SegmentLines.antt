-- The lines of a segment and of a file: read again, they leave segments that represent the same.
use Rattle.std.proofs.Common.{◌≡◌, ℕ, zero, suc, ◌+◌, ◌-◌, ◌^◌, ◌<◌, ◌≤◌, Bool, true, false, cond, eqb, List, [], ◌∷◌, ◌++◌, length, take, drop, map, Option, Some, None, Ok, Err, refl, sym, ap, subst, ◌∙◌, arith, append_assoc, append-nil, length-append}
use Rattle.std.specs.Prelude.{◌&&◌, ◌||◌, ◌==◌, not, nat_le, bytes_eq, is_some, replicate, Result}
use Rattle.std.specs.Int.{is_power_of_two}
use Rattle.std.specs.Option.{option_map}
use Rattle.std.specs.List.{AllByRecursion, list_all, flat_map, position_or_len}
use Rattle.std.proofs.lemmas.Bool.{eqb-true, leb-true, and_parts}
use Rattle.std.proofs.lemmas.List.Concat.{flat_map-cons, flat_map-append}
use Rattle.std.proofs.lemmas.Slice.Eq.{bytes_eq-Decides}
use Rattle.omf_format.specs.Field.{◌>>=◌, Layout}
use Rattle.omf_format.specs.File as format
use Rattle.omf_format.specs.Header.{HeaderFields, form_of, is_listed}
use Rattle.omf_format.specs.Record as records
use Rattle.omf_format.specs.Record.{Record, End, IsRecord}
use Rattle.omf_format.specs.laws.FieldLaws.{bind_ok}
use Rattle.object_meaning.specs.Sizes.{body_size}
use Rattle.orca_meaning.specs.Line.{line_of}
use Rattle.orca_meaning.specs.Names.{with_name}
use Rattle.asm_meaning.specs.declared.directives.Class.{Class}
use Rattle.asm_meaning.specs.declared.directives.Switch.TheVariants.{LongA, LongI}
use Rattle.asm_meaning.specs.Constant.{Constants}
use Rattle.asm_meaning.specs.Instruction.{Widths}
use Rattle.asm_meaning.specs.Pieces.{place_after}
use Rattle.asm_meaning.specs.laws.PieceLaws.{all-append, place_after-append}
use Rattle.asm_meaning.specs.laws.ObjectFileLaws.{same_place}
use Rattle.asm_meaning.specs.State as states
use Rattle.asm_meaning.specs.State.{State, StartedSegment, FinishedSegment, state_after_start, state_after_end, with_local_record, in_segment, bank_size_of, no_names}
use Rattle.asm_meaning.specs.laws.Steps.{ended_of}
use Rattle.asm_meaning.specs.Statement.{IsStep, value_in}
use Rattle.list_meaning.specs.Listed.{ListedStatement, NextAlignIs, NextOrg, StartIs, KindIs, SwitchIs, Ds, EndIs, said_text}
use Rattle.list_meaning.specs.Listing as listing
use Rattle.list_meaning.specs.Listing.{PendingRun, Given, without_padding, is_listable, is_listable_load_name, has_listable_header, unless_zero, front_of, widths_rest, said_rest, is_among, is_short, given_by, with_run_written, then_said, equate_name, said_from, both_long, listing_of, listing_from}
use Rattle.list_meaning.specs.laws.Steps.{is_padded, are_short, equates_of, or_record, at_front, is_listed_form, greatest_length, has_lost_place}
use Rattle.list_laws.specs.Flat.{contents_of}
use Rattle.list_laws.specs.Given.{name_said, widths_said, class_of, Opens, Closes}
use Rattle.list_laws.specs.laws.BytesLine.{AreBytes}
use Rattle.list_laws.specs.laws.FormulaLaw.{IsPlainName}
use Rattle.list_laws.specs.laws.FormulaCan.{plain_name}
use Rattle.list_laws.specs.laws.MoreLines.{IsLoadName, padded, next_align_step, next_org_step, start_step, data_step, end_step}
use Rattle.list_laws.specs.laws.LineGives.{Stands, line_gives}
use Rattle.list_laws.specs.laws.After.{Leads, leads_on, one_more, given, widths_after, given-append, AreFine, AreFine-append, Holds, Ran, lines_run}
use Rattle.list_laws.specs.laws.RunGives.{Runs, rest_runs}
use Rattle.list_laws.specs.laws.Content.{Alike, alike_cons, alike_end, spaces_of}
use Rattle.list_laws.specs.laws.Again.{IsWrittenAs, AreSaid, without_run, said_on, end_said, end_equates, equates_located}
use Rattle.list_laws.specs.laws.RecordLines.{IsKnown, record_given}
use Rattle.list_laws.specs.laws.WholeLaw.{IsSaidLine}
use Rattle.list_laws.specs.laws.SaidLines.{front_line, origin_line, begins_line, kind_line, end_line, fine_line}
use Rattle.list_laws.specs.laws.ReadFacts.{HasBytes, EndsLast, IsReadSegment}

-- ---- the records of a segment

-- the lines of records up to END: those before END are allowed there, and represent the same
pub record IsWritten (f : HeaderFields) (equates : List (List ℕ)) (b : PendingRun) (rs : List Record) (lines : List ListedStatement) : Type 0 where
  pub mids : List ListedStatement
  pub whole : lines ≡ mids ++ EndIs ∷ []
  pub short : AllByRecursion (λ said. is_short said ≡ true) lines
  pub fine : AreFine equates f.align b.names b.widths mids
  pub alike : (at : ℕ) → Alike f.lab_len f.res_spc at b.run rs (given b.widths mids)
  pub again : (h : HeaderFields) → IsWrittenAs f h → (c : PendingRun) × AreSaid h equates (without_run b) (given b.widths mids ++ End ∷ []) lines c
  pub same_equates : flat_map equate_name rs ≡ flat_map equate_name (given b.widths mids)

all_short : (lines : List ListedStatement) → list_all is_short lines ≡ true → AllByRecursion (λ said. is_short said ≡ true) lines
all_short [] e = tt
all_short (said ∷ lines) e = let both = and_parts (is_short said) (list_all is_short lines) e in (both.0, all_short lines both.1)

or_is : (at : ℕ) (o : Option Given) (g : Given) → or_record at o ≡ Ok g → o ≡ Some g
or_is at None g e = absurd cc
or_is at (Some x) g e = ap (λ (y : Given). Some y) (same x g e)
  where
    right : Given → Result Given ℕ
    right y = Ok y

    same : (x y : Given) → right x ≡ right y → x ≡ y
    same x y e = cc

abbrev right_lines : List ListedStatement → Result (List ListedStatement) ℕ
right_lines l = Ok l

same_lines : (a b : List ListedStatement) → right_lines a ≡ right_lines b → a ≡ b
same_lines a b e = cc

-- the lines of a record, and of those after it
record Parts (f : HeaderFields) (equates : List (List ℕ)) (b : PendingRun) (found : ℕ × Record) (founds : List (ℕ × Record)) (lines : List ListedStatement) : Type 0 where
  first : Given
  gives : given_by f equates b found.1 ≡ Some first
  more : List ListedStatement
  rest : said_from f equates first.1 founds ≡ Ok more
  whole : lines ≡ first.0 ++ more

parts_of : (f : HeaderFields) (equates : List (List ℕ)) (b : PendingRun) (found : ℕ × Record) (founds : List (ℕ × Record)) (lines : List ListedStatement) → said_from f equates b (found ∷ founds) ≡ Ok lines
    → Parts f equates b found founds lines
unfolding said_from
parts_of f equates b found founds lines is =
    let one = bind_ok (or_record found.0 (given_by f equates b found.1)) (λ (g : Given). said_from f equates g.1 founds >>= λ more. Ok (g.0 ++ more)) lines is in
    let two = bind_ok (said_from f equates one.0.1 founds) (λ (more : List ListedStatement). Ok (one.0.0 ++ more)) lines one.2 in
    record { first = one.0; gives = or_is found.0 (given_by f equates b found.1) one.0 one.1; more = two.0; rest = two.1; whole = sym (same_lines (one.0.0 ++ two.0) lines two.2) }

-- DS for RESSPC
record SpacesStand (equates : List (List ℕ)) (align : ℕ) (names : List (List ℕ)) (w : Widths) (n : ℕ) : Type 0 where
  fine : AreFine equates align names w (unless_zero Ds n)
  gives : given w (unless_zero Ds n) ≡ spaces_of n

spaces_stand : (equates : List (List ℕ)) (align : ℕ) (names : List (List ℕ)) (w : Widths) (n : ℕ) → n < 2 ^ 32 → SpacesStand equates align names w n
spaces_stand equates align names w n fits = let both = by (eqb n 0) refl in record { fine = both.0; gives = both.1 }
  where
    some : (n : ℕ) → eqb n 0 ≡ false → records.Space n ∷ [] ≡ spaces_of n
    some zero e = absurd cc
    some (suc n) e = refl

    by : (b : Bool) → eqb n 0 ≡ b → AreFine equates align names w (cond b [] (Ds n ∷ [])) × (given w (cond b [] (Ds n ∷ [])) ≡ spaces_of n)
    by true e = (tt, ap spaces_of (sym (eqb-true n 0 e)))
    by false e = ((fits, tt), some n e)

-- END
end_written : (f : HeaderFields) (equates : List (List ℕ)) (b : PendingRun) (lines : List ListedStatement) (g : Given) (more : List ListedStatement) → f.res_spc < 2 ^ 32 → AreBytes b.run → given_by f equates b End ≡ Some g → more ≡ [] → lines ≡ g.0 ++ more
    → IsWritten f equates b (End ∷ []) lines
unfolding given_by
end_written f equates b lines g more fits are gives none whole = by (are_short answer) refl gives
  where
    run_lines : List ListedStatement
    run_lines = said_rest b.widths 0 b.run

    spaces : List ListedStatement
    spaces = unless_zero Ds f.res_spc

    answer : Given
    answer = then_said (spaces ++ EndIs ∷ []) (with_run_written b)

    v : Widths
    v = widths_rest b.widths 0 b.run

    by : (s : Bool) → are_short answer ≡ s → cond (true && s) (Some answer) None ≡ Some g → IsWritten f equates b (End ∷ []) lines
    by false short e = absurd cc
    by true short e =
        let same : answer ≡ g = some_given answer g e in
        let all : lines ≡ run_lines ++ (spaces ++ EndIs ∷ []) = whole ∙ ap (λ (l : List ListedStatement). g.0 ++ l) none ∙ append-nil g.0 ∙ ap (λ (x : Given). x.0) (sym same) in
        let runs : Runs equates f.align b.names b.widths v run_lines b.run = rest_runs equates f.align b.names b.widths 0 b.run are in
        let stands = spaces_stand equates f.align b.names v f.res_spc fits in
        let gives : given b.widths (run_lines ++ spaces) ≡ given b.widths run_lines ++ spaces_of f.res_spc =
        given-append b.widths run_lines spaces ∙ ap (λ (w : Widths). given b.widths run_lines ++ given w spaces) runs.widths ∙ ap (λ (l : List Record). given b.widths run_lines ++ l) stands.gives in
        record {
          mids = run_lines ++ spaces;
          whole = all ∙ sym (append_assoc run_lines spaces (EndIs ∷ []));
          short = subst (AllByRecursion (λ said. is_short said ≡ true)) (sym all) (all_short (run_lines ++ (spaces ++ EndIs ∷ [])) short);
          fine = AreFine-append equates f.align b.names b.widths run_lines spaces runs.fine
              (subst (λ (n : List (List ℕ)). AreFine equates f.align n (widths_after b.widths run_lines) spaces) (sym runs.same_names)
              (subst (λ (w : Widths). AreFine equates f.align b.names w spaces) (sym runs.widths) stands.fine));
          alike = λ at. subst (Alike f.lab_len f.res_spc at b.run (End ∷ [])) (sym gives) (alike_end f.lab_len f.res_spc at b.run (given b.widths run_lines) runs.consts runs.bytes_given);
          again = λ h written.
              let said = end_said h equates b (given b.widths run_lines) f.res_spc written.spaced runs.consts runs.bytes_given short in (
                said.0,
                subst (λ (l : List ListedStatement). AreSaid h equates (without_run b) (given b.widths (run_lines ++ spaces) ++ End ∷ []) l said.0) (sym all)
                    (subst (λ (rs : List Record). AreSaid h equates (without_run b) (rs ++ End ∷ []) (run_lines ++ (spaces ++ EndIs ∷ [])) said.0) (sym gives) said.1),
              );
          same_equates = sym (ap (flat_map equate_name) gives ∙ end_equates (given b.widths run_lines) f.res_spc runs.consts);
        }
      where
        some_given : (a b : Given) → Some a ≡ Some b → a ≡ b
        some_given a b e = cc

-- what is known of each record
abbrev pub AreKnown : List (List ℕ) → Layout → List (ℕ × Record) → Type 0
AreKnown equates l founds = AllByRecursion (λ found. IsRecord l found.1 × IsKnown equates found.1) founds

none_left : (f : HeaderFields) (equates : List (List ℕ)) (b : PendingRun) (more : List ListedStatement) → said_from f equates b [] ≡ Ok more → more ≡ []
unfolding said_from
none_left f equates b more is = sym (same_lines [] more is)

pub records_written : (f : HeaderFields) (equates : List (List ℕ)) (l : Layout) (b : PendingRun) (founds : List (ℕ × Record)) (lines : List ListedStatement) → l.lab_len ≡ f.lab_len → f.lab_len ≤ 255 → f.res_spc < 2 ^ 32
    → AreKnown equates l founds → EndsLast (map (λ found. found.1) founds) → AreBytes b.run → said_from f equates b founds ≡ Ok lines → IsWritten f equates b (map (λ found. found.1) founds) lines
records_written f equates l b [] lines same low fits known ends are is = absurd ends
records_written f equates l b (found ∷ []) lines same low fits known ends are is =
    let parts = parts_of f equates b found [] lines is in
    subst (λ (r : Record). IsWritten f equates b (r ∷ []) lines) (sym ends)
    (end_written f equates b lines parts.first parts.more fits are (ap (given_by f equates b) (sym ends) ∙ parts.gives) (none_left f equates parts.first.1 parts.more parts.rest) parts.whole)
records_written f equates l b (found ∷ next ∷ founds) lines same low fits known ends are is =
    let parts = parts_of f equates b found (next ∷ founds) lines is in
    let g = parts.first in
    let first = record_given f equates b l found.1 g same low known.0.0 known.0.1 are ends.0 parts.gives in
    let put = first.put in
    let others = records_written f equates l g.1 (next ∷ founds) parts.more same low fits known.1 ends.1 put.bytes parts.rest in
    let following : given (widths_after b.widths g.0) others.mids ≡ given g.1.widths others.mids = ap (λ (w : Widths). given w others.mids) put.widths in
    let gives : given b.widths (g.0 ++ others.mids) ≡ given b.widths g.0 ++ given g.1.widths others.mids = given-append b.widths g.0 others.mids ∙ ap (λ (r : List Record). given b.widths g.0 ++ r) following in
    let rs = map (λ (x : ℕ × Record). x.1) (next ∷ founds) in
    record {
      mids = g.0 ++ others.mids;
      whole = parts.whole ∙ ap (λ (x : List ListedStatement). g.0 ++ x) others.whole ∙ sym (append_assoc g.0 others.mids (EndIs ∷ []));
      short = subst (AllByRecursion (λ said. is_short said ≡ true)) (sym parts.whole) (all-append (λ said. is_short said ≡ true) g.0 parts.more (all_short g.0 first.short) others.short);
      fine = AreFine-append equates f.align b.names b.widths g.0 others.mids put.fine
          (subst (λ (n : List (List ℕ)). AreFine equates f.align n (widths_after b.widths g.0) others.mids) (sym put.names)
          (subst (λ (w : Widths). AreFine equates f.align g.1.names w others.mids) (sym put.widths) others.fine));
      alike = λ at. subst (Alike f.lab_len f.res_spc at b.run (found.1 ∷ rs)) (sym gives)
          (alike_cons f.lab_len f.res_spc at b.run g.1.run found.1 rs (given b.widths g.0) (given g.1.widths others.mids) (put.same at) (others.alike (place_after at (given b.widths g.0))));
      again = λ h written.
          let rest = others.again h written in
          let whole : given b.widths (g.0 ++ others.mids) ++ End ∷ [] ≡ given b.widths g.0 ++ (given g.1.widths others.mids ++ End ∷ []) =
          ap (λ (l : List Record). l ++ End ∷ []) gives ∙ append_assoc (given b.widths g.0) (given g.1.widths others.mids) (End ∷ []) in (
            rest.0,
            subst (λ (l : List ListedStatement). AreSaid h equates (without_run b) (given b.widths (g.0 ++ others.mids) ++ End ∷ []) l rest.0) (sym parts.whole)
                (subst (λ (l : List Record). AreSaid h equates (without_run b) l (g.0 ++ parts.more) rest.0) (sym whole)
                (said_on h equates (without_run b) (without_run g.1) rest.0 (given b.widths g.0) (given g.1.widths others.mids ++ End ∷ []) g.0 parts.more (put.again h written) rest.1)),
          );
      same_equates = flat_map-cons equate_name found.1 rs ∙ ap (λ (l : List (List ℕ)). l ++ flat_map equate_name rs) put.same_equates
          ∙ ap (λ (l : List (List ℕ)). flat_map equate_name (given b.widths g.0) ++ l) others.same_equates
          ∙ sym (ap (flat_map equate_name) gives ∙ flat_map-append equate_name (given b.widths g.0) (given g.1.widths others.mids));
    }

-- an equate's name is among those of the segment's equates
among_more : (a b : List (List ℕ)) (name : List ℕ) → is_among b name ≡ true → is_among (a ++ b) name ≡ true
among_more [] b name is = is
among_more (x ∷ a) b name is = by (bytes_eq name x) (among_more a b name is)
  where
    by : (c : Bool) → is_among (a ++ b) name ≡ true → (c || is_among (a ++ b) name) ≡ true
    by true rest = refl
    by false rest = rest

name_among : (name : List ℕ) (rest : List (List ℕ)) → is_among (name ∷ rest) name ≡ true
name_among name rest = rw ((bytes_eq-Decides name name).1 refl) refl

known_of : (r : Record) (all rest : List (List ℕ)) → ((name : List ℕ) → is_among (equate_name r ++ rest) name ≡ true → is_among all name ≡ true) → HasBytes r → IsKnown all r
known_of (records.Const bytes) all rest among has = has
known_of (records.LongConst bytes) all rest among has = has
known_of (records.Equate global name size form private expr) all rest among has = among name (name_among name rest)
known_of _ all rest among has = tt

pub all_known : (all : List (List ℕ)) (l : Layout) (founds : List (ℕ × Record)) → ((name : List ℕ) → is_among (flat_map (λ found. equate_name found.1) founds) name ≡ true → is_among all name ≡ true)
    → AllByRecursion (λ found. IsRecord l found.1) founds → AllByRecursion (λ found. HasBytes found.1) founds → AreKnown all l founds
all_known all l [] among forms bytes = tt
all_known all l (found ∷ founds) among forms bytes =
    let names = λ (x : ℕ × Record). equate_name x.1 in
    let whole = flat_map-cons names found founds in
    let here : (name : List ℕ) → is_among (equate_name found.1 ++ flat_map names founds) name ≡ true → is_among all name ≡ true = λ name is. among name (ap (λ (l : List (List ℕ)). is_among l name) whole ∙ is) in
    ((forms.0, known_of found.1 all (flat_map names founds) here bytes.0), all_known all l founds (λ name is. here name (among_more (equate_name found.1) (flat_map names founds) name is)) forms.1 bytes.1)

-- ---- the header

pub record HasListedHeader (s : format.Segment) : Type 0 where
  pub listed : is_listed (form_of s.fields.kind) ≡ true
  pub name : is_listable s.fields.name ≡ true
  pub load_name : is_listable_load_name s.fields.load_name ≡ true
  pub bank : (s.fields.bank_size == 0 || s.fields.bank_size == 0x10000) ≡ true
  pub align : (s.fields.align == 0 || (is_power_of_two s.fields.align && nat_le s.fields.align 0x10000)) ≡ true
  pub size : s.fields.length ≡ body_size s + s.fields.res_spc
  pub most : s.fields.length ≤ greatest_length s.fields.bank_size

listed_form : (form : ℕ) → is_listed_form form ≡ true → is_listed form ≡ true
listed_form form is = by (eqb 0x00 form) (eqb 0x01 form) (eqb 0x02 form) (eqb 0x04 form) (eqb 0x08 form) (eqb 0x10 form) (eqb 0x12 form) is
  where
    by : (a b c d e f g : Bool) → (a || (b || (f || (g || false)))) ≡ true → (a || (b || (c || (d || (e || (f || (g || false))))))) ≡ true
    by true b c d e f g h = refl
    by false true c d e f g h = refl
    by false false true d e f g h = refl
    by false false false true e f g h = refl
    by false false false false true f g h = refl
    by false false false false false f g h = h

pub header_listed : (s : format.Segment) → has_listable_header s ≡ true → HasListedHeader s
header_listed s is =
    let f = s.fields in
    let h = and_parts _ (nat_le f.length (greatest_length f.bank_size)) is in
    let g = and_parts _ (f.length == body_size s + f.res_spc) h.0 in
    let e = and_parts _ (not (has_lost_place s)) g.0 in
    let d = and_parts _ (f.entry == 0) e.0 in
    let c = and_parts _ (f.align == 0 || (is_power_of_two f.align && nat_le f.align 0x10000)) d.0 in
    let b = and_parts _ (f.bank_size == 0 || f.bank_size == 0x10000) c.0 in
    let a = and_parts _ (is_listable_load_name f.load_name) b.0 in
    let first = and_parts (is_listed_form (form_of f.kind)) (is_listable f.name) a.0 in
    record {
      listed = listed_form (form_of f.kind) first.0;
      name = first.1;
      load_name = a.1;
      bank = b.1;
      align = c.1;
      size = eqb-true f.length (body_size s + f.res_spc) g.1;
      most = leb-true f.length (greatest_length f.bank_size) h.1;
    }

-- LOADNAME is written without its spaces, and read with them
all_spaces : (text : List ℕ) → list_all (λ byte. byte == 0x20) text ≡ true → text ≡ replicate (length text) 0x20
all_spaces [] e = refl
all_spaces (byte ∷ text) e =
    let both = and_parts (byte == 0x20) (list_all (λ byte. byte == 0x20) text) e in
    ap (λ (k : ℕ). k ∷ text) (eqb-true byte 0x20 both.0) ∙ ap (λ (l : List ℕ). 0x20 ∷ l) (all_spaces text both.1)

cut_at : (n : ℕ) (text : List ℕ) → take n text ++ drop n text ≡ text
cut_at zero text = refl
cut_at (suc n) [] = refl
cut_at (suc n) (byte ∷ text) = ap (λ (l : List ℕ). byte ∷ l) (cut_at n text)

pub padded_back : (text : List ℕ) → length text ≡ 10 → is_padded text ≡ true → padded (without_padding text) ≡ text
padded_back text size is =
    let n = position_or_len (λ byte. byte == 0x20) text in
    let whole = cut_at n text in
    let count : length (drop n text) ≡ 10 - length (take n text) = omega (arith, ap length whole, length-append (take n text) (drop n text), size) in
    ap (λ (k : ℕ). take n text ++ replicate k 0x20) (sym count) ∙ ap (λ (l : List ℕ). take n text ++ l) (sym (all_spaces (drop n text) is)) ∙ whole

pub load_name_is : (text : List ℕ) → length text ≡ 10 → is_listable_load_name text ≡ true → IsLoadName (without_padding text) × (padded (without_padding text) ≡ text)
load_name_is text size is =
    let both = and_parts (is_padded text) (bytes_eq (without_padding text) [] || is_listable (without_padding text)) is in
    let n = position_or_len (λ byte. byte == 0x20) text in
    let few : length (without_padding text) ≤ 10 = omega (arith, ap length (cut_at n text), length-append (take n text) (drop n text), size) in
    (by (without_padding text) both.1 few, padded_back text size both.0)
  where
    by : (name : List ℕ) → (bytes_eq name [] || is_listable name) ≡ true → length name ≤ 10 → IsLoadName name
    by [] is few = tt
    by (byte ∷ name) is few = (plain_name (byte ∷ name) is, few)

-- ---- the lines before the records

-- no segment is open, and nothing waits but this ALIGN and this ORG
pub record Ready (align org : ℕ) (ended : List FinishedSegment) (state : State) : Type 0 where
  pub none : state.segment ≡ None
  pub outside : (name : List ℕ) → state.outside name ≡ None
  pub org_is : state.org ≡ org
  pub align_is : state.align ≡ align
  pub front : state.front ≡ []
  pub ended_is : state.ended ≡ ended

record ReadyAfter (align org : ℕ) (ended : List FinishedSegment) (state : State) (number : ℕ) (lines : List ListedStatement) : Type 0 where
  next : State
  leads : Leads state number lines next
  ready : Ready align org ended next

align_ready : (n : ℕ) (ended : List FinishedSegment) (state : State) (number : ℕ) → (n == 0 || (is_power_of_two n && nat_le n 0x10000)) ≡ true → Ready 0 0 ended state → ReadyAfter n 0 ended state number (unless_zero NextAlignIs n)
align_ready n ended state number may ready = by (eqb n 0) refl may
  where
    by : (b : Bool) → eqb n 0 ≡ b → (b || (is_power_of_two n && nat_le n 0x10000)) ≡ true → ReadyAfter n 0 ended state number (cond b [] (NextAlignIs n ∷ []))
    by true e may = record { next = state; leads = refl; ready = subst (λ (k : ℕ). Ready k 0 ended state) (sym (eqb-true n 0 e)) ready }
    by false e may =
        let both = and_parts (is_power_of_two n) (nat_le n 0x10000) may in
        record {
          next = record state { align = n };
          leads = (record state { align = n }, (next_align_step state number n ready.none (leb-true n 0x10000 both.1) both.0, refl), refl);
          ready = record { none = ready.none; outside = ready.outside; org_is = ready.org_is; align_is = refl; front = ready.front; ended_is = ready.ended_is };
        }

org_ready : (align n : ℕ) (ended : List FinishedSegment) (state : State) (number : ℕ) → n < 2 ^ 32 → Ready align 0 ended state → ReadyAfter align n ended state number (unless_zero NextOrg n)
org_ready align n ended state number fits ready = by (eqb n 0) refl
  where
    by : (b : Bool) → eqb n 0 ≡ b → ReadyAfter align n ended state number (cond b [] (NextOrg n ∷ []))
    by true e = record { next = state; leads = refl; ready = subst (λ (k : ℕ). Ready align k ended state) (sym (eqb-true n 0 e)) ready }
    by false e = record {
      next = record state { org = n };
      leads = (record state { org = n }, (next_org_step state number n ready.none fits, refl), refl);
      ready = record { none = ready.none; outside = ready.outside; org_is = refl; align_is = ready.align_is; front = ready.front; ended_is = ready.ended_is };
    }

-- after START or DATA
record HasBegun (crosses : Bool) (name load_name : List ℕ) (align org : ℕ) (ended : List FinishedSegment) (state : State) (number : ℕ) : Type 0 where
  next : State
  step : IsStep state (line_of 0 number (said_text (StartIs crosses name load_name))) (Ok next)
  left : Opens (line_of 0 number (said_text (StartIs crosses name load_name))) crosses name load_name state next
  s : StartedSegment
  here : next.segment ≡ Some s
  class : s.class ≡ class_of crosses
  name_is : s.header.name ≡ name
  load_is : s.header.load_name ≡ padded load_name
  bank : s.header.bank_size ≡ bank_size_of (class_of crosses)
  org_is : s.header.org ≡ org
  align_is : s.header.align ≡ align
  spaced : s.header.res_spc ≡ 0
  entry : s.header.entry ≡ 0
  names : s.names ≡ with_name name None no_names
  body : s.body ≡ []
  outside : (name : List ℕ) → next.outside name ≡ None
  org_left : next.org ≡ 0
  align_left : next.align ≡ 0
  front : next.front ≡ []
  ended_left : next.ended ≡ ended

begun_is : (crosses : Bool) (name load_name : List ℕ) (align org : ℕ) (ended : List FinishedSegment) (state : State) (number : ℕ) → Ready align org ended state
    → IsStep state (line_of 0 number (said_text (StartIs crosses name load_name))) (Ok (state_after_start state (line_of 0 number (said_text (StartIs crosses name load_name))) (class_of crosses) name (padded load_name)))
    → HasBegun crosses name load_name align org ended state number
begun_is crosses name load_name align org ended state number ready step =
    let line = line_of 0 number (said_text (StartIs crosses name load_name)) in
    let class = class_of crosses in
    record {
      next = state_after_start state line class name (padded load_name);
      step = step;
      left = record {
        after = record { start_line = line; class = class; header = states.header_of state class name (padded load_name); names = with_name name None no_names; body = state.front };
        was = ready.none;
        next_is = refl;
        start_line = refl;
        class = refl;
        header = refl;
        names = refl;
        body = refl;
      };
      s = record { start_line = line; class = class; header = states.header_of state class name (padded load_name); names = with_name name None no_names; body = state.front };
      here = refl;
      class = refl;
      name_is = refl;
      load_is = refl;
      bank = refl;
      org_is = ready.org_is;
      align_is = ready.align_is;
      spaced = refl;
      entry = refl;
      names = refl;
      body = ready.front;
      outside = ready.outside;
      org_left = refl;
      align_left = refl;
      front = refl;
      ended_left = ready.ended_is;
    }

begins : (crosses : Bool) (name load_name : List ℕ) (align org : ℕ) (ended : List FinishedSegment) (state : State) (number : ℕ) → IsPlainName name → IsLoadName load_name → Ready align org ended state
    → HasBegun crosses name load_name align org ended state number
begins true name load_name align org ended state number is load ready =
    begun_is true name load_name align org ended state number ready (data_step state number name load_name ready.none ready.front is load)
begins false name load_name align org ended state number is load ready =
    begun_is false name load_name align org ended state number ready (start_step state number name load_name ready.none ready.front is load)

-- ---- a segment

-- an ended segment has this header, and its records represent the same
pub record IsEndedAs (s : format.Segment) (e : FinishedSegment) : Type 0 where
  pub name : e.header.name ≡ s.fields.name
  pub load_name : e.header.load_name ≡ s.fields.load_name
  pub kind : e.header.kind ≡ s.fields.kind
  pub bank_size : e.header.bank_size ≡ s.fields.bank_size
  pub org : e.header.org ≡ s.fields.org
  pub align : e.header.align ≡ s.fields.align
  pub length' : e.header.length ≡ s.fields.length
  pub spaced : e.header.res_spc ≡ 0
  pub written : List Record
  pub body : e.body ≡ written ++ End ∷ []
  pub alike : Alike s.fields.lab_len s.fields.res_spc 0 [] (contents_of s) written

-- the parts of a listing
pub record ListedParts (s : format.Segment) (lines : List ListedStatement) : Type 0 where
  pub header : has_listable_header s ≡ true
  pub front_short : list_all is_short (front_of s.fields) ≡ true
  pub more : List ListedStatement
  pub rest : said_from s.fields (equates_of s) (at_front s.fields) s.records ≡ Ok more
  pub whole : lines ≡ front_of s.fields ++ more

-- the records of an ended segment are listed as these lines
pub record IsSaidAgain (s : format.Segment) (e : FinishedSegment) (lines : List ListedStatement) : Type 0 where
  pub parts : ListedParts s lines
  pub entry : e.header.entry ≡ 0
  pub again : (h : HeaderFields) → IsWrittenAs s.fields h → (c : PendingRun) × AreSaid h (equates_of s) (at_front s.fields) e.body parts.more c
  pub same_equates : equates_of s ≡ flat_map equate_name e.body

pub record SegmentRan (s : format.Segment) (ended : List FinishedSegment) (state : State) (number : ℕ) (lines : List ListedStatement) : Type 0 where
  pub last : State
  pub leads : Leads state number lines last
  pub e : FinishedSegment
  pub ready : Ready 0 0 (ended ++ e ∷ []) last
  pub is : IsEndedAs s e
  pub again : IsSaidAgain s e lines
  pub said : AllByRecursion IsSaidLine lines

listed_parts : (s : format.Segment) (lines : List ListedStatement) → listing_of s ≡ Ok lines → ListedParts s lines
unfolding listing_of
listed_parts s lines is = by (has_listable_header s) (list_all is_short (front_of s.fields)) refl refl is
  where
    by : (a b : Bool) → has_listable_header s ≡ a → list_all is_short (front_of s.fields) ≡ b
        → cond (a && b) (said_from s.fields (equates_of s) (at_front s.fields) s.records >>= λ more. Ok (front_of s.fields ++ more)) (Err s.start) ≡ Ok lines → ListedParts s lines
    by true true p q e =
        let two = bind_ok (said_from s.fields (equates_of s) (at_front s.fields) s.records) (λ (more : List ListedStatement). Ok (front_of s.fields ++ more)) lines e in
        record { header = p; front_short = q; more = two.0; rest = two.1; whole = sym (same_lines (front_of s.fields ++ two.0) lines two.2) }
    by true false p q e = absurd cc
    by false b p q e = absurd cc

same_greatest : (b : Bool) → states.greatest_length (class_of b) ≡ cond b 0xFFFFFF 0x10000
same_greatest true = refl
same_greatest false = refl

same_bank : (n : ℕ) → (n == 0 || n == 0x10000) ≡ true → bank_size_of (class_of (n == 0)) ≡ n
same_bank n may = by (eqb n 0) refl may
  where
    by : (b : Bool) → eqb n 0 ≡ b → (b || eqb n 0x10000) ≡ true → bank_size_of (class_of b) ≡ n
    by true e may = sym (eqb-true n 0 e)
    by false e may = sym (eqb-true n 0x10000 may)

first_name : (name asked : List ℕ) → value_in (with_name name None no_names asked) ≡ None
first_name name asked = by (bytes_eq name asked)
  where
    by : (b : Bool) → value_in (cond b (Some None) None) ≡ None
    by true = refl
    by false = refl

-- ---- the lines are source

all_parts : {A : Type 0} (P : A → Type 0) (a b : List A) → AllByRecursion P (a ++ b) → AllByRecursion P a × AllByRecursion P b
all_parts P [] b all = (tt, all)
all_parts P (x ∷ a) b all = let more = all_parts P a b all.1 in ((all.0, more.0), more.1)

mids_said : (equates : List (List ℕ)) (align : ℕ) (names : List (List ℕ)) (w : Widths) (mids : List ListedStatement) → AreFine equates align names w mids → AllByRecursion (λ said. is_short said ≡ true) mids → AllByRecursion IsSaidLine mids
mids_said equates align names w [] fine short = tt
mids_said equates align names w (said ∷ mids) fine short = (fine_line equates align names w said fine.0 short.0, mids_said equates align (name_said said ++ names) (widths_said said w) mids fine.1 short.1)

align_said : (n : ℕ) → (n == 0 || (is_power_of_two n && nat_le n 0x10000)) ≡ true → AllByRecursion (λ said. is_short said ≡ true) (unless_zero NextAlignIs n) → AllByRecursion IsSaidLine (unless_zero NextAlignIs n)
align_said n may = by (eqb n 0) may
  where
    by : (b : Bool) → (b || (is_power_of_two n && nat_le n 0x10000)) ≡ true → AllByRecursion (λ said. is_short said ≡ true) (cond b [] (NextAlignIs n ∷ [])) → AllByRecursion IsSaidLine (cond b [] (NextAlignIs n ∷ []))
    by true may short = tt
    by false may short = (front_line n (omega (arith, leb-true n 0x10000 (and_parts (is_power_of_two n) (nat_le n 0x10000) may).1)) short.0, tt)

org_said : (n : ℕ) → n < 2 ^ 32 → AllByRecursion (λ said. is_short said ≡ true) (unless_zero NextOrg n) → AllByRecursion IsSaidLine (unless_zero NextOrg n)
org_said n fits = by (eqb n 0)
  where
    by : (b : Bool) → AllByRecursion (λ said. is_short said ≡ true) (cond b [] (NextOrg n ∷ [])) → AllByRecursion IsSaidLine (cond b [] (NextOrg n ∷ []))
    by true short = tt
    by false short = (origin_line n fits short.0, tt)

module _ (s : format.Segment) (lines : List ListedStatement) (ended : List FinishedSegment) (state : State) (number : ℕ) (read : IsReadSegment s) (parts : ListedParts s lines) (ready : Ready 0 0 ended state) where
  abbrev f : HeaderFields
  f = s.fields

  listed' : HasListedHeader s
  listed' = header_listed s parts.header

  -- RESSPC is part of LENGTH
  res_fits : f.res_spc < 2 ^ 32
  res_fits = by (eqb f.bank_size 0) listed'.most
    where
      by : (b : Bool) → s.fields.length ≤ cond b 0xFFFFFF 0x10000 → s.fields.res_spc < 2 ^ 32
      by true most = omega (arith, most, listed'.size)
      by false most = omega (arith, most, listed'.size)

  written : IsWritten f (equates_of s) (at_front f) (contents_of s) parts.more
  written =
      records_written s.fields (equates_of s) read.layout (at_front s.fields) s.records parts.more read.same_names read.fields.lab_len res_fits
      (all_known (equates_of s) read.layout s.records (λ name is. is) read.forms read.bytes) read.ends tt parts.rest

  first : ReadyAfter f.align 0 ended state number (unless_zero NextAlignIs f.align)
  first = align_ready s.fields.align ended state number listed'.align ready

  abbrev number1 : ℕ
  number1 = number + length (unless_zero NextAlignIs f.align)

  second : ReadyAfter f.align f.org ended first.next number1 (unless_zero NextOrg f.org)
  second = org_ready f.align f.org ended first.next number1 read.fields.org first.ready

  abbrev number2 : ℕ
  number2 = number1 + length (unless_zero NextOrg f.org)

  load : IsLoadName (without_padding f.load_name) × (padded (without_padding f.load_name) ≡ f.load_name)
  load = load_name_is f.load_name read.fields.load_name listed'.load_name

  third : HasBegun (f.bank_size == 0) f.name (without_padding f.load_name) f.align f.org ended second.next number2
  third = begins (f.bank_size == 0) f.name (without_padding f.load_name) f.align f.org ended second.next number2 (plain_name f.name listed'.name) load.0 second.ready

  kind_room : place_after 0 (third.s.body ++ []) ≤ states.greatest_length third.s.class
  unfolding place_after
  kind_room = subst (λ (l : List Record). place_after 0 (l ++ []) ≤ states.greatest_length third.s.class) (sym third.body) (omega arith)

  fourth : Stands (KindIs f.kind) third.next third.s (number2 + 1)
  fourth = line_gives third.next third.s (number2 + 1) (KindIs f.kind) third.here (omega (arith, read.fields.kind), listed'.listed) kind_room

  body_none : fourth.leaves.after.body ≡ []
  body_none = fourth.leaves.body ∙ ap (λ (l : List Record). l ++ []) third.body

  holds : Holds (equates_of s) f.align (f.name ∷ []) fourth.next.widths fourth.next fourth.leaves.after
  holds = record {
    here = fourth.leaves.here;
    aligned = ap (λ (h : HeaderFields). h.align) fourth.leaves.header ∙ third.align_is;
    same_names = λ name. ap (λ (n : states.Names). is_some (n name)) (fourth.leaves.names ∙ third.names) ∙ one_more f.name name None no_names [] refl;
    inner = λ name other. ap (λ (n : states.Names). value_in (n name)) (fourth.leaves.names ∙ third.names) ∙ first_name f.name name;
    outside = λ name. ap (λ (o : Constants). o name) fourth.leaves.outside ∙ third.outside name;
    widths = refl;
  }

  abbrev inner_lines : List ListedStatement
  inner_lines = SwitchIs LongA true ∷ SwitchIs LongI true ∷ written.mids

  abbrev records' : List Record
  records' = given both_long written.mids

  -- LENGTH is the place after the records
  cells : place_after 0 records' ≡ f.length
  unfolding body_size
  cells = sym ((written.alike 0).following) ∙ ap (λ (k : ℕ). k + s.fields.res_spc) (sym (same_place 0 s.records)) ∙ sym listed'.size

  room : place_after 0 (fourth.leaves.after.body ++ given fourth.next.widths inner_lines) ≤ states.greatest_length fourth.leaves.after.class
  room =
      let class : fourth.leaves.after.class ≡ class_of (f.bank_size == 0) = fourth.leaves.class ∙ third.class in
      let most : f.length ≤ states.greatest_length (class_of (f.bank_size == 0)) = subst (λ (k : ℕ). f.length ≤ k) (sym (same_greatest (f.bank_size == 0))) listed'.most in
      subst (λ (l : List Record). place_after 0 (l ++ records') ≤ states.greatest_length fourth.leaves.after.class) (sym body_none)
      (subst (λ (c : Class). place_after 0 records' ≤ states.greatest_length c) (sym class) (subst (λ (k : ℕ). k ≤ states.greatest_length (class_of (f.bank_size == 0))) (sym cells) most))

  ran : Ran fourth.next.widths inner_lines fourth.next fourth.leaves.after (number2 + 1 + 1)
  ran = lines_run (equates_of s) f.align (f.name ∷ []) fourth.next.widths fourth.next fourth.leaves.after (number2 + 1 + 1) inner_lines holds (tt, (tt, written.fine)) room

  abbrev last_state : State
  last_state = state_after_end (in_segment (with_local_record [] 0x4E (End ∷ [])) ran.last)

  abbrev ending : FinishedSegment
  ending = record { header = record ran.after.header { length = place_after 0 (ran.after.body ++ End ∷ []) }; body = ran.after.body ++ End ∷ [] }

  body_is : ran.after.body ≡ records'
  body_is = ran.body ∙ ap (λ (l : List Record). l ++ given both_long written.mids) body_none

  ends_with : last_state.ended ≡ ran.last.ended ++ ending ∷ []
  ends_with = ap (λ (o : Option StartedSegment). ran.last.ended ++ ended_of (option_map (with_local_record [] 0x4E (End ∷ [])) o)) ran.here

  end_left : Closes ran.last last_state
  end_left = record { s = ran.after; was = ran.here; next_is = ap (λ (l : List FinishedSegment). record last_state { ended = l }) ends_with }

  leads : Leads state number lines last_state
  unfolding front_of
  leads =
      let a = unless_zero NextAlignIs f.align in
      let o = unless_zero NextOrg f.org in
      let b = StartIs (f.bank_size == 0) f.name (without_padding f.load_name) in
      let tail = b ∷ KindIs f.kind ∷ SwitchIs LongA true ∷ SwitchIs LongI true ∷ [] in
      let whole : lines ≡ a ++ (o ++ (b ∷ KindIs f.kind ∷ (inner_lines ++ EndIs ∷ []))) =
      parts.whole ∙ ap (λ (l : List ListedStatement). (a ++ (o ++ tail)) ++ l) written.whole ∙ append_assoc a (o ++ tail) (written.mids ++ EndIs ∷ [])
      ∙ ap (λ (l : List ListedStatement). a ++ l) (append_assoc o tail (written.mids ++ EndIs ∷ [])) in
      let at_end : Leads ran.last (number2 + 1 + 1 + length inner_lines) (EndIs ∷ []) last_state = (last_state, (end_step ran.last ran.after (number2 + 1 + 1 + length inner_lines) ran.here, end_left), refl) in
      let inside = leads_on fourth.next ran.last last_state (number2 + 1 + 1) inner_lines (EndIs ∷ []) ran.leads at_end in
      let after_start : Leads second.next number2 (b ∷ KindIs f.kind ∷ (inner_lines ++ EndIs ∷ [])) last_state = (third.next, (third.step, third.left), (fourth.next, (fourth.step, (third.s, third.here, fourth.leaves)), inside)) in
      let after_align : Leads first.next number1 (o ++ (b ∷ KindIs f.kind ∷ (inner_lines ++ EndIs ∷ []))) last_state =
      leads_on first.next second.next last_state number1 o (b ∷ KindIs f.kind ∷ (inner_lines ++ EndIs ∷ [])) second.leads after_start in
      subst (λ (l : List ListedStatement). Leads state number l last_state) (sym whole)
      (leads_on state first.next last_state number a (o ++ (b ∷ KindIs f.kind ∷ (inner_lines ++ EndIs ∷ []))) first.leads after_align)

  header_is : ran.after.header ≡ record third.s.header { kind = f.kind }
  header_is = ran.header ∙ fourth.leaves.header

  is_ended : IsEndedAs s ending
  unfolding place_after
  is_ended = record {
    name = ap (λ (h : HeaderFields). h.name) header_is ∙ third.name_is;
    load_name = ap (λ (h : HeaderFields). h.load_name) header_is ∙ third.load_is ∙ load.1;
    kind = ap (λ (h : HeaderFields). h.kind) header_is;
    bank_size = ap (λ (h : HeaderFields). h.bank_size) header_is ∙ third.bank ∙ same_bank f.bank_size listed'.bank;
    org = ap (λ (h : HeaderFields). h.org) header_is ∙ third.org_is;
    align = ap (λ (h : HeaderFields). h.align) header_is ∙ third.align_is;
    length' = ap (λ (l : List Record). place_after 0 (l ++ End ∷ [])) body_is ∙ place_after-append 0 records' (End ∷ []) ∙ omega (arith, cells);
    spaced = ap (λ (h : HeaderFields). h.res_spc) header_is ∙ third.spaced;
    written = records';
    body = ap (λ (l : List Record). l ++ End ∷ []) body_is;
    alike = written.alike 0;
  }

  is_said_again : IsSaidAgain s ending lines
  is_said_again =
      let whole : ending.body ≡ records' ++ End ∷ [] = ap (λ (l : List Record). l ++ End ∷ []) body_is in
      record {
        parts = parts;
        entry = ap (λ (h : HeaderFields). h.entry) header_is ∙ third.entry;
        again = λ h form.
            let again = written.again h form in
            (again.0, subst (λ (l : List Record). AreSaid h (equates_of s) (at_front s.fields) l parts.more again.0) (sym whole) again.1);
        same_equates = equates_located s.records ∙ written.same_equates
            ∙ sym (ap (flat_map equate_name) whole ∙ flat_map-append equate_name records' (End ∷ []) ∙ append-nil (flat_map equate_name records'));
      }

  ready_again : Ready 0 0 (ended ++ ending ∷ []) last_state
  ready_again = record {
    none = refl;
    outside = λ name. ap (λ (o : Constants). o name) (ran.outside ∙ fourth.leaves.outside) ∙ third.outside name;
    org_is = ran.org ∙ fourth.leaves.org ∙ third.org_left;
    align_is = ran.align ∙ fourth.leaves.align ∙ third.align_left;
    front = ran.front ∙ fourth.leaves.front ∙ third.front;
    ended_is = ends_with
        ∙ ap (λ (x : List FinishedSegment). x ++ ending ∷ []) (ran.ended ∙ fourth.leaves.ended ∙ third.ended_left);
  }

  said : AllByRecursion IsSaidLine lines
  unfolding front_of
  said =
      let a = unless_zero NextAlignIs s.fields.align in
      let o = unless_zero NextOrg s.fields.org in
      let tail = StartIs (s.fields.bank_size == 0) s.fields.name (without_padding s.fields.load_name) ∷ KindIs s.fields.kind ∷ SwitchIs LongA true ∷ SwitchIs LongI true ∷ [] in
      let short = all_short (a ++ (o ++ tail)) parts.front_short in
      let short_a = all_parts (λ said. is_short said ≡ true) a (o ++ tail) short in
      let short_o = all_parts (λ said. is_short said ≡ true) o tail short_a.1 in
      let rest = short_o.1 in
      let short_mids = all_parts (λ said. is_short said ≡ true) written.mids (EndIs ∷ []) (subst (AllByRecursion (λ said. is_short said ≡ true)) written.whole written.short) in
      let front : AllByRecursion IsSaidLine tail = (
        begins_line (s.fields.bank_size == 0) s.fields.name (without_padding s.fields.load_name) (plain_name s.fields.name listed'.name) load.0 rest.0,
        (kind_line s.fields.kind (omega (arith, read.fields.kind)) rest.1.0, (fine_line [] 0 [] both_long (SwitchIs LongA true) tt rest.1.1.0, (fine_line [] 0 [] both_long (SwitchIs LongI true) tt rest.1.1.1.0, tt))),
      ) in
      let inside = mids_said (equates_of s) s.fields.align (s.fields.name ∷ []) both_long written.mids written.fine short_mids.0 in
      let following = all-append IsSaidLine written.mids (EndIs ∷ []) inside (end_line short_mids.1.0, tt) in
      subst (AllByRecursion IsSaidLine) (sym parts.whole)
      (all-append IsSaidLine (a ++ (o ++ tail)) parts.more (all-append IsSaidLine a (o ++ tail) (align_said s.fields.align listed'.align short_a.0) (all-append IsSaidLine o tail (org_said s.fields.org read.fields.org short_o.0) front))
      (subst (AllByRecursion IsSaidLine) (sym written.whole) following))

  segment_runs : SegmentRan s ended state number lines
  segment_runs = record { last = last_state; leads = leads; e = ending; ready = ready_again; is = is_ended; again = is_said_again; said = said }

-- ---- a file

abbrev pub AreEndedAs : List format.Segment → List FinishedSegment → Type 0
AreEndedAs [] [] = Unit {0}
AreEndedAs [] (e ∷ ended) = ⊥
AreEndedAs (s ∷ segments) [] = ⊥
AreEndedAs (s ∷ segments) (e ∷ ended) = IsEndedAs s e × AreEndedAs segments ended

-- and each is listed as it was
abbrev pub AreSaidAgain : List format.Segment → List FinishedSegment → List ListedStatement → Type 0
AreSaidAgain [] [] lines = lines ≡ []
AreSaidAgain [] (e ∷ ended) lines = ⊥
AreSaidAgain (s ∷ segments) [] lines = ⊥
AreSaidAgain (s ∷ segments) (e ∷ ended) lines =
    (first : List ListedStatement) × (more : List ListedStatement) × IsSaidAgain s e first × (lines ≡ first ++ more) × AreSaidAgain segments ended more

pub record FileRan (segments : List format.Segment) (ended : List FinishedSegment) (state : State) (number : ℕ) (lines : List ListedStatement) : Type 0 where
  pub last : State
  pub leads : Leads state number lines last
  pub more : List FinishedSegment
  pub ready : Ready 0 0 (ended ++ more) last
  pub are : AreEndedAs segments more
  pub again : AreSaidAgain segments more lines
  pub said : AllByRecursion IsSaidLine lines

-- the lines of the first segment, and of the others
record FileParts (k : ℕ) (s : format.Segment) (segments : List format.Segment) (lines : List ListedStatement) : Type 0 where
  first : List ListedStatement
  here : listing_of s ≡ Ok first
  more : List ListedStatement
  rest : listing_from (k + 1) segments ≡ Ok more
  whole : lines ≡ first ++ more

abbrev right_file : List ListedStatement → Result (List ListedStatement) (ℕ × ℕ)
right_file l = Ok l

same_file : (a b : List ListedStatement) → right_file a ≡ right_file b → a ≡ b
same_file a b e = cc

in_is : (k : ℕ) (r : Result (List ListedStatement) ℕ) (l : List ListedStatement) → listing.in_segment k r ≡ Ok l → r ≡ Ok l
in_is k (Ok x) l is = ap right_lines (same_file x l is)
in_is k (Err at) l is = absurd cc

file_parts : (k : ℕ) (s : format.Segment) (segments : List format.Segment) (lines : List ListedStatement) → listing_from k (s ∷ segments) ≡ Ok lines → FileParts k s segments lines
unfolding listing_from
file_parts k s segments lines is =
    let one = bind_ok (listing.in_segment k (listing_of s)) (λ (first : List ListedStatement). listing_from (k + 1) segments >>= λ more. Ok (first ++ more)) lines is in
    let two = bind_ok (listing_from (k + 1) segments) (λ (more : List ListedStatement). Ok (one.0 ++ more)) lines one.2 in
    record { first = one.0; here = in_is k (listing_of s) one.0 one.1; more = two.0; rest = two.1; whole = sym (same_file (one.0 ++ two.0) lines two.2) }

none_listed : (k : ℕ) (lines : List ListedStatement) → listing_from k [] ≡ Ok lines → lines ≡ []
unfolding listing_from
none_listed k lines is = sym (same_file [] lines is)

pub file_runs : (k : ℕ) (segments : List format.Segment) (lines : List ListedStatement) (ended : List FinishedSegment) (state : State) (number : ℕ) → AllByRecursion IsReadSegment segments → listing_from k segments ≡ Ok lines → Ready 0 0 ended state
    → FileRan segments ended state number lines
file_runs k [] lines ended state number read is ready =
    record { last = state; leads = subst (λ (l : List ListedStatement). Leads state number l state) (sym (none_listed k lines is)) refl; more = []; ready = subst (λ (x : List FinishedSegment). Ready 0 0 x state) (sym (append-nil ended)) ready; are = tt; again = none_listed k lines is; said = subst (AllByRecursion IsSaidLine) (sym (none_listed k lines is)) tt }
file_runs k (s ∷ segments) lines ended state number read is ready =
    let parts = file_parts k s segments lines is in
    let first = segment_runs s parts.first ended state number read.0 (listed_parts s parts.first parts.here) ready in
    let others = file_runs (k + 1) segments parts.more (ended ++ first.e ∷ []) first.last (number + length parts.first) read.1 parts.rest first.ready in
    record {
      last = others.last;
      leads = subst (λ (l : List ListedStatement). Leads state number l others.last) (sym parts.whole) (leads_on state first.last others.last number parts.first parts.more first.leads others.leads);
      more = first.e ∷ others.more;
      ready = subst (λ (x : List FinishedSegment). Ready 0 0 x others.last) (append_assoc ended (first.e ∷ []) others.more) others.ready;
      are = (first.is, others.are);
      again = (parts.first, parts.more, first.again, parts.whole, others.again);
      said = subst (AllByRecursion IsSaidLine) (sym parts.whole) (all-append IsSaidLine parts.first parts.more first.said others.said);
    }
