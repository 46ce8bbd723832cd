-- Files that are read one after another.
use Rattle.std.proofs.Common.{◌≡◌, ℕ, zero, suc, ◌+◌, ◌<◌, ◌≤◌, true, false, List, [], ◌∷◌, ◌++◌, length, get_or, drop, map, Option, Some, None, refl, sym, ap, subst, ◌∙◌, arith, append_assoc, append-nil}
use Rattle.std.specs.Prelude.{Result, Ok, Err, IfOk, IfErr, OnOk}
use Rattle.std.specs.Global.{Vec}
use Rattle.std.proofs.lemmas.List.{length-map}
use Rattle.omf_format.specs.Lines.{lines_of}
use Rattle.orca_meaning.specs.Line.{Line, line_of, numbered_lines, fields_of}
use Rattle.macro_meaning.specs.declared.faults.MacroCause.{MacroCause}
use Rattle.macro_meaning.specs.declared.faults.MacroCause.TheVariants.{LineTooLong, TooManyLines, NoSuchSymbol, BadSetting, BadArguments, NoSequenceSymbol, Unclosed, Counter, TooNested, Noted, Memory}
use Rattle.macro_meaning.specs.declared.faults.MacroFault.{MacroFault}
use Rattle.macro_meaning.specs.Definition.{MacroDefinition, DefinitionPart, parts_of, definitions_in, source_body, source_line, first_part_fault, or_else}
use Rattle.macro_meaning.specs.Expansion.{line_fault_of, next_file, HasVisits, StopsAt, file_text_fault, file_part_fault, first_in, macros_in, program_of, first_of_files, IsExpanded, IsFirstFault, InDefinition, InVisit, IsMacroFault, AreGoodFiles}
use Rattle.macro_meaning.specs.laws.Steps.{IsFaultFor}
use Rattle.macro_meaning.specs.Visit.{MacroProgram, Ends}
use Rattle.orca_macro.specs.Parts.{HaveOwn}
use Rattle.orca_macro.proofs.Free.{is_memory, parts_free, stops_free}
use Rattle.orca_meaning.specs.declared.lines.TextCause.{TextCause}
use Rattle.orca_meaning.specs.declared.lines.TextCause.TheVariants as texts
use Rattle.orca_meaning.specs.declared.lines.TextFault.{TextFault}
use Rattle.orca_text.specs.Refusals.{IsRefusedFor, IsRefused}
use Rattle.orca_symbols.proofs.Parted.{drop_read, drop_all}
use Rattle.orca_macro.specs.Files.{texts_of_files, CanRead, lines_from, AllOwn, IsTextFaultFor, IsTextFault, first_part_in, definitions_of, IsProgram, HasVisited}

-- ---- lines

own_numbered : (file number : ℕ) (texts : List (List ℕ)) → HaveOwn (numbered_lines file number texts)
unfolding numbered_lines
own_numbered file number [] k l is = absurd cc
own_numbered file number (text ∷ texts) zero l is = first l is
  where
    first : (l : Line) → Some (line_of file number text) ≡ Some l → l.fields ≡ fields_of l.text
    first l is = let same : line_of file number text ≡ l = cc in subst (λ (x : Line). x.fields ≡ fields_of x.text) same refl
own_numbered file number (text ∷ texts) (suc k) l is = own_numbered file (number + 1) texts k l is

pub own_lines : (file : ℕ) (bytes : List ℕ) (lines : List Line) → lines ≡ numbered_lines file 1 (lines_of bytes) → HaveOwn lines
own_lines file bytes lines is = subst HaveOwn (sym is) (own_numbered file 1 (lines_of bytes))

all_own : (file : ℕ) (texts : List (List ℕ)) → AllOwn (lines_from file texts)
unfolding lines_from
all_own file [] = tt
all_own file (bytes ∷ more) = (own_numbered file 1 (lines_of bytes), all_own (next_file file) more)

pub own_files : (texts : List (List ℕ)) (found : List (List Line)) → found ≡ lines_from 1 texts → AllOwn found
own_files texts found is = subst AllOwn (sym is) (all_own 1 texts)

-- ---- one more file

pub lines_start : (out : List (List Line)) (file : ℕ) (texts : List (List ℕ)) → out ≡ [] → out ++ lines_from file texts ≡ lines_from file texts
lines_start out file texts empty = ap (λ (o : List (List Line)). o ++ lines_from file texts) empty

pub lines_more : (old new : List (List Line)) (file : ℕ) (bytes : List ℕ) (more texts : List (List ℕ)) (lines : List Line) (whole : List (List Line))
    → texts ≡ bytes ∷ more → old ++ lines_from file texts ≡ whole → lines ≡ numbered_lines file 1 (lines_of bytes) → new ≡ old ++ lines ∷ []
    → new ++ lines_from (next_file file) more ≡ whole
unfolding lines_from
lines_more old new file bytes more texts lines whole first so is push =
    ap (λ (n : List (List Line)). n ++ lines_from (next_file file) more) push ∙ append_assoc old (lines ∷ []) (lines_from (next_file file) more)
    ∙ ap (λ (l : List Line). old ++ l ∷ lines_from (next_file file) more) is ∙ sym (ap (λ (t : List (List ℕ)). old ++ lines_from file t) first) ∙ so

pub good_more : (file : ℕ) (bytes : List ℕ) (more texts : List (List ℕ)) (whole : Option MacroFault) → texts ≡ bytes ∷ more → first_in file_text_fault file texts ≡ whole → file_text_fault file bytes ≡ None
    → first_in file_text_fault (next_file file) more ≡ whole
unfolding first_in
good_more file bytes more texts whole first so good =
    sym (ap (λ (o : Option MacroFault). or_else o (first_in file_text_fault (next_file file) more)) good) ∙ sym (ap (first_in file_text_fault file) first) ∙ so

pub lines_end : (out : List (List Line)) (file : ℕ) (texts : List (List ℕ)) (whole : List (List Line)) → length texts ≡ 0 → out ++ lines_from file texts ≡ whole → out ≡ whole
unfolding lines_from
lines_end out file [] whole none so = sym (append-nil out) ∙ so
lines_end out file (bytes ∷ more) whole none so = absurd (omega (arith, none))

pub good_end : (file : ℕ) (texts : List (List ℕ)) (whole : Option MacroFault) → length texts ≡ 0 → first_in file_text_fault file texts ≡ whole → whole ≡ None
unfolding first_in
good_end file [] whole none so = sym so
good_end file (bytes ∷ more) whole none so = absurd (omega (arith, none))

comes_first : (o other : Option MacroFault) (fault : MacroFault) → o ≡ Some fault → or_else o other ≡ Some fault
comes_first None other fault is = absurd cc
comes_first (Some x) other fault is = is

-- a fault of reading, as that of more files
text_fault_as : (first first' : Option MacroFault) (cause : MacroCause) (fault : MacroFault) → (first ≡ Some fault → first' ≡ Some fault) → IsTextFaultFor cause first fault → IsTextFaultFor cause first' fault
text_fault_as first first' LineTooLong fault to is = to is
text_fault_as first first' TooManyLines fault to is = to is
text_fault_as first first' NoSuchSymbol fault to is = absurd is
text_fault_as first first' BadSetting fault to is = absurd is
text_fault_as first first' BadArguments fault to is = absurd is
text_fault_as first first' NoSequenceSymbol fault to is = absurd is
text_fault_as first first' Unclosed fault to is = absurd is
text_fault_as first first' Counter fault to is = absurd is
text_fault_as first first' TooNested fault to is = absurd is
text_fault_as first first' (Noted n) fault to is = absurd is
text_fault_as first first' Memory fault to is = is

pub bad_file : (file : ℕ) (bytes : List ℕ) (more texts : List (List ℕ)) (whole : Option MacroFault) (fault : MacroFault) → texts ≡ bytes ∷ more → first_in file_text_fault file texts ≡ whole
    → IsTextFault (file_text_fault file bytes) fault → IsTextFault whole fault
unfolding first_in
bad_file file bytes more texts whole fault first so is =
    text_fault_as (file_text_fault file bytes) whole fault.cause fault
    (λ e. sym so ∙ ap (first_in file_text_fault file) first ∙ comes_first (file_text_fault file bytes) (first_in file_text_fault (next_file file) more) fault e) is

-- ---- definitions of more files

pub scan_more : (old new : List MacroDefinition) (lines : List Line) (more left : List (List Line)) (whole : List MacroDefinition) → left ≡ lines ∷ more → old ++ definitions_of left ≡ whole
    → new ≡ old ++ definitions_in false (parts_of None lines) → new ++ definitions_of more ≡ whole
unfolding definitions_of
scan_more old new lines more left whole first so is =
    ap (λ (n : List MacroDefinition). n ++ definitions_of more) is ∙ append_assoc old (definitions_in false (parts_of None lines)) (definitions_of more)
    ∙ sym (ap (λ (l : List (List Line)). old ++ definitions_of l) first) ∙ so

pub scan_good : (lines : List Line) (more left : List (List Line)) (whole : Option MacroFault) → left ≡ lines ∷ more → first_part_in left ≡ whole → first_part_fault (parts_of None lines) ≡ None → first_part_in more ≡ whole
unfolding first_part_in
scan_good lines more left whole first so good =
    sym (ap (λ (o : Option (Line × MacroCause)). or_else (line_fault_of o) (first_part_in more)) good) ∙ sym (ap first_part_in first) ∙ so

pub scan_bad : (lines : List Line) (more left : List (List Line)) (whole : Option MacroFault) (fault : MacroFault) → left ≡ lines ∷ more → first_part_in left ≡ whole
    → line_fault_of (first_part_fault (parts_of None lines)) ≡ Some fault → whole ≡ Some fault
unfolding first_part_in
scan_bad lines more left whole fault first so bad =
    sym so ∙ ap first_part_in first ∙ comes_first (line_fault_of (first_part_fault (parts_of None lines))) (first_part_in more) fault bad

pub scan_end : (out : List MacroDefinition) (macros : List (List Line)) (i : ℕ) (whole : List MacroDefinition) → length macros ≤ i → out ++ definitions_of (drop i macros) ≡ whole → out ≡ whole
unfolding definitions_of
scan_end out macros i whole end so = sym (append-nil out) ∙ sym (ap (λ (left : List (List Line)). out ++ definitions_of left) (drop_all macros i end)) ∙ so

pub scan_all_good : (macros : List (List Line)) (i : ℕ) (whole : Option MacroFault) → length macros ≤ i → first_part_in (drop i macros) ≡ whole → whole ≡ None
unfolding first_part_in
scan_all_good macros i whole end so = sym so ∙ ap first_part_in (drop_all macros i end)

-- ---- the program

pub program_good : (source : List Line) (macros : List (List Line)) (plain : List Line) (old new : List MacroDefinition) (program : MacroProgram) → first_part_in macros ≡ None → old ≡ definitions_of macros
    → first_part_fault (parts_of None source) ≡ None → plain ≡ map source_line (parts_of None source) → new ≡ old ++ definitions_in true (parts_of None source)
    → program ≡ record { source = record { lines = plain; reach = length plain }; definitions = new } → IsProgram source macros (Ok program)
program_good source macros plain old new program good old_is source_good plain_is new_is is =
    (good, ap line_fault_of source_good, is ∙ same)
  where
    of_lines : List Line → ℕ → List MacroDefinition → MacroProgram
    of_lines lines reach definitions = record { source = record { lines = lines; reach = reach }; definitions = definitions }

    same : of_lines plain (length plain) new ≡ of_lines (map source_line (parts_of None source)) (length (parts_of None source)) (definitions_of macros ++ definitions_in true (parts_of None source))
    same =
        ap (λ (k : List Line). of_lines k (length k) new) plain_is
        ∙ ap (λ (n : ℕ). of_lines (map source_line (parts_of None source)) n new) (length-map (parts_of None source) source_line)
        ∙ ap (λ (d : List MacroDefinition). of_lines (map source_line (parts_of None source)) (length (parts_of None source)) d) (new_is ∙ ap (λ (o : List MacroDefinition). o ++ definitions_in true (parts_of None source)) old_is)

pub program_macros_bad : (source : List Line) (macros : List (List Line)) (fault : MacroFault) → first_part_in macros ≡ Some fault → IsProgram source macros (Err fault)
program_macros_bad source macros fault is = comes_first (first_part_in macros) (line_fault_of (first_part_fault (parts_of None source))) fault is

pub program_source_bad : (source : List Line) (macros : List (List Line)) (fault : MacroFault) → first_part_in macros ≡ None → line_fault_of (first_part_fault (parts_of None source)) ≡ Some fault → IsProgram source macros (Err fault)
program_source_bad source macros fault good is = ap (λ (o : Option MacroFault). or_else o (line_fault_of (first_part_fault (parts_of None source)))) good ∙ is

-- ---- the whole

parts_as_files : (file : ℕ) (texts : List (List ℕ)) → first_part_in (lines_from file texts) ≡ first_in file_part_fault file texts
unfolding first_part_in lines_from first_in
parts_as_files file [] = refl
parts_as_files file (bytes ∷ more) = ap (or_else (file_part_fault file bytes)) (parts_as_files (next_file file) more)

macros_as_files : (file : ℕ) (texts : List (List ℕ)) → definitions_of (lines_from file texts) ≡ macros_in file texts
unfolding definitions_of lines_from macros_in
macros_as_files file [] = refl
macros_as_files file (bytes ∷ more) = ap (λ (d : List MacroDefinition). definitions_in false (parts_of None (numbered_lines file 1 (lines_of bytes))) ++ d) (macros_as_files (next_file file) more)

module _ (source : List ℕ) (macros : List (List ℕ)) (lines : List Line) (files : List (List Line)) (lines_are : lines ≡ numbered_lines 0 1 (lines_of source)) (files_are : files ≡ lines_from 1 macros) where
  faults_are : or_else (first_part_in files) (line_fault_of (first_part_fault (parts_of None lines))) ≡ first_of_files file_part_fault source macros
  faults_are =
      ap (λ (f : List (List Line)). or_else (first_part_in f) (line_fault_of (first_part_fault (parts_of None lines)))) files_are
      ∙ ap (λ (l : List Line). or_else (first_part_in (lines_from 1 macros)) (line_fault_of (first_part_fault (parts_of None l)))) lines_are
      ∙ ap (λ (o : Option MacroFault). or_else o (file_part_fault 0 source)) (parts_as_files 1 macros)

  good_parts : (program : MacroProgram) → IsProgram lines files (Ok program) → first_of_files file_part_fault source macros ≡ None
  good_parts program is = sym faults_are ∙ ap (λ (o : Option MacroFault). or_else o (line_fault_of (first_part_fault (parts_of None lines)))) is.0 ∙ is.1

  program_is : (program : MacroProgram) → IsProgram lines files (Ok program) → program ≡ program_of source macros
  program_is program is =
      is.2
      ∙ ap (λ (l : List Line). of_parts (parts_of None l) (definitions_of files)) lines_are
      ∙ ap (λ (f : List (List Line)). of_parts (parts_of None (numbered_lines 0 1 (lines_of source))) (definitions_of f)) files_are
      ∙ ap (of_parts (parts_of None (numbered_lines 0 1 (lines_of source)))) (macros_as_files 1 macros)
    where
      of_parts : List DefinitionPart → List MacroDefinition → MacroProgram
      of_parts ps definitions = record { source = source_body ps; definitions = definitions ++ definitions_in true ps }

-- no fault of reading
pub texts_good : (source : List ℕ) (macros : List (List ℕ)) → first_in file_text_fault 1 macros ≡ None → file_text_fault 0 source ≡ None → first_of_files file_text_fault source macros ≡ None
texts_good source macros good source_good = ap (λ (o : Option MacroFault). or_else o (file_text_fault 0 source)) good ∙ source_good

clash : is_memory Memory ≡ false → ⊥
unfolding is_memory
clash e = let both : true ≡ false = e in absurd cc

-- any fault but an allocation failure is the first
first_is : (source : List ℕ) (macros : List (List ℕ)) (cause : MacroCause) (fault : MacroFault) → is_memory cause ≡ false → IsFirstFault source macros fault → IsFaultFor cause source macros fault
first_is source macros LineTooLong fault free is = is
first_is source macros TooManyLines fault free is = is
first_is source macros NoSuchSymbol fault free is = is
first_is source macros BadSetting fault free is = is
first_is source macros BadArguments fault free is = is
first_is source macros NoSequenceSymbol fault free is = is
first_is source macros Unclosed fault free is = is
first_is source macros Counter fault free is = is
first_is source macros TooNested fault free is = is
first_is source macros (Noted n) fault free is = is
first_is source macros Memory fault free is = absurd (clash free)

-- a definition has a fault
pub parts_refused : (source : List ℕ) (macros : List (List ℕ)) (lines : List Line) (files : List (List Line)) (fault : MacroFault) → lines ≡ numbered_lines 0 1 (lines_of source) → files ≡ lines_from 1 macros
    → first_in file_text_fault 1 macros ≡ None → file_text_fault 0 source ≡ None → IsProgram lines files (Err fault) → IsMacroFault source macros fault
parts_refused source macros lines files fault lines_are files_are good source_good is =
    let first : first_of_files file_part_fault source macros ≡ Some fault = sym (faults_are source macros lines files lines_are files_are) ∙ is in
    first_is source macros fault.cause fault (parts_free source macros fault first) (InDefinition (texts_good source macros good source_good) first)

-- the visits
module _ (source : List ℕ) (macros : List (List ℕ)) (lines : List Line) (files : List (List Line)) (lines_are : lines ≡ numbered_lines 0 1 (lines_of source)) (files_are : files ≡ lines_from 1 macros)
    (good : first_in file_text_fault 1 macros ≡ None) (source_good : file_text_fault 0 source ≡ None) (program : MacroProgram) (is : IsProgram lines files (Ok program)) where
  good_files : AreGoodFiles source macros
  good_files = record { texts = texts_good source macros good source_good; definitions = good_parts source macros lines files lines_are files_are program is }

  pub visits_expand : (found : List Line) → HasVisited program (Ok found) → IsExpanded source macros found
  visits_expand found has = record { good = good_files; visited = subst (λ (p : MacroProgram). HasVisits p found Ends) (program_is source macros lines files lines_are files_are program is) has }

  pub visits_refused : (fault : MacroFault) → HasVisited program (Err fault) → IsMacroFault source macros fault
  visits_refused fault has =
      let stops : StopsAt (program_of source macros) has.line has.cause = subst (λ (p : MacroProgram). StopsAt p has.line has.cause) (program_is source macros lines files lines_are files_are program is) has.stops in
      first_is source macros fault.cause fault (ap (λ (f : MacroFault). is_memory f.cause) has.is ∙ stops_free (program_of source macros) has.line has.cause stops)
      (InVisit good_files has.line has.cause stops has.is)

  pub all_expand : (found : Result (List Line) MacroFault) → HasVisited program found → IfOk found (λ (x : List Line). IsExpanded source macros x)
  all_expand (Ok x) has = visits_expand x has
  all_expand (Err fault) has = tt

  pub all_refused : (found : Result (List Line) MacroFault) → HasVisited program found → IfErr found (λ (fault : MacroFault). IsMacroFault source macros fault)
  all_refused (Ok x) has = tt
  all_refused (Err fault) has = visits_refused fault has

-- the program alone
module _ (source : List ℕ) (macros : List (List ℕ)) (lines : List Line) (files : List (List Line)) (lines_are : lines ≡ numbered_lines 0 1 (lines_of source)) (files_are : files ≡ lines_from 1 macros)
    (good : first_in file_text_fault 1 macros ≡ None) (source_good : file_text_fault 0 source ≡ None) where
  pub read_good : (found : Result MacroProgram MacroFault) → IsProgram lines files found → OnOk found (AreGoodFiles source macros)
  read_good (Ok program) is = good_files source macros lines files lines_are files_are good source_good program is
  read_good (Err fault) is = tt

  pub read_as : (found : Result MacroProgram MacroFault) → IsProgram lines files found → IfOk found (λ (program : MacroProgram). program ≡ program_of source macros)
  read_as (Ok program) is = program_is source macros lines files lines_are files_are program is
  read_as (Err fault) is = tt

  pub read_refused : (found : Result MacroProgram MacroFault) → IsProgram lines files found → IfErr found (λ (fault : MacroFault). IsMacroFault source macros fault)
  read_refused (Ok program) is = tt
  read_refused (Err fault) is = parts_refused source macros lines files fault lines_are files_are good source_good is

pub can_read : (file : ℕ) (source : List ℕ) (fault : TextFault) → IsRefused file source fault → CanRead fault.cause
can_read file source fault is = by_cause fault.cause is.cause_is
  where
    by_cause : (cause : TextCause) → IsRefusedFor cause fault.line source → CanRead cause
    by_cause texts.LineTooLong is = tt
    by_cause texts.TooManyLines is = tt
    by_cause texts.BadOperand is = is
    by_cause texts.BadNumber is = is
    by_cause texts.Memory is = tt

-- the bytes of a file that was read precede those of the files after it
pub next_text : (files : List (Vec ℕ)) (i : ℕ) (file : Vec ℕ) (bytes : List ℕ) → i < length files → file ≡ get_or files i file → bytes ≡ file.items
    → texts_of_files (drop i files) ≡ bytes ∷ texts_of_files (drop (i + 1) files)
next_text files i file bytes less is bytes_are =
    ap texts_of_files (drop_read files i file less is).1 ∙ ap (λ (b : List ℕ). b ∷ texts_of_files (drop (i + 1) files)) (sym bytes_are)

pub none_left : (files : List (Vec ℕ)) (i : ℕ) → length files ≤ i → length (texts_of_files (drop i files)) ≡ 0
none_left files i end = ap (λ (left : List (Vec ℕ)). length (texts_of_files left)) (drop_all files i end)
