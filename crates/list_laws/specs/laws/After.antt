-- Lines one after another inside a segment: what the lister keeps beside them, what the assembler has after them.
use Rattle.std.proofs.Common.{◌≡◌, ℕ, ◌+◌, ◌^◌, ◌<◌, ◌≤◌, Bool, true, false, List, [], ◌∷◌, ◌++◌, length, Option, Some, None, Ok, refl, sym, ap, subst, ◌∙◌, arith, append_assoc, append-nil}
use Rattle.std.specs.Prelude.{is_some, bytes_eq, ◌||◌, map, cond}
use Rattle.std.specs.Int.{is_power_of_two}
use Rattle.std.specs.Option.{option_or}
use Rattle.std.proofs.lemmas.Slice.Eq.{bytes_eq-Decides}
use Rattle.omf_format.specs.Header.{HeaderFields, alignment_of}
use Rattle.omf_format.specs.Record.{Record}
use Rattle.orca_meaning.specs.Formula.{pending}
use Rattle.orca_meaning.specs.Line.{Line, line_of, numbered_lines}
use Rattle.orca_meaning.specs.Names.{with_name}
use Rattle.asm_meaning.specs.declared.directives.Class.{Class}
use Rattle.asm_meaning.specs.Constant.{Constants}
use Rattle.asm_meaning.specs.Instruction.{Widths}
use Rattle.asm_meaning.specs.Object.{AreSteps}
use Rattle.asm_meaning.specs.Pieces.{place_after}
use Rattle.asm_meaning.specs.laws.PieceLaws.{place_after-append, place_after-le}
use Rattle.asm_meaning.specs.State.{State, StartedSegment, Names, greatest_length}
use Rattle.asm_meaning.specs.Statement.{IsStep, constants_of, value_in}
use Rattle.asm_meaning.specs.laws.Steps.{constants_in}
use Rattle.list_meaning.specs.Listed.{ListedStatement, NextAlignIs, NextOrg, StartIs, KindIs, SwitchIs, Ds, Aligns, OrgIs, UsingIs, StrongIs, Labels, Equates, Instructs, Bytes, WeakIs, FormulaIs, EndIs, said_text}
use Rattle.list_meaning.specs.Listing.{is_among}
use Rattle.list_laws.specs.Given.{records_said, name_said, names_said, widths_said, header_said, Leaves, IsLeft}
use Rattle.list_laws.specs.laws.FormulaLaw.{CanWrite, IsPlainName}
use Rattle.list_laws.specs.laws.SumLaw.{AreUnknown, has_open}
use Rattle.list_laws.specs.laws.ConstantLines.{IsCount}
use Rattle.list_laws.specs.laws.BytesLine.{AreBytes}
use Rattle.list_laws.specs.laws.LineGives.{IsInstruction, AreSome, CanStand, line_gives}

-- ---- steps

-- lines of which the first has this number have no fault, and leave this
abbrev pub Leads : State → ℕ → List ListedStatement → State → Type 0
Leads state number [] last = state ≡ last
Leads state number (said ∷ rest) last =
    (next : State) × (IsStep state (line_of 0 number (said_text said)) (Ok next) × IsLeft (line_of 0 number (said_text said)) said state next) × Leads next (number + 1) rest last

pub leads_on : (a b c : State) (number : ℕ) (xs ys : List ListedStatement) → Leads a number xs b → Leads b (number + length xs) ys c → Leads a number (xs ++ ys) c
leads_on a b c number [] ys p q =
    let same : number + 0 ≡ number = omega arith in
    subst (λ (s : State). Leads s number ys c) (sym p) (subst (λ (n : ℕ). Leads b n ys c) same q)
leads_on a b c number (x ∷ xs) ys p q =
    let same : number + length (x ∷ xs) ≡ number + 1 + length xs = omega arith in
    (p.0, p.1, leads_on p.0 b c (number + 1) xs ys p.2 (subst (λ (n : ℕ). Leads b n ys c) same q))

pub leads_steps : (a b : State) (number : ℕ) (all : List ListedStatement) → Leads a number all b → AreSteps a (numbered_lines 0 number (map said_text all)) b
unfolding numbered_lines
leads_steps a b number [] p = p
leads_steps a b number (said ∷ all) p = (p.0, p.1.0, leads_steps p.0 b (number + 1) all p.2)

-- ---- lines and their records

-- the records of lines, and the widths and the names after them
abbrev pub given : Widths → List ListedStatement → List Record
given w [] = []
given w (said ∷ rest) = records_said w said ++ given (widths_said said w) rest

abbrev pub widths_after : Widths → List ListedStatement → Widths
widths_after w [] = w
widths_after w (said ∷ rest) = widths_after (widths_said said w) rest

abbrev pub names_after : List (List ℕ) → List ListedStatement → List (List ℕ)
names_after names [] = names
names_after names (said ∷ rest) = names_after (name_said said ++ names) rest

pub given-append : (w : Widths) (a b : List ListedStatement) → given w (a ++ b) ≡ given w a ++ given (widths_after w a) b
given-append w [] b = refl
given-append w (said ∷ a) b =
    ap (λ (l : List Record). records_said w said ++ l) (given-append (widths_said said w) a b)
    ∙ sym (append_assoc (records_said w said) (given (widths_said said w) a) (given (widths_after (widths_said said w) a) b))

pub widths_after-append : (w : Widths) (a b : List ListedStatement) → widths_after w (a ++ b) ≡ widths_after (widths_after w a) b
widths_after-append w [] b = refl
widths_after-append w (said ∷ a) b = widths_after-append (widths_said said w) a b

pub names_after-append : (names : List (List ℕ)) (a b : List ListedStatement) → names_after names (a ++ b) ≡ names_after (names_after names a) b
names_after-append names [] b = refl
names_after-append names (said ∷ a) b = names_after-append (name_said said ++ names) a b

-- ---- lines that the lister writes

-- no name but an equate of the segment has a value
abbrev pub KnowsOnly : List (List ℕ) → Constants → Type 0
KnowsOnly equates constants = (name : List ℕ) → is_among equates name ≡ false → constants name ≡ None

abbrev pub IsNew : List (List ℕ) → List ℕ → Type 0
IsNew names name = IsPlainName name × (is_among names name ≡ false)

-- a line that is allowed where these names are defined, at these widths
abbrev pub IsFine : List (List ℕ) → ℕ → List (List ℕ) → Widths → ListedStatement → Type 0
IsFine equates align names w (NextAlignIs n) = ⊥
IsFine equates align names w (NextOrg n) = ⊥
IsFine equates align names w (StartIs crosses name load_name) = ⊥
IsFine equates align names w (KindIs n) = ⊥
IsFine equates align names w (SwitchIs switch on) = Unit {0}
IsFine equates align names w (Ds n) = n < 2 ^ 32
IsFine equates align names w (Aligns n) = (n < 2 ^ 32) × (is_power_of_two n ≡ true) × (n ≤ alignment_of align)
IsFine equates align names w (OrgIs n) = n < 2 ^ 31
IsFine equates align names w (UsingIs name) = IsPlainName name
IsFine equates align names w (StrongIs name) = IsPlainName name
IsFine equates align names w (Labels global name) = IsNew names name
IsFine equates align names w (Equates global name n) = IsNew names name × (n < 2 ^ 32) × (is_among equates name ≡ true)
IsFine equates align names w (Instructs m way operand) = (constants : Constants) → KnowsOnly equates constants → IsInstruction constants w m way operand
IsFine equates align names w (Bytes bytes) = AreSome bytes × AreBytes bytes × (length bytes ≤ 223)
IsFine equates align names w (WeakIs name) = IsPlainName name
IsFine equates align names w (FormulaIs count tree) =
    IsCount count × CanWrite tree × ((constants : Constants) → KnowsOnly equates constants → AreUnknown constants tree) × (has_open tree ≡ true) × (pending 1 tree ≤ 64)
IsFine equates align names w EndIs = ⊥

abbrev pub AreFine : List (List ℕ) → ℕ → List (List ℕ) → Widths → List ListedStatement → Type 0
AreFine equates align names w [] = Unit {0}
AreFine equates align names w (said ∷ rest) = IsFine equates align names w said × AreFine equates align (name_said said ++ names) (widths_said said w) rest

pub AreFine-append : (equates : List (List ℕ)) (align : ℕ) (names : List (List ℕ)) (w : Widths) (a b : List ListedStatement) → AreFine equates align names w a → AreFine equates align (names_after names a) (widths_after w a) b
    → AreFine equates align names w (a ++ b)
AreFine-append equates align names w [] b p q = q
AreFine-append equates align names w (said ∷ a) b p q = (p.0, AreFine-append equates align (name_said said ++ names) (widths_said said w) a b p.1 q)

-- ---- the assembler's state

-- what the assembler has there: the open segment with these names, at these widths, where only equates have values
pub record Holds (equates : List (List ℕ)) (align : ℕ) (names : List (List ℕ)) (w : Widths) (state : State) (s : StartedSegment) : Type 0 where
  pub here : state.segment ≡ Some s
  pub aligned : s.header.align ≡ align
  pub same_names : (name : List ℕ) → is_some (s.names name) ≡ is_among names name
  pub inner : (name : List ℕ) → is_among equates name ≡ false → value_in (s.names name) ≡ None
  pub outside : (name : List ℕ) → state.outside name ≡ None
  pub widths : state.widths ≡ w

knows_only : (equates : List (List ℕ)) (align : ℕ) (names : List (List ℕ)) (w : Widths) (state : State) (s : StartedSegment) → Holds equates align names w state s → KnowsOnly equates (constants_of state)
knows_only equates align names w state s holds name other =
    ap (λ (o : Option StartedSegment). option_or (constants_in o name) (state.outside name)) holds.here ∙ rw (holds.inner name other, holds.outside name) refl

can_stand : (equates : List (List ℕ)) (align : ℕ) (names : List (List ℕ)) (w : Widths) (state : State) (s : StartedSegment) (said : ListedStatement) → Holds equates align names w state s → IsFine equates align names w said → CanStand state s said
can_stand equates align names w state s said holds fine = by said fine
  where
    free : (name : List ℕ) → IsNew names name → IsPlainName name × (is_some (s.names name) ≡ false)
    free name new = (new.0, holds.same_names name ∙ new.1)

    by : (said : ListedStatement) → IsFine equates align names w said → CanStand state s said
    by (NextAlignIs n) fine = fine
    by (NextOrg n) fine = fine
    by (StartIs crosses name load_name) fine = fine
    by (KindIs n) fine = absurd fine
    by (SwitchIs switch on) fine = fine
    by (Ds n) fine = fine
    by (Aligns n) fine = (fine.0, fine.1, subst (λ (k : ℕ). n ≤ alignment_of k) (sym holds.aligned) fine.2)
    by (OrgIs n) fine = fine
    by (UsingIs name) fine = fine
    by (StrongIs name) fine = fine
    by (Labels global name) fine = free name fine
    by (Equates global name n) fine = (free name fine.0, fine.1)
    by (Instructs m way operand) fine =
        subst (λ (v : Widths). IsInstruction (constants_of state) v m way operand) (sym holds.widths) (fine (constants_of state) (knows_only equates align names w state s holds))
    by (Bytes bytes) fine = fine
    by (WeakIs name) fine = fine
    by (FormulaIs count tree) fine = (fine.0, fine.1, fine.2 (constants_of state) (knows_only equates align names w state s holds), fine.3, fine.4)
    by EndIs fine = fine

-- ---- names

same_bytes : (a b : List ℕ) → bytes_eq a b ≡ bytes_eq b a
same_bytes a b = by (bytes_eq a b) (bytes_eq b a) refl refl
  where
    by : (x y : Bool) → bytes_eq a b ≡ x → bytes_eq b a ≡ y → x ≡ y
    by true true e f = refl
    by true false e f = sym ((bytes_eq-Decides b a).1 (sym ((bytes_eq-Decides a b).0 e))) ∙ f
    by false true e f = sym e ∙ (bytes_eq-Decides a b).1 (sym ((bytes_eq-Decides b a).0 f))
    by false false e f = refl

pub one_more : (name asked : List ℕ) (value : Option ℕ) (names : Names) (before : List (List ℕ)) → is_some (names asked) ≡ is_among before asked
    → is_some (with_name name value names asked) ≡ is_among (name ∷ before) asked
one_more name asked value names before same = rw (same_bytes asked name) (by (bytes_eq name asked))
  where
    by : (b : Bool) → is_some (cond b (Some value) (names asked)) ≡ (b || is_among before asked)
    by true = refl
    by false = same

names_same : (said : ListedStatement) (names : Names) (before : List (List ℕ)) → ((name : List ℕ) → is_some (names name) ≡ is_among before name)
    → (name : List ℕ) → is_some (names_said said names name) ≡ is_among (name_said said ++ before) name
names_same (Labels global name) names before same asked = one_more name asked None names before (same asked)
names_same (Equates global name n) names before same asked = one_more name asked (Some n) names before (same asked)
names_same _ names before same asked = same asked

inner_same : (equates : List (List ℕ)) (align : ℕ) (before : List (List ℕ)) (w : Widths) (said : ListedStatement) (names : Names) → IsFine equates align before w said
    → ((name : List ℕ) → is_among equates name ≡ false → value_in (names name) ≡ None) → (name : List ℕ) → is_among equates name ≡ false → value_in (names_said said names name) ≡ None
inner_same equates align before w (Labels global name) names fine inner asked other = by (bytes_eq name asked)
  where
    by : (b : Bool) → value_in (cond b (Some None) (names asked)) ≡ None
    by true = refl
    by false = inner asked other
inner_same equates align before w (Equates global name n) names fine inner asked other = by (bytes_eq name asked) refl
  where
    by : (b : Bool) → bytes_eq name asked ≡ b → value_in (cond b (Some (Some n)) (names asked)) ≡ None
    by true e = let clash : true ≡ false = sym fine.2 ∙ ap (is_among equates) ((bytes_eq-Decides name asked).0 e) ∙ other in absurd cc
    by false e = inner asked other
inner_same equates align before w _ names fine inner asked other = inner asked other

same_align : (said : ListedStatement) (header : HeaderFields) → (header_said said header).align ≡ header.align
same_align (KindIs n) header = refl
same_align _ header = refl

same_header : (equates : List (List ℕ)) (align : ℕ) (names : List (List ℕ)) (w : Widths) (said : ListedStatement) (header : HeaderFields) → IsFine equates align names w said → header_said said header ≡ header
same_header equates align names w (KindIs n) header fine = absurd fine
same_header equates align names w _ header fine = refl

holds_on : (equates : List (List ℕ)) (align : ℕ) (names : List (List ℕ)) (w : Widths) (state next : State) (s : StartedSegment) (said : ListedStatement) → Holds equates align names w state s → IsFine equates align names w said
    → (leaves : Leaves said state s next) → Holds equates align (name_said said ++ names) (widths_said said w) next leaves.after
holds_on equates align names w state next s said holds fine leaves = record {
  here = leaves.here;
  aligned = ap (λ (h : HeaderFields). h.align) leaves.header ∙ same_align said s.header ∙ holds.aligned;
  same_names = λ name. ap (λ (n : Names). is_some (n name)) leaves.names ∙ names_same said s.names names holds.same_names name;
  inner = λ name other. ap (λ (n : Names). value_in (n name)) leaves.names ∙ inner_same equates align names w said s.names fine holds.inner name other;
  outside = λ name. ap (λ (o : Constants). o name) leaves.outside ∙ holds.outside name;
  widths = leaves.widths ∙ ap (widths_said said) holds.widths;
}

left_inside : (line : Line) (equates : List (List ℕ)) (align : ℕ) (names : List (List ℕ)) (w : Widths) (said : ListedStatement) (state next : State) (s : StartedSegment) → IsFine equates align names w said → state.segment ≡ Some s → Leaves said state s next
    → IsLeft line said state next
left_inside line equates align names w (NextAlignIs n) state next s fine here leaves = absurd fine
left_inside line equates align names w (NextOrg n) state next s fine here leaves = absurd fine
left_inside line equates align names w (StartIs crosses name load_name) state next s fine here leaves = absurd fine
left_inside line equates align names w EndIs state next s fine here leaves = absurd fine
left_inside line equates align names w _ state next s fine here leaves = (s, here, leaves)

-- ---- lines one after another

-- what lines leave
pub record Ran (w : Widths) (lines : List ListedStatement) (state : State) (s : StartedSegment) (number : ℕ) : Type 0 where
  pub last : State
  pub leads : Leads state number lines last
  pub after : StartedSegment
  pub here : last.segment ≡ Some after
  pub class : after.class ≡ s.class
  pub header : after.header ≡ s.header
  pub body : after.body ≡ s.body ++ given w lines
  pub outside : last.outside ≡ state.outside
  pub org : last.org ≡ state.org
  pub align : last.align ≡ state.align
  pub front : last.front ≡ state.front
  pub ended : last.ended ≡ state.ended

pub lines_run : (equates : List (List ℕ)) (align : ℕ) (names : List (List ℕ)) (w : Widths) (state : State) (s : StartedSegment) (number : ℕ) (lines : List ListedStatement) → Holds equates align names w state s
    → AreFine equates align names w lines → place_after 0 (s.body ++ given w lines) ≤ greatest_length s.class → Ran w lines state s number
lines_run equates align names w state s number [] holds fine room = record {
  last = state;
  leads = refl;
  after = s;
  here = holds.here;
  class = refl;
  header = refl;
  body = sym (append-nil s.body);
  outside = refl;
  org = refl;
  align = refl;
  front = refl;
  ended = refl;
}
lines_run equates align names w state s number (said ∷ lines) holds fine room =
    let rest = given (widths_said said w) lines in
    let whole : (s.body ++ records_said w said) ++ rest ≡ s.body ++ (records_said w said ++ rest) = append_assoc s.body (records_said w said) rest in
    let most : place_after 0 ((s.body ++ records_said w said) ++ rest) ≤ greatest_length s.class = subst (λ (l : List Record). place_after 0 l ≤ greatest_length s.class) (sym whole) room in
    let part : place_after 0 (s.body ++ records_said w said) ≤ greatest_length s.class =
    omega (arith, most, place_after-append 0 (s.body ++ records_said w said) rest, place_after-le (place_after 0 (s.body ++ records_said w said)) rest) in
    let first = line_gives state s number said holds.here (can_stand equates align names w state s said holds fine.0)
    (subst (λ (v : Widths). place_after 0 (s.body ++ records_said v said) ≤ greatest_length s.class) (sym holds.widths) part) in
    let leaves = first.leaves in
    let body : leaves.after.body ≡ s.body ++ records_said w said = leaves.body ∙ ap (λ (v : Widths). s.body ++ records_said v said) holds.widths in
    let next_room : place_after 0 (leaves.after.body ++ rest) ≤ greatest_length leaves.after.class =
    subst (λ (c : Class). place_after 0 (leaves.after.body ++ rest) ≤ greatest_length c) (sym leaves.class) (subst (λ (l : List Record). place_after 0 (l ++ rest) ≤ greatest_length s.class) (sym body) most) in
    let others = lines_run equates align (name_said said ++ names) (widths_said said w) first.next leaves.after (number + 1) lines (holds_on equates align names w state first.next s said holds fine.0 leaves) fine.1 next_room in
    record {
      last = others.last;
      leads = (first.next, (first.step, left_inside (line_of 0 number (said_text said)) equates align names w said state first.next s fine.0 holds.here leaves), others.leads);
      after = others.after;
      here = others.here;
      class = others.class ∙ leaves.class;
      header = others.header ∙ leaves.header ∙ same_header equates align names w said s.header fine.0;
      body = others.body ∙ ap (λ (l : List Record). l ++ rest) body ∙ whole;
      outside = others.outside ∙ leaves.outside;
      org = others.org ∙ leaves.org;
      align = others.align ∙ leaves.align;
      front = others.front ∙ leaves.front;
      ended = others.ended ∙ leaves.ended;
    }
