-- The lines of a record are allowed after those before it, and represent the same as the record.
use Rattle.std.proofs.Common.{◌≡◌, ℕ, ◌^◌, ◌<◌, ◌≤◌, Bool, true, false, cond, eqb, List, [], ◌∷◌, ◌++◌, Option, Some, None, refl, sym, ap, subst, ◌∙◌, arith, append_assoc}
use Rattle.std.specs.Prelude.{◌&&◌, ◌||◌, ◌==◌, not, nat_le, slice_get, IsTrue, is_some}
use Rattle.std.specs.Int.{is_power_of_two}
use Rattle.std.specs.List.{AllByRecursion, list_all, list_any, flat_map}
use Rattle.std.proofs.lemmas.Bool.{eqb-true, leb-true, and_parts, not-true}
use Rattle.std.proofs.lemmas.List.Concat.{flat_map-append, flat_map-cons}
use Rattle.omf_format.specs.Expression as expression
use Rattle.omf_format.specs.Expression.{Tree, Leaf, Binary, IsTree, terms_of, depth, IsExpression}
use Rattle.omf_format.specs.Field.{Layout, is_count}
use Rattle.omf_format.specs.Reading.{is_end}
use Rattle.omf_format.specs.Header.{HeaderFields, alignment_of}
use Rattle.omf_format.specs.Record as records
use Rattle.omf_format.specs.Record.{Record, IsRecord, IsDistance, Const, content_of}
use Rattle.object_meaning.specs.Defines.{Scope, scope_of}
use Rattle.object_meaning.specs.Terms.{tree_in}
use Rattle.object_meaning.specs.laws.TreeInLaws.{tree_in-again}
use Rattle.orca_meaning.specs.declared.mnemonics.Mnemonic.{Mnemonic}
use Rattle.orca_meaning.specs.declared.modes.Mode.{Mode}
use Rattle.orca_meaning.specs.declared.modes.Mode.TheVariants as modes
use Rattle.orca_meaning.specs.Length.{length_of}
use Rattle.orca_meaning.specs.Matrix.{matrix}
use Rattle.asm_meaning.specs.Constant.{Constants}
use Rattle.asm_meaning.specs.Formulas.{expression_text}
use Rattle.asm_meaning.specs.Instruction as instructions
use Rattle.asm_meaning.specs.Instruction.{Widths, OperandKind, Missing, Value, Address, Distance, Sign, kind_of, operand_bytes, operand_record, opcode_in}
use Rattle.asm_meaning.specs.laws.PieceLaws.{all-append}
use Rattle.list_meaning.specs.Listed as listed
use Rattle.list_meaning.specs.Listed.{ListedStatement, Aligns, OrgIs, Ds, UsingIs, StrongIs, Labels, Equates, Instructs, WeakIs, FormulaIs, Wanted, Moved}
use Rattle.list_meaning.specs.Listing as listing
use Rattle.list_meaning.specs.Listing.{PendingRun, Given, instruction_of_opcode, said_rest, widths_rest, is_listable, is_among, simple_of, weak_of, record_by, is_record, with_run_written, then_said, with_name, split_last, dc_of_formula, formula_given, formula_listable, term_listable, term_may_stand, is_open, both_long, if_short, number_of, equate_given, equate_name, given_by}
use Rattle.list_meaning.specs.laws.Steps.{after_byte, held_back, follows_opcode, are_short, on_tree, expr_listable, is_held}
use Rattle.list_laws.specs.Flat.{parts_from, respelled, text_or}
use Rattle.list_laws.specs.Given.{records_said, name_said, widths_said, code_of, tree_of}
use Rattle.list_laws.specs.laws.BytesLine.{AreBytes}
use Rattle.list_laws.specs.laws.RunLaw.{decoded_is, opcode_is}
use Rattle.list_laws.specs.laws.OperandLaw.{TakesName, HasName}
use Rattle.list_laws.specs.laws.HeldLaw.{IsUnknown}
use Rattle.list_laws.specs.laws.FormulaLaw.{IsPlainName}
use Rattle.list_laws.specs.laws.FormulaCan.{plain_name, can_write, open_is, pending_is, tree_back}
use Rattle.list_laws.specs.laws.ConstantLines.{IsCount}
use Rattle.list_laws.specs.laws.LineGives.{IsInstruction}
use Rattle.list_laws.specs.laws.RunGives.{IsConst, Runs, rest_runs}
use Rattle.list_laws.specs.laws.After.{KnowsOnly, given, widths_after, names_after, given-append, widths_after-append, names_after-append, IsFine, AreFine, AreFine-append}
use Rattle.list_laws.specs.laws.Content.{IsLike, SameAt, same_const, same_long, same_line}
use Rattle.list_laws.specs.laws.Again.{if_parts, if_again, IsWrittenAs, GivesAgain, AreSaid, without_run, said_line, one_equate}

-- ---- what the lines of a record do

-- the lines are allowed there, leave this, and represent the record after the run
pub record IsPut (f : HeaderFields) (equates : List (List ℕ)) (b : PendingRun) (r : Record) (g : Given) : Type 0 where
  pub fine : AreFine equates f.align b.names b.widths g.0
  pub widths : widths_after b.widths g.0 ≡ g.1.widths
  pub names : names_after b.names g.0 ≡ g.1.names
  pub bytes : AreBytes g.1.run
  pub same : (at : ℕ) → SameAt f.lab_len at b.run r (given b.widths g.0) g.1.run
  pub again : (h : HeaderFields) → IsWrittenAs f h → AreSaid h equates (without_run b) (given b.widths g.0) g.0 (without_run g.1)
  pub same_equates : equate_name r ≡ flat_map equate_name (given b.widths g.0)

abbrev pub widths_at : PendingRun → Widths
widths_at b = widths_rest b.widths 0 b.run

-- the lines of the run and one more, which represents one record
put_line : (f : HeaderFields) (equates : List (List ℕ)) (b : PendingRun) (r x : Record) (said : ListedStatement) (names : List (List ℕ)) → AreBytes b.run
    → IsFine equates f.align b.names (widths_at b) said → records_said (widths_at b) said ≡ x ∷ [] → widths_said said (widths_at b) ≡ widths_at b → name_said said ++ b.names ≡ names
    → IsLike f.lab_len r x → equate_name r ≡ equate_name x → GivesAgain f equates b x (said_rest b.widths 0 b.run ++ said ∷ [], record { widths = widths_at b; run = []; names = names })
    → IsPut f equates b r (said_rest b.widths 0 b.run ++ said ∷ [], record { widths = widths_at b; run = []; names = names })
put_line f equates b r x said names are fine gives same_widths same_names like equated again =
    let lines = said_rest b.widths 0 b.run in
    let v = widths_at b in
    let runs : Runs equates f.align b.names b.widths v lines b.run = rest_runs equates f.align b.names b.widths 0 b.run are in
    let whole : given b.widths (lines ++ said ∷ []) ≡ given b.widths lines ++ x ∷ [] =
    given-append b.widths lines (said ∷ []) ∙ ap (λ (w : Widths). given b.widths lines ++ given w (said ∷ [])) runs.widths ∙ ap (λ (l : List Record). given b.widths lines ++ (l ++ [])) gives in
    record {
      fine = AreFine-append equates f.align b.names b.widths lines (said ∷ []) runs.fine
          (subst (λ (n : List (List ℕ)). AreFine equates f.align n (widths_after b.widths lines) (said ∷ [])) (sym runs.same_names)
          (subst (λ (w : Widths). AreFine equates f.align b.names w (said ∷ [])) (sym runs.widths) (fine, tt)));
      widths = widths_after-append b.widths lines (said ∷ []) ∙ ap (widths_said said) runs.widths ∙ same_widths;
      names = names_after-append b.names lines (said ∷ []) ∙ ap (λ (n : List (List ℕ)). name_said said ++ n) runs.same_names ∙ same_names;
      bytes = tt;
      same = λ at. subst (λ (l : List Record). SameAt f.lab_len at b.run r l []) (sym whole) (same_line f.lab_len at b.run r x (given b.widths lines) runs.consts runs.bytes_given like);
      again = λ h written. subst (λ (l : List Record). AreSaid h equates (without_run b) l (lines ++ said ∷ []) (record { widths = v; run = []; names = names })) (sym whole)
          (said_line h equates b (given b.widths lines) x (lines ++ said ∷ [], record { widths = v; run = []; names = names }) runs.consts runs.bytes_given (again h written));
      same_equates = equated ∙ sym (ap (flat_map equate_name) whole ∙ one_equate (given b.widths lines) x runs.consts);
    }

-- a byte of the run that is held back, and its record
put_held : (f : HeaderFields) (equates : List (List ℕ)) (b : PendingRun) (r x : Record) (front : List ℕ) (k : ℕ) (said : ListedStatement) → AreBytes front → b.run ≡ front ++ k ∷ []
    → IsFine equates f.align b.names (widths_rest b.widths 0 front) said → records_said (widths_rest b.widths 0 front) said ≡ Const (k ∷ []) ∷ x ∷ []
    → widths_said said (widths_rest b.widths 0 front) ≡ widths_rest b.widths 0 front → name_said said ≡ []
    → IsLike f.lab_len r x → equate_name r ≡ equate_name x → GivesAgain f equates b x (said_rest b.widths 0 front ++ said ∷ [], record { widths = widths_rest b.widths 0 front; run = []; names = b.names })
    → IsPut f equates b r (said_rest b.widths 0 front ++ said ∷ [], record { widths = widths_rest b.widths 0 front; run = []; names = b.names })
put_held f equates b r x front k said are parts fine gives same_widths no_name like equated again =
    let lines = said_rest b.widths 0 front in
    let v = widths_rest b.widths 0 front in
    let runs : Runs equates f.align b.names b.widths v lines front = rest_runs equates f.align b.names b.widths 0 front are in
    let g = given b.widths lines in
    let h = g ++ Const (k ∷ []) ∷ [] in
    let whole : given b.widths (lines ++ said ∷ []) ≡ h ++ x ∷ [] =
    given-append b.widths lines (said ∷ []) ∙ ap (λ (w : Widths). g ++ given w (said ∷ [])) runs.widths ∙ ap (λ (l : List Record). g ++ (l ++ [])) gives
    ∙ sym (append_assoc g (Const (k ∷ []) ∷ []) (x ∷ [])) in
    let consts : AllByRecursion IsConst h = all-append IsConst g (Const (k ∷ []) ∷ []) runs.consts (tt, tt) in
    let bytes : flat_map content_of h ≡ b.run =
    flat_map-append content_of g (Const (k ∷ []) ∷ []) ∙ ap (λ (l : List ℕ). l ++ flat_map content_of (Const (k ∷ []) ∷ [])) runs.bytes_given
    ∙ ap (λ (l : List ℕ). front ++ l) (flat_map-cons content_of (Const (k ∷ [])) []) ∙ sym parts in
    record {
      fine = AreFine-append equates f.align b.names b.widths lines (said ∷ []) runs.fine
          (subst (λ (n : List (List ℕ)). AreFine equates f.align n (widths_after b.widths lines) (said ∷ [])) (sym runs.same_names)
          (subst (λ (w : Widths). AreFine equates f.align b.names w (said ∷ [])) (sym runs.widths) (fine, tt)));
      widths = widths_after-append b.widths lines (said ∷ []) ∙ ap (widths_said said) runs.widths ∙ same_widths;
      names = names_after-append b.names lines (said ∷ []) ∙ ap (λ (n : List (List ℕ)). name_said said ++ n) runs.same_names ∙ ap (λ (n : List (List ℕ)). n ++ b.names) no_name;
      bytes = tt;
      same = λ at. subst (λ (l : List Record). SameAt f.lab_len at b.run r l []) (sym whole) (same_line f.lab_len at b.run r x h consts bytes like);
      again = λ f' written. subst (λ (l : List Record). AreSaid f' equates (without_run b) l (lines ++ said ∷ []) (record { widths = v; run = []; names = b.names })) (sym whole)
          (said_line f' equates b h x (lines ++ said ∷ [], record { widths = v; run = []; names = b.names }) consts bytes (again f' written));
      same_equates = equated ∙ sym (ap (flat_map equate_name) whole ∙ one_equate h x consts);
    }

-- ---- an answer's parts

-- a record's lines are short, and put
pub record IsGiven (f : HeaderFields) (equates : List (List ℕ)) (b : PendingRun) (r : Record) (g : Given) : Type 0 where
  pub short : are_short g ≡ true
  pub put : IsPut f equates b r g

given_as : (f : HeaderFields) (equates : List (List ℕ)) (b : PendingRun) (r : Record) (holds : Bool) (g given : Given) → (holds ≡ true → are_short g ≡ true → IsPut f equates b r g) → if_short holds g ≡ Some given → IsGiven f equates b r given
given_as f equates b r holds g given puts is =
    let parts = if_parts holds g given is in
    subst (IsGiven f equates b r) parts.2 (record { short = parts.1; put = puts parts.0 parts.1 })

-- ---- expression records

-- whatever the widths are: an operand that follows on them has an EXPR
same_at_widths : (w v : Widths) (m : Mnemonic) (way : Mode) (code count n : ℕ) → (code == 0xEB) ≡ false
    → is_record code count n (record_by m (kind_of way) (operand_bytes w m way)) ≡ is_record code count n (record_by m (kind_of way) (operand_bytes v m way))
unfolding kind_of operand_bytes length_of record_by
same_at_widths w v m modes.Immediate code count n other = rw (no_value code other) refl
  where
    no_value : (code : ℕ) → (code == 0xEB) ≡ false → eqb 0xEB code ≡ false
    no_value code other = by (eqb 0xEB code) refl
      where
        by : (x : Bool) → eqb 0xEB code ≡ x → eqb 0xEB code ≡ false
        by true e = let clash : true ≡ false = ap (λ (k : ℕ). eqb k 0xEB) (eqb-true 0xEB code e) ∙ other in absurd cc
        by false e = e
same_at_widths w v m _ code count n other = refl

same_formula : (a b c code count n : ℕ) (t : Tree) → is_record code count n (Some (a, b, c)) ≡ true → records.Formula a b c (expression_text t) ≡ records.Formula code count n (expression_text t)
same_formula a b c code count n t is =
    let last = and_parts (a == code && b == count) (c == n) is in
    let first = and_parts (a == code) (b == count) last.0 in
    rw (eqb-true a code first.0, eqb-true b count first.1, eqb-true c n last.1) refl

-- a kind of operand with a record has a name as its operand, and gives that record
record_is : (m : Mnemonic) (kind : OperandKind) (bytes code count n : ℕ) (t : Tree) → is_record code count n (record_by m kind bytes) ≡ true → operand_record m kind bytes t ≡ records.Formula code count n (expression_text t)
unfolding record_by
record_is m Missing bytes code count n t is = absurd cc
record_is m Value bytes code count n t is = same_formula 0xEB bytes 0 code count n t is
record_is m (Address k) bytes code count n t is = same_formula (instructions.address_code m k) bytes 0 code count n t is
record_is m (Distance k) bytes code count n t is = same_formula 0xEE bytes bytes code count n t is
record_is m instructions.Banks bytes code count n t is = absurd cc
record_is m Sign bytes code count n t is = same_formula 0xEB bytes 0 code count n t is

takes_name : (m : Mnemonic) (way : Mode) (bytes code count n : ℕ) → is_record code count n (record_by m (kind_of way) bytes) ≡ true → TakesName way
unfolding kind_of record_by
takes_name m modes.Implied bytes code count n is = absurd cc
takes_name m modes.Accumulator bytes code count n is = absurd cc
takes_name m modes.Move bytes code count n is = absurd cc
takes_name m _ bytes code count n is = tt

-- what a simple expression is
record IsSimple (equates : List (List ℕ)) (t : Tree) (w : Wanted) : Type 0 where
  tree : tree_of w ≡ t
  named : HasName w
  unknown : (constants : Constants) → KnowsOnly equates constants → IsUnknown constants w
  held : (widths : Widths) (m : Mnemonic) (way : Mode) → records_said widths (Instructs m way w) ≡ Const (opcode_in m way ∷ []) ∷ operand_record m (kind_of way) (operand_bytes widths m way) t ∷ []

some_wanted : (a b : Wanted) → Some a ≡ Some b → a ≡ b
some_wanted a b e = cc

simple_is : (l : ℕ) (equates : List (List ℕ)) (t : Tree) (w : Wanted) → IsTree l t → list_all (term_listable equates) (terms_of t) ≡ true → simple_of t ≡ Some w → IsSimple equates t w
unfolding simple_of
simple_is l equates (Leaf (expression.Named code name)) w formed names is = by (eqb code 0x83) refl is
  where
    by : (x : Bool) → eqb code 0x83 ≡ x → cond x (Some (listed.Label name)) None ≡ Some w → IsSimple equates (Leaf (expression.Named code name)) w
    by true e is =
        let parts = and_parts (is_listable name) (not (is_among equates name)) (and_parts (is_listable name && not (is_among equates name)) true names).0 in
        let code_is = eqb-true code 0x83 e in
        subst (IsSimple equates (Leaf (expression.Named code name))) (some_wanted (listed.Label name) w is)
        (subst (λ (c : ℕ). IsSimple equates (Leaf (expression.Named c name)) (listed.Label name)) (sym code_is)
        (record { tree = refl; named = plain_name name parts.0; unknown = λ constants knows. knows name (not-true (is_among equates name) parts.1); held = λ widths m way. refl }))
    by false e is = absurd cc
simple_is l equates (Binary operator (Leaf (expression.Named code name)) (Leaf (expression.Constant n))) w formed names is = by (eqb code 0x83) (eqb operator 0x01) (eqb operator 0x02) refl refl refl is
  where
    parts : (is_listable name ≡ true) × (not (is_among equates name) ≡ true)
    parts = and_parts (is_listable name) (not (is_among equates name)) (and_parts (is_listable name && not (is_among equates name)) true names).0

    there : (adds : Bool) → IsSimple equates (Binary (code_of adds) (Leaf (expression.Named 0x83 name)) (Leaf (expression.Constant n))) (Moved name adds n)
    there adds = record {
      tree = refl;
      named = (plain_name name parts.0, formed.3);
      unknown = λ constants knows. knows name (not-true (is_among equates name) parts.1);
      held = λ widths m way. refl;
    }

    by : (x y z : Bool) → eqb code 0x83 ≡ x → eqb operator 0x01 ≡ y → eqb operator 0x02 ≡ z
        → cond (x && y) (Some (Moved name true n)) (cond (x && z) (Some (Moved name false n)) None) ≡ Some w
        → IsSimple equates (Binary operator (Leaf (expression.Named code name)) (Leaf (expression.Constant n))) w
    by true true z e p q is =
        subst (IsSimple equates (Binary operator (Leaf (expression.Named code name)) (Leaf (expression.Constant n)))) (some_wanted (Moved name true n) w is)
        (subst (λ (c : ℕ). IsSimple equates (Binary operator (Leaf (expression.Named c name)) (Leaf (expression.Constant n))) (Moved name true n)) (sym (eqb-true code 0x83 e))
        (subst (λ (c : ℕ). IsSimple equates (Binary c (Leaf (expression.Named 0x83 name)) (Leaf (expression.Constant n))) (Moved name true n)) (sym (eqb-true operator 0x01 p)) (there true)))
    by true false true e p q is =
        subst (IsSimple equates (Binary operator (Leaf (expression.Named code name)) (Leaf (expression.Constant n)))) (some_wanted (Moved name false n) w is)
        (subst (λ (c : ℕ). IsSimple equates (Binary operator (Leaf (expression.Named c name)) (Leaf (expression.Constant n))) (Moved name false n)) (sym (eqb-true code 0x83 e))
        (subst (λ (c : ℕ). IsSimple equates (Binary c (Leaf (expression.Named 0x83 name)) (Leaf (expression.Constant n))) (Moved name false n)) (sym (eqb-true operator 0x02 q)) (there false)))
    by true false false e p q is = absurd cc
    by false y z e p q is = absurd cc
simple_is l equates _ w formed names is = absurd cc

-- the last byte of a run
split_is : (run : List ℕ) (found : List ℕ × ℕ) → split_last run ≡ Some found → run ≡ found.0 ++ found.1 ∷ []
unfolding split_last
split_is [] found is = absurd cc
split_is (byte ∷ following) found is = by (split_last following) refl (λ y. split_is following y) is
  where
    some_is : (x y : List ℕ × ℕ) → Some x ≡ Some y → x ≡ y
    some_is x y e = cc

    none_is : (following : List ℕ) → split_last following ≡ None → following ≡ []
    none_is [] e = refl
    none_is (x ∷ rest) e = by_rest (split_last rest) e
      where
        by_rest : (o : Option (List ℕ × ℕ)) → after_byte x o ≡ None → x ∷ rest ≡ []
        by_rest None e = absurd cc
        by_rest (Some y) e = absurd cc

    by : (o : Option (List ℕ × ℕ)) → split_last following ≡ o → ((y : List ℕ × ℕ) → split_last following ≡ Some y → following ≡ y.0 ++ y.1 ∷ []) → after_byte byte o ≡ Some found → byte ∷ following ≡ found.0 ++ found.1 ∷ []
    by None at inner e = ap (λ (l : List ℕ). byte ∷ l) (none_is following at) ∙ ap (λ (z : List ℕ × ℕ). z.0 ++ z.1 ∷ []) (some_is ([], byte) found e)
    by (Some y) at inner e = ap (λ (l : List ℕ). byte ∷ l) (inner y at) ∙ ap (λ (z : List ℕ × ℕ). z.0 ++ z.1 ∷ []) (some_is (byte ∷ y.0, y.1) found e)

front_bytes : (front : List ℕ) (k : ℕ) → AreBytes (front ++ k ∷ []) → AreBytes front × (k < 256)
front_bytes [] k are = (tt, are.0)
front_bytes (byte ∷ front) k are = let more = front_bytes front k are.1 in ((are.0, more.0), more.1)

-- ---- a formula's lines

-- the two records of an expression are alike
like_formula : (l code count n : ℕ) (expr : List ℕ) (t : Tree) → l ≤ 255 → IsTree l t → depth t ≤ 64 → tree_in l expr ≡ Some t → IsLike l (records.Formula code count n expr) (records.Formula code count n (expression_text t))
like_formula l code count n expr t low formed shallow there =
    let here : respelled l expr ≡ expression_text t = ap (text_or expr) there in
    let back : respelled 0 (expression_text t) ≡ expression_text t = ap (text_or (expression_text t)) (tree_back l t low formed shallow) in
    record {
      places = λ p. ap (λ (text : List ℕ). parts_from code count n text 0 count) (here ∙ sym back);
      size = λ p. refl;
      defined = λ p. refl;
      using' = refl;
      strong = refl;
    }

is_count_of : (n : ℕ) → IsTrue (is_count n) → IsCount n
is_count_of n is = let both = and_parts (nat_le 1 n) (nat_le n 4) is in (leb-true 1 n both.0, leb-true n 4 both.1)

distance_none : (code n : ℕ) → eqb code 0xEB ≡ true → IsDistance (eqb code 0xEE) n → n ≡ 0
distance_none code n e is = subst (λ (k : ℕ). IsDistance (eqb k 0xEE) n) (eqb-true code 0xEB e) is

-- the opcode is held back
held_put : (f : HeaderFields) (equates : List (List ℕ)) (b : PendingRun) (code count n : ℕ) (expr : List ℕ) (t : Tree) (found : List ℕ × ℕ) (w : Wanted) → f.lab_len ≤ 255 → IsTree f.lab_len t → depth t ≤ 64
    → tree_in f.lab_len expr ≡ Some t → list_all (term_listable equates) (terms_of t) ≡ true → AreBytes b.run → split_last b.run ≡ Some found → simple_of t ≡ Some w → is_held b code count n found ≡ true
    → GivesAgain f equates b (records.Formula code count n (expression_text t)) (held_back b found.0 found.1 w) → IsPut f equates b (records.Formula code count n expr) (held_back b found.0 found.1 w)
held_put f equates b code count n expr t found w low formed shallow there names are split simple held again =
    let parts = split_is b.run found split in
    let fits = front_bytes found.0 found.1 (subst AreBytes parts are) in
    let v = widths_rest b.widths 0 found.0 in
    let m = (instruction_of_opcode found.1).0 in
    let way = (instruction_of_opcode found.1).1 in
    let is = simple_is f.lab_len equates t w formed names simple in
    let back = opcode_is found.1 fits.1 in
    let matrix_is : slice_get matrix (opcode_in m way) ≡ Some (m, way) = ap (slice_get matrix) back ∙ decoded_is found.1 fits.1 in
    let takes = takes_name m way (operand_bytes v m way) code count n held in
    let gives : records_said v (Instructs m way w) ≡ Const (found.1 ∷ []) ∷ records.Formula code count n (expression_text t) ∷ [] =
    is.held v m way ∙ ap (λ (k : ℕ). Const (k ∷ []) ∷ operand_record m (kind_of way) (operand_bytes v m way) t ∷ []) back
    ∙ ap (λ (r : Record). Const (found.1 ∷ []) ∷ r ∷ []) (record_is m (kind_of way) (operand_bytes v m way) code count n t held) in
    put_held f equates b (records.Formula code count n expr) (records.Formula code count n (expression_text t)) found.0 found.1 (Instructs m way w) fits.0 parts
    (λ constants knows. fits_name constants m way w matrix_is takes is.named (is.unknown constants knows)) gives refl refl (like_formula f.lab_len code count n expr t low formed shallow there) refl again
  where
    fits_name : (constants : Constants) (m : Mnemonic) (way : Mode) (w : Wanted) → slice_get matrix (opcode_in m way) ≡ Some (m, way) → TakesName way → HasName w → IsUnknown constants w
        → IsInstruction constants (widths_rest b.widths 0 found.0) m way w
    fits_name constants m way listed.None' is takes named unknown = absurd named
    fits_name constants m way (listed.Number bytes k) is takes named unknown = absurd unknown
    fits_name constants m way (listed.Banks source destination) is takes named unknown = absurd named
    fits_name constants m way (listed.Label name) is takes named unknown = (is, (takes, named, unknown))
    fits_name constants m way (Moved name adds k) is takes named unknown = (is, (takes, named, unknown))

-- DC A or DC S
apart_put : (f : HeaderFields) (equates : List (List ℕ)) (b : PendingRun) (code count n : ℕ) (expr : List ℕ) (t : Tree) → f.lab_len ≤ 255 → IsTree f.lab_len t → depth t ≤ 64 → tree_in f.lab_len expr ≡ Some t
    → IsCount count → eqb code 0xEB ≡ true → n ≡ 0 → list_all (term_listable equates) (terms_of t) ≡ true → expr_listable count t ≡ true → AreBytes b.run
    → GivesAgain f equates b (records.Formula code count n (expression_text t)) (then_said (dc_of_formula count t (weak_of t) ∷ []) (with_run_written b))
    → IsPut f equates b (records.Formula code count n expr) (then_said (dc_of_formula count t (weak_of t) ∷ []) (with_run_written b))
unfolding weak_of
apart_put f equates b code count n expr t low formed shallow there counted is_expr none names may are again' = by (weak_of t) refl may again'
  where
    plain : (g : Given) → GivesAgain f equates b (records.Formula code count n (expression_text t)) g → GivesAgain f equates b (records.Formula 0xEB count 0 (expression_text t)) g
    plain g again =
        subst (λ (c : ℕ). GivesAgain f equates b (records.Formula c count 0 (expression_text t)) g) (eqb-true code 0xEB is_expr)
        (subst (λ (k : ℕ). GivesAgain f equates b (records.Formula code count k (expression_text t)) g) none again)

    like : IsLike f.lab_len (records.Formula code count n expr) (records.Formula 0xEB count 0 (expression_text t))
    like = subst (λ (c : ℕ). IsLike f.lab_len (records.Formula c count n expr) (records.Formula 0xEB count 0 (expression_text t))) (sym (eqb-true code 0xEB is_expr))
        (subst (λ (k : ℕ). IsLike f.lab_len (records.Formula 0xEB count k expr) (records.Formula 0xEB count 0 (expression_text t))) (sym none)
        (like_formula f.lab_len 0xEB count 0 expr t low formed shallow there))

    by : (o : Option (List ℕ)) → weak_of t ≡ o
        → cond (is_some o) (eqb count 2) (list_all term_may_stand (terms_of t) && list_any is_open (terms_of t)) ≡ true
        → GivesAgain f equates b (records.Formula code count n (expression_text t)) (then_said (dc_of_formula count t o ∷ []) (with_run_written b))
        → IsPut f equates b (records.Formula code count n expr) (then_said (dc_of_formula count t o ∷ []) (with_run_written b))
    by None weak may again =
        let both = and_parts (list_all term_may_stand (terms_of t)) (list_any is_open (terms_of t)) may in
        let can = can_write f.lab_len equates t formed both.0 names in
        put_line f equates b (records.Formula code count n expr) (records.Formula 0xEB count 0 (expression_text t)) (FormulaIs count t) b.names are
        (counted, can.write, can.unknown, sym (open_is t) ∙ both.1, subst (λ (k : ℕ). k ≤ 64) (sym (pending_is t)) shallow) refl refl refl like refl (plain (then_said (FormulaIs count t ∷ []) (with_run_written b)) again)
    by (Some name) weak may again =
        let two = eqb-true count 2 may in
        let is = weak_is t name names weak in
        put_line f equates b (records.Formula code count n expr) (records.Formula 0xEB count 0 (expression_text t)) (WeakIs name) b.names are is.1
        (ap (λ (u : Tree). records.Formula 0xEB 2 0 (expression_text u) ∷ []) (sym is.0) ∙ ap (λ (k : ℕ). records.Formula 0xEB k 0 (expression_text t) ∷ []) (sym two)) refl refl like refl (plain (then_said (WeakIs name ∷ []) (with_run_written b)) again)
      where
        some_name : (a b : List ℕ) → Some a ≡ Some b → a ≡ b
        some_name a b e = cc

        weak_is : (t : Tree) (name : List ℕ) → list_all (term_listable equates) (terms_of t) ≡ true → weak_of t ≡ Some name → (t ≡ Leaf (expression.Named 0x82 name)) × IsPlainName name
        weak_is (Leaf (expression.Named code other)) name names is = by_code (eqb code 0x82) refl is
          where
            by_code : (x : Bool) → eqb code 0x82 ≡ x → cond x (Some other) None ≡ Some name → (Leaf (expression.Named code other) ≡ Leaf (expression.Named 0x82 name)) × IsPlainName name
            by_code true e is =
                let same = some_name other name is in
                let parts = and_parts (is_listable other) (not (is_among equates other)) (and_parts (is_listable other && not (is_among equates other)) true names).0 in
                (ap (λ (c : ℕ). Leaf (expression.Named c other)) (eqb-true code 0x82 e) ∙ ap (λ (x : List ℕ). Leaf (expression.Named 0x82 x)) same, subst IsPlainName same (plain_name other parts.0))
            by_code false e is = absurd cc
        weak_is _ name names is = absurd cc

-- all expression records
formula_put : (f : HeaderFields) (equates : List (List ℕ)) (b : PendingRun) (code count n : ℕ) (expr : List ℕ) (t : Tree) → f.lab_len ≤ 255 → IsTree f.lab_len t → depth t ≤ 64 → tree_in f.lab_len expr ≡ Some t
    → IsCount count → IsDistance (eqb code 0xEE) n → AreBytes b.run → formula_listable equates b code count n t ≡ true
    → GivesAgain f equates b (records.Formula code count n (expression_text t)) (formula_given b code count n t (split_last b.run) (simple_of t))
    → IsPut f equates b (records.Formula code count n expr) (formula_given b code count n t (split_last b.run) (simple_of t))
unfolding formula_listable formula_given
formula_put f equates b code count n expr t low formed shallow there counted distance are may again' =
    let both = and_parts (list_all (term_listable equates) (terms_of t))
    (cond (eqb code 0xEB) (expr_listable count t) (is_some (simple_of t) && follows_opcode code count n (split_last b.run))) may in
    by (eqb code 0xEB) (split_last b.run) (simple_of t) refl refl refl both.0 both.1 again'
  where
    Gives : Given → Type 0
    Gives g = GivesAgain f equates b (records.Formula code count n (expression_text t)) g

    aside : eqb code 0xEB ≡ true → list_all (term_listable equates) (terms_of t) ≡ true → expr_listable count t ≡ true → Gives (then_said (dc_of_formula count t (weak_of t) ∷ []) (with_run_written b))
        → IsPut f equates b (records.Formula code count n expr) (then_said (dc_of_formula count t (weak_of t) ∷ []) (with_run_written b))
    aside e names may again = apart_put f equates b code count n expr t low formed shallow there counted e (distance_none code n e distance) names may are again

    by_held : (c : Bool) (found : List ℕ × ℕ) (w : Wanted) → eqb code 0xEB ≡ c → split_last b.run ≡ Some found → simple_of t ≡ Some w → list_all (term_listable equates) (terms_of t) ≡ true
        → cond c (expr_listable count t) (true && is_record code count n (listing.record_of_opcode both_long found.1)) ≡ true → (h : Bool) → is_held b code count n found ≡ h
        → Gives (cond h (held_back b found.0 found.1 w) (then_said (dc_of_formula count t (weak_of t) ∷ []) (with_run_written b)))
        → IsPut f equates b (records.Formula code count n expr) (cond h (held_back b found.0 found.1 w) (then_said (dc_of_formula count t (weak_of t) ∷ []) (with_run_written b)))
    by_held c found w e split simple names may true held again = held_put f equates b code count n expr t found w low formed shallow there names are split simple held again
    by_held true found w e split simple names may false held again = aside e names may again
    by_held false found w e split simple names may false held again =
        let same = same_at_widths (widths_rest b.widths 0 found.0) both_long (instruction_of_opcode found.1).0 (instruction_of_opcode found.1).1 code count n e in
        let clash : false ≡ true = sym held ∙ same ∙ may in absurd cc

    by : (c : Bool) (s : Option (List ℕ × ℕ)) (w : Option Wanted) → eqb code 0xEB ≡ c → split_last b.run ≡ s → simple_of t ≡ w → list_all (term_listable equates) (terms_of t) ≡ true
        → cond c (expr_listable count t) (is_some w && follows_opcode code count n s) ≡ true → Gives (formula_given b code count n t s w) → IsPut f equates b (records.Formula code count n expr) (formula_given b code count n t s w)
    by c (Some found) (Some w) e split simple names may again = by_held c found w e split simple names may (is_held b code count n found) refl again
    by true (Some found) None e split simple names may again = aside e names may again
    by false (Some found) None e split simple names may again = absurd cc
    by true None w e split simple names may again = aside e names may again
    by false None None e split simple names may again = absurd cc
    by false None (Some w) e split simple names may again = absurd cc

-- ---- each record

-- what is known of a record that was read: its form, its bytes, and that an equate's name is among those of the segment
abbrev pub IsKnown : List (List ℕ) → Record → Type 0
IsKnown equates (Const bytes) = AreBytes bytes
IsKnown equates (records.LongConst bytes) = AreBytes bytes
IsKnown equates (records.Equate global name size form private expr) = is_among equates name ≡ true
IsKnown _ _ = Unit {0}

append_bytes : (a b : List ℕ) → AreBytes a → AreBytes b → AreBytes (a ++ b)
append_bytes [] b p q = q
append_bytes (byte ∷ a) b p q = (p.0, append_bytes a b p.1 q)

some_given : (a b : Given) → Some a ≡ Some b → a ≡ b
some_given a b e = cc

or_true : (a : Bool) → (a || true) ≡ true
or_true true = refl
or_true false = refl

private_zero : (global : Bool) (private : ℕ) → (not global || eqb private 0) ≡ true → scope_of global private ≡ scope_of global 0
private_zero true private is = ap (scope_of true) (eqb-true private 0 is)
private_zero false private is = refl

-- the lines of a record other than END
pub record_given : (f : HeaderFields) (equates : List (List ℕ)) (b : PendingRun) (l : Layout) (r : Record) (g : Given) → l.lab_len ≡ f.lab_len → f.lab_len ≤ 255 → IsRecord l r → IsKnown equates r → AreBytes b.run
    → is_end r ≡ false → given_by f equates b r ≡ Some g → IsGiven f equates b r g
unfolding given_by
record_given f equates b l records.End g same low is known are no_end gives = absurd cc
record_given f equates b l (Const bytes) g same low is known are no_end gives =
    subst (IsGiven f equates b (Const bytes)) (some_given ([], record b { run = b.run ++ bytes }) g gives)
    (record { short = refl; put = record { fine = tt; widths = refl; names = refl; bytes = append_bytes b.run bytes are known; same = λ at. same_const f.lab_len at b.run bytes; again = λ h written. (refl, refl); same_equates = refl } })
record_given f equates b l (records.LongConst bytes) g same low is known are no_end gives =
    subst (IsGiven f equates b (records.LongConst bytes)) (some_given ([], record b { run = b.run ++ bytes }) g gives)
    (record { short = refl; put = record { fine = tt; widths = refl; names = refl; bytes = append_bytes b.run bytes are known; same = λ at. same_long f.lab_len at b.run bytes; again = λ h written. (refl, refl); same_equates = refl } })
record_given f equates b l (records.Align n) g same low is known are no_end gives =
    given_as f equates b (records.Align n) (is_power_of_two n && nat_le n 0x10000 && nat_le n (alignment_of f.align)) (then_said (Aligns n ∷ []) (with_run_written b)) g
    (λ holds short. let all = and_parts (is_power_of_two n && nat_le n 0x10000) (nat_le n (alignment_of f.align)) holds in
    let power = and_parts (is_power_of_two n) (nat_le n 0x10000) all.0 in
    put_line f equates b (records.Align n) (records.Align n) (Aligns n) b.names are (is, power.0, leb-true n (alignment_of f.align) all.1) refl refl refl
    (record { places = λ p. refl; size = λ p. refl; defined = λ p. refl; using' = refl; strong = refl }) refl
    (λ h written. ap (λ (a : ℕ). if_short (is_power_of_two n && nat_le n 0x10000 && nat_le n (alignment_of a)) (then_said (Aligns n ∷ []) (with_run_written b))) written.align ∙ if_again (is_power_of_two n && nat_le n 0x10000 && nat_le n (alignment_of f.align)) (then_said (Aligns n ∷ []) (with_run_written b)) holds short)) gives
record_given f equates b l (records.Org n) g same low is known are no_end gives =
    given_as f equates b (records.Org n) true (then_said (OrgIs n ∷ []) (with_run_written b)) g
    (λ holds short. put_line f equates b (records.Org n) (records.Org n) (OrgIs n) b.names are is refl refl refl
    (record { places = λ p. refl; size = λ p. refl; defined = λ p. refl; using' = refl; strong = refl }) refl
    (λ h written. if_again true (then_said (OrgIs n ∷ []) (with_run_written b)) refl short)) gives
record_given f equates b l (records.Space n) g same low is known are no_end gives =
    given_as f equates b (records.Space n) true (then_said (Ds n ∷ []) (with_run_written b)) g
    (λ holds short. put_line f equates b (records.Space n) (records.Space n) (Ds n) b.names are is refl refl refl
    (record { places = λ p. refl; size = λ p. refl; defined = λ p. refl; using' = refl; strong = refl }) refl
    (λ h written. if_again true (then_said (Ds n ∷ []) (with_run_written b)) refl short)) gives
record_given f equates b l (records.Using name) g same low is known are no_end gives =
    given_as f equates b (records.Using name) (is_listable name) (then_said (UsingIs name ∷ []) (with_run_written b)) g
    (λ holds short. put_line f equates b (records.Using name) (records.Using name) (UsingIs name) b.names are (plain_name name holds) refl refl refl
    (record { places = λ p. refl; size = λ p. refl; defined = λ p. refl; using' = refl; strong = refl }) refl
    (λ h written. if_again (is_listable name) (then_said (UsingIs name ∷ []) (with_run_written b)) holds short)) gives
record_given f equates b l (records.Strong name) g same low is known are no_end gives =
    given_as f equates b (records.Strong name) (is_listable name) (then_said (StrongIs name ∷ []) (with_run_written b)) g
    (λ holds short. put_line f equates b (records.Strong name) (records.Strong name) (StrongIs name) b.names are (plain_name name holds) refl refl refl
    (record { places = λ p. refl; size = λ p. refl; defined = λ p. refl; using' = refl; strong = refl }) refl
    (λ h written. if_again (is_listable name) (then_said (StrongIs name ∷ []) (with_run_written b)) holds short)) gives
record_given f equates b l (records.Label global name size form private) g same low is known are no_end gives =
    given_as f equates b (records.Label global name size form private) ((not global || private == 0) && is_listable name && not (is_among b.names name)) (with_name name (then_said (Labels global name ∷ []) (with_run_written b))) g
    (λ holds short. let all = and_parts ((not global || private == 0) && is_listable name) (not (is_among b.names name)) holds in
    let front = and_parts (not global || private == 0) (is_listable name) all.0 in
    put_line f equates b (records.Label global name size form private) (records.Label global name 0 0x4E 0) (Labels global name) (name ∷ b.names) are (plain_name name front.1, not-true (is_among b.names name) all.1) refl refl refl
    (record { places = λ p. refl; size = λ p. refl; defined = λ p. ap (λ (s : Scope). record { name = name; scope = s; place = p; value = None } ∷ []) (private_zero global private front.0); using' = refl; strong = refl }) refl
    (λ h written. if_again ((not global || true) && is_listable name && not (is_among b.names name)) (with_name name (then_said (Labels global name ∷ []) (with_run_written b)))
    (ap (λ (x : Bool). x && is_listable name && not (is_among b.names name)) (or_true (not global)) ∙ ap (λ (x : Bool). x && not (is_among b.names name)) front.1 ∙ all.1) short)) gives
record_given f equates b l (records.Equate global name size form private expr) g same low is known are no_end gives = by (not global || eqb private 0) refl gives
  where
    spelled : IsExpression f.lab_len expr
    spelled = subst (λ (k : ℕ). IsExpression k expr) same is.2

    there : tree_in f.lab_len expr ≡ Some spelled.tree
    there = tree_in-again f.lab_len expr spelled.tree spelled.spells

    number_is : (t : Tree) (n : ℕ) → IsTree f.lab_len t → number_of t ≡ Some n → (t ≡ Leaf (expression.Constant n)) × (n < 2 ^ 32)
    number_is (Leaf (expression.Constant k)) n formed is = let same : k ≡ n = some_number k n is in (ap (λ (j : ℕ). Leaf (expression.Constant j)) same, subst (λ (j : ℕ). j < 2 ^ 32) same formed)
      where
        some_number : (a b : ℕ) → Some a ≡ Some b → a ≡ b
        some_number a b e = cc
    number_is _ n formed is = absurd cc

    by_number : (o : Option ℕ) → number_of spelled.tree ≡ o → (not global || eqb private 0) ≡ true → equate_given b global name o ≡ Some g → IsGiven f equates b (records.Equate global name size form private expr) g
    by_number None at shown gives = absurd cc
    by_number (Some n) at shown gives =
        let number = number_is spelled.tree n spelled.spells.formed at in
        let value : tree_in f.lab_len expr ≡ tree_in 0 (expression_text (Leaf (expression.Constant n))) =
        there ∙ ap (λ (t : Tree). Some t) number.0 ∙ sym (tree_back 0 (Leaf (expression.Constant n)) (omega arith) number.1 (omega arith)) in
        given_as f equates b (records.Equate global name size form private expr) (is_listable name && not (is_among b.names name)) (with_name name (then_said (Equates global name n ∷ []) (with_run_written b))) g
        (λ holds short. let all = and_parts (is_listable name) (not (is_among b.names name)) holds in
        put_line f equates b (records.Equate global name size form private expr) (records.Equate global name 0 0x4E 0 (expression_text (Leaf (expression.Constant n)))) (Equates global name n) (name ∷ b.names) are
        ((plain_name name all.0, not-true (is_among b.names name) all.1), number.1, known) refl refl refl (record {
          places = λ p. refl;
          size = λ p. refl;
          defined = λ p. ap (λ (s : Scope). record { name = name; scope = s; place = p; value = tree_in f.lab_len expr } ∷ []) (private_zero global private shown)
              ∙ ap (λ (v : Option Tree). record { name = name; scope = scope_of global 0; place = p; value = v } ∷ []) value;
          using' = refl;
          strong = refl;
        }) refl (λ h written. ap (λ (x : Bool). cond x (on_tree (tree_in h.lab_len (expression_text (Leaf (expression.Constant n)))) (λ tree. equate_given b global name (number_of tree))) None) (or_true (not global))
        ∙ ap (λ (o : Option Tree). on_tree o (λ tree. equate_given b global name (number_of tree)))
        (ap (λ (k : ℕ). tree_in k (expression_text (Leaf (expression.Constant n)))) written.lab_len ∙ tree_back 0 (Leaf (expression.Constant n)) (omega arith) number.1 (omega arith))
        ∙ if_again (is_listable name && not (is_among b.names name)) (with_name name (then_said (Equates global name n ∷ []) (with_run_written b))) holds short)) gives

    by : (z : Bool) → (not global || eqb private 0) ≡ z → cond z (on_tree (tree_in f.lab_len expr) (λ tree. equate_given b global name (number_of tree))) None ≡ Some g
        → IsGiven f equates b (records.Equate global name size form private expr) g
    by true shown gives = by_number (number_of spelled.tree) refl shown (sym (ap (λ (o : Option Tree). on_tree o (λ tree. equate_given b global name (number_of tree))) there) ∙ gives)
    by false shown gives = absurd cc
record_given f equates b l (records.Formula code count n expr) g same low is known are no_end gives =
    let e : IsExpression f.lab_len expr = subst (λ (k : ℕ). IsExpression k expr) same is.3 in
    let there = tree_in-again f.lab_len expr e.tree e.spells in
    given_as f equates b (records.Formula code count n expr) (formula_listable equates b code count n e.tree) (formula_given b code count n e.tree (split_last b.run) (simple_of e.tree)) g
    (λ holds short. formula_put f equates b code count n expr e.tree low e.spells.formed e.spells.shallow there (is_count_of count is.1) is.2 are holds
    (λ h written. ap (λ (o : Option Tree). on_tree o (λ tree. if_short (formula_listable equates b code count n tree) (formula_given b code count n tree (split_last b.run) (simple_of tree))))
    (ap (λ (k : ℕ). tree_in k (expression_text e.tree)) written.lab_len ∙ tree_back f.lab_len e.tree low e.spells.formed e.spells.shallow)
    ∙ if_again (formula_listable equates b code count n e.tree) (formula_given b code count n e.tree (split_last b.run) (simple_of e.tree)) holds short))
    (sym (ap (λ (o : Option Tree). on_tree o (λ tree. if_short (formula_listable equates b code count n tree) (formula_given b code count n tree (split_last b.run) (simple_of tree)))) there) ∙ gives)
record_given f equates b l _ g same low is known are no_end gives = absurd cc
