-- What a record gives: its lines after those of the run.
use Rattle.std.proofs.Common.{◌≡◌, ℕ, Bool, true, false, cond, List, [], ◌∷◌, ◌++◌, length, Option, Some, None, refl, sym, ap, subst, ◌∙◌, arith}
use Rattle.std.specs.Prelude.{not, ◌&&◌, ◌||◌, ◌==◌, is_some}
use Rattle.std.specs.List.{list_all, list_any, IsLastAndRest}
use Rattle.omf_format.specs.Expression.{Tree, terms_of, Spells}
use Rattle.omf_format.specs.Header.{HeaderFields}
use Rattle.omf_format.specs.Record as format
use Rattle.object_meaning.specs.laws.TreeInLaws.{tree_in-again}
use Rattle.list_meaning.specs.Listed.{ListedStatement, Wanted}
use Rattle.list_meaning.specs.Listing as listing
use Rattle.list_meaning.specs.Listing.{Given, if_short, then_said, with_run_written, split_last, dc_of_formula, weak_of, simple_of, number_of, formula_given, formula_listable, term_listable, term_may_stand, is_open, equate_given, given_by}
use Rattle.list_meaning.specs.laws.Steps.{are_short, after_byte, held_back, expr_listable, follows_opcode, on_tree, is_held}
use Rattle.list_lines.specs.declared.output.ListingText.{ListingText}
use Rattle.w65_list.specs.declared.records.PendingRun.{PendingRun}
use Rattle.w65_list.specs.Giving.{Gave, IsGiven, held_by, held_with, equate_by}
use Rattle.list_lines.specs.LineView.{Wrote, WroteAll}
use Rattle.list_lines.proofs.Written.{wrote_one, wrote_both}

-- ---- the last byte of a run

pub split_snoc : (rest : List ℕ) (x : ℕ) → split_last (rest ++ x ∷ []) ≡ Some (rest, x)
unfolding split_last
split_snoc [] x = refl
split_snoc (byte ∷ rest) x = ap (after_byte byte) (split_snoc rest x)

pub last_split : (run rest : List ℕ) (x : ℕ) → IsLastAndRest run x rest → Some (rest, x) ≡ split_last run
last_split run rest x is = sym (ap split_last is.0 ∙ split_snoc rest x)

pub none_split : (run : List ℕ) → length run ≡ 0 → None ≡ split_last run
unfolding split_last
none_split [] none = refl
none_split (byte ∷ run) none = absurd (omega (arith, none))

-- ---- lines after a run

pub lines_gave : (g : Given) (more : List ListedStatement) (old mid new : ListingText) (after : PendingRun) → Gave g old mid after → WroteAll more mid new → Gave (then_said more g) old new after
lines_gave g more old mid new after gave wrote = record { wrote = wrote_both g.0 more old mid new gave.wrote wrote; left = gave.left }

pub line_gave : (g : Given) (said : ListedStatement) (old mid new : ListingText) (after : PendingRun) → Gave g old mid after → Wrote said mid new → Gave (then_said (said ∷ []) g) old new after
line_gave g said old mid new after gave wrote = lines_gave g (said ∷ []) old mid new after gave (wrote_one said mid new wrote)

-- ---- what can be listed

pub given_of : (holds : Bool) (given : Given) (old new : ListingText) (after : PendingRun) → holds ≡ true → Gave given old new after → IsGiven (if_short holds given) old new after
given_of holds given old new after e gave = record { all = given; is = rw (e, gave.wrote.short) refl; gave = gave }

pub too_long : (holds : Bool) (given : Given) → are_short given ≡ false → if_short holds given ≡ None
too_long true given long = rw long refl
too_long false given long = refl

three_hold : (a b c : Bool) → a ≡ true → (b && c) ≡ true → ((a && b) && c) ≡ true
three_hold a b c p q = ap (λ (x : Bool). (x && b) && c) p ∙ q

-- a label or an equate with a new name
pub named_given : (may is_new a l n : Bool) (given : Given) (old new : ListingText) (after : PendingRun) → may ≡ a → may ≡ true → is_new ≡ (l && n) → is_new ≡ true → Gave given old new after → IsGiven (if_short ((a && l) && n) given) old new after
named_given may is_new a l n given old new after p q r s gave = given_of ((a && l) && n) given old new after (three_hold a l n (sym p ∙ q) (sym r ∙ s)) gave

-- ---- an opcode that is held back

pub record Held (b : listing.PendingRun) (code count n : ℕ) (found : Option (List ℕ × ℕ)) (opcode : ℕ) : Type 0 where
  pub rest : List ℕ
  pub is : found ≡ Some (rest, opcode)
  pub held : is_held b code count n (rest, opcode) ≡ true

pub held_some : (b : listing.PendingRun) (code count n : ℕ) (found : Option (List ℕ × ℕ)) (opcode : ℕ) → Some opcode ≡ held_by b code count n found → Held b code count n found opcode
held_some b code count n None opcode e = absurd cc
held_some b code count n (Some found) opcode e = by (is_held b code count n found) refl e
  where
    by : (x : Bool) → is_held b code count n found ≡ x → Some opcode ≡ cond x (Some found.1) None → Held b code count n (Some found) opcode
    by true is e = let same : opcode ≡ found.1 = cc in record {
      rest = found.0;
      is = ap (λ (o : ℕ). Some (found.0, o)) (sym same);
      held = subst (λ (o : ℕ). is_held b code count n (found.0, o) ≡ true) (sym same) is;
    }
    by false is e = absurd cc

pub split_back : (run rest : List ℕ) (x : ℕ) → split_last run ≡ Some (rest, x) → run ≡ rest ++ x ∷ []
unfolding split_last
split_back [] rest x e = absurd cc
split_back (byte ∷ run) rest x e = by (split_back run) (split_last run) refl e
  where
    by : ((rest : List ℕ) (x : ℕ) → split_last run ≡ Some (rest, x) → run ≡ rest ++ x ∷ []) → (o : Option (List ℕ × ℕ)) → split_last run ≡ o → after_byte byte o ≡ Some (rest, x) → byte ∷ run ≡ rest ++ x ∷ []
    by back None none e =
        let empty : run ≡ [] = empty_of run none in
        let parts : ◌≡◌ {A = List ℕ × ℕ} ([], byte) (rest, x) = some_same e in
        ap (λ (l : List ℕ). byte ∷ l) empty ∙ ap (λ (o : ℕ). o ∷ []) (ap (λ (p : List ℕ × ℕ). p.1) parts) ∙ ap (λ (l : List ℕ). l ++ x ∷ []) (ap (λ (p : List ℕ × ℕ). p.0) parts)
      where
        some_same : {p q : List ℕ × ℕ} → Some p ≡ Some q → p ≡ q
        some_same e = cc

        empty_of : (run : List ℕ) → split_last run ≡ None → run ≡ []
        empty_of [] e = refl
        empty_of (b ∷ run) e = absurd (none_not (split_last run) e)
          where
            none_not : (o : Option (List ℕ × ℕ)) → after_byte b o ≡ None → ⊥
            none_not None e = cc
            none_not (Some p) e = cc
    by back (Some p) some e =
        let parts : ◌≡◌ {A = List ℕ × ℕ} (byte ∷ p.0, p.1) (rest, x) = some_same e in
        let more = back p.0 p.1 some in
        ap (λ (l : List ℕ). byte ∷ l) more ∙ ap (λ (o : ℕ). byte ∷ (p.0 ++ o ∷ [])) (ap (λ (q : List ℕ × ℕ). q.1) parts) ∙ ap (λ (l : List ℕ). l ++ x ∷ []) (ap (λ (q : List ℕ × ℕ). q.0) parts)
      where
        some_same : {p q : List ℕ × ℕ} → Some p ≡ Some q → p ≡ q
        some_same e = cc

pub formula_held : (b : listing.PendingRun) (code count n : ℕ) (tree : Tree) (rest : List ℕ) (opcode : ℕ) (wanted : Wanted) → is_held b code count n (rest, opcode) ≡ true
    → formula_given b code count n tree (Some (rest, opcode)) (Some wanted) ≡ held_back b rest opcode wanted
unfolding formula_given
formula_held b code count n tree rest opcode wanted held = rw held refl

pub formula_beside : (b : listing.PendingRun) (code count n : ℕ) (tree : Tree) (found : Option (List ℕ × ℕ)) (wanted : Option Wanted) → None ≡ held_with (held_by b code count n found) wanted
    → formula_given b code count n tree found wanted ≡ then_said (dc_of_formula count tree (weak_of tree) ∷ []) (with_run_written b)
unfolding formula_given
formula_beside b code count n tree None wanted e = refl
formula_beside b code count n tree (Some found) None e = refl
formula_beside b code count n tree (Some found) (Some wanted) e = by (is_held b code count n found) refl e
  where
    by : (x : Bool) → is_held b code count n found ≡ x → None ≡ held_with (cond x (Some found.1) None) (Some wanted)
        → cond x (held_back b found.0 found.1 wanted) (then_said (dc_of_formula count tree (weak_of tree) ∷ []) (with_run_written b)) ≡ then_said (dc_of_formula count tree (weak_of tree) ∷ []) (with_run_written b)
    by true is e = absurd cc
    by false is e = refl

pub held_both : (opcode : ℕ) (wanted : Wanted) (o : Option ℕ) (w : Option Wanted) → Some (opcode, wanted) ≡ held_with o w → (Some opcode ≡ o) × (Some wanted ≡ w)
held_both opcode wanted None w e = absurd cc
held_both opcode wanted (Some k) None e = absurd cc
held_both opcode wanted (Some k) (Some v) e =
    let pair : ◌≡◌ {A = ℕ × Wanted} (opcode, wanted) (k, v) = cc in
    (ap (λ (p : ℕ × Wanted). Some p.0) pair, ap (λ (p : ℕ × Wanted). Some p.1) pair)

-- the lines of an opcode that is held back are those of the record
pub held_is : (b : listing.PendingRun) (code count n : ℕ) (tree : Tree) (opcode : ℕ) (wanted : Wanted) (simple : Option Wanted) (h : Held b code count n (split_last b.run) opcode) → simple ≡ Some wanted
    → formula_given b code count n tree (split_last b.run) simple ≡ held_back b h.rest opcode wanted
held_is b code count n tree opcode wanted simple h e =
    ap (λ (f : Option (List ℕ × ℕ)). formula_given b code count n tree f simple) h.is ∙ ap (formula_given b code count n tree (Some (h.rest, opcode))) e ∙ formula_held b code count n tree h.rest opcode wanted h.held

-- ---- which expression records can be listed

pub listable_same : (all : List (List ℕ)) (b : listing.PendingRun) (code count n : ℕ) (tree : Tree) (named written varies : Bool) (weak : Option (List ℕ)) (simple : Option Wanted) (run : List ℕ)
    → named ≡ list_all (term_listable all) (terms_of tree) → written ≡ list_all term_may_stand (terms_of tree) → varies ≡ list_any is_open (terms_of tree) → weak ≡ weak_of tree → simple ≡ simple_of tree → run ≡ b.run
    → (named && cond (code == 0xEB) (cond (is_some weak) (count == 2) (written && varies)) (is_some simple && follows_opcode code count n (split_last run))) ≡ formula_listable all b code count n tree
unfolding formula_listable
listable_same all b code count n tree named written varies weak simple run p q r s t u =
    ap (λ (x : Bool). x && cond (code == 0xEB) (cond (is_some weak) (count == 2) (written && varies)) (is_some simple && follows_opcode code count n (split_last run))) p
    ∙ ap (λ (x : Bool). list_all (term_listable all) (terms_of tree) && cond (code == 0xEB) (cond (is_some weak) (count == 2) (x && varies)) (is_some simple && follows_opcode code count n (split_last run))) q
    ∙ ap (λ (x : Bool). list_all (term_listable all) (terms_of tree) && cond (code == 0xEB) (cond (is_some weak) (count == 2) (list_all term_may_stand (terms_of tree) && x)) (is_some simple && follows_opcode code count n (split_last run))) r
    ∙ ap (λ (x : Option (List ℕ)). list_all (term_listable all) (terms_of tree) && cond (code == 0xEB) (cond (is_some x) (count == 2) (list_all term_may_stand (terms_of tree) && list_any is_open (terms_of tree))) (is_some simple && follows_opcode code count n (split_last run))) s
    ∙ ap (λ (x : Option Wanted). list_all (term_listable all) (terms_of tree) && cond (code == 0xEB) (expr_listable count tree) (is_some x && follows_opcode code count n (split_last run))) t
    ∙ ap (λ (x : List ℕ). list_all (term_listable all) (terms_of tree) && cond (code == 0xEB) (expr_listable count tree) (is_some (simple_of tree) && follows_opcode code count n (split_last x))) u

-- ---- an equate

pub equate_is : (f : HeaderFields) (all : List (List ℕ)) (b : listing.PendingRun) (global : Bool) (name : List ℕ) (size form private : ℕ) (expr : List ℕ) (tree : Tree) (number : Option ℕ) → Spells f.lab_len expr tree → number ≡ number_of tree
    → given_by f all b (format.Equate global name size form private expr) ≡ equate_by (not global || private == 0) (equate_given b global name number)
unfolding given_by
equate_is f all b global name size form private expr tree number spells e =
    ap (λ (t : Option Tree). cond (not global || private == 0) (on_tree t (λ (t : Tree). equate_given b global name (number_of t))) None) (tree_in-again f.lab_len expr tree spells)
    ∙ ap (λ (k : Option ℕ). equate_by (not global || private == 0) (equate_given b global name k)) (sym e)

pub formula_is : (f : HeaderFields) (all : List (List ℕ)) (b : listing.PendingRun) (code count n : ℕ) (expr : List ℕ) (tree : Tree) → Spells f.lab_len expr tree
    → given_by f all b (format.Formula code count n expr) ≡ if_short (formula_listable all b code count n tree) (formula_given b code count n tree (split_last b.run) (simple_of tree))
unfolding given_by
formula_is f all b code count n expr tree spells =
    ap (λ (t : Option Tree). on_tree t (λ (t : Tree). if_short (formula_listable all b code count n t) (formula_given b code count n t (split_last b.run) (simple_of t)))) (tree_in-again f.lab_len expr tree spells)
