-- What is assembled from lines is listed as these lines: constant bytes are gathered again, and each other record gives its line.
use Rattle.std.proofs.Common.{◌≡◌, ℕ, zero, suc, ◌+◌, Bool, true, false, cond, eqb, List, [], ◌∷◌, ◌++◌, map, Option, Some, None, Ok, refl, sym, ap, subst, ◌∙◌, append_assoc, append-nil, arith}
use Rattle.std.specs.Prelude.{◌&&◌, ◌||◌, ◌==◌, not, nat_le, count_ones, Result}
use Rattle.std.specs.Int.{is_power_of_two}
use Rattle.std.specs.List.{AllByRecursion, list_all, list_any, flat_map}
use Rattle.std.proofs.lemmas.Bool.{eqb-true, and_parts}
use Rattle.std.proofs.lemmas.Nat.{ones_le_self}
use Rattle.std.proofs.lemmas.List.Concat.{flat_map-cons, flat_map-append}
use Rattle.std.proofs.lemmas.List.Folds.{list_all-append}
use Rattle.omf_format.specs.Field.{◌>>=◌}
use Rattle.omf_format.specs.Header.{HeaderFields, alignment_of}
use Rattle.omf_format.specs.Record as records
use Rattle.omf_format.specs.Record.{Record, Const, End, Space, content_of}
use Rattle.object_meaning.specs.Sizes.{Located, located_from, size_at}
use Rattle.list_meaning.specs.Listed.{ListedStatement, Aligns, Ds, EndIs}
use Rattle.list_meaning.specs.Listing.{PendingRun, Given, is_lost, is_short, said_rest, widths_rest, unless_zero, with_run_written, then_said, if_short, given_by, equate_name, said_from}
use Rattle.list_meaning.specs.laws.Steps.{are_short, or_record}
use Rattle.list_laws.specs.laws.RunGives.{IsConst}
use Rattle.list_laws.specs.laws.Content.{spaces_of}

-- ---- an answer's parts

pub if_parts : (holds : Bool) (g given : Given) → if_short holds g ≡ Some given → (holds ≡ true) × (are_short g ≡ true) × (g ≡ given)
if_parts holds g given is = by holds (are_short g) refl refl is
  where
    by : (a b : Bool) → holds ≡ a → are_short g ≡ b → cond (a && b) (Some g) None ≡ Some given → (holds ≡ true) × (are_short g ≡ true) × (g ≡ given)
    by true true p q e = (p, q, some_is g given e)
      where
        some_is : (x y : Given) → Some x ≡ Some y → x ≡ y
        some_is x y e = cc
    by true false p q e = absurd cc
    by false b p q e = absurd cc

pub if_again : (holds : Bool) (g : Given) → holds ≡ true → are_short g ≡ true → if_short holds g ≡ Some g
if_again holds g is short = ap (λ (x : Bool). cond (x && are_short g) (Some g) None) is ∙ ap (λ (x : Bool). cond x (Some g) None) short

-- ---- records that give lines

-- the header with which the records are written: the same ALIGN, LABLEN 0, and RESSPC 0
pub record IsWrittenAs (f h : HeaderFields) : Type 0 where
  pub align : h.align ≡ f.align
  pub lab_len : h.lab_len ≡ 0
  pub spaced : h.res_spc ≡ 0

-- under that header a record gives this
abbrev pub GivesAgain : HeaderFields → List (List ℕ) → PendingRun → Record → Given → Type 0
GivesAgain f equates b r g = (h : HeaderFields) → IsWrittenAs f h → given_by h equates b r ≡ Some g

-- records one after another give these lines, and leave this
abbrev pub AreSaid : HeaderFields → List (List ℕ) → PendingRun → List Record → List ListedStatement → PendingRun → Type 0
AreSaid h equates b [] lines c = (lines ≡ []) × (b ≡ c)
AreSaid h equates b (r ∷ rs) lines c = (g : Given) × (more : List ListedStatement) × (given_by h equates b r ≡ Some g) × (lines ≡ g.0 ++ more) × AreSaid h equates g.1 rs more c

-- no constant bytes are directly before
abbrev pub without_run : PendingRun → PendingRun
without_run b = record b { run = [] }

pub said_on : (h : HeaderFields) (equates : List (List ℕ)) (b c d : PendingRun) (xs ys : List Record) (l m : List ListedStatement) → AreSaid h equates b xs l c → AreSaid h equates c ys m d → AreSaid h equates b (xs ++ ys) (l ++ m) d
said_on h equates b c d [] ys l m p q =
    subst (λ (x : List ListedStatement). AreSaid h equates b ys (x ++ m) d) (sym p.0) (subst (λ (x : PendingRun). AreSaid h equates x ys m d) (sym p.1) q)
said_on h equates b c d (r ∷ xs) ys l m p q =
    (p.0, p.1 ++ m, p.2, ap (λ (x : List ListedStatement). x ++ m) p.3 ∙ append_assoc p.0.0 p.1 m, said_on h equates p.0.1 c d xs ys p.1 m p.4 q)

-- constant bytes are gathered
consts_said : (h : HeaderFields) (equates : List (List ℕ)) (b : PendingRun) (rs : List Record) → AllByRecursion IsConst rs → AreSaid h equates b rs [] (record b { run = b.run ++ flat_map content_of rs })
unfolding given_by
consts_said h equates b [] are = (refl, ap (λ (l : List ℕ). record b { run = l }) (sym (append-nil b.run)))
consts_said h equates b (Const bytes ∷ rs) are =
    let whole = append_assoc b.run bytes (flat_map content_of rs) ∙ ap (λ (l : List ℕ). b.run ++ l) (sym (flat_map-cons content_of (Const bytes) rs)) in
    let others = consts_said h equates (record b { run = b.run ++ bytes }) rs are.1 in
    (([], record b { run = b.run ++ bytes }), [], refl, refl, subst (λ (l : List ℕ). AreSaid h equates (record b { run = b.run ++ bytes }) rs [] (record b { run = l })) whole others)
consts_said h equates b (_ ∷ rs) are = absurd are.0

-- the run's records, and one more
pub said_line : (h : HeaderFields) (equates : List (List ℕ)) (b : PendingRun) (rs : List Record) (x : Record) (g : Given) → AllByRecursion IsConst rs → flat_map content_of rs ≡ b.run → given_by h equates b x ≡ Some g
    → AreSaid h equates (without_run b) (rs ++ x ∷ []) g.0 g.1
said_line h equates b rs x g are bytes gives =
    let first : AreSaid h equates (without_run b) rs [] b = subst (λ (l : List ℕ). AreSaid h equates (without_run b) rs [] (record b { run = l })) bytes (consts_said h equates (without_run b) rs are) in
    said_on h equates (without_run b) b g.1 rs (x ∷ []) [] g.0 first (g, [], gives, sym (append-nil g.0), (refl, refl))

-- the last run, DS for RESSPC and END
pub end_said : (h : HeaderFields) (equates : List (List ℕ)) (b : PendingRun) (rs : List Record) (n : ℕ) → h.res_spc ≡ 0 → AllByRecursion IsConst rs → flat_map content_of rs ≡ b.run
    → list_all is_short (said_rest b.widths 0 b.run ++ (unless_zero Ds n ++ EndIs ∷ [])) ≡ true
    → (c : PendingRun) × AreSaid h equates (without_run b) ((rs ++ spaces_of n) ++ End ∷ []) (said_rest b.widths 0 b.run ++ (unless_zero Ds n ++ EndIs ∷ [])) c
unfolding given_by said_rest widths_rest
end_said h equates b rs n none are bytes short = by (eqb n 0) refl short
  where
    run_lines : List ListedStatement
    run_lines = said_rest b.widths 0 b.run

    v : PendingRun
    v = record { widths = widths_rest b.widths 0 b.run; run = []; names = b.names }

    parts : (a m : List ListedStatement) → list_all is_short (a ++ m) ≡ true → (list_all is_short a ≡ true) × (list_all is_short m ≡ true)
    parts a m is = and_parts (list_all is_short a) (list_all is_short m) (sym (list_all-append is_short a m) ∙ is)

    joined : (a m : List ListedStatement) → list_all is_short a ≡ true → list_all is_short m ≡ true → list_all is_short (a ++ m) ≡ true
    joined a m p q = list_all-append is_short a m ∙ ap (λ (x : Bool). x && list_all is_short m) p ∙ q

    ends : (p : PendingRun) → list_all is_short (said_rest p.widths 0 p.run ++ EndIs ∷ []) ≡ true
        → given_by h equates p End ≡ Some (said_rest p.widths 0 p.run ++ EndIs ∷ [], record { widths = widths_rest p.widths 0 p.run; run = []; names = p.names })
    ends p is =
        ap (λ (k : ℕ). if_short true (then_said (unless_zero Ds k ++ EndIs ∷ []) (with_run_written p))) none
        ∙ if_again true (then_said (EndIs ∷ []) (with_run_written p)) refl is

    one : (n : ℕ) → eqb n 0 ≡ false → Space n ∷ [] ≡ spaces_of n
    one zero e = absurd cc
    one (suc n) e = refl

    by : (x : Bool) → eqb n 0 ≡ x → list_all is_short (run_lines ++ (cond x [] (Ds n ∷ []) ++ EndIs ∷ [])) ≡ true
        → (c : PendingRun) × AreSaid h equates (without_run b) ((rs ++ spaces_of n) ++ End ∷ []) (run_lines ++ (cond x [] (Ds n ∷ []) ++ EndIs ∷ [])) c
    by true e short =
        let whole : rs ++ End ∷ [] ≡ (rs ++ spaces_of n) ++ End ∷ [] = ap (λ (l : List Record). l ++ End ∷ []) (sym (append-nil rs) ∙ ap (λ (k : ℕ). rs ++ spaces_of k) (sym (eqb-true n 0 e))) in
        (v, subst (λ (l : List Record). AreSaid h equates (without_run b) l (run_lines ++ EndIs ∷ []) v) whole (said_line h equates b rs End (run_lines ++ EndIs ∷ [], v) are bytes (ends b short)))
    by false e short =
        let all = parts run_lines (Ds n ∷ EndIs ∷ []) short in
        let rest = and_parts (is_short (Ds n)) (list_all is_short (EndIs ∷ [])) all.1 in
        let one_short : list_all is_short (run_lines ++ Ds n ∷ []) ≡ true = joined run_lines (Ds n ∷ []) all.0 (ap (λ (x : Bool). x && true) rest.0) in
        let first : AreSaid h equates (without_run b) (rs ++ Space n ∷ []) (run_lines ++ Ds n ∷ []) v =
        said_line h equates b rs (Space n) (run_lines ++ Ds n ∷ [], v) are bytes (if_again true (then_said (Ds n ∷ []) (with_run_written b)) refl one_short) in
        let last : AreSaid h equates v (End ∷ []) (EndIs ∷ []) v = ((EndIs ∷ [], v), [], ends v rest.1, refl, (refl, refl)) in (
          v,
          subst (λ (l : List Record). AreSaid h equates (without_run b) ((rs ++ l) ++ End ∷ []) (run_lines ++ (Ds n ∷ EndIs ∷ [])) v) (one n e)
              (subst (λ (l : List ListedStatement). AreSaid h equates (without_run b) ((rs ++ Space n ∷ []) ++ End ∷ []) l v) (append_assoc run_lines (Ds n ∷ []) (EndIs ∷ []))
              (said_on h equates (without_run b) v v (rs ++ Space n ∷ []) (End ∷ []) (run_lines ++ Ds n ∷ []) (EndIs ∷ []) first last)),
        )

abbrev right_lines : List ListedStatement → Result (List ListedStatement) ℕ
right_lines l = Ok l

-- so they are listed, wherever they are in the file
pub said_all : (h : HeaderFields) (equates : List (List ℕ)) (b : PendingRun) (founds : List (ℕ × Record)) (lines : List ListedStatement) (c : PendingRun) → AreSaid h equates b (map (λ found. found.1) founds) lines c
    → said_from h equates b founds ≡ Ok lines
unfolding said_from
said_all h equates b [] lines c p = ap right_lines (sym p.0)
said_all h equates b (found ∷ founds) lines c p =
    ap (λ (o : Option Given). or_record found.0 o >>= λ given. said_from h equates given.1 founds >>= λ more. Ok (given.0 ++ more)) p.2
    ∙ ap (λ (r : Result (List ListedStatement) ℕ). r >>= λ more. Ok (p.0.0 ++ more)) (said_all h equates p.0.1 founds p.1 c p.4)
    ∙ ap right_lines (sym p.3)

-- ---- no ALIGN of 0

not_lost : (h : HeaderFields) (equates : List (List ℕ)) (b : PendingRun) (r : Record) (g : Given) → given_by h equates b r ≡ Some g → (at : ℕ) → is_lost at r ≡ false
unfolding given_by
not_lost h equates b (records.Align n) g is at =
    let holds = (if_parts (is_power_of_two n && nat_le n 0x10000 && nat_le n (alignment_of h.align)) (then_said (Aligns n ∷ []) (with_run_written b)) g is).0 in
    let power = (and_parts (is_power_of_two n) (nat_le n 0x10000) (and_parts (is_power_of_two n && nat_le n 0x10000) (nat_le n (alignment_of h.align)) holds).0).0 in
    by (eqb n 0) refl power
  where
    by : (x : Bool) → eqb n 0 ≡ x → is_power_of_two n ≡ true → (x && not (at == 0)) ≡ false
    by true e power = let clash : ⊥ = omega (arith, ones_le_self n, eqb-true (count_ones n) 1 power, eqb-true n 0 e) in absurd clash
    by false e power = refl
not_lost h equates b _ g is at = refl

pub none_lost : (h : HeaderFields) (equates : List (List ℕ)) (b : PendingRun) (rs : List Record) (lines : List ListedStatement) (c : PendingRun) → AreSaid h equates b rs lines c
    → AllByRecursion (λ r. (at : ℕ) → is_lost at r ≡ false) rs
none_lost h equates b [] lines c p = tt
none_lost h equates b (r ∷ rs) lines c p = (not_lost h equates b r p.0 p.2, none_lost h equates p.0.1 rs p.1 c p.4)

pub no_lost_place : (at : ℕ) (founds : List (ℕ × Record)) → AllByRecursion (λ r. (at : ℕ) → is_lost at r ≡ false) (map (λ found. found.1) founds)
    → list_any (λ (l : Located). is_lost l.location l.content) (located_from at founds) ≡ false
no_lost_place at [] all = refl
no_lost_place at (found ∷ founds) all =
    ap (λ (x : Bool). x || list_any (λ (l : Located). is_lost l.location l.content) (located_from (at + size_at at found.1) founds)) (all.0 at)
    ∙ no_lost_place (at + size_at at found.1) founds all.1

-- ---- the names of equates

consts_name_none : (rs : List Record) → AllByRecursion IsConst rs → flat_map equate_name rs ≡ []
consts_name_none [] are = refl
consts_name_none (Const bytes ∷ rs) are = flat_map-cons equate_name (Const bytes) rs ∙ consts_name_none rs are.1
consts_name_none (_ ∷ rs) are = absurd are.0

pub one_equate : (rs : List Record) (x : Record) → AllByRecursion IsConst rs → flat_map equate_name (rs ++ x ∷ []) ≡ equate_name x
one_equate rs x are =
    flat_map-append equate_name rs (x ∷ []) ∙ ap (λ (l : List (List ℕ)). l ++ flat_map equate_name (x ∷ [])) (consts_name_none rs are)
    ∙ flat_map-cons equate_name x [] ∙ append-nil (equate_name x)

spaces_name_none : (n : ℕ) → flat_map equate_name (spaces_of n) ≡ []
spaces_name_none zero = refl
spaces_name_none (suc n) = flat_map-cons equate_name (Space (suc n)) []

pub end_equates : (rs : List Record) (n : ℕ) → AllByRecursion IsConst rs → flat_map equate_name (rs ++ spaces_of n) ≡ flat_map equate_name (End ∷ [])
end_equates rs n are =
    flat_map-append equate_name rs (spaces_of n) ∙ ap (λ (l : List (List ℕ)). l ++ flat_map equate_name (spaces_of n)) (consts_name_none rs are)
    ∙ spaces_name_none n ∙ sym (flat_map-cons equate_name End [])

pub equates_located : (founds : List (ℕ × Record)) → flat_map (λ (found : ℕ × Record). equate_name found.1) founds ≡ flat_map equate_name (map (λ (found : ℕ × Record). found.1) founds)
equates_located [] = refl
equates_located (found ∷ founds) =
    flat_map-cons (λ (of : ℕ × Record). equate_name of.1) found founds ∙ ap (λ (l : List (List ℕ)). equate_name found.1 ++ l) (equates_located founds)
    ∙ sym (flat_map-cons equate_name found.1 (map (λ (of : ℕ × Record). of.1) founds))
