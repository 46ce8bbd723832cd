-- Instructions: few constant bytes, and an opcode with the record of its operand.
use Rattle.std.proofs.Common.{◌≡◌, ◌≢◌, ℕ, zero, suc, ◌+◌, ◌≤◌, Bool, true, false, cond, eqb, List, [], ◌∷◌, ◌++◌, take, Option, refl, sym, ap, ◌∙◌, append_assoc, append-nil, arith}
use Rattle.std.proofs.lemmas.Bool.{eqb-true, eq-eqb}
use Rattle.std.specs.Global.{Vec}
use Rattle.byteorder.specs.Endian.{little_bytes}
use Rattle.omf_format.specs.declared.codes.TheConstants.{RELEXPR}
use Rattle.omf_format.specs.Record.{Const, Formula, spelling}
use Rattle.asm_meaning.specs.Object.{records_text}
use Rattle.asm_meaning.specs.Pieces.{constant_records, records_after}
use Rattle.orca_operands.specs.declared.short_bytes.ShortBytes.{ShortBytes}
use Rattle.orca_operands.specs.declared.encoding.Encoding.{Encoding}
use Rattle.orca_operands.specs.declared.encoding.Encoding.TheVariants.{Bytes, Operand}
use Rattle.orca_operands.specs.FewView.{few_bytes}
use Rattle.orca_operands.specs.GivenView.{given_records}
use Rattle.orca_operands.specs.TextView.{text_within_limit}
use Rattle.orca_operands.proofs.Putting.{Grows}

-- an opcode, and the lowest bytes of a number
pub first_bytes : (w n opcode a b c d : ℕ) → w ≤ 3 → a ∷ b ∷ c ∷ d ∷ [] ≡ little_bytes 4 n → take (w + 1) (opcode ∷ a ∷ b ∷ c ∷ []) ≡ opcode ∷ little_bytes w n
first_bytes zero n opcode a b c d few is = refl
first_bytes (suc zero) n opcode a b c d few is = ap (λ (l : List ℕ). opcode ∷ take 1 l) is
first_bytes (suc (suc zero)) n opcode a b c d few is = ap (λ (l : List ℕ). opcode ∷ take 2 l) is
first_bytes (suc (suc (suc zero))) n opcode a b c d few is = ap (λ (l : List ℕ). opcode ∷ take 3 l) is
first_bytes (suc (suc (suc (suc w)))) n opcode a b c d few is = absurd (omega (arith, few))

-- the record of few bytes
pub few_record : (count a b c d : ℕ) → 1 ≤ count → count ≤ 4 → take (count + 1) (count ∷ a ∷ b ∷ c ∷ d ∷ []) ≡ records_text (constant_records (take count (a ∷ b ∷ c ∷ d ∷ [])))
unfolding records_text spelling
few_record zero a b c d some few = absurd (omega (arith, some))
few_record (suc zero) a b c d some few = refl
few_record (suc (suc zero)) a b c d some few = refl
few_record (suc (suc (suc zero))) a b c d some few = refl
few_record (suc (suc (suc (suc zero)))) a b c d some few = refl
few_record (suc (suc (suc (suc (suc count))))) a b c d some few = absurd (omega (arith, few))

-- an opcode and its operand, in two texts
pub two_grow : (old one two : Option (List ℕ)) (front expr whole : List ℕ) → Grows old one front → Grows one two expr → front ++ expr ≡ whole → Grows old two whole
two_grow old one two front expr whole first second same text is = second (text ++ front) (first text is) ∙ ap text_within_limit (append_assoc text front expr ∙ ap (λ (l : List ℕ). text ++ l) same)

abbrev front_of : ℕ → ℕ → ℕ → List ℕ → List ℕ
front_of opcode code count more = 1 ∷ opcode ∷ code ∷ count ∷ more

abbrev operand_text : ℕ → ℕ → ℕ → ℕ → List ℕ → List ℕ
operand_text opcode code count n expr = records_text (Const (opcode ∷ []) ∷ Formula code count n expr ∷ [])

-- its two records, by whether it is a distance
operand_text_is : (opcode code count n : ℕ) (expr : List ℕ) → front_of opcode code count (cond (eqb code RELEXPR) (little_bytes 4 n ++ expr) expr ++ []) ≡ operand_text opcode code count n expr
unfolding records_text spelling
operand_text_is opcode code count n expr = refl

pub far_text : (opcode code count n : ℕ) (front expr : List ℕ) → code ≡ RELEXPR → front ≡ 1 ∷ opcode ∷ code ∷ count ∷ little_bytes 4 n → front ++ expr ≡ records_text (Const (opcode ∷ []) ∷ Formula code count n expr ∷ [])
far_text opcode code count n front expr is front_is =
    ap (λ (l : List ℕ). l ++ expr) front_is ∙ ap (front_of opcode code count) (sym (append-nil (little_bytes 4 n ++ expr)))
    ∙ ap (λ (b : Bool). front_of opcode code count (cond b (little_bytes 4 n ++ expr) expr ++ [])) (sym (eq-eqb code RELEXPR is)) ∙ operand_text_is opcode code count n expr

pub near_text : (opcode code count n : ℕ) (expr : List ℕ) → code ≢ RELEXPR → (1 ∷ opcode ∷ code ∷ count ∷ []) ++ expr ≡ records_text (Const (opcode ∷ []) ∷ Formula code count n expr ∷ [])
near_text opcode code count n expr other = by_code (eqb code RELEXPR) refl ∙ operand_text_is opcode code count n expr
  where
    by_code : (b : Bool) → eqb code RELEXPR ≡ b → front_of opcode code count expr ≡ front_of opcode code count (cond b (little_bytes 4 n ++ expr) expr ++ [])
    by_code true e = absurd (other (eqb-true code RELEXPR e))
    by_code false e = ap (front_of opcode code count) (sym (append-nil expr))

-- the records of what an instruction gives
pub given_few : (g : Encoding) (few : ShortBytes) → g ≡ Bytes few → records_text (constant_records (few_bytes few)) ≡ records_text (given_records g)
unfolding records_after
given_few g few is = ap (λ (x : Encoding). records_text (given_records x)) (sym is)

pub given_operand : (g : Encoding) (opcode code count n : ℕ) (expr : Vec ℕ) (e : List ℕ) → g ≡ Operand opcode code count n expr → e ≡ expr.items
    → records_text (Const (opcode ∷ []) ∷ Formula code count n e ∷ []) ≡ records_text (given_records g)
unfolding records_after
given_operand g opcode code count n expr e is same = ap (operand_text opcode code count n) same ∙ ap (λ (x : Encoding). records_text (given_records x)) (sym is)
