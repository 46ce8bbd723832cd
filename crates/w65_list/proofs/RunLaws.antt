-- The rest of a run, and one step along it.
use Rattle.std.proofs.Common.{◌≡◌, ℕ, zero, suc, ◌+◌, ◌≤◌, Bool, true, false, List, [], ◌∷◌, ◌++◌, length, take, drop, get_or, refl, sym, ap, subst, ◌∙◌, arith}
use Rattle.std.specs.Prelude.{◌&&◌, ◌==◌}
use Rattle.std.specs.List.{list_all}
use Rattle.std.proofs.lemmas.List.Folds.{list_all-append}
use Rattle.asm_meaning.specs.Instruction.{Widths}
use Rattle.list_meaning.specs.Listed.{ListedStatement}
use Rattle.list_meaning.specs.Listing.{is_short, after_opcode, said_instruction, widths_past, said_rest, widths_rest}
use Rattle.list_lines.specs.declared.output.ListingText.{ListingText}
use Rattle.list_lines.specs.Kept.{with_lines}
use Rattle.list_lines.specs.LineView.{WroteAll}
use Rattle.list_lines.specs.OutputView.{finished_lines}
use Rattle.list_lines.proofs.Written.{with_lines-append, long_first}
use Rattle.w65_list.specs.RunView.{IsOn}

-- what was taken is passed over
pub rest-taken : (w : Widths) (n : ℕ) (run : List ℕ) → said_rest w n run ≡ said_rest w 0 (drop n run)
unfolding said_rest
rest-taken w zero run = refl
rest-taken w (suc n) [] = refl
rest-taken w (suc n) (byte ∷ run) = rest-taken w n run

pub widths-taken : (w : Widths) (n : ℕ) (run : List ℕ) → widths_rest w n run ≡ widths_rest w 0 (drop n run)
unfolding widths_rest
widths-taken w zero run = refl
widths-taken w (suc n) [] = refl
widths-taken w (suc n) (byte ∷ run) = widths-taken w n run

-- the first instruction of a run, and the others
pub rest_first : (w : Widths) (opcode : ℕ) (following : List ℕ) → said_rest w 0 (opcode ∷ following)
    ≡ said_instruction w opcode (take (after_opcode w opcode) following)
    ++ said_rest (widths_past w opcode (take (after_opcode w opcode) following)) 0 (drop (length (take (after_opcode w opcode) following)) following)
unfolding said_rest
rest_first w opcode following =
    let bytes = take (after_opcode w opcode) following in
    ap (λ (l : List ListedStatement). said_instruction w opcode bytes ++ l) (rest-taken (widths_past w opcode bytes) (length bytes) following)

pub widths_first : (w : Widths) (opcode : ℕ) (following : List ℕ) → widths_rest w 0 (opcode ∷ following)
    ≡ widths_rest (widths_past w opcode (take (after_opcode w opcode) following)) 0 (drop (length (take (after_opcode w opcode) following)) following)
unfolding widths_rest
widths_first w opcode following = let bytes = take (after_opcode w opcode) following in widths-taken (widths_past w opcode bytes) (length bytes) following

-- ---- one step along a run

-- the start of a run is its first instruction
pub front_is : (w : Widths) (left front : List ℕ) → 1 ≤ length left → front ≡ take (after_opcode w (get_or left 0 0) + 1) left
    → (said_rest w 0 left ≡ said_instruction w (get_or front 0 0) (drop 1 front) ++ said_rest (widths_past w (get_or front 0 0) (drop 1 front)) 0 (drop (length front) left))
    × (widths_rest w 0 left ≡ widths_rest (widths_past w (get_or front 0 0) (drop 1 front)) 0 (drop (length front) left))
front_is w [] front some is = absurd (omega (arith, some))
front_is w (opcode ∷ following) front some is =
    let n = after_opcode w opcode in
    let more : n + 1 ≡ suc n = omega arith in
    let same : opcode ∷ take n following ≡ front = sym (is ∙ ap (λ (k : ℕ). take k (opcode ∷ following)) more) in
    subst (λ (f : List ℕ). (said_rest w 0 (opcode ∷ following) ≡ said_instruction w (get_or f 0 0) (drop 1 f) ++ said_rest (widths_past w (get_or f 0 0) (drop 1 f)) 0 (drop (length f) (opcode ∷ following)))
    × (widths_rest w 0 (opcode ∷ following) ≡ widths_rest (widths_past w (get_or f 0 0) (drop 1 f)) 0 (drop (length f) (opcode ∷ following)))) same
    (rest_first w opcode following, widths_first w opcode following)

-- the lines of the first instruction were written
pub on_step : (w : Widths) (run : List ℕ) (old : ListingText) (v u : Widths) (left front : List ℕ) (a b : ListingText) → IsOn w run old v left a → 1 ≤ length left → front ≡ take (after_opcode v (get_or left 0 0) + 1) left
    → WroteAll (said_instruction v (get_or front 0 0) (drop 1 front)) a b → u ≡ widths_past v (get_or front 0 0) (drop 1 front) → IsOn w run old u (drop (length front) left) b
on_step w run old v u left front a b on some is wrote past =
    let two = front_is v left front some is in
    let xs = said_instruction v (get_or front 0 0) (drop 1 front) in
    let ys = said_rest (widths_past v (get_or front 0 0) (drop 1 front)) 0 (drop (length front) left) in
    subst (λ (x : Widths). IsOn w run old x (drop (length front) left) b) (sym past) (record {
      line = wrote.line;
      whole = ap (with_lines ys) wrote.whole ∙ sym (with_lines-append xs ys (finished_lines a)) ∙ ap (λ (l : List ListedStatement). with_lines l (finished_lines a)) (sym two.0) ∙ on.whole;
      short = sym (ap (λ (b : Bool). b && list_all is_short ys) wrote.short) ∙ sym (list_all-append is_short xs ys) ∙ ap (list_all is_short) (sym two.0) ∙ on.short;
      widths = sym two.1 ∙ on.widths;
    })

pub on_end : (w : Widths) (run : List ℕ) (old : ListingText) (v : Widths) (left : List ℕ) (a : ListingText) → IsOn w run old v left a → length left ≡ 0 → WroteAll (said_rest w 0 run) old a × (v ≡ widths_rest w 0 run)
unfolding said_rest widths_rest
on_end w run old v [] a on none = (record { whole = on.whole; line = on.line; short = sym on.short }, on.widths)
on_end w run old v (byte ∷ left) a on none = absurd (omega (arith, none))

-- a line of the first instruction is too long
pub on_long : (w : Widths) (run : List ℕ) (old : ListingText) (v : Widths) (left front : List ℕ) (a : ListingText) → IsOn w run old v left a → 1 ≤ length left → front ≡ take (after_opcode v (get_or left 0 0) + 1) left
    → list_all is_short (said_instruction v (get_or front 0 0) (drop 1 front)) ≡ false → list_all is_short (said_rest w 0 run) ≡ false
on_long w run old v left front a on some is long =
    let two = front_is v left front some is in
    sym on.short ∙ ap (list_all is_short) two.0 ∙ long_first (said_instruction v (get_or front 0 0) (drop 1 front)) (said_rest (widths_past v (get_or front 0 0) (drop 1 front)) 0 (drop (length front) left)) long

pub widths_end : (w : Widths) (left : List ℕ) → length left ≡ 0 → widths_rest w 0 left ≡ w
unfolding widths_rest
widths_end w [] none = refl
widths_end w (byte ∷ left) none = absurd (omega (arith, none))

-- the widths after the first instruction
pub widths_on : (w u : Widths) (left front : List ℕ) → 1 ≤ length left → front ≡ take (after_opcode w (get_or left 0 0) + 1) left → u ≡ widths_past w (get_or front 0 0) (drop 1 front)
    → widths_rest u 0 (drop (length front) left) ≡ widths_rest w 0 left
widths_on w u left front some is past = ap (λ (x : Widths). widths_rest x 0 (drop (length front) left)) past ∙ sym ((front_is w left front some is).1)

-- what isn't empty has a byte
pub some_left : (left : List ℕ) (b : Bool) → b ≡ (length left == 0) → b ≡ false → 1 ≤ length left
some_left [] b e f = let clash : true ≡ false = sym e ∙ f in absurd cc
some_left (byte ∷ left) b e f = omega arith
