-- Parts of a line.
use Rattle.std.proofs.Common.{◌≡◌, ℕ, ◌+◌, ◌-◌, ◌≤◌, true, false, eqb, take, drop, subst, length-drop, List, [], ◌∷◌, ◌++◌, Option, Some, None, refl, sym, ap, ◌∙◌, length, arith, append-nil}
use Rattle.std.proofs.Math.Seq.{drop-append_seam}
use Rattle.std.proofs.lemmas.Bool.{eqb-true}
use Rattle.orca_meaning.specs.Characters.{is_letter, is_name_start, folded}
use Rattle.macro_meaning.specs.Substitution.{Naming, Replaced, Named, Declared, with_front, in_place, substituted_from, first_passes, name_length, taken_length}
use Rattle.orca_symbols.specs.Plain.{plain_len}
use Rattle.orca_symbols.specs.Template.{where_some, part_text, join, text_before, BeginWith, replacement_text, more_of, with_more}
use Rattle.orca_symbols.specs.declared.template.TemplatePart.{TemplatePart}
use Rattle.orca_symbols.specs.declared.template.TemplatePart.TheVariants.{Plain, Need}
use Rattle.orca_symbols.specs.declared.template.Replacement.{Replacement}
use Rattle.orca_symbols.proofs.Fronts.{front_more, front_start, plain_front, plain_most, after_run, skipped, nothing_left}

-- ---- what replaces an `&`

pub ampersand : (text_of : List ℕ → Option (List ℕ)) (following : List ℕ) → in_place text_of Declared following ≡ with_more 0 (Some (0x26 ∷ []))
ampersand text_of following = refl

pub not_letter : (text_of : List ℕ → Option (List ℕ)) (following : List ℕ) → first_passes is_letter following ≡ false → in_place text_of Replaced following ≡ with_more 0 (Some (0x26 ∷ []))
not_letter text_of following other = rw other refl

pub not_name : (text_of : List ℕ → Option (List ℕ)) (following : List ℕ) → first_passes is_name_start following ≡ false → in_place text_of Named following ≡ with_more 0 (Some (0x26 ∷ []))
not_name text_of following other = rw other refl

pub text : (text_of : List ℕ → Option (List ℕ)) (following name : List ℕ) (more : ℕ) → first_passes is_letter following ≡ true → name ≡ folded (take (name_length following) following) → more ≡ taken_length following
    → in_place text_of Replaced following ≡ with_more more (text_of name)
text text_of following name more letter name_is more_is = rw letter (by_text (text_of (folded (take (name_length following) following))) ∙ ap (λ (n : List ℕ). with_more (taken_length following) (text_of n)) (sym name_is) ∙ ap (λ (m : ℕ). with_more m (text_of name)) (sym more_is))
  where
    by_text : (found : Option (List ℕ)) → (elim found [ None ↦ None | Some t ↦ Some (t, taken_length following) ]) ≡ with_more (taken_length following) found
    by_text None = refl
    by_text (Some t) = refl

pub asked : (text_of : List ℕ → Option (List ℕ)) (following name : List ℕ) → first_passes is_name_start following ≡ true → name ≡ folded (take (name_length following) following)
    → in_place text_of Named following ≡ with_more 0 (where_some (0x26 ∷ []) (text_of name))
asked text_of following name start name_is = rw start (by_text (text_of (folded (take (name_length following) following))) ∙ ap (λ (n : List ℕ). with_more 0 (where_some (0x26 ∷ []) (text_of n))) (sym name_is))
  where
    by_text : (found : Option (List ℕ)) → (elim found [ None ↦ None | Some t ↦ Some (0x26 ∷ [], 0) ]) ≡ with_more 0 (where_some (0x26 ∷ []) found)
    by_text None = refl
    by_text (Some t) = refl

-- ---- parts with one more

pub followed_push : (text_of : List ℕ → Option (List ℕ)) (parts : List TemplatePart) (part : TemplatePart) (tail : Option (List ℕ)) → text_before text_of (parts ++ part ∷ []) tail ≡ text_before text_of parts (join (part_text text_of part) tail)
followed_push text_of [] part tail = refl
followed_push text_of (first ∷ parts) part tail = ap (join (part_text text_of first)) (followed_push text_of parts part tail)

pub closed_empty : (text_of : List ℕ → Option (List ℕ)) (parts : List TemplatePart) (run : List ℕ) (tail : Option (List ℕ)) → eqb (length run) 0 ≡ true → text_before text_of parts tail ≡ text_before text_of parts (with_front run tail)
closed_empty text_of parts [] tail empty = ap (text_before text_of parts) (sym (front_start [] tail refl))
closed_empty text_of parts (byte ∷ run) tail empty = absurd (omega (arith, eqb-true (length (byte ∷ run)) 0 empty))

pub closed_some : (text_of : List ℕ → Option (List ℕ)) (old new : List TemplatePart) (run bytes : List ℕ) (tail : Option (List ℕ)) (part : TemplatePart) → part_text text_of part ≡ Some bytes → bytes ≡ run → new ≡ old ++ part ∷ []
    → text_before text_of new tail ≡ text_before text_of old (with_front run tail)
closed_some text_of old new run bytes tail part is same push =
    ap (λ (ps : List TemplatePart). text_before text_of ps tail) push ∙ followed_push text_of old part tail ∙ ap (λ (o : Option (List ℕ)). text_before text_of old (join o tail)) is ∙ ap (λ (b : List ℕ). text_before text_of old (with_front b tail)) same

pub adds_ampersand : (text_of : List ℕ → Option (List ℕ)) (parts : List TemplatePart) (old new : List ℕ) (tail : Option (List ℕ)) → new ≡ old ++ 0x26 ∷ []
    → text_before text_of parts (with_front new tail) ≡ text_before text_of parts (with_front old (with_front (0x26 ∷ []) tail))
adds_ampersand text_of parts old new tail push = ap (λ (n : List ℕ). text_before text_of parts (with_front n tail)) push ∙ ap (text_before text_of parts) (front_more old (0x26 ∷ []) tail)

pub adds_text : (text_of : List ℕ → Option (List ℕ)) (old closed new : List TemplatePart) (run empty name : List ℕ) (tail : Option (List ℕ)) (part : TemplatePart) → part_text text_of part ≡ text_of name
    → ((t : Option (List ℕ)) → text_before text_of closed t ≡ text_before text_of old (with_front run t)) → new ≡ closed ++ part ∷ [] → empty ≡ []
    → text_before text_of new (with_front empty tail) ≡ text_before text_of old (with_front run (join (text_of name) tail))
adds_text text_of old closed new run empty name tail part is close push none =
    ap (text_before text_of new) (front_start empty tail none) ∙ ap (λ (ps : List TemplatePart). text_before text_of ps tail) push ∙ followed_push text_of closed part tail
    ∙ ap (λ (o : Option (List ℕ)). text_before text_of closed (join o tail)) is ∙ close (join (text_of name) tail)

pub adds_asked : (text_of : List ℕ → Option (List ℕ)) (old new : List TemplatePart) (run longer name : List ℕ) (tail : Option (List ℕ)) (part : TemplatePart) → part_text text_of part ≡ where_some [] (text_of name)
    → new ≡ old ++ part ∷ [] → longer ≡ run ++ 0x26 ∷ []
    → text_before text_of new (with_front longer tail) ≡ text_before text_of old (with_front run (join (where_some (0x26 ∷ []) (text_of name)) tail))
adds_asked text_of old new run longer name tail part is push more =
    ap (λ (ps : List TemplatePart). text_before text_of ps (with_front longer tail)) push ∙ followed_push text_of old part (with_front longer tail)
    ∙ ap (λ (o : Option (List ℕ)). text_before text_of old (join o (with_front longer tail))) is ∙ ap (text_before text_of old) (by_text (text_of name))
  where
    by_text : (found : Option (List ℕ)) → join (where_some [] found) (with_front longer tail) ≡ with_front run (join (where_some (0x26 ∷ []) found) tail)
    by_text None = refl
    by_text (Some t) = front_start [] (with_front longer tail) refl ∙ ap (λ (l : List ℕ). with_front l tail) more ∙ front_more run (0x26 ∷ []) tail

-- ---- splitting a line

-- so far, where these bytes of a line are left
abbrev pub AreSoFar : (ℕ → Naming) → List ℕ → List ℕ → List TemplatePart → List ℕ → Type 0
AreSoFar naming text left parts run = (text_of : List ℕ → Option (List ℕ)) → text_before text_of parts (with_front run (substituted_from text_of naming (length text - length left) 0 left)) ≡ substituted_from text_of naming 0 0 text

-- a run is copied
parts_run : (naming : ℕ → Naming) (text left rest run new : List ℕ) (parts : List TemplatePart) → length left ≤ length text → AreSoFar naming text left parts run
    → rest ≡ drop (plain_len left) left → new ≡ run ++ take (plain_len left) left → AreSoFar naming text rest parts new
parts_run naming text left rest run new parts within so rest_is copied = λ text_of.
    let place : length text - length left + plain_len left ≡ length text - length rest = omega (arith, within, plain_most left, ap length rest_is, length-drop (plain_len left) left) in
    let tail = substituted_from text_of naming (length text - length rest) 0 rest in
    let here : substituted_from text_of naming (length text - length left) 0 left ≡ with_front (take (plain_len left) left) tail =
    plain_front text_of naming (length text - length left) left
    ∙ ap (λ (p : ℕ). with_front (take (plain_len left) left) (substituted_from text_of naming p 0 (drop (plain_len left) left))) place
    ∙ ap (λ (r : List ℕ). with_front (take (plain_len left) left) (substituted_from text_of naming (length text - length rest) 0 r)) (sym rest_is) in
    ap (λ (n : List ℕ). text_before text_of parts (with_front n tail)) copied ∙ ap (text_before text_of parts) (front_more run (take (plain_len left) left) tail ∙ ap (with_front run) (sym here)) ∙ so text_of

-- an `&` with what replaces it
join_more : (text_of : List ℕ → Option (List ℕ)) (naming : ℕ → Naming) (at byte : ℕ) (following : List ℕ) (more : ℕ) (text : Option (List ℕ)) → byte ≡ 0x26
    → in_place text_of (naming at) following ≡ with_more more text → substituted_from text_of naming at 0 (byte ∷ following) ≡ join text (substituted_from text_of naming (at + 1) more following)
unfolding substituted_from
join_more text_of naming at byte following more None ampersand is = ap (λ (b : ℕ). substituted_from text_of naming at 0 (b ∷ following)) ampersand ∙ rw is refl
join_more text_of naming at byte following more (Some text) ampersand is = ap (λ (b : ℕ). substituted_from text_of naming at 0 (b ∷ following)) ampersand ∙ rw is refl

pub parts_more : (naming : ℕ → Naming) (text left rest run copied longer following others : List ℕ) (old new : List TemplatePart) (byte : ℕ) (place : Replacement) (more : ℕ) → length left ≤ length text → AreSoFar naming text left old run
    → rest ≡ drop (plain_len left) left → copied ≡ run ++ take (plain_len left) left → rest ≡ byte ∷ following
    → ((text_of : List ℕ → Option (List ℕ)) → in_place text_of (naming (length text - length rest)) following ≡ with_more (more_of place) (replacement_text text_of place))
    → more ≡ more_of place → more ≤ length following → others ≡ drop more following
    → ((text_of : List ℕ → Option (List ℕ)) (tail : Option (List ℕ)) → text_before text_of new (with_front longer tail) ≡ text_before text_of old (with_front copied (join (replacement_text text_of place) tail)))
    → AreSoFar naming text others new longer
parts_more naming text left rest run copied longer following others old new byte place more within so rest_is copied_is first is more_is few others_are added = λ text_of.
    let most : length rest ≤ length text = omega (arith, within, ap length rest_is, length-drop (plain_len left) left) in
    let at : length text - length rest + 1 + more ≡ length text - length others = omega (arith, most, few, ap length first, ap length others_are, length-drop more following) in
    let tail = substituted_from text_of naming (length text - length others) 0 others in
    let here : substituted_from text_of naming (length text - length rest) 0 rest ≡ join (replacement_text text_of place) tail =
    ap (substituted_from text_of naming (length text - length rest) 0) first
    ∙ join_more text_of naming (length text - length rest) byte following more (replacement_text text_of place) (after_run left byte following (sym rest_is ∙ first)) (is text_of ∙ ap (λ (m : ℕ). with_more m (replacement_text text_of place)) (sym more_is))
    ∙ ap (join (replacement_text text_of place)) (skipped text_of naming (length text - length rest + 1) more following few ∙ ap (λ (p : ℕ). substituted_from text_of naming p 0 (drop more following)) at ∙ ap (substituted_from text_of naming (length text - length others) 0) (sym others_are)) in
    added text_of tail ∙ ap (λ (o : Option (List ℕ)). text_before text_of old (with_front copied o)) (sym here) ∙ parts_run naming text left rest run copied old within so rest_is copied_is text_of

pub parts_end : (naming : ℕ → Naming) (text left rest run copied : List ℕ) (old new : List TemplatePart) → length left ≤ length text → AreSoFar naming text left old run
    → rest ≡ drop (plain_len left) left → copied ≡ run ++ take (plain_len left) left → length rest ≡ 0
    → ((text_of : List ℕ → Option (List ℕ)) (tail : Option (List ℕ)) → text_before text_of new tail ≡ text_before text_of old (with_front copied tail))
    → (text_of : List ℕ → Option (List ℕ)) → text_before text_of new (Some []) ≡ substituted_from text_of naming 0 0 text
parts_end naming text left rest run copied old new within so rest_is copied_is none closed text_of =
    closed text_of (Some []) ∙ ap (text_before text_of old) (ap (λ (t : List ℕ). Some t) (append-nil copied) ∙ sym (nothing_left text_of naming (length text - length rest) rest copied none))
    ∙ parts_run naming text left rest run copied old within so rest_is copied_is text_of

-- ---- how every text that parts make begins

-- every text that the parts make is also made by those that are left
pub record Leads (parts left : List TemplatePart) : Type 0 where
  pub is : (text_of : List ℕ → Option (List ℕ)) (text : List ℕ) → text_before text_of parts (Some []) ≡ Some text → text_before text_of left (Some []) ≡ Some text

pub needs_more : (parts left others : List TemplatePart) (name : List ℕ) → left ≡ Need name ∷ others → Leads parts left → Leads parts others
needs_more parts left others name left_is leads = record {
  is = λ text_of text are. by (text_of name) (text_before text_of others (Some [])) text (subst (λ (ps : List TemplatePart). text_before text_of ps (Some []) ≡ Some text) left_is (leads.is text_of text are));
}
  where
    by : (asked tail : Option (List ℕ)) (text : List ℕ) → join (where_some [] asked) tail ≡ Some text → tail ≡ Some text
    by None tail text is = absurd cc
    by (Some t) None text is = absurd cc
    by (Some t) (Some u) text is = is

some_is : (a b : List ℕ) → ◌≡◌ {A = Option (List ℕ)} (Some a) (Some b) → a ≡ b
some_is a b e = cc

pub begins_plain : (parts left others : List TemplatePart) (bytes front : List ℕ) → left ≡ Plain bytes ∷ others → front ≡ bytes → Leads parts left → BeginWith parts front
begins_plain parts left others bytes front left_is front_is leads = subst (BeginWith parts) (sym front_is) (record {
  is = λ text_of text are. by (text_before text_of others (Some [])) text (subst (λ (ps : List TemplatePart). text_before text_of ps (Some []) ≡ Some text) left_is (leads.is text_of text are));
})
  where
    by : (tail : Option (List ℕ)) (text : List ℕ) → with_front bytes tail ≡ Some text → text ≡ bytes ++ drop (length bytes) text
    by None text is = absurd cc
    by (Some u) text is =
        let same : bytes ++ u ≡ text = some_is (bytes ++ u) text is in
        subst (λ (x : List ℕ). x ≡ bytes ++ drop (length bytes) x) same (ap (λ (r : List ℕ). bytes ++ r) (sym (drop-append_seam bytes u)))
