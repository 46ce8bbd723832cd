-- What the elements of DC give.
use Rattle.std.proofs.Common.{◌≡◌, ◌≢◌, ℕ, ◌≤◌, Bool, List, [], ◌∷◌, ◌++◌, length, map, Option, Some, None, Ok, refl, sym, ap, subst, ◌∙◌, append-nil, arith}
use Rattle.std.specs.List.{AllByRecursion}
use Rattle.std.proofs.lemmas.Bool.{and_parts, leb-true}
use Rattle.omf_format.specs.Expression.{Leaf, Named, term_text}
use Rattle.orca_meaning.specs.Token.{digits_at}
use Rattle.asm_meaning.specs.Answer.{Answer}
use Rattle.asm_meaning.specs.Constant.{Constants}
use Rattle.asm_meaning.specs.Elements.{Repeat, Numbers, Fixed, Text, Asked, Weak, Element, ElementType, Number, Hexadecimal, Binary, Characters, References, WeakReferences, closed_at, text_at, kind_at, bytes_of_digits, AreNames, IsRepeatAt, IsElementAt, IsValueAt, after_parenthesis, element_pieces}
use Rattle.asm_meaning.specs.laws.Steps.{text_byte, strong_piece, weak_piece}
use Rattle.asm_meaning.specs.Formulas.{expression_text}
use Rattle.asm_meaning.specs.laws.GivenLaws.{IsNameLength, closed-le, names_length, repeat-le, kind_is, IsWidth}
use Rattle.asm_meaning.specs.Pieces.{Piece, Bytes}
use Rattle.asm_meaning.specs.laws.StatementLaws.{same_found, repeat_once}
use Rattle.orca_operands.specs.declared.element.ElementKind as kinds
use Rattle.orca_operands.specs.declared.element.ElementKind.TheVariants as kind_names
use Rattle.orca_operands.specs.DcView.{HasNumbers, HasCount, HasValue, HasNoValue, HasElement, repeated_pieces}
use Rattle.orca_operands.specs.ElementView.{element_kind, HasWidth}

-- ---- values

pub closed_short : (text inner rest : List ℕ) → closed_at text ≡ Some (inner, rest) → length text ≤ 255 → length inner ≤ 255
closed_short text inner rest closed short = omega (arith, closed-le text inner rest closed, short)

pub has_numbers : (cs : Constants) (width : ℕ) (text inner rest : List ℕ) (answer : Answer (List Piece)) → closed_at text ≡ Some (inner, rest) → HasNumbers cs width inner answer → (msb : Bool) → HasValue cs msb (Number width) text answer rest
has_numbers cs width text inner rest answer closed h msb = record { value = Numbers width h.trees; is = (inner, h.trees, closed, h.are, refl); gives = h.gives }

abbrev given : List Piece → Answer (List Piece)
given pieces = Ok pieces

pub has_hexadecimal : (text inner rest bytes : List ℕ) (pieces : List Piece) → closed_at text ≡ Some (inner, rest) → bytes_of_digits 16 2 inner ≡ Some bytes → pieces ≡ Bytes bytes ∷ [] → (cs : Constants) (msb : Bool)
    → HasValue cs msb Hexadecimal text (Ok pieces) rest
has_hexadecimal text inner rest bytes pieces closed digits is cs msb = record { value = Fixed bytes; is = (inner, bytes, closed, digits, refl); gives = ap given is }

pub has_binary : (text inner rest bytes : List ℕ) (pieces : List Piece) → closed_at text ≡ Some (inner, rest) → bytes_of_digits 2 8 inner ≡ Some bytes → pieces ≡ Bytes bytes ∷ [] → (cs : Constants) (msb : Bool)
    → HasValue cs msb Binary text (Ok pieces) rest
has_binary text inner rest bytes pieces closed digits is cs msb = record { value = Fixed bytes; is = (inner, bytes, closed, digits, refl); gives = ap given is }

pub has_text : (msb : Bool) (text rest bytes marked : List ℕ) (pieces : List Piece) → text_at text ≡ Some (bytes, rest) → marked ≡ map (text_byte msb) bytes → pieces ≡ Bytes marked ∷ [] → (cs : Constants)
    → HasValue cs msb Characters text (Ok pieces) rest
has_text msb text rest bytes marked pieces found marked_is is cs =
    record { value = Text bytes; is = (bytes, found, refl); gives = ap given (is ∙ ap (λ (b : List ℕ). Bytes b ∷ []) marked_is) }

pub has_strong : (text inner rest : List ℕ) (names : List (List ℕ)) (pieces : List Piece) → closed_at text ≡ Some (inner, rest) → AreNames inner names → pieces ≡ map strong_piece names → (cs : Constants) (msb : Bool)
    → HasValue cs msb References text (Ok pieces) rest
has_strong text inner rest names pieces closed are is cs msb = record { value = Asked names; is = (inner, names, closed, are, refl); gives = ap given is }

pub has_weak : (text inner rest : List ℕ) (names : List (List ℕ)) (pieces : List Piece) → closed_at text ≡ Some (inner, rest) → AreNames inner names → pieces ≡ map weak_piece names → (cs : Constants) (msb : Bool)
    → HasValue cs msb WeakReferences text (Ok pieces) rest
has_weak text inner rest names pieces closed are is cs msb = record { value = Weak names; is = (inner, names, closed, are, refl); gives = ap given is }

pub names_short : (inner : List ℕ) (names seen : List (List ℕ)) → length inner ≤ 255 → AreNames inner names → seen ≡ names → AllByRecursion IsNameLength seen
names_short inner names seen short are same = subst (AllByRecursion IsNameLength) (sym same) (names_length inner names short are)

pub weak_expression : (name empty one all : List ℕ) → empty ≡ [] → one ≡ empty ++ term_text 0 (Named 0x82 name) → all ≡ one ++ 0x00 ∷ [] → all ≡ expression_text (Leaf (Named 0x82 name))
unfolding expression_text
weak_expression name empty one all none put end =
    let t = term_text 0 (Named 0x82 name) in
    end ∙ ap (λ (l : List ℕ). l ++ 0x00 ∷ []) (put ∙ ap (λ (l : List ℕ). l ++ t) none ∙ sym (append-nil t))

-- ---- elements

width_by : (kind : kinds.ElementKind) → IsWidth (element_kind kind) → HasWidth kind
width_by (kind_names.Number width) is = let parts = and_parts _ _ is in leb-true width 4 parts.1
width_by kind_names.Hexadecimal is = tt
width_by kind_names.Binary is = tt
width_by kind_names.Characters is = tt
width_by kind_names.References is = tt
width_by kind_names.WeakReferences is = tt

pub has_width : (following quote : List ℕ) (kind : kinds.ElementKind) → kind_at following ≡ Some (element_kind kind, quote) → HasWidth kind
has_width following quote kind is = width_by kind (kind_is following (element_kind kind) quote is).0

pub inner_short : (cs : Constants) (text following quote inner : List ℕ) (kind : kinds.ElementKind) (count : Answer ℕ) → length text ≤ 255 → HasCount cs text count following → kind_at following ≡ Some (element_kind kind, quote) → quote ≡ 0x27 ∷ inner
    → length inner ≤ 255
inner_short cs text following quote inner kind count short h is parts =
    omega (arith, short, repeat-le (after_parenthesis text) (digits_at 10 text) text h.repeat following refl refl h.is, (kind_is following (element_kind kind) quote is).1, ap length parts)

pub has_element : (cs : Constants) (msb : Bool) (text following quote inner rest : List ℕ) (kind : kinds.ElementKind) (count : Answer ℕ) (value part : Answer (List Piece)) → HasCount cs text count following
    → kind_at following ≡ Some (element_kind kind, quote) → quote ≡ 0x27 ∷ inner → HasValue cs msb (element_kind kind) inner value rest → part ≡ repeated_pieces count value → HasElement cs msb text part rest
unfolding element_pieces
has_element cs msb text following quote inner rest kind count value part h kind_is' parts v is = record {
  element = record { repeat = h.repeat; value = v.value };
  is = record {
    after_repeat = following;
    kind = element_kind kind;
    after_quote = inner;
    repeat = h.is;
    of_kind = kind_is' ∙ ap (λ (q : List ℕ). found (element_kind kind) q) parts;
    value = v.is;
  };
  gives = is ∙ ap (λ (n : Answer ℕ). repeated_pieces n value) h.gives ∙ ap (repeated_pieces _) v.gives;
}
  where
    found : ElementType → List ℕ → Option (ElementType × List ℕ)
    found k q = Some (k, q)

pub no_count : (text : List ℕ) → ((repeat : Repeat) (rest : List ℕ) → IsRepeatAt text repeat rest → ⊥) → (element : Element) (rest : List ℕ) → IsElementAt text element rest → ⊥
no_count text none element rest is = none element.repeat is.after_repeat is.repeat

same_front : (cs : Constants) (text following : List ℕ) (count : Answer ℕ) (element : Element) (rest : List ℕ) → HasCount cs text count following → (e : IsElementAt text element rest) → e.after_repeat ≡ following
same_front cs text following count element rest h e = (repeat_once (after_parenthesis text) (digits_at 10 text) text element.repeat h.repeat e.after_repeat following e.repeat h.is).1

pub no_kind : (cs : Constants) (text following : List ℕ) (count : Answer ℕ) → HasCount cs text count following → kind_at following ≡ None → (element : Element) (rest : List ℕ) → IsElementAt text element rest → ⊥
no_kind cs text following count h none element rest e =
    let there = sym (ap kind_at (same_front cs text following count element rest h e)) ∙ e.of_kind in
    no_some (e.kind, 0x27 ∷ e.after_quote) (sym none ∙ there)
  where
    no_some : (x : ElementType × List ℕ) → None ≡ Some x → ⊥
    no_some x e = cc

pub no_quote : (cs : Constants) (text following quote : List ℕ) (kind : kinds.ElementKind) (count : Answer ℕ) → HasCount cs text count following → kind_at following ≡ Some (element_kind kind, quote) → ((inner : List ℕ) → quote ≢ 0x27 ∷ inner)
    → (element : Element) (rest : List ℕ) → IsElementAt text element rest → ⊥
no_quote cs text following quote kind count h is other element rest e =
    let there = sym (ap kind_at (same_front cs text following count element rest h e)) ∙ e.of_kind in
    other e.after_quote (same_found (kind_at following) (element_kind kind) e.kind quote (0x27 ∷ e.after_quote) is there).1

pub no_value : (cs : Constants) (text following quote inner : List ℕ) (kind : kinds.ElementKind) (count : Answer ℕ) → HasCount cs text count following → kind_at following ≡ Some (element_kind kind, quote) → quote ≡ 0x27 ∷ inner
    → HasNoValue (element_kind kind) inner → (element : Element) (rest : List ℕ) → IsElementAt text element rest → ⊥
no_value cs text following quote inner kind count h is parts none element rest e =
    let there = sym (ap kind_at (same_front cs text following count element rest h e)) ∙ e.of_kind in
    let both = same_found (kind_at following) (element_kind kind) e.kind quote (0x27 ∷ e.after_quote) is there in
    let inner_is : inner ≡ e.after_quote = same_inner inner e.after_quote (sym parts ∙ both.1) in
    none element.value rest (subst (λ (k : ElementType). IsValueAt k inner element.value rest) (sym both.0) (subst (λ (t : List ℕ). IsValueAt e.kind t element.value rest) (sym inner_is) e.value))
  where
    same_inner : (a b : List ℕ) → 0x27 ∷ a ≡ 0x27 ∷ b → a ≡ b
    same_inner a b e = cc
