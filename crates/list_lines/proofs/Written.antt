-- A line that was written, and lines one after another.
use Rattle.std.proofs.Common.{◌≡◌, ℕ, ◌<◌, ◌≤◌, Bool, true, false, List, [], ◌∷◌, ◌++◌, length, refl, sym, ap, subst, ◌∙◌}
use Rattle.std.specs.Prelude.{◌&&◌}
use Rattle.std.specs.List.{list_all}
use Rattle.std.proofs.lemmas.Bool.{le-leb, lt-leb}
use Rattle.std.proofs.lemmas.List.Folds.{list_all-append}
use Rattle.list_meaning.specs.Listed.{ListedStatement, said_text}
use Rattle.list_meaning.specs.Listing.{is_short}
use Rattle.list_lines.specs.declared.output.ListingText.{ListingText}
use Rattle.list_lines.specs.Kept.{Kept, with_line, with_lines}
use Rattle.list_lines.specs.LineView.{Wrote, WroteAll}
use Rattle.list_lines.specs.OutputView.{finished_lines, open_line}

-- what ends a line
pub wrote_of : (said : ListedStatement) (a b c : ListingText) → open_line b ≡ said_text said → finished_lines b ≡ finished_lines a → finished_lines c ≡ with_line (open_line b) (finished_lines b) → open_line c ≡ [] → length (open_line b) ≤ 255 → Wrote said a c
wrote_of said a b c text same whole line short = record {
  whole = whole ∙ ap (λ (l : List ℕ). with_line l (finished_lines b)) text ∙ ap (with_line (said_text said)) same;
  line = line;
  short = le-leb (length (said_text said)) 255 (subst (λ (l : List ℕ). length l ≤ 255) text short);
}

pub long_of : (said : ListedStatement) (b : ListingText) → open_line b ≡ said_text said → 255 < length (open_line b) → is_short said ≡ false
long_of said b text long = lt-leb (length (said_text said)) 255 (subst (λ (l : List ℕ). 255 < length l) text long)

-- ---- lines one after another

pub with_lines-append : (a b : List ListedStatement) (k : Kept) → with_lines (a ++ b) k ≡ with_lines b (with_lines a k)
with_lines-append [] b k = refl
with_lines-append (said ∷ a) b k = with_lines-append a b (with_line (said_text said) k)

pub wrote_one : (said : ListedStatement) (a b : ListingText) → Wrote said a b → WroteAll (said ∷ []) a b
wrote_one said a b wrote = record { whole = wrote.whole; line = wrote.line; short = rw wrote.short refl }

pub wrote_none : (a : ListingText) → open_line a ≡ [] → WroteAll [] a a
wrote_none a line = record { whole = refl; line = line; short = refl }

pub wrote_both : (xs ys : List ListedStatement) (a b c : ListingText) → WroteAll xs a b → WroteAll ys b c → WroteAll (xs ++ ys) a c
wrote_both xs ys a b c p q = record {
  whole = q.whole ∙ ap (with_lines ys) p.whole ∙ sym (with_lines-append xs ys (finished_lines a));
  line = q.line;
  short = list_all-append is_short xs ys ∙ rw (p.short, q.short) refl;
}

pub long_one : (said : ListedStatement) → is_short said ≡ false → list_all is_short (said ∷ []) ≡ false
long_one said long = rw long refl

pub long_first : (xs ys : List ListedStatement) → list_all is_short xs ≡ false → list_all is_short (xs ++ ys) ≡ false
long_first xs ys long = list_all-append is_short xs ys ∙ rw long refl

pub long_second : (xs ys : List ListedStatement) → list_all is_short ys ≡ false → list_all is_short (xs ++ ys) ≡ false
long_second xs ys long = list_all-append is_short xs ys ∙ ap (λ (b : Bool). list_all is_short xs && b) long ∙ both (list_all is_short xs)
  where
    both : (b : Bool) → (b && false) ≡ false
    both true = refl
    both false = refl

pub wrote_two : (x y : ListedStatement) (a b c : ListingText) → Wrote x a b → Wrote y b c → WroteAll (x ∷ y ∷ []) a c
wrote_two x y a b c p q = wrote_both (x ∷ []) (y ∷ []) a b c (wrote_one x a b p) (wrote_one y b c q)

pub long_front : (x y : ListedStatement) → is_short x ≡ false → list_all is_short (x ∷ y ∷ []) ≡ false
long_front x y long = long_first (x ∷ []) (y ∷ []) (long_one x long)

pub long_after : (x y : ListedStatement) → is_short y ≡ false → list_all is_short (x ∷ y ∷ []) ≡ false
long_after x y long = long_second (x ∷ []) (y ∷ []) (long_one y long)
