-- The bytes that the patches of a body give, up to its reader's place.
use Rattle.std.proofs.Common.{◌≡◌, ℕ, true, List, [], ◌∷◌, ◌++◌, Some, None, Ok, refl, sym, ap, ◌∙◌, append_assoc}
use Rattle.std.proofs.lemmas.List.{append-nil}
use Rattle.std.proofs.lemmas.List.Concat.{flat_map-cons}
use Rattle.omf_format.specs.Record.{Record}
use Rattle.omf_format.specs.Reading.{Reader, next_answer, after_next, HandsOut, records_of, IsBody}
use Rattle.omf_format.specs.File.{Segment}
use Rattle.omf_format.specs.laws.FileLaws.{gave, same_found, open_at_some}
use Rattle.load_meaning.specs.Cells.{Cell, Patch, patches_in}
use Rattle.load_content.specs.Walk.{patches_from}
use Rattle.load_content.specs.Content.{cells_of_patch, spread_all}

-- what was appended so far, with what the records that are left give, is what was there before and what all records give
pub record Given (s : Segment) (start at : Reader) (front so_far : List (ℕ × Cell)) : Type 0 where
  pub back : List (ℕ × Record)
  pub last : Reader
  pub run : HandsOut at back last
  pub ended : last.ended ≡ true
  pub whole : so_far ++ spread_all (patches_from s back) ≡ front ++ spread_all (patches_from s (records_of start))

pub given_all : (s : Segment) (r : Reader) (front : List (ℕ × Cell)) → IsBody r → Given s r r front front
given_all s r front is = record { back = records_of r; last = is.last; run = is.run; ended = is.ended; whole = refl }

pub spread_all-append : (xs ys : List Patch) → spread_all (xs ++ ys) ≡ spread_all xs ++ spread_all ys
spread_all-append [] ys = refl
spread_all-append (p ∷ xs) ys = ap (λ l. cells_of_patch p ++ l) (spread_all-append xs ys) ∙ sym (append_assoc (cells_of_patch p) (spread_all xs) (spread_all ys))

pub given_more : (s : Segment) (start at : Reader) (found : ℕ × Record) (front so_far : List (ℕ × Cell)) → Given s start at front so_far → next_answer at ≡ Ok (Some found)
    → Given s start (after_next at) front (so_far ++ spread_all (patches_in s found.1))
given_more s start at found front so_far g e = by_back g.back g.run g.whole
  where
    by_back : (back : List (ℕ × Record)) → HandsOut at back g.last → so_far ++ spread_all (patches_from s back) ≡ front ++ spread_all (patches_from s (records_of start))
        → Given s start (after_next at) front (so_far ++ spread_all (patches_in s found.1))
    by_back [] run whole = absurd (open_at_some at found e (ap (λ (r : Reader). r.ended) run ∙ g.ended))
    by_back (other ∷ back) run whole =
        let is : other ≡ found = same_found other found (sym run.0 ∙ e) in
        record {
          back = back;
          last = g.last;
          run = run.1;
          ended = g.ended;
          whole =
              append_assoc so_far (spread_all (patches_in s found.1)) (spread_all (patches_from s back))
              ∙ ap (λ (f : ℕ × Record). so_far ++ (spread_all (patches_in s f.1) ++ spread_all (patches_from s back))) (sym is)
              ∙ ap (λ l. so_far ++ l) (sym (spread_all-append (patches_in s other.1) (patches_from s back)))
              ∙ ap (λ l. so_far ++ spread_all l) (sym (flat_map-cons (λ (f : ℕ × Record). patches_in s f.1) other back))
              ∙ whole;
        }

pub given_none : (s : Segment) (start at : Reader) (front so_far : List (ℕ × Cell)) → Given s start at front so_far → next_answer at ≡ Ok None → so_far ≡ front ++ spread_all (patches_from s (records_of start))
given_none s start at front so_far g e = by_back g.back g.run g.whole
  where
    by_back : (back : List (ℕ × Record)) → HandsOut at back g.last → so_far ++ spread_all (patches_from s back) ≡ front ++ spread_all (patches_from s (records_of start))
        → so_far ≡ front ++ spread_all (patches_from s (records_of start))
    by_back [] run whole = sym (append-nil so_far) ∙ whole
    by_back (other ∷ back) run whole = let clash : gave other ≡ Ok None = sym run.0 ∙ e in absurd cc
