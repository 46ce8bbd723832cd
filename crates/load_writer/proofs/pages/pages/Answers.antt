use Rattle.std.proofs.Common.{◌≡◌, ◌+◌, ◌-◌, ◌/◌, List, [], ◌∷◌, ◌++◌, ℕ, take, drop, refl, ap, sym, subst, ◌∙◌, arith}
use Rattle.std.specs.List.{flat_map, AllByRecursion}
use Rattle.omf_format.specs.Super.{page_text}
use Rattle.load_meaning.specs.WrittenPages.{passing, by_page, pages_from, pages_of, pages_text}
use Rattle.load_writer.specs.WrittenParts.{run}
use Rattle.load_meaning.specs.laws.PageLaws.{Climb, IsGroup, climb_all, sized_all}
use Rattle.load_writer.proofs.PageTexts.{lows, page_done, whole_again}
use Rattle.load_writer.proofs.pages.pages.Goals as goal

text_is : (locations : List ℕ) → flat_map page_text (pages_from 0 (by_page locations)) ≡ pages_text locations
unfolding pages_text pages_of
text_is locations = refl

pub pages-init : goal.pages-init
pages-init c =
    let all = c.args.locations.now in
    record {
      whole = ap (λ (l : List ℕ). l ++ flat_map page_text (pages_from 0 (by_page all))) c.new-out.ensures.items ∙ text_is all;
      climb = climb_all 0 all c.requires;
      sized = (sized_all 0 all c.requires).2.each;
    }

pub overflow_cast-count : goal.overflow_cast-count
overflow_cast-count c =
    let done = page_done c.pages.page c.in-Some.at.now c.in-Some.field-0-1.now c.pages.left.now c.in-Some.ensures.cases.0 (record { climb = c.pages.invariant.climb; sized = c.pages.invariant.sized }) in
    omega (arith, c.count_in-count.ensures, done.most)

pub first_items-requires : goal.first_items-requires
first_items-requires c =
    let done = page_done c.pages.page c.in-Some.at.now c.in-Some.field-0-1.now c.pages.left.now c.in-Some.ensures.cases.0 (record { climb = c.pages.invariant.climb; sized = c.pages.invariant.sized }) in
    omega (arith, c.count_in-count.ensures, done.within)

pub items_after-left-requires : goal.items_after-left-requires
items_after-left-requires c =
    let done = page_done c.pages.page c.in-Some.at.now c.in-Some.field-0-1.now c.pages.left.now c.in-Some.ensures.cases.0 (record { climb = c.pages.invariant.climb; sized = c.pages.invariant.sized }) in
    omega (arith, c.count_in-count.ensures, done.within)

pub pages-preserved : goal.pages-preserved
pages-preserved c =
    let at = c.in-Some.at.now in
    let left = c.pages.left.now in
    let n = run (at / 256) left in
    let done = page_done c.pages.page at c.in-Some.field-0-1.now left c.in-Some.ensures.cases.0 (record { climb = c.pages.invariant.climb; sized = c.pages.invariant.sized }) in
    let following : c.items_after-left.result.now ≡ drop n left = c.items_after-left.ensures ∙ ap (λ (k : ℕ). drop k left) c.count_in-count.ensures in
    let rest = flat_map page_text (pages_from (at / 256 + 1) (by_page (drop n left))) in
    let skips = flat_map page_text (passing (at / 256 - c.pages.page)) in
    let again = whole_again c.pages.out.items skips rest (n - 1) (lows (take n left)) c.put_skips.new.out.items c.push.new.self.items c.put_lows.new.out.items
    c.in_ok-put_skips.ensures
    (c.in_ok-push.ensures.items ∙ ap (λ (k : ℕ). c.put_skips.new.out.items ++ (k - 1) ∷ []) c.count_in-count.ensures)
    (c.in_ok-put_lows.ensures ∙ ap (λ (l : List ℕ). c.push.new.self.items ++ lows l) (c.first_items.ensures ∙ ap (λ (k : ℕ). take k left) c.count_in-count.ensures)) in
    record {
      whole = ap (λ (l : List ℕ). c.put_lows.new.out.items ++ flat_map page_text (pages_from (at / 256 + 1) (by_page l))) following
          ∙ again ∙ ap (λ (l : List ℕ). c.pages.out.items ++ l) (sym done.text) ∙ c.pages.invariant.whole;
      climb = subst (λ (l : List ℕ). Climb (at / 256 + 1) (by_page l)) (sym following) done.next.climb;
      sized = subst (λ (l : List ℕ). AllByRecursion IsGroup (by_page l)) (sym following) done.next.sized;
    }
