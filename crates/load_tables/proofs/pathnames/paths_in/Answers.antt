use Rattle.std.proofs.Common.{◌≡◌, ℕ, ◌+◌, ◌≤◌, eqb, ltb, List, [], ◌∷◌, length, take, drop, sym, subst, ap, ◌∙◌, arith}
use Rattle.std.specs.Prelude.{◌&&◌}
use Rattle.std.proofs.lemmas.List.{map-append}
use Rattle.std.specs.Borrow.{Bor}
use Rattle.load_meaning.specs.Pathnames.{row_flaw, first_path}
use Rattle.load_tables.specs.View.{seen_paths}
use Rattle.load_tables.proofs.PathRuns.{SoFar, so_none, so_wrong, so_next}
use Rattle.load_tables.proofs.pathnames.paths_in.Goals as goal

pub rows-init : goal.rows-init
rows-init c =
    subst (λ (items : List (Bor (List ℕ))). SoFar c.args.most c.args.bytes.now 0 0 c.args.bytes.now (seen_paths items)) (sym c.new-paths.ensures.items) (so_none c.args.most c.args.bytes.now)

pub returns-in-Some-clause-flaw : goal.returns-in-Some-clause-flaw
returns-in-Some-clause-flaw c =
    let rest = c.rows.rest.now in
    let rows = c.rows.rows in
    let most = c.args.most in
    let long : 2 ≤ length rest = omega (arith, c.if-rest-lt2.false) in
    let open' = sym (ap (λ (n : ℕ). eqb n 0 && ltb 0 rows) c.number-file.ensures.value) ∙ sym c.is_end.ensures ∙ c.if-is_end.false in
    let is = sym (ap (λ (n : ℕ). ltb rows most && eqb n (rows + 2)) c.number-file.ensures.value) ∙ sym c.is_next.ensures ∙ c.if-not-is_next.false in
    so_wrong most c.args.bytes.now rows c.rows.at c.in-Some.flaw rest (seen_paths c.rows.paths.items) c.rows.invariant long open' is (sym c.row_flaw.ensures.value ∙ c.in-Some.is)

pub rows-preserved : goal.rows-preserved
rows-preserved c =
    let rest = c.rows.rest.now in
    let rows = c.rows.rows in
    let most = c.args.most in
    let long : 2 ≤ length rest = omega (arith, c.if-rest-lt2.false) in
    let open' = sym (ap (λ (n : ℕ). eqb n 0 && ltb 0 rows) c.number-file.ensures.value) ∙ sym c.is_end.ensures ∙ c.if-is_end.false in
    let is = sym (ap (λ (n : ℕ). ltb rows most && eqb n (rows + 2)) c.number-file.ensures.value) ∙ sym c.is_next.ensures ∙ c.if-not-is_next.false in
    let size = c.number-size.ensures.value in
    let path : c.first_items.result.now ≡ first_path rest = c.first_items.ensures ∙ ap (λ (n : ℕ). take n c.items_after.result.now) size ∙ ap (λ (l : List ℕ). take (Rattle.load_meaning.specs.Pathnames.path_size rest) l) c.items_after.ensures in
    let more = ap seen_paths c.in_ok-push.ensures.items ∙ map-append (λ (p : Bor (List ℕ)). p.now) c.rows.paths.items (c.first_items.result ∷ []) in
    so_next most c.args.bytes.now rows c.rows.at rest (seen_paths c.rows.paths.items) _ c.items_after-rest.result.now c.first_items.result.now (seen_paths c.push.new.self.items) c.rows.invariant long open' is
    (sym c.row_flaw.ensures.value ∙ c.in-None.is) c.in-None.ensures.inside (ap (λ (n : ℕ). c.rows.at + (11 + n)) size) (c.items_after-rest.ensures ∙ ap (λ (n : ℕ). drop (11 + n) rest) size) path more
