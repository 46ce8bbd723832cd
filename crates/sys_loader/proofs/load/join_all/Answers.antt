use Rattle.std.proofs.Common.{◌≡◌, inl, inr, ℕ, suc, ◌+◌, List, [], ◌∷◌, ◌++◌, map, Option, Some, refl, sym, ap, subst, ◌∙◌, arith}
use Rattle.std.proofs.lemmas.Result.{err_from_is_err_and}
use Rattle.std.proofs.lemmas.List.{map-append}
use Rattle.omf_io.specs.Counts.{one_more, saturating_sum}
use Rattle.omf_io.specs.Files.{FileMap}
use Rattle.load_meaning.specs.Pathnames.{paths_of}
use Rattle.loader_machine.specs.Found.{Joins}
use Rattle.loader_agrees.specs.Agrees.{LoadedUser}
use Rattle.loader_agrees.specs.Acts.{joined_kepts}
use Rattle.loader_users.specs.declared.user.User.{User}
use Rattle.loader_users.specs.View.{kept}
use Rattle.sys_loader.specs.Calls.{AreRowsRead, HasJoined, JoinStops}
use Rattle.loader_users.proofs.Families.{take_past}
use Rattle.sys_loader.proofs.Joined.{AreGood, good_all, stops_rows, good_more, users_more, good_users, good_length}
use Rattle.sys_loader.proofs.load.join_all.Goals as goal

more_reads : (k count now : ℕ) → now ≡ saturating_sum k count → one_more now ≡ saturating_sum (k + 1) count
more_reads k count now is = let e : suc k ≡ k + 1 = omega arith in ap one_more is ∙ ap (λ (n : ℕ). saturating_sum n count) e

pub rows-init : goal.rows-init
rows-init g c = (refl, refl, refl, omega arith, ([], tt, ap (λ (items : List User). map (λ (k : LoadedUser). Some k) (map kept items)) c.new-users.ensures.items))

pub returns-in_err-user-clause-held : goal.returns-in_err-user-clause-held
returns-in_err-user-clause-held g c = c.join.ensures.held ∙ c.rows.invariant.0

pub returns-in_err-user-clause-never_falls : goal.returns-in_err-user-clause-never_falls
returns-in_err-user-clause-never_falls g c = omega (arith, c.join.ensures.never_falls, c.rows.invariant.1)

pub returns-in_err-user-clause-stops : goal.returns-in_err-user-clause-stops
returns-in_err-user-clause-stops g c =
    let p = err_from_is_err_and c.from_residual.result c.from_residual.ensures.1 in
    let before = g.F.Files.seen c.args.files.now in
    let mid = g.F.Files.seen c.rows.files in
    let now = g.F.Files.seen c.join.new.files in
    let inv = c.rows.invariant in
    let held = inv.0 in
    let stops : JoinStops before.held c.path_of.result.now before.faults now.faults c.in_err-user.field-0.0 =
    subst (λ (h : Option FileMap). JoinStops h c.path_of.result.now before.faults now.faults c.in_err-user.field-0.0) held
    (subst (λ (n : ℕ). JoinStops mid.held c.path_of.result.now n now.faults c.in_err-user.field-0.0) inv.1 c.in_err-user.ensures.stops) in
    let count : now.asked ≡ saturating_sum (c.rows.place + 1) before.asked = c.join.ensures.asked ∙ more_reads c.rows.place before.asked mid.asked inv.2 in
    rw (p.1, p.2) (elim (stops_rows before.held c.rows.place (paths_of c.args.load.now) inv.4.0 c.path_of.result.now before.faults now.faults c.in_err-user.field-0.0 inv.4.1 c.path_of.ensures stops) [
      | inl read ↦ inl (c.rows.place + 1, read, count)
      | inr short ↦ inr (short.0, short.1, c.rows.place + 1, omega (arith, c.rows-test.true, c.paths-place-end.ensures), count)
    ])

pub returns-in-Err-clause-held : goal.returns-in-Err-clause-held
returns-in-Err-clause-held g c = c.join.ensures.held ∙ c.rows.invariant.0

pub returns-in-Err-clause-never_falls : goal.returns-in-Err-clause-never_falls
returns-in-Err-clause-never_falls g c = omega (arith, c.join.ensures.never_falls, c.rows.invariant.1)

pub returns-in-Err-clause-stops : goal.returns-in-Err-clause-stops
returns-in-Err-clause-stops g c =
    let before = g.F.Files.seen c.args.files.now in
    let mid = g.F.Files.seen c.rows.files in
    let inv = c.rows.invariant in
    inr (
      refl,
      c.in_ok-user.ensures.joins.1 ∙ inv.1,
      c.rows.place + 1,
      omega (arith, c.rows-test.true, c.paths-place-end.ensures),
      c.join.ensures.asked ∙ more_reads c.rows.place before.asked mid.asked inv.2,
    )

pub rows-preserved : goal.rows-preserved
rows-preserved g c =
    let before = g.F.Files.seen c.args.files.now in
    let mid = g.F.Files.seen c.rows.files in
    let inv = c.rows.invariant in
    let paths = paths_of c.args.load.now in
    let has : HasJoined before.held c.path_of.result.now (kept c.in_ok-user.user) =
    subst (λ (h : Option FileMap). HasJoined h c.path_of.result.now (kept c.in_ok-user.user)) inv.0 c.in_ok-user.ensures.joins.0 in (
      c.join.ensures.held ∙ inv.0,
      c.in_ok-user.ensures.joins.1 ∙ inv.1,
      c.join.ensures.asked ∙ more_reads c.rows.place before.asked mid.asked inv.2,
      omega (arith, c.rows-test.true, c.paths-place-end.ensures),
      (
        inv.4.0 ++ has.1 ∷ [],
        good_more before.held paths inv.4.0 c.rows.place c.path_of.result.now has.1 c.path_of.ensures inv.4.1 (has.0, has.2, has.3, has.4),
        ap (λ (items : List User). map (λ (k : LoadedUser). Some k) (map kept items)) c.in-Ok.ensures.items
            ∙ ap (map (λ (k : LoadedUser). Some k)) (map-append kept c.rows.users.items (c.in_ok-user.user ∷ []))
            ∙ users_more before.held paths inv.4.0 c.rows.place c.path_of.result.now has.1 (map kept c.rows.users.items) (kept c.in_ok-user.user) c.path_of.ensures inv.4.1 has.5 inv.4.2,
      ),
    )

pub returns-clause-held : goal.returns-clause-held
returns-clause-held g c = c.rows.invariant.0

pub returns-clause-never_falls : goal.returns-clause-never_falls
returns-clause-never_falls g c = omega (arith, c.rows.invariant.1)

pub returns-clause-joins : goal.returns-clause-joins
returns-clause-joins g c =
    let before = g.F.Files.seen c.args.files.now in
    let now = g.F.Files.seen c.rows.files in
    let inv = c.rows.invariant in
    let paths = paths_of c.args.load.now in
    let past = take_past paths c.rows.place (omega (arith, c.rows-test.false, c.paths-place-end.ensures)) in
    let good : AreGood before.held paths inv.4.0 = subst (λ (ps : List (List ℕ)). AreGood before.held ps inv.4.0) past inv.4.1 in
    let long = good_length before.held paths inv.4.0 good in (
      inv.4.0,
      subst (λ (n : ℕ). AreRowsRead before.held paths before.faults n (Joins inv.4.0)) (sym inv.1) (good_all before.held paths inv.4.0 before.faults good),
      good_users before.held paths inv.4.0 (map kept c.rows.users.items) good (inv.4.2 ∙ ap (λ (ps : List (List ℕ)). joined_kepts ps inv.4.0) past),
      inv.2 ∙ ap (λ (n : ℕ). saturating_sum n before.asked) (omega (arith, long, c.rows-test.false, c.paths-place-end.ensures, inv.3)),
    )
