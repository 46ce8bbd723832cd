use Rattle.std.proofs.Common.{ℕ, ◌+◌, ◌*◌, ◌≤◌, List, length, sym, ap, subst, ◌∙◌, arith}
use Rattle.std.proofs.lemmas.List.{length-replicate}
use Rattle.omf_cells.specs.Load.{table_targets}
use Rattle.loader_users.proofs.Tables.{Entered, entered_none, entered_more, entered_all, no_target, written_long}
use Rattle.loader_users.proofs.fill.fill_table.Goals as goal

pub entries-init : goal.entries-init
entries-init c = record {
  entered = subst (λ (out : List ℕ). Entered c.args.user (table_targets c.args.load.now) 0 out) (sym c.clear.ensures) (entered_none c.args.user (table_targets c.args.load.now) (length c.args.out.now) c.requires.fits);
  same = ap length c.clear.ensures ∙ length-replicate {A = ℕ} (length c.args.out.now) 0;
}

pub unreachable-requires : goal.unreachable-requires
unreachable-requires c =
    no_target (table_targets c.args.load.now) c.entries.place (omega (arith, c.entries-test.true, c.target_count-place-end.ensures)) (sym c.target.ensures ∙ c.in-None.is)

pub entries-preserved : goal.entries-preserved
entries-preserved c =
    let targets = table_targets c.args.load.now in
    let room : 12 + 14 * length targets ≤ length c.entries.out = omega (arith, c.requires.fits, c.entries.invariant.same) in
    let more = entered_more c.args.user targets c.entries.place c.entries.out c.in-Some.target room (sym c.target.ensures ∙ c.in-Some.is) c.entries.invariant.entered in
    record {
      entered = subst (λ (out : List ℕ). Entered c.args.user targets (c.entries.place + 1) out) (sym c.put_entry.ensures) more;
      same = ap length c.put_entry.ensures ∙ written_long c.args.user targets c.entries.place c.entries.out c.in-Some.target room (omega (arith, c.entries-test.true, c.target_count-place-end.ensures)) ∙ c.entries.invariant.same;
    }

pub returns-clause-front : goal.returns-clause-front
returns-clause-front c =
    entered_all c.args.user (table_targets c.args.load.now) c.entries.place c.entries.out (omega (arith, c.requires.fits, c.entries.invariant.same))
    (omega (arith, c.entries-test.false, c.target_count-place-end.ensures)) c.entries.invariant.entered
