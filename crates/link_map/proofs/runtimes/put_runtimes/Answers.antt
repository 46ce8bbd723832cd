use Rattle.std.proofs.Common.{◌≡◌, ◌++◌, ℕ, List, length, refl, sym, ap, ◌∙◌}
use Rattle.std.proofs.lemmas.Result.{on_ok_weaker}
use Rattle.link_meaning.specs.Member.{setting_in}
use Rattle.link_file.specs.Paths.{paths_of}
use Rattle.link_file.proofs.PathLaws.{no_paths}
use Rattle.link_map.proofs.TextLaws.{both}
use Rattle.link_map.proofs.RuntimeLaws.{runtimes_none, runtimes_some}
use Rattle.link_map.proofs.runtimes.put_runtimes.Goals as goal

pub returns-then-runtimes-eq0 : goal.returns-then-runtimes-eq0
returns-then-runtimes-eq0 c = runtimes_none c.args.number (setting_in c.args.program.now).runtimes c.args.line.now (sym c.runtimes.ensures ∙ c.if-runtimes-eq0.true)

pub returns : goal.returns
returns c =
    let rs = (setting_in c.args.program.now).runtimes in
    let some : length (paths_of c.args.program.now) ≡ 0 → ⊥ = λ none. c.if-runtimes-eq0.false (c.runtimes.ensures ∙ sym (no_paths rs) ∙ none) in
    on_ok_weaker c.put_files.result
    (λ is.
    both c.args.line.now _ _ c.put_load_line.new.line c.put_files.new.line c.in_ok-put_load_line.ensures is
    ∙ ap (λ (l : List ℕ). c.args.line.now ++ l) (runtimes_some c.args.number (paths_of c.args.program.now) c.paths_size.result _ some c.paths_size.ensures refl))
    c.put_files.ensures
