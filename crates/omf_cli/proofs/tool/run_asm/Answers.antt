use Rattle.std.proofs.Common.{◌≡◌, ◌⊎◌, ◌∙◌, List, ℕ, Some, ap, subst}
use Rattle.omf_io.specs.Outside.{Outside, outside}
use Rattle.omf_making.specs.Words.{words_of}
use Rattle.omf_making.specs.declared.status.Status.TheVariants.{Done, Memory}
use Rattle.omf_commands.specs.Assemble.{AsmMakes}
use Rattle.omf_making.specs.Making.{MakesRun, CanMake}
use Rattle.omf_cli.proofs.tool.run_asm.Goals as goal

pub returns-in-Ok-clause-run : goal.returns-in-Ok-clause-run
returns-in-Ok-clause-run g c =
    let o : Outside = outside (g.F.Files.seen c.args.files.now) (g.F.Files.seen c.run_maker.new.files) (g.S.Sink.seen c.args.out.now) (g.S.Sink.seen c.run_maker.new.out) in
    subst (λ (inputs : List (List ℕ)). MakesRun AsmMakes (Some c.args.output.now) inputs c.run_maker.result o) (ap words_of c.deref.ensures.value ∙ c.in-Ok.ensures) c.run_maker.ensures.run

pub returns-in-Ok-clause-completes : goal.returns-in-Ok-clause-completes
returns-in-Ok-clause-completes g c =
    let o : Outside = outside (g.F.Files.seen c.args.files.now) (g.F.Files.seen c.run_maker.new.files) (g.S.Sink.seen c.args.out.now) (g.S.Sink.seen c.run_maker.new.out) in
    subst (λ (inputs : List (List ℕ)). CanMake AsmMakes inputs o → (c.run_maker.result ≡ Done) ⊎ (c.run_maker.result ≡ Memory)) (ap words_of c.deref.ensures.value ∙ c.in-Ok.ensures) c.run_maker.ensures.completes
