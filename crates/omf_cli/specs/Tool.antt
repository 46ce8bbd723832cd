-- What a run of the tool did, for each status that it ends with.
use Rattle.std.specs.Prelude.{◌≡◌, ◌∷◌, Option, None, Some}
use Rattle.omf_io.specs.Outside.{Outside, IsCalm}
use Rattle.loader_agrees.specs.Agrees.{Loaded}
use Rattle.omf_making.specs.declared.status.Status.{Status}
use Rattle.omf_making.specs.declared.status.Status.TheVariants as status
use Rattle.link_meaning.specs.declared.form.LinkForm.TheVariants.{Program, Runtime}
use Rattle.omf_making.specs.Form.{CommandForm, Asm, Link, Dump, Run, Lib, Stress, Rtl, LinkRt, Listing, Compact}
use Rattle.omf_making.specs.Lines.{usage_line}
use Rattle.omf_making.specs.Printing.{Ends}
use Rattle.omf_making.specs.Making.{MakesRun, CanMake}
use Rattle.omf_commands.specs.Assemble.{AsmMakes}
use Rattle.omf_commands.specs.Dump.{DumpMakes}
use Rattle.omf_cli.specs.Link.{LinkMakes, given_alone, given_with}
use Rattle.omf_commands.specs.Listings.{ListMakes}
use Rattle.omf_commands.specs.Library.{LibMakes}
use Rattle.omf_commands.specs.Script.{ScriptRun, CanRun}
use Rattle.omf_cli.specs.Stress.{HasEnded}
use Rattle.omf_commands.specs.Compact.{CompactMakes}

-- a run over arguments of this form that ends with the status, where arguments of no form have the usage line and nothing else; a loader is
-- handed out by a script and by a workload alone
abbrev pub HasRun : Status → Option CommandForm → Option Loaded → Outside → Type 0
HasRun result None last o =
    Ends (λ wanted text. (wanted ≡ status.Usage) × (text ≡ usage_line) × (o.new_store ≡ o.store)) ⊥ ⊥ result o.sink o.new_sink × (last ≡ None)
HasRun result (Some (Asm source output macros)) last o = MakesRun AsmMakes (Some output) (source ∷ macros) result o × (last ≡ None)
HasRun result (Some (Link output inputs)) last o = MakesRun (λ files. LinkMakes (given_alone Program files)) (Some output) inputs result o × (last ≡ None)
HasRun result (Some (Dump inputs)) last o = MakesRun DumpMakes None inputs result o × (last ≡ None)
HasRun result (Some (Run inputs)) last o = ScriptRun inputs result last o
HasRun result (Some (Lib output inputs)) last o = MakesRun (LibMakes inputs) (Some output) inputs result o × (last ≡ None)
HasRun result (Some (Stress n seed)) last o = HasEnded result n seed last o.sink o.new_sink × (o.new_store ≡ o.store)
HasRun result (Some (Rtl output inputs)) last o = MakesRun (λ files. LinkMakes (given_alone Runtime files)) (Some output) inputs result o × (last ≡ None)
HasRun result (Some (LinkRt output inputs runtimes)) last o = MakesRun (λ files. LinkMakes (given_with runtimes files)) (Some output) inputs result o × (last ≡ None)
HasRun result (Some (Listing output inputs)) last o = MakesRun ListMakes (Some output) inputs result o × (last ≡ None)
HasRun result (Some (Compact output inputs)) last o = MakesRun CompactMakes (Some output) inputs result o × (last ≡ None)

-- the command can be done: the store reveals its inputs, if there are any, they have no fault, and no count rises
abbrev pub CanSucceed : Option CommandForm → Outside → Type 0
CanSucceed None o = ⊥
CanSucceed (Some (Asm source output macros)) o = CanMake AsmMakes (source ∷ macros) o
CanSucceed (Some (Link output inputs)) o = CanMake (λ files. LinkMakes (given_alone Program files)) inputs o
CanSucceed (Some (Dump inputs)) o = CanMake DumpMakes inputs o
CanSucceed (Some (Run inputs)) o = CanRun inputs o
CanSucceed (Some (Lib output inputs)) o = CanMake (LibMakes inputs) inputs o
CanSucceed (Some (Stress n seed)) o = IsCalm o
CanSucceed (Some (Rtl output inputs)) o = CanMake (λ files. LinkMakes (given_alone Runtime files)) inputs o
CanSucceed (Some (LinkRt output inputs runtimes)) o = CanMake (λ files. LinkMakes (given_with runtimes files)) inputs o
CanSucceed (Some (Listing output inputs)) o = CanMake ListMakes inputs o
CanSucceed (Some (Compact output inputs)) o = CanMake CompactMakes inputs o
