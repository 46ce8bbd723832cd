-- What the program `omf_map` does.
use Rattle.std.specs.Prelude.{◌≡◌, ℕ, List, [], ◌∷◌, Option, None, Some, codes}
use Rattle.omf_base.specs.Lines.{line}
use Rattle.omf_io.specs.Outside.{Outside}
use Rattle.link_meaning.specs.declared.fault.LinkFault.{LinkFault}
use Rattle.link_meaning.specs.declared.form.LinkForm.TheVariants.{Program, Runtime}
use Rattle.link_meaning.specs.LinkFaults.{LinkInput}
use Rattle.link_meaning.specs.EmitFaults.{IsFirstLinkFault}
use Rattle.link_map.specs.MapText.{IsMapOf}
use Rattle.omf_making.specs.declared.status.Status.{Status}
use Rattle.omf_making.specs.declared.status.Status.TheVariants as status
use Rattle.omf_making.specs.Form.{CommandForm, Link, Rtl, LinkRt, form_of}
use Rattle.omf_making.specs.Made.{Made, Bytes, Refusal}
use Rattle.omf_making.specs.Making.{MakesRun, CanMake}
use Rattle.omf_making.specs.Printing.{Ends}
use Rattle.omf_cli.specs.Link.{link_fault_line, given_alone, given_with}

-- the map of the linked list of what is given, or the line of its first fault, as the linker prints it
abbrev pub MapMakes : LinkInput → Made → Type 0
MapMakes given (Bytes text) = IsMapOf given text
MapMakes given (Refusal text) = (fault : LinkFault) × IsFirstLinkFault given fault × (text ≡ link_fault_line fault)

abbrev pub map_usage_line : List ℕ
map_usage_line = line (codes "usage: omf_map link FILE.., rtl FILE.. or linkrt K FILE..")

-- the usage line, and nothing else
abbrev pub MapUsageRun : Status → Outside → Type 0
MapUsageRun result o = Ends (λ wanted text. (wanted ≡ status.Usage) × (text ≡ map_usage_line) × (o.new_store ≡ o.store)) ⊥ ⊥ result o.sink o.new_sink

-- the arguments as `omf` takes them: with an output after the command's name
abbrev pub with_output : List (List ℕ) → List (List ℕ)
with_output [] = []
with_output (name ∷ words) = name ∷ codes "map" ∷ words

-- the map of what a link of this form is given is printed; for other forms the usage line is
abbrev pub HasMappedIn : Option CommandForm → Status → Outside → Type 0
HasMappedIn (Some (Link output inputs)) result o = MakesRun (λ files. MapMakes (given_alone Program files)) None inputs result o
HasMappedIn (Some (Rtl output inputs)) result o = MakesRun (λ files. MapMakes (given_alone Runtime files)) None inputs result o
HasMappedIn (Some (LinkRt output inputs runtimes)) result o = MakesRun (λ files. MapMakes (given_with runtimes files)) None inputs result o
HasMappedIn _ result o = MapUsageRun result o

abbrev pub HasMapped : List (List ℕ) → Status → Outside → Type 0
HasMapped words result o = HasMappedIn (form_of (with_output words)) result o

-- the map can be printed: the store reveals the inputs, they have no fault, and no count rises
abbrev pub CanMapIn : Option CommandForm → Outside → Type 0
CanMapIn (Some (Link output inputs)) o = CanMake (λ files. MapMakes (given_alone Program files)) inputs o
CanMapIn (Some (Rtl output inputs)) o = CanMake (λ files. MapMakes (given_alone Runtime files)) inputs o
CanMapIn (Some (LinkRt output inputs runtimes)) o = CanMake (λ files. MapMakes (given_with runtimes files)) inputs o
CanMapIn _ o = ⊥

abbrev pub CanMap : List (List ℕ) → Outside → Type 0
CanMap words o = CanMapIn (form_of (with_output words)) o
