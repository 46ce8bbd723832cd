-- What the linker makes of the list: the object cells of each member, and the cells of each load segment.
use Rattle.std.specs.Prelude.{ℕ, ◌+◌, ◌-◌, List, [], ◌∷◌, ◌++◌, length, map, replicate, filter, Some, None, Result, Ok, Err, ◌==◌, if◌then◌else◌, nat_le}
use Rattle.omf_format.specs.Field.{◌>>=◌}
use Rattle.omf_format.specs.Record.{Record, Const, LongConst, Align, Org, Space, Equate, Formula}
use Rattle.load_meaning.specs.Cells.{Cell, Byte}
use Rattle.link_meaning.specs.declared.fault.LinkCause.{LinkCause}
use Rattle.object_meaning.specs.Sizes.{Located, records_with_offsets}
use Rattle.omf_format.specs.Number.{padding}
use Rattle.link_meaning.specs.Member.{Member, setting_in}
use Rattle.link_meaning.specs.Layout.{in_load, load_names, load_headers, load_of, offset_of}
use Rattle.link_meaning.specs.LinkValues.{EquateAnswer, value_in}
use Rattle.load_meaning.specs.declared.table.Target.{Target}
use Rattle.link_meaning.specs.Fitting.{PatchPlace, load_header, fit_value, fit_cells, targets_after, value_or_cause}
use Rattle.omf_format.specs.Header.{HeaderFields}

-- ---- records in list order

-- a record of the member at a place of the list
pub record Item : Type 0 where
  pub place : ℕ
  pub member : Member
  pub here : Located

abbrev pub items_from : ℕ → List Member → List Item
items_from place [] = []
items_from place (m ∷ members) = map (λ r. record { place = place; member = m; here = r }) (records_with_offsets m.segment) ++ items_from (place + 1) members

unfoldable pub items : List Member → List Item
items list = items_from 1 list

-- ---- the cells of a record

-- the number of the load segment that is the table, after all others
abbrev pub table_number : List Member → ℕ
table_number list = length (load_names list) + 1

-- BANKSIZE of the load segment with this number
abbrev pub bank_of : List HeaderFields → ℕ → ℕ
bank_of headers number = elim (load_header headers number) [ None ↦ 0 | Some f ↦ f.bank_size ]

-- what was made so far: the targets in order of first reference, and the cells of the member at this place
pub record LinkState : Type 0 where
  pub targets : List Target
  pub place : ℕ
  pub cells : List Cell

-- a member begins without cells
abbrev pub cells_before : LinkState → Item → List Cell
cells_before state i = if state.place == i.place then state.cells else []

-- what a record gives: its cells, and the targets after it
abbrev pub Made : Type 0
Made = List Cell × List Target

abbrev pub zeros : ℕ → List Cell
zeros n = replicate n (Byte 0)

-- what a record gives after this state, by its kind: constant bytes, zeros, or what its value becomes; all other records give nothing
abbrev pub made_by : List Member → List EquateAnswer → LinkState → Item → Record → Result Made LinkCause
made_by list table state i (Const bytes) = Ok (map Byte bytes, state.targets)
made_by list table state i (LongConst bytes) = Ok (map Byte bytes, state.targets)
made_by list table state i (Align n) = Ok (zeros (padding n i.here.location), state.targets)
made_by list table state i (Org n) = Ok (zeros n, state.targets)
made_by list table state i (Space n) = Ok (zeros n, state.targets)
made_by list table state i (Equate global name size form private expr) =
    value_or_cause (value_in list table i.place i.member i.here.location expr) >>= λ v. Ok ([], state.targets)
made_by list table state i (Formula code count n expr) =
    value_or_cause (value_in list table i.place i.member i.here.location expr) >>= λ v.
    let own = load_of list i.member in
    let here : PatchPlace = record {
      own = own;
      bank_size = bank_of (load_headers list) own;
      place = offset_of list i.place i.member + i.here.location;
      setting = setting_in list;
    } in
    fit_value (load_headers list) here state.targets (cells_before state i) code count n v >>= λ fit.
    let targets = targets_after state.targets fit in
    Ok (fit_cells (table_number list) count targets fit, targets)
made_by _ _ state _ _ = Ok ([], state.targets)

unfoldable pub made : List Member → List EquateAnswer → LinkState → Item → Result Made LinkCause
made list table state i = made_by list table state i i.here.content

-- ---- after records

abbrev pub state_after_item : LinkState → Item → Result Made LinkCause → LinkState
state_after_item state i (Err cause) = state
state_after_item state i (Ok x) = record { targets = x.1; place = i.place; cells = cells_before state i ++ x.0 }

abbrev pub state_from : List Member → List EquateAnswer → LinkState → List Item → LinkState
state_from list table state [] = state
state_from list table state (i ∷ is) = state_from list table (state_after_item state i (made list table state i)) is

-- what these records, the first ones of the list, made
unfoldable pub state_after : List Member → List EquateAnswer → List Item → LinkState
state_after list table is = state_from list table (record { targets = []; place = 0; cells = [] }) is

-- the distinct targets in order of first reference
unfoldable pub targets : List Member → List EquateAnswer → List Target
targets list table = (state_after list table (items list)).targets

-- ---- members and load segments

-- the cells of a member: those of its records, and RESSPC zeros
unfoldable pub member_cells : List Member → List EquateAnswer → ℕ → Member → List Cell
member_cells list table place m =
    (state_after list table (filter (λ i. nat_le i.place place) (items list))).cells ++ zeros m.segment.fields.res_spc

-- the cells of a load segment so far, with those of the members from this place on at their offsets
abbrev pub cells_from : List Member → List EquateAnswer → List ℕ → List Cell → ℕ → List Member → List Cell
cells_from list table load_name cells place [] = cells
cells_from list table load_name cells place (m ∷ members) = cells_from list table load_name
    (if in_load load_name m
    then cells ++ zeros (offset_of list place m - length cells) ++ member_cells list table place m
    else cells)
    (place + 1) members

-- the linked cells of the load segment with this load name
unfoldable pub linked : List Member → List EquateAnswer → List ℕ → List Cell
linked list table load_name = cells_from list table load_name [] 1 list
