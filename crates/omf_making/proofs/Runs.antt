-- How a run ends, from what was done and what was printed.
use Rattle.std.proofs.Common.{◌≡◌, inl, inr, ℕ, List, Option, Result, Ok, Err, IfOk, refl, sym, subst}
use Rattle.omf_base.specs.declared.line.LineFault.{LineFault}
use Rattle.omf_io.specs.Sinks.{SinkSeen, with_text}
use Rattle.omf_io.specs.Outside.{Outside}
use Rattle.omf_making.specs.declared.status.Status.{Status}
use Rattle.omf_making.specs.declared.status.Status.TheVariants as status
use Rattle.omf_making.specs.declared.making.MakeResult.{MakeResult}
use Rattle.omf_making.specs.declared.making.MakeResult.TheVariants as end
use Rattle.omf_making.specs.Lines.{cannot_read_line}
use Rattle.omf_making.specs.Steps.{cannot_write_line}
use Rattle.omf_making.specs.Made.{Made}
use Rattle.omf_making.specs.Printing.{Ends, IsPut, Whole, Part, Nothing, IsPrinted}
use Rattle.omf_making.specs.Making.{MakesRun, Says, Writes, IsShort, HasCome, HasSaid}

-- a line for which memory was missing is a text of which nothing was printed
pub put_line : (line : Result (List ℕ) LineFault) (text : List ℕ) (wanted result : Status) (before now : SinkSeen) → IfOk line (λ t. t ≡ text)
    → IsPrinted line wanted result before now → IsPut text wanted result before now
put_line (Ok t) text wanted result before now is printed = subst (λ (u : List ℕ). IsPut u wanted result before now) is printed
put_line (Err fault) text wanted result before now is printed = Nothing printed.0 printed.1

-- whatever became of the text, the status that is returned says so
pub ends : (says : Status → List ℕ → Type 0) (done short : Type 0) (wanted result : Status) (text : List ℕ) (before now : SinkSeen) → says wanted text
    → (now ≡ with_text text before → Ends says done short wanted before now) → IsPut text wanted result before now → Ends says done short result before now
ends says done short wanted result text before now is whole (Whole result_is now_is) = subst (λ (s : Status). Ends says done short s before now) (sym result_is) (whole now_is)
ends says done short wanted result text before now is whole (Part result_is fails) = subst (λ (s : Status). Ends says done short s before now) (sym result_is) (wanted, text, is, fails)
ends says done short wanted result text before now is whole (Nothing result_is now_is) = subst (λ (s : Status). Ends says done short s before now) (sym result_is) (inr (wanted, text, is), now_is)

-- a run of a maker
pub makes_run : (makes : List (List ℕ) → Made → Type 0) (output : Option (List ℕ)) (inputs : List (List ℕ)) (came : MakeResult) (result : Status) (o : Outside)
    → HasCome makes output inputs came o.store o.new_store → HasSaid came result o.sink o.new_sink → MakesRun makes output inputs result o
makes_run makes output inputs came result o = by_end came
  where
    says : Status → List ℕ → Type 0
    says wanted text = Says wanted makes output inputs o.store o.new_store text

    done : Type 0
    done = Writes makes output inputs o.store o.new_store

    short : Type 0
    short = IsShort inputs o.store o.new_store

    by_end : (came : MakeResult) → HasCome makes output inputs came o.store o.new_store → HasSaid came result o.sink o.new_sink → MakesRun makes output inputs result o
    by_end end.Written come said = subst (λ (s : Status). MakesRun makes output inputs s o) (sym said.0) (inl (come, said.1))
    by_end (end.Text text) come said = ends says done short status.Done result text.items o.sink o.new_sink come (λ now. inr (text.items, come, now)) said
    by_end (end.Refused text) come said = ends says done short status.Refused result text o.sink o.new_sink come (λ now. (text, come, now)) said
    by_end (end.Unread path) come said =
        ends says done short status.CannotRead result (cannot_read_line path.now) o.sink o.new_sink (path.now, come, refl) (λ now. (cannot_read_line path.now, (path.now, come, refl), now)) said
    by_end (end.Unwritten path) come said =
        ends says done short status.CannotWrite result (cannot_write_line path.now) o.sink o.new_sink come (λ now. (cannot_write_line path.now, come, now)) said
    by_end end.Memory come said = subst (λ (s : Status). MakesRun makes output inputs s o) (sym said.0) (inl come, said.1)
