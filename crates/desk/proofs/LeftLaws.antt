-- The laws of what a frame leaves.
use mathlib.Core.Path.{refl, ap}
use mathlib.Core.List.{List}
use Prim.Native.Nat.{ℕ}
use Rattle.record.specs.declared.Record.{Record}
use Rattle.table.specs.Table.{Table}
use Rattle.table.specs.Handle.{Done}
use Rattle.table.specs.declared.Handled.{Handled}
use Rattle.listing.specs.Frames.{handles, bad}
use Rattle.frames.specs.declared.shown.Shown.TheVariants.{Answered, Bad}
use Rattle.windgusset.specs.Ensured.{HandledAs}
use Rattle.desk.specs.Left.{left_by, LeftAs}

-- nothing changes at a frame that is not so built
pub left_bad : (t : Table) (b : List ℕ) → LeftAs t b bad (record { shown = Bad; length = 0 }) t b
unfolding LeftAs left_by
left_bad t b = refl

-- what is handled is left
pub left_handled : (rs : List Record) (store : List ℕ) (clock number : ℕ) (request answer : List ℕ) (h : Handled) (rs' : List Record)
    (store' answer' : List ℕ) → HandledAs rs store clock number request answer h rs' store' answer'
    → LeftAs (record { records = rs; store = store }) answer (handles (record { clock = clock; number = number; request = request }))
    (record { shown = Answered h.outcome; length = h.length }) (record { records = rs'; store = store' }) answer'
unfolding LeftAs left_by HandledAs
left_handled rs store clock number request answer h rs' store' answer' w =
    ap (λ (d : Done). record { shown = Answered d.handled.outcome; length = d.handled.length; table = d.table; buffer = d.buffer }) w
