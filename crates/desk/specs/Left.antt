-- What a frame leaves on the desk.
-- Rules 11.2 to 11.4 of docs/RULES.md.
use Rattle.std.specs.Prelude.{◌≡◌, List, ℕ}
use Rattle.table.specs.Table.{Table}
use Rattle.table.specs.Add.{added}
use Rattle.table.specs.Handle.{done}
use Rattle.listing.specs.Frames.{Frame, adds, handles, bad}
use Rattle.frames.specs.declared.shown.Shown.{Shown}
use Rattle.frames.specs.declared.shown.Shown.TheVariants.{Added, Answered, Bad}
use Rattle.desk.specs.declared.step.Step.{Step}

-- what is shown of it, the message's length, the table, and the answer buffer
pub record Left : Type 0 where
  pub shown : Shown
  pub length : ℕ
  pub table : Table
  pub buffer : List ℕ

-- what a frame leaves of a table and an answer buffer
unfoldable pub left_by : Table → List ℕ → Frame → Left
left_by t buffer (adds e) =
    let a = added e t in record { shown = Added a.result; length = 0; table = a.table; buffer = buffer }
left_by t buffer (handles x) =
    let d = done t buffer x in
    record { shown = Answered d.handled.outcome; length = d.handled.length; table = d.table; buffer = d.buffer }
left_by t buffer bad = record { shown = Bad; length = 0; table = t; buffer = buffer }

-- a step leaves what the frame leaves
unfoldable pub LeftAs : (t : Table) (buffer : List ℕ) (f : Frame) (r : Step) (t' : Table) (buffer' : List ℕ) → Type 0
LeftAs t buffer f r t' buffer' =
    ◌≡◌ {A = Left} (record { shown = r.shown; length = r.length; table = t'; buffer = buffer' }) (left_by t buffer f)
