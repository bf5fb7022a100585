-- Every message fits an answer buffer of 4,608 bytes: one goes out only where the request is readable and has at most 4,096 bytes.
use mathlib.Core.Path.{◌≡◌, refl}
use mathlib.Core.Bool.{Bool, true, false}
use mathlib.Core.List.{List, []}
use Prim.Native.Nat.{ℕ, ◌≤◌}
use native.Mathlib.Omega.{arith}
use lib.ListN.{length}
use Rattle.laws.specs.Choose.{pick}
use Rattle.response.specs.Outcomes.{is_silent}
use Rattle.publish.specs.Refusals.{outcome_of}
use Rattle.response.specs.Message.{message}
use Rattle.publish.specs.Step.{answer_of}
use Rattle.response.proofs.FitsLaws.{message_fits}
use Rattle.table.specs.Table.{Table}
use Rattle.table.specs.Handle.{Input, case_of, done_with, done}
use Rattle.table.proofs.CoreLaws.{due}

-- every message of `handle` is at most 4,608 bytes
pub handle_fits : (t : Table) (buffer : List ℕ) (x : Input) → (done t buffer x).handled.length ≤ 4608
unfolding done done_with answer_of case_of
handle_fits t buffer x = go (is_silent (outcome_of (case_of t buffer x))) refl
  where
    go : (b : Bool) → is_silent (outcome_of (case_of t buffer x)) ≡ b
        → length (pick b [] (message x.request x.number (outcome_of (case_of t buffer x)))) ≤ 4608
    go true e = omega arith
    go false e =
        let d = due (case_of t buffer x) e in
        message_fits x.request x.number (outcome_of (case_of t buffer x)) d.1 d.2
