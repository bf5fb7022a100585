-- One request at one record and its part of the store: what comes back, the message due, and record and part after it.
-- Rules 7.21, 7.24 of docs/RULES.md.
use Rattle.std.specs.Prelude.{ℕ, List, []}
use Rattle.laws.specs.Choose.{pick}
use Rattle.request.specs.Fields.{has_match, body, body_length}
use Rattle.request.specs.declared.Head.{Head}
use Rattle.success.specs.After.{record_after, part_after}
use Rattle.record.specs.declared.Record.{Record}
use Rattle.success.specs.declared.Success.{Success}
use Rattle.response.specs.Outcomes.{is_silent, is_success}
use Rattle.publish.specs.Refusals.{Case, event_of, granted, presented, outcome_of}
use Rattle.response.specs.Message.{message}

-- the success that a request is at a record, where no refusal applies
unfoldable pub success_for : Record → ℕ → List ℕ → Head → Success
success_for r clock s h =
    record {
      clock = clock;
      event = event_of s h;
      slot = pick (has_match h) (presented r clock s h) 8;
      granted = granted s h;
      length = body_length s h;
    }

unfoldable pub success_of : Case → Success
success_of c = success_for c.own c.clock c.text c.head

-- the message due: none where the outcome is silent
unfoldable pub answer_of : Case → ℕ → List ℕ
answer_of c number = let m = message c.text number (outcome_of c) in pick (is_silent (outcome_of c)) [] m

-- the address's record after the request: a refused call changes nothing
unfoldable pub own_after : Case → Record
own_after c = let r = record_after (success_of c) c.own in pick (is_success (outcome_of c)) r c.own

-- the address's part of the store after the request
unfoldable pub part_afterwards : Case → List ℕ → List ℕ
part_afterwards c bs =
    let after = part_after (success_of c) c.own (body c.text c.head) bs in pick (is_success (outcome_of c)) after bs
