-- What a request asks of a record at a clock, as it is worked out once.
-- Rules 7.22, 7.23 of docs/RULES.md.
use Rattle.std.specs.Prelude.{ℕ, List}
use Rattle.laws.specs.Choose.{pick}
use Rattle.request.specs.Names.{To}
use Rattle.request.specs.To.{to_value}
use Rattle.request.specs.Head.{value_named}
use Rattle.request.specs.Fields.{has_match, body_length}
use Rattle.request.specs.declared.Head.{Head}
use Rattle.record.specs.declared.Record.{Record}
use Rattle.publish.specs.Refusals.{event_of, requested, granted, presented}
use Rattle.publish.specs.declared.Asked.{Asked}

-- each of its fields is what its definition says
unfoldable pub asked_of : Record → ℕ → List ℕ → Head → Asked
asked_of r clock s h =
    record {
      event = event_of s h;
      requested = requested s h;
      granted = granted s h;
      slot = pick (has_match h) (presented r clock s h) 8;
      length = body_length s h;
      to = to_value (value_named To s h);
    }
