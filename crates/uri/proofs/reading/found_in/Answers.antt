-- The ends are found one behind the other.
use Rattle.uri.proofs.ReadLaws.{ends_are}
use Rattle.uri.proofs.reading.found_in.Goals as goal

pub returns : goal.returns
returns c =
    ends_are _ c.scheme_end-scheme.ensures c.past-user.ensures c.behind_colon-password.ensures c.host_start-start.ensures c.host_at-h.ensures c.behind_colon-port.ensures c.parameters_end.ensures
