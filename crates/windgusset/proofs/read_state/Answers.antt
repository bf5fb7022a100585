-- The state that `state_at` gives, with the record that is found of the address, is the state that reading says of what was lent.
use Rattle.lent.proofs.LookLaws.{front_long}
use Rattle.windgusset.proofs.ContractLaws.{state_as}
use Rattle.windgusset.proofs.read_state.Goals as goal

pub returns : goal.returns
returns c =
    rw (c.state_at.ensures, c.record_or_empty-own.ensures, c.seek-k.ensures, c.looked-ls.ensures)
    (state_as c.args.records.now (λ h. front_long _ _ _ h c.looked-ls.ensures c.looked-ls.type_inv)
    c.args.store.now c.args.address.now c.args.name.now c.args.clock)
