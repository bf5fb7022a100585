-- What `handle` leaves of the desk's records and its whole store is left.
use Rattle.desk.proofs.LeftLaws.{left_handled}
use Rattle.desk.proofs.step.handle_frame.Goals as goal

pub returns-clause-leaves : goal.returns-clause-leaves
returns-clause-leaves c =
    let desk = c.args.desk.now in
    left_handled desk.records desk.store.now _ 1 _ _ _ _ _ _ c.handle-handled.ensures
