-- Each turn takes one piece, behind which the next begins; the bytes before it are read, and reading on from there gives what the whole chunk
-- gives. An error leaves what is read behind the piece that was taken last.
use mathlib.Core.Path.{refl, ap, ◌∙◌}
use native.Mathlib.Omega.{arith}
use Rattle.page.proofs.LineLaws.{piece_on_lem}
use Rattle.desk.specs.Reading.{Reading, read_on}
use Rattle.desk.specs.ReadTo.{reading_of}
use Rattle.desk.proofs.ReadToLaws.{piece_taken, chunk_read}
use Rattle.desk.proofs.ErrLaws.{on_err, chunk_front, chunk_stopped, chunk_stops}
use Rattle.desk.proofs.reading.Reader.take_all.Goals as goal

pub loop-at-init : goal.loop-at-init
unfolding read_on
loop-at-init g c = (refl, refl, refl)

pub loop-at-smaller : goal.loop-at-smaller
loop-at-smaller g c = omega (arith, piece_on_lem _ _ c.piece_at-piece.ensures c.loop-at-test.true)

pub loop-at-preserved : goal.loop-at-preserved
loop-at-preserved g c =
    let l = c.loop-at in
    let on = piece_on_lem _ _ c.piece_at-piece.ensures c.loop-at-test.true in
    let after = c.take.ensures.after in (
      piece_taken _ _ _ l.invariant.0 {v = reading_of c.take.new.self c.take.new.desk} c.piece_at-piece.ensures c.part_of-bs.ensures after,
      after ∙ chunk_front _ _ _ l.invariant.1 c.piece_at-piece.ensures c.part_of-bs.ensures (omega (arith, on)),
      c.take.ensures.same_store ∙ l.invariant.2,
    )

pub returns-clause-ok : goal.returns-clause-ok
returns-clause-ok g c = chunk_read _ _ _ c.loop-at.invariant.0 c.loop-at-test.false

pub returns-in_err-take-clause-err : goal.returns-in_err-take-clause-err
returns-in_err-take-clause-err g c =
    let l = c.loop-at in
    let on = piece_on_lem _ _ c.piece_at-piece.ensures c.loop-at-test.true in
    on_err _
    (chunk_stopped _ _ _ l.invariant.1 c.piece_at-piece.ensures c.part_of-bs.ensures (omega (arith, on))
    (c.in_err-take.ensures.err, ap (λ (s : Reading). s.table.store) {x = reading_of c.take.new.self c.take.new.desk} c.take.ensures.after))

pub returns-in_err-take-clause-stops : goal.returns-in_err-take-clause-stops
returns-in_err-take-clause-stops g c =
    let l = c.loop-at in
    let on = piece_on_lem _ _ c.piece_at-piece.ensures c.loop-at-test.true in
    on_err _
    (chunk_stops _ _ _ l.invariant.1 c.piece_at-piece.ensures c.part_of-bs.ensures (omega (arith, on))
    {v = reading_of c.take.new.self c.take.new.desk} c.in_err-take.ensures.err c.take.ensures.after)
