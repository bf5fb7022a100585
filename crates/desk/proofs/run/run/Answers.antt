-- There are bytes of which what is held is what reading them gives: none at first, and with each turn the chunk that was read behind those before
-- it. Where it is known what the input has, they are what was read of it.
use mathlib.Core.List.{[]}
use borrow.Author.Rules.{rules}
use Rattle.std.proofs.KnownBytes.{Consumes-nil, Consumes-trans, Consumes-kept}
use Rattle.desk.specs.Reading.{read_on}
use Rattle.desk.specs.ReadTo.{reading_of}
use Rattle.desk.proofs.ReadToLaws.{chunk_behind, chunk_given}
use Rattle.desk.proofs.run.run.Goals as goal
use Rattle.desk.proofs.run.run.Goals.{in-Ok+in_ok-take_all-in-Ok, in-Err}

pub loop-init : goal.loop-init
unfolding read_on
loop-init g c = ([], c.opened-reader.ensures c.opened-desk.result (c.opened-desk.ensures.opens (search rules)), Consumes-nil _)

pub loop-preserved : goal.loop-preserved
loop-preserved g c =
    let r = c.loop.invariant in
    elim c.match-read.branch [
      | in-Ok+in_ok-take_all-in-Ok w ↦
          rw (w.reader-is, w.desk-is) (
            _,
            chunk_behind _ r.0 _ {v = reading_of w.take_all.new.self w.take_all.new.desk} r.1 w.in_ok-take_all-in-Ok.ensures.ok,
            Consumes-trans _ _ _ r.0 _ r.2 (chunk_given _ _ _ _ w.part_of.ensures w.in-Ok.ensures.bytes.0),
          )
      | in-Err w ↦ rw (w.reader-is, w.desk-is) (r.0, r.1, Consumes-kept _ _ _ r.0 r.2 w.in-Err.ensures.bytes)
    ]
