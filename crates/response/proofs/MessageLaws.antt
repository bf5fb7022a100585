-- The laws of writing a message: a write behind a write is one write of both, and what a write at the begin of a buffer leaves.
use mathlib.Core.Path.{◌≡◌, refl}
use mathlib.Core.List.{List, ◌++◌, append_assoc}
use Prim.Native.Nat.{ℕ, ◌+◌, ◌≤◌}
use native.Mathlib.Nat.{zero-add}
use native.Mathlib.Omega.{arith}
use lib.ListN.{length, drop, length-append}
use Rattle.laws.specs.Lists.{put_at}
use Rattle.laws.specs.Wrote.{Wrote}
use Rattle.laws.proofs.Parts.{put_length}
use Rattle.laws.proofs.Wrote.{then}

-- bytes put in behind others are put in with them
pub put_joined : (d : List ℕ) (i p : ℕ) (a b : List ℕ) → p ≡ i + length a → i + length a + length b ≤ length d
    → put_at (put_at d i a) p b ≡ put_at d i (a ++ b)
put_joined d i p a b e h =
    let u : Wrote d i a (put_at d i a) p = record { next = e; room = omega arith; holds = refl } in
    let v : Wrote (put_at d i a) p b (put_at (put_at d i a) p b) (p + length b) =
    record { next = refl; room = omega (arith, put_length d i a (omega arith)); holds = refl } in
    (then u v).holds

-- so `grind` joins writes in a row
pub ruleset in_a_row = (put_joined, append_assoc, length-append)

-- what is put in at the begin of a list, and behind it what stood there
pub put_front : (d bs : List ℕ) → put_at d 0 bs ≡ bs ++ drop (length bs) d
unfolding put_at
put_front d bs = rw (zero-add (length bs))
