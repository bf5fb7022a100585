-- What writing into a buffer leaves there.
use Rattle.std.specs.Prelude.{◌≡◌, List, ℕ, ◌+◌, ◌≤◌, length}
use Rattle.laws.specs.Lists.{put_at}

-- a function that writes bs into d at a position leaves d' and gives the position past them
pub record Wrote (d : List ℕ) (at : ℕ) (bs : List ℕ) (d' : List ℕ) (r : ℕ) : Type 0 where
  pub next : r ≡ at + length bs
  pub room : at + length bs ≤ length d
  pub holds : d' ≡ put_at d at bs
