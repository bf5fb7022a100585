-- Where a byte is found to stand, the text reaches.
use mathlib.Core.Path.{◌≡◌, sym, ◌∙◌}
use mathlib.Core.Bool.{Bool, true}
use mathlib.Core.List.{List}
use Prim.Native.Nat.{ℕ, ◌<◌}
use lib.Dec.{eqb}
use lib.ListN.{length}
use borrow.Author.Tests.{eqb-true}
use Rattle.laws.specs.Lists.{byte_at}
use Rattle.text.proofs.RunLaws.{byte_within}

pub stood : {r : Bool} (s : List ℕ) (i b : ℕ) → r ≡ eqb (byte_at s i) b → r ≡ true → b < 256 → i < length s
stood s i b e t h = byte_within s i (eqb-true (byte_at s i) b (sym e ∙ t)) h
