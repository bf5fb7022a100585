-- The name of a parameter in std's words: each unit made small, as far as no bare = comes.
use mathlib.Core.Path.{◌≡◌, refl, ap}
use mathlib.Core.Bool.{Bool, true, false, cond}
use mathlib.Core.List.{List, [], ◌∷◌, map}
use Prim.Native.Nat.{ℕ, suc, ◌+◌}
use native.Mathlib.Omega.{arith}
use lib.ListN.{take}
use Rattle.std.specs.List.{prefix_len}
use Rattle.laws.specs.Choose.{pick}
use Rattle.text.specs.Runs.{run, front}
use Rattle.text.specs.Names.{lower, lowered}
use Rattle.uri.specs.Classes.{is_other}
use Rattle.uri.specs.Escapes.{normal, folded}
use Rattle.uri.specs.Alike.{name_of}

lowered_map : (s : List ℕ) → map lower s ≡ lowered s
unfolding lowered
lowered_map [] = refl
lowered_map (x ∷ xs) = ap (◌∷◌ (lower x)) (lowered_map xs)

run_prefix : (f : ℕ → Bool) (s : List ℕ) → prefix_len f s ≡ run f s
unfolding run
run_prefix f [] = refl
run_prefix f (x ∷ xs) = rw (run_prefix f xs) (go (f x) (run f xs))
  where
    go : (b : Bool) (n : ℕ) → cond b (1 + n) 0 ≡ pick b (suc n) 0
    go true n = omega arith
    go false n = refl

pub name_is : (p : List ℕ) → take (prefix_len (is_other 61) (map lower (normal p))) (map lower (normal p)) ≡ name_of (folded p)
unfolding name_of folded front
name_is p = rw (run_prefix, lowered_map)
