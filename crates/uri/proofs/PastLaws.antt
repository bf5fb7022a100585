-- Runs of bytes as parts of a text, and runs of two kinds of which one is wider.
use mathlib.Core.Path.{◌≡◌, refl, sym, ◌∙◌, ap}
use mathlib.Core.Bool.{Bool, true, false}
use mathlib.Core.List.{List, [], ◌∷◌}
use Prim.Native.Nat.{ℕ, suc, ◌+◌, ◌-◌, ◌<◌}
use native.Mathlib.Nat.{zero-add}
use native.Mathlib.Decide.{dec_lt}
use native.Mathlib.Omega.{arith}
use lib.ListN.{length, get_or, take, drop}
use lib.Seq.{drop-drop, get_or-drop}
use Rattle.laws.specs.Choose.{pick}
use Rattle.laws.specs.Lists.{byte_at, part, every}
use Rattle.text.specs.Runs.{run, past, front}
use Rattle.text.proofs.RunLaws.{byte_there, past_off, past_end}

module _ (f : ℕ → Bool) where
  -- what stands up to where a run ends is the run
  pub part_run : (s : List ℕ) (i e : ℕ) → e ≡ past f s i → part s i e ≡ front f (drop i s)
  unfolding past part front
  part_run s i e p = let n : e - i ≡ run f (drop i s) = omega (arith, p) in rw n

  -- each byte of a run is of its kind
  pub every_front : (t : List ℕ) → every f (front f t) ≡ true
  unfolding front run every
  every_front [] = refl
  every_front (x ∷ xs) = go (f x) refl (every_front xs)
    where
      go : (b : Bool) → f x ≡ b → every f (take (run f xs) xs) ≡ true → every f (take (pick b (suc (run f xs)) 0) (x ∷ xs)) ≡ true
      go true e r = rw e r
      go false e r = refl

  -- no byte of the kind stands behind it
  run_stop : f 256 ≡ false → (t : List ℕ) → f (get_or t (run f t) 256) ≡ false
  unfolding run
  run_stop z [] = z
  run_stop z (x ∷ xs) = go (f x) refl (run_stop z xs)
    where
      go : (b : Bool) → f x ≡ b → f (get_or xs (run f xs) 256) ≡ false → f (get_or (x ∷ xs) (pick b (suc (run f xs)) 0) 256) ≡ false
      go true e r = r
      go false e r = e

  -- from a position on
  pub past_stop : f 256 ≡ false → (s : List ℕ) (i : ℕ) → f (byte_at s (past f s i)) ≡ false
  unfolding past byte_at
  past_stop z s i = ap f (sym (get_or-drop i s (run f (drop i s)) 256)) ∙ run_stop z (drop i s)

  -- where another byte stands, or none, the run has no byte
  pub past_none : (s : List ℕ) (i : ℕ) → f (byte_at s i) ≡ false → past f s i ≡ i
  past_none s i e = go (dec_lt i (length s))
    where
      go : Dec (i < length s) → past f s i ≡ i
      go (yes h) = past_off f s i h (ap f (sym (byte_there s i h)) ∙ e)
      go (no q) = past_end f s i (omega arith)

-- a run of one kind, and a run of a wider one that begins with it
module _ (f g : ℕ → Bool) (wider : (x : ℕ) → f x ≡ true → g x ≡ true) where
  -- the first run, and what the second has behind it
  run_in : (t : List ℕ) → run g t ≡ run f t + run g (drop (run f t) t)
  unfolding run
  run_in [] = refl
  run_in (x ∷ xs) = go (f x) refl (run_in xs)
    where
      go : (b : Bool) → f x ≡ b → run g xs ≡ run f xs + run g (drop (run f xs) xs)
          → pick (g x) (suc (run g xs)) 0 ≡ pick b (suc (run f xs)) 0 + run g (drop (pick b (suc (run f xs)) 0) (x ∷ xs))
      go true e r = rw (wider x e) (omega arith)
      go false e r = sym (zero-add _)

  -- so it ends where a run ends that begins behind it
  pub past_in : (s : List ℕ) (i : ℕ) → past g s i ≡ past g s (past f s i)
  unfolding past
  past_in s i = omega (arith, run_in (drop i s), ap (run g) (drop-drop (run f (drop i s)) i s))
