-- The laws of a byte at a position and of runs of one kind.
use mathlib.Core.Path.{◌≡◌, refl, ◌∙◌, ap}
use mathlib.Core.Bool.{Bool, true, false, ◌&&◌}
use mathlib.Core.List.{List, [], ◌∷◌}
use Prim.Native.Nat.{ℕ, zero, suc, ◌+◌, ◌<◌, ◌≤◌}
use native.Mathlib.Nat.{zero-add, not-suc-le-zero, le_of_suc-le-suc}
use native.Mathlib.Numerals.{add-one}
use native.Mathlib.Decide.{dec_lt}
use native.Mathlib.Omega.{arith}
use lib.Dec.{eqb, eqb-zero-suc, eqb-suc-suc}
use lib.ListN.{length, get_or, drop, length-take, length-drop, drop_of_length-le, get_or-eq_default}
use lib.Seq.{drop-cons}
use Rattle.laws.specs.Choose.{pick}
use Rattle.laws.specs.Lists.{byte_at, every, empty}
use Rattle.text.specs.Class.{is_token}
use Rattle.text.specs.Runs.{run, past, is_one_token}

-- within the list it does not matter what would stand past its end
pub get_d_any : (s : List ℕ) (i a b : ℕ) → i < length s → get_or s i a ≡ get_or s i b
get_d_any [] i a b h = absurd (not-suc-le-zero h)
get_d_any (x ∷ s) zero a b h = refl
get_d_any (x ∷ s) (suc i) a b h = get_d_any s i a b (le_of_suc-le-suc h)

module _ (s : List ℕ) (i : ℕ) where
  -- within the list the byte is what stands there
  pub byte_there : i < length s → byte_at s i ≡ get_or s i 0
  unfolding byte_at
  byte_there h = get_d_any s i 256 0 h

  -- past its end it is 256
  pub byte_past : length s ≤ i → byte_at s i ≡ 256
  unfolding byte_at
  byte_past h = get_or-eq_default s 256 h

  -- so where a byte below 256 stands, the list reaches
  pub byte_within : {b : ℕ} → byte_at s i ≡ b → b < 256 → i < length s
  byte_within {b} e h = go (dec_lt i (length s))
    where
      go : Dec (i < length s) → i < length s
      go (yes p) = p
      go (no q) = let z : byte_at s i ≡ 256 = byte_past (omega arith) in omega arith

-- a run is no longer than its text
pub run_length : (f : ℕ → Bool) (s : List ℕ) → run f s ≤ length s
unfolding run
run_length f [] = omega arith
run_length f (x ∷ xs) = go (f x) (run_length f xs)
  where
    go : (b : Bool) → run f xs ≤ length xs → pick b (suc (run f xs)) 0 ≤ suc (length xs)
    go true h = omega arith
    go false h = omega arith

-- the run is the whole text exactly if every byte is of the kind
pub run_whole : (f : ℕ → Bool) (s : List ℕ) → eqb (run f s) (length s) ≡ every f s
unfolding run every
run_whole f [] = refl
run_whole f (x ∷ xs) = go (f x) (run_whole f xs)
  where
    go : (b : Bool) → eqb (run f xs) (length xs) ≡ every f xs → eqb (pick b (suc (run f xs)) 0) (suc (length xs)) ≡ (b && every f xs)
    go true h = eqb-suc-suc (run f xs) (length xs) ∙ h
    go false h = eqb-zero-suc (length xs)

module _ (f : ℕ → Bool) (s : List ℕ) (i : ℕ) where
  -- a byte of the kind is one more of what is left
  pub run_on : i < length s → f (get_or s i 0) ≡ true → run f (drop i s) ≡ 1 + run f (drop (i + 1) s)
  unfolding run
  run_on h e = rw (drop-cons s i 0 h, e, add-one) (omega arith)

  -- another ends it
  pub run_off : i < length s → f (get_or s i 0) ≡ false → run f (drop i s) ≡ 0
  unfolding run
  run_off h e = rw (drop-cons s i 0 h, e)

  -- and so does the end of the text
  pub run_end : length s ≤ i → run f (drop i s) ≡ 0
  unfolding run
  run_end h = rw (drop_of_length-le s h)

  -- a byte of the kind carries the run on
  pub past_on : i < length s → f (get_or s i 0) ≡ true → past f s i ≡ past f s (i + 1)
  unfolding past
  past_on h e = omega (arith, run_on h e)

  -- a byte of another kind ends it
  pub past_off : i < length s → f (get_or s i 0) ≡ false → past f s i ≡ i
  unfolding past
  past_off h e = omega (arith, run_off h e)

  -- and so does the end of the text
  pub past_end : length s ≤ i → past f s i ≡ i
  unfolding past
  past_end h = omega (arith, run_end h)

  -- a run ends where it begins or behind that
  pub past_from : i ≤ past f s i
  unfolding past
  past_from = omega arith

  -- and within the text
  pub past_within : i ≤ length s → past f s i ≤ length s
  unfolding past
  past_within h = omega (arith, run_length f (drop i s), length-drop i s)

-- a run at the begin of a text ends at its own length
pub past_first : (f : ℕ → Bool) (s : List ℕ) → past f s 0 ≡ run f s
unfolding past
past_first f s = zero-add (run f s)

-- and within the text
pub first_within : (f : ℕ → Bool) (s : List ℕ) (e : ℕ) → e ≡ past f s 0 → e ≤ length s
first_within f s e ends = omega (arith, past_within f s 0 (omega arith))

-- a text of no length is no token
pub token_none : (s : List ℕ) → length s ≡ 0 → is_one_token s ≡ false
unfolding is_one_token empty
token_none [] h = refl
token_none (x ∷ xs) h = absurd (omega arith)

-- another is one exactly if the run of token bytes reaches its end
pub token_run : (s : List ℕ) (e : ℕ) → (length s ≡ 0 → ⊥) → e ≡ past is_token s 0 → eqb e (length s) ≡ is_one_token s
unfolding is_one_token empty
token_run [] e h w = absurd (h refl)
token_run (x ∷ xs) e h w = ap (λ (n : ℕ). eqb n (length (x ∷ xs))) (w ∙ past_first is_token (x ∷ xs)) ∙ run_whole is_token (x ∷ xs)

-- what a count of the bytes of a kind asks
pub ruleset run_steps = (run_on, run_off, run_end)

-- what a cut behind a run asks
pub ruleset front_steps = (past_within, past_first, length-take)
