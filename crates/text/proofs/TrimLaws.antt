-- The laws of texts without their outer blanks.
use mathlib.Core.Path.{◌≡◌, refl, ◌∙◌, ap}
use mathlib.Core.Bool.{Bool, true, false, ◌&&◌}
use mathlib.Core.List.{List, [], ◌∷◌, ◌++◌}
use Prim.Native.Nat.{ℕ, suc, ◌+◌, ◌-◌, ◌<◌, ◌≤◌}
use native.Mathlib.Omega.{arith}
use lib.ListN.{length, get_or, take, drop, length-take, length-drop}
use lib.Seq.{take_all, take-suc, get_or-drop}
use Rattle.laws.specs.Choose.{pick}
use Rattle.laws.specs.Lists.{part, every}
use Rattle.laws.proofs.Parts.{part_length}
use Rattle.text.specs.Class.{is_blank}
use Rattle.text.specs.Runs.{run, past, without, trim_end, trim}
use Rattle.text.proofs.RunLaws.{past_first, past_within}

-- what is left without the blanks at the end is the front of the text
pub trim_end_front : (s : List ℕ) → take (length (trim_end s)) s ≡ trim_end s
unfolding trim_end
trim_end_front [] = refl
trim_end_front (x ∷ xs) = go (every is_blank (x ∷ xs)) (trim_end_front xs)
  where
    go : (b : Bool) → take (length (trim_end xs)) xs ≡ trim_end xs
        → take (length (pick b [] (x ∷ trim_end xs))) (x ∷ xs) ≡ pick b [] (x ∷ trim_end xs)
    go true e = refl
    go false e = ap (λ (l : List ℕ). x ∷ l) e

-- and no longer than it
pub trim_end_length : (s : List ℕ) → length (trim_end s) ≤ length s
trim_end_length s = omega (arith, ap length (trim_end_front s), length-take (length (trim_end s)) s)

-- nor is a text without its outer blanks
pub trim_length : (s : List ℕ) → length (trim s) ≤ length s
unfolding trim without
trim_length s = omega (arith, trim_end_length (drop (run is_blank s) s), length-drop (run is_blank s) s)

-- where the last byte passes a test, it holds at every byte if it does at those before
every_on : (f : ℕ → Bool) (s : List ℕ) (x : ℕ) → f x ≡ true → every f (s ++ (x ∷ [])) ≡ every f s
unfolding every
every_on f [] x e = rw e
every_on f (y ∷ ys) x e = rw (every_on f ys x e)

-- where the last byte fails a test, it does not hold at every byte
every_off : (f : ℕ → Bool) (s : List ℕ) (x : ℕ) → f x ≡ false → every f (s ++ (x ∷ [])) ≡ false
unfolding every
every_off f [] x e = rw e
every_off f (y ∷ ys) x e = rw (every_off f ys x e) (go (f y))
  where
    go : (b : Bool) → (b && false) ≡ false
    go true = refl
    go false = refl

-- a blank at the end goes
trim_end_on : (s : List ℕ) (x : ℕ) → is_blank x ≡ true → trim_end (s ++ (x ∷ [])) ≡ trim_end s
unfolding trim_end
trim_end_on [] x e = rw (every_on is_blank [] x e) (unfold every in refl)
trim_end_on (y ∷ ys) x e = rw (every_on is_blank (y ∷ ys) x e, trim_end_on ys x e)

-- a byte that is no blank holds the end
trim_end_off : (s : List ℕ) (x : ℕ) → is_blank x ≡ false → trim_end (s ++ (x ∷ [])) ≡ s ++ (x ∷ [])
unfolding trim_end
trim_end_off [] x e = rw (every_off is_blank [] x e)
trim_end_off (y ∷ ys) x e = rw (every_off is_blank (y ∷ ys) x e, trim_end_off ys x e)

-- where the text from a to e ends without the blanks at its end
unfoldable pub text_end : List ℕ → ℕ → ℕ → ℕ
text_end s a e = a + length (trim_end (part s a e))

module _ (s : List ℕ) (a : ℕ) where
  -- a text that reaches to the end of the list
  pub end_whole : text_end s a (length s) ≡ a + length (trim_end (drop a s))
  unfolding text_end part
  end_whole = rw (take_all (length s - a) (drop a s) (omega (arith, length-drop a s)))

  -- a text of no bytes
  pub end_none : (e : ℕ) → e ≤ a → text_end s a e ≡ a
  unfolding text_end part trim_end
  end_none e h = let z : e - a ≡ 0 = omega arith in rw z (omega arith)

  module _ (e : ℕ) (more : a < e) (fits : e ≤ length s) where
    -- a text is what it is without its last byte, and that byte
    part_last : part s a e ≡ part s a (e - 1) ++ (get_or s (e - 1) 0 ∷ [])
    unfolding part
    part_last =
        let n : e - a ≡ suc (e - 1 - a) = omega arith in
        let p : a + (e - 1 - a) ≡ e - 1 = omega arith in
        rw (n, take-suc (drop a s) (e - 1 - a) 0 (omega (arith, length-drop a s)), get_or-drop a s (e - 1 - a) 0, p)

    -- a blank at the end is passed over
    pub end_on : is_blank (get_or s (e - 1) 0) ≡ true → text_end s a e ≡ text_end s a (e - 1)
    unfolding text_end
    end_on b = rw (part_last, trim_end_on (part s a (e - 1)) (get_or s (e - 1) 0) b)

    -- a byte that is no blank is the last
    pub end_off : is_blank (get_or s (e - 1) 0) ≡ false → text_end s a e ≡ e
    unfolding text_end
    end_off b =
        let w : trim_end (part s a e) ≡ part s a e = rw part_last (trim_end_off (part s a (e - 1)) (get_or s (e - 1) 0) b) in
        rw w (omega (arith, part_length s a e (omega arith) fits))

-- from behind the blanks in front up to those at the end stands the text without its outer blanks
pub trim_is : (s : List ℕ) (a n : ℕ) → a ≡ past is_blank s 0 → n ≡ length (trim_end (drop a s)) → take n (drop a s) ≡ trim s
unfolding trim without
trim_is s a n w e = rw e (trim_end_front (drop a s) ∙ ap (λ (k : ℕ). trim_end (drop k s)) (w ∙ past_first is_blank s))

-- what a cut at both ends of a text asks
pub ruleset trim_steps = (past_within, trim_end_length, trim_is, length-take, length-drop)

-- what a search for the end of a text asks
pub ruleset end_steps = (end_whole, end_none, end_on, end_off)
