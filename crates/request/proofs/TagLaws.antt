-- The laws of a parameter that is named tag.
use mathlib.Core.Path.{◌≡◌, refl, sym, ◌∙◌, ap}
use mathlib.Core.Bool.{Bool, true, false, ◌&&◌, not, false≢true}
use mathlib.Core.List.{List, [], ◌∷◌}
use Prim.Native.Nat.{ℕ, ◌+◌, ◌-◌}
use native.Mathlib.Nat.{add-zero}
use native.Mathlib.Omega.{arith}
use lib.Dec.{eqb}
use lib.ListN.{length, get_or, take, drop}
use lib.Seq.{drop-drop, get_or-drop}
use borrow.Author.Tests.{eq-eqb, ne_eqb, eqb-true, eqb-false, not-true}
use Rattle.laws.specs.Bytes.{bytes}
use Rattle.laws.specs.Lists.{byte_at, part, every, same}
use Rattle.laws.proofs.Tests.{every_head, every_tail}
use Rattle.text.specs.Class.{is_blank}
use Rattle.text.specs.Runs.{run, past, without}
use Rattle.text.specs.Names.{lower, lowered, same_text}
use Rattle.request.specs.declared.Quote.TheVariants.{Outside}
use Rattle.request.specs.To.{shown_in, outside_quotes, is_tag, some_tag}
use Rattle.request.proofs.ToLaws.{stays, shows}

-- the text behind a run that begins at a position is what stands from there on without it
past_without : (f : ℕ → Bool) (s : List ℕ) (i : ℕ) → without f (drop i s) ≡ drop (past f s i) s
unfolding past without
past_without f s i = drop-drop (run f (drop i s)) i s

-- the byte in front of what stands from a position on is the one there
first_there : (s : List ℕ) (i : ℕ) → byte_at (drop i s) 0 ≡ byte_at s i
unfolding byte_at
first_there s i = get_or-drop i s 0 256 ∙ ap (λ (n : ℕ). get_or s n 256) (add-zero i)

-- a parameter is named tag exactly if the three bytes behind its blanks are that name, and an equals sign stands behind the blanks that follow
pub tag_is : (p : List ℕ)
    → is_tag p ≡ (same_text (part p (past is_blank p 0) (past is_blank p 0 + 3)) (bytes "tag")
    && eqb (byte_at p (past is_blank p (past is_blank p 0 + 3))) 61)
unfolding is_tag part
tag_is p =
    let a : ℕ = past is_blank p 0 in
    let n : a + 3 - a ≡ 3 = omega arith in
    let w : without is_blank p ≡ drop a p = past_without is_blank p 0 in
    rw (w, n, drop-drop 3 a p, past_without is_blank p (a + 3), first_there p (past is_blank p (a + 3)))

-- a blank is no quote mark
blank_mark : (x : ℕ) → is_blank x ≡ true → x ≡ 34 → ⊥
unfolding is_blank
blank_mark x e k = false≢true (rw k at e)

-- blanks in front may go before the quotes are taken out, or after
without_shown : (s : List ℕ) → without is_blank (outside_quotes Outside s) ≡ outside_quotes Outside (without is_blank s)
unfolding without run outside_quotes shown_in
without_shown [] = refl
without_shown (x ∷ xs) = go (is_blank x) refl (without_shown xs)
  where
    go : (t : Bool) → is_blank x ≡ t → without is_blank (outside_quotes Outside xs) ≡ outside_quotes Outside (without is_blank xs)
        → without is_blank (outside_quotes Outside (x ∷ xs)) ≡ outside_quotes Outside (without is_blank (x ∷ xs))
    go true e w = rw (e, stays x (blank_mark x e)) w
    go false e w = rw e

-- the byte in front is the same
first_shown : (s : List ℕ) → byte_at (outside_quotes Outside s) 0 ≡ byte_at s 0
unfolding byte_at outside_quotes shown_in
first_shown [] = refl
first_shown (x ∷ xs) = refl

-- the text begins with a name in either case, and an equals sign follows it, blanks aside
named : List ℕ → List ℕ → Bool
named t s = same_text (take (length t) s) t && eqb (byte_at (without is_blank (drop (length t) s)) 0) 61

-- a quote mark in a name without one makes it another name, and before one the texts are the same
named_shown : (t : List ℕ) → every (λ b. not (eqb (lower b) 34)) t ≡ true → (s : List ℕ)
    → named t (outside_quotes Outside s) ≡ named t s
unfolding named same_text lowered same lower outside_quotes shown_in
named_shown [] e s = rw (without_shown s, first_shown (without is_blank s))
named_shown (y ∷ ys) e [] = refl
named_shown (y ∷ ys) e (x ∷ xs) =
    go (eqb (lower x) (lower y)) refl (named_shown ys (every_tail (λ b. not (eqb (lower b) 34)) y ys e) xs)
  where
    other : lower y ≡ 34 → ⊥
    other = eqb-false (lower y) 34 (not-true (eqb (lower y) 34) (every_head (λ b. not (eqb (lower b) 34)) y ys e))

    go : (t : Bool) → eqb (lower x) (lower y) ≡ t → named ys (outside_quotes Outside xs) ≡ named ys xs
        → named (y ∷ ys) (outside_quotes Outside (x ∷ xs)) ≡ named (y ∷ ys) (x ∷ xs)
    go true k w = rw (k, stays x (λ z. other (sym (eqb-true (lower x) (lower y) k) ∙ ap lower z))) w
    go false k w = rw k

-- a text that begins outside quotes is a tag exactly if what is outside quotes is
pub tag_shown : (s : List ℕ) → is_tag (outside_quotes Outside s) ≡ is_tag s
unfolding is_tag named every lower
tag_shown s = rw (without_shown s) (named_shown (bytes "tag") refl (without is_blank s))

-- a text without a byte has no parameter
pub some_none : some_tag [] ≡ false
unfolding some_tag
some_none = refl

module _ (x : ℕ) (xs : List ℕ) where
  -- a byte that opens no parameter is passed over
  pub some_other : (x ≡ 59 → ⊥) → some_tag (x ∷ xs) ≡ some_tag xs
  unfolding some_tag
  some_other n = rw (ne_eqb x 59 n)

  -- one that opens a parameter named tag decides it
  pub some_here : x ≡ 59 → is_tag xs ≡ true → some_tag (x ∷ xs) ≡ true
  unfolding some_tag
  some_here e t = rw (eq-eqb x 59 e, t)

  -- another parameter leaves it to those behind
  pub some_later : x ≡ 59 → is_tag xs ≡ false → some_tag (x ∷ xs) ≡ some_tag xs
  unfolding some_tag
  some_later e t = rw (eq-eqb x 59 e, t)

-- the laws that a walk through the parameters goes by
pub ruleset steps = (shows, tag_shown, some_none, some_other, some_here, some_later)
