-- The laws of the text outside quotes: at each place of a walk through it, and at the first of some byte.
use mathlib.Core.Path.{◌≡◌, refl, sym, ◌∙◌, ap}
use mathlib.Core.Bool.{Bool, true, false}
use mathlib.Core.List.{List, [], ◌∷◌}
use Prim.Native.Nat.{ℕ, suc, ◌+◌, ◌<◌, ◌≤◌}
use native.Mathlib.Numerals.{add-one}
use native.Mathlib.Omega.{arith}
use lib.Dec.{eqb, ltb, leb-suc-suc}
use lib.ListN.{length, get_or, drop, drop_of_length-le}
use lib.Seq.{drop-cons}
use borrow.Author.Tests.{eq-eqb, ne_eqb, eqb-true, lt-ltb}
use Rattle.std.proofs.lemmas.List.{take_rest}
use Rattle.laws.specs.Choose.{pick}
use Rattle.laws.specs.Lists.{place_of}
use Rattle.request.specs.declared.Quote.{Quote}
use Rattle.request.specs.declared.Quote.TheVariants.{Outside, Inside, Covered}
use Rattle.request.specs.To.{next_quote, is_outside, shown_in, outside_quotes, quotes_close, has, behind_first}

-- a byte outside quotes that is no quote mark opens none
pub stays : (x : ℕ) → (x ≡ 34 → ⊥) → next_quote Outside x ≡ Outside
unfolding next_quote
stays x h = rw (ne_eqb x 34 h)

-- a byte that counts as another than a quote mark stands outside quotes, and so does the next one
pub leaves : (q : Quote) (x : ℕ) → (shown_in q x ≡ 34 → ⊥) → next_quote q x ≡ Outside
unfolding shown_in
leaves Outside x h = stays x h
leaves Inside x h = absurd (h refl)
leaves Covered x h = absurd (h refl)

-- the text outside quotes is as long as the text
shown_length : (q : Quote) (s : List ℕ) → length (outside_quotes q s) ≡ length s
unfolding outside_quotes
shown_length q [] = refl
shown_length q (x ∷ xs) = ap suc (shown_length (next_quote q x) xs)

-- a byte is there exactly if its place is before the end
pub shown_has : (b : ℕ) (q : Quote) (s : List ℕ) → has b (outside_quotes q s) ≡ ltb (place_of (eqb b) (outside_quotes q s)) (length s)
unfolding has
shown_has b q s = rw (shown_length q s)

-- behind the first byte that is looked for, one other than the quote mark, stands what is outside quotes in the text behind it
pub behind : (b : ℕ) → (b ≡ 34 → ⊥) → (q : Quote) (s : List ℕ)
    → behind_first b (outside_quotes q s) ≡ outside_quotes Outside (drop (place_of (eqb b) (outside_quotes q s) + 1) s)
unfolding behind_first place_of outside_quotes
behind b n q [] = refl
behind b n q (x ∷ xs) = go (eqb b (shown_in q x)) refl (behind b n (next_quote q x) xs)
  where
    rest : List ℕ
    rest = outside_quotes (next_quote q x) xs

    k : ℕ
    k = place_of (eqb b) rest

    go : (t : Bool) → eqb b (shown_in q x) ≡ t → drop (k + 1) rest ≡ outside_quotes Outside (drop (k + 1) xs)
        → drop (pick t 0 (suc k) + 1) (shown_in q x ∷ rest) ≡ outside_quotes Outside (drop (pick t 0 (suc k) + 1) (x ∷ xs))
    go true e w = ap (λ (p : Quote). outside_quotes p xs) (leaves q x (λ i. n (eqb-true b (shown_in q x) e ∙ i)))
    go false e w = rw add-one (rw add-one at w)

module _ (q : Quote) (s : List ℕ) (i : ℕ) where
  -- at the end of the text the state says whether the quotes close
  pub closes_end : length s ≤ i → quotes_close q (drop i s) ≡ is_outside q
  unfolding quotes_close
  closes_end h = rw (drop_of_length-le s h)

  -- before it that is left to the bytes behind this one
  pub closes_on : i < length s → quotes_close q (drop i s) ≡ quotes_close (next_quote q (get_or s i 0)) (drop (i + 1) s)
  unfolding quotes_close
  closes_on h = rw (drop-cons s i 0 h, add-one)

  -- nor does anything stand outside quotes there
  pub shown_end : length s ≤ i → outside_quotes q (drop i s) ≡ []
  unfolding outside_quotes
  shown_end h = rw (drop_of_length-le s h)

  -- before it the text outside quotes is this byte as it counts, and what follows it
  pub shown_on : i < length s
      → outside_quotes q (drop i s) ≡ shown_in q (get_or s i 0) ∷ outside_quotes (next_quote q (get_or s i 0)) (drop (i + 1) s)
  unfolding outside_quotes
  shown_on h = rw (drop-cons s i 0 h, add-one)

module _ (b : ℕ) where
  -- no byte stands in an empty text
  pub has_none : has b [] ≡ false
  unfolding has place_of
  has_none = refl

  module _ (x : ℕ) (xs : List ℕ) where
    -- the byte in front is the first
    pub has_here : x ≡ b → has b (x ∷ xs) ≡ true
    unfolding has place_of
    has_here e = rw (eq-eqb b x (sym e)) (lt-ltb 0 (length (x ∷ xs)) (omega arith))

    pub behind_here : x ≡ b → behind_first b (x ∷ xs) ≡ xs
    unfolding behind_first place_of
    behind_here e = rw (eq-eqb b x (sym e))

    -- another leaves it to those behind
    pub has_other : (x ≡ b → ⊥) → has b (x ∷ xs) ≡ has b xs
    unfolding has place_of
    has_other n = rw (ne_eqb b x (λ e. n (sym e))) (leb-suc-suc (suc (place_of (eqb b) xs)) (length xs))

    pub behind_other : (x ≡ b → ⊥) → behind_first b (x ∷ xs) ≡ behind_first b xs
    unfolding behind_first place_of
    behind_other n = rw (ne_eqb b x (λ e. n (sym e)), add-one (suc (place_of (eqb b) xs)), add-one (place_of (eqb b) xs))

-- the laws that a walk through a text goes by: whether its quotes close, what it shows, and what stands behind a byte
pub ruleset closes = (closes_on, closes_end)

pub ruleset shows = (shown_on, shown_end, leaves, take_rest)

pub ruleset walk = (shows, has_none, has_here, has_other, behind_here, behind_other)
