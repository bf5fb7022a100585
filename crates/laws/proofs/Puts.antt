-- The laws of a part put into a list: put in twice, one behind the other, into a part of it, and nothing new.
use mathlib.Core.Path.{◌≡◌, refl, sym, ◌∙◌, ap}
use mathlib.Core.List.{List, [], ◌∷◌, ◌++◌, append_assoc}
use Prim.Native.Nat.{ℕ, zero, suc, ◌+◌, ◌-◌, ◌<◌, ◌≤◌}
use native.Mathlib.Omega.{arith}
use native.Mathlib.Nat.{sub-zero, suc-sub-suc}
use lib.ListN.{length, take, drop, set, replicate, length-append, length-take, length-drop, length-replicate, get_or-replicate, take-append-drop}
use lib.Seq.{length-take-le, take_at, drop_at, take-add, take-take, drop-drop, take-nil, drop-append-le}
use Rattle.laws.specs.Lists.{part, put_at}
use Rattle.laws.specs.Wrote.{Wrote}
use Rattle.laws.proofs.Parts.{part_length, put_length}
use Rattle.laws.proofs.Wrote.{wrote_none, wrote_more, then}

-- nothing put in
pub put_none : (s : List ℕ) (at : ℕ) → at ≤ length s → put_at s at [] ≡ s
put_none s at h = sym (wrote_none s at h).holds

-- what stands there put in
pub put_same : (s : List ℕ) (a e : ℕ) → a ≤ e → e ≤ length s → put_at s a (part s a e) ≡ s
unfolding put_at part
put_same s a e h k =
    let end : a + length (take (e - a) (drop a s)) ≡ e = omega (arith, length-take (e - a) (drop a s), length-drop a s) in
    let whole : a + (e - a) ≡ e = omega arith in
    rw (end, ← take-add a (e - a) s, whole) (take-append-drop e s)

-- one put in behind the other is both put in
pub put_then : (s : List ℕ) (at n : ℕ) (a b : List ℕ) → length a ≡ n → at + n + length b ≤ length s
    → put_at (put_at s at a) (at + n) b ≡ put_at s at (a ++ b)
put_then s at n a b e h = (then first second).holds
  where
    first : Wrote s at a (put_at s at a) (at + n)
    first = record { next = ap (λ (k : ℕ). at + k) (sym e); room = omega arith; holds = refl }

    second : Wrote (put_at s at a) (at + n) b (put_at (put_at s at a) (at + n) b) (at + n + length b)
    second = record { next = refl; room = omega (arith, put_length s at a first.room); holds = refl }

-- one put in where another of the same length was
pub put_again : (s : List ℕ) (at : ℕ) (a b : List ℕ) → length a ≡ length b → at + length a ≤ length s
    → put_at (put_at s at a) at b ≡ put_at s at b
unfolding put_at
put_again s at a b e h =
    rw (
      drop_at (take at s ++ a) (drop (at + length a) s) (at + length b) upto,
      append_assoc (take at s) a (drop (at + length a) s),
      take_at (take at s) (a ++ drop (at + length a) s) at front,
      e,
    )
  where
    front : length (take at s) ≡ at
    front = length-take-le at s (omega arith)

    upto : length (take at s ++ a) ≡ at + length b
    upto = rw (length-append (take at s) a, front, e)

-- a part of which some is put in anew, put back
regroup : (x y z d e : List ℕ) → x ++ (y ++ z ++ d) ++ e ≡ x ++ y ++ z ++ (d ++ e)
regroup x y z d e = simp append_assoc

module _ (s : List ℕ) (a e b : ℕ) (bs : List ℕ) (h : a + b + length bs ≤ e) (k : e ≤ length s) where
  -- what stays before
  before : take a s ++ take b (part s a e) ≡ take (a + b) s
  unfolding part
  before = rw (take-take b (e - a) (drop a s) (omega arith)) (sym (take-add a b s))

  -- what stays behind
  behind : drop (b + length bs) (part s a e) ++ drop e s ≡ drop (a + b + length bs) s
  unfolding part
  behind =
      let near : b + length bs ≤ length (take (e - a) (drop a s)) = omega (arith, length-take (e - a) (drop a s), length-drop a s) in
      let end : a + (e - a) ≡ e = omega arith in
      let far : a + (b + length bs) ≡ a + b + length bs = omega arith in
      ap (λ (n : ℕ). drop (b + length bs) (take (e - a) (drop a s)) ++ drop n s) (sym end)
      ∙ rw (
        ← drop-drop (e - a) a s,
        ← drop-append-le (b + length bs) (take (e - a) (drop a s)) (drop (e - a) (drop a s)) near,
        take-append-drop (e - a) (drop a s),
        drop-drop (b + length bs) a s,
        far,
      )

  -- and it ends where it did
  ends : a + length (put_at (part s a e) b bs) ≡ e
  ends =
      let size : length (part s a e) ≡ e - a = part_length s a e (omega arith) k in
      omega (arith, put_length (part s a e) b bs (omega arith))

  pub put_into : put_at s a (put_at (part s a e) b bs) ≡ put_at s (a + b) bs
  unfolding put_at
  put_into =
      ap (λ (n : ℕ). take a s ++ put_at (part s a e) b bs ++ drop n s) ends
      ∙ regroup (take a s) (take b (part s a e)) bs (drop (b + length bs) (part s a e)) (drop e s) ∙ rw (before, behind)

-- what is left of a part behind its first n
pub part_drop : (s : List ℕ) (a e n : ℕ) → drop n (part s a e) ≡ part s (a + n) e
unfolding part
part_drop s a e n =
    let size : e - a - n ≡ e - (a + n) = omega arith in
    go n (e - a) (drop a s) ∙ rw (drop-drop n a s, size)
  where
    go : (n m : ℕ) (l : List ℕ) → drop n (take m l) ≡ take (m - n) (drop n l)
    go zero m l = rw (sub-zero m)
    go (suc n) zero l = let none : 0 - suc n ≡ 0 = omega arith in rw none
    go (suc n) (suc m) [] = sym (take-nil (suc m - suc n))
    go (suc n) (suc m) (x ∷ xs) = rw (suc-sub-suc m n) (go n m xs)

-- one zero more of n that are being put in
pub zeros_more : {d : List ℕ} {at : ℕ} {d' : List ℕ} (n i : ℕ) → i < n → at + i < length d
    → Wrote d at (take i (replicate n 0)) d' (at + i) → Wrote d at (take (i + 1) (replicate n 0)) (set d' (at + i) 0) (at + (i + 1))
zeros_more n i h k w =
    rw (get_or-replicate {A = ℕ} n i 0 0 h) at (wrote_more (replicate n 0) i (omega (arith, length-replicate {A = ℕ} n 0)) k w)
