-- The laws of a part of a list, and of a list with a part put in: lengths, and what stands before, in and behind the part.
use mathlib.Core.Path.{◌≡◌, sym, ◌∙◌, ap}
use mathlib.Core.List.{List, [], ◌++◌, append_assoc}
use Prim.Native.Nat.{ℕ, ◌+◌, ◌-◌, ◌<◌, ◌≤◌, min}
use native.Mathlib.Omega.{arith}
use lib.ListN.{length, get_or, take, drop, length-append, length-take, length-drop, get_or-append, drop_of_length-le}
use Rattle.std.proofs.lemmas.List.{take_min}
use lib.Seq.{length-take-le, get_or-take, get_or-drop, get_or-append-add, take_at, drop_at, take_all, take-nil, ext_get_or}
use Rattle.laws.specs.Lists.{part, put_at}

-- a part is as long as its two ends say, or as what is there
pub part_size : (s : List ℕ) (a e : ℕ) → length (part s a e) ≡ min (e - a) (length s - a)
unfolding part
part_size s a e = simp (length-take, length-drop)

-- a part that lies in the list is as long as its two ends say
pub part_length : (s : List ℕ) (a e : ℕ) → a ≤ e → e ≤ length s → length (part s a e) ≡ e - a
part_length s a e h k = omega (arith, part_size s a e)

-- a byte of a part is the list's byte there
pub part_at_lem : (s : List ℕ) (a e k d : ℕ) → a + k < e → get_or (part s a e) k d ≡ get_or s (a + k) d
unfolding part
part_at_lem s a e k d h = let near : k < e - a = omega arith in get_or-take (e - a) (drop a s) k d near ∙ get_or-drop a s k d

-- two lists of one length that agree from a up to e have the same part there
pub part_agrees : (s t : List ℕ) (a e : ℕ) → length s ≡ length t → ((p : ℕ) → a ≤ p → p < e → get_or s p 0 ≡ get_or t p 0)
    → part s a e ≡ part t a e
part_agrees s t a e l f = ext_get_or 0 (part s a e) (part t a e) lengths bytes
  where
    lengths : length (part s a e) ≡ length (part t a e)
    lengths = omega (arith, part_size s a e, part_size t a e)

    bytes : (k : ℕ) → k < length (part s a e) → get_or (part s a e) k 0 ≡ get_or (part t a e) k 0
    bytes k h =
        let near : a + k < e = omega (arith, part_size s a e) in
        part_at_lem s a e k 0 near ∙ f (a + k) (omega arith) near ∙ sym (part_at_lem t a e k 0 near)

-- a part whose bytes are those of another list, as long as it, is that list
pub part_is : (s b : List ℕ) (a : ℕ) → a + length b ≤ length s → ((j : ℕ) → j < length b → get_or s (a + j) 0 ≡ get_or b j 0)
    → part s a (a + length b) ≡ b
part_is s b a h f =
    let size : length (part s a (a + length b)) ≡ length b = part_length s a (a + length b) (omega arith) h ∙ omega arith in
    ext_get_or 0 (part s a (a + length b)) b size (λ j q. part_at_lem s a (a + length b) j 0 (omega arith) ∙ f j (omega arith))

-- past the end of the first of two lists stands what the second has there
pub append_behind : (xs ys : List ℕ) (p d : ℕ) → length xs ≤ p → get_or (xs ++ ys) p d ≡ get_or ys (p - length xs) d
append_behind xs ys p d h =
    let e : p ≡ length xs + (p - length xs) = omega arith in
    ap (λ (n : ℕ). get_or (xs ++ ys) n d) e ∙ get_or-append-add xs ys (p - length xs) d

module _ (s : List ℕ) (i : ℕ) (bs : List ℕ) (fits : i + length bs ≤ length s) where
  -- what is kept in front is as long as the position says
  front : length (take i s) ≡ i
  front = length-take-le i s (omega arith)

  -- and with the part it reaches to the part's end
  upto : length (take i s ++ bs) ≡ i + length bs
  upto = rw (length-append (take i s) bs, front)

  -- the list stays as long as it is
  pub put_length : length (put_at s i bs) ≡ length s
  unfolding put_at
  put_length = simp (length-append, length-take, length-drop) (omega arith)

  -- what stands before the part stays
  pub put_before : (p d : ℕ) → p < i → get_or (put_at s i bs) p d ≡ get_or s p d
  unfolding put_at
  put_before p d h =
      let short : p < length (take i s) = omega (arith, front) in
      let near : p < length (take i s ++ bs) = omega (arith, upto) in
      get_or-append (take i s ++ bs) (drop (i + length bs) s) d p near
      ∙ get_or-append (take i s) bs d p short ∙ get_or-take i s p d h

  -- what stands behind the part stays
  pub put_behind : (p d : ℕ) → i + length bs ≤ p → get_or (put_at s i bs) p d ≡ get_or s p d
  unfolding put_at
  put_behind p d h =
      let far : length (take i s ++ bs) ≤ p = omega (arith, upto) in
      let place : i + length bs + (p - length (take i s ++ bs)) ≡ p = omega (arith, upto) in
      append_behind (take i s ++ bs) (drop (i + length bs) s) p d far
      ∙ get_or-drop (i + length bs) s (p - length (take i s ++ bs)) d ∙ ap (λ (n : ℕ). get_or s n d) place

  -- the part is what was put in
  pub put_part : part (put_at s i bs) i (i + length bs) ≡ bs
  unfolding put_at part
  put_part =
      rw (append_assoc (take i s) bs (drop (i + length bs) s), drop_at (take i s) (bs ++ drop (i + length bs) s) i front)
      (take_at bs (drop (i + length bs) s) (i + length bs - i) (omega arith))

  -- a part that ends before it stays
  pub put_part_before : (a e : ℕ) → e ≤ i → part (put_at s i bs) a e ≡ part s a e
  put_part_before a e h = part_agrees (put_at s i bs) s a e put_length (λ p j k. put_before p 0 (omega arith))

  -- a part that begins behind it stays
  pub put_part_behind : (a e : ℕ) → i + length bs ≤ a → part (put_at s i bs) a e ≡ part s a e
  put_part_behind a e h = part_agrees (put_at s i bs) s a e put_length (λ p j k. put_behind p 0 (omega arith))

-- a part that begins past the end is empty
pub part_past : (s : List ℕ) (a e : ℕ) → length s ≤ a → part s a e ≡ []
unfolding part
part_past s a e h = rw (drop_of_length-le s h) (take-nil (e - a))

-- a part that ends where it begins, or before, is empty
pub part_none : (s : List ℕ) (a e : ℕ) → e ≤ a → part s a e ≡ []
unfolding part
part_none s a e h = let z : e - a ≡ 0 = omega arith in rw z

-- a part that ends past the end is all that is left
pub part_rest : (s : List ℕ) (a e : ℕ) → length s ≤ e → part s a e ≡ take (length s - a) (drop a s)
unfolding part
part_rest s a e h =
    take_all (e - a) (drop a s) (omega (arith, length-drop a s)) ∙ sym (take_all (length s - a) (drop a s) (omega (arith, length-drop a s)))

-- a part that is cut off at the end of the list is the same
pub part_cut : (s : List ℕ) (a e n : ℕ) → n ≡ min e (length s) - a → take n (drop a s) ≡ part s a e
unfolding part
part_cut s a e n h =
    let k : n ≡ min (e - a) (length (drop a s)) = omega (arith, length-drop a s) in
    rw k (take_min (e - a) (drop a s))

-- n bytes from a position on are the first n of all that is left
pub part_front : (s : List ℕ) (a n : ℕ) → part (part s a (length s)) 0 n ≡ part s a (a + n)
unfolding part
part_front s a n =
    let all : take (length s - a) (drop a s) ≡ drop a s = take_all (length s - a) (drop a s) (omega (arith, length-drop a s)) in
    let size : a + n - a ≡ n = omega arith in
    let whole : n - 0 ≡ n = omega arith in
    rw (all, size, whole)
