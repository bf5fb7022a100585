-- The laws of reading: in any chunks the same; bytes without LF are held, and LF behind them runs the line.
use mathlib.Core.Path.{◌≡◌, refl, sym, ◌∙◌, ap}
use mathlib.Core.Bool.{Bool, true, false, not}
use mathlib.Core.List.{List, [], ◌∷◌, ◌++◌, append_assoc, append-nil}
use Prim.Native.Nat.{ℕ, zero, suc, ◌+◌, ◌-◌, ◌<◌}
use native.Mathlib.Nat.{sub-zero, not-suc-le-zero, le_of_suc-le-suc}
use native.Mathlib.Numerals.{add-one}
use native.Mathlib.Omega.{arith}
use lib.Dec.{eqb, ltb}
use lib.ListN.{length, get_or, take, drop, length-append, length-drop}
use lib.Seq.{take-nil, take-add, drop-cons, drop-drop, get_or-drop}
use borrow.Author.Tests.{eqb-true, ltb-true, lt-ltb, le-ltb}
use Rattle.laws.specs.Choose.{pick}
use Rattle.laws.specs.Lists.{part}
use Rattle.text.specs.Class.{is_other}
use Rattle.text.specs.Runs.{run, past}
use Rattle.page.specs.Lines.{piece_at}
use Rattle.page.specs.declared.lines.Piece.{Piece}
use Rattle.desk.specs.Reading.{Reading, hold_on, line_on, byte_on, read_on}
use Rattle.desk.specs.ReadTo.{piece_on}

-- the bytes of two chunks, one behind the other, are read as one
pub read_append : (s : Reading) (a b : List ℕ) → read_on s (a ++ b) ≡ read_on (read_on s a) b
unfolding read_on
read_append s [] b = refl
read_append s (x ∷ a) b = read_append (byte_on s x) a b

-- what there is room for of two texts
pub room_append : (n : ℕ) (a b : List ℕ) → take n a ++ take (n - length (take n a)) b ≡ take n (a ++ b)
room_append zero a b = refl
room_append (suc n) [] b = rw (sub-zero (suc n))
room_append (suc n) (x ∷ a) b =
    let k : suc n - suc (length (take n a)) ≡ n - length (take n a) = omega arith in
    rw k (ap (λ (l : List ℕ). x ∷ l) (room_append n a b))

module _ (s : Reading) where
  -- no byte more
  pub hold_none : hold_on s [] ≡ s
  unfolding hold_on
  hold_none = rw (take-nil {A = ℕ} (8211 - length s.held), append-nil s.held)

  -- bytes held behind others
  pub hold_more : (a b : List ℕ) → hold_on (hold_on s a) b ≡ hold_on s (a ++ b)
  unfolding hold_on
  hold_more a b =
      let n = 8211 - length s.held in
      let k : 8211 - length (s.held ++ take n a) ≡ n - length (take n a) = omega (arith, length-append s.held (take n a)) in
      rw (k, append_assoc s.held (take n a) (take (n - length (take n a)) b), room_append n a b)

-- bytes up to LF are held
run_held : (s : Reading) (bs : List ℕ)
    → read_on s bs ≡ read_on (hold_on s (take (run (is_other 10) bs) bs)) (drop (run (is_other 10) bs) bs)
unfolding run read_on byte_on
run_held s [] = sym (hold_none s)
run_held s (b ∷ bs) = go (eqb b 10) refl (run_held (hold_on s (b ∷ [])) bs)
  where
    k : ℕ
    k = run (is_other 10) bs

    go : (t : Bool) → eqb b 10 ≡ t → read_on (hold_on s (b ∷ [])) bs ≡ read_on (hold_on (hold_on s (b ∷ [])) (take k bs)) (drop k bs)
        → read_on s (b ∷ bs) ≡ read_on (hold_on s (take (pick (not t) (suc k) 0) (b ∷ bs))) (drop (pick (not t) (suc k) 0) (b ∷ bs))
    go true e r = rw (hold_none s)
    go false e r = rw e (r ∙ ap (λ (x : Reading). read_on x (drop k bs)) (hold_more s (b ∷ []) (take k bs)))

-- read alone too
run_front : (s : Reading) (bs : List ℕ) → read_on s (take (run (is_other 10) bs) bs) ≡ hold_on s (take (run (is_other 10) bs) bs)
unfolding run read_on byte_on
run_front s [] = sym (hold_none s)
run_front s (b ∷ bs) = go (eqb b 10) refl (run_front (hold_on s (b ∷ [])) bs)
  where
    k : ℕ
    k = run (is_other 10) bs

    held : eqb b 10 ≡ false → byte_on s b ≡ hold_on s (b ∷ [])
    held e = rw e refl

    go : (t : Bool) → eqb b 10 ≡ t → read_on (hold_on s (b ∷ [])) (take k bs) ≡ hold_on (hold_on s (b ∷ [])) (take k bs)
        → read_on s (take (pick (not t) (suc k) 0) (b ∷ bs)) ≡ hold_on s (take (pick (not t) (suc k) 0) (b ∷ bs))
    go true e r = sym (hold_none s)
    go false e r = ap (λ (x : Reading). read_on x (take k bs)) (held e) ∙ r ∙ hold_more s (b ∷ []) (take k bs)

-- a run of other bytes that ends within the text ends at LF
run_stops : (s : List ℕ) → run (is_other 10) s < length s → get_or s (run (is_other 10) s) 0 ≡ 10
unfolding run
run_stops [] h = absurd (not-suc-le-zero h)
run_stops (b ∷ bs) h = go (eqb b 10) refl (run_stops bs) h
  where
    go : (t : Bool) → eqb b 10 ≡ t → (run (is_other 10) bs < length bs → get_or bs (run (is_other 10) bs) 0 ≡ 10)
        → pick (not t) (suc (run (is_other 10) bs)) 0 < suc (length bs)
        → get_or (b ∷ bs) (pick (not t) (suc (run (is_other 10) bs)) 0) 0 ≡ 10
    go true e r h = eqb-true b 10 e
    go false e r h = r (le_of_suc-le-suc h)

module _ (s : Reading) (c : List ℕ) (at : ℕ) where
  -- where the piece ends that begins there
  abbrev e : ℕ
  e = past (is_other 10) c at

  -- what it has is held
  piece_held : read_on s (drop at c) ≡ read_on (hold_on s (part c at e)) (drop e c)
  unfolding past part
  piece_held =
      let k = run (is_other 10) (drop at c) in
      let n : at + k - at ≡ k = omega arith in
      rw (n, ← drop-drop k at c) (run_held s (drop at c))

  -- one that ends within the chunk ends at LF
  piece_lf : e < length c → get_or c e 0 ≡ 10
  unfolding past
  piece_lf h =
      let k = run (is_other 10) (drop at c) in sym (get_or-drop at c k 0) ∙ run_stops (drop at c) (omega (arith, length-drop at c))

  -- behind which the next begins
  piece_stops : e < length c → drop e c ≡ 10 ∷ drop (e + 1) c
  unfolding past
  piece_stops h =
      let k = run (is_other 10) (drop at c) in
      rw (add-one (at + k)) (drop-cons c (at + k) 0 h ∙ ap (λ (b : ℕ). b ∷ drop (suc (at + k)) c) (piece_lf h))

  -- so does one behind which the next begins further on
  pub piece_ended : {p : Piece} → p ≡ piece_at c at → ltb p.end p.next ≡ true → (get_or c p.end 0 ≡ 10) × (p.next ≡ p.end + 1)
  unfolding piece_at
  piece_ended is t = rw is (go (ltb e (length c)) refl (rw is at t))
    where
      go : (b : Bool) → ltb e (length c) ≡ b → ltb e (pick b (e + 1) e) ≡ true → (get_or c e 0 ≡ 10) × (pick b (e + 1) e ≡ e + 1)
      go true w t = (piece_lf (ltb-true e (length c) w), refl)
      go false w t = let h = ltb-true e e t in (omega (arith, h), omega (arith, h))

  -- the bytes from there on: the piece, its LF, and those behind it
  pub piece_read : {p : Piece} → p ≡ piece_at c at
      → read_on s (drop at c) ≡ read_on (piece_on s (part c at p.end) (ltb p.end p.next)) (drop p.next c)
  unfolding piece_at piece_on read_on byte_on
  piece_read is = rw is (go (ltb e (length c)) refl)
    where
      h : Reading
      h = hold_on s (part c at e)

      go : (t : Bool) → ltb e (length c) ≡ t
          → read_on s (drop at c) ≡ read_on (pick (ltb e (pick t (e + 1) e)) (line_on h) h) (drop (pick t (e + 1) e) c)
      go true w =
          rw (lt-ltb e (e + 1) (omega arith))
          (piece_held ∙ ap (λ (bs : List ℕ). read_on h bs) (piece_stops (ltb-true e (length c) w)))
      go false w = rw (le-ltb e e (omega arith)) piece_held

  -- the piece and its LF alone
  pub piece_front : {p : Piece} → p ≡ piece_at c at
      → read_on s (take (p.next - at) (drop at c)) ≡ piece_on s (part c at p.end) (ltb p.end p.next)
  unfolding piece_at piece_on read_on byte_on past part
  piece_front is = rw is (go (ltb e (length c)) refl)
    where
      h : Reading
      h = hold_on s (part c at e)

      held : read_on s (take (e - at) (drop at c)) ≡ h
      held =
          let n : e - at ≡ run (is_other 10) (drop at c) = omega arith in
          rw n (run_front s (drop at c))

      -- LF stands behind the piece
      drops : e < length c → drop (e - at) (drop at c) ≡ 10 ∷ drop (e + 1) c
      drops h =
          let k = run (is_other 10) (drop at c) in
          let n : e - at ≡ k = omega arith in
          rw n (drop-drop k at c ∙ piece_stops h)

      ends : e < length c → take (e + 1 - at) (drop at c) ≡ take (e - at) (drop at c) ++ (10 ∷ [])
      ends h =
          let n : e + 1 - at ≡ e - at + 1 = omega arith in
          ap (λ (n : ℕ). take n (drop at c)) n ∙ take-add (e - at) 1 (drop at c)
          ∙ ap (λ (l : List ℕ). take (e - at) (drop at c) ++ take 1 l) (drops h)

      go : (t : Bool) → ltb e (length c) ≡ t
          → read_on s (take (pick t (e + 1) e - at) (drop at c)) ≡ pick (ltb e (pick t (e + 1) e)) (line_on h) h
      go true w =
          rw (lt-ltb e (e + 1) (omega arith))
          (ap (λ (l : List ℕ). read_on s l) (ends (ltb-true e (length c) w)) ∙ read_append s (take (e - at) (drop at c)) (10 ∷ []) ∙ ap (λ (x : Reading). line_on x) held)
      go false w = rw (le-ltb e e (omega arith)) held
