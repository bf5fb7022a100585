-- How a record's part of the store is cleared room by room.
use mathlib.Core.Path.{◌≡◌, refl, sym, ◌∙◌, ap}
use mathlib.Core.Bool.{Bool, true, false}
use mathlib.Core.List.{List, [], ◌∷◌, ◌++◌, append-nil, append_assoc}
use borrow.Rule.Slice.PartMut.{put_mid}
use Prim.Native.Nat.{ℕ, zero, suc, ◌+◌, ◌*◌, ◌-◌, ◌%◌, ◌/◌, ◌≤◌, ◌<◌}
use native.Mathlib.Omega.{arith}
use native.Mathlib.Nat.{not-suc-le-zero, le_of_suc-le-suc}
use native.Mathlib.Decide.{dec_lt}
use native.Mathlib.Numerals.{add-one}
use lib.Dec.{eqb}
use lib.ListN.{length, get_or, take, drop, replicate, length-take, length-drop, length-replicate, drop_of_length-le}
use lib.Seq.{length-take-le, take-append-le, take-append-add, take-take, drop-cons, drop-drop}
use borrow.Author.Tests.{lt-ltb, le-ltb}
use Rattle.laws.specs.Choose.{pick}
use Rattle.laws.specs.Lists.{part, put_at}
use Rattle.laws.proofs.Parts.{part_length, put_part_behind}
use Rattle.record.specs.Places.{Place, places_in, smaller}
use Rattle.success.specs.Store.{room, cleared}
use Rattle.record.specs.declared.Slot.{Slot}
use Rattle.laws.proofs.Puts.{put_none, put_then, put_into, part_drop}
use Rattle.success.proofs.StoreLaws.{room_length, cleared_length, places_in_length}

-- zeros written over a part of the store are put in there
pub zeros_over : (s zs : List ℕ) (at n k : ℕ) → zs ≡ replicate n 0 → k ≡ n → put_mid at k s zs ≡ put_at s at (replicate n 0)
unfolding put_at
zeros_over s zs at n k e f =
    rw (e, f, length-replicate {A = ℕ} n 0, drop-drop n at s) (sym (append_assoc (take at s) (replicate n 0) (drop (at + n) s)))

-- the first of some zeros are zeros
first_zeros : (m k : ℕ) → m ≤ k → take {A = ℕ} m (replicate k 0) ≡ replicate m 0
first_zeros zero k h = refl
first_zeros (suc m) zero h = absurd (not-suc-le-zero h)
first_zeros (suc m) (suc k) h = ap (λ (zs : List ℕ). 0 ∷ zs) (first_zeros m k (le_of_suc-le-suc h))

-- zeros put in behind the first n bytes of a room
room_zeros : (n : ℕ) (bs : List ℕ) → n ≤ 512 → length bs ≡ 512 → put_at bs n (replicate (512 - n) 0) ≡ room n bs
unfolding put_at room
room_zeros n bs h e =
    let zs : List ℕ = replicate (512 - n) 0 in
    let size : length zs ≡ 512 - n = length-replicate (512 - n) 0 in
    let front : length (take n bs) ≡ n = length-take-le n bs (omega arith) in
    let whole : 512 ≡ length (take n bs) + (512 - n) = omega arith in
    let none : drop (n + length zs) bs ≡ [] = drop_of_length-le bs {i = n + length zs} (omega arith) in
    rw (none, append-nil (take n bs ++ zs))
    (sym
    (ap (λ (k : ℕ). take k (take n bs ++ replicate 512 0)) whole ∙ take-append-add (take n bs) (replicate 512 0) (512 - n)
    ∙ ap (λ (z : List ℕ). take n bs ++ z) (first_zeros (512 - n) 512 (omega arith))))

-- of a room only the first bytes are asked
room_first : (s : List ℕ) (at e n : ℕ) → n ≤ 512 → at + 512 ≤ e → room n (part s at (at + 512)) ≡ room n (part s at e)
unfolding room part
room_first s at e n h k =
    rw (take-take n (at + 512 - at) (drop at s) (omega arith), take-take n (e - at) (drop at s) (omega arith))

-- a room whose bytes from n on are zeroed
room_cleared : (s : List ℕ) (at e n : ℕ) → n ≤ 512 → at + 512 ≤ e → e ≤ length s
    → put_at s (at + n) (replicate (512 - n) 0) ≡ put_at s at (room n (part s at e))
room_cleared s at e n h k l =
    let zeros : length (replicate {A = ℕ} (512 - n) 0) ≡ 512 - n = length-replicate (512 - n) 0 in
    let size : length (part s at (at + 512)) ≡ 512 = part_length s at (at + 512) (omega arith) (omega arith) ∙ omega arith in
    sym (put_into s at (at + 512) n (replicate (512 - n) 0) (omega arith) (omega arith))
    ∙ ap (put_at s at) (room_zeros n (part s at (at + 512)) h size ∙ room_first s at e n h k)

-- a room keeps at most 512 bytes
room_most : (n : ℕ) (bs : List ℕ) → 512 ≤ n → 512 ≤ length bs → room 512 bs ≡ room n bs
unfolding room
room_most n bs h k =
    rw (
      take-append-le 512 (take 512 bs) (replicate 512 0) (omega (arith, length-take 512 bs)),
      take-append-le 512 (take n bs) (replicate 512 0) (omega (arith, length-take n bs)),
      take-take 512 n bs h,
    )
    (take-take 512 512 bs (omega arith))

-- how many bytes of its room a place keeps
abbrev pub kept_of : Bool → ℕ → ℕ
kept_of taken n = pick taken (smaller n 512) 0

-- it keeps at most 512
kept_most : (taken : Bool) (n : ℕ) → kept_of taken n ≤ 512
unfolding smaller
kept_most false n = omega arith
kept_most true n = go (dec_lt n 512)
  where
    go : Dec (n < 512) → smaller n 512 ≤ 512
    go (yes h) = rw (lt-ltb n 512 h) (omega arith)
    go (no h) = rw (le-ltb n 512 (omega arith)) (omega arith)

-- and these are the bytes of its body
kept_room : (taken : Bool) (n : ℕ) (bs : List ℕ) → 512 ≤ length bs
    → room (kept_of taken n) bs ≡ pick taken (room n bs) (replicate 512 0)
unfolding smaller room
kept_room false n bs h = refl
kept_room true n bs h = go (dec_lt n 512)
  where
    go : Dec (n < 512) → room (smaller n 512) bs ≡ room n bs
    go (yes k) = rw (lt-ltb n 512 k)
    go (no k) = rw (le-ltb n 512 (omega arith)) (room_most n bs (omega arith) h)

-- the store from a position up to e, cleared for some places
abbrev pub cleared_from : List ℕ → ℕ → ℕ → List Place → List ℕ
cleared_from s at e ps = put_at s at (cleared ps (part s at e))

-- one room cleared, and then the others
clear_first : (s : List ℕ) (at e : ℕ) (p : Place) (ps : List Place) → at + 512 * suc (length ps) ≡ e → e ≤ length s
    → cleared_from (put_at s (at + kept_of p.taken p.slot.length) (replicate (512 - kept_of p.taken p.slot.length) 0)) (at + 512) e ps
    ≡ cleared_from s at e (p ∷ ps)
unfolding cleared
clear_first s at e p ps h k =
    let n = kept_of p.taken p.slot.length in
    let most : n ≤ 512 = kept_most p.taken p.slot.length in
    let size : length (part s at e) ≡ e - at = part_length s at e (omega arith) k in
    let first : List ℕ = room n (part s at e) in
    let long : length first ≡ 512 = room_length n (part s at e) in
    let others : part (put_at s at first) (at + 512) e ≡ drop 512 (part s at e) =
    put_part_behind s at first (omega arith) (at + 512) e (omega arith) ∙ sym (part_drop s at e 512) in
    let rest : length (cleared ps (drop 512 (part s at e))) ≡ 512 * length ps = cleared_length ps (drop 512 (part s at e)) in
    rw (room_cleared s at e n most (omega arith) k, others)
    (put_then s at 512 first (cleared ps (drop 512 (part s at e))) long (omega arith)
    ∙ rw (kept_room p.taken p.slot.length (part s at e) (omega arith)))

-- one turn of clearing the part of record i: the room of slot k
pub clear_turn : (s : List ℕ) (i m k : ℕ) (slots : List Slot) (d : Slot) (n : ℕ) → length slots ≡ 8 → k < 8 → 4096 * i + 4096 ≤ length s
    → n ≡ kept_of (eqb (m % 2) 1) (get_or slots k d).length
    → cleared_from (put_at s (4096 * i + 512 * k + n) (replicate (512 - n) 0)) (4096 * i + 512 * (k + 1)) (4096 * i + 4096) (places_in (m / 2) (drop (k + 1) slots))
    ≡ cleared_from s (4096 * i + 512 * k) (4096 * i + 4096) (places_in m (drop k slots))
unfolding places_in
clear_turn s i m k slots d n eight h l e =
    let next : 4096 * i + 512 * (k + 1) ≡ 4096 * i + 512 * k + 512 = omega arith in
    let left : length (places_in (m / 2) (drop (suc k) slots)) ≡ 8 - suc k =
    places_in_length (m / 2) (drop (suc k) slots) ∙ omega (arith, length-drop (suc k) slots) in
    rw (next, add-one k, drop-cons slots k d (omega arith), e)
    (clear_first s (4096 * i + 512 * k) (4096 * i + 4096) _ (places_in (m / 2) (drop (suc k) slots)) (omega arith) l)

-- behind eight rooms nothing is left to clear
pub clear_end : (s : List ℕ) (i m k : ℕ) (slots : List Slot) → length slots ≡ 8 → k ≡ 8 → 4096 * i + 4096 ≤ length s
    → cleared_from s (4096 * i + 512 * k) (4096 * i + 4096) (places_in m (drop k slots)) ≡ s
unfolding places_in cleared
clear_end s i m k slots eight h l =
    rw (drop_of_length-le slots {i = k} (omega arith)) (put_none s (4096 * i + 512 * k) (omega arith))
