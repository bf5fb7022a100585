-- The laws of writing into a buffer: writes in a row are one, the buffer keeps its length, and what stands before and behind the write stays.
use mathlib.Core.Path.{◌≡◌, refl, sym, ◌∙◌, ap}
use mathlib.Core.List.{List, [], ◌∷◌, ◌++◌, append_assoc, append-nil}
use Prim.Native.Nat.{ℕ, suc, ◌+◌, ◌<◌, ◌≤◌}
use native.Mathlib.Nat.{add_assoc, add-suc, add-zero}
use native.Mathlib.Numerals.{add-one}
use native.Mathlib.Omega.{arith}
use lib.ListN.{length, get_or, take, drop, set, length-append, take-append-drop, drop_of_length-le}
use borrow.Rule.Slice.PartMut.{put_mid}
use lib.Seq.{length-take-le, take_at, drop_at, drop-drop, take-suc, set_split, append_snoc}
use Rattle.laws.specs.Lists.{part, put_at}
use Rattle.laws.specs.Wrote.{Wrote}
use Rattle.laws.proofs.Parts.{put_length, put_before, put_behind, put_part, put_part_before, put_part_behind}

-- a part put in behind another is one part of both
put_put : (d : List ℕ) (at : ℕ) (a b : List ℕ) → at ≤ length d
    → put_at (put_at d at a) (at + length a) b ≡ put_at d at (a ++ b)
unfolding put_at
put_put d at a b h =
    rw (
      take_at (take at d ++ a) (drop (at + length a) d) (at + length a) head,
      ← drop-drop (length b) (at + length a) (take at d ++ a ++ drop (at + length a) d),
      drop_at (take at d ++ a) (drop (at + length a) d) (at + length a) head,
      drop-drop (length b) (at + length a) d,
    )
    (simp (append_assoc, length-append, add_assoc))
  where
    head : length (take at d ++ a) ≡ at + length a
    head = rw (length-append (take at d) a, length-take-le at d h)

-- nothing written
pub wrote_none : (d : List ℕ) (at : ℕ) → at ≤ length d → Wrote d at [] d at
unfolding put_at
wrote_none d at h =
    record { next = omega arith; room = omega arith; holds = sym (rw (add-zero at, append-nil (take at d)) (take-append-drop at d)) }

-- one byte written
pub wrote_byte : (d : List ℕ) (at b : ℕ) → at < length d → Wrote d at (b ∷ []) (set d at b) (at + 1)
unfolding put_at
wrote_byte d at b h =
    record {
      next = omega arith;
      room = omega arith;
      holds = rw (add-one at) (set_split d at b h ∙ sym (append_snoc (take at d) b (drop (suc at) d)));
    }

module _ {d : List ℕ} {at : ℕ} {bs d' : List ℕ} {r : ℕ} (w : Wrote d at bs d' r) where
  -- the buffer stays as long as it is
  pub wrote_length : length d' ≡ length d
  wrote_length = ap length w.holds ∙ put_length d at bs w.room

  -- a byte before the write stays
  pub wrote_before : (p z : ℕ) → p < at → get_or d' p z ≡ get_or d p z
  wrote_before p z h = rw w.holds (put_before d at bs w.room p z h)

  -- a byte behind the write stays
  pub wrote_behind : (p z : ℕ) → r ≤ p → get_or d' p z ≡ get_or d p z
  wrote_behind p z h = rw w.holds (put_behind d at bs w.room p z (omega arith))

  -- what stands from where the write began to where it ended is what was written
  pub wrote_part : part d' at r ≡ bs
  wrote_part = rw (w.holds, w.next) (put_part d at bs w.room)

  -- a part that ends before the write stays
  pub wrote_part_before : (a e : ℕ) → e ≤ at → part d' a e ≡ part d a e
  wrote_part_before a e h = rw w.holds (put_part_before d at bs w.room a e h)

  -- a part that begins behind the write stays
  pub wrote_part_behind : (a e : ℕ) → r ≤ a → part d' a e ≡ part d a e
  wrote_part_behind a e h = rw w.holds (put_part_behind d at bs w.room a e (omega arith))

-- a write behind a write is one write of both
pub then : {d : List ℕ} {at : ℕ} {a d' : List ℕ} {p : ℕ} {b d'' : List ℕ} {r : ℕ}
    → Wrote d at a d' p → Wrote d' p b d'' r → Wrote d at (a ++ b) d'' r
then {d} {at} {a} {d'} {p} {b} {d''} {r} u v =
    let l : length d' ≡ length d = wrote_length u in
    record {
      next = rw (length-append a b) (omega arith);
      room = rw (length-append a b) (omega arith);
      holds = v.holds ∙ rw (u.holds, u.next) (put_put d at a b (omega arith));
    }

-- one byte more of bytes that are being written
pub wrote_more : {d : List ℕ} {at : ℕ} {d' : List ℕ} (bs : List ℕ) (i : ℕ) → i < length bs → at + i < length d
    → Wrote d at (take i bs) d' (at + i) → Wrote d at (take (i + 1) bs) (set d' (at + i) (get_or bs i 0)) (at + (i + 1))
wrote_more {d} {at} {d'} bs i h k w =
    let l : length d' ≡ length d = wrote_length w in
    rw (add-one i, take-suc bs i 0 h, add-suc at i, ← add-one (at + i)) (then w (wrote_byte d' (at + i) (get_or bs i 0) (omega arith)))

-- a part of the buffer copied over, as it is put in
pub wrote_copy : (d bs xs : List ℕ) (at n : ℕ) → at + length bs ≤ length d → xs ≡ bs → n ≡ length bs
    → Wrote d at bs (put_mid at n d xs) (at + length bs)
unfolding put_at
wrote_copy d bs xs at n h e k =
    record { next = refl; room = h; holds = rw (e, k, drop-drop (length bs) at d) (sym (append_assoc (take at d) bs (drop (at + length bs) d))) }

-- a write that fills the buffer leaves what was written
pub wrote_whole : {d bs d' : List ℕ} {r : ℕ} → Wrote d 0 bs d' r → length bs ≡ length d → d' ≡ bs
unfolding put_at
wrote_whole {d} {bs} {d'} {r} w e =
    w.holds ∙ rw (drop_of_length-le d {i = 0 + length bs} (omega arith)) (append-nil bs)
