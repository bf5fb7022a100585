-- What the program holds is what the definition says: after opening, after some bytes more of a line, at its end, and after a chunk.
use mathlib.Core.Path.{◌≡◌, sym, ◌∙◌, ap}
use mathlib.Core.List.{List, ◌++◌}
use Prim.Native.Nat.{ℕ, ◌+◌, ◌-◌, ◌≤◌}
use native.Mathlib.Nat.{sub-zero}
use native.Mathlib.Omega.{arith}
use lib.Dec.{ltb}
use lib.ListN.{length, take, drop, length-append, drop_of_length-le}
use lib.Seq.{length-take-le, take_at}
use Rattle.std.specs.declared.option.Option.{Option}
use Rattle.std.specs.Io.KnownBytes.{Consumes}
use Rattle.laws.specs.Lists.{part, put_at}
use Rattle.laws.specs.Wrote.{Wrote}
use Rattle.laws.proofs.Parts.{part_length, part_none}
use Rattle.table.specs.Table.{Table}
use Rattle.listing.specs.Lent.{open_table}
use Rattle.page.specs.Lines.{piece_at}
use Rattle.page.specs.declared.lines.Piece.{Piece}
use Rattle.desk.specs.Turned.{table_behind}
use Rattle.desk.specs.Reading.{Reading, begun, hold_on, next_number, line_on, read_on}
use Rattle.desk.specs.ReadTo.{piece_on}
use Rattle.desk.proofs.ReadingLaws.{read_append, piece_read}

-- an opened table, with nothing held
pub read_begun : (line : List ℕ) (t : Table) → t ≡ open_table 16 → ◌≡◌ {A = Reading} (record { held = part line 0 0; nth = 1; table = t }) begun
unfolding begun
read_begun line t w = rw (part_none line 0 0 (omega arith), w)

-- the front of a buffer up to the end of a write: what stood before it, and what was written
wrote_upto : {d : List ℕ} {at : ℕ} {bs d' : List ℕ} {r : ℕ} → Wrote d at bs d' r → part d' 0 r ≡ part d 0 at ++ bs
unfolding part put_at
wrote_upto {d} {at} {bs} w =
    let n : length (take at d ++ bs) ≡ at + length bs =
    length-append (take at d) bs ∙ ap (λ (k : ℕ). k + length bs) (length-take-le at d (omega (arith, w.room))) in
    rw (w.holds, w.next, sub-zero (at + length bs), sub-zero at)
    (take_at (take at d ++ bs) (drop (at + length bs) d) (at + length bs) n)

module _ (line : List ℕ) (held : ℕ) (h : held ≤ 8211) {s : Reading} where
  -- some bytes more of a line
  pub read_hold : {line' : List ℕ} {r : ℕ} (nth : ℕ) (t : Table) (bs : List ℕ) → length line ≡ 8211
      → ◌≡◌ {A = Reading} (record { held = part line 0 held; nth = nth; table = t }) s
      → Wrote line held (take (length line - held) bs) line' r
      → ◌≡◌ {A = Reading} (record { held = part line' 0 r; nth = nth; table = t }) (hold_on s bs)
  unfolding hold_on
  read_hold nth t bs l e w =
      let n : length line - held ≡ 8211 - length (part line 0 held) =
      omega (arith, part_length line 0 held (omega arith) (omega arith)) in
      rw (← e, ← n) (rw (wrote_upto w))

-- a line that is run
pub read_line : (line : List ℕ) (held nth : ℕ) (t : Table) {s : Reading} {bs : List ℕ} {t' : Table} {n : ℕ}
    → ◌≡◌ {A = Reading} (record { held = part line 0 held; nth = nth; table = t }) s → bs ≡ part line 0 held
    → t' ≡ table_behind t bs → n ≡ next_number nth
    → ◌≡◌ {A = Reading} (record { held = part line 0 0; nth = n; table = t' }) (line_on s)
unfolding line_on
read_line line held nth t e i w k = rw (part_none line 0 0 (omega arith), ← e, k, w, i)

-- a chunk read behind some bytes
pub chunk_behind : (s : Reading) (bs c : List ℕ) {u v : Reading} → u ≡ read_on s bs → v ≡ read_on u c → v ≡ read_on s (bs ++ c)
chunk_behind s bs c w e = e ∙ ap (λ (x : Reading). read_on x c) w ∙ sym (read_append s bs c)

-- the front of a chunk is what was read of the input
pub chunk_given : (a b : Option (List ℕ)) (c : List ℕ) (n : ℕ) {bs : List ℕ} → bs ≡ part c 0 n → Consumes a b (take n c) → Consumes a b bs
unfolding part
chunk_given a b c n e w = rw (e, sub-zero n) w

module _ (s : Reading) (c : List ℕ) (at : ℕ) {u : Reading} (inv : read_on s (drop at c) ≡ u) where
  -- what is left to read behind a piece that was taken
  pub piece_taken : {k : Piece} {bs : List ℕ} {v : Reading} → k ≡ piece_at c at → bs ≡ part c at k.end
      → v ≡ piece_on s bs (ltb k.end k.next)
      → read_on v (drop k.next c) ≡ u
  piece_taken is e w = rw (w, e) (sym (piece_read s c at is) ∙ inv)

  -- nothing is left at the end of a chunk
  pub chunk_read : length c ≤ at → s ≡ u
  unfolding read_on
  chunk_read h = rw (drop_of_length-le c h) at inv
