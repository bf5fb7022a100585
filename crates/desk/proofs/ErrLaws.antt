-- What the program leaves where it cannot print: what is read behind the lines of a chunk that were run, and its store.
use mathlib.Core.Path.{◌≡◌, refl, sym, ◌∙◌, ap}
use mathlib.Core.Bool.{true}
use mathlib.Core.List.{List}
use Prim.Native.Nat.{ℕ, ◌+◌, ◌-◌, ◌≤◌}
use native.Mathlib.Omega.{arith}
use lib.Dec.{ltb}
use lib.ListN.{take, drop}
use lib.Seq.{take-add}
use Rattle.std.specs.Result.{OnErr}
use Rattle.std.specs.declared.result.Result.{Result}
use Rattle.std.specs.declared.result.Result.TheVariants.{Ok, Err}
use Rattle.laws.specs.Lists.{part}
use Rattle.page.specs.Lines.{piece_at}
use Rattle.page.specs.declared.lines.Piece.{Piece}
use Rattle.desk.specs.Reading.{Reading, read_on}
use Rattle.desk.specs.ReadTo.{RunIn, RunUpTo, piece_on}
use Rattle.desk.proofs.ReadingLaws.{read_append, piece_ended, piece_front}

-- what holds whatever came
pub on_err : {T E P : Type 0} (r : Result T E) → P → OnErr r P
on_err (Ok x) p = record {}
on_err (Err e) p = p

module _ (s : Reading) (c : List ℕ) (at : ℕ) {u : Reading} (inv : u ≡ read_on s (take at c)) where
  -- what is read behind a piece that was taken
  pub chunk_front : {q : Piece} {bs : List ℕ} → q ≡ piece_at c at → bs ≡ part c at q.end → at ≤ q.next
      → piece_on u bs (ltb q.end q.next) ≡ read_on s (take q.next c)
  chunk_front {q} is e h =
      let n : at + (q.next - at) ≡ q.next = omega arith in
      rw (inv, e) (sym (piece_front (read_on s (take at c)) c at is))
      ∙ sym (read_append s (take at c) (take (q.next - at) (drop at c)))
      ∙ ap (λ (bs : List ℕ). read_on s bs) (sym (take-add at (q.next - at) c))
      ∙ ap (λ (m : ℕ). read_on s (take m c)) n

  -- all that is read behind a line that it ends
  pub chunk_stops : {q : Piece} {bs : List ℕ} → q ≡ piece_at c at → bs ≡ part c at q.end → at ≤ q.next
      → {v : Reading} → ltb q.end q.next ≡ true → v ≡ piece_on u bs (ltb q.end q.next) → RunUpTo s c v
  chunk_stops {q} is e h t w =
      let ended = piece_ended s c at is t in
      record {
        at = q.end;
        ends = ended.0;
        reads = w ∙ chunk_front is e h ∙ ap (λ (n : ℕ). read_on s (take n c)) ended.1;
      }

  -- and so its store
  pub chunk_stopped : {q : Piece} {bs : List ℕ} → q ≡ piece_at c at → bs ≡ part c at q.end → at ≤ q.next
      → {store : List ℕ}
      → (ltb q.end q.next ≡ true) × (store ≡ (piece_on u bs (ltb q.end q.next)).table.store)
      → RunIn s c store
  chunk_stopped is e h w =
      let up = chunk_stops is e h w.0 refl in
      record { at = up.at; ends = up.ends; runs = w.1 ∙ ap (λ (r : Reading). r.table.store) up.reads }
