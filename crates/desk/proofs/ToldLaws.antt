-- The laws of what is said of a line where more is asked for.
use mathlib.Core.Path.{◌≡◌, ◌∙◌}
use mathlib.Core.Bool.{true, false}
use mathlib.Core.List.{List}
use Prim.Native.Nat.{ℕ, ◌+◌, ◌-◌, ◌<◌, ◌≤◌}
use native.Mathlib.Omega.{arith}
use lib.ListN.{length}
use Rattle.laws.specs.Lists.{part}
use Rattle.laws.specs.Wrote.{Wrote}
use Rattle.laws.proofs.Wrote.{wrote_part}
use Rattle.table.specs.Table.{Table}
use Rattle.table.specs.Read.{state_of}
use Rattle.listing.specs.Witness.{is_reading, query_of, read_or}
use Rattle.frames.specs.Lines.{line_bytes}
use Rattle.frames.specs.Shown.{shown_text}
use Rattle.frames.specs.declared.shown.Shown.{Shown}
use Rattle.frames.specs.declared.shown.Shown.TheVariants.{Read}
use Rattle.frames.proofs.WantedLaws.{Reads, reading_within, reading_order}
use Rattle.desk.specs.Told.{told_text}

module _ (f : List ℕ) {clock from to : ℕ} (w : Reads f clock from to) where
  -- the package stands behind the address, and within the frame
  pub reads_within : (from < to) × (to ≤ length f)
  reads_within =
      (omega (arith, reading_order f w.built, w.name_at, w.default_at), omega (arith, reading_within f w.built, w.default_at))

  -- what the frame asks for is read
  pub told_reads : (t : Table) (x : List ℕ) {r : Shown}
      → r ≡ Read (state_of (record { address = part f 10 from; name = part f (from + 1) to; clock = clock }) t) (length f - to)
      → shown_text r ≡ read_or t f x
  unfolding shown_text read_or query_of
  told_reads t x e = rw (e, w.built, w.clock_is, w.name_at, w.default_at)

-- another frame is shown as it was
pub told_other : (t : Table) (f x : List ℕ) → is_reading f ≡ false → x ≡ read_or t f x
unfolding read_or
told_other t f x h = rw h

module _ (t : Table) (l : List ℕ) where
  -- the frame of the bytes that were decoded is the line's
  pub told_line : (x : List ℕ) {d d' f y : List ℕ} {n : ℕ} → Wrote d 0 (line_bytes l) d' n → f ≡ part d' 0 n → y ≡ read_or t f x → y ≡ told_text true t l x
  unfolding told_text
  told_line x w e h = rw (e ∙ wrote_part w) at h
