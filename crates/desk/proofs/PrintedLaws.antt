-- What is printed while the bytes of an input are read is the listing.
use mathlib.Core.Path.{◌≡◌, refl, sym, ◌∙◌, ap}
use mathlib.Core.Bool.{Bool, true, false}
use mathlib.Core.List.{List, [], ◌∷◌, ◌++◌, append_assoc, append-nil}
use Prim.Native.Nat.{ℕ, ◌+◌, ◌<◌, ◌≤◌}
use native.Mathlib.Omega.{arith}
use lib.Dec.{eqb}
use lib.ListN.{length, take}
use borrow.Author.Tests.{ne_eqb}
use Rattle.laws.specs.Bytes.{bytes}
use Rattle.laws.specs.Choose.{pick}
use Rattle.laws.specs.Lists.{empty}
use Rattle.table.specs.Table.{Table}
use Rattle.listing.specs.Lent.{open_table}
use Rattle.listing.specs.Frames.{in_front, lines_of}
use Rattle.listing.specs.Listing.{listing_from, listing}
use Rattle.frames.proofs.LineLaws.{front_frame}
use Rattle.desk.specs.Turned.{printed_for, table_behind}
use Rattle.desk.specs.Reading.{Reading, begun, hold_on, greatest, next_number, line_on, byte_on, printed_here, printed_on}
use Rattle.desk.proofs.TurnLaws.{listing_next}
use Rattle.desk.proofs.ReadingLaws.{room_append}

-- lines, the first of which goes on with what is read already
behind : List ℕ → List (List ℕ) → List (List ℕ)
behind l [] = pick (empty l) [] (l ∷ [])
behind l (x ∷ xs) = (l ++ x) ∷ xs

behind_nothing : (ls : List (List ℕ)) → behind [] ls ≡ ls
unfolding empty behind
behind_nothing [] = refl
behind_nothing (x ∷ xs) = refl

behind_byte : (l : List ℕ) (b : ℕ) (ls : List (List ℕ)) → behind l (in_front b ls) ≡ behind (l ++ (b ∷ [])) ls
unfolding empty in_front behind
behind_byte [] b [] = refl
behind_byte (x ∷ l) b [] = refl
behind_byte l b (y ∷ ys) = rw (append_assoc l (b ∷ []) y)

-- a line of which the front is held, as much as there is room for
abbrev within : List ℕ → ℕ → Table → Reading
within l n t = record { held = take 8211 l; nth = n; table = t }

module _ (l : List ℕ) (n : ℕ) (t : Table) where
  -- it prints what the whole line prints
  front_prints : printed_here (within l n t) ≡ printed_for false n t l
  unfolding printed_here printed_for
  front_prints = rw (front_frame l)

  -- and leaves what that leaves
  front_table : table_behind t (take 8211 l) ≡ table_behind t l
  unfolding table_behind
  front_table = rw (table_behind, front_frame l)

  -- a byte more of it
  front_byte : (b : ℕ) → hold_on (within l n t) (b ∷ []) ≡ within (l ++ (b ∷ [])) n t
  unfolding hold_on
  front_byte b = rw (room_append 8211 l (b ∷ []))

  -- its end
  front_ends : n < greatest → line_on (within l n t) ≡ within [] (n + 1) (table_behind t l)
  unfolding line_on next_number
  front_ends h = rw (ne_eqb n greatest (λ e. omega arith), front_table)

-- what is printed for the bytes behind the front of a line is the listing from that line on
prints : (bs l : List ℕ) (n : ℕ) (t : Table) → n + length (behind l (lines_of bs)) ≤ greatest
    → printed_on (within l n t) bs ≡ listing_from n t (behind l (lines_of bs))
unfolding printed_on byte_on lines_of empty listing_from behind
prints [] l n t h = last l
  where
    last : (l : List ℕ) → pick (empty (take 8211 l)) [] (printed_here (within l n t)) ≡ listing_from n t (behind l [])
    last [] = refl
    last (b ∷ l) = front_prints (b ∷ l) n t ∙ sym (listing_next n t (b ∷ l) [] ∙ append-nil (printed_for false n t (b ∷ l)))
prints (b ∷ bs) l n t h = go (eqb b 10) refl (prints bs) h
  where
    ls : List (List ℕ)
    ls = lines_of bs

    go : (x : Bool) → eqb b 10 ≡ x
        → ((l : List ℕ) (n : ℕ) (t : Table) → n + length (behind l ls) ≤ greatest
        → printed_on (within l n t) bs ≡ listing_from n t (behind l ls))
        → n + length (behind l (pick x ([] ∷ ls) (in_front b ls))) ≤ greatest
        → printed_on (within l n t) (b ∷ bs) ≡ listing_from n t (behind l (pick x ([] ∷ ls) (in_front b ls)))
    go true e r h =
        rw (e, append-nil l, listing_next n t l ls, front_ends l n t (omega arith), front_prints l n t)
        (ap (λ (x : List ℕ). printed_for false n t l ++ x) (rw (behind_nothing ls) at (r [] (n + 1) (table_behind t l) (rw (behind_nothing ls) (omega arith)))))
    go false e r h = rw (e, behind_byte l b ls, front_byte l n t b) (r (l ++ (b ∷ [])) n t (rw (behind_byte l b ls) at h))

-- THE LAW: the bytes of an input, read one after the other, print the listing
pub printed_listing : (input : List ℕ) → length (lines_of input) < greatest
    → bytes "publish bench\n" ++ printed_on begun input ≡ listing input
unfolding begun listing
printed_listing input h =
    ap (λ (x : List ℕ). bytes "publish bench\n" ++ x)
    (rw (behind_nothing (lines_of input)) at (prints input [] 1 (open_table 16) (rw (behind_nothing (lines_of input)) (omega arith))))
