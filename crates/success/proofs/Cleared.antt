-- The bytes of a cleared part: where a body stands, what was there, and 0 everywhere else.
use mathlib.Core.Path.{◌≡◌, refl, sym, ◌∙◌, ap}
use mathlib.Core.Bool.{Bool, true, false, ◌&&◌}
use mathlib.Core.List.{List, [], ◌∷◌, ◌++◌}
use Prim.Native.Nat.{ℕ, zero, suc, ◌+◌, ◌*◌, ◌-◌, ◌<◌, ◌≤◌}
use native.Mathlib.Omega.{arith}
use native.Mathlib.Nat.{zero-add}
use native.Mathlib.Decide.{dec_lt}
use lib.Dec.{ltb}
use lib.ListN.{length, get_or, take, drop, replicate, length-take, get_or-append, get_or-eq_default}
use lib.Seq.{get_or-take, get_or-drop, get_or-append-add}
use borrow.Author.Tests.{lt-ltb, le-ltb}
use Rattle.laws.specs.Choose.{pick}
use Rattle.laws.proofs.Parts.{append_behind}
use Rattle.record.specs.Places.{Place}
use Rattle.success.specs.Store.{room, cleared}
use Rattle.success.proofs.StoreLaws.{place_length}
use Rattle.record.proofs.Places.{place_at}

-- of zeros every byte is 0, also past their end
zeros_at : (n i : ℕ) → get_or {A = ℕ} (replicate n 0) i 0 ≡ 0
zeros_at zero i = refl
zeros_at (suc n) zero = refl
zeros_at (suc n) (suc i) = zeros_at n i

-- with zeros behind it a list has the same bytes, where 0 stands for those past its end
padded_at : (s : List ℕ) (n i : ℕ) → get_or (s ++ replicate n 0) i 0 ≡ get_or s i 0
padded_at s n i = go (dec_lt i (length s))
  where
    go : Dec (i < length s) → get_or (s ++ replicate n 0) i 0 ≡ get_or s i 0
    go (yes h) = get_or-append s (replicate n 0) 0 i h
    go (no h) =
        let far : length s ≤ i = omega arith in
        append_behind s (replicate n 0) i 0 far ∙ zeros_at n (i - length s) ∙ sym (get_or-eq_default s 0 far)

-- the room of a body of n bytes: the byte that was there below n, and 0 from there on
room_at : (n : ℕ) (bs : List ℕ) (j : ℕ) → j < 512 → get_or (room n bs) j 0 ≡ pick (ltb j n) (get_or bs j 0) 0
unfolding room
room_at n bs j h =
    get_or-take 512 (take n bs ++ replicate 512 0) j 0 h ∙ padded_at (take n bs) 512 j ∙ go (dec_lt j n)
  where
    go : Dec (j < n) → get_or (take n bs) j 0 ≡ pick (ltb j n) (get_or bs j 0) 0
    go (yes k) = rw (lt-ltb j n k) (get_or-take n bs j 0 k)
    go (no k) =
        let far : n ≤ j = omega arith in
        rw (le-ltb j n far) (get_or-eq_default (take n bs) 0 (omega (arith, length-take n bs)))

-- byte j of a place's room belongs to a body
abbrev pub in_body : Place → ℕ → Bool
in_body p j = p.taken && ltb j p.slot.length

-- the 512 bytes of a place, whether it is occupied or not
abbrev room_of : Bool → ℕ → List ℕ → List ℕ
room_of taken n bs = pick taken (room n bs) (replicate 512 0)

-- each of them: what was there where it belongs to a body, and 0 elsewhere
place_room : (taken : Bool) (n : ℕ) (bs : List ℕ) (j : ℕ) → j < 512
    → get_or (room_of taken n bs) j 0 ≡ pick (taken && ltb j n) (get_or bs j 0) 0
place_room true n bs j h = room_at n bs j h
place_room false n bs j h = zeros_at 512 j

-- the first 512 bytes of a list are those of its first room
first_room : (a b : List ℕ) (j : ℕ) → length a ≡ 512 → j < 512 → get_or (a ++ b) (512 * 0 + j) 0 ≡ get_or a j 0
first_room a b j e h = rw (zero-add j) (get_or-append a b 0 j (omega arith))

-- the bytes of a later room stand in what follows the first
later_room : (a b : List ℕ) (k j : ℕ) → length a ≡ 512 → get_or (a ++ b) (512 * suc k + j) 0 ≡ get_or b (512 * k + j) 0
later_room a b k j e =
    let far : 512 * suc k + j ≡ length a + (512 * k + j) = omega arith in
    rw far (get_or-append-add a b (512 * k + j) 0)

-- the bytes behind the first room, counted from its end
behind_first_lem : (bs : List ℕ) (k j : ℕ) → get_or (drop 512 bs) (512 * k + j) 0 ≡ get_or bs (512 * suc k + j) 0
behind_first_lem bs k j =
    let far : 512 + (512 * k + j) ≡ 512 * suc k + j = omega arith in
    get_or-drop 512 bs (512 * k + j) 0 ∙ ap (λ (n : ℕ). get_or bs n 0) far

-- byte j of the room of place k: what was there where it belongs to a body, and 0 elsewhere
pub cleared_at : (ps : List Place) (bs : List ℕ) (k j : ℕ) → j < 512
    → get_or (cleared ps bs) (512 * k + j) 0 ≡ pick (in_body (place_at ps k) j) (get_or bs (512 * k + j) 0) 0
unfolding cleared
cleared_at [] bs k j h = refl
cleared_at (p ∷ ps) bs zero j h =
    first_room (room_of p.taken p.slot.length bs) (cleared ps (drop 512 bs)) j (place_length p.taken p.slot.length bs) h
    ∙ place_room p.taken p.slot.length bs j h ∙ rw (zero-add j)
cleared_at (p ∷ ps) bs (suc k) j h =
    later_room (room_of p.taken p.slot.length bs) (cleared ps (drop 512 bs)) k j (place_length p.taken p.slot.length bs)
    ∙ cleared_at ps (drop 512 bs) k j h ∙ ap (λ (n : ℕ). pick (in_body (place_at ps k) j) n 0) (behind_first_lem bs k j)
