-- A record that holds a well-formed address in its 64 bytes has that address; what the tests of an address say step by step; and two such
-- records have the same address exactly if all those bytes are the same.
use mathlib.Core.Path.{◌≡◌, refl, sym, ◌∙◌, ap, ap₂}
use mathlib.Core.Bool.{Bool, true, false, ◌&&◌, ◌||◌, not, false≢true, and-false, and-true, and_assoc}
use mathlib.Core.List.{List, [], ◌∷◌, ◌++◌}
use Prim.Native.Nat.{ℕ, zero, suc, ◌-◌, ◌<◌, ◌≤◌}
use native.Mathlib.Nat.{zero-add}
use native.Mathlib.Numerals.{unary_clauses}
use native.Mathlib.Omega.{arith}
use lib.Dec.{eqb, leb, ltb}
use lib.Bits.{bit_or, or_zero_l}
use Rattle.std.specs.Prelude.{fold}
use Rattle.std.proofs.lemmas.Nat.{le_or_l}
use lib.ListN.{length, take, drop, replicate, length-append, length-drop, length-replicate, take-append-drop}
use lib.Seq.{drop-append_seam, length-take-le}
use borrow.Author.Tests.{leb-true, le-leb, lt-leb, eqb-true, eqb-false, ne_eqb}
use Rattle.laws.specs.Choose.{pick}
use Rattle.laws.specs.Lists.{every, same, put_at}
use Rattle.laws.specs.Wrote.{Wrote}
use Rattle.laws.proofs.Tests.{and_left, and_right, and_both, every_head, every_tail, every_copy, same_equal, same_self}
use Rattle.text.specs.Class.{is_visible, from_to}
use Rattle.text.specs.Runs.{front, run, past}
use Rattle.text.proofs.RunLaws.{run_whole, run_length, past_first}
use Rattle.record.specs.Places.{is_in_use}
use Rattle.record.specs.Address.{is_address, address_of, padded, has_address, same_address}
use Rattle.record.specs.Sound.{is_sound}
use Rattle.record.specs.declared.Record.{Record}
use Rattle.record.proofs.SoundLaws.{sound_found}

-- a byte that is not zero
abbrev pub not_zero : ℕ → Bool
not_zero b = not (eqb b 0)

-- a visible byte is not zero
visible_byte : (x : ℕ) → is_visible x ≡ true → not_zero x ≡ true
unfolding is_visible
visible_byte x e =
    let h : 33 ≤ x = leb-true 33 x (and_left (leb 33 x) (leb x 126) e) in
    rw (ne_eqb x 0 (omega arith))

-- visible bytes with zeros behind them begin with those bytes, up to the first zero
front_zeros : (a : List ℕ) (k : ℕ) → every is_visible a ≡ true → front not_zero (a ++ replicate k 0) ≡ a
unfolding front run
front_zeros [] zero e = refl
front_zeros [] (suc k) e = refl
front_zeros (x ∷ xs) k e =
    rw (visible_byte x (every_head is_visible x xs e)) (ap (λ (s : List ℕ). x ∷ s) (front_zeros xs k (every_tail is_visible x xs e)))

-- an address has at most 64 bytes
pub address_length : (a : List ℕ) → is_address a ≡ true → length a ≤ 64
unfolding is_address
address_length a e =
    leb-true (length a) 64 (and_right (leb 1 (length a)) (leb (length a) 64) (and_left (from_to 1 64 (length a)) (every is_visible a) e))

-- an address in its 64 bytes has 64
pub padded_length : (a : List ℕ) → is_address a ≡ true → length (padded a) ≡ 64
unfolding padded
padded_length a e =
    let h : length a ≤ 64 = address_length a e in
    omega (arith, length-append a (replicate (64 - length a) 0), length-replicate {A = ℕ} (64 - length a) 0)

-- the address of such a record is the one that was put there
pub address_of_lem : (r : Record) (a : List ℕ) → is_address a ≡ true → r.address ≡ padded a → address_of r ≡ a
unfolding address_of padded is_address
address_of_lem r a e h = rw h (front_zeros a (64 - length a) (and_right (from_to 1 64 (length a)) (every is_visible a) e))

-- past its end stand zeros
zeros_behind : (a : List ℕ) → every (eqb 0) (drop (length a) (padded a)) ≡ true
unfolding padded
zeros_behind a = rw (drop-append_seam a (replicate (64 - length a) 0)) (every_copy (eqb 0) (64 - length a) 0 refl)

-- and it is well formed, with zero past its end
pub has_address_lem : (r : Record) (a : List ℕ) → is_address a ≡ true → r.address ≡ padded a → has_address r ≡ true
unfolding has_address
has_address_lem r a e h =
    rw (address_of_lem r a e h, h) (and_both (is_address a) (every (eqb 0) (drop (length a) (padded a))) e (zeros_behind a))

-- a text of no length is no address
pub address_none : (a : List ℕ) → length a < 1 → is_address a ≡ false
unfolding is_address
address_none a h = rw (lt-leb 1 (length a) h)

-- and neither is one above 64
pub address_long : (a : List ℕ) → 64 < length a → is_address a ≡ false
unfolding is_address
address_long a h = rw (le-leb 1 (length a) (omega arith), lt-leb (length a) 64 h)

-- any other is one exactly if the run of visible bytes reaches its end
pub address_run : (a : List ℕ) (e : ℕ) → 1 ≤ length a → length a ≤ 64 → e ≡ past is_visible a 0 → eqb e (length a) ≡ is_address a
unfolding is_address
address_run a e h k w =
    rw (le-leb 1 (length a) h, le-leb (length a) 64 k) (ap (λ (n : ℕ). eqb n (length a)) (w ∙ past_first is_visible a) ∙ run_whole is_visible a)

-- of copies of an element, those behind the first k are copies of it
drop_copies : (n k x : ℕ) → drop k (replicate n x) ≡ replicate (n - k) x
drop_copies n zero x = simp unary_clauses
drop_copies zero (suc k) x = let z : 0 - suc k ≡ 0 = omega arith in rw z
drop_copies (suc n) (suc k) x = simp unary_clauses (drop_copies n k x)

-- an address written over 64 zeros stands there with zero past its end
pub padded_wrote : (a d : List ℕ) (e : ℕ) → Wrote (replicate 64 0) 0 a d e → d ≡ padded a
unfolding padded put_at
padded_wrote a d e w = w.holds ∙ rw (zero-add (length a), drop_copies 64 (length a) 0)

-- the bytes up to the first zero are as many as their run says
front_length : (l : List ℕ) → length (front not_zero l) ≡ run not_zero l
unfolding front
front_length l = length-take-le (run not_zero l) l (run_length not_zero l)

-- with z bytes up to the first zero, v visible ones in front, and p where a visible byte went before: there is a byte, all up to the
-- first zero are visible and zeros stand behind them, exactly if there is a visible byte and zeros stand behind the visible ones
abbrev Seen : Bool → List ℕ → ℕ → ℕ → Type 0
Seen p l z v = ((p || leb 1 z) && (every is_visible (take z l) && every (eqb 0) (drop z l))) ≡ ((p || leb 1 v) && every (eqb 0) (drop v l))

-- it is so of every text
visible_zeros : (p : Bool) (l : List ℕ) → Seen p l (run not_zero l) (run is_visible l)
unfolding every run
visible_zeros p [] = refl
visible_zeros p (x ∷ xs) = go (eqb x 0) (is_visible x) refl refl (visible_zeros true xs)
  where
    some : (n : ℕ) → leb 1 (suc n) ≡ true
    some n = le-leb 1 (suc n) (omega arith)

    go : (z v : Bool) → eqb x 0 ≡ z → is_visible x ≡ v → Seen true xs (run not_zero xs) (run is_visible xs)
        → Seen p (x ∷ xs) (pick (not z) (suc (run not_zero xs)) 0) (pick v (suc (run is_visible xs)) 0)
    go true true e f deep = absurd (false≢true (rw e at (visible_byte x f)))
    go true false e f deep = refl
    go false true e f deep = rw (f, some (run not_zero xs), some (run is_visible xs)) (ap (λ (b : Bool). (p || true) && b) deep)
    go false false e f deep = rw (f, ne_eqb 0 x (λ o. eqb-false x 0 e (sym o)), some (run not_zero xs)) (and-false (p || true) ∙ sym (and-false (p || false)))

-- a record has an address exactly if a visible byte stands in front, and zeros behind the visible ones
pub address_seen : (r : Record) → length r.address ≤ 64
    → has_address r ≡ (ltb 0 (past is_visible r.address 0) && every (eqb 0) (drop (past is_visible r.address 0) r.address))
unfolding has_address address_of is_address front
address_seen r h =
    let l = r.address in
    let z = run not_zero l in
    rw (front_length l, le-leb z 64 (omega (arith, run_length not_zero l)), past_first is_visible l) (joined (leb 1 z) _ _ ∙ visible_zeros false l)
  where
    joined : (a b c : Bool) → (((a && true) && b) && c) ≡ (a && (b && c))
    joined true b c = refl
    joined false b c = refl

-- the or of two numbers is zero exactly if both are
or_both : (a x : ℕ) → eqb (bit_or a x) 0 ≡ (eqb a 0 && eqb 0 x)
or_both zero zero = refl
or_both zero (suc x) = rw (or_zero_l (suc x)) (ne_eqb (suc x) 0 (λ e. omega arith) ∙ sym (ne_eqb 0 (suc x) (λ e. omega arith)))
or_both (suc a) x = rw (ne_eqb (bit_or (suc a) x) 0 (λ e. omega (arith, le_or_l (suc a) x)), ne_eqb (suc a) 0 (λ e. omega arith))

or_from : (a : ℕ) (s : List ℕ) → eqb (fold bit_or a s) 0 ≡ (eqb a 0 && every (eqb 0) s)
unfolding every
or_from a [] = sym (and-true (eqb a 0))
or_from a (x ∷ xs) = or_from (bit_or a x) xs ∙ rw (or_both a x) (and_assoc (eqb a 0) (eqb 0 x) (every (eqb 0) xs))

-- and so the or of all bytes
pub or_zero : (s : List ℕ) → eqb (fold bit_or 0 s) 0 ≡ every (eqb 0) s
or_zero s = or_from 0 s

-- zeros are copies of zero
zeros_only : (s : List ℕ) → every (eqb 0) s ≡ true → s ≡ replicate (length s) 0
zeros_only [] e = refl
zeros_only (x ∷ xs) e = ap₂ ◌∷◌ (sym (eqb-true 0 x (every_head (eqb 0) x xs e))) (zeros_only xs (every_tail (eqb 0) x xs e))

-- the bytes that hold a record's address are the address and zeros behind it
held_whole : (r : Record) → has_address r ≡ true → r.address ≡ address_of r ++ replicate (length r.address - length (address_of r)) 0
unfolding has_address address_of front
held_whole r e =
    let l = r.address in
    let z = run not_zero l in
    let behind : every (eqb 0) (drop z l) ≡ true = rw (front_length l) at (and_right (is_address (address_of r)) _ e) in
    sym (take-append-drop z l) ∙ rw (front_length l, ← length-drop z l) (ap (λ (s : List ℕ). take z l ++ s) (zeros_only (drop z l) behind))

-- two records that have addresses, in equally many bytes, have the same address exactly if all those bytes are the same
pub held_same : (r t : Record) → has_address r ≡ true → has_address t ≡ true → length r.address ≡ length t.address
    → same r.address t.address ≡ same_address (address_of r) (address_of t)
unfolding same_address address_of
held_same r t e f n = go (same r.address t.address) (same (address_of r) (address_of t)) refl refl
  where
    -- one address and equally many bytes leave one choice for all of them
    whole : address_of r ≡ address_of t → r.address ≡ t.address
    whole h = held_whole r e ∙ rw (h, n) (sym (held_whole t f))

    go : (a b : Bool) → same r.address t.address ≡ a → same (address_of r) (address_of t) ≡ b → same r.address t.address ≡ same (address_of r) (address_of t)
    go true b h k = h ∙ sym (rw (same_equal r.address t.address h) (same_self (address_of t)))
    go false true h k = rw (whole (same_equal (address_of r) (address_of t) k)) (same_self t.address) ∙ sym k
    go false false h k = h ∙ sym k

-- a sound record in use has an address
pub sound_used : (r : Record) → is_sound r ≡ true → is_in_use r ≡ true → has_address r ≡ true
sound_used r e u = (sound_found r u e).address
