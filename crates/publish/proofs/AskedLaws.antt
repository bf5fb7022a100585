-- The laws of what is asked: the slot that is presented is one of eight, or 8, and the time granted, the length and the To asked are what their
-- definitions say.
use mathlib.Core.Path.{◌≡◌, ap}
use mathlib.Core.Bool.{Bool, true, false, ◌&&◌, not}
use mathlib.Core.List.{List}
use Prim.Native.Nat.{ℕ, ◌≤◌}
use native.Mathlib.Omega.{arith}
use lib.Dec.{eqb, ltb}
use lib.ListN.{length}
use Rattle.laws.proofs.Lists.{place_within}
use Rattle.request.specs.Names.{To}
use Rattle.request.specs.To.{to_value}
use Rattle.request.specs.Head.{value_named}
use Rattle.request.specs.Fields.{has_match, body_length, match_text}
use Rattle.request.specs.declared.Head.{Head}
use Rattle.record.specs.Places.{live, places, matching}
use Rattle.record.specs.declared.Record.{Record}
use Rattle.record.proofs.Held.{Held, held_slots}
use Rattle.success.proofs.StoreLaws.{places_in_length}
use Rattle.publish.specs.Refusals.{event_of, granted, presented, is_full}
use Rattle.publish.specs.Asked.{asked_of}
use Rattle.publish.specs.declared.Asked.{Asked}

-- the slot that has the package and the tag is one of the record's, or their number
pub matching_most : (clock event : ℕ) (token : List ℕ) (r : Record) → matching clock event token r ≤ length r.slots
unfolding matching places
matching_most clock event token r =
    let most : matching clock event token r ≤ length (places r) = place_within _ (places r) in
    omega (arith, places_in_length r.map r.slots)

-- the slot that is presented is one of eight, or 8
pub presented_most : (r : Record) (clock : ℕ) (s : List ℕ) (h : Head) → Held r → {k : ℕ} → k ≡ presented r clock s h → k ≤ 8
unfolding presented
presented_most r clock s h e k = omega (arith, matching_most clock (event_of s h) (match_text s h) r, held_slots r e)

module _ (r : Record) (clock : ℕ) (s : List ℕ) (h : Head) {a : Asked} (e : a ≡ asked_of r clock s h) where
  -- the time granted is what its definition says
  pub asked_granted : a.granted ≡ granted s h
  unfolding asked_of
  asked_granted = ap (λ (a : Asked). a.granted) e

  -- the length asked is that of the body
  pub asked_length : a.length ≡ body_length s h
  unfolding asked_of
  asked_length = ap (λ (a : Asked). a.length) e

  -- what is asked of To is what its value says of its tag
  pub asked_to : a.to ≡ to_value (value_named To s h)
  unfolding asked_of
  asked_to = ap (λ (a : Asked). a.to) e

  -- no tag is presented, time is granted, and eight are live
  pub asks_full : {answer : Bool} → answer ≡ (not (has_match h) && (ltb 0 a.granted && eqb (length (live clock r)) 8)) → answer ≡ is_full r clock s h
  unfolding is_full
  asks_full d = rw (← asked_granted) d

  -- where no tag is presented and time is granted, whether eight are live decides
  pub asks_eight : {n : ℕ} → has_match h ≡ false → ltb 0 a.granted ≡ true → n ≡ length (live clock r) → eqb n 8 ≡ is_full r clock s h
  asks_eight m t d = asks_full (rw (m, t, d))
