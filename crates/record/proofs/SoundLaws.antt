-- What soundness says of a record, place by place: the test holds exactly where these facts do.
use mathlib.Core.Path.{◌≡◌, refl, sym, ◌∙◌}
use mathlib.Core.Bool.{Bool, true, false, ◌&&◌, ◌||◌, not, false≢true}
use mathlib.Core.List.{List}
use Prim.Native.Nat.{ℕ, ◌+◌, ◌-◌, ◌≤◌}
use native.Mathlib.Omega.{arith}
use lib.Dec.{leb}
use borrow.Author.Tests.{eqb-true, leb-true, leb-false, le-leb, lt-leb}
use Rattle.laws.specs.Lists.{every, pairwise}
use Rattle.laws.proofs.Tests.{and_left, and_right}
use Rattle.text.specs.Class.{from_to}
use Rattle.tag.specs.Given.{number_of_tag, is_given}
use Rattle.record.specs.Packages.{package_at, is_listed}
use Rattle.record.specs.Places.{Place, is_in_use, places, occupied}
use Rattle.record.specs.Address.{has_address}
use Rattle.record.specs.Sound.{latest_clock, is_sound_slot, tags_differ, numbers_differ, slots_differ, is_sound}
use Rattle.record.specs.declared.Slot.{Slot}
use Rattle.record.specs.declared.Record.{Record}
use Rattle.record.proofs.WalkLaws.{pairwise_both}
use Rattle.record.proofs.Places.{place_at, Apart, each_found, each_tested, apart_found, apart_tested}

-- what a sound slot is
pub record SlotHolds (r : Record) (s : Slot) : Type 0 where
  pub listed : is_listed s.event ≡ true
  pub short : s.length ≤ 512
  pub ends : s.end ≤ r.clock + (package_at s.event).most
  pub number_first : 1 ≤ s.edition
  pub number_last : s.edition ≤ r.spent
  pub tag_first : 1 ≤ number_of_tag r.start s.tag
  pub tag_last : number_of_tag r.start s.tag ≤ r.spent

-- what a sound record in use is, with these places
pub record RecordHolds (r : Record) (ps : List Place) : Type 0 where
  pub address : has_address r ≡ true
  pub in_time : r.clock ≤ latest_clock
  pub each : (k : ℕ) → (place_at ps k).taken ≡ true → SlotHolds r (place_at ps k).slot
  pub tags : Apart (λ s. s.tag) ps
  pub numbers : Apart (λ s. s.edition) ps

-- a slot that passes the test is so
slot_found : (r : Record) (s : Slot) → is_sound_slot r s ≡ true → SlotHolds r s
unfolding is_sound_slot is_given
slot_found r s e =
    let e₁ = and_right (is_listed s.event) _ e in
    let e₂ = and_right (leb s.length 512) _ e₁ in
    let e₃ = and_right (leb s.end (r.clock + (package_at s.event).most)) _ e₂ in
    let n = and_left (from_to 1 r.spent s.edition) _ e₃ in
    let t = and_right (from_to 1 r.spent s.edition) _ e₃ in
    record {
      listed = and_left (is_listed s.event) _ e;
      short = leb-true _ _ (and_left (leb s.length 512) _ e₁);
      ends = leb-true _ _ (and_left (leb s.end (r.clock + (package_at s.event).most)) _ e₂);
      number_first = leb-true _ _ (and_left (leb 1 s.edition) _ n);
      number_last = leb-true _ _ (and_right (leb 1 s.edition) _ n);
      tag_first = leb-true _ _ (and_left (leb 1 (number_of_tag r.start s.tag)) _ t);
      tag_last = leb-true _ _ (and_right (leb 1 (number_of_tag r.start s.tag)) _ t);
    }

-- a slot that is so passes the test
slot_tested : (r : Record) (s : Slot) → SlotHolds r s → is_sound_slot r s ≡ true
unfolding is_sound_slot is_given
slot_tested r s h =
    rw (
      h.listed,
      le-leb _ _ h.short,
      le-leb _ _ h.ends,
      le-leb _ _ h.number_first,
      le-leb _ _ h.number_last,
      le-leb _ _ h.tag_first,
      le-leb _ _ h.tag_last,
    )

-- of a record in use more is asked
used_tested : (u b : Bool) → u ≡ true → (not u || b) ≡ true → b ≡ true
used_tested true b h e = e
used_tested false b h e = absurd (false≢true h)

-- a record in use that passes the test is so
pub sound_found : (r : Record) → is_in_use r ≡ true → is_sound r ≡ true → RecordHolds r (places r)
unfolding is_sound occupied slots_differ tags_differ numbers_differ
sound_found r u e =
    let e₀ = used_tested (is_in_use r) _ u (and_right (leb r.used 1) _ e) in
    let e₁ = and_right (has_address r) _ e₀ in
    let e₂ = and_right (leb r.clock latest_clock) _ e₁ in
    let e₃ = and_right (every (is_sound_slot r) (occupied r)) _ e₂ in
    record {
      address = and_left (has_address r) _ e₀;
      in_time = leb-true _ _ (and_left (leb r.clock latest_clock) _ e₁);
      each = λ k t. slot_found r _ (each_found (is_sound_slot r) (places r) (and_left (every (is_sound_slot r) (occupied r)) _ e₂) k t);
      tags = apart_found (λ s. s.tag) (places r) (and_left (pairwise tags_differ (occupied r)) _ e₃);
      numbers = apart_found (λ s. s.edition) (places r) (and_right (pairwise tags_differ (occupied r)) _ e₃);
    }

-- a record in use says so by 1
marked : (r : Record) → is_in_use r ≡ true → leb r.used 1 ≡ true
unfolding is_in_use
marked r u = rw (eqb-true r.used 1 u)

-- a record in use that is so passes the test
pub sound_tested : (r : Record) (ps : List Place) → is_in_use r ≡ true → places r ≡ ps → RecordHolds r ps → is_sound r ≡ true
unfolding is_sound occupied slots_differ tags_differ numbers_differ
sound_tested r ps u e h =
    rw (
      marked r u,
      u,
      e,
      h.address,
      le-leb _ _ h.in_time,
      each_tested (is_sound_slot r) ps (λ k t. slot_tested r _ (h.each k t)),
      apart_tested (λ s. s.tag) ps h.tags,
      apart_tested (λ s. s.edition) ps h.numbers,
    )

-- a record that is not in use is sound
pub unused_sound : (r : Record) → r.used ≡ 0 → is_sound r ≡ true
unfolding is_sound is_in_use
unused_sound r p = rw p

-- one that is neither in use nor not is not
pub unmarked_unsound : (r : Record) → (r.used ≡ 0 → ⊥) → (r.used ≡ 1 → ⊥) → is_sound r ≡ false
unfolding is_sound
unmarked_unsound r p q = rw (lt-leb r.used 1 (omega (arith, p, q)))

-- an end is in time where what is left of it past the clock is; an end up to the clock has nothing left
pub left_in_time : (end clock most : ℕ) {left given : ℕ} → left ≡ end - clock → given ≡ most → leb left given ≡ leb end (clock + most)
left_in_time end clock most {left} {given} e f = go (leb end (clock + most)) refl
  where
    go : (b : Bool) → leb end (clock + most) ≡ b → leb left given ≡ leb end (clock + most)
    go true h = le-leb left given (omega (arith, leb-true end (clock + most) h)) ∙ sym h
    go false h = lt-leb left given (omega (arith, leb-false end (clock + most) h)) ∙ sym h

-- two slots differ in tag and in body number
abbrev pub differs : Slot → Slot → Bool
differs s t = tags_differ s t && numbers_differ s t

-- tags and body numbers are asked together
pub slots_asked : (ss : List Slot) → slots_differ ss ≡ pairwise differs ss
unfolding slots_differ
slots_asked ss = sym (pairwise_both tags_differ numbers_differ ss)
