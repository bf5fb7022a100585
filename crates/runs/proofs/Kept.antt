-- What the record of an address keeps from success to success: eight slots, and different tags that its own numbers gave.
use mathlib.Core.Path.{◌≡◌, refl, sym, ◌∙◌, ap, subst}
use mathlib.Core.Bool.{Bool, true, false, not, true≢false}
use mathlib.Core.List.{List, [], ◌∷◌}
use mathlib.Core.Logic.{inl, inr, ⊎_elim}
use Prim.Native.Nat.{ℕ, zero, suc, ◌+◌, ◌<◌, ◌≤◌}
use native.Mathlib.Omega.{arith}
use lib.ListN.{length}
use borrow.Author.Tests.{not-true}
use Rattle.laws.specs.Choose.{pick}
use Rattle.laws.specs.Lists.{every}
use Rattle.laws.proofs.Tests.{and_left, every_head, every_tail}
use Rattle.tag.specs.Given.{SomeGives}
use Rattle.tag.proofs.Tag.{tag_below, tags_differ_lem}
use Rattle.record.specs.Places.{Place, places, places_in, is_live}
use Rattle.success.specs.After.{success_number, given_tag, written_slot, written, places_after, record_after}
use Rattle.record.specs.declared.Record.{Record}
use Rattle.success.specs.declared.Success.{Success}
use Rattle.record.proofs.Places.{place_at, Apart, Came, apart_after}
use Rattle.success.proofs.Stands.{IsNew, IsOld, stands}
use Rattle.success.proofs.StoreLaws.{slots_of_length, places_after_length}
use Rattle.success.proofs.AfterLaws.{places_after_lem}
use Rattle.response.specs.Outcomes.{is_success}
use Rattle.publish.specs.Refusals.{Case, outcome_of}
use Rattle.publish.specs.Step.{success_of, own_after}
use Rattle.table.specs.Add.{Entry, fresh_record}
use Rattle.table.proofs.GrantedLaws.{grants}

-- a tag that the record's own numbers gave
abbrev Gave : Record → Place → Type 0
Gave r o = o.taken ≡ true → SomeGives r.start r.spent o.slot.tag

-- what is kept
pub record Kept (r : Record) : Type 0 where
  pub few : r.spent ≤ 4294967295
  pub eight : length r.slots ≡ 8
  pub given : (k : ℕ) → Gave r (place_at (places r) k)
  pub apart : Apart (λ s. s.tag) (places r)

-- such a tag is a number of 32 bits
pub small : (r : Record) → Kept r → (k : ℕ) → (place_at (places r) k).taken ≡ true → (place_at (places r) k).slot.tag < 4294967296
small r kept k t = let g = kept.given k t in subst (λ (n : ℕ). n < 4294967296) g.gives (tag_below r.start g.n)

-- where no place is taken, none is
none_taken : (os : List Place) → every (λ o. not o.taken) os ≡ true → (k : ℕ) → (place_at os k).taken ≡ true → ⊥
none_taken [] e k t = true≢false (sym t)
none_taken (o ∷ os) e zero t = true≢false (sym t ∙ not-true _ (every_head (λ o. not o.taken) o os e))
none_taken (o ∷ os) e (suc k) t = none_taken os (every_tail (λ o. not o.taken) o os e) k t

-- a fresh record has it
pub kept_fresh : (e : Entry) → e.spent ≤ 4294967295 → Kept (fresh_record e)
unfolding fresh_record places places_in every
kept_fresh e h =
    record {
      few = h;
      eight = refl;
      given = λ k t. absurd (none_taken (places (fresh_record e)) refl k t);
      apart = λ i j s t same. absurd (none_taken (places (fresh_record e)) refl i s);
    }

module _ (x : Success) (r : Record) (kept : Kept r) (unspent : r.spent ≡ 4294967295 → ⊥) where
  -- a place after a success has the new tag, or the one that it had
  came : (k : ℕ) → (place_at (places_after x r) k).taken ≡ true
      → Came (λ s. s.tag) (given_tag r) (written_slot x r) (places r) (places_after x r) k
  unfolding written is_live
  came k t = ⊎_elim new old (stands x r k t)
    where
      new : IsNew x r k → Came (λ s. s.tag) (given_tag r) (written_slot x r) (places r) (places_after x r) k
      new n = inl (n.here, ap (λ s. s.tag) n.holds)

      old : IsOld x r k → Came (λ s. s.tag) (given_tag r) (written_slot x r) (places r) (places_after x r) k
      old o = inr (and_left (place_at (places r) k).taken _ o.runs, ap (λ q. q.slot.tag) o.stays)

  -- no place has the new tag before it
  never : (k : ℕ) → (place_at (places r) k).taken ≡ true → (place_at (places r) k).slot.tag ≡ given_tag r → ⊥
  unfolding given_tag success_number
  never k t e =
      let g = kept.given k t in
      tags_differ_lem r.start g.n (r.spent + 1) g.first (omega (arith, g.last)) (omega (arith, kept.few, unspent)) (g.gives ∙ e)

  -- so a success keeps it
  pub kept_after : Kept (record_after x r)
  unfolding record_after given_tag success_number
  kept_after =
      record {
        few = omega (arith, kept.few, unspent);
        eight = slots_of_length (places_after x r) ∙ places_after_length x r ∙ kept.eight;
        given = λ k. rw (places_after_lem x r) (λ t. go k (came k t));
        apart =
            rw (places_after_lem x r) (apart_after (λ s. s.tag) (given_tag r) (written_slot x r) (places r) (places_after x r) came never kept.apart);
      }
    where
      go : (k : ℕ) → Came (λ s. s.tag) (given_tag r) (written_slot x r) (places r) (places_after x r) k
          → SomeGives r.start (r.spent + 1) (place_at (places_after x r) k).slot.tag
      go k (inl n) = record { n = r.spent + 1; first = omega arith; last = omega arith; gives = sym n.1 }
      go k (inr o) =
          let g = kept.given k o.0 in
          record { n = g.n; first = g.first; last = omega (arith, g.last); gives = g.gives ∙ sym o.1 }

-- and so does any input at the record
pub kept_on : (c : Case) → Kept c.own → Kept (own_after c)
unfolding own_after
kept_on c kept = go (is_success (outcome_of c)) refl
  where
    go : (b : Bool) → is_success (outcome_of c) ≡ b → Kept (pick b (record_after (success_of c) c.own) c.own)
    go true e = kept_after (success_of c) c.own kept (grants c e).unspent
    go false e = kept
