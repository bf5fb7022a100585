-- Inputs to a table of a run that are for no address of it: what comes back follows from the input alone. And what never comes back.
use mathlib.Core.Path.{◌≡◌, refl, sym, ◌∙◌, ap₂}
use mathlib.Core.Bool.{Bool, true, false, not}
use mathlib.Core.List.{List, [], ◌∷◌, ◌++◌}
use Prim.Native.Nat.{ℕ, ◌≤◌}
use lib.Dec.{eqb}
use lib.ListN.{length, drop, get_or-eq_default}
use borrow.Author.Tests.{ltb-false, not-true}
use Rattle.laws.specs.First.{first_of}
use Rattle.laws.specs.Lists.{any, every}
use Rattle.request.specs.Head.{head_of}
use Rattle.success.specs.After.{given_tag}
use Rattle.record.specs.Places.{empty_record}
use Rattle.record.specs.declared.Record.{Record}
use Rattle.response.specs.Outcomes.{result_of}
use Rattle.publish.specs.Refusals.{outcome_of, refusals, size_rows, reading_rows, request_rows, address_rows, content_rows, room_rows, is_bad_size, granted}
use Rattle.response.specs.declared.Outcome.{Outcome}
use Rattle.response.specs.declared.Outcome.TheVariants.{Granted}
use Rattle.table.specs.Table.{Table, place_for, is_known, record_at}
use Rattle.table.specs.Add.{Entry}
use Rattle.table.specs.Handle.{Input}
use Rattle.table.specs.Run.{in_front_of}
use Rattle.runs.specs.Added.{is_of, is_among}
use Rattle.runs.specs.Reach.{is_read, is_for, Moment}
use Rattle.runs.specs.Alone.{case_at, answered, elsewhere}
use Rattle.runs.specs.Tags.{came_back}
use Rattle.runs.proofs.Fine.{Fine}
use Rattle.runs.proofs.Sent.{uri, own_in, case_in, table_in, send_in, fine_in}
use Rattle.runs.proofs.Own.{known_same}
use Rattle.runs.proofs.Outcome.{first_fails, outcome_unread, answered_alike}
use Rattle.runs.proofs.Moments.{no_moment, each_moment}

-- an input is for none of these entries
abbrev pub for_none : List Entry → Input → Bool
for_none es x = not (any (λ e. is_for e.address x) es)

-- an input that is read as far as its address is for one of them exactly where that address is among them
for_among : (es : List Entry) (x : Input) → is_read x ≡ true → any (λ e. is_for e.address x) es ≡ is_among (uri x) es
unfolding is_among is_of is_for
for_among es x e = rw e

-- an address that is not in the table has no record
none_own : (a : List ℕ) (t : Table) → is_known a t ≡ false → own_in a t ≡ empty_record
unfolding is_known record_at
none_own a t e =
    let past : length t.records ≤ place_for a t = ltb-false _ _ e in get_or-eq_default t.records empty_record past

module _ (es : List Entry) where
  -- what comes back for an input that is for none, where these are in the table
  answer_none : (t : Table) (x : Input) → ((a : List ℕ) → is_known a t ≡ is_among a es) → for_none es x ≡ true
      → answered x (case_in t x) ≡ elsewhere x
  unfolding elsewhere
  answer_none t x known none = go (is_read x) refl
    where
      go : (b : Bool) → is_read x ≡ b → answered x (case_in t x) ≡ elsewhere x
      go true e =
          let unknown : is_known (uri x) t ≡ false = known (uri x) ∙ sym (for_among es x e) ∙ not-true _ none in
          ap₂ (λ (k : Bool) (o : Record). answered x (case_at k o x)) unknown (none_own (uri x) t unknown)
      go false e = answered_alike _ _ _ _ x (outcome_unread _ _ x e ∙ sym (outcome_unread _ _ x e))

  -- and so at every moment
  pub answers_none : (xs : List Input) (t : Table) → Fine t → ((a : List ℕ) → is_known a t ≡ is_among a es)
      → (m : Moment (send_in xs t).exchanges) → for_none es m.now.input ≡ true → m.now ≡ elsewhere m.now.input
  unfolding send_in in_front_of answered
  answers_none [] t f known m = absurd (no_moment m)
  answers_none (x ∷ xs) t f known m =
      each_moment (λ before now. for_none es now.input ≡ true → now ≡ elsewhere now.input) _ _ (answer_none t x known)
      (answers_none xs (table_in t x) (fine_in t x f) (λ a. known_same t x f a ∙ known a)) m

-- a result that says something of the sizes or of the records that are lent: 1, 2 or 5
abbrev pub of_lent : Outcome → Bool
of_lent o = any (eqb (result_of o)) (1 ∷ 2 ∷ 5 ∷ [])

-- none of them comes back where sizes are accepted and records are sound
never : (known : Bool) (r : Record) (x : Input) → of_lent (outcome_of (case_at known r x)) ≡ false
unfolding outcome_of case_at refusals size_rows is_bad_size request_rows reading_rows address_rows content_rows room_rows first_of any every result_of
never known r x =
    let s = x.request in
    let h = head_of s in
    first_fails of_lent (drop 2 (size_rows 4608 1 4096 (length s) x.clock) ++ request_rows known r x.clock s h)
    (Granted (given_tag r) (granted s h)) refl refl

-- and so at every moment
pub never_of_lent : (xs : List Input) (t : Table) (m : Moment (send_in xs t).exchanges) → of_lent (came_back m.now) ≡ false
unfolding send_in in_front_of answered came_back
never_of_lent [] t m = absurd (no_moment m)
never_of_lent (x ∷ xs) t m =
    each_moment (λ before now. of_lent (came_back now) ≡ false) _ _ (never _ _ x) (never_of_lent xs (table_in t x)) m
