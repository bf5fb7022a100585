-- What the history of an address alone tells: at its end, which publications are live; at every moment, whether a presented tag matches.
use mathlib.Core.Path.{◌≡◌, refl, sym, ◌∙◌}
use mathlib.Core.Bool.{true, false, not, and-true, or-false}
use mathlib.Core.List.{List, [], ◌∷◌}
use Prim.Native.Nat.{ℕ, ◌≤◌}
use native.Mathlib.Omega.{arith}
use lib.Dec.{leb}
use lib.ListN.{replicate}
use borrow.Author.Tests.{leb-true, le-leb, not-true}
use Rattle.laws.specs.Lists.{any}
use Rattle.laws.proofs.Tests.{and_left, and_right}
use Rattle.request.specs.Head.{head_of}
use Rattle.request.specs.Fields.{is_bad_match}
use Rattle.record.specs.Places.{places, places_in, is_live}
use Rattle.record.specs.declared.Record.{Record}
use Rattle.record.proofs.Places.{place_at}
use Rattle.publish.specs.Refusals.{is_bad_event}
use Rattle.publish.specs.Step.{own_after}
use Rattle.table.specs.Add.{Entry, fresh_record}
use Rattle.table.specs.Handle.{Input}
use Rattle.table.specs.Run.{Exchange}
use Rattle.runs.specs.Reach.{is_read, Moment}
use Rattle.runs.specs.Alone.{case_at, answered, beginning, alone_from, alone}
use Rattle.runs.specs.Tags.{has_tag, tag_in, package_in, stands, some_left, is_not_back, is_tried, matched}
use Rattle.runs.proofs.Kept.{Kept, kept_fresh, kept_on}
use Rattle.runs.proofs.SomePlace.{any_agree}
use Rattle.runs.proofs.Succeeds.{fits}
use Rattle.runs.proofs.Told.{tells, told}
use Rattle.runs.proofs.Latest.{latest}
use Rattle.runs.proofs.Tried.{holds, matched_at}
use Rattle.runs.proofs.Moments.{each_front}

-- any inputs keep what a record keeps
kept_all : (r : Record) (bs : List ℕ) (xs : List Input) → Kept r → Kept (alone_from r bs xs).own
unfolding alone_from beginning case_at
kept_all r bs [] kept = kept
kept_all r bs (x ∷ xs) kept = kept_all (own_after (case_at true r x)) _ xs (kept_on (case_at true r x) kept)

-- what no exchange tells is what the record has
none_tells : (clock p : ℕ) (w : List ℕ) (r : Record) → tells clock p w [] r ≡ holds clock p w r
unfolding tells stands some_left any
none_tells clock p w r = any_agree _ _ (places r) (places r) refl (λ k. and-true (fits clock p w (place_at (places r) k)))

-- a fresh record has nothing, so the exchanges alone tell
fresh_tells : (e : Entry) (clock p : ℕ) (w : List ℕ) (before : List Exchange) → tells clock p w before (fresh_record e) ≡ stands w p clock before
unfolding tells fresh_record places places_in any is_live
fresh_tells e clock p w before = or-false (stands w p clock before)

-- what an input passes that is tried for a match
record Tried (x : Input) (before : List Exchange) : Type 0 where
  pub tag : has_tag x ≡ true
  pub event : is_bad_event x.request (head_of x.request) ≡ false
  pub not_back : is_not_back x.clock before ≡ true
  pub token : is_bad_match x.request (head_of x.request) ≡ false

-- it does where the test holds
tried : (x : Input) (before : List Exchange) → is_tried x before ≡ true → Tried x before
unfolding is_tried
tried x before e =
    let event = and_right (has_tag x) _ e in
    let clock = and_right (not (is_bad_event x.request (head_of x.request))) _ event in
    record {
      tag = and_left _ _ e;
      event = not-true _ (and_left _ _ event);
      not_back = and_left _ _ clock;
      token = not-true _ (and_right (is_not_back x.clock before) _ clock);
    }

module _ (e : Entry) (few : e.spent ≤ 4294967295) where
  -- what an address alone keeps
  pub kept_alone : (xs : List Input) → Kept (alone e xs).own
  unfolding alone
  kept_alone xs = kept_all (fresh_record e) (replicate 4096 0) xs (kept_fresh e few)

  -- its clock is not above one exactly where no success was
  pub clock_alone : (clock : ℕ) (xs : List Input) → leb (alone e xs).own.clock clock ≡ is_not_back clock (alone e xs).exchanges
  unfolding alone fresh_record
  clock_alone clock xs = latest clock (fresh_record e) (replicate 4096 0) xs ∙ rw (le-leb 0 clock (omega arith))

  -- its record has live what its history tells
  pub live_alone : (clock p : ℕ) (w : List ℕ) (xs : List Input) → is_not_back clock (alone e xs).exchanges ≡ true
      → holds clock p w (alone e xs).own ≡ stands w p clock (alone e xs).exchanges
  unfolding alone
  live_alone clock p w xs k =
      sym (none_tells clock p w _) ∙ told clock p w (fresh_record e) (replicate 4096 0) xs (kept_fresh e few) k ∙ fresh_tells e clock p w _

  -- whether a presented tag matches at a moment
  abbrev Answers : List Exchange → Exchange → Type 0
  Answers before now =
      is_read now.input ≡ true → is_tried now.input before ≡ true
      → matched now ≡ stands (tag_in now.input) (package_in now.input) now.input.clock before

  -- after any front of the inputs
  next_alone : (front : List Input) (x : Input) → Answers (alone e front).exchanges (answered x (case_at true (alone e front).own x))
  unfolding answered
  next_alone front x read k =
      let t = tried x (alone e front).exchanges k in
      let clock = leb-true _ _ (clock_alone x.clock front ∙ t.not_back) in
      matched_at (alone e front).own x (kept_alone front) read t.tag t.event clock t.token
      ∙ live_alone x.clock (package_in x) (tag_in x) front t.not_back

  -- so at every moment
  pub match_alone : (xs : List Input) (m : Moment (alone e xs).exchanges) → Answers m.before m.now
  unfolding alone
  match_alone xs m = each_front Answers (fresh_record e) (replicate 4096 0) next_alone xs m
