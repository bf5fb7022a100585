-- What stands beside the promises: every table of a run is sound, `add` accepts what the entries tell, each input comes back with its
-- answer, C4 in either case and over the record, C5 byte by byte, and what passes the checks before 412 by the paper's list.
use mathlib.Core.Path.{◌≡◌, sym, ◌∙◌, ap}
use mathlib.Core.Bool.{Bool, true, false, not, ◌&&◌}
use mathlib.Core.List.{List, map}
use mathlib.Core.Logic.{◌↔◌}
use Prim.Native.Nat.{ℕ, ◌<◌}
use lib.Dec.{eqb, leb, ltb}
use lib.ListN.{take}
use borrow.Author.Tests.{lt-ltb, ltb-true}
use Rattle.laws.specs.Lists.{any, every, pairwise, same}
use Rattle.laws.proofs.Tests.{and_left, and_right, same_equal}
use Rattle.text.specs.Names.{same_text}
use Rattle.tag.proofs.Written.{tag_either_case}
use Rattle.record.specs.Address.{same_address}
use Rattle.record.specs.Places.{matching}
use Rattle.record.specs.Sound.{all_sound}
use Rattle.publish.specs.Refusals.{refusals}
use Rattle.table.specs.Table.{bad_size, is_known}
use Rattle.table.specs.HeldRecord.{is_held}
use Rattle.table.specs.Handle.{case_of}
use Rattle.table.specs.Run.{Sending, Exchange, Given}
use Rattle.runs.specs.Run.{Run, has_room, exchanges, inputs, table_at_end, accepted}
use Rattle.runs.specs.Added.{added_in, is_added, entry_of}
use Rattle.runs.specs.Reach.{is_read, is_for, inputs_for, history_of}
use Rattle.runs.specs.Alone.{Life, alone, life_of}
use Rattle.runs.specs.Tags.{Stands, stands, has_tag, package_in, succeeded, tag_given, gave, is_not_back, is_tried, tags_given}
use Rattle.runs.proofs.Fine.{fine_begun, fine_at_end}
use Rattle.runs.proofs.Sent.{uri}
use Rattle.runs.proofs.Lives.{known_sent}
use Rattle.runs.proofs.Begun.{added_accepted, known_begun}
use Rattle.runs.proofs.Given.{given_in, exchanges_in, inputs_back, few_spent}
use Rattle.runs.proofs.Tried.{matches}
use Rattle.runs.proofs.History.{kept_alone, clock_alone, live_alone}
use Rattle.runs.proofs.Standing.{stands_tested}
use Rattle.runs.proofs.Fresh.{all_differ_as_written}
use Rattle.runs.proofs.Checks.{checks}
use Rattle.runs.proofs.Promises.{C1, C5, history_alone}

-- the table of a run has its sizes, whole records and sound ones. A run that stops earlier is a run, so this is every table of it
pub record Good (r : Run) : Type 0 where
  pub good_size : bad_size (table_at_end r) ≡ false
  pub held : every is_held (table_at_end r).records ≡ true
  pub sound : all_sound (table_at_end r).records ≡ true

-- and so it is in every run
pub always_good : (r : Run) → Good r
always_good r = let f = fine_at_end r in record { good_size = f.size; held = f.held; sound = f.sound }

-- the entries that are added are those that `add` accepts with result 0
pub added_as_told : (r : Run) → added_in r ≡ accepted r
added_as_told r = added_accepted r

-- each input comes back with its answer, in their order
pub inputs_kept : (r : Run) → map (λ x. x.input) (exchanges r) ≡ inputs r
inputs_kept r = rw (exchanges_in r) (inputs_back (inputs r) _)

-- tokens that are the same in either case stand alike
pub stands_in_either_case : (t u : List ℕ) → same_text t u ≡ true → (p clock : ℕ) (before : List Exchange)
    → Stands t p clock before ↔ Stands u p clock before
unfolding gave
stands_in_either_case t u e p clock before = (
  λ s. record { giving = s.giving; gave_it = sym (alike s.giving.now) ∙ s.gave_it; lasts = s.lasts; not_presented = s.not_presented },
  λ s. record { giving = s.giving; gave_it = alike s.giving.now ∙ s.gave_it; lasts = s.lasts; not_presented = s.not_presented },
)
  where
    alike : (x : Exchange) → gave t p x ≡ gave u p x
    alike x = ap (λ b. succeeded x && (eqb (package_in x.input) p && b)) (tag_either_case t u (tag_given x) e)

module _ (r : Run) (a : List ℕ) (h : is_added a r ≡ true) where
  -- the record of the address is the one that it has alone
  own_alone : (life_of a r).own ≡ (alone (entry_of a r) (inputs_for a r)).own
  own_alone = ap (λ (l : Life). l.own) (C1 r a h)

  -- C5 byte by byte: no two successes give the same tag as it is written
  pub C5_as_written : pairwise (λ t u. not (same t u)) (tags_given (history_of a r)) ≡ true
  C5_as_written = all_differ_as_written (tags_given (history_of a r)) (C5 r a h)

  -- C4 over the record: for any clock that is not below the latest success's, it has a live publication of the package p with the tag t
  -- if and only if t stands for p by the history
  pub C4_live : (t : List ℕ) (p clock : ℕ) → is_not_back clock (history_of a r) ≡ true
      → (matching clock p t (life_of a r).own < 8) ↔ Stands t p clock (history_of a r)
  C4_live t p clock k = (λ m. test.0 (sym is ∙ lt-ltb _ 8 m), λ s. ltb-true _ 8 (is ∙ test.1 s))
    where
      test : (stands t p clock (history_of a r) ≡ true) ↔ Stands t p clock (history_of a r)
      test = stands_tested t p clock (history_of a r)

      is : ltb (matching clock p t (life_of a r).own) 8 ≡ stands t p clock (history_of a r)
      is =
          rw (own_alone, history_alone r a h)
          (matches clock p t _ (kept_alone (entry_of a r) (few_spent r a h) (inputs_for a r))
          ∙ live_alone (entry_of a r) (few_spent r a h) clock p t (inputs_for a r) (rw (history_alone r a h) at k))

  -- the address is in the table at the end
  known_at_end : is_known a (table_at_end r) ≡ true
  unfolding table_at_end
  known_at_end = ap (λ (g : Given). is_known a g.table) (given_in r) ∙ known_sent a (inputs r) _ (fine_begun r) ∙ known_begun r a ∙ h

  -- the clock of the record is that of the latest success
  clock_told : (clock : ℕ) → is_not_back clock (history_of a r) ≡ leb (life_of a r).own.clock clock
  clock_told clock = rw (own_alone, history_alone r a h) (sym (clock_alone (entry_of a r) (few_spent r a h) clock (inputs_for a r)))

  -- an input for the address is tried for a match, by the history, exactly if it presents a tag and none of the paper's refusals before
  -- 412, which are the first twelve, applies
  pub tried_exactly : (x : Sending) → has_room x ≡ true → is_for a x.input ≡ true
      → is_tried x.input (history_of a r)
      ≡ (has_tag x.input && not (any (λ w. w.applies) (take 12 (refusals (case_of (table_at_end r) x.buffer x.input)))))
  unfolding is_tried life_of is_for same_address
  tried_exactly x room own =
      let its : uri x.input ≡ a = same_equal _ _ (and_right (is_read x.input) _ own) in
      let left = checks (table_at_end r) x (fine_at_end r) room (and_left _ _ own) (rw its known_at_end) in
      rw (clock_told x.input.clock) (ap (λ (b : Bool). has_tag x.input && b) (rw its at left))
