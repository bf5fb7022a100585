-- Demand 3, over any run and with no bound on its length. Of a run only sizes are asked (specs/Run). Which addresses were added is read off
-- the entries (specs/Added), which inputs are for one off the inputs (specs/Reach), and what was given and presented off inputs and
-- answers (specs/Tags). `alone` is one address by itself, with no table (specs/Alone).
use mathlib.Core.Path.{◌≡◌, sym, ◌∙◌, ap, ap₂}
use mathlib.Core.Bool.{true, false}
use mathlib.Core.List.{List, [], ◌∷◌, map}
use mathlib.Core.Logic.{◌↔◌}
use Prim.Native.Nat.{ℕ}
use lib.Dec.{eqb}
use lib.ListN.{length, replicate}
use Rattle.laws.specs.Lists.{any}
use Rattle.laws.proofs.Tests.{and_left}
use Rattle.response.specs.Outcomes.{result_of}
use Rattle.table.specs.Add.{fresh_record}
use Rattle.table.specs.Run.{begun}
use Rattle.runs.specs.Run.{Run, given, exchanges, table_at_end, inputs}
use Rattle.runs.specs.Added.{added_in, is_added, entry_of}
use Rattle.runs.specs.Reach.{is_read, is_for, is_for_none, inputs_for, history_of, Moment}
use Rattle.runs.specs.Alone.{Life, alone_from, alone, next, life_of, elsewhere}
use Rattle.runs.specs.Tags.{Stands, tag_in, package_in, came_back, is_tried, matched, tags_given, all_differ}
use Rattle.runs.proofs.Fine.{fine_begun}
use Rattle.runs.proofs.Sent.{send_in}
use Rattle.runs.proofs.Lives.{life_in, lives}
use Rattle.runs.proofs.Begun.{known_begun, own_begun, part_begun}
use Rattle.runs.proofs.Given.{given_in, exchanges_in, begun_alike, few_spent}
use Rattle.runs.proofs.Elsewhere.{answers_none, never_of_lent}
use Rattle.runs.proofs.Moments.{chosen_passes, each_next}
use Rattle.runs.proofs.Standing.{stands_tested}
use Rattle.runs.proofs.History.{match_alone}
use Rattle.runs.proofs.Fresh.{follows}

-- C1 (alone). The inputs for an address with their answers, its record and its part are those of the address by itself, from how it was
-- added and its own inputs in their order.
pub C1 : (r : Run) (a : List ℕ) → is_added a r ≡ true → life_of a r ≡ alone (entry_of a r) (inputs_for a r)
unfolding life_of history_of exchanges table_at_end inputs_for alone
C1 r a h =
    ap (life_in a) (given_in r) ∙ lives a (inputs r) (begun r.lent r.entries) (fine_begun r) (known_begun r a ∙ h)
    ∙ ap₂ (λ own part. alone_from own part (inputs_for a r)) (own_begun r a h) (part_begun r a h)

-- The history of an address is the one that it has alone.
pub history_alone : (r : Run) (a : List ℕ) → is_added a r ≡ true → history_of a r ≡ (alone (entry_of a r) (inputs_for a r)).exchanges
unfolding life_of
history_alone r a h = ap (λ (l : Life). l.exchanges) (C1 r a h)

-- So the answer to an input for an address follows from how the address was added, its own earlier inputs, and this input.
pub C1_next : (r : Run) (a : List ℕ) → is_added a r ≡ true → (m : Moment (history_of a r))
    → m.now ≡ next (entry_of a r) (map (λ x. x.input) m.before) m.now.input
unfolding next alone
C1_next r a h =
    rw (history_alone r a h) (each_next (fresh_record (entry_of a r)) (replicate 4096 0) (inputs_for a r))

-- C2 (no address). The answer to an input that is for no added address follows from the input alone. That it is for none is told by the
-- input and the addresses that were added.
pub C2 : (r : Run) (m : Moment (exchanges r)) → is_for_none r m.now.input ≡ true → m.now ≡ elsewhere m.now.input
unfolding is_for_none is_added
C2 r =
    rw (exchanges_in r) (answers_none (added_in r) (inputs r) (begun r.lent r.entries) (fine_begun r) (known_begun r))

-- Results 1, 2 and 5 speak of what is lent: no answer of a run has one of them.
pub C2_never : (r : Run) (m : Moment (exchanges r)) → any (eqb (result_of (came_back m.now))) (1 ∷ 2 ∷ 5 ∷ []) ≡ false
C2_never r = rw (exchanges_in r) (never_of_lent (inputs r) (begun r.lent r.entries))

-- C3 (others do not matter). Two runs in which an address was added in the same way and is sent the same inputs in the same order,
-- whatever else is lent, added and sent: no byte of its answers, of its record or of its part differs.
pub C3 : (r r' : Run) (a : List ℕ) → is_added a r ≡ true → is_added a r' ≡ true → entry_of a r ≡ entry_of a r' → inputs_for a r ≡ inputs_for a r'
    → life_of a r ≡ life_of a r'
C3 r r' a h h' entry own = C1 r a h ∙ ap₂ alone entry own ∙ sym (C1 r' a h')

-- With the same entries to as many records it is added in the same way.
pub C3_same_adds : (r r' : Run) (a : List ℕ) → is_added a r ≡ true
    → length r.lent.records ≡ length r'.lent.records → r.entries ≡ r'.entries → inputs_for a r ≡ inputs_for a r'
    → life_of a r ≡ life_of a r'
unfolding is_added entry_of added_in
C3_same_adds r r' a h n e own = C3 r r' a h (rw (n, e) at h) (rw (n, e)) own

-- C4 (a tag matches exactly when). At any moment of the history of an address whose input presents a tag and passes the checks before
-- 412: a live publication matches if and only if some earlier success there gave that tag for that package, the clock is below that
-- success's clock plus its granted time, and no later success there presented it, both in either case.
pub C4 : (r : Run) (a : List ℕ) → is_added a r ≡ true → (m : Moment (history_of a r)) → is_tried m.now.input m.before ≡ true
    → (matched m.now ≡ true) ↔ Stands (tag_in m.now.input) (package_in m.now.input) m.now.input.clock m.before
unfolding history_of is_for
C4 r a h m k =
    let read = and_left (is_read m.now.input) _ (chosen_passes (λ x. is_for a x.input) (exchanges r) m) in
    let is = (rw (← history_alone r a h) at (match_alone (entry_of a r) (few_spent r a h) (inputs_for a r))) m read k in
    let test = stands_tested (tag_in m.now.input) (package_in m.now.input) m.now.input.clock m.before in
    (λ e. test.0 (sym is ∙ e), λ s. is ∙ test.1 s)

-- C5 (fresh). No two successes at an address give the same tag, in either case, whatever the packages.
pub C5 : (r : Run) (a : List ℕ) → is_added a r ≡ true → all_differ (tags_given (history_of a r)) ≡ true
unfolding alone fresh_record
C5 r a h =
    ap (λ xs. all_differ (tags_given xs)) (history_alone r a h)
    ∙ (follows (fresh_record (entry_of a r)) (replicate 4096 0) (inputs_for a r) (few_spent r a h)).differ

-- What the lent records, the store and the answer buffers held has no part in any answer, nor in the table at the end.
pub whatever_lent : (r r' : Run) → length r.lent.records ≡ length r'.lent.records → r.entries ≡ r'.entries → inputs r ≡ inputs r'
    → given r ≡ given r'
whatever_lent r r' n e x = given_in r ∙ ap₂ send_in x (begun_alike r r' n e) ∙ sym (given_in r')
