-- Tags over a history: which were given, how long they last and which were presented. Read off inputs and answers, by no table.
-- Rules 4.11, 7.26 of docs/RULES.md.
use Rattle.std.specs.Prelude.{ℕ, ◌+◌, ◌<◌, ◌≡◌, Bool, true, false, ◌&&◌, ◌||◌, not, List, [], ◌∷◌, map, eqb, ltb, leb}
use Rattle.laws.specs.Lists.{any, every, those, pairwise}
use Rattle.text.specs.Names.{same_text}
use Rattle.request.specs.Head.{head_of}
use Rattle.request.specs.Fields.{has_match, match_text, is_bad_match}
use Rattle.tag.specs.Written.{tag_text, is_tag_text}
use Rattle.response.specs.Outcomes.{is_success, status_of}
use Rattle.publish.specs.Refusals.{event_of, is_bad_event}
use Rattle.response.specs.declared.Outcome.{Outcome}
use Rattle.response.specs.declared.Outcome.TheVariants.{Silent, Refused, Granted}
use Rattle.table.specs.Handle.{Input}
use Rattle.table.specs.Run.{Exchange}
use Rattle.runs.specs.Reach.{Moment}

-- an input presents a tag
unfoldable pub has_tag : Input → Bool
has_tag x = has_match (head_of x.request)

-- the tag that it presents, as its bytes
unfoldable pub tag_in : Input → List ℕ
tag_in x = match_text x.request (head_of x.request)

-- the number of its package
unfoldable pub package_in : Input → ℕ
package_in x = event_of x.request (head_of x.request)

-- what came back
unfoldable pub came_back : Exchange → Outcome
came_back x = x.answer.handled.outcome

-- the exchange is a success
unfoldable pub succeeded : Exchange → Bool
succeeded x = is_success (came_back x)

-- the tag of a success; 0 otherwise
unfoldable pub tag_of_outcome : Outcome → ℕ
tag_of_outcome (Silent n) = 0
tag_of_outcome (Refused status field) = 0
tag_of_outcome (Granted tag time) = tag

-- the granted time of a success; 0 otherwise
unfoldable pub time_of_outcome : Outcome → ℕ
time_of_outcome (Silent n) = 0
time_of_outcome (Refused status field) = 0
time_of_outcome (Granted tag time) = time

-- the tag that a success gave
unfoldable pub tag_given : Exchange → ℕ
tag_given x = tag_of_outcome (came_back x)

-- a success's clock plus its granted time
unfoldable pub end_of : Exchange → ℕ
end_of x = x.input.clock + time_of_outcome (came_back x)

-- a success that gave the tag t, in either case, for the package p
unfoldable pub gave : List ℕ → ℕ → Exchange → Bool
gave t p x = succeeded x && (eqb (package_in x.input) p && is_tag_text t (tag_given x))

-- a success that presented that tag, in either case
unfoldable pub presented_tag : ℕ → Exchange → Bool
presented_tag tag x = succeeded x && (has_tag x.input && is_tag_text (tag_in x.input) tag)

-- the tag t stands for the package p at a clock, by what was before: some earlier success gave t for p, the clock is below that
-- success's clock plus its granted time, and no later success presented that tag, both in either case
pub record Stands (t : List ℕ) (p clock : ℕ) (before : List Exchange) : Type 0 where
  pub giving : Moment before
  pub gave_it : gave t p giving.now ≡ true
  pub lasts : clock < end_of giving.now
  pub not_presented : any (presented_tag (tag_given giving.now)) giving.later ≡ false

-- some exchange passes a test, and no later one undoes it
unfoldable pub some_left : (Exchange → Bool) → (Exchange → Exchange → Bool) → List Exchange → Bool
some_left f undoes [] = false
some_left f undoes (x ∷ later) = let r = some_left f undoes later in (f x && not (any (undoes x) later)) || r

-- that the tag stands, as a test that computes
unfoldable pub stands : List ℕ → ℕ → ℕ → List Exchange → Bool
stands t p clock before = some_left (λ x. gave t p x && ltb clock (end_of x)) (λ x. presented_tag (tag_given x)) before

-- the clock is not below that of any success
unfoldable pub is_not_back : ℕ → List Exchange → Bool
is_not_back clock before = every (λ x. leb x.input.clock clock) (those succeeded before)

-- an input for an address presents a tag and passes the checks before 412 that are left then: its package is listed (489), its
-- clock is not below the latest success's (500), and its tag stands once and is one token (400)
unfoldable pub is_tried : Input → List Exchange → Bool
is_tried x before =
    let s = x.request in
    let h = head_of s in
    has_tag x && (not (is_bad_event s h) && (is_not_back x.clock before && not (is_bad_match s h)))

-- a live publication matched: the answer to an input that was tried for one is not 412
unfoldable pub matched : Exchange → Bool
matched x = not (eqb (status_of (came_back x)) 412)

-- the tags that the successes of a history gave, as they are written
unfoldable pub tags_given : List Exchange → List (List ℕ)
tags_given xs = map (λ x. tag_text (tag_given x)) (those succeeded xs)

-- no two are the same, in either case
unfoldable pub all_differ : List (List ℕ) → Bool
all_differ ts = pairwise (λ t u. not (same_text t u)) ts
