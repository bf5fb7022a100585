-- An input that presents a tag and passes the checks before 412, at a record: it is matched exactly where the record has a live
-- publication of its package with that tag.
use mathlib.Core.Path.{◌≡◌, refl, ◌∙◌, ap}
use mathlib.Core.Bool.{Bool, true, false, not}
use mathlib.Core.List.{List, ◌++◌}
use Prim.Native.Nat.{ℕ, ◌≤◌}
use lib.Dec.{ltb, eqb}
use lib.ListN.{length}
use borrow.Author.Tests.{le-ltb}
use Rattle.laws.specs.Choose.{pick}
use Rattle.laws.specs.First.{first_of}
use Rattle.laws.specs.Lists.{any, every}
use Rattle.request.specs.Head.{head_of}
use Rattle.request.specs.Fields.{is_bad_match}
use Rattle.record.specs.Places.{places, matching}
use Rattle.success.specs.After.{given_tag}
use Rattle.record.specs.declared.Record.{Record}
use Rattle.success.proofs.StoreLaws.{places_in_length}
use Rattle.response.specs.Outcomes.{status_of}
use Rattle.publish.specs.Refusals.{address_rows, content_rows, room_rows, is_unmatched, is_bad_event, presented, granted}
use Rattle.response.specs.declared.Outcome.{Outcome}
use Rattle.response.specs.declared.Outcome.TheVariants.{Refused, Granted}
use Rattle.response.specs.declared.Field.TheVariants.{Nothing}
use Rattle.table.specs.Handle.{Input}
use Rattle.runs.specs.Reach.{is_read}
use Rattle.runs.specs.Alone.{case_at, answered}
use Rattle.runs.specs.Tags.{has_tag, tag_in, package_in, came_back, matched}
use Rattle.laws.proofs.Lists.{place_found}
use Rattle.runs.proofs.Outcome.{first_fails, outcome_from, rows_from, outcome_read}
use Rattle.runs.proofs.Kept.{Kept}
use Rattle.runs.proofs.Succeeds.{fits}

-- the record has a live publication of that package with that tag
abbrev pub holds : ℕ → ℕ → List ℕ → Record → Bool
holds clock p w r = any (fits clock p w) (places r)

-- a slot matches exactly where the record has one
pub matches : (clock p : ℕ) (w : List ℕ) (r : Record) → Kept r → ltb (matching clock p w r) 8 ≡ holds clock p w r
unfolding matching places
matches clock p w r kept =
    let size : length (places r) ≡ 8 = places_in_length r.map r.slots ∙ kept.eight in
    rw (← size) (place_found (fits clock p w) (places r))

-- no 412 is given behind 412
behind_412 : (r : Record) (x : Input)
    → eqb (status_of (first_of (content_rows x.request (head_of x.request) ++ room_rows r x.clock x.request (head_of x.request))
    (Granted (given_tag r) (granted x.request (head_of x.request))))) 412 ≡ false
unfolding content_rows room_rows every status_of
behind_412 r x = first_fails (λ o. eqb (status_of o) 412) _ _ refl refl

-- an input that presents a tag and passes the checks before 412 is matched exactly where the record has such a publication
pub matched_at : (r : Record) (x : Input) → Kept r → is_read x ≡ true → has_tag x ≡ true → is_bad_event x.request (head_of x.request) ≡ false
    → r.clock ≤ x.clock → is_bad_match x.request (head_of x.request) ≡ false
    → matched (answered x (case_at true r x)) ≡ holds x.clock (package_in x) (tag_in x) r
unfolding matched came_back answered outcome_from rows_from address_rows first_of is_unmatched presented has_tag tag_in package_in status_of
matched_at r x kept read tag event clock token =
    rw (outcome_read true r x read, event, le-ltb x.clock r.clock clock, token, tag, matches x.clock (package_in x) (tag_in x) r kept)
    (go (holds x.clock (package_in x) (tag_in x) r))
  where
    rest : Outcome
    rest =
        first_of (content_rows x.request (head_of x.request) ++ room_rows r x.clock x.request (head_of x.request))
        (Granted (given_tag r) (granted x.request (head_of x.request)))

    go : (b : Bool) → not (eqb (status_of (pick (not b) (Refused 412 Nothing) rest)) 412) ≡ b
    go true = ap not (behind_412 r x)
    go false = refl
