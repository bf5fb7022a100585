-- The tags that an address alone gives, one after the other: their numbers go up, so no two are the same.
use mathlib.Core.Path.{◌≡◌, refl, sym, ◌∙◌, ap}
use mathlib.Core.Bool.{Bool, true, false, not, true≢false}
use mathlib.Core.List.{List, [], ◌∷◌, map}
use Prim.Native.Nat.{ℕ, ◌+◌, ◌<◌, ◌≤◌}
use native.Mathlib.Omega.{arith}
use borrow.Author.Tests.{not-true}
use Rattle.laws.specs.Choose.{pick}
use Rattle.laws.specs.Lists.{every, those, pairwise, same}
use Rattle.laws.proofs.Tests.{and_both, same_equal, same_self, every_cons, every_follows, pairwise_cons, pairwise_head, pairwise_tail}
use Rattle.text.specs.Names.{lowered, same_text}
use Rattle.tag.specs.Tag.{tag_of}
use Rattle.tag.specs.Written.{tag_text}
use Rattle.tag.proofs.Tag.{tag_below, tags_differ_lem}
use Rattle.tag.proofs.Written.{tag_text_apart}
use Rattle.success.specs.After.{given_tag, success_number, record_after}
use Rattle.record.specs.declared.Record.{Record}
use Rattle.success.specs.declared.Success.{Success}
use Rattle.response.specs.Outcomes.{is_success}
use Rattle.publish.specs.Refusals.{Case, outcome_of}
use Rattle.publish.specs.Step.{success_of, own_after, part_afterwards}
use Rattle.table.specs.Handle.{Input}
use Rattle.table.specs.Run.{Exchange}
use Rattle.table.proofs.GrantedLaws.{grants}
use Rattle.runs.specs.Alone.{case_at, answered, beginning, alone_from}
use Rattle.runs.specs.Tags.{came_back, succeeded, tag_of_outcome, tag_given, tags_given, all_differ}
use Rattle.runs.proofs.Succeeds.{gives}

-- one tag is not another, in either case
abbrev differs : List ℕ → List ℕ → Bool
differs t u = not (same_text t u)

-- the tag of a lower number is another
tags_apart : (start k m : ℕ) → 1 ≤ k → k < m → m ≤ 4294967295 → differs (tag_text (tag_of start k)) (tag_text (tag_of start m)) ≡ true
tags_apart start k m h i j = go (same_text (tag_text (tag_of start k)) (tag_text (tag_of start m))) refl
  where
    go : (b : Bool) → same_text (tag_text (tag_of start k)) (tag_text (tag_of start m)) ≡ b → not b ≡ true
    go true e =
        absurd (tags_differ_lem start k m h i j
        (tag_text_apart (tag_of start k) (tag_of start m) (tag_below start k) (tag_below start m) e))
    go false e = refl

-- tags that follow a record: no two are the same, and none is that of a number that is spent
pub record Follows (r : Record) (ts : List (List ℕ)) : Type 0 where
  pub differ : all_differ ts ≡ true
  pub none_again : (k : ℕ) → 1 ≤ k → k ≤ r.spent → every (differs (tag_text (tag_of r.start k))) ts ≡ true

-- the next tag in front of those that follow the record after it
one_more : (r : Record) (x : Success) (ts : List (List ℕ)) → r.spent < 4294967295 → Follows (record_after x r) ts → Follows r (tag_text (given_tag r) ∷ ts)
unfolding record_after given_tag success_number all_differ
one_more r x ts h f =
    record {
      differ = pairwise_cons differs (tag_text (given_tag r)) ts (f.none_again (r.spent + 1) (omega arith) (omega arith)) f.differ;
      none_again = λ k i j. every_cons (differs (tag_text (tag_of r.start k))) (tag_text (given_tag r)) ts
          (tags_apart r.start k (r.spent + 1) i (omega arith) (omega arith)) (f.none_again k i (omega arith));
    }

-- the tags that an address alone gives follow the record from which it goes on
pub follows : (r : Record) (bs : List ℕ) (xs : List Input) → r.spent ≤ 4294967295 → Follows r (tags_given (alone_from r bs xs).exchanges)
unfolding alone_from beginning tags_given those pairwise every all_differ succeeded came_back answered own_after case_at tag_given tag_of_outcome record_after success_number
follows r bs [] h = record { differ = refl; none_again = λ k i j. refl }
follows r bs (x ∷ xs) h =
    go (is_success (outcome_of (case_at true r x))) refl (follows (own_after (case_at true r x)) (part_afterwards (case_at true r x) bs) xs)
  where
    c : Case
    c = case_at true r x

    after : List Exchange
    after = (alone_from (own_after c) (part_afterwards c bs) xs).exchanges

    go : (b : Bool) → is_success (outcome_of c) ≡ b
        → ((pick b (record_after (success_of c) r) r).spent ≤ 4294967295 → Follows (pick b (record_after (success_of c) r) r) (tags_given after))
        → Follows r (map (λ y. tag_text (tag_given y)) (pick b (answered x c ∷ those succeeded after) (those succeeded after)))
    go true e deep =
        let left : r.spent < 4294967295 = omega (arith, (grants c e).unspent) in
        rw (ap tag_of_outcome (gives r x e)) (one_more r (success_of c) (tags_given after) left (deep (omega arith)))
    go false e deep = deep h

-- texts that differ in either case differ byte by byte
differs_as_written : (t u : List ℕ) → differs t u ≡ true → not (same t u) ≡ true
unfolding same_text
differs_as_written t u k = go (same t u) refl
  where
    go : (b : Bool) → same t u ≡ b → not b ≡ true
    go true h =
        let alike : same_text t u ≡ true = rw (same_equal t u h) (same_self (lowered u)) in
        absurd (true≢false (sym alike ∙ not-true (same_text t u) k))
    go false h = refl

-- and so do all tags of a list
pub all_differ_as_written : (ts : List (List ℕ)) → all_differ ts ≡ true → pairwise (λ t u. not (same t u)) ts ≡ true
unfolding all_differ pairwise
all_differ_as_written [] e = refl
all_differ_as_written (t ∷ ts) e =
    and_both
    (every (λ u. not (same t u)) ts)
    (pairwise (λ t u. not (same t u)) ts)
    (every_follows (differs t) (λ u. not (same t u)) ts (differs_as_written t) (pairwise_head differs t ts e))
    (all_differ_as_written ts (pairwise_tail differs t ts e))
