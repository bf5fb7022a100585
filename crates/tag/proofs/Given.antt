-- The paper's "some n from 1 to spent gives this tag" and the test that decides it agree.
use Rattle.std.proofs.Common.{◌≡◌, ℕ, ◌+◌, ◌-◌, ◌*◌, ◌/◌, ◌%◌, ◌<◌, ◌&&◌, T, leb, ◌↔◌, sym, ◌∙◌, arith, le→leb, leb→le}
use Rattle.laws.proofs.Below.{both, both_left, both_right}
use Rattle.tag.specs.Tag.{tag_of}
use Rattle.tag.specs.Given.{SomeGives, number_of_tag, is_given}
use Rattle.tag.proofs.Tag.{low, tag_once}

-- the number of a tag gives that tag
pub number_gives : (start tag : ℕ) → start < 4294967296 → tag < 4294967296 → tag_of start (number_of_tag start tag) ≡ tag
unfolding tag_of number_of_tag
number_gives start tag hs ht =
    let d : ℕ = tag + 4294967296 - start in
    let n : ℕ = d * 340573321 % 4294967296 in
    let q : ℕ = d * 340573321 / 4294967296 in
    let x : ℕ = start + n * 2654435769 in
    low (x % 4294967296) tag (x / 4294967296 + q * 2654435769) (d * 210485888 + 1) (omega arith) ht (omega arith)

pub number_below : (start tag : ℕ) → number_of_tag start tag < 4294967296
unfolding number_of_tag
number_below start tag = omega arith

-- it is the only number below 2 ^ 32 that does
pub number_only : (start tag n : ℕ) → start < 4294967296 → tag < 4294967296 → n < 4294967296 → tag_of start n ≡ tag → n ≡ number_of_tag start tag
number_only start tag n hs ht hn e =
    tag_once start n (number_of_tag start tag) hn (number_below start tag) (e ∙ sym (number_gives start tag hs ht))

-- the paper's sentence and the test that decides it agree, for 32-bit numbers
pub given_agrees : (start spent tag : ℕ) → start < 4294967296 → spent < 4294967296 → tag < 4294967296
    → SomeGives start spent tag ↔ T (is_given start spent tag)
unfolding is_given
given_agrees start spent tag hs hp ht = (decided, found)
  where
    k : ℕ
    k = number_of_tag start tag

    decided : SomeGives start spent tag → T (leb 1 k && leb k spent)
    decided g =
        let e : g.n ≡ k = number_only start tag g.n hs ht (omega arith) g.gives in
        both (leb 1 k) (leb k spent) (le→leb 1 k (omega arith)) (le→leb k spent (omega arith))

    found : T (leb 1 k && leb k spent) → SomeGives start spent tag
    found t =
        record {
          n = k;
          first = leb→le 1 k (both_left (leb 1 k) (leb k spent) t);
          last = leb→le k spent (both_right (leb 1 k) (leb k spent) t);
          gives = number_gives start tag hs ht;
        }
