-- Whether a tag stands, as a statement and as a test that computes: the two are one.
use mathlib.Core.Path.{◌≡◌, refl, sym, ap}
use mathlib.Core.Bool.{Bool, true, false, ◌&&◌, not, true≢false, or-true}
use mathlib.Core.List.{List, [], ◌∷◌, ◌++◌}
use mathlib.Core.Logic.{◌↔◌}
use Prim.Native.Nat.{ℕ}
use lib.Dec.{ltb}
use borrow.Author.Tests.{ltb-true, lt-ltb, not-true}
use Rattle.laws.specs.Lists.{any}
use Rattle.laws.proofs.Tests.{and_left, and_right, and_both}
use Rattle.table.specs.Run.{Exchange}
use Rattle.runs.specs.Tags.{Stands, some_left, stands, gave, end_of, presented_tag, tag_given}

module _ (t : List ℕ) (p clock : ℕ) where
  -- an exchange is the one
  here : Exchange → List Exchange → Bool
  here x later = (gave t p x && ltb clock (end_of x)) && not (any (presented_tag (tag_given x)) later)

  -- where the test holds the tag stands
  found : (before : List Exchange) → stands t p clock before ≡ true → Stands t p clock before
  unfolding stands some_left here
  found [] e = absurd (true≢false (sym e))
  found (x ∷ later) e = go (here x later) refl (found later)
    where
      go : (b : Bool) → here x later ≡ b → (stands t p clock later ≡ true → Stands t p clock later) → Stands t p clock (x ∷ later)
      go true h deep =
          let lasting = and_left (gave t p x && ltb clock (end_of x)) _ h in
          record {
            giving = record { before = []; now = x; later = later; is = refl };
            gave_it = and_left _ _ lasting;
            lasts = ltb-true _ _ (and_right (gave t p x) _ lasting);
            not_presented = not-true _ (and_right (gave t p x && ltb clock (end_of x)) _ h);
          }
      go false h deep =
          let s = deep (rw h at e) in
          let m = s.giving in
          record {
            giving = record { before = x ∷ m.before; now = m.now; later = m.later; is = ap (λ l. x ∷ l) m.is };
            gave_it = s.gave_it;
            lasts = s.lasts;
            not_presented = s.not_presented;
          }

  -- behind any exchanges the one is found
  tested : (earlier : List Exchange) (x : Exchange) (later : List Exchange) → here x later ≡ true → stands t p clock (earlier ++ (x ∷ later)) ≡ true
  unfolding stands some_left here
  tested [] x later h = rw h
  tested (y ∷ earlier) x later h = rw (tested earlier x later h) (or-true (here y (earlier ++ (x ∷ later))))

  -- the test holds exactly where the tag stands
  pub stands_tested : (before : List Exchange) → (stands t p clock before ≡ true) ↔ Stands t p clock before
  unfolding here
  stands_tested before = (
    found before,
    λ s. rw s.giving.is (tested s.giving.before s.giving.now s.giving.later
        (and_both _ _ (and_both _ _ s.gave_it (lt-ltb _ _ s.lasts)) (ap not s.not_presented))),
  )
