-- When a message is due: it fits the buffer, and the request is read whole and readable.
use mathlib.Core.Path.{◌≡◌, refl, sym, ◌∙◌, ap}
use mathlib.Core.Bool.{Bool, true, false, true≢false}
use mathlib.Core.List.{List, []}
use Prim.Native.Nat.{ℕ, ◌≤◌}
use lib.ListN.{length}
use Rattle.std.specs.Prelude.{Result, Ok, Err, ⊤}
use Rattle.laws.specs.Choose.{pick}
use Rattle.laws.specs.First.{first_of}
use Rattle.request.specs.Head.{is_readable}
use Rattle.request.specs.declared.Head.{Head}
use Rattle.record.specs.declared.Record.{Record}
use Rattle.response.specs.Outcomes.{is_silent}
use Rattle.publish.specs.Refusals.{Case, request_rows, reading_rows, outcome_of}
use Rattle.publish.specs.Refusal.{refusal_in}
use Rattle.response.specs.Message.{message}
use Rattle.response.specs.declared.Outcome.{Outcome}
use Rattle.table.proofs.EarlyLaws.{early, early_err, early_silent, early_ok, early_passes}

-- the message that goes out for an outcome: none where it is silent
abbrev pub sent : List ℕ → ℕ → Outcome → List ℕ
sent s number o = pick (is_silent o) [] (message s number o)

-- what is said of a request is not silent only where the request is readable
due_readable : (known : Bool) (r : Record) (clock : ℕ) (s : List ℕ) (h : Head) (other : Outcome)
    → is_silent (first_of (request_rows known r clock s h) other) ≡ false → is_readable s h ≡ true
unfolding request_rows reading_rows first_of is_silent
due_readable known r clock s h other f = go (is_readable s h) refl f
  where
    go : (b : Bool) → is_readable s h ≡ b → is_silent (first_of (request_rows known r clock s h) other) ≡ false → b ≡ true
    go true e f = refl
    go false e f = absurd (true≢false (rw e at f))

-- where a message is due, it fits the buffer, the request is not too long, and it is readable
pub due : (c : Case) → is_silent (outcome_of c) ≡ false
    → (4608 ≤ c.buffer) × (length c.text ≤ 4096) × (is_readable c.text c.head ≡ true)
due c f = go (refusal_in (early c)) refl
  where
    go : (x : Result ⊤ Outcome) → refusal_in (early c) ≡ x → (4608 ≤ c.buffer) × (length c.text ≤ 4096) × (is_readable c.text c.head ≡ true)
    go (Err o) e = absurd (true≢false (sym (ap is_silent (early_err c e) ∙ early_silent c e) ∙ f))
    go (Ok u) e =
        let p = early_passes c e in (p.0, p.1, due_readable _ _ _ _ _ _ (ap is_silent (sym (early_ok c e)) ∙ f))
