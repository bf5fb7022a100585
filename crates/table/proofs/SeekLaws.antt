-- The laws of looking through the looks: what a turn asks of the first of them, and how much is looked at and read.
use mathlib.Core.Path.{◌≡◌, refl}
use mathlib.Core.Bool.{Bool, true, false, ◌&&◌, ◌||◌, not}
use mathlib.Core.List.{List, [], ◌∷◌}
use Prim.Native.Nat.{ℕ, suc, ◌+◌, ◌-◌, ◌<◌, ◌≤◌}
use native.Mathlib.Numerals.{add-one}
use native.Mathlib.Omega.{arith}
use lib.Dec.{ltb}
use lib.ListN.{length, get_or, take, drop, length-drop, drop_of_length-le}
use lib.Seq.{drop-cons, take_all}
use borrow.Author.Tests.{ltb-false}
use Rattle.std.specs.List.{list_all}
use Rattle.laws.specs.Choose.{pick}
use Rattle.laws.specs.Lists.{part, every, pairwise, those, same}
use Rattle.record.specs.Places.{smaller}
use Rattle.lent.specs.Look.{looks_differ, looks_sound}
use Rattle.lent.specs.declared.look.Look.{Look}

-- a text of at most 4,096 bytes is read whole
pub short_whole : (s : List ℕ) → length s ≤ 4096 → part s 0 4096 ≡ s
unfolding part
short_whole s h = take_all 4096 s h

-- an address is another than that of each look in use
abbrev pub apart : List ℕ → List Look → Bool
apart a ls = list_all (λ l. not (l.used && same a l.address)) ls

-- so it is asked of those that are in use
apart_those : (l : Look) (ls : List Look) → apart l.address ls ≡ every (looks_differ l) (those (λ l. l.used) ls)
unfolding every those looks_differ
apart_those l [] = refl
apart_those l (m ∷ ls) = rw (apart_those l ls) (go m.used)
  where
    go : (u : Bool) → (not (u && same l.address m.address) && every (looks_differ l) (those (λ l. l.used) ls))
        ≡ every (looks_differ l) (pick u (m ∷ those (λ l. l.used) ls) (those (λ l. l.used) ls))
    go true = refl
    go false = refl

-- two questions of the first look and two of the others
four : (s a e p : Bool) → ((s && e) && (a && p)) ≡ ((s && a) && (e && p))
four true true e p = refl
four true false true p = refl
four true false false p = refl
four false a e p = refl

-- are the records sound: the first is asked whether it is by itself, and, where it is in use, whether its address is another than each behind it
sound_turn : (l : Look) (ls : List Look) → looks_sound (l ∷ ls) ≡ ((l.sound && (not l.used || apart l.address ls)) && looks_sound ls)
unfolding looks_sound every pairwise those
sound_turn l ls = rw (apart_those l ls) (go l.used)
  where
    go : (u : Bool) → (l.sound && every (λ l. l.sound) ls) && pairwise looks_differ (pick u (l ∷ those (λ l. l.used) ls) (those (λ l. l.used) ls))
        ≡ ((l.sound && (not u || every (looks_differ l) (those (λ l. l.used) ls))) && (every (λ l. l.sound) ls && pairwise looks_differ (those (λ l. l.used) ls)))
    go true = four l.sound _ _ _
    go false = four l.sound true _ _

-- so it is asked at place i, with those behind it
abbrev behind : List Look → ℕ → List Look
behind ls i = take (length ls - (i + 1)) (drop (i + 1) ls)

-- the look past the end
abbrev past : Look
past = record { used = false; sound = false; address = [] }

pub sound_step : (ls : List Look) (i : ℕ) → i < length ls
    → looks_sound (drop i ls)
    ≡ (((get_or ls i past).sound && (not (get_or ls i past).used || apart (get_or ls i past).address (behind ls i))) && looks_sound (drop (i + 1) ls))
sound_step ls i h =
    let rest : take (length ls - suc i) (drop (suc i) ls) ≡ drop (suc i) ls = take_all (length ls - suc i) (drop (suc i) ls) (omega (arith, length-drop (suc i) ls)) in
    rw (add-one i, drop-cons ls i past h, rest) (sound_turn (get_or ls i past) (drop (suc i) ls))

-- past the end nothing is asked
pub sound_end : (ls : List Look) (i : ℕ) → length ls ≤ i → looks_sound (drop i ls) ≡ true
unfolding looks_sound every pairwise those
sound_end ls i h = rw (drop_of_length-le ls h)

-- of at most sixteen records all are looked at
pub few_sought : (n : ℕ) → n ≤ 16 → smaller n 16 ≡ n
unfolding smaller
few_sought n h = go (ltb n 16) refl
  where
    go : (b : Bool) → ltb n 16 ≡ b → pick b n 16 ≡ n
    go true e = refl
    go false e = omega (arith, ltb-false n 16 e)
