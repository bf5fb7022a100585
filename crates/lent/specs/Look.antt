-- What is looked at in each lent record before one of them is taken out: whether it is in use, whether it is sound by itself, and the
-- 64 bytes of its address.
-- Rule 4.16 of docs/RULES.md.
use Rattle.std.specs.Prelude.{ℕ, Bool, ◌&&◌, not, List, map, eqb}
use Rattle.laws.specs.Lists.{every, pairwise, those, same}
use Rattle.text.specs.Runs.{front}
use Rattle.record.specs.Places.{is_in_use}
use Rattle.record.specs.Address.{same_address}
use Rattle.record.specs.Sound.{is_sound}
use Rattle.record.specs.declared.Record.{Record}
use Rattle.lent.specs.Sixteen.{record_at, first_sixteen}
use Rattle.lent.specs.declared.look.Look.{Look}

-- the look at a record
unfoldable pub look_of : Record → Look
look_of r = record { used = is_in_use r; sound = is_sound r; address = r.address }

-- the look at record i; past the end, at the all-zero record
unfoldable pub look_at : List Record → ℕ → Look
look_at xs i = look_of (record_at xs i)

-- the looks at the first sixteen records; past the end, at the all-zero record
unfoldable pub looks_of : List Record → List Look
looks_of xs = map look_of (first_sixteen xs)

-- two addresses differ as their 64 bytes do
unfoldable pub looks_differ : Look → Look → Bool
looks_differ l m = not (same l.address m.address)

-- each is sound by itself, and the address of each in use differs from each other one in use
unfoldable pub looks_sound : List Look → Bool
looks_sound ls = every (λ l. l.sound) ls && pairwise looks_differ (those (λ l. l.used) ls)

-- the record looked at is in use for that address
unfoldable pub is_look_for : List ℕ → Look → Bool
is_look_for a l = l.used && same_address a (front (λ b. not (eqb b 0)) l.address)
