-- The laws of adding an address by the looks: what the tests decide together.
use mathlib.Core.Path.{◌≡◌, sym}
use mathlib.Core.Bool.{Bool, not}
use mathlib.Core.List.{List}
use Prim.Native.Nat.{ℕ}
use lib.Dec.{ltb}
use lib.ListN.{take, drop}
use Rattle.laws.specs.Choose.{pick}
use Rattle.laws.specs.First.{first_of}
use Rattle.laws.specs.Lists.{place_of}
use Rattle.record.specs.Address.{is_address}
use Rattle.lent.specs.Look.{looks_sound, is_look_for}
use Rattle.lent.specs.declared.look.Look.{Look}
use Rattle.publish.specs.Refusals.{is_bad_size}
use Rattle.table.specs.Looked.{add_rows}

-- what comes of the refusals about the address
abbrev address_result : List Look → ℕ → List ℕ → ℕ
address_result ls n a = first_of (drop 2 (add_rows ls n 0 a)) 0

-- three tests decide it: the address is well formed, it is there already, a record is unused
pub address_asked : (ls : List Look) (n : ℕ) (a : List ℕ) {formed : Bool} → is_address a ≡ formed
    → {i : ℕ} {known : Bool} → i ≡ place_of (is_look_for a) (take n ls) → ltb i n ≡ known
    → {k : ℕ} {unused : Bool} → k ≡ place_of (λ l. not l.used) (take n ls) → ltb k n ≡ unused
    → address_result ls n a ≡ pick (not formed) 7 (pick known 8 (pick (not unused) 9 0))
unfolding add_rows first_of
address_asked ls n a f i l k m = rw (f, sym i, l, sym k, m)

-- the sizes and the soundness of the records are asked before
pub sizes_asked : (ls : List Look) (n store : ℕ) (a : List ℕ) {bad sound : Bool} → is_bad_size n store ≡ bad → looks_sound (take n ls) ≡ sound
    → first_of (add_rows ls n store a) 0 ≡ pick bad 2 (pick (not sound) 5 (address_result ls n a))
unfolding add_rows first_of
sizes_asked ls n store a e s = rw (e, s)
