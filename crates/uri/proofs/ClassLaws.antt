-- The sets of bytes have the bytes of their classes: one computed test of all 256 for each.
use mathlib.Core.Path.{◌≡◌, refl}
use mathlib.Core.Bool.{Bool, true, false, not}
use Prim.Native.Nat.{ℕ, ◌<◌}
use lib.Dec.{T}
use Rattle.laws.specs.Choose.{pick}
use Rattle.laws.proofs.Below.{all, below}
use Rattle.uri.specs.Classes.{is_of}
use Rattle.uri.specs.Sets.{is_in, set_of}
use Rattle.uri.specs.All.{all_uri}
use Rattle.uri.specs.declared.classes.Class.{Class}
use Rattle.uri.specs.declared.classes.Class.TheVariants.{User, Password, Parameter, Header, Label, Name, Alphanum, Letter, Digit, Hex, Reserved}

-- both hold, or neither
abbrev agree : Bool → Bool → Bool
agree a b = pick a b (not b)

agree_same : (a b : Bool) → T (agree a b) → a ≡ b
agree_same true true t = refl
agree_same true false t = absurd t
agree_same false true t = absurd t
agree_same false false t = refl

-- where the test of all 256 bytes holds, set and class have the same
from_all : (k : Class) → T (all (λ b. agree (is_in (set_of k) b) (is_of k b)) 256) → (b : ℕ) → b < 256 → is_in (set_of k) b ≡ is_of k b
from_all k t b h = agree_same (is_in (set_of k) b) (is_of k b) (below (λ b. agree (is_in (set_of k) b) (is_of k b)) 256 t b h)

-- a byte is in the set of a class exactly if it is of the class
pub in_class : (k : Class) (b : ℕ) → b < 256 → is_in (set_of k) b ≡ is_of k b
unfolding all_uri is_in set_of
in_class User = from_all User tt
in_class Password = from_all Password tt
in_class Parameter = from_all Parameter tt
in_class Header = from_all Header tt
in_class Label = from_all Label tt
in_class Name = from_all Name tt
in_class Alphanum = from_all Alphanum tt
in_class Letter = from_all Letter tt
in_class Digit = from_all Digit tt
in_class Hex = from_all Hex tt
in_class Reserved = from_all Reserved tt
