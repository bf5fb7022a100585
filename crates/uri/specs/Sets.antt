-- The classes of bytes as sets of numbers below 128, each held in two numbers of 64 bits.
use Rattle.std.specs.Prelude.{ℕ, ◌-◌, ◌/◌, ◌%◌, ◌^◌, Bool, false, eqb, ltb}
use Rattle.laws.specs.Choose.{pick}
use Rattle.uri.specs.declared.classes.Class.{Class}
use Rattle.uri.specs.declared.classes.Class.TheVariants.{User, Password, Parameter, Header, Label, Name, Alphanum, Letter, Digit, Hex, Reserved}
use Rattle.uri.specs.declared.classes.Set.{Set}

-- a byte is in a set: bit b of the first number is 1, or bit b - 64 of the second
unfoldable pub is_in : Set → ℕ → Bool
is_in s b = pick (ltb b 64) (eqb (s.low / 2 ^ b % 2) 1) (pick (ltb b 128) (eqb (s.high / 2 ^ (b - 64) % 2) 1) false)

-- the bytes of each class
unfoldable pub set_of : Class → Set
set_of User = record { low = 0xabff_fff2_0000_0000; high = 0x47ff_fffe_87ff_fffe }
set_of Password = record { low = 0x23ff_7ff2_0000_0000; high = 0x47ff_fffe_87ff_fffe }
set_of Parameter = record { low = 0x07ff_eff2_0000_0000; high = 0x47ff_fffe_afff_fffe }
set_of Header = record { low = 0x87ff_efb2_0000_0000; high = 0x47ff_fffe_afff_fffe }
set_of Label = record { low = 0x03ff_2000_0000_0000; high = 0x07ff_fffe_07ff_fffe }
set_of Name = record { low = 0x03ff_6000_0000_0000; high = 0x07ff_fffe_07ff_fffe }
set_of Alphanum = record { low = 0x03ff_0000_0000_0000; high = 0x07ff_fffe_07ff_fffe }
set_of Letter = record { low = 0; high = 0x07ff_fffe_07ff_fffe }
set_of Digit = record { low = 0x03ff_0000_0000_0000; high = 0 }
set_of Hex = record { low = 0x03ff_0000_0000_0000; high = 0x0000_007e_0000_007e }
set_of Reserved = record { low = 0xac00_9850_0000_0000; high = 1 }
