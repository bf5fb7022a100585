-- No two results are told by one number: the number gives the result back.
use mathlib.Core.Path.{◌≡◌, refl, sym, ◌∙◌, ap}
use mathlib.Core.List.{List, [], ◌∷◌}
use Prim.Native.Nat.{ℕ}
use lib.ListN.{get_or}
use Rattle.std.specs.Prelude.{Result, Ok, Err, ⊤}
use Rattle.response.specs.Faults.{number_of, told}
use Rattle.response.specs.declared.fault.Fault.{Fault}
use Rattle.response.specs.declared.fault.Fault.TheVariants.{SmallBuffer, BadSize, LongRequest, LateClock, Unsound, Unreadable, Malformed, AlreadyThere, NoRoom, Unknown, BackInTime}

-- the results by their numbers
abbrev results : List (Result ⊤ Fault)
results =
    Ok tt ∷ Err SmallBuffer ∷ Err BadSize ∷ Err LongRequest ∷ Err LateClock ∷ Err Unsound ∷ Err Unreadable ∷ Err Malformed ∷ Err AlreadyThere ∷
    Err NoRoom ∷ Err Unknown ∷ Err BackInTime ∷ []

-- the number of each leads back to it
number_back : (r : Result ⊤ Fault) → get_or results (told r) (Ok tt) ≡ r
number_back (Ok u) = refl
number_back (Err SmallBuffer) = refl
number_back (Err BadSize) = refl
number_back (Err LongRequest) = refl
number_back (Err LateClock) = refl
number_back (Err Unsound) = refl
number_back (Err Unreadable) = refl
number_back (Err Malformed) = refl
number_back (Err AlreadyThere) = refl
number_back (Err NoRoom) = refl
number_back (Err Unknown) = refl
number_back (Err BackInTime) = refl

-- so results with one number are one result
pub told_once : {r r' : Result ⊤ Fault} → told r ≡ told r' → r ≡ r'
told_once {r} {r'} e = sym (number_back r) ∙ ap (λ (n : ℕ). get_or results n (Ok tt)) e ∙ number_back r'

-- and no fault has the number of none
pub number_above : (f : Fault) → number_of f ≡ 0 → ⊥
number_above f e = let one : ◌≡◌ {A = Result ⊤ Fault} (Err f) (Ok tt) = told_once e in cc
