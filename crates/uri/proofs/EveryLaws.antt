-- The same asked of every element: std's word for it and ours.
use mathlib.Core.Path.{◌≡◌, refl, ap}
use mathlib.Core.Bool.{Bool, ◌&&◌}
use mathlib.Core.List.{List, [], ◌∷◌}
use Rattle.std.specs.List.{list_all}
use Rattle.laws.specs.Lists.{every}

pub every_all : {A : Type 0} (f : A → Bool) (xs : List A) → list_all f xs ≡ every f xs
unfolding every
every_all f [] = refl
every_all f (x ∷ xs) = ap (λ (b : Bool). f x && b) (every_all f xs)
