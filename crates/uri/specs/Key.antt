-- A number of a URI's user: two URIs that are the same address have the same. So where two numbers differ, no more is compared.
use Rattle.std.specs.Prelude.{ℕ, ◌+◌, ◌*◌, ◌%◌, List, [], ◌∷◌}
use Rattle.uri.specs.Escapes.{normal}
use Rattle.uri.specs.Read.{ends_of, parts_of}

-- the number of a text, behind the number k
unfoldable pub weighed : ℕ → List ℕ → ℕ
weighed k [] = k
weighed k (x ∷ xs) = weighed ((k * 31 + x) % 65536) xs

-- the number of a URI's user
unfoldable pub key_of : List ℕ → ℕ
key_of s = weighed 0 (normal (parts_of s (ends_of s)).user)
