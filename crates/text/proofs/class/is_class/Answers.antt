-- The class that the table has for a byte is at least 3 for the token bytes alone, and at least 1 for the value bytes alone.
use Rattle.std.proofs.Common.{◌≡◌, rules}
use Rattle.text.proofs.ClassLaws.{class_at, token_class, value_class}
use Rattle.text.proofs.class.is_class.Goals as goal

pub returns-in-Token : goal.returns-in-Token
returns-in-Token c =
    let e : c.from.result ≡ c.args.b = search rules in
    rw (c.in-Token.is, class_at _ _ _ c.requires e (search rules)) (token_class _ (search rules))

pub returns-in-Value : goal.returns-in-Value
returns-in-Value c =
    let e : c.from.result ≡ c.args.b = search rules in
    rw (c.in-Value.is, class_at _ _ _ c.requires e (search rules)) (value_class _ (search rules))
