-- Behind a userinfo's @ the number is that of the user.
use mathlib.Core.Path.{sym, ◌∙◌}
use Rattle.uri.specs.Read.{user_end, password_end, ends_of, has_user, parts_of}
use Rattle.uri.specs.Key.{key_of}
use Rattle.uri.proofs.address.key_of.Goals as goal

pub returns : goal.returns
unfolding key_of parts_of has_user ends_of user_end password_end
returns c =
    rw (← c.scheme_end-scheme.ensures, ← c.past-user.ensures, ← c.behind_colon-password.ensures, sym c.stands_at.ensures ∙ c.if-not-stands_at.false)
    (c.weight.ensures ∙ rw c.part_of.ensures)
