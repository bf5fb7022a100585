-- It is loose where it has none of the five names.
use Rattle.std.proofs.Common.{◌≡◌, false, sym, ◌∙◌, rules}
use mathlib.Core.Bool.{or-false}
use Rattle.laws.specs.Bytes.{bytes}
use Rattle.laws.specs.Lists.{any, same}
use Rattle.uri.specs.Escapes.{folded}
use Rattle.uri.specs.Alike.{is_loose, name_of, telling}
use Rattle.uri.proofs.names.is_loose.Goals as goal

pub returns-then-not-is_named-4 : goal.returns-then-not-is_named-4
unfolding is_loose telling any
returns-then-not-is_named-4 c =
    let first : c.is_named.result ≡ false = search rules in
    let user : same (name_of (folded c.args.p.now)) (bytes "user") ≡ false = search rules in
    let ttl : same (name_of (folded c.args.p.now)) (bytes "ttl") ≡ false = search rules in
    let method : same (name_of (folded c.args.p.now)) (bytes "method") ≡ false = search rules in
    simp (sym c.is_named.ensures ∙ first, user, ttl, method, c.is_named-then-not-is_named-4.ensures, or-false)
