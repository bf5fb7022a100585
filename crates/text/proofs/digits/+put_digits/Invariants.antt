-- `put_digits` meets its contract: it calls itself for one digit less, until one is left, and puts the last digit behind.
use Rattle.text.proofs.digits.+put_digits.Given as goal

-- the measure is how many digits may be put
abbrev pub decreases-put_digits : goal.decreases-put_digits
decreases-put_digits l = l.k
