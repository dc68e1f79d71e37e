-- `lines::writing::Page::put_digits` ends: each call is of a smaller number.
use Rattle.lines.proofs.writing.Page.+put_digits.Given as goal

abbrev pub decreases-put_digits : goal.decreases-put_digits
decreases-put_digits l = l.number
