-- Document 01's bench values: B1 to B12 are what the definitions of the rounds compute.
use mathlib.Core.Path.{◌≡◌, refl}
use Rattle.field.specs.Subtraction.{minus}
use Rattle.field.specs.Width.{modulus}
use Rattle.shares.specs.Side.{other}
use Rattle.shares.specs.Reading.{read}
use Rattle.shares.specs.Share.{constant_share, opened, square_share, product_share, threefold_share}
use Rattle.tape.specs.Layout.{section}
use Rattle.tape.specs.Dealt.{square_pair}
use Rattle.tape.specs.Plain.{plain_tape}
use Rattle.encoding.specs.Codes.{range_code, point_code, level_code}
use Rattle.encoding.specs.Matching.{same_bits}
use Rattle.encoding.specs.Polynomial.{coefficient, polynomial}
use Rattle.protocol.specs.Tests.{complement, exclusive}
use Rattle.protocol.specs.Work.{held}
use Rattle.protocol.specs.Products.{open_left, open_right, openings, closed, closing}
use Rattle.protocol.specs.Squares.{bit_difference, square_closing, match_count}
use Rattle.protocol.specs.Levels.{level_match, wrap_share}
use Rattle.protocol.specs.Answer.{half_opening, half_opened, answer_from}
use Rattle.protocol.specs.Rounds.{square_word, low_products, low_sum, level_products, wrap_products, half_share, half_word, answer_share, message, after_hearing}
use Rattle.protocol.specs.Exchange.{exchanged, sent_own, sent_others, answer_own, answer_others}
use Rattle.protocol.specs.Bench.{wrap_at, low_sum_at, low_at, half_at, less_at, given, expected}

pub bench : given ≡ expected
unfolding modulus other constant_share minus read opened square_share product_share threefold_share section square_pair plain_tape
    range_code point_code level_code same_bits coefficient polynomial complement exclusive held
    open_left open_right openings closed closing bit_difference square_closing match_count level_match wrap_share
    square_word low_products low_sum level_products wrap_products half_share half_opening half_opened answer_from half_word
    answer_share message after_hearing exchanged sent_own sent_others answer_own answer_others
    wrap_at low_sum_at low_at half_at less_at given expected
bench = refl
