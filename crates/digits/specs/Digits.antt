-- Digits in base sixteen, capital letters only, and bytes as two of them.
use Rattle.std.specs.Prelude.{ℕ, ◌+◌, ◌-◌, ◌*◌, ◌/◌, ◌%◌, Bool, cond, List, [], ◌∷◌, is_some, Some, None, codes, Option, nat_lt, slice_index}
use Rattle.std.specs.Option.{unwrap_or}

-- the sixteen characters, each at the place that is its value
abbrev pub chart : List ℕ
chart = codes "0123456789ABCDEF"

-- the value of a byte that is a digit, and none for any other byte
abbrev pub digit : ℕ → Option ℕ
digit b =
    cond (nat_lt b 48) None
    (cond (nat_lt b 58) (Some (b - 48))
    (cond (nat_lt b 65) None
    (cond (nat_lt b 71) (Some (b - 55))
    None)))

-- whether a byte is a digit
abbrev pub is_digit : ℕ → Bool
is_digit b = is_some (digit b)

-- the value of a digit; any other byte counts 0
abbrev pub value : ℕ → ℕ
value b = unwrap_or (digit b) 0

-- the byte that two digits stand for, the high one first
abbrev pub byte_of : ℕ → ℕ → ℕ
byte_of high low = 16 * value high + value low

-- byte k of some digits, two digits to a byte
abbrev pub byte_at : List ℕ → ℕ → ℕ
byte_at digits k = byte_of (slice_index digits (2 * k)) (slice_index digits (2 * k + 1))

-- bytes k and k + 1 as one number, the high byte first
abbrev pub word_at : List ℕ → ℕ → ℕ
word_at digits k = 256 * byte_at digits k + byte_at digits (k + 1)

-- the digit printed for a value below sixteen
abbrev pub printed : ℕ → ℕ
printed v = cond (nat_lt v 10) (48 + v) (55 + v)

-- the two digits printed for a byte
abbrev pub two_digits : ℕ → List ℕ
two_digits b = printed (b / 16) ∷ printed (b % 16) ∷ []

-- a number below 65536 as two bytes, the high one first
abbrev pub two_bytes : ℕ → List ℕ
two_bytes n = (n / 256) ∷ (n % 256) ∷ []
