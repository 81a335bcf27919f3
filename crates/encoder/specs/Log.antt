-- An encoder log and the travel that it tells: document 02, wish 5. Counts are encoder counts; nothing here is in millimetres or inches.
-- Assumes nothing.
use Rattle.std.specs.Prelude.{ℕ, zero, suc, ◌+◌, ◌-◌, ◌*◌, ◌/◌, ◌%◌, cond, not, Option, List, length, ℤ, pos, ◌+ℤ◌, neg_ℤ, ◌==◌, nat_lt}
use Rattle.figures.specs.Numbers.{lowest}
use Rattle.little.specs.Little.{little_at}

-- "one wrapping 16-bit count a step, little-endian": the bytes of a count, how many counts there are, and half of them
abbrev pub count_bytes : ℕ
count_bytes = 2

abbrev pub turn : ℕ
turn = 65536

abbrev pub half_turn : ℕ
half_turn = 32768

-- the steps of a log, and the count of one
abbrev pub steps_in : List ℕ → ℕ
steps_in log = length log / count_bytes

abbrev pub count_in : List ℕ → ℕ → ℕ
count_in log i = little_at count_bytes log (count_bytes * i)

-- "the wrapped difference of two neighbouring counts"
unfoldable pub wrapped : ℕ → ℕ → ℕ
wrapped from to = (to + (turn - from)) % turn

-- "read as a signed number from -32,767 to 32,767"
unfoldable pub signed : ℕ → ℤ
signed d = cond (nat_lt d half_turn) (pos d) (neg_ℤ (pos (turn - d)))

-- the difference that the step after step k adds
abbrev pub difference_in : List ℕ → ℕ → ℕ
difference_in log k = wrapped (count_in log k) (count_in log (suc k))

-- "Travel at step 0 is 0; each step adds the wrapped difference"
unfoldable pub travel : List ℕ → ℕ → ℤ
travel log zero = pos 0
travel log (suc k) = travel log k +ℤ signed (difference_in log k)

-- 17, "a difference of exactly 32,768 at the later step": the lowest step that has it before the step after it
abbrev pub lowest_half_turn : List ℕ → Option ℕ
lowest_half_turn log = lowest (steps_in log - 1) 0 (λ k. not (difference_in log k == half_turn))
