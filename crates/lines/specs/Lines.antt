-- Lines as the programs print them: document 01, "The bench sheet, whole".
-- Assumes nothing.
use Rattle.std.specs.Prelude.{cond, List, [], ◌∷◌, ◌++◌, ℕ, zero, suc, ◌+◌, ◌/◌, ◌%◌, ltb}
use Rattle.figures.specs.declared.Place.{Place}
use Rattle.figures.specs.Refusals.{printed_place}

abbrev pub space : ℕ
space = 32

abbrev pub line_feed : ℕ
line_feed = 10

abbrev pub digit : ℕ → ℕ
digit d = 48 + d

-- "numbers are decimal without leading zeros": the digits of n, the most significant first, in at most so many
unfoldable pub decimal_by : ℕ → ℕ → List ℕ
decimal_by zero n = []
decimal_by (suc most) n = cond (ltb n 10) (digit n ∷ []) (decimal_by most (n / 10) ++ (digit (n % 10) ∷ []))

-- n + 1 digits are always enough
unfoldable pub decimal : ℕ → List ℕ
decimal n = decimal_by (suc n) n

-- "Lines end with one line feed, fields are parted by one space"
abbrev pub line : List (List ℕ) → List ℕ
line [] = line_feed ∷ []
line (f ∷ []) = f ++ (line_feed ∷ [])
line (f ∷ g ∷ fs) = f ++ (space ∷ line (g ∷ fs))

-- `refused`
abbrev pub refused_word : List ℕ
refused_word = 114 ∷ 101 ∷ 102 ∷ 117 ∷ 115 ∷ 101 ∷ 100 ∷ []

-- "A refusal, here and in every later program, prints only `refused`, number, place"
unfoldable pub refused_line : ℕ → Place → List ℕ
refused_line n p = line (refused_word ∷ decimal n ∷ decimal (printed_place p) ∷ [])
