-- A worked log: a lift that goes 3 counts up and 4 down past the encoder's wrap; and one that may have gone half a turn either way.
-- Assumes nothing.
use mathlib.Core.Path.{◌≡◌, refl}
use mathlib.Core.List.{List, [], ◌∷◌}
use Prim.Native.Nat.{ℕ}
use lib.IntN.{ℤ, pos, negsuc}
use Rattle.figures.specs.declared.Place.TheVariants as place
use Rattle.figures.specs.Refusals.Outcome.{refused, gives}
use Rattle.lengths.specs.Lengths.{run_of}
use Rattle.limits.specs.Limits.{suite_of}
use Rattle.figures.specs.Numbers.{lowest, tabulate}
use Rattle.encoder.specs.Log.{signed, travel, wrapped}
use Rattle.logs.specs.LogRefusals.{log_of}
use Rattle.log_words.specs.StepWord.{word_by}
use Rattle.recorded.specs.Recorded.{run_made, taken_of}

-- counts 65,535, 2 and 65,534
abbrev log : List ℕ
log = 255 ∷ 255 ∷ 2 ∷ 0 ∷ 254 ∷ 255 ∷ []

-- condition 0 from 1 on, condition 1 from 0 on, condition 2 from -1 on
abbrev limits : List ℤ
limits = pos 1 ∷ pos 0 ∷ negsuc 0 ∷ []

pub gone : (travel log 0 ≡ pos 0) × (travel log 1 ≡ pos 3) × (travel log 2 ≡ negsuc 0)
unfolding travel signed wrapped
gone = (refl, refl, refl)

pub made : run_made limits log ≡ 6 ∷ 7 ∷ 4 ∷ []
unfolding tabulate word_by travel signed wrapped
made = refl

pub taken : (taken_of log limits 3 ≡ gives 3) × (taken_of log limits 2 ≡ refused 14 place.None)
unfolding taken_of log_of suite_of run_of lowest signed wrapped
taken = (refl, refl)

-- counts 0 and 32,768
pub untold : taken_of (0 ∷ 0 ∷ 0 ∷ 128 ∷ []) limits 2 ≡ refused 17 (place.Step (record { 0 = 1 }))
unfolding taken_of log_of suite_of run_of lowest signed wrapped
untold = refl
