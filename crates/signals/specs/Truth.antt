-- The truth of a row at a step of a run, and the verdict: document 01, "Truth over a run".
-- Assumes nothing.
use Rattle.std.specs.Prelude.{Bool, true, false, not, cond, ◌&&◌, List, ℕ, zero, suc, ◌-◌, ◌^◌, ◌/◌, ◌%◌, ltb, eqb, length, get_or}
use Rattle.std.specs.Prelude.{Option}
use Rattle.limits.specs.Limits.{most_conditions}
use Rattle.figures.specs.Numbers.{lowest}
use Rattle.rows.specs.declared.Kind.{Kind}
use Rattle.rows.specs.Rows.{Row, kind, first, second, row_at}
use Rattle.rows.specs.declared.Kind.TheVariants.{False, True, Condition, Not, And, Or, StrongNext, WeakNext, Until, Release, Finally, Globally, WeakUntil, Unknown}
use Rattle.signals.specs.Signals.{Signal, every, negation, both, either, strong_next, weak_next, until, release, finally, globally, weak_until}

-- the meaning of a row of a kind, from what it reads if it is a condition and from the meanings v of the rows that it names
abbrev pub meaning : ℕ → (ℕ → Signal) → Signal → Kind → ℕ → ℕ → Signal
meaning n v own False a b = λ i. false
meaning n v own True a b = λ i. true
meaning n v own Condition a b = own
meaning n v own Not a b = negation (v a)
meaning n v own And a b = both (v a) (v b)
meaning n v own Or a b = either (v a) (v b)
meaning n v own StrongNext a b = strong_next n (v a)
meaning n v own WeakNext a b = weak_next n (v a)
meaning n v own Until a b = until n (v a) (v b)
meaning n v own Release a b = release n (v a) (v b)
meaning n v own Finally a b = finally n (v a)
meaning n v own Globally a b = globally n (v a)
meaning n v own WeakUntil a b = weak_until n (v a) (v b)
meaning n v own Unknown a b = λ i. false

abbrev pub row_meaning : ℕ → (ℕ → Signal) → Signal → Row → Signal
row_meaning n v own r = meaning n v own (kind r) (first r) (second r)

-- what each condition row reads, by row and step
abbrev pub Reading : Type 0
Reading = ℕ → Signal

-- the meaning of row r, its children looked up at most `depth` deep
unfoldable pub deep : List Row → Reading → ℕ → ℕ → ℕ → Signal
deep rows reads n zero r = λ i. false
deep rows reads n (suc depth) r = row_meaning n (deep rows reads n depth) (reads r) (row_at rows r)

-- the truth of row r at a step of n: "a row may name only lower rows", so r + 1 deep is enough
unfoldable pub truth_of : List Row → Reading → ℕ → ℕ → Signal
truth_of rows reads n r = deep rows reads n (suc r) r

-- "a step is a 32-bit word, bit c holding condition c"
unfoldable pub bit : ℕ → ℕ → Bool
bit word c = ltb c most_conditions && eqb (word / 2 ^ c % 2) 1

-- what the condition rows read of a step's word, and of a run
abbrev pub own_of : List Row → ℕ → ℕ → Bool
own_of rows word r = bit word (first (row_at rows r))

abbrev pub reads_of : List Row → List ℕ → Reading
reads_of rows run r i = own_of rows (get_or run i 0) r

-- "read by that occurrence in place of its condition while all other occurrences read the run"; p is the occurrence's row
abbrev pub flip : ℕ → Signal → Reading → Reading
flip p u reads r = cond (eqb r p) u (reads r)

-- "one byte a step": a sequence of truth values as bytes, not 0 for true
abbrev pub sequence_of : List ℕ → Signal
sequence_of sequence i = not (eqb (get_or sequence i 0) 0)

-- "The formula is the last row", "The verdict is the truth at step 0"
abbrev pub verdict_of : List Row → Reading → ℕ → Bool
verdict_of rows reads n = truth_of rows reads n (length rows - 1) 0

abbrev pub holds : List Row → List ℕ → Bool
holds rows run = verdict_of rows (reads_of rows run) (length run)

-- "bits at or above the number of conditions are 0"
abbrev pub word_sound : ℕ → ℕ → Bool
word_sound conditions word = every (most_conditions - conditions) conditions (λ c. not (bit word c))

-- 11, "a bit at or above the number of conditions": the lowest such step
abbrev pub lowest_stray : ℕ → List ℕ → Option ℕ
lowest_stray conditions run = lowest (length run) 0 (λ i. word_sound conditions (get_or run i 0))
