-- A run's words as bytes: written and read back, read and written back.
-- Assumes nothing.
use mathlib.Core.Path.{◌≡◌, refl, sym, ◌∙◌, ap, ap₂}
use mathlib.Core.List.{List, [], ◌∷◌, ◌++◌}
use Prim.Native.Nat.{ℕ, zero, suc, ◌+◌, ◌-◌, ◌*◌, ◌^◌, ◌/◌, ◌%◌, ◌≤◌, ◌<◌}
use native.Mathlib.Nat.{add-zero}
use native.Mathlib.Omega.{arith}
use lib.ListN.{length, get_or, take, drop}
use lib.Seq.{take-add, take_all}
use Rattle.figures.specs.Numbers.{tabulate}
use Rattle.laws.proofs.Parts.{rest_lent}
use Rattle.laws.proofs.Tabulated.{length_tabulate, get_d_tabulate}
use Rattle.little.specs.Little.{little, little_at}
use Rattle.layout.specs.Layout.{word_size}
use Rattle.layout.specs.Written.{words_in}
use Rattle.layout.specs.Checks.{words_of}
use Rattle.suite_laws.proofs.Parts.{Bytes}
use Rattle.suite_laws.proofs.Little.{read_past, read_there, number_back, number_small, bytes_back}
use Rattle.suite_laws.proofs.Listed.{tabulate_is}

pub length_words_in : (words : List ℕ) → length (words_in words) ≡ word_size * length words
length_words_in [] = refl
length_words_in (w ∷ words) = let h = length_words_in words in omega arith

pub length_words_of : (bytes : List ℕ) → length (words_of bytes) ≡ length bytes / word_size
length_words_of bytes = length_tabulate _ (length bytes / word_size)

-- the word that is read of a run's bytes from step i on
pub step_word :
    (bytes : List ℕ) (i : ℕ) → i < length bytes / word_size →
    little_at word_size (take (length bytes - word_size * i) (drop (word_size * i) bytes)) 0 ≡ get_or (words_of bytes) i 0
step_word bytes i l =
    ap (λ t. little_at word_size t 0) (rest_lent (word_size * i) bytes)
    ∙ read_there word_size bytes (word_size * i) 0
    ∙ ap (little_at word_size bytes) (add-zero (word_size * i))
    ∙ sym (get_d_tabulate (λ i. little_at word_size bytes (word_size * i)) (length bytes / word_size) i 0 l)

words_in_append : (s t : List ℕ) → words_in (s ++ t) ≡ words_in s ++ words_in t
words_in_append [] t = refl
words_in_append (w ∷ s) t = ap (λ (l : List ℕ). little word_size w ++ l) (words_in_append s t)

-- a run's words have 32 bits
abbrev pub Words : List ℕ → Type 0
Words run = (i : ℕ) → i < length run → get_or run i 0 < 2 ^ 32

word_at : (run : List ℕ) → Words run → (i : ℕ) → i < length run → little_at word_size (words_in run) (word_size * i) ≡ get_or run i 0
word_at [] bits i l = absurd (omega arith)
word_at (w ∷ run) bits zero l = number_back word_size w (words_in run) (bits 0 (omega arith))
word_at (w ∷ run) bits (suc i) l =
    let further : word_size * suc i ≡ word_size + word_size * i = omega arith in
    ap (little_at word_size (words_in (w ∷ run))) further
    ∙ read_past word_size (little word_size w) (words_in run) (word_size * i)
    ∙ word_at run (λ j h. bits (suc j) (omega arith)) i (omega arith)

pub words_back : (run : List ℕ) → Words run → words_of (words_in run) ≡ run
words_back run bits =
    let many : length (words_in run) / word_size ≡ length run = omega (arith, length_words_in run) in
    ap (λ (m : ℕ). tabulate m (λ i. little_at word_size (words_in run) (word_size * i))) many
    ∙ tabulate_is _ run 0 (word_at run bits)

module _ (bytes : List ℕ) (small : Bytes bytes) where
  front : (m : ℕ) → word_size * m ≤ length bytes → words_in (tabulate m (λ i. little_at word_size bytes (word_size * i))) ≡ take (word_size * m) bytes
  unfolding tabulate
  front zero l = refl
  front (suc m) l =
      let at = word_size * m in
      let next : at + word_size ≡ word_size * suc m = omega arith in
      words_in_append (tabulate m _) (little_at word_size bytes at ∷ [])
      ∙ ap₂ ◌++◌ (front m (omega arith)) (bytes_back bytes small word_size at (omega arith))
      ∙ sym (take-add at word_size bytes)
      ∙ ap (λ (k : ℕ). take k bytes) next

  pub word_bytes_back : length bytes % word_size ≡ 0 → words_in (words_of bytes) ≡ bytes
  word_bytes_back whole =
      front (length bytes / word_size) (omega arith) ∙ take_all (word_size * (length bytes / word_size)) bytes (omega arith)

  pub words_small : Words (words_of bytes)
  words_small i l =
      let size = length_words_of bytes in
      let is = get_d_tabulate (λ i. little_at word_size bytes (word_size * i)) (length bytes / word_size) i 0 (omega arith) in
      omega (arith, number_small bytes small word_size (word_size * i))
