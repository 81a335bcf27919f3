-- Why the reading is right: if the lift moves less than half a turn a step, travel is how far it truly went, whatever wraps on the way.
-- Assumes nothing.
use Rattle.std.proofs.Common.{◌≡◌, ℕ, zero, suc, ◌+◌, ◌*◌, ◌<◌, ◌≤◌, List, get_or, ℤ, pos, ◌+ℤ◌, ◌-ℤ◌, ◌*ℤ◌, neg_ℤ, nat_abs, sym, ◌∙◌, ap₂, arith}
use lib.IntN.{+ℤ_invr}
use Rattle.encoder.specs.Log.{turn, half_turn, count_bytes, count_in, wrapped, signed, travel}
use Rattle.encoder.proofs.Sides.{up, down, same, sum, negative, multiple, size}
use Rattle.encoder.proofs.Readings.{wrapped_leads, wrapped_less, reading}

-- a position, by its count and its whole turns
abbrev pub At : ℕ → ℤ → ℤ → Type 0
At count turns position = position ≡ pos count +ℤ pos turn *ℤ turns

-- by its sides
at_sides : (c : ℕ) (w p : ℤ) → At c w p → up p + turn * down w ≡ c + turn * up w + down p
at_sides c w p e =
    rw e (omega (arith, sum (pos c) (pos turn *ℤ w), (multiple turn w).0, (multiple turn w).1))

-- a movement of less than half a turn is the signed reading of the wrapped difference
module _ (c c' : ℕ) (small : c < turn) (small' : c' < turn) (w w' p p' : ℤ) (at : At c w p) (at' : At c' w' p')
    (near : nat_abs (p' -ℤ p) < half_turn) where
  pub movement : signed (wrapped c c') ≡ p' -ℤ p
  movement =
      let d = wrapped c c' in
      let r = reading d (wrapped_less c c') in
      let n = negative p in
      let s = sum p' (neg_ℤ p) in
      same (signed d) (p' -ℤ p)
      (omega (
        arith,
        at_sides c w p at,
        at_sides c' w' p' at',
        wrapped_leads c c' small small',
        wrapped_less c c',
        r.is,
        r.not_far,
        size (p' -ℤ p),
      ))

-- two movements one after the other
onward : (a b c : ℤ) → (b -ℤ a) +ℤ (c -ℤ b) ≡ c -ℤ a
onward a b c =
    same ((b -ℤ a) +ℤ (c -ℤ b)) (c -ℤ a)
    (omega (arith, sum (b -ℤ a) (c -ℤ b), sum b (neg_ℤ a), sum c (neg_ℤ b), sum c (neg_ℤ a), negative a, negative b))

module _ (log : List ℕ) (bytes : (i : ℕ) → get_or log i 0 < 256) (position turns : ℕ → ℤ) where
  count_small : (i : ℕ) → count_in log i < turn
  count_small i = omega (arith, bytes (count_bytes * i), bytes (count_bytes * i + 1))

  -- the count at each step up to k is the true position's, whole turns left out, and each movement before k is under half a turn
  pub record Recorded (k : ℕ) : Type 0 where
    pub counts : (i : ℕ) → i ≤ k → At (count_in log i) (turns i) (position i)
    pub movements : (i : ℕ) → i < k → nat_abs (position (suc i) -ℤ position i) < half_turn

  pub true_travel : (k : ℕ) → Recorded k → travel log k ≡ position k -ℤ position 0
  unfolding travel
  true_travel zero r = sym (+ℤ_invr (position 0))
  true_travel (suc k) r =
      ap₂ ◌+ℤ◌
      (true_travel k (record { counts = λ i l. r.counts i (omega arith); movements = λ i l. r.movements i (omega arith) }))
      (movement (count_in log k) (count_in log (suc k)) (count_small k) (count_small (suc k)) (turns k) (turns (suc k)) (position k)
      (position (suc k)) (r.counts k (omega arith)) (r.counts (suc k) (omega arith)) (r.movements k (omega arith)))
      ∙ onward (position 0) (position k) (position (suc k))
