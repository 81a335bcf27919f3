-- The wrapped difference of two counts, and a difference read as a signed number.
-- Assumes nothing.
use Rattle.std.proofs.Common.{◌≡◌, ℕ, suc, ◌+◌, ◌-◌, ◌*◌, ◌%◌, ◌<◌, ◌≤◌, pos, ◌-ℤ◌, neg_ℤ, nat_abs, arith, w32, SFits, le-ltb, lt-ltb}
use mathlib.Core.Bool.{So}
use native.Mathlib.Decide.{dec_lt, ℕ_discrete}
use lib.Signed.{le_z}
use Rattle.encoder.specs.Log.{turn, half_turn, wrapped, signed}
use Rattle.encoder.proofs.Sides.{up, down, negative, size, mag_size, sides_le}

-- the wrapped difference is the one number below a turn that leads from the one count to the other
pub wrapped_is : (from to d : ℕ) → from < turn → to < turn → d < turn → (d + from) % turn ≡ to → d ≡ wrapped from to
unfolding wrapped
wrapped_is from to d f t l e = omega arith

pub wrapped_leads : (from to : ℕ) → from < turn → to < turn → (wrapped from to + from) % turn ≡ to
unfolding wrapped
wrapped_leads from to f t = omega arith

pub wrapped_less : (from to : ℕ) → wrapped from to < turn
unfolding wrapped
wrapped_less from to = omega arith

-- a difference below half a turn is read as it is, the others as a turn less
pub read_front : (d : ℕ) → d < half_turn → signed d ≡ pos d
unfolding signed
read_front d l = rw (lt-ltb d half_turn l)

pub read_back : (d : ℕ) → half_turn ≤ d → signed d ≡ neg_ℤ (pos (turn - d))
unfolding signed
read_back d l = rw (le-ltb d half_turn l)

pub read_less : (d : ℕ) → half_turn ≤ d → d < turn → pos d -ℤ pos turn ≡ signed d
read_less d b l = let less : turn - d ≡ suc (turn - suc d) = omega arith in rw (read_back d b, lt-ltb d turn l, less)

module _ (d : ℕ) (l : d < turn) where
  -- the same by its sides
  pub record Reading : Type 0 where
    pub turns : ℕ
    pub is : up (signed d) + turn * turns ≡ d + down (signed d)
    pub not_far : up (signed d) + down (signed d) ≤ half_turn
    pub front : up (signed d) < half_turn
    pub back : (d ≡ half_turn → ⊥) → down (signed d) < half_turn

  pub reading : Reading
  reading = go (dec_lt d half_turn)
    where
      go : Dec (d < half_turn) → Reading
      go (yes f) =
          let e = read_front d f in
          record {
            turns = 0;
            is = rw e (omega arith);
            not_far = rw e (omega arith);
            front = rw e (omega arith);
            back = λ _. rw e (omega arith);
          }
      go (no f) =
          let e = read_back d (omega arith) in
          let n = negative (pos (turn - d)) in
          record {
            turns = 1;
            is = rw e (omega arith);
            not_far = rw e (omega arith);
            front = rw e (omega arith);
            back = λ h. rw e (go_back h (ℕ_discrete d half_turn));
          }
        where
          go_back : (d ≡ half_turn → ⊥) → Dec (d ≡ half_turn) → down (neg_ℤ (pos (turn - d))) < half_turn
          go_back h (yes e) = absurd (h e)
          go_back h (no e) = omega (arith, negative (pos (turn - d)))

  -- from -32,768 to 32,767, and from -32,767 where the difference is not half a turn
  pub read_range : So (le_z (neg_ℤ (pos half_turn)) (signed d)) × So (le_z (signed d) (pos (half_turn - 1)))
  read_range =
      let r = reading in
      (sides_le (neg_ℤ (pos half_turn)) (signed d) (omega arith), sides_le (signed d) (pos (half_turn - 1)) (omega arith))

  pub read_even : (d ≡ half_turn → ⊥) → So (le_z (neg_ℤ (pos (half_turn - 1))) (signed d))
  read_even h = let r = reading.back h in sides_le (neg_ℤ (pos (half_turn - 1))) (signed d) (omega arith)

  pub read_size : nat_abs (signed d) ≤ half_turn
  read_size = let r = reading in omega (arith, size (signed d), r.not_far)

  pub read_fits : SFits w32 (signed d)
  read_fits = record { sfits = omega (arith, read_size, mag_size (signed d)) }
