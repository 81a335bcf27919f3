-- The test of coverage means coverage, and the witness decides it.
-- Assumes nothing.
use mathlib.Core.Path.{◌≡◌, refl, sym, ◌∙◌, ap}
use mathlib.Core.Logic.Iff
use mathlib.Core.Logic.{◌↔◌}
use mathlib.Core.Bool.{Bool, true, false, not, cond, ◌&&◌, ◌||◌, So, and-eq-true_iff, or-true}
use mathlib.Core.List.{List, [], ◌∷◌}
use Prim.Native.Nat.{ℕ, zero, suc, ◌<◌}
use native.Mathlib.Omega.{arith}
use lib.Dec.{eqb}
use lib.ListN.{length, replicate, get_or-replicate}
use Rattle.rows.specs.Rows.{Row, row_at}
use Rattle.rows.specs.Checks.{is_condition, IsRequirement}
use Rattle.signals.specs.Truth.{Reading, verdict_of, sequence_of}
use Rattle.coverage.specs.Coverage.{flip, witness_bit, Covered, some_sequence, covered}
use Rattle.coverage.specs.Coverage.{witness_bytes}
use Rattle.coverage.proofs.Theorems.{same_read, covered_iff}

-- some list of n truth values passes the test
abbrev Passing : ℕ → (List Bool → Bool) → Type 0
Passing n f = (u : List Bool) × (length u ≡ n) × So (f u)

-- one value more in front
one_more :
    (n : ℕ) (f : List Bool → Bool) → ((b : Bool) → So (some_sequence n (λ u. f (b ∷ u))) ↔ Passing n (λ u. f (b ∷ u))) →
    So (some_sequence (suc n) f) ↔ Passing (suc n) f
unfolding some_sequence
one_more n f fewer = (forth (some_sequence n (λ u. f (true ∷ u))) refl, back)
  where
    with : (b : Bool) → Passing n (λ u. f (b ∷ u)) → Passing (suc n) f
    with b h = (b ∷ h.0, ap suc h.1, h.2)

    forth : (b : Bool) → some_sequence n (λ u. f (true ∷ u)) ≡ b → So (b || some_sequence n (λ u. f (false ∷ u))) → Passing (suc n) f
    forth true e t = with true ((fewer true).0 e)
    forth false e t = with false ((fewer false).0 t)

    back : Passing (suc n) f → So (some_sequence n (λ u. f (true ∷ u)) || some_sequence n (λ u. f (false ∷ u)))
    back ([], e, t) = absurd (omega arith)
    back (true ∷ u, e, t) = rw ((fewer true).1 (u, omega arith, t))
    back (false ∷ u, e, t) = rw ((fewer false).1 (u, omega arith, t)) (or-true (some_sequence n (λ u. f (true ∷ u))))

pub some_sequence_means : (n : ℕ) (f : List Bool → Bool) → So (some_sequence n f) ↔ ((u : List Bool) × (length u ≡ n) × So (f u))
unfolding some_sequence
some_sequence_means zero f = (λ t. ([], refl, t), back)
  where
    back : Passing zero f → So (f [])
    back ([], e, t) = t
    back (x ∷ u, e, t) = absurd (omega arith)
some_sequence_means (suc n) f = one_more n f (λ b. some_sequence_means n (λ u. f (b ∷ u)))

module _ (rows : List Row) (reads : Reading) (n p : ℕ) where
  pub covered_means : So (covered rows reads n p) ↔ Covered rows reads n p
  unfolding covered
  covered_means = (
    λ t.
        let h = (and-eq-true_iff _ _).0 t in
        let u = (some_sequence_means n _).0 h.1 in
        record { held = h.0; sequence = u.0; as_long = u.1; false_by_it = u.2 },
    λ c. (and-eq-true_iff _ _).1 (c.held, (some_sequence_means n _).1 (c.sequence, c.as_long, c.false_by_it)),
  )

same_test : (a b : Bool) → So a ↔ So b → a ≡ b
same_test true b h = sym (h.0 refl)
same_test false true h = h.1 refl
same_test false false h = refl

-- what the occurrence reads of the witness's bytes
read_byte : (b : Bool) (n i : ℕ) → i < n → sequence_of (replicate n (cond b 1 0)) i ≡ b
read_byte b n i l = rw (get_or-replicate {A = ℕ} n i (cond b 1 0) 0 l) (one_or_none b)
  where
    one_or_none : (b : Bool) → not (eqb (cond b 1 0) 0) ≡ b
    one_or_none true = refl
    one_or_none false = refl

module _
    (rows : List Row) (is : IsRequirement rows) (p : ℕ) (p_in : p < length rows) (p_cond : So (is_condition (row_at rows p)))
    (n : ℕ) (some_step : 0 < n) (reads : Reading)
  where
    -- the verdict where the occurrence reads the witness decides coverage
    pub covered_by_witness :
        covered rows reads n p ≡ (verdict_of rows reads n && not (verdict_of rows (flip p (λ _. witness_bit rows p) reads) n))
    covered_by_witness =
        same_test _ _
        (Iff.trans (covered_means rows reads n p)
        (Iff.trans (covered_iff rows is p p_in p_cond n some_step reads) (Iff.symm (and-eq-true_iff _ _))))

    -- the same of the witness's bytes
    pub covered_by_bytes :
        covered rows reads n p
        ≡ (verdict_of rows reads n && not (verdict_of rows (flip p (sequence_of (witness_bytes rows p n)) reads) n))
    covered_by_bytes =
        covered_by_witness
        ∙ ap (λ (b : Bool). verdict_of rows reads n && not b)
        (sym (same_read rows is p p_in p_cond n some_step reads _ _ (read_byte (witness_bit rows p) n)))
